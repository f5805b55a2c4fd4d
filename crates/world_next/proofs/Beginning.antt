-- A recovery that begins: by whom doesn't matter, so one that may take a log is enough to ask about.
use Rattle.std.proofs.Common.{◌≡◌, ◌<◌, ℕ, Bool, true, false, ◌&&◌, ◌||◌, ◌==◌, not, nat_lt, IsTrue, ap, ◌∙◌, sym}
use Rattle.std.specs.List.{list_any}
use Rattle.std.proofs.lemmas.Bool.{false≢true, ltb-true}
use Rattle.frang_base.specs.declared.limits.TheConstants.{SERVERS}
use Rattle.lock_definitions.specs.Locks.{log_hold}
use Rattle.core_definitions.specs.Cores.{Core, server_numbers}
use Rattle.core_definitions.specs.EndGuards.{CanRecover, is_hold_over, is_to_recover, may_recover, may_take, none_up}
use Rattle.core_definitions.specs.LineGuards.{is_server}
use Rattle.core_definitions.specs.Scripts.{host_party}
use Rattle.core_definitions.specs.Servers.{is_dead, is_up}
use Rattle.core_laws.proofs.Guarding.{of_4, recover_may}

module _ (c : Core) where
  -- a server that is up may
  pub up_takes : (by : ℕ) → (is_server by && is_up (c.servers by).phase) ≡ true → IsTrue (may_take c by)
  up_takes by up = ap (λ b. b || (by == host_party && none_up c)) up

  -- and the host where none is
  pub host_takes : list_any (λ a. is_up (c.servers a).phase) server_numbers ≡ false → IsTrue (may_take c host_party)
  host_takes none = ap not none

  -- who is to be recovered is a server
  waits_server : (dead : ℕ) → IsTrue (is_to_recover c dead) → IsTrue (is_server dead)
  waits_server dead waits = (of_4 (is_server dead) (is_dead (c.servers dead).phase) (nat_lt (c.servers dead).expiry c.now) (is_hold_over c.now (log_hold c.locks dead)) waits).p0

  pub no_recovery_begins : (by : ℕ) → IsTrue (may_take c by) → ((dead : ℕ) → dead < SERVERS → may_recover c dead by ≡ false) → (dead other : ℕ) → CanRecover c dead other → ⊥
  no_recovery_begins by takes none dead other can =
      false≢true (sym (none dead (ltb-true dead SERVERS (waits_server dead can.waits))) ∙ recover_may c dead by (record { waits = can.waits; least = can.least; none = can.none; taker = takes }))

-- of two tests one fails
pub not_up : (server up : Bool) → server ≡ true → (server && up) ≡ false → up ≡ false
not_up true up is down = down
not_up false up is down = absurd (false≢true is)
