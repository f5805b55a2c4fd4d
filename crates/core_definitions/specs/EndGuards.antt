-- When dead servers are recovered, the host's lines are answered, and the end comes: Recover, Load, Look, Finish, HostLine, Close, Read, Show, End.
use Rattle.std.specs.Prelude.{◌≡◌, ℕ, ◌==◌, Bool, true, false, not, ◌&&◌, ◌||◌, IsTrue, Option, Some, None, is_some, List, [], ◌∷◌, length, nat_lt}
use Rattle.std.specs.List.{list_all, list_any}
use Rattle.std.specs.Option.{IsSome}
use Rattle.frang_base.specs.Functions.{member}
use Rattle.lock_definitions.specs.declared.claim.LogHold.{LogHold}
use Rattle.lock_definitions.specs.Locks.{log_hold}
use Rattle.tree_definitions.specs.Numbers.{below}
use Rattle.core_definitions.specs.Logs.{is_none, unread}
use Rattle.core_definitions.specs.Recoveries.{Recovery, is_recovered, to_look}
use Rattle.core_definitions.specs.Scripts.{earlier_answered, have_passed, host_party}
use Rattle.core_definitions.specs.Servers.{Phase, is_dead, is_doomed, is_off, is_still, is_up}
use Rattle.core_definitions.specs.Cores.{Core, is_all_answered, next_of, server_numbers, parties, tree_lines, tree_needs}
use Rattle.core_definitions.specs.LineGuards.{is_line, is_server}
use Rattle.core_definitions.specs.WriteGuards.{is_worker}

-- ---- Recover

-- nobody has taken the log, or the taker's expiry is less than now
abbrev pub is_hold_over : ℕ → Option LogHold → Bool
is_hold_over now None = true
is_hold_over now (Some hold) = nat_lt hold.expiry now

-- the first two conditions: Dead, and now above its expiry; its log isn't held by a taker whose expiry is at least now
abbrev pub is_to_recover : Core → ℕ → Bool
is_to_recover c dead = is_server dead && is_dead (c.servers dead).phase && nat_lt (c.servers dead).expiry c.now && is_hold_over c.now (log_hold c.locks dead)

-- a server that is Up or the host has a recovery
abbrev pub is_recovering : Core → ℕ → Bool
is_recovering c by = is_worker c by && is_some (c.servers by).recovery

abbrev pub none_up : Core → Bool
none_up c = not (list_any (λ a. is_up (c.servers a).phase) server_numbers)

-- Up, or it is the host and no server is Up
abbrev pub may_take : Core → ℕ → Bool
may_take c by = (is_server by && is_up (c.servers by).phase) || (by == host_party && none_up c)

-- dead is Dead, and now is above its expiry, its log isn't held by a taker whose expiry is at least now; no lower-numbered server meets these; no recovery is under way by a server that
-- is Up or by the host; by is Up, or it is the host and no server is Up
pub record CanRecover (c : Core) (dead by : ℕ) : Type 0 where
  pub waits : IsTrue (is_to_recover c dead)
  pub least : IsTrue (not (list_any (is_to_recover c) (below dead)))
  pub none : IsTrue (not (list_any (is_recovering c) parties))
  pub taker : IsTrue (may_take c by)

abbrev pub may_recover : Core → ℕ → ℕ → Bool
may_recover c dead by =
    is_to_recover c dead && not (list_any (is_to_recover c) (below dead)) && not (list_any (is_recovering c) parties) && may_take c by

-- ---- Load, Look, Finish

-- it has a recovery, and that passes
abbrev pub is_recovery : (Recovery → Bool) → Option Recovery → Bool
is_recovery passes None = false
is_recovery passes (Some recovery) = passes recovery

abbrev pub wants_slot : Core → ℕ → Recovery → Bool
wants_slot c slot recovery = member slot (unread c.setting.logs recovery.slots)

abbrev pub wants_look : Core → ℕ → Recovery → Bool
wants_look c sector recovery = member sector (to_look c.setting.logs c.setting.segments recovery)

abbrev pub is_through : Core → Recovery → Bool
is_through c recovery = is_recovered c.setting.logs c.setting.segments recovery

-- by is Up or the host, its recovery under way wants the slot
pub record CanLoad (c : Core) (by slot : ℕ) : Type 0 where
  pub who : IsTrue (is_worker c by)
  pub wanted : IsTrue (is_recovery (wants_slot c slot) (c.servers by).recovery)

-- by is Up or the host, the log is read, a record names the sector, it isn't looked at yet
pub record CanLook (c : Core) (by sector : ℕ) : Type 0 where
  pub who : IsTrue (is_worker c by)
  pub wanted : IsTrue (is_recovery (wants_look c sector) (c.servers by).recovery)

-- by is Up or the host, all wanted writes of its recovery are acknowledged, the seal too
pub record CanFinish (c : Core) (by : ℕ) : Type 0 where
  pub who : IsTrue (is_worker c by)
  pub ended : IsTrue (is_recovery (is_through c) (c.servers by).recovery)

abbrev pub may_finish : Core → ℕ → Bool
may_finish c by = is_worker c by && is_recovery (is_through c) (c.servers by).recovery

-- ---- the host's lines

-- while any server is held, the host answers nothing, and neither reads nor says the tree
abbrev pub none_paused : Core → Bool
none_paused c = not (list_any c.paused server_numbers)

-- every earlier line is answered, it is the next host line, and for `tick n` its n ticks have passed
pub record CanHost (c : Core) (number : ℕ) : Type 0 where
  pub earlier : IsTrue (earlier_answered c.setting.script c.answered number)
  pub next : IsTrue (is_line (λ line. line.number == number) (next_of c host_party))
  pub ticks : IsTrue (is_line (λ line. have_passed c.ticks line.what) (next_of c host_party))
  pub free : IsTrue (none_paused c)

abbrev pub may_host : Core → ℕ → Bool
may_host c number =
    earlier_answered c.setting.script c.answered number && is_line (λ line. line.number == number) (next_of c host_party)
    && is_line (λ line. have_passed c.ticks line.what) (next_of c host_party) && none_paused c

-- ---- the end

-- Still, Doomed or Dead
abbrev pub is_unsettled : Phase → Bool
is_unsettled phase = is_still phase || is_doomed phase || is_dead phase

abbrev pub none_unsettled : Core → Bool
none_unsettled c = not (list_any (λ a. is_unsettled (c.servers a).phase) server_numbers)

-- every line answered, no server Still, Doomed or Dead, this one Up; a server that is held isn't closed
pub record CanClose (c : Core) (a : ℕ) : Type 0 where
  pub server : IsTrue (is_server a)
  pub answered : IsTrue (is_all_answered c)
  pub settled : IsTrue (none_unsettled c)
  pub up : IsTrue (is_up (c.servers a).phase)
  pub free : IsTrue (not (c.paused a))

abbrev pub may_close : Core → ℕ → Bool
may_close c a = is_server a && is_all_answered c && none_unsettled c && is_up (c.servers a).phase && not (c.paused a)

abbrev pub all_off : Core → Bool
all_off c = list_all (λ a. is_off (c.servers a).phase) server_numbers

-- every line answered, all servers Off, nothing in flight
abbrev pub is_at_rest : Core → Bool
is_at_rest c = is_all_answered c && all_off c && is_none c.flights && none_paused c

-- the same, and the host needs the sector for the tree
pub record CanRead (c : Core) (sector : ℕ) : Type 0 where
  pub answered : IsTrue (is_all_answered c)
  pub off : IsTrue (all_off c)
  pub landed : IsTrue (is_none c.flights)
  pub free : IsTrue (none_paused c)
  pub needed : IsTrue (member sector (tree_needs c))

-- the tree is read
pub record IsTreeRead (c : Core) : Type 0 where
  pub answered : IsTrue (is_all_answered c)
  pub off : IsTrue (all_off c)
  pub landed : IsTrue (is_none c.flights)
  pub free : IsTrue (none_paused c)
  pub whole : IsTrue (is_none (tree_needs c))

abbrev pub is_tree_read : Core → Bool
is_tree_read c = is_at_rest c && is_none (tree_needs c)

-- the tree is read, this is its next line
pub record CanShow (c : Core) (place : ℕ) : Type 0 where
  pub read : IsTreeRead c
  pub next : place ≡ c.shown
  pub there : IsTrue (nat_lt place (length (tree_lines c)))

-- every tree line is said
pub record CanEnd (c : Core) : Type 0 where
  pub read : IsTreeRead c
  pub said : c.shown ≡ length (tree_lines c)
