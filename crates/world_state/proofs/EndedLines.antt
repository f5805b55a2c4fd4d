-- A party whose line under way has ended, with what the answer does, and the ring of a mount.
use Rattle.std.proofs.Common.{◌≡◌, ℕ, Option, Some, None, IfOk, IsSomeAnd, Result, Ok, Err, is_some, sym, ap, ◌∙◌, subst}
use Rattle.std.proofs.lemmas.Bool.{false≢true}
use Rattle.frang_base.specs.declared.fault.NoMemory.{NoMemory}
use Rattle.frang_base.specs.Functions.{member}
use Rattle.sector_bytes.specs.SectorMaps.{value_at}
use Rattle.ring_definitions.specs.Rings.{ring_at}
use Rattle.core_definitions.specs.Lines.{Under}
use Rattle.core_definitions.specs.Logs.{end_of}
use Rattle.core_definitions.specs.Servers.{Server}
use Rattle.core_definitions.specs.Settings.{disk_logs}
use Rattle.log_slots.specs.Reading.{log_rules, read_end}
use Rattle.recovery_demon.specs.Recovering.{Recovering}
use Rattle.server_core.specs.States as server
use Rattle.wal_ring.specs.SpaciousRings.{SpaciousRing}
use Rattle.world_parties.specs.States.{AreAmong, AreIssuedAmong, PartyKeeps, issued_in, recovery_in, server_of}
use Rattle.world_parties.specs.declared.party.Party.{Party}
use Rattle.world_state.specs.AnswerEffects.{recovery_left}
use Rattle.world_state.specs.declared.answering.Effect.{Effect}
use Rattle.world_state.specs.declared.answering.Effect.TheVariants.{Nothing, OwesNothing, Mounts, Unmounts, Arms, Stalls}

-- nothing that is issued is new
left_among : (effect : Effect) (before : Option Recovering) → AreIssuedAmong (issued_in (recovery_left effect before)) (issued_in before)
left_among Nothing before sector there = there
left_among OwesNothing before sector there = there
left_among Mounts before sector there = absurd (false≢true there)
left_among Unmounts before sector there = absurd (false≢true there)
left_among (Arms arming) before sector there = there
left_among Stalls before sector there = there

-- with what it was, what the effect made of it, and the server whose line is gone then
module _ (was made : Party) (ended : server.State) (gone : ended.server ≡ record made.server.server { under = None }) where
  abbrev pub left : Party
  left = record { server = ended; recovery = made.recovery; plan = None; oldest = None }

  pub server_ended : (after : Server) → server_of made ≡ after → server_of left ≡ record after { under = None }
  server_ended after is = (λ i. record (gone i) { recovery = recovery_in made.recovery }) ∙ ap (λ (s : Server). record s { under = None }) is

  pub keeps_ended : (effect : Effect) → made.recovery ≡ recovery_left effect was.recovery → AreAmong made.server.flying was.server.flying → ended.flying ≡ made.server.flying → PartyKeeps was left
  keeps_ended effect recovery flags flying = record {
    flags = λ sector there. flags sector (ap (member sector) (sym flying) ∙ there);
    issued = λ sector there. left_among effect was.recovery sector (ap (λ (o : Option Recovering). is_some (value_at (issued_in o) sector)) (sym recovery) ∙ there);
    plan = tt;
    oldest = tt;
  }

-- ---- the ring of a mount

-- it goes on behind the log that the line under way has read
pub ring_found : (made : Result SpaciousRing NoMemory) (end : ℕ) (o : Option Under) (under : Under) → IfOk made (λ ring. ring.ring ≡ ring_at end) → o ≡ Some under → end ≡ read_end under.slots
    → IfOk made (λ ring. IsSomeAnd o (λ u. ring.ring ≡ ring_at (end_of disk_logs u.slots)))
unfolding read_end log_rules
ring_found (Err e) end o under is there ends = tt
ring_found (Ok ring) end o under is there ends =
    let P : Option Under → Type 0 = λ o. IsSomeAnd o (λ u. ring.ring ≡ ring_at (end_of disk_logs u.slots)) in
    subst P (sym there) (is ∙ ap ring_at ends)
