-- A server's log after a step in which no write of the log arrives, by the life that its server had before.
use Rattle.std.proofs.Common.{◌≡◌, ℕ, ◌≤◌, ◌<◌, ◌^◌, Bool, true, false, IsTrue, Some, refl, sym, ◌∙◌, subst}
use Rattle.std.proofs.Math.Nat.{le_trans}
use Rattle.std.proofs.lemmas.Bool.{both_ways}
use Rattle.std.specs.List.{Contains}
use Rattle.disk_definitions.proofs.SameLogs.{SameSlots, log_end_same}
use Rattle.disk_definitions.specs.Logs.{Slots, log_end}
use Rattle.disk_definitions.specs.Replay.{slots_of}
use Rattle.lock_definitions.specs.Lease.{HasEnded, IsInTime}
use Rattle.ring_definitions.specs.Rings.{Ring, last}
use Rattle.ring_definitions.specs.Sealing.{IsWithinFlight}
use Rattle.sector_bytes.specs.Sectors.{Sectors}
use Rattle.core_definitions.specs.Flights.{Flight, Flights, OfLog, OfRecovery}
use Rattle.core_definitions.specs.LineGuards.{is_server}
use Rattle.core_definitions.specs.Recoveries.{Recovery}
use Rattle.core_definitions.specs.Runs.{State}
use Rattle.core_definitions.specs.Servers.{Server, is_dead, is_off}
use Rattle.core_definitions.specs.WriteGuards.{is_worker}
use Rattle.core_facts.proofs.Phases.{mounted_dead_not, off_dead_not}
use Rattle.core_facts.proofs.Reading.{Facts, Reads}
use Rattle.core_laws.proofs.Membership.{in_contains}
use Rattle.core_journals.specs.Journals.{IsAtRest, IsJournal, IsLog, IsLogOf, IsSent, Journal, is_working}
use Rattle.core_journals.proofs.Changing.{Change, DiskChange}
use Rattle.core_journals.proofs.FlightChanges.{FlightFrom, Was}
use Rattle.core_journals.proofs.JournalSteps.{end_small, flight_bound}
use Rattle.core_journals.proofs.Leaving.{reads_on, seals_on, stands_on}
use Rattle.core_journals.proofs.LogBlocks.{same_back, same_on, sealed_same}
use Rattle.core_journals.proofs.Touching.{Beside, IsQuiet, Seals, Touch, touch}

pub dead_off_not : (s : Server) → IsTrue (is_dead s.phase) → is_off s.phase ≡ false
dead_off_not s dead = go (is_off s.phase) refl
  where
    go : (b : Bool) → is_off s.phase ≡ b → b ≡ false
    go true e = absurd (both_ways (is_dead s.phase) (off_dead_not s.phase e) dead)
    go false e = refl

pub rest_same : (a b : Slots) → SameSlots a b → IsAtRest a → IsAtRest b
rest_same a b same r = record { low = subst (λ n. 255 ≤ n) (log_end_same a b same) r.low; sealed = sealed_same a b same r.sealed }

-- what is known beside the facts of a moment: the lease of who is recovered is over
abbrev pub AreOver : State → Type 0
AreOver s = (by : ℕ) (recovery : Recovery) → IsTrue (is_worker s.core by) → (s.core.servers by).recovery ≡ Some recovery → HasEnded s.core.now (s.core.servers recovery.dead).expiry

-- the bounds of a dead server's log
pub record Bounds (slots : Slots) : Type 0 where
  pub low : 255 ≤ log_end slots
  pub high : log_end slots < 2 ^ 62
  pub within : IsWithinFlight slots

pub bounds_of : (ring : Ring) (now : ℕ) (flights : Flights) (a : ℕ) (j : Journal) → IsJournal ring now flights a j → last ring < 2 ^ 62 → Bounds j.log.slots
bounds_of ring now flights a j is small = record {
  low = is.low;
  high = end_small j.before j.log is.good (subst (λ r. last r < 2 ^ 62) (sym is.ring_is) small);
  within = flight_bound j.before j.log is.good;
}

module _ (s : State) (k : Facts s) (m : Reads s.core.servers s.core.flights s.disk) (over : AreOver s) (a : ℕ) (server : IsTrue (is_server a)) (j : Journal) (log : IsLog s a j)
    (small : is_off (s.core.servers a).phase ≡ false → last (s.core.servers a).ring < 2 ^ 62)
    (servers : ℕ → Server) (later : ℕ) (more : s.core.now ≤ later) (flights : Flights) (disk : Sectors) (change : DiskChange s disk) (quiet : IsQuiet s a disk change)
    (logs : (one : ℕ × Flight) (number : ℕ) → Contains flights one → one.1.server ≡ a → one.1.purpose ≡ OfLog number → Was s one.1)
    (rescues : (one : ℕ × Flight) → Contains flights one → one.1.purpose ≡ OfRecovery → FlightFrom s one.1)
    (reads : (by : ℕ) (r : Recovery) → IsTrue (is_working servers by) → (servers by).recovery ≡ Some r → Change s disk by r) where
  abbrev old : Server
  old = s.core.servers a

  touched : Touch s a j disk
  touched = touch s k m a server j log disk change quiet

  -- where the server isn't dead nothing is written
  untouched : is_dead old.phase ≡ false → SameSlots (slots_of disk a) (slots_of s.disk a)
  untouched alive = go touched
    where
      go : Touch s a j disk → SameSlots (slots_of disk a) (slots_of s.disk a)
      go (Beside same) = same
      go (Seals dead f ar q e w is) = absurd (both_ways (is_dead old.phase) alive dead)

  sent_on : IsJournal old.ring s.core.now s.core.flights a j → (one : ℕ × Flight) (number : ℕ) → Contains flights one → one.1.server ≡ a → one.1.purpose ≡ OfLog number → IsInTime one.1.stamp later →
      IsSent j.log.flying number one.1.block
  sent_on is one number i by of early =
      subst (IsSent j.log.flying number) w.same.block
      (is.sent w.old number (in_contains s.core.flights w.old w.there) (w.same.server ∙ by) (w.same.log number of) (le_trans more (subst (λ n. later ≤ n) (sym w.same.stamp) early)))
    where
      w : Was s one.1
      w = logs one number i by of

  pub quiet_log : IsLogOf old servers later flights disk a j
  quiet_log = record {
    rest = λ off. rest_same (slots_of s.disk a) (slots_of disk a) (same_back (slots_of disk a) (slots_of s.disk a) (untouched (off_dead_not old.phase off))) (log.rest off);
    journal = λ on. let is = log.journal on in record { good = is.good; ring_is = is.ring_is; low = is.low; sent = sent_on is };
    live = λ up. same_on (slots_of disk a) (slots_of s.disk a) j.log.slots (untouched (mounted_dead_not old.phase up)) (log.live up);
    left = λ dead.
        let b : Bounds j.log.slots = bounds_of old.ring s.core.now s.core.flights a j (log.journal (dead_off_not old dead)) (small (dead_off_not old dead)) in
        record {
          stands = stands_on s k m a server j log disk touched b.low b.high b.within dead later more;
          seals = λ one slot i q low at early. seals_on s k m a server j log disk touched b.low b.high b.within dead over later more one.1 (rescues one i q) q slot low at early;
          reads = λ by r who has of read. reads_on s k m a server j log disk touched b.low b.high b.within dead by r (reads by r who has) of read;
        };
  }
