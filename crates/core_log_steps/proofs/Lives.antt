-- A log where its server's life goes on as it was, and nothing of the log comes or is issued.
use Rattle.std.proofs.Common.{◌≡◌, ℕ, inl, inr, Bool, true, false, ◌==◌, if◌then◌else◌, IsTrue, List, refl, sym, ap, ◌∙◌, subst}
use Rattle.frang_base.specs.Functions.{put}
use Rattle.frang_base.specs.declared.script.Line.{Line}
use Rattle.frang_base.proofs.Basics.{at_put}
use Rattle.sector_bytes.specs.Sectors.{Sectors}
use Rattle.core_definitions.specs.Flights.{Flights}
use Rattle.core_definitions.specs.LineEffects.{failed_by}
use Rattle.core_definitions.specs.LineGuards.{is_server}
use Rattle.core_definitions.specs.Runs.{Run, State, Step, first_state}
use Rattle.core_definitions.specs.Scripts.{host_party}
use Rattle.core_definitions.specs.Servers.{Phase, Server, is_dead, is_in_mount, is_off}
use Rattle.core_definitions.specs.Settings.{setting_of}
use Rattle.core_facts.proofs.Phases.{mounted_dead_not}
use Rattle.core_facts.proofs.Turns.{Turn, failed_at, step_turn, work_of}
use Rattle.core_journals.proofs.Changing.{Change, Stands, turn_recovery}
use Rattle.core_journals.proofs.FlightChanges.{Flew, Was, turn_now}
use Rattle.core_journals.proofs.Quiet.{quiet_log}
use Rattle.core_journals.proofs.Standing.{before_of}
use Rattle.core_journals.proofs.Turning.{Before, mounted_off_not}
use Rattle.core_journals.specs.Journals.{IsJournal, IsLeft, IsLog, IsLogOf, Journal}
use Rattle.core_journals.specs.Logs.{IsFit}
use Rattle.core_laws.proofs.FlightLists.{AllFlights, in_flights}
use Rattle.core_laws.proofs.Membership.{contains_in}
use Rattle.core_laws.specs.Leases.{LeasesEnd}
use Rattle.core_lives.proofs.Alike.{IsPhaseAs, IsServerAs}

-- ---- a server's life

-- what its log reads of it is the same
pub record IsLifeAs (new old : Server) : Type 0 where
  pub phase : IsPhaseAs new.phase old.phase
  pub expiry : new.expiry ≡ old.expiry
  pub ring : new.ring ≡ old.ring

pub same_life : (server : Server) → IsLifeAs server server
same_life server = record { phase = inl refl; expiry = refl; ring = refl }

pub life_as : (new old : Server) → IsServerAs new old → IsLifeAs new old
life_as new old same = record { phase = same.phase; expiry = same.expiry; ring = same.ring }

pub put_life : (servers : ℕ → Server) (c : ℕ) (new : Server) → IsLifeAs new (servers c) → (a : ℕ) → IsLifeAs (put servers c new a) (servers a)
put_life servers c new here a = at_put (λ x. IsLifeAs x (servers a)) servers c new a (λ e. subst (λ n. IsLifeAs new (servers n)) (sym e) here) (λ n. same_life (servers a))

-- a failed call is counted
pub failed_life : (servers : ℕ → Server) (c a : ℕ) → IsLifeAs (failed_at servers c a) (servers a)
failed_life servers c a = go (c == host_party)
  where
    go : (b : Bool) → IsLifeAs ((if b then servers else put servers c (failed_by (servers c))) a) (servers a)
    go true = same_life (servers a)
    go false = put_life servers c (failed_by (servers c)) (record { phase = inl refl; expiry = refl; ring = refl }) a

-- ---- tests of its phase

pub off_as : (new old : Phase) → IsPhaseAs new old → is_off new ≡ is_off old
off_as new old (inl e) = ap is_off e
off_as new old (inr m) = mounted_off_not new m.0 ∙ sym (mounted_off_not old m.1)

pub mount_as : (new old : Phase) → IsPhaseAs new old → is_in_mount new ≡ is_in_mount old
mount_as new old (inl e) = ap is_in_mount e
mount_as new old (inr m) = m.0 ∙ sym m.1

pub dead_as : (new old : Phase) → IsPhaseAs new old → is_dead new ≡ is_dead old
dead_as new old (inl e) = ap is_dead e
dead_as new old (inr m) = mounted_dead_not new m.0 ∙ sym (mounted_dead_not old m.1)

-- ---- its log

log_as : (new old : Server) → IsLifeAs new old → (servers : ℕ → Server) (now : ℕ) (flights : Flights) (disk : Sectors) (a : ℕ) (j : Journal) → IsLogOf old servers now flights disk a j →
    IsLogOf new servers now flights disk a j
log_as new old same servers now flights disk a j log = record {
  rest = λ off. log.rest (sym (off_as new.phase old.phase same.phase) ∙ off);
  journal = λ on. subst (λ r. IsJournal r now flights a j) (sym same.ring) (log.journal (sym (off_as new.phase old.phase same.phase) ∙ on));
  live = λ up. log.live (sym (mount_as new.phase old.phase same.phase) ∙ up);
  left = λ dead. subst (λ x. IsLeft x servers now flights disk a j.log.slots) (sym same.expiry) (log.left (sym (dead_as new.phase old.phase same.phase) ∙ dead));
}

-- so it stands behind a step that leaves the disk and the server's life, and by which nothing new is in flight
module _ (ends : LeasesEnd) (script : List Line) (segments number : ℕ) (disk : Sectors) (s v : State) (run : Run (first_state (setting_of script segments number) disk) s) (step : Step s v) (a : ℕ)
    (server : IsTrue (is_server a)) (fit : IsFit s a) (j : Journal) (log : IsLog s a j) where
  known : Before s a
  known = before_of ends script segments number disk s run a server fit

  turn : Turn s (work_of v)
  turn = step_turn s v step

  pub log_stays : ((b : ℕ) → IsLifeAs (v.core.servers b) (s.core.servers b)) → AllFlights (Was s) v.core.flights → v.disk ≡ s.disk → IsLog v a j
  log_stays lives were same =
      subst (λ d. IsLogOf (v.core.servers a) v.core.servers v.core.now v.core.flights d a j) (sym same)
      (log_as (v.core.servers a) (s.core.servers a) (lives a) v.core.servers v.core.now v.core.flights s.disk a j
      (quiet_log s known.facts known.reads known.over a server j log fit.ring v.core.servers v.core.now (turn_now s (work_of v) turn) v.core.flights s.disk Stands tt
      (λ one n i by of. in_flights (Was s) v.core.flights one (contains_in v.core.flights one i) were) (λ one i q. Flew (in_flights (Was s) v.core.flights one (contains_in v.core.flights one i) were))
      (λ by r who has. subst (λ d. Change s d by r) same (turn_recovery s (work_of v) turn known.facts.safe by who r has))))
