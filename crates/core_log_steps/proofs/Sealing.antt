-- A seal comes behind the replay at each step, with the journals that are named.
use Rattle.std.proofs.Common.{◌≡◌, ℕ, ◌+◌, ◌==◌, ◌<◌, ◌≤◌, ◌⊎◌, inl, inr, ⊎_elim, false, not, if◌then◌else◌, IsTrue, refl, sym, ap, ◌∙◌, subst, arith}
use Rattle.std.proofs.lemmas.Bool.{and_parts, both_ways, cases_lt, false≢true, not-true}
use Rattle.std.specs.List.{Contains}
use Rattle.disk_definitions.specs.Regions.{sector_of}
use Rattle.disk_definitions.specs.Replay.{slots_of}
use Rattle.disk_definitions.specs.declared.region.Region.TheVariants as region
use Rattle.frang_base.specs.declared.limits.TheConstants.{LEASE_TICKS}
use Rattle.lock_definitions.specs.Lease.{HasEnded, IsInTime}
use Rattle.core_definitions.specs.Flights as core
use Rattle.core_definitions.specs.Flights.{OfRecovery}
use Rattle.core_definitions.specs.LineGuards.{is_server}
use Rattle.core_definitions.specs.Runs.{Event_, Enter, Flush, Hold, Note, Peek, PeekFails, Relock, Run, State, Step, first_state, goes_on, is_note}
use Rattle.core_definitions.specs.Servers as life
use Rattle.core_definitions.specs.Servers.{Phase, Server, is_dead, is_in_mount, is_off}
use Rattle.core_definitions.specs.Settings.{setting_of}
use Rattle.core_facts.proofs.Phases.{mounted_dead_not}
use Rattle.core_facts.proofs.Reading.{Facts, Reads, facts_of, reads_of_run}
use Rattle.core_facts.proofs.Turns.{step_turn, work_of}
use Rattle.core_journals.proofs.FlightChanges.{Was, turn_now}
use Rattle.core_journals.specs.Journals as journals
use Rattle.core_journals.specs.Journals.{HaveSameBlocks, IsLog}
use Rattle.core_laws.proofs.Along.{longer}
use Rattle.core_laws.proofs.FlightLists.{in_flights}
use Rattle.core_laws.proofs.Membership.{contains_in, in_contains}
use Rattle.core_laws.proofs.Resting.{server_no_host}
use Rattle.core_laws.specs.Leases.{LeasesEnd}
use Rattle.sector_world.specs.Kinds.{Good}
use Rattle.sector_world.specs.World.{World}
use Rattle.sector_world.specs.World as sectors
use Rattle.core_world.specs.Journals.{Journal}
use Rattle.core_world.specs.Steps.{IsReached, IsWorldOf, Leads}
use Rattle.core_world.specs.Ties.{phase_of}
use Rattle.core_readings.proofs.Arrivals.{turn_was_on}
use Rattle.core_readings.proofs.Behind.{behind_then, rescue_dead}
use Rattle.core_readings.proofs.Issuing.{issued_behind}
use Rattle.core_readings.proofs.Opening.{open_log}
use Rattle.core_readings.specs.Logs.{AreSealedBehind, IsReplayed, IsSealedBehind, log_journal}
use Rattle.core_log_steps.specs.Journals.{HaveSameLogs, journals_next}
use Rattle.core_log_steps.specs.Seals.{ReplayedStay, SealsGoOnBeside}
use Rattle.core_log_steps.specs.Steps.{AreFit, AreStanding, LogsGoOnBeside}
use Rattle.core_log_steps.proofs.Going.{step_goes}
use Rattle.core_log_steps.proofs.Over.{Falls, WasOver, over_before}
use Rattle.core_log_steps.proofs.Standing.{log_goes}

-- each step is one of a core that isn't over
going : (s v : State) → Step s v → s.core.over ≡ false
going s v (Event_ event heard makes) = not-true s.core.over makes.can.going
going s v (Enter a line can) = not-true s.core.over can.going
going s v (Hold a on may) = not-true s.core.over (and_parts (not s.core.over) (is_server a) may).0
going s v (Flush a may) = not-true s.core.over (and_parts (not s.core.over) (is_server a) may).0
going s v (Relock locks may are same wait) = not-true s.core.over may
going s v (Note line may) = not-true s.core.over (and_parts (not s.core.over) (s.core.shown == 0) (and_parts (is_note line) (goes_on s.core) may).1).0
going s v (Peek sector may) = not-true s.core.over may
going s v (PeekFails sector may) = not-true s.core.over may

-- a server of a world, as the core has it
dead_phase : (p : Phase) → IsTrue (is_dead p) → phase_of p ≡ sectors.Dead
dead_phase life.Off h = absurd (false≢true h)
dead_phase life.Up h = absurd (false≢true h)
dead_phase life.Still h = absurd (false≢true h)
dead_phase (life.Doomed fate) h = absurd (false≢true h)
dead_phase life.Dead h = refl

lease_is : (s : State) (w : World) (journal : ℕ → Journal) → IsWorldOf s w journal → (d : ℕ) → IsTrue (is_server d) → w.expiry d ≡ (s.core.servers d).expiry
lease_is s w journal t d server = t.tied.lives.expiry d ∙ ap (λ b. if b then s.core.now + LEASE_TICKS else (s.core.servers d).expiry) (server_no_host d server)

apart : (n e : ℕ) → n ≤ e → e < n → ⊥
apart n e h l = omega (arith, h, l)

module _ (ends : LeasesEnd) (stay : ReplayedStay) (s v : State) (step : Step s v) (w : World) (journal further : ℕ → Journal) (r : IsReached s) (t : IsWorldOf s w journal) (g : Good w) (fit : AreFit s)
    (stands : AreStanding s journal) (then_ : AreStanding v further) (same : HaveSameLogs further (journals_next s v step journal)) (leads : Leads w v further) (behind : AreSealedBehind s w journal) (d : ℕ)
    (server : IsTrue (is_server d)) where
  abbrev u : World
  u = leads.world

  run_then : Run (first_state (setting_of r.script r.segments r.number) r.disk) v
  run_then = longer (first_state (setting_of r.script r.segments r.number) r.disk) s v r.run step

  facts : Facts s
  facts = facts_of ends r.script r.segments r.number r.disk s r.run

  reads : Reads s.core.servers s.core.flights s.disk
  reads = reads_of_run ends r.script r.segments r.number r.disk s r.run

  -- of one that is mounted the log stands, and nothing of a seal is in flight
  mounted : IsTrue (is_in_mount (v.core.servers d).phase) → IsSealedBehind v u d (further d)
  mounted up = record {
    stands = inl ((then_.logs.stand d server).live up);
    flies = λ one slot i q low at early.
        absurd (both_ways (is_dead (v.core.servers d).phase) (mounted_dead_not (v.core.servers d).phase up)
        (rescue_dead v (facts_of ends r.script r.segments r.number r.disk v run_then) (reads_of_run ends r.script r.segments r.number r.disk v run_then) one (contains_in v.core.flights one i) q early d slot server low at));
  }

  module _ (dead : IsTrue (is_dead (v.core.servers d).phase)) where
    -- as long as its lease lasts it has nothing of a seal
    lasting : v.core.now ≤ (v.core.servers d).expiry → IsSealedBehind v u d (further d)
    lasting early = record {
      stands = inl (λ slot low. open_log v.core.now (v.core.servers d).expiry (further d).log.slots (slots_of v.disk d) early ((then_.logs.stand d server).left dead).stands slot low);
      flies = λ one slot i q low at soon. absurd (apart v.core.now (v.core.servers d).expiry early (((then_.logs.stand d server).left dead).seals one slot i q low at soon).over);
    }

    module _ (over : HasEnded v.core.now (v.core.servers d).expiry) where
      -- it was so before: its journal stays
      module _ (was : WasOver s (work_of v) d) where
        stays : log_journal (further d) ≡ log_journal (journal d)
        stays = same d server ∙ (log_goes ends s v r step journal (journals_next s v step journal) fit stands (step_goes s journal v step) d server).still was.dead was.over

        still : HaveSameBlocks (further d).log.slots (journal d).log.slots
        still slot low = ap (λ (x : journals.Journal). x.log.slots slot) stays

        late : (n m : ℕ) → n ≡ m → (e f : ℕ) → e ≡ f → f < m → e < n
        late n m i e f j h = subst (λ x. e < x) (sym i) (subst (λ x. x < m) (sym j) h)

        replayed : IsReplayed w d → IsReplayed u d
        replayed = stay w u leads.events d leads.run g (t.tied.lives.phase d ∙ dead_phase (s.core.servers d).phase was.dead)
            (late w.now s.core.now t.tied.lives.now (w.expiry d) (s.core.servers d).expiry (lease_is s w journal t d server) was.over)
            (leads.is.tied.lives.phase d ∙ dead_phase (v.core.servers d).phase dead)
            (late w.now s.core.now t.tied.lives.now (u.expiry d) (s.core.servers d).expiry (lease_is v u further leads.is d server ∙ was.same) was.over)

        before : is_off (v.core.servers d).phase ≡ false → IsSealedBehind v u d (further d)
        before =
            behind_then ends r.script r.segments r.number r.disk s v r.run step (step_turn s v step) d server (journal d) (further d) w u (stands.logs.stand d server) (then_.logs.stand d server) (behind d server)
            (λ e gone. still) (λ h o. still) (λ h o. replayed)
            (λ by sector write can e q slot low at. issued_behind ends s w journal by sector write r t g (going s v step) can e q d slot server low at)

      -- it comes to it by this step
      module _ (falls : Falls s (work_of v) d (log_journal (journal d)) (log_journal (journals_next s v step journal d))) where
        slots_same : (slot : ℕ) → (further d).log.slots slot ≡ (journal d).log.slots slot
        slots_same slot = ap (λ (x : journals.Journal). x.log.slots slot) (same d server ∙ falls.journal)

        fallen : HaveSameBlocks (slots_of s.disk d) (journal d).log.slots →
            ((one : ℕ × core.Flight) (slot : ℕ) → Contains s.core.flights one → one.1.purpose ≡ OfRecovery → slot < 256 → one.1.sector ≡ sector_of (region.Log d slot) → IsInTime one.1.stamp s.core.now → ⊥) →
            IsSealedBehind v u d (further d)
        fallen blocks none = record {
          stands = inl (λ slot low. ap (λ x. slots_of x d slot) falls.disk ∙ blocks slot low ∙ sym (slots_same slot));
          flies = λ one slot i q low at soon. absurd (flew one slot q low at soon (in_flights (Was s) v.core.flights one (contains_in v.core.flights one i) falls.flights));
        }
          where
            soon_before : (n m k : ℕ) → n ≤ m → m ≤ k → n ≤ k
            soon_before n m k h l = omega (arith, h, l)

            flew : (one : ℕ × core.Flight) (slot : ℕ) → one.1.purpose ≡ OfRecovery → slot < 256 → one.1.sector ≡ sector_of (region.Log d slot) → IsInTime one.1.stamp v.core.now → Was s one.1 → ⊥
            flew one slot q low at soon x =
                none x.old slot (in_contains s.core.flights x.old x.there) (x.same.rescue q) low (x.same.sector ∙ at)
                (soon_before s.core.now v.core.now x.old.1.stamp (turn_now s (work_of v) (step_turn s v step)) (subst (λ n. v.core.now ≤ n) (sym x.same.stamp) soon))

        up_before : IsTrue (is_in_mount (s.core.servers d).phase) → IsSealedBehind v u d (further d)
        up_before up = fallen ((stands.logs.stand d server).live up)
            (λ one slot i q low at soon. both_ways (is_dead (s.core.servers d).phase) (mounted_dead_not (s.core.servers d).phase up) (rescue_dead s facts reads one (contains_in s.core.flights one i) q soon d slot server low at))

        dead_before : IsTrue (is_dead (s.core.servers d).phase) → IsSealedBehind v u d (further d)
        dead_before gone = fallen (λ slot low. open_log s.core.now (s.core.servers d).expiry (journal d).log.slots (slots_of s.disk d) (falls.early gone) ((stands.logs.stand d server).left gone).stands slot low)
            (λ one slot i q low at soon. apart s.core.now (s.core.servers d).expiry (falls.early gone) (((stands.logs.stand d server).left gone).seals one slot i q low at soon).over)

        by_phase : (p : Phase) → (s.core.servers d).phase ≡ p → IsSealedBehind v u d (further d)
        by_phase life.Off e = absurd (both_ways (is_off (s.core.servers d).phase) (turn_was_on s (work_of v) (step_turn s v step) d dead) (ap is_off e))
        by_phase life.Up e = up_before (ap is_in_mount e)
        by_phase life.Still e = up_before (ap is_in_mount e)
        by_phase (life.Doomed fate) e = up_before (ap is_in_mount e)
        by_phase life.Dead e = dead_before (ap is_dead e)

      ended : is_off (v.core.servers d).phase ≡ false → IsSealedBehind v u d (further d)
      ended on = go (over_before s d (work_of v) journal (journals_next s v step journal) (step_goes s journal v step) dead over)
        where
          go : WasOver s (work_of v) d ⊎ Falls s (work_of v) d (log_journal (journal d)) (log_journal (journals_next s v step journal d)) → IsSealedBehind v u d (further d)
          go (inl was) = before was on
          go (inr falls) = by_phase falls (s.core.servers d).phase refl

    left : is_off (v.core.servers d).phase ≡ false → IsSealedBehind v u d (further d)
    left on = ⊎_elim (λ over. ended over on) lasting (cases_lt (v.core.servers d).expiry v.core.now)

  sealed_behind : is_off (v.core.servers d).phase ≡ false → IsSealedBehind v u d (further d)
  sealed_behind on = go (v.core.servers d).phase refl
    where
      go : (p : Phase) → (v.core.servers d).phase ≡ p → IsSealedBehind v u d (further d)
      go life.Off e = absurd (both_ways (is_off (v.core.servers d).phase) on (ap is_off e))
      go life.Up e = mounted (ap is_in_mount e)
      go life.Still e = mounted (ap is_in_mount e)
      go (life.Doomed fate) e = mounted (ap is_in_mount e)
      go life.Dead e = left (ap is_dead e) on

pub seals_go_on : LeasesEnd → ReplayedStay → LogsGoOnBeside → SealsGoOnBeside
seals_go_on ends stay logs s v step w journal further r t g fit stands same leads behind d server =
    sealed_behind ends stay s v step w journal further r t g fit stands (logs s v step journal further r fit stands same) same leads behind d server
