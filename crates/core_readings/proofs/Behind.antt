-- That a seal comes behind the replay stays so at each step: what stands of it more was in flight, and what is issued of it comes behind the replay.
use Rattle.std.proofs.Common.{◌≡◌, ℕ, ◌%◌, ◌==◌, ◌<◌, ◌≤◌, ◌⊎◌, inl, inr, ⊎_elim, true, false, IsTrue, Some, List, refl, sym, ap, ◌∙◌, subst, arith}
use Rattle.std.proofs.lemmas.Bool.{both_ways, cases_eq, cases_lt, false≢true}
use Rattle.std.proofs.lemmas.Bool.Decides.{nat_tests}
use Rattle.std.specs.List.{Contains}
use Rattle.frang_base.specs.declared.script.Line.{Line}
use Rattle.frang_outside.specs.Disk.{written}
use Rattle.lock_definitions.specs.Lease.{HasEnded, IsInTime}
use Rattle.disk_definitions.proofs.Listed.{Among}
use Rattle.disk_definitions.proofs.SameLogs.{SameSlots}
use Rattle.disk_definitions.specs.Regions.{sector_of}
use Rattle.disk_definitions.specs.Replay.{slots_of}
use Rattle.disk_definitions.specs.declared.region.Region.TheVariants as region
use Rattle.sector_bytes.specs.Sectors.{Sectors}
use Rattle.sector_bytes.specs.SectorMaps.{value_at}
use Rattle.core_definitions.specs.Cores.{writes}
use Rattle.core_definitions.specs.Flights.{Flight, InPlace, OfLog, OfRecovery, Purpose}
use Rattle.core_definitions.specs.LineGuards.{is_server}
use Rattle.core_definitions.specs.Logs.{log_sector}
use Rattle.core_definitions.specs.Runs.{Run, State, Step, first_state}
use Rattle.core_definitions.specs.Scripts.{host_party}
use Rattle.core_definitions.specs.Servers.{Dead, Doomed, Off, Phase, Still, Up, is_dead, is_in_mount, is_off}
use Rattle.core_definitions.specs.Settings.{disk_logs, setting_of}
use Rattle.core_definitions.specs.WriteGuards.{CanIssue}
use Rattle.core_definitions.specs.Writes.{Write}
use Rattle.core_facts.proofs.Phases.{mounted_dead_not}
use Rattle.core_facts.proofs.Reading.{Arriving, Facts, Placed, PlacedFor, Reads, facts_of, flight_at, low_high, reads_of_run, same_log, server_low, slot_low}
use Rattle.core_facts.proofs.Staling.{within_leases}
use Rattle.core_facts.proofs.Turns.{Turn, step_turn, work_of}
use Rattle.core_laws.proofs.Along.{longer}
use Rattle.core_laws.proofs.FlightLists.{in_flights}
use Rattle.core_laws.proofs.Membership.{contains_in, in_contains}
use Rattle.core_laws.proofs.Resting.{server_no_host}
use Rattle.core_laws.specs.Leases.{LeasesEnd}
use Rattle.core_journals.proofs.FlightChanges.{FlightFrom, Flew, New, turn_flights, turn_now}
use Rattle.core_journals.proofs.LogBlocks.{written_beside}
use Rattle.core_journals.specs.Journals.{HaveSameBlocks, IsLog}
use Rattle.sector_world.specs.World.{World}
use Rattle.core_world.specs.Journals.{Journal}
use Rattle.core_readings.specs.Logs.{IsReplayed, IsSealedBehind, SealsBeginBehind, SealsStayBehind, log_journal}
use Rattle.core_readings.proofs.Arrivals.{Came, turn_comes, turn_was_on}
use Rattle.core_readings.proofs.Issuing.{issued_behind}
use Rattle.core_readings.proofs.Opening.{open_log}

-- a write of a recovery that is in time and lies in a server's log is on behalf of this one, and so it is dead
pub rescue_dead : (s : State) → Facts s → Reads s.core.servers s.core.flights s.disk → (one : ℕ × Flight) → Among one s.core.flights → one.1.purpose ≡ OfRecovery → s.core.now ≤ one.1.stamp → (d slot : ℕ) →
    IsTrue (is_server d) → slot < 256 → one.1.sector ≡ sector_of (region.Log d slot) → IsTrue (is_dead (s.core.servers d).phase)
rescue_dead s k m one i q early d slot server low at = go (subst (λ p. PlacedFor p one.1) q ar.placed)
  where
    ar : Arriving s one.1
    ar = k.arriving one i early (in_flights Placed s.core.flights one i m.placed)

    go : PlacedFor OfRecovery one.1 → IsTrue (is_dead (s.core.servers d).phase)
    go (inl high) = absurd (low_high one.1.sector (sector_of (region.Log d slot)) high (slot_low d slot (server_low d server) low) at)
    go (inr x) = subst (λ n. IsTrue (is_dead (s.core.servers n).phase)) (same_log one.1.behalf x.0 d slot low (sym x.1 ∙ at)).0 (ar.for_dead q)

-- where a write comes a log is as it was, the write is its server's own, or it is a recovery's and lies in the log
pub data Comes (disk : Sectors) (d : ℕ) (f : Flight) : Type 0 where
  Apart : SameSlots (slots_of (written disk f.sector f.block) d) (slots_of disk d) → Comes disk d f
  Own : (number : ℕ) → f.purpose ≡ OfLog number → f.server ≡ d → Comes disk d f
  Rescues : f.purpose ≡ OfRecovery → (slot : ℕ) → slot < 256 → f.sector ≡ sector_of (region.Log d slot) → Comes disk d f

pub comes : (s : State) → Facts s → Reads s.core.servers s.core.flights s.disk → (one : ℕ × Flight) → Among one s.core.flights → s.core.now ≤ one.1.stamp → (d : ℕ) → IsTrue (is_server d) → Comes s.disk d one.1
comes s k m one i early d server = go one.1.purpose refl ar.placed
  where
    ar : Arriving s one.1
    ar = k.arriving one i early (in_flights Placed s.core.flights one i m.placed)

    apart : ((slot : ℕ) → slot < 256 → one.1.sector ≡ sector_of (region.Log d slot) → ⊥) → Comes s.disk d one.1
    apart none = Apart (written_beside s.disk d one.1.sector one.1.block none)

    high : 4294967296 ≤ one.1.sector → Comes s.disk d one.1
    high h = apart (λ slot low at. low_high one.1.sector (sector_of (region.Log d slot)) h (slot_low d slot (server_low d server) low) at)

    in_log : one.1.purpose ≡ OfRecovery → (number : ℕ) → one.1.sector ≡ log_sector disk_logs one.1.behalf number → (one.1.behalf ≡ d) ⊎ (one.1.behalf ≡ d → ⊥) → Comes s.disk d one.1
    in_log q number at (inr ne) = apart (λ slot low there. ne (same_log one.1.behalf number d slot low (sym at ∙ there)).0)
    in_log q number at (inl e) = Rescues q (number % 256) (small number) (at ∙ ap (λ a. log_sector disk_logs a number) e)
      where
        small : (n : ℕ) → n % 256 < 256
        small n = omega arith

    go : (p : Purpose) → one.1.purpose ≡ p → PlacedFor p one.1 → Comes s.disk d one.1
    go (OfLog number) e placed = own (cases_eq one.1.server d)
      where
        own : (one.1.server ≡ d) ⊎ (one.1.server ≡ d → ⊥) → Comes s.disk d one.1
        own (inl by) = Own number e by
        own (inr ne) = apart (λ slot low at. ne (same_log one.1.server number d slot low (sym (ar.of_log number e) ∙ at)).0)
    go (InPlace cover) e placed = high placed
    go OfRecovery e (inl h) = high h
    go OfRecovery e (inr x) = in_log e x.0 x.1 (cases_eq one.1.behalf d)

module _ (ends : LeasesEnd) (script : List Line) (segments number : ℕ) (disk : Sectors) (s v : State) (run : Run (first_state (setting_of script segments number) disk) s) (step : Step s v) (t : Turn s (work_of v)) (d : ℕ)
    (server : IsTrue (is_server d)) (j k : Journal) (w u : World) (log : IsLog s d (log_journal j)) (log_then : IsLog v d (log_journal k))
    (behind : is_off (s.core.servers d).phase ≡ false → IsSealedBehind s w d j) (slots_kept : v.disk ≡ s.disk → IsTrue (is_dead (v.core.servers d).phase) → HaveSameBlocks k.log.slots j.log.slots)
    (still : IsTrue (is_dead (s.core.servers d).phase) → HasEnded s.core.now (s.core.servers d).expiry → HaveSameBlocks k.log.slots j.log.slots)
    (later : IsTrue (is_dead (v.core.servers d).phase) → HasEnded v.core.now (v.core.servers d).expiry → IsReplayed w d → IsReplayed u d)
    (issued : (by sector : ℕ) (write : Write) → CanIssue s.core by sector → value_at (writes s.core by) sector ≡ Some write → write.purpose ≡ OfRecovery → (slot : ℕ) → slot < 256 →
    sector ≡ sector_of (region.Log d slot) → IsReplayed w d) where
  facts : Facts s
  facts = facts_of ends script segments number disk s run

  reads : Reads s.core.servers s.core.flights s.disk
  reads = reads_of_run ends script segments number disk s run

  run_then : Run (first_state (setting_of script segments number) disk) v
  run_then = longer (first_state (setting_of script segments number) disk) s v run step

  -- of one that is mounted the log stands, and nothing of a seal is in flight
  mounted : IsTrue (is_in_mount (v.core.servers d).phase) → IsSealedBehind v u d k
  mounted up = record {
    stands = inl (log_then.live up);
    flies = λ one slot i q low at early.
        absurd (both_ways (is_dead (v.core.servers d).phase) (mounted_dead_not (v.core.servers d).phase up)
        (rescue_dead v (facts_of ends script segments number disk v run_then) (reads_of_run ends script segments number disk v run_then) one (contains_in v.core.flights one i) q early d slot server low at));
  }

  module _ (dead : IsTrue (is_dead (v.core.servers d).phase)) where
    was : IsSealedBehind s w d j
    was = behind (turn_was_on s (work_of v) t d dead)

    -- as long as the lease lasts it has nothing of a seal
    lasting : v.core.now ≤ (v.core.servers d).expiry → IsSealedBehind v u d k
    lasting early = record {
      stands = inl (λ slot low. open_log v.core.now (v.core.servers d).expiry k.log.slots (slots_of v.disk d) early (log_then.left dead).stands slot low);
      flies = λ one slot i q low at soon. absurd (apart v.core.now (v.core.servers d).expiry early ((log_then.left dead).seals one slot i q low at soon).over);
    }
      where
        apart : (n e : ℕ) → n ≤ e → e < n → ⊥
        apart n e h l = omega (arith, h, l)

    module _ (over : HasEnded v.core.now (v.core.servers d).expiry) where
      unchanged : v.disk ≡ s.disk → HaveSameBlocks (slots_of v.disk d) k.log.slots ⊎ IsReplayed u d
      unchanged same = go was.stands
        where
          go : HaveSameBlocks (slots_of s.disk d) j.log.slots ⊎ IsReplayed w d → HaveSameBlocks (slots_of v.disk d) k.log.slots ⊎ IsReplayed u d
          go (inl blocks) = inl (λ slot low. ap (λ x. slots_of x d slot) same ∙ blocks slot low ∙ sym (slots_kept same dead slot low))
          go (inr all) = inr (later dead over all)

      came : Came s (work_of v) → HaveSameBlocks (slots_of v.disk d) k.log.slots ⊎ IsReplayed u d
      came c = go (flight_at s.core.flights c.ticket c.flight c.there)
        where
          dead_before : IsTrue (is_dead (s.core.servers d).phase)
          dead_before = subst (λ p. IsTrue (is_dead p)) (c.beside.phase d) dead

          over_before : HasEnded s.core.now (s.core.servers d).expiry
          over_before = subst (λ n. (s.core.servers d).expiry < n) c.beside.now (subst (λ e. e < v.core.now) (c.beside.expiry d) over)

          kept : HaveSameBlocks k.log.slots j.log.slots
          kept = still dead_before over_before

          by : (one : ℕ × Flight) → Among one s.core.flights → one.1 ≡ c.flight → Comes s.disk d one.1 → HaveSameBlocks (slots_of v.disk d) k.log.slots ⊎ IsReplayed u d
          by one i is (Apart same) = blocks was.stands
            where
              blocks : HaveSameBlocks (slots_of s.disk d) j.log.slots ⊎ IsReplayed w d → HaveSameBlocks (slots_of v.disk d) k.log.slots ⊎ IsReplayed u d
              blocks (inl b) = inl (λ slot low. ap (λ x. slots_of x d slot) c.disk ∙ ap (λ (f : Flight). slots_of (written s.disk f.sector f.block) d slot) (sym is) ∙ same slot low ∙ b slot low ∙ sym (kept slot low))
              blocks (inr all) = inr (later dead over all)
          by one i is (Own n q server_is) = absurd (apart s.core.now (s.core.servers d).expiry one.1.stamp (subst (λ (f : Flight). s.core.now ≤ f.stamp) (sym is) c.early) within over_before)
            where
              not_host : (one.1.server == host_party) ≡ true → ⊥
              not_host h = both_ways (d == host_party) (server_no_host d server) (ap (λ n. n == host_party) (sym server_is) ∙ h)

              within : one.1.stamp ≤ (s.core.servers d).expiry
              within = subst (λ n. one.1.stamp ≤ (s.core.servers n).expiry) server_is (within_leases ends (setting_of script segments number) disk s run one (in_contains s.core.flights one i) (λ h. not_host (same one.1.server host_party h)))
                where
                  same : (x y : ℕ) → x ≡ y → (x == y) ≡ true
                  same x y e = grind (arith, nat_tests, e)

              apart : (n e x : ℕ) → n ≤ x → x ≤ e → e < n → ⊥
              apart n e x h l o = omega (arith, h, l, o)
          by one i is (Rescues q slot low at) = inr (later dead over (was.flies one slot (in_contains s.core.flights one i) q low at (subst (λ (f : Flight). s.core.now ≤ f.stamp) (sym is) c.early)))

          go : (one : ℕ × Flight) × Among one s.core.flights × (one.1 ≡ c.flight) → HaveSameBlocks (slots_of v.disk d) k.log.slots ⊎ IsReplayed u d
          go x = by x.0 x.1 x.2 (comes s facts reads x.0 x.1 (subst (λ (f : Flight). s.core.now ≤ f.stamp) (sym x.2) c.early) d server)

      flies_then : (one : ℕ × Flight) (slot : ℕ) → Contains v.core.flights one → one.1.purpose ≡ OfRecovery → slot < 256 → one.1.sector ≡ sector_of (region.Log d slot) → IsInTime one.1.stamp v.core.now → IsReplayed u d
      flies_then one slot i q low at soon = later dead over (go (in_flights (FlightFrom s) v.core.flights one (contains_in v.core.flights one i) (turn_flights s (work_of v) t)))
        where
          go : FlightFrom s one.1 → IsReplayed w d
          go (Flew old) =
              was.flies old.old slot (in_contains s.core.flights old.old old.there) (old.same.rescue q) low (old.same.sector ∙ at)
              (before s.core.now v.core.now old.old.1.stamp (turn_now s (work_of v) t) (subst (λ n. v.core.now ≤ n) (sym old.same.stamp) soon))
            where
              before : (a b c : ℕ) → a ≤ b → b ≤ c → a ≤ c
              before a b c h l = omega (arith, h, l)
          go (New by sector write can e is) =
              issued by sector write can e (ap (λ (f : Flight). f.purpose) (sym is) ∙ q) slot low (ap (λ (f : Flight). f.sector) (sym is) ∙ at)

      ended : IsSealedBehind v u d k
      ended = record { stands = ⊎_elim unchanged came (turn_comes s (work_of v) t); flies = flies_then }

    fallen : IsSealedBehind v u d k
    fallen = ⊎_elim ended lasting (cases_lt (v.core.servers d).expiry v.core.now)

  pub behind_then : is_off (v.core.servers d).phase ≡ false → IsSealedBehind v u d k
  behind_then on = go (v.core.servers d).phase refl
    where
      go : (p : Phase) → (v.core.servers d).phase ≡ p → IsSealedBehind v u d k
      go Off e = absurd (both_ways (is_off (v.core.servers d).phase) on (ap is_off e))
      go Up e = mounted (ap is_in_mount e)
      go Still e = mounted (ap is_in_mount e)
      go (Doomed fate) e = mounted (ap is_in_mount e)
      go Dead e = fallen (ap is_dead e)

pub stays_behind : LeasesEnd → SealsStayBehind
stays_behind ends s v w u journal then r step t g over logs logs_then goes behind d server =
    behind_then ends r.script r.segments r.number r.disk s v r.run step (step_turn s v step) d server (journal d) (then d) w u (logs.stand d server) (logs_then.stand d server) (behind d server)
    (goes.slots d server) (goes.still d server) (goes.later d server) (λ by sector write can e q slot low at. issued_behind ends s w journal by sector write r t g over can e q d slot server low at)

pub begins_behind : SealsBeginBehind
begins_behind setting disk w journal d server on = absurd (false≢true (sym on))
