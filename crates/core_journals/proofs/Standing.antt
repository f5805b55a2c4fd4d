-- Over every run: each log goes on at each step, and so stands as the life of its server has it.
use Rattle.std.proofs.Common.{◌≡◌, ℕ, ◌≤◌, ◌<◌, ◌%◌, ◌^◌, ◌==◌, Bool, true, false, if◌then◌else◌, IsTrue, List, nat_lt, refl, sym, ap, ◌∙◌, subst, arith}
use Rattle.std.proofs.lemmas.Bool.{and_from, both_ways, false≢true, lt-ltb, ltb-true}
use Rattle.std.proofs.lemmas.Bool.Decides.{nat_tests}
use Rattle.std.proofs.lemmas.Option.{none-some}
use Rattle.frang_base.specs.declared.limits.TheConstants.{LOGS, LOG_SECTORS}
use Rattle.frang_base.specs.declared.script.Line.{Line}
use Rattle.disk_definitions.proofs.ArrivingLaws.{one_number}
use Rattle.disk_definitions.proofs.EndLaws.{sealed_from, sector_of_number}
use Rattle.disk_definitions.proofs.RegionLaws.{region_found}
use Rattle.disk_definitions.proofs.SameLogs.{IsZeroLog, zero_log_end}
use Rattle.disk_definitions.specs.LogSectors.{empty_sector, numbered_bytes}
use Rattle.disk_definitions.specs.Logs.{Slots, is_sealed, log_end, stands}
use Rattle.disk_definitions.specs.Regions.{is_in_range, sector_of}
use Rattle.disk_definitions.specs.Replay.{is_log, slots_of}
use Rattle.disk_definitions.specs.declared.region.Region.TheVariants as region
use Rattle.sector_bytes.specs.Bytes.{zeros}
use Rattle.sector_bytes.specs.Sectors.{Sectors}
use Rattle.core_definitions.specs.LineGuards.{is_server}
use Rattle.core_definitions.specs.Lines.{Finishing}
use Rattle.core_definitions.specs.Logs.{log_sector, seal_block}
use Rattle.core_definitions.specs.Opening.{IsStart, Start, moment_of}
use Rattle.core_definitions.specs.Runs.{State, Step, Run, Stays, Goes, first_state}
use Rattle.core_definitions.specs.Scripts.{host_party}
use Rattle.core_definitions.specs.Settings.{Setting, disk_logs, setting_of}
use Rattle.core_facts.proofs.Reading.{facts_of, reads_of_run}
use Rattle.core_facts.proofs.Staling.{recovered_over, within_leases}
use Rattle.core_facts.proofs.Turns.{Turn, work_of, step_turn}
use Rattle.core_laws.proofs.Along.{along, longer}
use Rattle.core_laws.proofs.Flying.{once_of, sectors_in}
use Rattle.core_laws.proofs.Kept.{setting_of_run}
use Rattle.core_laws.proofs.Membership.{in_contains}
use Rattle.core_laws.proofs.Resting.{server_no_host}
use Rattle.core_laws.proofs.Single.{sectors_once}
use Rattle.core_laws.proofs.Windows.{slots_kept, windows_kept}
use Rattle.core_laws.specs.Leases.{LeasesEnd}
use Rattle.core_laws.specs.Openings.{LogsReadAsZero}
use Rattle.core_journals.specs.Journals.{IsAtRest, IsLog, Journal, journal_at}
use Rattle.core_journals.specs.Logs.{IsFit, Onward}
use Rattle.core_journals.proofs.LogBlocks.{empty_stands}
use Rattle.core_journals.proofs.Turning.{Before, Result, turn_log, turn_next}

-- ---- at first

pub log_begins : (script : List Line) (segments run : ℕ) (disk : Sectors) (a : ℕ) (j : Journal) → IsAtRest (slots_of disk a) → IsLog (first_state (setting_of script segments run) disk) a j
log_begins script segments run disk a j rest = record {
  rest = λ off. rest;
  journal = λ on. absurd (false≢true (sym on));
  live = λ up. absurd (false≢true up);
  left = λ dead. absurd (false≢true dead);
}

-- ---- step by step

module _ (ends : LeasesEnd) (script : List Line) (segments number : ℕ) (disk : Sectors) where
  abbrev pub setting : Setting
  setting = setting_of script segments number

  pub before_of : (s : State) → Run (first_state setting disk) s → (a : ℕ) → IsTrue (is_server a) → IsFit s a → Before s a
  before_of s run a server fit = record {
    facts = facts_of ends script segments number disk s run;
    reads = reads_of_run ends script segments number disk s run;
    over = recovered_over ends setting disk s run;
    known = record {
      once = once_of (sectors_in s.core.flights) (sectors_once setting disk s run);
      slots = λ one n i q. subst (λ logs. one.1.sector ≡ log_sector logs one.1.server n) rules (slots_kept setting disk s run one n (in_contains s.core.flights one i) q);
      within = λ one i by.
          subst (λ k. one.1.stamp ≤ (s.core.servers k).expiry) by
          (within_leases ends setting disk s run one (in_contains s.core.flights one i) (λ h. both_ways (a == host_party) (server_no_host a server) (same a host_party (sym by ∙ h))));
    };
    fit = fit;
  }
    where
      rules : s.core.setting.logs ≡ disk_logs
      rules = ap (λ (x : Setting). x.logs) (setting_of_run setting disk s run)

      same : (x y : ℕ) → x ≡ y → (x == y) ≡ true
      same x y e = grind (arith, nat_tests, e)

  -- by the case of the step, as whoever knows the event has it
  pub log_by_turn : (s v : State) → Run (first_state setting disk) s → Step s v → (t : Turn s (work_of v)) → (a : ℕ) → IsTrue (is_server a) → (j : Journal) → IsFit s a → IsLog s a j →
      Result s (v.core.servers a) (work_of v) a j (turn_next s (work_of v) t a j)
  log_by_turn s v run step t a server j fit log =
      turn_log s (work_of v) t a server (before_of s run a server fit) (windows_kept setting disk v (longer (first_state setting disk) s v run step) a) j log

  pub log_goes_on : (s v : State) → Run (first_state setting disk) s → Step s v → (a : ℕ) → IsTrue (is_server a) → (j : Journal) → IsFit s a → IsLog s a j → Onward s v a j
  log_goes_on s v run step a server j fit log =
      let r : Result s (v.core.servers a) (work_of v) a j (turn_next s (work_of v) (step_turn s v step) a j) = log_by_turn s v run step (step_turn s v step) a server j fit log in
      record { next = r.next; log = r.log; goes = r.goes; still = r.still }

  pub log_stands : (a : ℕ) → IsTrue (is_server a) → IsAtRest (slots_of disk a) → (s : State) → Run (first_state setting disk) s →
      ((v : State) → Run (first_state setting disk) v → Run v s → IsFit v a) → (j : Journal) × IsLog s a j
  log_stands a server rest =
      along setting disk (λ s. ((v : State) → Run (first_state setting disk) v → Run v s → IsFit v a) → (j : Journal) × IsLog s a j)
      (λ s v run step p fits.
      let x : (j : Journal) × IsLog s a j = p (λ u to from. fits u to (longer u s v from step)) in
      let o : Onward s v a x.0 = log_goes_on s v run step a server x.0 (fits s run (Goes step Stays)) x.1 in (o.next, o.log))
      (λ fits. (journal_at (slots_of disk a), log_begins script segments number disk a (journal_at (slots_of disk a)) rest))

-- ---- behind an opening

small_seal : (number : ℕ) → number < 256 → zeros 512 ≡ seal_block number
small_seal number low = go (nat_lt number 256) (lt-ltb number 256 low)
  where
    go : (b : Bool) → b ≡ true → zeros 512 ≡ (if b then zeros 512 else numbered_bytes (empty_sector number))
    go true e = refl
    go false e = absurd (false≢true e)

zero_sealed : (slots : Slots) → IsZeroLog slots → is_sealed slots ≡ true
zero_sealed slots zero = sealed_from slots (λ n s. subst (λ e. n ≤ e) (sym (zero_log_end slots zero)) (below n (same n s)))
  where
    low : (n : ℕ) → n % 256 < 256
    low n = omega arith

    again : (n : ℕ) → n % 256 % 256 ≡ n % 256
    again n = omega arith

    small : (n : ℕ) → n % 256 < 2 ^ 63
    small n = omega arith

    below : (n : ℕ) → n ≡ n % 256 → n ≤ 255
    below n e = omega (arith, e)

    same : (n : ℕ) → stands slots n ≡ true → n ≡ n % 256
    same n s =
        let x = sector_of_number slots n s in
        one_number slots n (n % 256) x.0 (empty_sector (n % 256)) x.1
        (empty_stands slots (n % 256) (small n) (ap slots (again n) ∙ zero (n % 256) (low n) ∙ small_seal (n % 256) (low n))) (sym (again n))

module _ (zero : LogsReadAsZero) (start : Start) (is : IsStart start) (a : ℕ) (server : IsTrue (is_server a)) where
  log_zero : IsZeroLog (slots_of start.disk a)
  log_zero slot low = zero start is (sector_of (region.Log a slot)) (ap is_log (region_found 64 (region.Log a slot) (omega arith) range))
    where
      a_low : a < 16
      a_low = ltb-true a 16 server

      range : is_in_range 64 (region.Log a slot) ≡ true
      range = and_from (nat_lt a LOGS) (nat_lt slot LOG_SECTORS) (lt-ltb a LOGS (more a a_low)) (lt-ltb slot LOG_SECTORS low)
        where
          more : (n : ℕ) → n < 16 → n < LOGS
          more n h = omega (arith, h)

  pub opened_rests : IsAtRest (slots_of start.disk a)
  opened_rests = record { low = subst (λ n. 255 ≤ n) (sym (zero_log_end (slots_of start.disk a) log_zero)) (omega arith); sealed = zero_sealed (slots_of start.disk a) log_zero }

  pub opened_fits : IsFit (moment_of start) a
  opened_fits = record {
    ring = λ on. omega arith;
    end = λ off. subst (λ n. n < 2 ^ 62) (sym (zero_log_end (slots_of start.disk a) log_zero)) (omega arith);
    records = λ outcome redo e f. absurd (none-some (Finishing outcome) e);
  }

  pub opened_low : log_end (slots_of start.disk a) < 2 ^ 61
  opened_low = subst (λ n. n < 2 ^ 61) (sym (zero_log_end (slots_of start.disk a) log_zero)) (omega arith)
