-- Behind an opening each log is zero, and nobody is mounted.
use Rattle.std.proofs.Common.{◌≡◌, ℕ, ◌<◌, true, List, [], sym, ap, subst, arith}
use Rattle.std.specs.List.{Contains}
use Rattle.std.proofs.lemmas.Bool.{and_from, false≢true, lt-ltb, ltb-true}
use Rattle.std.specs.Prelude.{nat_lt}
use Rattle.frang_base.specs.declared.change.Redo.{Redo}
use Rattle.frang_base.specs.declared.limits.TheConstants.{LOGS, LOG_SECTORS}
use Rattle.disk_definitions.proofs.SameLogs.{IsZeroLog, zero_log_records}
use Rattle.disk_definitions.specs.Regions.{is_in_range, sector_of}
use Rattle.disk_definitions.specs.Replay.{is_log, slots_of}
use Rattle.disk_definitions.specs.declared.region.Region.TheVariants as region
use Rattle.core_laws.proofs.Membership.{contains_in}
use Rattle.disk_definitions.proofs.RegionLaws.{region_found}
use Rattle.core_laws.specs.Openings.{LogsReadAsZero}
use Rattle.core_log_marks.specs.Accounts.{AreUpTo}
use Rattle.core_log_marks.specs.Steps.{AccountsBegin}

zero_up_to : (k : ℕ) (records : List Redo) → records ≡ [] → AreUpTo k records
zero_up_to k records none r i = absurd (contains_in [] r (subst (λ l. Contains l r) none i))

pub accounts_begin : LogsReadAsZero → AccountsBegin
accounts_begin zero start is w journal a server = record {
  rest = λ off. zero_up_to (w.durable a) _ (zero_log_records (slots_of start.disk a) log_zero);
  journal = λ on. absurd (false≢true (sym on));
}
  where
    log_zero : IsZeroLog (slots_of start.disk a)
    log_zero slot low = zero start is (sector_of (region.Log a slot)) (ap is_log (region_found 64 (region.Log a slot) (omega arith) range))
      where
        a_low : a < 16
        a_low = ltb-true a 16 server

        range : is_in_range 64 (region.Log a slot) ≡ true
        range = and_from (nat_lt a LOGS) (nat_lt slot LOG_SECTORS) (lt-ltb a LOGS (more a a_low)) (lt-ltb slot LOG_SECTORS low)
          where
            more : (n : ℕ) → n < 16 → n < LOGS
            more n h = omega (arith, h)
