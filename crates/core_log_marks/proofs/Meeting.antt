-- What the laws ask is met.
use Rattle.std.proofs.Common.{◌≡◌, ◌≢◌, ◌<◌, ◌≤◌, ◌+◌, ◌^◌, ℕ, true, false, inl, inr, Some, None, List, [], ◌∷◌, refl, sym, subst, arith}
use Rattle.std.specs.List.{Contains}
use Rattle.std.proofs.lemmas.Option.{none-some}
use Rattle.std.proofs.lemmas.Bool.{and_parts}
use Rattle.disk_definitions.proofs.Listed.{Among}
use Rattle.disk_definitions.specs.Logs.{Slots, is_sealed, log_end, log_records, numbers_in, window}
use Rattle.frang_base.specs.declared.lock.LockId.TheVariants.{Node}
use Rattle.sector_bytes.specs.Blocks.{zero_block}
use Rattle.sector_bytes.specs.Bytes.{zeros}
use Rattle.ring_definitions.specs.Ends.{ZeroLogsEnd}
use Rattle.ring_definitions.specs.RingRuns.{LogEvent, LogState, Placed, after_log_event, after_log_events, log_at, may_all_happen, may_happen}
use Rattle.ring_definitions.specs.RingSteps.{IsGoodLog, RingsBegin, RingsStep}
use Rattle.core_laws.proofs.Membership.{contains_in, in_contains}
use Rattle.sector_world.specs.Histories.{redo_of}
use Rattle.sector_world.specs.Kinds.{Good}
use Rattle.sector_world.specs.Steps.{Can, Event, after}
use Rattle.sector_world.specs.Steps.Event.{Do, Mount}
use Rattle.sector_world.specs.World.{World}
use Rattle.core_world.specs.Events.{FirstMomentsAreGood}
use Rattle.core_world.specs.Journals.{journal_at}
use Rattle.core_definitions.specs.Settings.{setting_of}
use Rattle.core_readings.specs.Logs.{LogsBeginBeside}
use Rattle.core_histories.specs.Examples.{empty_world}
use Rattle.core_log_marks.specs.Accounts.{AccountsFor, AreUpTo, OperationsRise}
use Rattle.core_log_marks.specs.Examples.{ALastRecordIsRead, AMountIsAccountedFor, FirstMomentsAreAccounted, changes, first_placed, looks, mounted_world, short, two_come, two_log, zero_log}
use Rattle.core_log_marks.specs.Keeping.{ReportsBegin}
use Rattle.core_log_marks.specs.LastRecords.{LastRecordsAreRead}
use Rattle.core_log_marks.specs.Steps.{AccountsBegin, AccountsStay, GoesOnBeside, HasDone, HasMounted, MountsAreAccountedFor, OperationsAreAccountedFor}

-- ---- a mount, and operations behind it

le_all : (n : ℕ) → n ≤ n
le_all n = omega arith

on_its_own : (n : ℕ) → n ≡ n + 0 + 0
on_its_own n = omega arith

module _ (first_good : FirstMomentsAreGood) (step : (w : World) (e : Event) → Can w e → Good w → Good (after w e)) (zero : ZeroLogsEnd) (mounts : MountsAreAccountedFor) (operations : OperationsAreAccountedFor)
    (stay : AccountsStay) where
  good : Good mounted_world
  good = step empty_world (Mount 0) (record { off = refl; resting = λ r e. absurd (none-some r e); known = omega arith }) (first_good (λ sector. zero_block) (λ sector. false) (λ sector. false) (λ sector. Node 0))

  rest : AreUpTo (empty_world.durable 0) (log_records zero_log)
  rest r i = absurd (contains_in [] r (subst (λ l. Contains l r) zero.1 i))

  mounted : HasMounted empty_world mounted_world 0
  mounted = record { number = 0; history = refl; durable = le_all 0 }

  mount : AccountsFor (journal_at zero_log) mounted_world 0
  mount = mounts empty_world mounted_world 0 zero_log rest mounted

  does : HasDone mounted_world (after mounted_world (Do changes)) changes
  does = record { number = omega arith; history = refl; last = refl; durable = le_all 0 }

  does_nothing : HasDone mounted_world (after mounted_world (Do looks)) looks
  does_nothing = record { number = omega arith; history = refl; last = refl; durable = le_all 0 }

  some : changes.changes ≢ []
  some e = absurd (cc)

  beside : GoesOnBeside 0 mounted_world (after mounted_world (Mount 1))
  beside = inr (_, refl, (λ e. omega (arith, e)))

  pub a_mount_is_accounted_for : AMountIsAccountedFor
  a_mount_is_accounted_for = record {
    good = good;
    rest = rest;
    mounts = mounted;
    mount = mount;
    does = does;
    with_record = operations mounted_world (after mounted_world (Do changes)) (journal_at zero_log) changes (Some (redo_of changes)) good does (refl, some) (on_its_own (log_end zero_log)) mount;
    does_nothing = does_nothing;
    without_record = operations mounted_world (after mounted_world (Do looks)) (journal_at zero_log) looks None good does_nothing refl (on_its_own (log_end zero_log)) mount;
    beside = beside;
    other_mounts = stay mounted_world (after mounted_world (Mount 1)) (journal_at zero_log) (journal_at zero_log) 0 beside refl (le_all 0) (record { before = refl; placed = refl; ends = refl }) mount;
  }

-- ---- the last record of a log

may_come : may_all_happen (log_at zero_log) two_come ≡ true
unfolding zeros window numbers_in log_end
may_come = refl

two_end : log_end two_log.slots ≡ 257
unfolding zeros window numbers_in log_end
two_end = refl

zero_sealed : is_sealed zero_log ≡ true
unfolding zeros window numbers_in log_end
zero_sealed = refl

placed_are : two_log.placed ≡ first_placed ∷ record { redo = short 10; first = 257; last = 257 } ∷ []
unfolding zeros window numbers_in log_end
placed_are = refl

steps : RingsStep → (slots : Slots) (w : LogState) (events : List LogEvent) → IsGoodLog slots w → may_all_happen w events ≡ true → IsGoodLog slots (after_log_events w events)
steps step slots w [] good may = good
steps step slots w (e ∷ es) good may =
    let both = and_parts (may_happen w e) (may_all_happen (after_log_event w e) es) may in steps step slots (after_log_event w e) es (step slots w e good both.0) both.1

rise_two : OperationsRise (first_placed ∷ record { redo = short 10; first = 257; last = 257 } ∷ [])
rise_two = ((λ q i. one q (contains_in (record { redo = short 10; first = 257; last = 257 } ∷ []) q i)), ((λ q i. absurd (contains_in [] q i)), tt))
  where
    one : (q : Placed) → Among q (record { redo = short 10; first = 257; last = 257 } ∷ []) → 9 < q.redo.op.0
    one q (inl same) = subst (λ (p : Placed). 9 < p.redo.op.0) (sym same) (omega arith)
    one q (inr none) = absurd none

module _ (begin : RingsBegin) (step : RingsStep) (zero : ZeroLogsEnd) (read : LastRecordsAreRead) where
  pub a_last_record_is_read : ALastRecordIsRead
  a_last_record_is_read = record { good = good; rise = rise; there = there; ends = ends; past = read zero_log two_log first_placed good rise there ends }
    where
      low : (n : ℕ) → n ≡ 255 → 255 ≤ n
      low n e = omega (arith, e)

      high : (n : ℕ) → n ≡ 255 → n < 2 ^ 62
      high n e = omega (arith, e)

      within : (n : ℕ) → n ≡ 257 → 256 ≤ n
      within n e = omega (arith, e)

      good : IsGoodLog zero_log two_log
      good = steps step zero_log (log_at zero_log) two_come (begin zero_log (low (log_end zero_log) zero.0) (high (log_end zero_log) zero.0) zero_sealed) may_come

      rise : OperationsRise two_log.placed
      rise = subst OperationsRise (sym placed_are) rise_two

      there : Contains two_log.placed first_placed
      there = subst (λ (ps : List Placed). Contains ps first_placed) (sym placed_are) (in_contains (first_placed ∷ record { redo = short 10; first = 257; last = 257 } ∷ []) first_placed (inl refl))

      ends : first_placed.last ≤ log_end two_log.slots
      ends = within (log_end two_log.slots) two_end

-- ---- behind an opening

pub first_moments_are_accounted : LogsBeginBeside → AccountsBegin → ReportsBegin → FirstMomentsAreAccounted
first_moments_are_accounted logs accounts reports start is w journal when first_tree numbers m = record {
  world = m.world;
  good = m.good;
  lines = m.lines;
  logs = logs start is journal;
  accounts = accounts start is w journal;
  reports = reports (setting_of start.script start.opening.tree.segments start.opening.run) start.disk journal;
}
