-- Moments at which what the laws ask is met: a server mounts over a zero log, does something with a record and something without one, while another mounts; and a log of which the last record is read.
use Rattle.std.specs.Prelude.{◌≤◌, ℕ, Some, None, List, [], ◌∷◌}
use Rattle.std.specs.List.{Contains}
use Rattle.frang_base.specs.declared.change.Redo.{Redo}
use Rattle.frang_base.specs.declared.limits.TheConstants.{SECTOR_BYTES}
use Rattle.frang_base.specs.declared.op.Op.TheVariants as op
use Rattle.frang_base.specs.declared.reply.Reply.TheVariants as reply
use Rattle.tree_definitions.specs.Tree.{FileTree}
use Rattle.sector_bytes.specs.Bytes.{zeros}
use Rattle.disk_definitions.specs.Logs.{Slots, log_end, log_records}
use Rattle.ring_definitions.specs.RingRuns.{LogEvent, LogState, Placed, after_log_events, log_at}
use Rattle.ring_definitions.specs.RingRuns.LogEvent.{Append, Arrive, Issue}
use Rattle.ring_definitions.specs.RingSteps.{IsGoodLog}
use Rattle.core_definitions.specs.Opening.{IsStart, Start, moment_of}
use Rattle.sector_world.specs.Histories.{Commit, redo_of}
use Rattle.sector_world.specs.Kinds.{Good}
use Rattle.sector_world.specs.Steps.{after}
use Rattle.sector_world.specs.Steps.Event.{Do, Mount}
use Rattle.sector_world.specs.World.{World}
use Rattle.core_world.specs.Journals.{Journal, journal_at}
use Rattle.core_commits.specs.Moments.{IsOfARun}
use Rattle.core_line_steps.specs.Marks.{journal_done}
use Rattle.byte_trees.specs.DoubtExamples.{none}
use Rattle.byte_trees.specs.Telling.{commit}
use Rattle.core_histories.specs.Examples.{empty_world}
use Rattle.core_log_marks.specs.Accounts.{AccountsFor, AreUpTo, OperationsRise}
use Rattle.core_log_marks.specs.Keeping.{IsAccounted}
use Rattle.core_log_marks.specs.LastRecords.{IsReadPast}
use Rattle.core_log_marks.specs.Steps.{GoesOnBeside, HasDone, HasMounted}

-- ---- a mount, and operations behind it

abbrev pub zero_log : Slots
zero_log slot = zeros SECTOR_BYTES

abbrev pub mounted_world : World
mounted_world = after empty_world (Mount 0)

-- one that changes nothing, and one that changes a sector
abbrev pub looks : Commit
looks = commit 0 2 op.Sync reply.Ok none

abbrev pub changes : Commit
changes = record looks { changes = record { sector = record { 0 = 5 }; version = 1; patches = [] } ∷ [] }

pub record AMountIsAccountedFor : Type 0 where
  pub good : Good mounted_world
  pub rest : AreUpTo (empty_world.durable 0) (log_records zero_log)
  pub mounts : HasMounted empty_world mounted_world 0
  pub mount : AccountsFor (journal_at zero_log) mounted_world 0
  pub does : HasDone mounted_world (after mounted_world (Do changes)) changes
  pub with_record : AccountsFor (journal_done 0 (Some (redo_of changes)) (journal_at zero_log)) (after mounted_world (Do changes)) 0
  pub does_nothing : HasDone mounted_world (after mounted_world (Do looks)) looks
  pub without_record : AccountsFor (journal_done 0 None (journal_at zero_log)) (after mounted_world (Do looks)) 0
  pub beside : GoesOnBeside 0 mounted_world (after mounted_world (Mount 1))
  pub other_mounts : AccountsFor (journal_at zero_log) (after mounted_world (Mount 1)) 0

-- ---- the last record of a log

-- two records have a sector each
abbrev pub short : ℕ → Redo
short n = record { op = record { 0 = n }; changes = record { sector = record { 0 = 5 }; version = 1; patches = record { at = 8; bytes = 1 ∷ [] } ∷ [] } ∷ [] }

abbrev pub two_come : List LogEvent
two_come = Append (short 9) ∷ Issue ∷ Append (short 10) ∷ Issue ∷ Arrive 256 ∷ Arrive 257 ∷ []

abbrev pub two_log : LogState
two_log = after_log_events (log_at zero_log) two_come

abbrev pub first_placed : Placed
first_placed = record { redo = short 9; first = 256; last = 256 }

pub record ALastRecordIsRead : Type 0 where
  pub good : IsGoodLog zero_log two_log
  pub rise : OperationsRise two_log.placed
  pub there : Contains two_log.placed first_placed
  pub ends : first_placed.last ≤ log_end two_log.slots
  pub past : IsReadPast two_log first_placed

-- ---- behind an opening

-- at the first moment behind an opening all that the laws on what is kept ask of a moment is met, where the history is of lines
abbrev pub FirstMomentsAreAccounted : Type 0
FirstMomentsAreAccounted =
    (start : Start) → IsStart start → (w : World) (journal : ℕ → Journal) (when : ℕ → ℕ) (first_tree : FileTree) (numbers : List ℕ) → IsOfARun (moment_of start) w journal when first_tree numbers →
    IsAccounted (moment_of start) w journal when first_tree numbers
