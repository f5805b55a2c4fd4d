-- The journal after a Commit, with a record and without one.
use Rattle.std.specs.Prelude.{◌≡◌, ◌^◌, ◌<◌, ℕ, if◌then◌else◌, nat_le, IsTrue, List, ◌∷◌, None, Some}
use Rattle.frang_base.specs.declared.change.Redo.{Redo}
use Rattle.sector_bytes.specs.Blocks.{version_of}
use Rattle.tree_definitions.specs.Tree.{FileTree}
use Rattle.disk_definitions.specs.Logs.{Slots, log_end}
use Rattle.ring_definitions.specs.RingRuns.{may_happen}
use Rattle.ring_definitions.specs.RingRuns.LogEvent.{Append}
use Rattle.ring_definitions.specs.Rings.{Ring, appended, is_record, last}
use Rattle.core_definitions.specs.Flights.{each_of_server}
use Rattle.core_definitions.specs.LineEffects.{flight_after}
use Rattle.core_definitions.specs.LineGuards.{CanCommit, is_server}
use Rattle.core_definitions.specs.Cores.{stage}
use Rattle.core_definitions.specs.Lines.{Finishing}
use Rattle.core_definitions.specs.Plans as plans
use Rattle.core_definitions.specs.Runs.{State as RunMoment}
use Rattle.sector_world.specs.Histories.{Commit, redo_of, settled}
use Rattle.sector_world.specs.Histories.Item.{Done}
use Rattle.sector_world.specs.Steps.{after}
use Rattle.sector_world.specs.Steps.Event.{Do}
use Rattle.sector_world.specs.World.{World}
use Rattle.core_world.specs.Journals.{IsLogOf, Journal, SectorLog, sector_log}
use Rattle.core_commits.specs.Commits.{fetched_world}
use Rattle.core_commits.specs.Moments.{IsOfARun, IsOperation, LinesAreNumbered, claimed_in, operation_at}
use Rattle.core_commits.specs.Standing.{tree_now}
use Rattle.core_line_steps.specs.Marks.{journal_done}

-- a Commit that may happen finds room for its record in the journal, where the record may stand in a log and the numbers of the log are small
abbrev pub CommitsFindRoom : Type 0
CommitsFindRoom =
    (s : RunMoment) (w : World) (journal : ℕ → Journal) (when : ℕ → ℕ) (first_tree : FileTree) (numbers : List ℕ) (a : ℕ) (outcome : plans.Outcome) (redo : Redo) →
    IsOfARun s w journal when first_tree numbers → stage s.core a ≡ Some (Finishing outcome) → CanCommit s.core a → outcome.redo ≡ Some redo → IsTrue (is_record redo) →
    last (s.core.servers a).ring < 2 ^ 62 → IsTrue (may_happen (journal a).log (Append redo))

-- where the record fits and finds room, it is the journal of its server with the record appended
abbrev pub CommitsAppend : Type 0
CommitsAppend =
    (s : RunMoment) (w : World) (journal : ℕ → Journal) (when : ℕ → ℕ) (first_tree : FileTree) (numbers : List ℕ) (a : ℕ) (outcome : plans.Outcome) (redo : Redo) → IsTrue (is_server a) →
    IsOfARun s w journal when first_tree numbers → stage s.core a ≡ Some (Finishing outcome) → LinesAreNumbered s w when first_tree numbers a → (op : IsOperation s w when (tree_now when first_tree w) a outcome) →
    outcome.redo ≡ Some redo → IsTrue (may_happen (journal a).log (Append redo)) →
    IsLogOf (s.core.servers a).phase (appended (s.core.servers a).ring redo) s.core.now (each_of_server a (flight_after outcome) s.core.flights) s.disk
    (sector_log (after (fetched_world w a (claimed_in (s.core.servers a).cache op.out.o.claims)) (Do (operation_at s w when (tree_now when first_tree w) a outcome op))) a) a
    (journal_done (w.last a) (Some redo) (journal a))

-- the log of a server on the side of the theorem on sectors, after an operation without a record: it is durable where the log is all there (Reach), and acknowledged where that is (Ack)
abbrev pub log_without : World → Commit → Ring → Slots → SectorLog
log_without w c ring slots = record {
  durable = if nat_le (last ring) (log_end slots) then c.op else w.durable c.by;
  acked = if nat_le (last ring) ring.reached then c.op else w.acked c.by;
  floor = w.floor c.by;
  last = c.op;
  records = redo_of c ∷ w.log c.by;
  history = Done c ∷ settled w.history;
  versions = λ t. version_of (w.disk t);
}

-- it is the log of its journal then
abbrev pub CommitsWithoutRecords : Type 0
CommitsWithoutRecords =
    (s : RunMoment) (w : World) (journal : ℕ → Journal) (when : ℕ → ℕ) (first_tree : FileTree) (numbers : List ℕ) (a : ℕ) (outcome : plans.Outcome) → IsTrue (is_server a) →
    IsOfARun s w journal when first_tree numbers → stage s.core a ≡ Some (Finishing outcome) → LinesAreNumbered s w when first_tree numbers a → (op : IsOperation s w when (tree_now when first_tree w) a outcome) →
    outcome.redo ≡ None →
    IsLogOf (s.core.servers a).phase (s.core.servers a).ring s.core.now (each_of_server a (flight_after outcome) s.core.flights) s.disk
    (log_without w (operation_at s w when (tree_now when first_tree w) a outcome op) (s.core.servers a).ring (journal a).log.slots) a (journal_done (w.last a) None (journal a))
