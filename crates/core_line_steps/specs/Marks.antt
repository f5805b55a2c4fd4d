-- Where the marks of cleared sectors lie, and those of the sectors of a Commit.
use Rattle.std.specs.Prelude.{◌≡◌, ℕ, if◌then◌else◌, nat_le, List, Option, Some, None, IsTrue}
use Rattle.frang_base.specs.Functions.{put}
use Rattle.frang_base.specs.declared.change.Redo.{Redo}
use Rattle.ring_definitions.specs.RingRuns.{LogState, after_log_event}
use Rattle.ring_definitions.specs.RingRuns.LogEvent.{Append}
use Rattle.ring_definitions.specs.Rings.{last}
use Rattle.tree_definitions.specs.Tree.{FileTree}
use Rattle.core_definitions.specs.Cores.{stage}
use Rattle.core_definitions.specs.Events as core
use Rattle.core_definitions.specs.Events.{Nothing}
use Rattle.core_definitions.specs.LineGuards.{is_server}
use Rattle.core_definitions.specs.Lines.{Clearing, Finishing}
use Rattle.core_definitions.specs.Plans as plans
use Rattle.core_definitions.specs.Runs.{State as RunMoment, next}
use Rattle.core_definitions.specs.Trees.{block_sectors}
use Rattle.sector_world.specs.Steps.{after}
use Rattle.sector_world.specs.Steps.Event.{Do}
use Rattle.sector_world.specs.World.{World}
use Rattle.core_world.specs.Beside.{AreEnds}
use Rattle.core_world.specs.Journals.{Journal}
use Rattle.core_world.specs.Steps.{IsWorldOf}
use Rattle.core_commits.specs.Clears.{IsFreshBlock, IsReachedWithAll, cleared_world}
use Rattle.core_commits.specs.Commits.{AreClaimedClean, fetched_world}
use Rattle.core_commits.specs.Moments.{IsOfARun, IsOperation, LinesAreNumbered, claimed_in, operation_at}
use Rattle.core_commits.specs.Standing.{StandsWhole, tree_now}

-- a Clear of a fresh block keeps that marks are where the journals have operations end, where a log whose operations are acknowledged is acknowledged to its end
abbrev pub ClearsKeepEnds : Type 0
ClearsKeepEnds =
    (s : RunMoment) (w : World) (journal : ℕ → Journal) (tree : FileTree) (a block : ℕ) → IsTrue (is_server a) → IsWorldOf s w journal → StandsWhole s.core.setting.segments w tree →
    IsFreshBlock s.core.setting.segments w a block → stage s.core a ≡ Some (Clearing block) → IsReachedWithAll s.core.servers w a → AreEnds s.core.servers w journal →
    AreEnds (next s (core.Clear a block) Nothing).core.servers (cleared_world w a (block_sectors block)) journal

-- the log of a server that commits: with the record appended, where there is one
abbrev pub log_done : Option Redo → LogState → LogState
log_done None log = log
log_done (Some redo) log = after_log_event log (Append redo)

-- its journal: an operation past the last one ends at the last number
abbrev pub journal_done : ℕ → Option Redo → Journal → Journal
journal_done before redo j = record { before = j.before; log = log_done redo j.log; ends = λ n. if nat_le n before then j.ends n else last (log_done redo j.log).ring }

-- a Commit, where what it claims is cached clean, keeps that marks are where the journals have operations end
abbrev pub CommitsKeepEnds : Type 0
CommitsKeepEnds =
    (s : RunMoment) (w : World) (journal : ℕ → Journal) (when : ℕ → ℕ) (first_tree : FileTree) (numbers : List ℕ) (a : ℕ) (outcome : plans.Outcome) → IsTrue (is_server a) →
    IsOfARun s w journal when first_tree numbers → stage s.core a ≡ Some (Finishing outcome) → LinesAreNumbered s w when first_tree numbers a → (op : IsOperation s w when (tree_now when first_tree w) a outcome) →
    AreClaimedClean (s.core.servers a).cache (operation_at s w when (tree_now when first_tree w) a outcome op) → AreEnds s.core.servers w journal →
    AreEnds (next s (core.Commit a) Nothing).core.servers
    (after (fetched_world w a (claimed_in (s.core.servers a).cache op.out.o.claims)) (Do (operation_at s w when (tree_now when first_tree w) a outcome op)))
    (put journal a (journal_done (w.last a) outcome.redo (journal a)))
