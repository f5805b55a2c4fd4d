-- A Commit whole: the claimed sectors are fetched, the operation of its line is done, and without a record the log is known as far as it stands; and these lead to a world of the next moment.
use Rattle.std.specs.Prelude.{◌≡◌, ℕ, if◌then◌else◌, nat_le, List, [], ◌∷◌, ◌++◌, map, Option, Some, None}
use Rattle.frang_base.specs.Functions.{put}
use Rattle.frang_base.specs.declared.change.Redo.{Redo}
use Rattle.tree_definitions.specs.Tree.{FileTree}
use Rattle.disk_definitions.specs.Logs.{log_end}
use Rattle.ring_definitions.specs.Rings.{Ring, last}
use Rattle.core_definitions.specs.Cores.{stage}
use Rattle.core_definitions.specs.Events as core
use Rattle.core_definitions.specs.Events.{Nothing}
use Rattle.core_definitions.specs.Lines.{Finishing}
use Rattle.core_definitions.specs.Plans as plans
use Rattle.core_definitions.specs.Runs.{State as RunMoment, Makes, next}
use Rattle.sector_world.specs.Histories.Entry.{Did}
use Rattle.sector_world.specs.Steps.{Event}
use Rattle.sector_world.specs.Steps.Event.{Ack, Do, Fetch, Reach}
use Rattle.sector_world.specs.World.{World}
use Rattle.core_world.specs.Beside.{AreEnds}
use Rattle.core_world.specs.Journals.{Journal}
use Rattle.core_world.specs.Steps.{Leads}
use Rattle.core_lives.specs.Lives.{HasEntry}
use Rattle.core_lives.specs.Room.{HasRoom}
use Rattle.core_commits.specs.Commits.{AreClaimedClean}
use Rattle.core_commits.specs.Moments.{IsOfARun, IsOperation, LinesAreNumbered, claimed_in, operation_at}
use Rattle.core_commits.specs.Standing.{tree_now}
use Rattle.core_line_steps.specs.Held.{WritesAreHeld}
use Rattle.core_line_steps.specs.Marks.{journal_done}
use Rattle.core_line_steps.specs.Pending.{FreeDirtIsPending}

-- At a moment of a run a line is finished and may commit: its number is new, dirty pages of free sectors are pending, servers hold alone the covers of their writes in place, marks lie where operations
-- end, and its log has room
pub record IsCommitting (s : RunMoment) (w : World) (journal : ℕ → Journal) (when : ℕ → ℕ) (first_tree : FileTree) (numbers : List ℕ) (a : ℕ) (outcome : plans.Outcome) : Type 0 where
  pub run : IsOfARun s w journal when first_tree numbers
  pub makes : Makes s (core.Commit a) Nothing
  pub at : stage s.core a ≡ Some (Finishing outcome)
  pub numbered : LinesAreNumbered s w when first_tree numbers a
  pub pending : FreeDirtIsPending s.core.servers w
  pub held : WritesAreHeld s.core
  pub ends : AreEnds s.core.servers w journal
  pub room : HasRoom s a

-- ---- what is known of the log then

-- up to which number operations are durable without a record: the new one where the whole log stands on the disk
abbrev pub durable_without : World → ℕ → ℕ → Ring → Journal → ℕ
durable_without w a n ring j = if nat_le (last ring) (log_end j.log.slots) then n else w.durable a

-- up to which they are acknowledged: the new one where the whole log is
abbrev pub acked_without : World → ℕ → ℕ → Ring → ℕ
acked_without w a n ring = if nat_le (last ring) ring.reached then n else w.acked a

-- the events behind the operation: none with a record
abbrev pub known_behind : World → ℕ → ℕ → Ring → Journal → Option Redo → List Event
known_behind w a n ring j None = Reach a (durable_without w a n ring j) ∷ Ack a (acked_without w a n ring) ∷ []
known_behind w a n ring j (Some redo) = []

-- ---- the step

-- The line is an operation, what it claims is cached clean, and these events lead to the next moment, with these journals: each claimed sector is fetched, it is done, and the log is known as far. The
-- history has it, and marks lie where operations end
pub record LeadsByOperation (s : RunMoment) (w : World) (journal : ℕ → Journal) (when : ℕ → ℕ) (first_tree : FileTree) (a : ℕ) (outcome : plans.Outcome) (v : RunMoment) : Type 0 where
  pub op : IsOperation s w when (tree_now when first_tree w) a outcome
  pub clean : AreClaimedClean (s.core.servers a).cache (operation_at s w when (tree_now when first_tree w) a outcome op)
  pub leads : Leads w v (put journal a (journal_done (w.last a) outcome.redo (journal a)))
  pub by : leads.events ≡ map (Fetch a) (claimed_in (s.core.servers a).cache op.out.o.claims) ++ Do (operation_at s w when (tree_now when first_tree w) a outcome op)
      ∷ known_behind w a (operation_at s w when (tree_now when first_tree w) a outcome op).op (s.core.servers a).ring (journal a) outcome.redo
  pub story : HasEntry w leads.world (Did (operation_at s w when (tree_now when first_tree w) a outcome op))
  pub ends : AreEnds v.core.servers leads.world (put journal a (journal_done (w.last a) outcome.redo (journal a)))

-- so it is of each Commit, with a record
abbrev pub CommitsWithRecordsAreEvents : Type 0
CommitsWithRecordsAreEvents =
    (s : RunMoment) (w : World) (journal : ℕ → Journal) (when : ℕ → ℕ) (first_tree : FileTree) (numbers : List ℕ) (a : ℕ) (outcome : plans.Outcome) (redo : Redo) →
    IsCommitting s w journal when first_tree numbers a outcome → outcome.redo ≡ Some redo → LeadsByOperation s w journal when first_tree a outcome (next s (core.Commit a) Nothing)

-- and without one
abbrev pub CommitsWithoutRecordsAreEvents : Type 0
CommitsWithoutRecordsAreEvents =
    (s : RunMoment) (w : World) (journal : ℕ → Journal) (when : ℕ → ℕ) (first_tree : FileTree) (numbers : List ℕ) (a : ℕ) (outcome : plans.Outcome) →
    IsCommitting s w journal when first_tree numbers a outcome → outcome.redo ≡ None → LeadsByOperation s w journal when first_tree a outcome (next s (core.Commit a) Nothing)
