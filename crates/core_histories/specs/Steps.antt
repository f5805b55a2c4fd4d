-- What happened is told on at each step, where the world's history goes on as the laws of its event say.
use Rattle.std.specs.Prelude.{ℕ, ◌≡◌, ◌||◌, false, List, Some}
use Rattle.tree_definitions.specs.Tree.{FileTree}
use Rattle.core_definitions.specs.Cores.{clean_at, stage}
use Rattle.core_definitions.specs.Events.{Event, Answer, Close, Commit, Finish}
use Rattle.core_definitions.specs.Lines.{Finishing}
use Rattle.core_definitions.specs.Plans as plans
use Rattle.core_definitions.specs.Recoveries.{Recovery}
use Rattle.core_definitions.specs.Runs.{State as RunMoment, Step, Event_}
use Rattle.sector_world.specs.Histories.Entry.{Did, Recovered}
use Rattle.sector_world.specs.World.{World}
use Rattle.core_world.specs.Events.{IsSameStory}
use Rattle.core_world.specs.Journals.{Journal}
use Rattle.core_lives.specs.Idle.{begins_mount, ends_mount, tells_sync}
use Rattle.core_lives.specs.Lives.{HasEntry}
use Rattle.core_commits.specs.Commits.{AreClaimedClean}
use Rattle.core_commits.specs.Moments.{IsOfARun, IsOperation, LinesAreNumbered, operation_at}
use Rattle.core_commits.specs.Standing.{tree_now}
use Rattle.core_histories.specs.Tellings.{IsTold}
use Rattle.core_histories.specs.Told.{HasItsStory, KeepsWhatItReports}

-- the history has the operation of the line that a Commit finishes, whose claims are cached clean
pub record HasItsOperation (when : ℕ → ℕ) (first_tree : FileTree) (s : RunMoment) (w u : World) (a : ℕ) : Type 0 where
  pub outcome : plans.Outcome
  pub at : stage s.core a ≡ Some (Finishing outcome)
  pub op : IsOperation s w when (tree_now when first_tree w) a outcome
  pub clean : AreClaimedClean (s.core.servers a).cache (operation_at s w when (tree_now when first_tree w) a outcome op)
  pub entry : HasEntry w u (Did (operation_at s w when (tree_now when first_tree w) a outcome op))

-- it has the end of this recovery, which keeps what it reports
pub record HasItsEnd (when : ℕ → ℕ) (first_tree : FileTree) (numbers : List ℕ) (s : RunMoment) (w u : World) (told : IsTold when first_tree numbers s w) (recovery : Recovery) : Type 0 where
  pub entry : HasEntry w u (Recovered recovery.dead (w.durable recovery.dead))
  pub keeps : KeepsWhatItReports s w first_tree told.happened recovery

-- how the history goes on at an event
abbrev pub HasStoryOf : (when : ℕ → ℕ) (first_tree : FileTree) (numbers : List ℕ) (s : RunMoment) (w u : World) → IsTold when first_tree numbers s w → Event → Type 0
HasStoryOf when first_tree numbers s w u told (Commit a) = HasItsOperation when first_tree s w u a
HasStoryOf when first_tree numbers s w u told (Answer a) = HasItsStory (begins_mount s.core a) (ends_mount s.core a || tells_sync s.core a) w u a
HasStoryOf when first_tree numbers s w u told (Close a) = HasItsStory false (clean_at s.core a) w u a
HasStoryOf when first_tree numbers s w u told (Finish by) = (recovery : Recovery) → (s.core.servers by).recovery ≡ Some recovery → HasItsEnd when first_tree numbers s w u told recovery
HasStoryOf when first_tree numbers s w u told event = IsSameStory w u

-- and at a step beside the events
abbrev pub HasStoryAt : (when : ℕ → ℕ) (first_tree : FileTree) (numbers : List ℕ) (s v : RunMoment) (w u : World) → IsTold when first_tree numbers s w → Step s v → Type 0
HasStoryAt when first_tree numbers s v w u told (Event_ event heard makes) = HasStoryOf when first_tree numbers s w u told event
HasStoryAt when first_tree numbers s v w u told step = IsSameStory w u

-- so it is told on at each
abbrev pub StepsAreTold : Type 0
StepsAreTold =
    (s v : RunMoment) (w u : World) (journal : ℕ → Journal) (when : ℕ → ℕ) (first_tree : FileTree) (numbers : List ℕ) (step : Step s v) →
    IsOfARun s w journal when first_tree numbers → ((a : ℕ) → LinesAreNumbered s w when first_tree numbers a) → (told : IsTold when first_tree numbers s w) →
    HasStoryAt when first_tree numbers s v w u told step → IsTold when first_tree numbers v u
