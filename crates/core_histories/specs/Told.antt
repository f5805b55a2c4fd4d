-- What happened is told on at each event of which the world's history tells, where it has the entries that the laws of the events name.
use Rattle.std.specs.Prelude.{ℕ, ◌≡◌, Bool, true, false, ◌||◌, List, Some}
use Rattle.tree_definitions.specs.Tree.{FileTree}
use Rattle.disk_definitions.specs.Logs.{greatest_operation}
use Rattle.core_definitions.specs.Cores.{clean_at, stage}
use Rattle.core_definitions.specs.Events.{Answer, Close, Commit, Finish, Nothing}
use Rattle.core_definitions.specs.Lines.{Finishing}
use Rattle.core_definitions.specs.Plans as plans
use Rattle.core_definitions.specs.Recoveries.{Recovery, redos}
use Rattle.core_definitions.specs.Runs.{State as RunMoment, Makes, next}
use Rattle.sector_world.specs.Histories.Entry.{Did, Mounted, Recovered, Synced}
use Rattle.sector_world.specs.Kinds.{Good}
use Rattle.sector_world.specs.World.{World}
use Rattle.core_world.specs.Events.{IsSameStory}
use Rattle.core_world.specs.Journals.{Journal}
use Rattle.core_world.specs.Steps.{IsReached}
use Rattle.core_lives.specs.Idle.{begins_mount, ends_mount, tells_sync}
use Rattle.core_lives.specs.Lives.{HasEntry}
use Rattle.core_commits.specs.Commits.{AreClaimedClean}
use Rattle.core_commits.specs.Moments.{IsOfARun, IsOperation, LinesAreNumbered, operation_at}
use Rattle.core_commits.specs.Standing.{IsOfLines, tree_now}
use Rattle.stop_laws.specs.Happened.{Happening, settle}
use Rattle.stop_laws.specs.Paired.{IsKeptBy}
use Rattle.core_histories.specs.Tellings.{IsTold}

-- ---- answers, and closes

-- what the world's history has of it: that a mount began, or that all of the server's operations are synced; or it is as before
abbrev pub HasItsStory : (mounts covers : Bool) → World → World → ℕ → Type 0
HasItsStory true covers w u a = HasEntry w u (Mounted a (w.last a))
HasItsStory false true w u a = HasEntry w u (Synced a (w.last a))
HasItsStory false false w u a = IsSameStory w u

-- an answer: that of a mount has its entry on both sides; before that of a sync or of an unmount the history of sectors has that it covers all
abbrev pub AnswersAreTold : Type 0
AnswersAreTold =
    (s : RunMoment) (w u : World) (when : ℕ → ℕ) (first_tree : FileTree) (numbers : List ℕ) (a : ℕ) → IsReached s → Good w → Makes s (Answer a) Nothing →
    HasItsStory (begins_mount s.core a) (ends_mount s.core a || tells_sync s.core a) w u a → IsTold when first_tree numbers s w → IsTold when first_tree numbers (next s (Answer a) Nothing) u

-- a close, of which no line is said
abbrev pub ClosesAreTold : Type 0
ClosesAreTold =
    (s : RunMoment) (w u : World) (when : ℕ → ℕ) (first_tree : FileTree) (numbers : List ℕ) (a : ℕ) → IsReached s → Makes s (Close a) Nothing → HasItsStory false (clean_at s.core a) w u a →
    IsTold when first_tree numbers s w → IsTold when first_tree numbers (next s (Close a) Nothing) u

-- ---- ends of recoveries

-- since its server's last mount the recovery keeps as much by the number that it reports as by that up to which the world has operations durable. It is a law of logs, and not shown here
abbrev pub KeepsWhatItReports : RunMoment → World → FileTree → List Happening → Recovery → Type 0
KeepsWhatItReports s w first_tree happened recovery =
    IsKeptBy recovery.dead (greatest_operation (redos s.core.setting.logs recovery)) (w.durable recovery.dead) (settle first_tree happened)

-- an end of a recovery, which says the number that it reports
abbrev pub FinishesAreTold : Type 0
FinishesAreTold =
    (s : RunMoment) (w u : World) (when : ℕ → ℕ) (first_tree : FileTree) (numbers : List ℕ) (by : ℕ) (recovery : Recovery) → Good w → IsOfLines s.core.setting.segments when first_tree numbers w →
    Makes s (Finish by) Nothing → (s.core.servers by).recovery ≡ Some recovery → HasEntry w u (Recovered recovery.dead (w.durable recovery.dead)) →
    (told : IsTold when first_tree numbers s w) → KeepsWhatItReports s w first_tree told.happened recovery → IsTold when first_tree numbers (next s (Finish by) Nothing) u

-- ---- operations

-- A Commit, which says its line, where the world's history has the operation of that line. It rests on the number and time of the line, and on what
-- the line claims being cached clean, so that its operation may be done
abbrev pub CommitsAreTold : Type 0
CommitsAreTold =
    (s : RunMoment) (w u : World) (journal : ℕ → Journal) (when : ℕ → ℕ) (first_tree : FileTree) (numbers : List ℕ) (a : ℕ) (outcome : plans.Outcome) →
    IsOfARun s w journal when first_tree numbers → stage s.core a ≡ Some (Finishing outcome) → LinesAreNumbered s w when first_tree numbers a →
    (op : IsOperation s w when (tree_now when first_tree w) a outcome) → AreClaimedClean (s.core.servers a).cache (operation_at s w when (tree_now when first_tree w) a outcome op) →
    HasEntry w u (Did (operation_at s w when (tree_now when first_tree w) a outcome op)) →
    IsTold when first_tree numbers s w → IsTold when first_tree numbers (next s (Commit a) Nothing) u
