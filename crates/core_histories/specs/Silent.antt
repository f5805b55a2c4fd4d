-- Steps that add nothing to the history that the lines said tell.
use Rattle.std.specs.Prelude.{ℕ, ◌≡◌, Bool, true, false, List, IsTrue}
use Rattle.tree_definitions.specs.Live.{live_history}
use Rattle.tree_definitions.specs.Tree.{FileTree}
use Rattle.sector_world.specs.World.{World}
use Rattle.core_definitions.specs.Events.{Event, Answer, Commit, Finish}
use Rattle.core_definitions.specs.Runs.{State as RunMoment, Step, Event_, saids_of}
use Rattle.core_world.specs.Events.{IsSameStory}
use Rattle.core_world.specs.Steps.{IsReached}
use Rattle.core_histories.specs.Tellings.{IsTold}

-- all but an operation, an answer and the end of a recovery
abbrev pub is_silent : Event → Bool
is_silent (Commit a) = false
is_silent (Answer a) = false
is_silent (Finish by) = false
is_silent event = true

-- so are the steps beside the events
abbrev pub is_silent_step : (s v : RunMoment) → Step s v → Bool
is_silent_step s v (Event_ event heard makes) = is_silent event
is_silent_step s v step = true

-- what is said at such a step is no entry: it is no answer of a server
abbrev pub SilentStepsAddNone : Type 0
SilentStepsAddNone =
    (s v : RunMoment) (step : Step s v) → IsReached s → IsTrue (is_silent_step s v step) →
    live_history s.core.setting.script s.core.setting.run (saids_of v.record_) ≡ live_history s.core.setting.script s.core.setting.run (saids_of s.record_)

-- so where it leaves the world's history, what happened is told on
abbrev pub SilentStepsAreTold : Type 0
SilentStepsAreTold =
    (s v : RunMoment) (w u : World) (when : ℕ → ℕ) (first_tree : FileTree) (numbers : List ℕ) (step : Step s v) → IsReached s → IsTrue (is_silent_step s v step) → IsSameStory w u →
    IsTold when first_tree numbers s w → IsTold when first_tree numbers v u
