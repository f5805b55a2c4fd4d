-- What is dirty goes on at each step that isn't of lines, where last operations stay settled.
use Rattle.std.specs.Prelude.{◌≡◌, ℕ, false, List}
use Rattle.tree_definitions.specs.Tree.{FileTree}
use Rattle.core_definitions.specs.Runs.{State as RunMoment, Step}
use Rattle.sector_world.specs.World.{World}
use Rattle.core_world.specs.Journals.{Journal}
use Rattle.core_world.specs.Quiet.{AllQuiet}
use Rattle.core_world.specs.Steps.{Leads}
use Rattle.core_histories.specs.Steps.{HasStoryAt}
use Rattle.core_commit_steps.specs.Moments.{LastsAreSettled}
use Rattle.core_run_ties.specs.Ties.{StandsFurther}
use Rattle.core_runs.specs.Journals.{journals_next}
use Rattle.core_runs.specs.Kept.{IsKeptAlong}
use Rattle.core_runs.specs.Open.{DirtGoesOn, is_line_step}

-- at each step that isn't of lines, by quiet events, the last operation of each mounted server is settled, or its whole log is acknowledged
abbrev pub LastsGoOn : World → Type 0
LastsGoOn first =
    (s v : RunMoment) (w : World) (journal : ℕ → Journal) (when : ℕ → ℕ) (first_tree : FileTree) (numbers : List ℕ) (step : Step s v) →
    (kept : IsKeptAlong (StandsFurther first) s w journal when first_tree numbers) → is_line_step s v step ≡ false →
    (leads : Leads w v (journals_next s v w step journal)) → AllQuiet v.core.setting.segments w leads.events → HasStoryAt when first_tree numbers s v w leads.world kept.told step →
    LastsAreSettled v.core.servers leads.world

-- then what is dirty goes on
abbrev pub DirtGoesOnByLasts : World → Type 0
DirtGoesOnByLasts first = LastsGoOn first → DirtGoesOn (StandsFurther first)
