-- What is open of the step law, each as a statement of its own, from all that stands beside a moment: of the logs, of the events of lines, of what is dirty, and of what recoveries keep.
use Rattle.std.specs.Prelude.{◌≡◌, ℕ, Bool, true, false, IsTrue, Some, is_some, List}
use Rattle.tree_definitions.specs.Tree.{FileTree}
use Rattle.core_definitions.specs.Cores.{Core, stage}
use Rattle.core_definitions.specs.Events.{Event, Again, Clear, Commit, Finish, Nothing}
use Rattle.core_definitions.specs.LineGuards.{done_by}
use Rattle.core_definitions.specs.Recoveries.{Recovery}
use Rattle.core_definitions.specs.Runs.{State as RunMoment, Step, Event_, Makes, next}
use Rattle.sector_world.specs.World.{World}
use Rattle.core_world.specs.Journals.{Journal}
use Rattle.core_world.specs.Quiet.{AllQuiet}
use Rattle.core_world.specs.Steps.{Leads}
use Rattle.core_histories.specs.Steps.{HasStoryAt, HasStoryOf}
use Rattle.core_histories.specs.Told.{KeepsWhatItReports}
use Rattle.core_runs.specs.Journals.{journals_after, journals_next}
use Rattle.core_runs.specs.Kept.{Further, IsDirtSo, IsKeptAlong, LogsStand, StandsBeside}

-- ---- the events of lines that do something

-- a line is finished, has a block cleared, or reclaims
abbrev pub is_of_lines : Core → Event → Bool
is_of_lines c (Commit a) = true
is_of_lines c (Clear a block) = true
is_of_lines c (Again a) = is_some (done_by (stage c a))
is_of_lines c event = false

-- a step is such an event
abbrev pub is_line_step : (s v : RunMoment) → Step s v → Bool
is_line_step s v (Event_ event heard makes) = is_of_lines s.core event
is_line_step s v step = false

-- events that may happen lead on, the history goes on as the event says, and what stands beside goes on
pub record LineLeads (Beside : Further) (s : RunMoment) (w : World) (journal : ℕ → Journal) (when : ℕ → ℕ) (first_tree : FileTree) (numbers : List ℕ)
    (kept : IsKeptAlong Beside s w journal when first_tree numbers) (event : Event) : Type 0 where
  pub leads : Leads w (next s event Nothing) (journals_after s w event Nothing journal)
  pub story : HasStoryOf when first_tree numbers s w leads.world kept.told event
  pub beside : StandsBeside (next s event Nothing) leads.world (journals_after s w event Nothing journal) when first_tree numbers

-- so is each of these
abbrev pub LinesLeadOn : Further → Type 0
LinesLeadOn Beside =
    (s : RunMoment) (w : World) (journal : ℕ → Journal) (when : ℕ → ℕ) (first_tree : FileTree) (numbers : List ℕ) (event : Event) →
    (kept : IsKeptAlong Beside s w journal when first_tree numbers) → IsTrue (is_of_lines s.core event) → Makes s event Nothing → LineLeads Beside s w journal when first_tree numbers kept event

-- ---- logs

-- at each step, by whatever events it leads on
abbrev pub LogsGoOn : Further → Type 0
LogsGoOn Beside =
    (s v : RunMoment) (w : World) (journal : ℕ → Journal) (when : ℕ → ℕ) (first_tree : FileTree) (numbers : List ℕ) (step : Step s v) → IsKeptAlong Beside s w journal when first_tree numbers →
    (leads : Leads w v (journals_next s v w step journal)) → LogsStand v leads.world (journals_next s v w step journal)

-- ---- what is dirty

-- at each step that isn't of lines, by quiet events
abbrev pub DirtGoesOn : Further → Type 0
DirtGoesOn Beside =
    (s v : RunMoment) (w : World) (journal : ℕ → Journal) (when : ℕ → ℕ) (first_tree : FileTree) (numbers : List ℕ) (step : Step s v) →
    (kept : IsKeptAlong Beside s w journal when first_tree numbers) → is_line_step s v step ≡ false →
    (leads : Leads w v (journals_next s v w step journal)) → AllQuiet v.core.setting.segments w leads.events → HasStoryAt when first_tree numbers s v w leads.world kept.told step →
    IsDirtSo v leads.world (journals_next s v w step journal)

-- ---- what recoveries keep

-- what else stands beside goes on at each step
abbrev pub FurtherGoesOn : Further → Type 0
FurtherGoesOn Beside =
    (s v : RunMoment) (w : World) (journal : ℕ → Journal) (when : ℕ → ℕ) (first_tree : FileTree) (numbers : List ℕ) (step : Step s v) →
    (kept : IsKeptAlong Beside s w journal when first_tree numbers) → (leads : Leads w v (journals_next s v w step journal)) →
    HasStoryAt when first_tree numbers s v w leads.world kept.told step → StandsBeside v leads.world (journals_next s v w step journal) when first_tree numbers →
    LogsStand v leads.world (journals_next s v w step journal) → Beside v leads.world (journals_next s v w step journal)

-- so a recovery keeps, since its server's last mount, as much by the number that it reports as by the world's
abbrev pub RecoveriesKeepTheirReports : Further → Type 0
RecoveriesKeepTheirReports Beside =
    (s : RunMoment) (w : World) (journal : ℕ → Journal) (when : ℕ → ℕ) (first_tree : FileTree) (numbers : List ℕ) (by : ℕ) (recovery : Recovery) →
    (kept : IsKeptAlong Beside s w journal when first_tree numbers) → Makes s (Finish by) Nothing → (s.core.servers by).recovery ≡ Some recovery →
    KeepsWhatItReports s w first_tree kept.told.happened recovery
