-- Where no death was said nothing is removed, and the disk with all caches laid over it stands for the tree of the live history; where the end was said the disk does.
use Rattle.std.specs.Prelude.{◌≡◌, ℕ, Bool, true, false, List, [], ◌∷◌}
use Rattle.std.specs.List.{list_any}
use Rattle.frang_base.specs.declared.said.Said.{Said}
use Rattle.frang_base.specs.declared.said.Said.TheVariants as said
use Rattle.frang_base.specs.declared.script.Line.{Line}
use Rattle.tree_definitions.specs.declared.history.Item.{Item}
use Rattle.tree_definitions.specs.declared.history.Item.TheVariants.{Did, Recovered}
use Rattle.tree_definitions.specs.History.{Opening, Settled, Stays}
use Rattle.tree_definitions.specs.Live.{live_history}
use Rattle.tree_definitions.specs.Removal.{settled, tree_of}
use Rattle.tree_definitions.specs.Transcript.{Faults, is_end}
use Rattle.tree_definitions.specs.Tree.{FileTree}
use Rattle.sector_world.specs.Claims.{IsQuiet}
use Rattle.sector_world.specs.World.{World}
use Rattle.disk_definitions.specs.Standing.{StandsFor}
use Rattle.core_definitions.specs.Runs.{State as RunMoment, Run, first_state}
use Rattle.core_transcripts.specs.Transcripts.{IsTranscriptButTree}
use Rattle.core_world.specs.Ties.{IsOnDisk}
use Rattle.rest_laws.specs.LaidOver.{laid_over}
use Rattle.headline_definitions.specs.Beginning.{Beginning}
use Rattle.headline_definitions.specs.Headline.{live}
use Rattle.headline_definitions.specs.Laws.{Begins, setting_by}
use Rattle.headline_definitions.specs.Witnessed.{disk_behind, saids_in}
use Rattle.headline_histories.specs.Moments.{IsMomentOf, witnessed_to}

-- ---- without deaths

-- a death
abbrev pub is_death : Said → Bool
is_death (said.Dead s) = true
is_death _ = false

-- the entries of a history, none of which is removed
abbrev pub all_stay : List Item → List Settled
all_stay [] = []
all_stay (Did e ∷ items) = Stays e ∷ all_stay items
all_stay (Recovered server keeps ∷ items) = all_stay items

-- a transcript without deaths tells no recovery: what settles of its history is the history
abbrev pub DeathlessHistoriesStay : Type 0
DeathlessHistoriesStay =
    (script : List Line) (opening : Opening) (faults : Faults) (run : ℕ) (first_tree : FileTree) (saids : List Said) → IsTranscriptButTree script opening faults saids → list_any is_death saids ≡ false →
    settled first_tree (live_history script run saids) ≡ all_stay (live_history script run saids)

-- so over every run in which no death was said nothing is removed
abbrev pub NothingIsRemoved : Type 0
NothingIsRemoved =
    (b : Beginning) (s : RunMoment) → Begins b → (run : Run (first_state (setting_by b) b.disk) s) → list_any is_death (saids_in (witnessed_to b s run)) ≡ false →
    settled b.opening.tree (live b (witnessed_to b s run)) ≡ all_stay (live b (witnessed_to b s run))

-- and the disk of the world with each server's cache laid over it stands for the tree
abbrev pub DeathlessCachesStand : Type 0
DeathlessCachesStand =
    (b : Beginning) (s : RunMoment) (w : World) (when : ℕ → ℕ) (numbers : List ℕ) (m : IsMomentOf b s w when numbers) → list_any is_death (saids_in (witnessed_to b s m.run)) ≡ false →
    StandsFor (laid_over w) (tree_of b.opening (live b (witnessed_to b s m.run)))

-- ---- where nothing is dirty, and at the end

-- where no server of the world is dead and none has anything dirty the run's disk stands for the tree of the live history
abbrev pub QuietDisksStandForTheLive : Type 0
QuietDisksStandForTheLive =
    (b : Beginning) (s : RunMoment) (w : World) (when : ℕ → ℕ) (numbers : List ℕ) (m : IsMomentOf b s w when numbers) → IsOnDisk s.core.setting.segments s.disk w → IsQuiet w →
    StandsFor (disk_behind b.disk (witnessed_to b s m.run)) (tree_of b.opening (live b (witnessed_to b s m.run)))

-- where the end was said the run's disk stands for the tree of the live history, with nothing removed but what recoveries removed that the lines told
abbrev pub TheEndLeavesTheTree : Type 0
TheEndLeavesTheTree =
    (b : Beginning) (s : RunMoment) (w : World) (when : ℕ → ℕ) (numbers : List ℕ) (m : IsMomentOf b s w when numbers) → IsOnDisk s.core.setting.segments s.disk w →
    list_any is_end (saids_in (witnessed_to b s m.run)) ≡ true → StandsFor (disk_behind b.disk (witnessed_to b s m.run)) (tree_of b.opening (live b (witnessed_to b s m.run)))
