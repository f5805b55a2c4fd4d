-- A step that is quiet on the side of sectors keeps all that stands beside, but for what its own law says.
use Rattle.std.specs.Prelude.{◌≡◌, ℕ, true, IsTrue, List}
use Rattle.tree_definitions.specs.Tree.{FileTree}
use Rattle.core_definitions.specs.LineGuards.{is_server}
use Rattle.core_definitions.specs.Runs.{State as RunMoment, Step}
use Rattle.sector_world.specs.World.{World}
use Rattle.core_world.specs.Beside.{AreEnds, AreOpen}
use Rattle.core_world.specs.Events.{LeadsQuietly}
use Rattle.core_world.specs.Journals.{Journal}
use Rattle.core_lives.specs.Room.{HasRoom}
use Rattle.core_line_steps.specs.Pending.{AreClearedSo}
use Rattle.core_commit_steps.specs.Lasts.{KeepsReached}
use Rattle.core_commit_steps.specs.Moments.{StandsBeside}

-- what the law of its event says: lines that were answered still are, logs that are acknowledged to their ends stay so, cleared blocks are free and pending, marks lie where operations end, logs are open, and have room
pub record IsSaidBeside (s v : RunMoment) (u : World) (journal : ℕ → Journal) : Type 0 where
  pub answered : (line : ℕ) → s.core.answered line ≡ true → v.core.answered line ≡ true
  pub logs : (a : ℕ) → IsTrue (is_server a) → KeepsReached (s.core.servers a) (v.core.servers a)
  pub cleared : AreClearedSo v.core.servers u
  pub ends : AreEnds v.core.servers u journal
  pub open_ : AreOpen v.core.servers v.core.now v.disk journal
  pub room : (a : ℕ) → IsTrue (is_server a) → HasRoom v a

abbrev pub QuietStepsKeepBeside : Type 0
QuietStepsKeepBeside =
    (s v : RunMoment) (w : World) (journal further : ℕ → Journal) (when : ℕ → ℕ) (first_tree : FileTree) (numbers : List ℕ) → Step s v → StandsBeside s w journal when first_tree numbers →
    (quiet : LeadsQuietly w v further) → IsSaidBeside s v quiet.leads.world further → StandsBeside v quiet.leads.world further when first_tree numbers
