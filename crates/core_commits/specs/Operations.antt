-- A finished line of the core may be done: its server has at hand what its outcome uses, once the claimed sectors are fetched.
use Rattle.std.specs.Prelude.{◌≡◌, ◌≢◌, ◌<◌, ℕ, List}
use Rattle.std.specs.Map.{keys_of}
use Rattle.frang_base.specs.declared.op.Op.{Op}
use Rattle.lock_definitions.specs.Locks.{Locks}
use Rattle.sector_bytes.specs.SectorMaps.{Ascend}
use Rattle.tree_definitions.specs.Tree.{FileTree}
use Rattle.core_definitions.specs.Plans as plans
use Rattle.core_definitions.specs.Servers.{Server}
use Rattle.core_definitions.specs.Settings.{Setting}
use Rattle.sector_world.specs.Guards.{CanDo}
use Rattle.sector_world.specs.Histories.{Commit, Each, settled}
use Rattle.sector_world.specs.Kinds.{Good}
use Rattle.sector_world.specs.Plans.{Outcome}
use Rattle.sector_world.specs.World.{World, Up}
use Rattle.line_histories.specs.Trees.{MayNumber}
use Rattle.core_world.specs.Ties.{AreCached, AreHeld}
use Rattle.core_world.specs.Sights.{AreStood}
use Rattle.core_commits.specs.Commits.{AreClaimed, AreClaimedClean, MayBeFetched, commit_of, fetched_world}
use Rattle.core_commits.specs.Finished.{IsOutcomeNow, number_in}
use Rattle.core_commits.specs.Stages.{IsFinished, sight_in}
use Rattle.core_commits.specs.Standing.{AreSegmentsOf, AreWhole, IsOfLines, StandsWhole, tree_now}
use Rattle.core_commits.specs.Zeros.{FreePagesAreZeros}

-- the operation of a server once these sectors are fetched
abbrev pub operation_in : World → (a n : ℕ) → (claimed hint : List ℕ) → Op → Outcome → Commit
operation_in w a n claimed hint asked o = commit_of (fetched_world w a claimed) a n hint asked o

-- the sectors may be fetched, and then it may be done
pub record MayBeDone (w : World) (a n : ℕ) (claimed hint : List ℕ) (asked : Op) (o : Outcome) : Type 0 where
  pub fetched : MayBeFetched w a claimed
  pub good : Good (fetched_world w a claimed)
  pub can : CanDo (fetched_world w a claimed) (operation_in w a n claimed hint asked o)

-- so it is of a finished line whose number is new, where what it claims is cached clean
abbrev pub FinishedLinesMayBeDone : Type 0
FinishedLinesMayBeDone =
    (setting : Setting) (when : ℕ → ℕ) (locks : Locks) (servers : ℕ → Server) (a : ℕ) (w : World) (first_tree : FileTree) (numbers : List ℕ) (outcome : plans.Outcome) (claimed : List ℕ) →
    IsOfLines setting.segments when first_tree numbers w → (on : StandsWhole setting.segments w (tree_now when first_tree w)) → Good w → FreePagesAreZeros w → AreCached servers w → AreHeld locks w →
    AreStood servers w → AreWhole (servers a).cache → Ascend (servers a).cache → w.phase a ≡ Up → (f : IsFinished setting locks a (servers a) outcome) →
    AreSegmentsOf setting.segments f.line.under.set →
    (out : IsOutcomeNow setting.segments when w (sight_in setting (servers a) f.line.under) on.now.stands.naming (number_in setting f.line.under.line.number) f.line.operation f.finish) →
    w.last a < number_in setting f.line.under.line.number → MayNumber numbers (number_in setting f.line.under.line.number) first_tree →
    Each (λ e. e.op ≢ number_in setting f.line.under.line.number) (settled w.history) →
    AreClaimed (operation_in w a (number_in setting f.line.under.line.number) claimed (keys_of (sight_in setting (servers a) f.line.under).held) f.line.operation out.o) claimed →
    AreClaimedClean (servers a).cache (operation_in w a (number_in setting f.line.under.line.number) claimed (keys_of (sight_in setting (servers a) f.line.under).held) f.line.operation out.o) →
    MayBeDone w a (number_in setting f.line.under.line.number) claimed (keys_of (sight_in setting (servers a) f.line.under).held) f.line.operation out.o
