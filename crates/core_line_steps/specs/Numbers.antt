-- The numbers of operations: each is that of a line that is answered, and a server's last one is below those of its lines that aren't. So the line under way of a server has a new number.
use Rattle.std.specs.Prelude.{◌≡◌, ◌<◌, ◌≤◌, ℕ, true, false, IsTrue, List, [], ◌∷◌, Some}
use Rattle.std.specs.List.{Contains}
use Rattle.frang_base.specs.Functions.{put}
use Rattle.frang_base.specs.declared.op.Op.{Op}
use Rattle.frang_base.specs.declared.script.Line.{Line}
use Rattle.tree_definitions.specs.Tree.{FileTree}
use Rattle.tree_definitions.specs.Apply.{is_path_op}
use Rattle.disk_definitions.specs.Allowed.{IsAllowed}
use Rattle.core_definitions.specs.LineGuards.{is_server}
use Rattle.core_definitions.specs.Lines.{Under, operation_of}
use Rattle.core_definitions.specs.Runs.{State as RunMoment}
use Rattle.core_definitions.specs.Scripts.{Marks}
use Rattle.core_definitions.specs.Settings.{Setting}
use Rattle.sector_world.specs.Histories.{Commit, Each, settled}
use Rattle.sector_world.specs.Histories.Item.{Done}
use Rattle.sector_world.specs.World.{World}
use Rattle.line_histories.specs.Trees.{MayNumber}
use Rattle.core_world.specs.Steps.{IsReached}
use Rattle.core_commits.specs.Finished.{number_in, time_of}
use Rattle.core_commits.specs.Moments.{LinesAreNumbered}

-- ---- the tie

-- the number is that of an answered line
pub record IsAnswered (setting : Setting) (answered : Marks) (n : ℕ) : Type 0 where
  pub line : ℕ
  pub number : n ≡ number_in setting line
  pub marked : answered line ≡ true

pub record AreNumbered (setting : Setting) (answered : Marks) (w : World) : Type 0 where
  pub done : Each (λ c. IsAnswered setting answered c.op) (settled w.history)
  pub last : (a : ℕ) (line : Line) → Contains setting.script line → line.who.0 ≡ a → answered line.number ≡ false → w.last a < number_in setting line.number

-- ---- what is asked of the script and of the first tree

-- each of its lines for servers may be asked, and has a number that is new to the first tree, and this time
pub record IsAskedWell (setting : Setting) (when : ℕ → ℕ) (first_tree : FileTree) (numbers : List ℕ) : Type 0 where
  pub allowed : (line : Line) (operation : Op) → Contains setting.script line → operation_of line.what ≡ Some operation → IsAllowed operation
  pub new : (line : Line) → Contains setting.script line → MayNumber numbers (number_in setting line.number) first_tree
  pub time : (line : Line) → Contains setting.script line → when (number_in setting line.number) ≡ time_of setting line.number

-- ---- the laws

-- a world that has done nothing
abbrev pub FirstAreNumbered : Type 0
FirstAreNumbered =
    (setting : Setting) (answered : Marks) (w : World) → settled w.history ≡ [] → ((a : ℕ) → w.last a ≡ 0) → ((line : Line) → Contains setting.script line → 0 < number_in setting line.number) →
    AreNumbered setting answered w

-- an operation of the line under way of a server, which is answered with it
abbrev pub OperationsAreNumbered : Type 0
OperationsAreNumbered =
    (s : RunMoment) (w u : World) (a : ℕ) (under : Under) (c : Commit) → IsReached s → IsTrue (is_server a) → (s.core.servers a).under ≡ Some under → AreNumbered s.core.setting s.core.answered w →
    c.op ≡ number_in s.core.setting under.line.number → c.by ≡ a →
    settled u.history ≡ Done c ∷ settled w.history → u.last ≡ put w.last a c.op → AreNumbered s.core.setting (put s.core.answered under.line.number true) u

-- where more lines are answered, nothing is done, and no last number rises
abbrev pub NumbersStay : Type 0
NumbersStay =
    (setting : Setting) (answered more : Marks) (w u : World) → ((n : ℕ) → answered n ≡ true → more n ≡ true) → (Each (λ c. IsAnswered setting answered c.op) (settled w.history) → Each (λ c. IsAnswered setting answered c.op) (settled u.history)) →
    ((a : ℕ) → u.last a ≤ w.last a) → AreNumbered setting answered w → AreNumbered setting more u

-- then the line under way of a server is numbered, where it is over paths
abbrev pub UnderWayIsNumbered : Type 0
UnderWayIsNumbered =
    (s : RunMoment) (w : World) (when : ℕ → ℕ) (first_tree : FileTree) (numbers : List ℕ) (a : ℕ) → IsReached s → IsTrue (is_server a) → AreNumbered s.core.setting s.core.answered w →
    IsAskedWell s.core.setting when first_tree numbers →
    ((under : Under) (operation : Op) → (s.core.servers a).under ≡ Some under → operation_of under.line.what ≡ Some operation → IsTrue (is_path_op operation)) →
    LinesAreNumbered s w when first_tree numbers a
