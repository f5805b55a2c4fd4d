-- What a tree holds can be said: targets are targets.
use Rattle.std.specs.Prelude.{◌≡◌, ℕ, if◌then◌else◌, IsTrue, List, [], ◌∷◌}
use Rattle.frang_base.specs.Name.{is_target}
use Rattle.frang_base.specs.declared.said.Said.{Said}
use Rattle.script_definitions.specs.SaidReading.{IsProperSaid}
use Rattle.tree_definitions.specs.declared.node.Node.{Node}
use Rattle.tree_definitions.specs.declared.node.Node.TheVariants.{Dir, File, Link}
use Rattle.tree_definitions.specs.Tree.{FileTree, count_of}

-- 1 for a symbolic link to what is no target, else 0
abbrev pub odd_target : Node → ℕ
odd_target (Link target links) = if is_target target then 0 else 1
odd_target (Dir entries blocks) = 0
odd_target (File cells links when) = 0

-- every symbolic link has a target
abbrev pub HasTargets : FileTree → Type 0
HasTargets tree = count_of odd_target tree ≡ 0

-- a symbolic link's target is one
abbrev pub HasTarget : Node → Type 0
HasTarget (Link target links) = IsTrue (is_target target)
HasTarget _ = Unit {0}

-- lines that can be said
abbrev pub AreProper : List Said → Type 0
AreProper [] = Unit {0}
AreProper (said ∷ lines) = IsProperSaid said × AreProper lines
