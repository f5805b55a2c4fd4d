-- What an answer other than `ok` leaves.
use Rattle.std.specs.Prelude.{◌≡◌, ℕ, Bool, true, false}
use Rattle.frang_base.specs.declared.op.Op.{Op}
use Rattle.frang_base.specs.declared.op.Op.TheVariants as op
use Rattle.tree_definitions.specs.Tree.{FileTree}
use Rattle.tree_definitions.specs.Apply.{Answer, Plain, Shows, apply}
use Rattle.tree_definitions.specs.Perform.{perform}
use Rattle.tree_definitions.specs.Touched.{is_ok}

-- an answer is `ok`
abbrev pub says_ok : Answer → Bool
says_ok (Plain r) = is_ok r
says_ok (Shows cells) = false

-- an operation that looks alone
abbrev pub is_look : Op → Bool
is_look (op.Read path off len) = true
is_look (op.Stat path) = true
is_look (op.List path) = true
is_look (op.Readlink path) = true
is_look (op.Time path) = true
is_look _ = false

-- an answer other than `ok` leaves the tree
abbrev pub RefusalsLeaveTheTree : Type 0
RefusalsLeaveTheTree = (tree : FileTree) (op : Op) (birth when m : ℕ) → says_ok (apply tree op birth when m).answer ≡ false → (apply tree op birth when m).tree ≡ tree

-- a look leaves the tree, whatever it is answered
abbrev pub LooksLeaveTheTree : Type 0
LooksLeaveTheTree = (tree : FileTree) (op : Op) (birth when m : ℕ) → is_look op ≡ true → (apply tree op birth when m).tree ≡ tree

-- an answer other than `ok` leaves the tree, where links are followed too
abbrev pub PerformedRefusalsLeaveTheTree : Type 0
PerformedRefusalsLeaveTheTree = (tree : FileTree) (op : Op) (birth when m : ℕ) → says_ok (perform tree op birth when m).answer ≡ false → (perform tree op birth when m).tree ≡ tree

-- and so does a look
abbrev pub PerformedLooksLeaveTheTree : Type 0
PerformedLooksLeaveTheTree = (tree : FileTree) (op : Op) (birth when m : ℕ) → is_look op ≡ true → (perform tree op birth when m).tree ≡ tree
