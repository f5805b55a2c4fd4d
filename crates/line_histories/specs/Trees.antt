-- A file tree as the histories of the sector theorem see it: what it says of an operation with its number and its time, and which numbers operations may
-- still have.
use Rattle.std.specs.Prelude.{ℕ, ◌≡◌, ◌<◌, ◌^◌, true, nat_eq, if◌then◌else◌, List, [], ◌∷◌}
use Rattle.frang_base.specs.Functions.{member}
use Rattle.frang_base.specs.declared.reply.Reply.{Reply}
use Rattle.frang_base.specs.declared.reply.Reply.TheVariants as reply
use Rattle.tree_definitions.specs.Tree.{FileTree}
use Rattle.tree_definitions.specs.Apply.{Answer, Plain, Shows}
use Rattle.tree_definitions.specs.Perform.{perform}
use Rattle.tree_definitions.specs.WellFormed.{IsNew}
use Rattle.sector_world.specs.Trees.{Apply}
use Rattle.line_histories.specs.LinePlans.{without_bytes}

-- an answer without the bytes that it shows
abbrev pub reply_of : Answer → Reply
reply_of (Plain said) = without_bytes said
reply_of (Shows cells) = reply.Shown []

-- what the tree says of an operation with this number, at its time, where so many small blocks are or were a directory's
abbrev pub performed : (ℕ → ℕ) → Apply FileTree
performed when n operation blocks tree =
    record { reply = reply_of (perform tree operation n (when n) blocks).answer; tree = (perform tree operation n (when n) blocks).tree }

-- each time may stand in an inode
abbrev pub AreTimes : (ℕ → ℕ) → Type 0
AreTimes when = (n : ℕ) → when n < 2 ^ 64

-- an operation may have this number: it is one of these, no node of the tree has it as its birth, and it may stand in an inode
pub record MayNumber (numbers : List ℕ) (n : ℕ) (tree : FileTree) : Type 0 where
  pub listed : member n numbers ≡ true
  pub new : IsNew tree n
  pub small : n < 2 ^ 64

-- ---- with the numbers that are left

-- a tree, and the numbers that operations may still have
pub record NumberedTree : Type 0 where
  pub tree : FileTree
  pub numbers : List ℕ

-- the numbers but for the first that is this one
abbrev pub without : ℕ → List ℕ → List ℕ
without n [] = []
without n (m ∷ numbers) = if nat_eq m n then numbers else m ∷ without n numbers

-- an operation takes its number
abbrev pub performed_numbered : (ℕ → ℕ) → Apply NumberedTree
performed_numbered when n operation blocks state = record {
  reply = (performed when n operation blocks state.tree).reply;
  tree = record { tree = (performed when n operation blocks state.tree).tree; numbers = without n state.numbers };
}

abbrev pub MayTake : ℕ → NumberedTree → Type 0
MayTake n state = MayNumber state.numbers n state.tree
