-- When a plan meets what its operation does to the tree: over a store that is the picture of the tree.
use Rattle.std.specs.Prelude.{◌≡◌, ◌≤◌, ◌<◌, ◌↔◌, ℕ, ◌*◌, Bool, true, false, is_some, Some, None, List, [], ◌∷◌}
use Rattle.frang_base.specs.declared.limits.TheConstants.{BLOCK_ENTRIES, ROOT_INODE, RUN_LINES_END, SEGMENTS_MAX, SEGMENT_BLOCKS, SEGMENT_INODES}
use Rattle.frang_base.specs.declared.reply.Reply.{Reply}
use Rattle.frang_base.specs.declared.reply.Reply.TheVariants as reply
use Rattle.tree_definitions.specs.declared.cells.Cell.{Cell}
use Rattle.tree_definitions.specs.Tree.{FileTree, node_at}
use Rattle.tree_definitions.specs.Apply.{Answer, Applied}
use Rattle.tree_definitions.specs.Apply.Answer.{Plain, Shows}
use Rattle.tree_definitions.specs.WellFormed.{IsWellFormed}
use Rattle.disk_definitions.specs.Store.{Store, Use, use_by}
use Rattle.disk_definitions.specs.Store.Use.{Fresh}
use Rattle.disk_definitions.specs.Naming.{Naming, Pictures, Allows}
use Rattle.disk_definitions.specs.Least.{count}
use Rattle.disk_definitions.specs.Held.{bitmap_of, inode_in, state_in, large_in}
use Rattle.disk_definitions.specs.Edits.{edited_all}
use Rattle.disk_definitions.specs.Plans.{Hand, Plan, Finish, must_clear}
use Rattle.disk_definitions.specs.Plans.Plan.{Lacks, Clears, Finishes}

-- the store is that of a disk of this tree: its picture, the root in inode 0, births by a script in their inodes, and nothing in use past the segments
pub record IsOfTree (store : Store) (tree : FileTree) (naming : Naming) : Type 0 where
  pub well_formed : IsWellFormed tree
  pub few : tree.segments ≤ SEGMENTS_MAX
  pub pictures : Pictures store (node_at tree) naming
  pub root : naming.inode 0 ≡ ROOT_INODE
  pub births : (birth : ℕ) → is_some (node_at tree birth) ≡ true → RUN_LINES_END ≤ birth → naming.stamp birth ≡ birth
  pub inodes : (inode : ℕ) → store.bit inode ≡ true → inode < SEGMENT_INODES * tree.segments
  pub blocks : (block : ℕ) → SEGMENT_BLOCKS * tree.segments ≤ block → store.use_of block ≡ Fresh
  pub larges : (segment : ℕ) → store.large_bit segment ≡ true → segment < tree.segments

-- the held segments are this store's, and all is true exactly where they are all of its segments; what is known to be zero holds no entries
pub record IsHandOf (hand : Hand) (store : Store) (segments : ℕ) : Type 0 where
  pub within : (segment : ℕ) → is_some (bitmap_of hand.held segment) ≡ true → segment < segments
  pub all : (hand.all ≡ true) ↔ ((segment : ℕ) → segment < segments → is_some (bitmap_of hand.held segment) ≡ true)
  pub bits : (inode : ℕ) (used : Bool) → inode_in hand.held inode ≡ Some used → store.bit inode ≡ used
  pub states : (block state : ℕ) → state_in hand.held block ≡ Some state → store.use_of block ≡ use_by state
  pub larges : (segment : ℕ) (used : Bool) → large_in hand.held segment ≡ Some used → store.large_bit segment ≡ used
  pub zeroed : (block slot : ℕ) → hand.zeroed block ≡ true → slot < BLOCK_ENTRIES → store.place block slot ≡ None

-- the small blocks of a store that are or were a directory's
abbrev pub is_directory_use : Use → Bool
is_directory_use Use.Empty = true
is_directory_use Use.Entries = true
is_directory_use _ = false

abbrev pub directory_blocks_in : Store → ℕ → ℕ
directory_blocks_in store segments = count (λ block. is_directory_use (store.use_of block)) (SEGMENT_BLOCKS * segments)

-- the bytes are those of the cells, a doubtful cell allowing any
abbrev pub AllAllow : List Cell → List ℕ → Type 0
AllAllow [] [] = Unit {0}
AllAllow [] (byte ∷ bytes) = ⊥
AllAllow (cell ∷ cells) [] = ⊥
AllAllow (cell ∷ cells) (byte ∷ bytes) = Allows cell byte × AllAllow cells bytes

-- the reply is the tree's answer
abbrev pub Answers : Answer → Reply → Type 0
Answers (Plain answer) said = said ≡ answer
Answers (Shows cells) (reply.Shown bytes) = AllAllow cells bytes
Answers (Shows cells) _ = ⊥

-- a finished plan: the reply is the tree's answer, and the edited store is that of the tree after the operation
pub record FinishMeets (store : Store) (applied : Applied) (finish : Finish) : Type 0 where
  pub answer : Answers applied.answer finish.reply
  pub naming : Naming
  pub tree : IsOfTree (edited_all store finish.edits) applied.tree naming

-- a plan: it lacks segments only where not all are held, and clears only a block that was never a directory's and isn't known to be zero
abbrev pub PlanMeets : Hand → Store → Applied → Plan → Type 0
PlanMeets hand store applied Lacks = hand.all ≡ false
PlanMeets hand store applied (Clears block locks) = must_clear hand block ≡ true
PlanMeets hand store applied (Finishes finish) = FinishMeets store applied finish
