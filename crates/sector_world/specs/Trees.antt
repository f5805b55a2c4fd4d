-- Trees for which the sectors stand. `Tree` is any type, `stands` any relation, `apply` any function, and `fresh` any relation
-- that says that a number may be that of a tree's next operation.
use Rattle.std.specs.Prelude.{ℕ, ◌≡◌, ◌≢◌, Bool, List, [], ◌∷◌, Some, if◌then◌else◌}
use Rattle.frang_base.specs.declared.op.Op.{Op}
use Rattle.frang_base.specs.declared.reply.Reply.{Reply}
use Rattle.sector_bytes.specs.Blocks.{Block, zero_block}
use Rattle.sector_bytes.specs.Replays.{change_at, forced}
use Rattle.sector_world.specs.Histories.{Commit, Item, settled, is_logged, Each}
use Rattle.sector_world.specs.Histories.Item.{Done, Doubt}
use Rattle.sector_world.specs.Plans.{Plan, Outcome}
use Rattle.sector_world.specs.World.{World}
use Rattle.sector_world.specs.Steps.{Event, after}
use Rattle.sector_world.specs.Steps.Event.{Do}
use Rattle.sector_world.specs.Logged.{now_of}
use Rattle.sector_world.specs.Claims.{left, replayed}

-- a relation, given by all that shows it: each piece of evidence is of one left and one right side
abbrev pub Related : {Evidence Left Right : Type 0} → (Evidence → Left) → (Evidence → Right) → Left → Right → Type 0
Related {Evidence} left_of right_of left right = (e : Evidence) × (left_of e ≡ left) × (right_of e ≡ right)

-- what a tree says of an operation
pub record Applied (Tree : Type 0) : Type 0 where
  pub reply : Reply
  pub tree : Tree

-- what an operation with this number makes of a tree, where so many directory blocks are counted
abbrev pub Apply : Type 0 → Type 0
Apply Tree = (n : ℕ) → Op → (blocks : ℕ) → Tree → Applied Tree

-- over sectors that stand for a tree to which the number is new, an outcome answers as the tree does, and its changes lead to
-- sectors that stand for the new tree; other numbers stay new to it
pub record Meets (Tree : Type 0) (stands : (ℕ → Block) → Tree → Type 0) (apply : Apply Tree) (fresh : ℕ → Tree → Type 0)
    (n : ℕ) (op : Op) (tree : Tree) (disk : ℕ → Block) (o : Outcome) : Type 0 where
  pub answer : o.reply ≡ (apply n op o.blocks tree).reply
  pub next : stands (λ s. forced (change_at o.changes s) (disk s)) (apply n op o.blocks tree).tree
  pub others : (m : ℕ) → m ≢ n → fresh m tree → fresh m (apply n op o.blocks tree).tree

-- so it is for every operation, tree and disk, wherever the plan comes to an outcome
abbrev pub MeetsTree : (Tree : Type 0) → Plan → ((ℕ → Block) → Tree → Type 0) → Apply Tree → (ℕ → Tree → Type 0) → Type 0
MeetsTree Tree plan stands apply fresh = (hint : List ℕ) (n : ℕ) (op : Op) (tree : Tree) (disk : ℕ → Block) (o : Outcome) → stands disk tree → fresh n tree → plan hint n op disk ≡ Some o → Meets Tree stands apply fresh n op tree disk o

-- the operations of a run have numbers that are new: to the first tree, and to the operations before them
pub record IsNew (Tree : Type 0) (fresh : ℕ → Tree → Type 0) (first : Tree) (w : World) (c : Commit) : Type 0 where
  pub unused : fresh c.op first
  pub others : Each (λ e. e.op ≢ c.op) (settled w.history)

-- if the event is an operation, its number is new
abbrev pub NewIf : (Tree : Type 0) → (ℕ → Tree → Type 0) → Tree → World → Event → Type 0
NewIf Tree fresh first w (Do c) = IsNew Tree fresh first w c
NewIf Tree fresh first w e = Unit {0}

-- so are those of all operations of a run
abbrev pub AreNew : (Tree : Type 0) → (ℕ → Tree → Type 0) → Tree → World → List Event → Type 0
AreNew Tree fresh first w [] = Unit {0}
AreNew Tree fresh first w (e ∷ es) = NewIf Tree fresh first w e × AreNew Tree fresh first (after w e) es

-- the numbers of the operations differ, and are new to the first tree
abbrev pub Distinct : {Tree : Type 0} → (ℕ → Tree → Type 0) → Tree → List Item → Type 0
Distinct fresh first [] = Unit {0}
Distinct fresh first (Done c ∷ h) = fresh c.op first × Each (λ e. e.op ≢ c.op) h × Distinct fresh first h
Distinct fresh first (Doubt m ∷ h) = Distinct fresh first h

-- the tree after these operations
abbrev pub tree_of : {Tree : Type 0} → Apply Tree → Tree → List Item → Tree
tree_of apply first [] = first
tree_of apply first (Done c ∷ h) = (apply c.op c.asked c.blocks (tree_of apply first h)).tree
tree_of apply first (Doubt m ∷ h) = tree_of apply first h

-- each answer is the tree's
abbrev pub Answers : {Tree : Type 0} → Apply Tree → Tree → List Item → Type 0
Answers apply first [] = Unit {0}
Answers apply first (Done c ∷ h) = (c.reply ≡ (apply c.op c.asked c.blocks (tree_of apply first h)).reply) × Answers apply first h
Answers apply first (Doubt m ∷ h) = Answers apply first h

-- the sectors with versions of a disk, after these operations, and zeros for the others
abbrev pub with_versions : World → List Item → (ℕ → Block) → ℕ → Block
with_versions w h disk s = if is_logged w.logged h s then disk s else zero_block

-- the sectors with versions of the first disk, and zeros for the others
abbrev pub first_disk : (ℕ → Bool) → (ℕ → Block) → ℕ → Block
first_disk logged disk s = if logged s then disk s else zero_block

-- what holds of trees after a run
pub record Stand (Tree : Type 0) (stands : (ℕ → Block) → Tree → Type 0) (apply : Apply Tree) (first : Tree) (w : World) : Type 0 where
  -- the answers are those of one tree, also without what recoveries of all logs would remove
  pub answers : Answers apply first (settled w.history)
  pub left_answers : Answers apply first (left w w.servers)
  -- the logical sectors stand for the tree, and the disk with all logs replayed for the tree that is left
  pub now : stands (now_of w) (tree_of apply first (settled w.history))
  pub replay : stands (with_versions w (left w w.servers) (replayed w w.servers)) (tree_of apply first (left w w.servers))
