-- Of the deeds that are left operations are done under the locks of what their entries touch, see what is under their locks, and say what they showed; and what a recovery put into doubt covers what it marked.
use Rattle.std.specs.Prelude.{◌≡◌, ℕ, true, is_some, List, [], ◌∷◌}
use Rattle.frang_base.specs.Locks.{has_lock}
use Rattle.frang_base.specs.declared.lock.LockId.{LockId}
use Rattle.frang_base.specs.declared.lock.LockId.TheVariants.{Node}
use Rattle.tree_definitions.specs.declared.history.Entry.{Entry}
use Rattle.tree_definitions.specs.Touched.{shape_of, touches}
use Rattle.tree_definitions.specs.Tree.{FileTree, node_at}
use Rattle.sector_bytes.specs.Blocks.{Block}
use Rattle.sector_world.specs.Histories.{Commit, logical}
use Rattle.sector_world.specs.Seen.{cover_of}
use Rattle.disk_definitions.specs.Naming.{Naming}
use Rattle.disk_definitions.specs.Ask.{run}
use Rattle.disk_definitions.specs.Meets.{IsOfTree}
use Rattle.disk_definitions.specs.Plans.{Finish}
use Rattle.disk_definitions.specs.Plans.Plan.{Finishes}
use Rattle.disk_definitions.specs.Lines.{plan_of_line}
use Rattle.line_histories.specs.LinePlans.{hand_on}
use Rattle.line_histories.specs.Following.{store_after}
use Rattle.byte_trees.specs.Deeds.{Deed, Does, Says, Doubts, items, tree_after}
use Rattle.stop_laws.specs.Cells.{CoversMarks, having}

-- an operation has the lock of each node that is there and that its entry touches, and sees each sector of bytes under a lock that it uses
pub record IsUnderLocks (segments : ℕ) (opening : ℕ → Block) (home : ℕ → LockId) (first_tree : FileTree) (c : Commit) (e : Entry) (older : List Deed) : Type 0 where
  pub uses : (birth : ℕ) (naming : Naming) → IsOfTree (store_after segments opening (items older)) (shape_of (tree_after first_tree older)) naming →
      is_some (node_at (shape_of (tree_after first_tree older)) birth) ≡ true → touches (tree_after first_tree older) e birth ≡ true →
      has_lock (Node (naming.inode birth)) c.uses ≡ true
  pub sees : (sector : ℕ) → has_lock (cover_of home (items older) sector) c.uses ≡ true → c.sees sector ≡ true

-- its entry says what the line's plan says where each sector of bytes reads as the operation showed it
abbrev pub SaysWhatItShowed : (segments : ℕ) → (ℕ → ℕ) → (ℕ → Block) → Commit → Entry → List Deed → Type 0
SaysWhatItShowed segments when opening c e older =
    (finish : Finish) →
    run (plan_of_line (hand_on segments (logical opening (items older)) c.hint) c.op (when c.op) c.asked) (having c.shown (store_after segments opening (items older))) ≡ Finishes finish →
    e.reply ≡ finish.reply

-- so it is of each deed, and its entry says what the operation showed; and the cells that a recovery put into doubt cover the sectors that it marked
abbrev pub AreKept : (segments : ℕ) → (ℕ → ℕ) → (ℕ → Block) → (ℕ → LockId) → FileTree → List Deed → Type 0
AreKept segments when opening home first_tree [] = Unit {0}
AreKept segments when opening home first_tree (Does c e ∷ older) =
    IsUnderLocks segments opening home first_tree c e older × SaysWhatItShowed segments when opening c e older × AreKept segments when opening home first_tree older
AreKept segments when opening home first_tree (Says e ∷ older) = AreKept segments when opening home first_tree older
AreKept segments when opening home first_tree (Doubts marked runs ∷ older) =
    CoversMarks segments opening first_tree marked runs older × AreKept segments when opening home first_tree older
