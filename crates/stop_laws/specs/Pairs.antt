-- Nothing that a recovery removes is touched by a later operation of another server.
use Rattle.std.specs.Prelude.{◌≡◌, ◌≢◌, ◌⊎◌, ℕ, true, Bool, is_some, Option, List, ◌∷◌, ◌++◌}
use Rattle.frang_base.specs.declared.lock.LockId.{LockId}
use Rattle.tree_definitions.specs.declared.history.Entry.{Entry}
use Rattle.tree_definitions.specs.Touched.{changes, shape_of, touches}
use Rattle.tree_definitions.specs.Tree.{FileTree, node_at}
use Rattle.sector_bytes.specs.Blocks.{Block}
use Rattle.sector_world.specs.Histories.{Commit, Each, Item}
use Rattle.sector_world.specs.Histories.Item.{Done}
use Rattle.sector_world.specs.Plans.{IsByPlan, Legal}
use Rattle.sector_world.specs.Seen.{IsLost, Unmet}
use Rattle.sector_world.specs.Trees.{Distinct}
use Rattle.line_histories.specs.LinePlans.{sector_plan}
use Rattle.line_histories.specs.Trees.{MayNumber}
use Rattle.byte_trees.specs.Deeds.{Deed, Does, items, tree_after}
use Rattle.stop_laws.specs.Paired.{AreLines}
use Rattle.stop_laws.specs.Sight.{Begins}

-- an operation, and one of another server behind it, with what happened between them; the first is among those that a recovery removes
pub record ComesAfter (server durable : ℕ) (c : Commit) (older : List Deed) (more : List Item) (c2 : Commit) (older2 : List Deed) : Type 0 where
  pub place : items older2 ≡ more ++ Done c ∷ items older
  pub lost : IsLost server durable c
  pub foreign : c2.by ≢ server

-- then it touches no node that is there and that the first changed
abbrev pub NothingLostIsTouched : Type 0
NothingLostIsTouched =
    (segments : ℕ) (when : ℕ → ℕ) (opening : ℕ → Block) (first_tree : FileTree) (numbers : List ℕ) (home : ℕ → LockId) (logged : ℕ → Bool) (first : ℕ → Option Block) →
    Begins segments when opening first_tree numbers home logged first → (server durable : ℕ) (c : Commit) (e : Entry) (older : List Deed) (more : List Item) (c2 : Commit) (e2 : Entry) (older2 : List Deed) →
    Legal (sector_plan segments when) opening (items (Does c2 e2 ∷ older2)) → Distinct (MayNumber numbers) first_tree (items (Does c2 e2 ∷ older2)) → Each IsByPlan (items older2) →
    AreLines when (Does c2 e2 ∷ older2) → AreLines when (Does c e ∷ older) → Unmet server durable (items (Does c2 e2 ∷ older2)) → ComesAfter server durable c older more c2 older2 →
    (birth : ℕ) → (is_some (node_at (shape_of (tree_after first_tree older)) birth) ≡ true) ⊎ (birth ≡ c.op) → is_some (node_at (shape_of (tree_after first_tree older2)) birth) ≡ true →
    changes (tree_after first_tree older) e birth ≡ true → touches (tree_after first_tree older2) e2 birth ≡ true → ⊥
