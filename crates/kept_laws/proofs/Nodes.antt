-- The tree along deeds of lines: it is well formed, no node has the number of an operation to come, and a node that an operation changes is there or has its number.
use Rattle.std.proofs.Common.{ℕ, ◌≡◌, ◌≢◌, ◌⊎◌, ⊎_elim, inl, inr, true, is_some, List, ◌∷◌, sym, ◌∙◌, ap, subst}
use Rattle.tree_definitions.specs.declared.history.Entry.{Entry}
use Rattle.tree_definitions.specs.Touched.{changes, shape_of, shaped}
use Rattle.tree_definitions.specs.Tree.{FileTree, node_at}
use Rattle.tree_definitions.specs.WellFormed.{IsNew, IsWellFormed}
use Rattle.tree_laws.proofs.ShapeNodes.{found}
use Rattle.known_laws.proofs.Changed.{changed_are_there_or_new}
use Rattle.sector_bytes.specs.Blocks.{Block}
use Rattle.sector_world.specs.Histories.{Commit, Each}
use Rattle.sector_world.specs.Plans.{Legal}
use Rattle.sector_world.specs.Trees.{Distinct, tree_of}
use Rattle.line_laws.proofs.Shaping.{some_shaped}
use Rattle.line_histories.specs.LinePlans.{sector_plan}
use Rattle.line_histories.specs.Standing.{StandsNumbered}
use Rattle.line_histories.specs.Trees.{AreTimes, MayNumber, MayTake, performed, performed_numbered}
use Rattle.line_histories.proofs.Runs.{both, histories_of_one_tree, numbered, take_distinct}
use Rattle.byte_trees.proofs.Nodes.{well_too}
use Rattle.byte_trees.specs.Deeds.{Deed, Does, items, tree_after}
use Rattle.stop_laws.specs.Along.{HasShape}
use Rattle.stop_laws.specs.Paired.{AreLines}
use Rattle.stop_laws.proofs.Lines.{no_node, shapes_follow}
use Rattle.stop_laws.proofs.Uses.{same_tree}

-- a node that is there is so in the tree's shape
pub there_in_shape : (t : FileTree) (b : ℕ) → is_some (node_at t b) ≡ true → is_some (node_at (shape_of t) b) ≡ true
there_in_shape t b there = ap is_some (found t b) ∙ some_shaped (node_at t b) ∙ there

module _ (segments : ℕ) (when : ℕ → ℕ) (opening : ℕ → Block) (first : FileTree) (numbers : List ℕ) (times : AreTimes when)
    (begins : StandsNumbered segments opening (numbered first numbers)) where
  -- deeds of lines, whose operations are legal and have new numbers
  pub record AreGood (deeds : List Deed) : Type 0 where
    pub legal : Legal (sector_plan segments when) opening (items deeds)
    pub distinct : Distinct (MayNumber numbers) first (items deeds)
    pub lines : AreLines when deeds

  pub good_before : (c : Commit) (e : Entry) (older : List Deed) → AreGood (Does c e ∷ older) → AreGood older
  good_before c e older good = record { legal = good.legal.1; distinct = good.distinct.2; lines = good.lines.1 }

  shape : (deeds : List Deed) → AreGood deeds → HasShape when first deeds
  shape deeds good = shapes_follow segments when opening first numbers deeds times begins good.legal good.distinct good.lines

  -- the same by the tree that goes with the numbers that are left
  pub shape_is : (deeds : List Deed) → AreGood deeds → shape_of (tree_after first deeds) ≡ shape_of (tree_of (performed_numbered when) (numbered first numbers) (items deeds)).tree
  shape_is deeds good = shape deeds good ∙ ap shape_of (sym (same_tree when first numbers (items deeds)))

  pub well : (deeds : List Deed) → AreGood deeds → IsWellFormed (tree_after first deeds)
  well deeds good =
      well_too (tree_of (performed when) first (items deeds)) (tree_after first deeds) (sym (shape deeds good))
      (histories_of_one_tree segments when opening first numbers (items deeds) times begins good.legal good.distinct).stands.well_formed

  -- a number that none of them has, and that may be one of the first tree's to come, is no node's
  pub new_after : (deeds : List Deed) → AreGood deeds → (m : ℕ) → Each (λ e. e.op ≢ m) (items deeds) → MayTake m (numbered first numbers) → IsNew (tree_after first deeds) m
  new_after deeds good m others may =
      let tree = tree_of (performed when) first (items deeds) in
      let none : IsNew tree m =
      subst (λ t. IsNew t m) (same_tree when first numbers (items deeds))
      ((both segments when times opening (numbered first numbers) begins (items deeds) good.legal (take_distinct when first numbers (items deeds) good.distinct)).1 m others may).new in
      no_node (node_at (tree_after first deeds) m) (sym (found (tree_after first deeds) m) ∙ ap (λ t. node_at t m) (shape deeds good) ∙ found tree m ∙ ap shaped none)

  -- so is the number of an operation before it
  pub own_is_new : (c : Commit) (e : Entry) (older : List Deed) → AreGood (Does c e ∷ older) → IsNew (tree_after first older) c.op
  own_is_new c e older good =
      new_after older (good_before c e older good) c.op good.distinct.1 (take_distinct when first numbers (items (Does c e ∷ older)) good.distinct).0

  pub there_or_own : (c : Commit) (e : Entry) (older : List Deed) → AreGood (Does c e ∷ older) → (b : ℕ) → changes (tree_after first older) e b ≡ true →
      (is_some (node_at (tree_after first older) b) ≡ true) ⊎ (b ≡ c.op)
  there_or_own c e older good b changed =
      ⊎_elim (λ there. inl there) (λ own. inr (own ∙ good.lines.0.number))
      (changed_are_there_or_new (tree_after first older) e b (well older (good_before c e older good))
      (subst (IsNew (tree_after first older)) (sym good.lines.0.number) (own_is_new c e older good)) changed)
