-- A line that is met with what is at hand of a disk is run over the disk, and its changes are those over the disk.
use Rattle.std.proofs.Common.{◌≡◌, ℕ, Bool, true, false, if◌then◌else◌, Option, Some, None, List, [], ◌∷◌, ◌++◌, map, refl, sym, ◌∙◌, ap}
use Rattle.frang_base.specs.declared.op.Op.{Op}
use Rattle.frang_base.specs.declared.op.Op.TheVariants as op
use Rattle.tree_definitions.specs.Perform.{resolved as tree_resolved}
use Rattle.tree_definitions.specs.Tree.{FileTree}
use Rattle.sector_bytes.specs.Sectors.{Sectors}
use Rattle.disk_definitions.specs.Store.{Store, store_of}
use Rattle.disk_definitions.specs.Naming.{Naming}
use Rattle.disk_definitions.specs.Held.{Segments}
use Rattle.disk_definitions.specs.Ask.{Sector, Ask, AtHand, Has, run, looks, meet}
use Rattle.disk_definitions.specs.Meets.{IsOfTree, IsHandOf}
use Rattle.disk_definitions.specs.Missing.{is_at_hand, first_missing, unless_missing}
use Rattle.disk_definitions.specs.OnDisk.{AreOfDisk, StandsBelow}
use Rattle.disk_definitions.specs.Plans.{Hand, Plan, Finish}
use Rattle.disk_definitions.specs.Plans.Plan.{Finishes}
use Rattle.disk_definitions.specs.Written.{Cached, at_hand, hand_of, sectors_at_hand, changes_of}
use Rattle.plan_laws.proofs.Deciding.{meets_where}
use Rattle.line_laws.proofs.AtHand.{agrees}
use Rattle.line_laws.proofs.Edited.{hand, where_edited}
use Rattle.line_laws.proofs.OfDisk.{of_tree}
use Rattle.line_laws.proofs.SameChanges.{same_changes}
use Rattle.disk_definitions.specs.Lines.{plan_of_line, resolved}
use Rattle.line_laws.proofs.Covered.{by_finish}
use Rattle.line_laws.proofs.Inside.{lines_inside}
use Rattle.line_laws.proofs.Running.{step_looks, run_performed, looks_performed}

-- where nothing of two lists is missing, nothing is of the second
pub none_later : (c : AtHand) (xs ys : List Sector) → first_missing c (xs ++ ys) ≡ None → first_missing c ys ≡ None
none_later c [] ys e = e
none_later c (x ∷ xs) ys e = by_first (is_at_hand c x) e (none_later c xs ys)
  where
    by_first : (b : Bool) → (if b then first_missing c (xs ++ ys) else Some x) ≡ None → (first_missing c (xs ++ ys) ≡ None → first_missing c ys ≡ None) → first_missing c ys ≡ None
    by_first true e rest = rest e
    by_first false e rest = absurd (cc)

finished : (x : Option Sector) (p : Plan) (f : Finish) → unless_missing x p ≡ Has (Finishes f) → (x ≡ None) × (p ≡ Finishes f)
finished None p f e = (refl, cc)
finished (Some sector) p f e = absurd (cc)

module _ (cached : Cached) (held : Segments) (all : Bool) (sectors : Sectors) (tree : FileTree) (of : AreOfDisk cached held all tree.segments sectors) (below : StandsBelow sectors tree) (birth when : ℕ) (o : Op) (f : Finish) where
  abbrev s : Store
  s = store_of tree.segments sectors

  abbrev h : Hand
  h = hand_of cached held all

  abbrev c : AtHand
  c = at_hand cached held

  abbrev n : Naming
  n = below.stands.naming

  abbrev line : Ask Plan
  line = plan_of_line h birth when o

  is_of : IsOfTree s tree n
  is_of = of_tree sectors tree below

  at : IsHandOf h s tree.segments
  at = hand op.Sync cached held all sectors tree birth when of below

  pub met_is : meet line c ≡ Has (Finishes f) → (first_missing c (looks line s) ≡ None) × (run line s ≡ Finishes f)
  met_is met =
      finished (first_missing c (looks line s)) (run line s) f
      (sym (meets_where line c s (agrees cached held tree.segments sectors of.as_cached below.whole (looks line s) (lines_inside o h s tree n birth when is_of at))) ∙ met)

  pub same_at_hand : first_missing c (looks line s) ≡ None → run line s ≡ Finishes f → changes_of (sectors_at_hand cached held) f.edits ≡ changes_of sectors f.edits
  same_at_hand none is =
      let w = tree_resolved tree o in
      by_finish h s birth when (λ step finish. first_missing c (step_looks h s birth when step) ≡ None → changes_of (sectors_at_hand cached held) finish.edits ≡ changes_of sectors finish.edits) (map n.inode w.trail)
      (λ p g runs none. same_changes (sectors_at_hand cached held) sectors g.edits (where_edited p cached held all sectors tree birth when of below none g runs g.edits (λ e among. among)))
      (λ r none. refl)
      w.step f (sym (run_performed h s birth when tree n is_of o) ∙ is)
      (none_later c (looks (resolved o) s) (step_looks h s birth when w.step) (ap (first_missing c) (sym (looks_performed h s birth when tree n is_of o)) ∙ none))
