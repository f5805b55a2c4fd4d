-- A sector of a file is written, or held bytes of a file before; and a block that the edits give back is in no use after them.
use Rattle.std.proofs.Common.{ℕ, ◌≡◌, inl, inr, ⊎_elim, not, Bool, false, Some, List, refl, sym, ◌∙◌, ap, subst, nat_eq}
use Rattle.std.specs.List.{Contains}
use Rattle.std.specs.Option.{unwrap_or}
use Rattle.std.proofs.lemmas.Bool.{not-true, eq-eqb}
use Rattle.frang_base.specs.declared.op.Op.{Op}
use Rattle.tree_definitions.specs.Tree.{FileTree}
use Rattle.disk_definitions.specs.Store.{Store, Use, is_unused}
use Rattle.disk_definitions.specs.Store.Use.{Fresh}
use Rattle.disk_definitions.specs.Naming.{Naming}
use Rattle.disk_definitions.specs.Edits.{Edit}
use Rattle.disk_definitions.specs.Edits.Edit.{SetInode, SetBit, SetUse, SetPlace, SetLarge, SetBytes, SetLargeBytes}
use Rattle.disk_definitions.specs.Ask.{run}
use Rattle.disk_definitions.specs.Meets.{IsOfTree, IsHandOf}
use Rattle.disk_definitions.specs.PlanOf.{plan_of}
use Rattle.disk_definitions.specs.Plans.{Hand, Finish}
use Rattle.disk_definitions.specs.Plans.Plan.{Finishes}
use Rattle.plan_laws.proofs.Covering.{not_in_none}
use Rattle.disk_definitions.specs.Moves.{use_said, large_said}
use Rattle.plan_laws.specs.Plans.{OfEachFinish}
use Rattle.plan_laws.proofs.Laws.{plans_move}
use Rattle.plan_laws.proofs.OneNode.{is_said}
use Rattle.plan_laws.proofs.Owned.{sayer, something_said}
use Rattle.line_laws.proofs.Lifting.{lifted}
use Rattle.line_histories.specs.Files.{IsWritten, LinesLeaveFilled, GivesBackFree, LinesGiveBackFree}
use Rattle.line_histories.specs.Sectors.{IsPiece}
use Rattle.line_histories.proofs.Fine.{Fine}
use Rattle.line_histories.proofs.Laws.{fine, one_fine, lines_keep_or_write}

pub lines_leave_filled : LinesLeaveFilled
lines_leave_filled o h s tree n birth when f of hand e sector holds = ⊎_elim
    (λ w. inl (subst (IsWritten f.edits) holds.here w))
    (λ kept. inr (record { inode = holds.inode; node = kept.before; is = kept.is; kind = kept.kind; index = holds.index; below = kept.below; here = kept.here ∙ holds.here }))
    (lines_keep_or_write o h s tree n birth when f of hand e holds.inode holds.index holds.node holds.is holds.kind holds.below)

-- ---- what is given back

module _ (P : Edit → Type 0) (s : Store) (b : Use) where
  use_is : (es : List Edit) (k : ℕ) (u : Use) (e : Edit) → Fine P s es b e → use_said k e ≡ Some u → u ≡ b
  use_is es k u (SetUse j v) f q = sym (is_said (nat_eq k j) v u q).1 ∙ f
  use_is es k u (SetInode j x d) f q = absurd (cc)
  use_is es k u (SetBit j v) f q = absurd (cc)
  use_is es k u (SetPlace j p x) f q = absurd (cc)
  use_is es k u (SetLarge g v) f q = absurd (cc)
  use_is es k u (SetBytes j part bytes) f q = absurd (cc)
  use_is es k u (SetLargeBytes j part bytes) f q = absurd (cc)

  large_is : (es : List Edit) (g : ℕ) (u : Bool) (e : Edit) → Fine P s es b e → large_said g e ≡ Some u → not u ≡ is_unused b
  large_is es g u (SetLarge j v) f q = ap not (sym (is_said (nat_eq g j) v u q).1) ∙ f
  large_is es g u (SetInode j x d) f q = absurd (cc)
  large_is es g u (SetBit j v) f q = absurd (cc)
  large_is es g u (SetUse k v) f q = absurd (cc)
  large_is es g u (SetPlace j p x) f q = absurd (cc)
  large_is es g u (SetBytes j part bytes) f q = absurd (cc)
  large_is es g u (SetLargeBytes j part bytes) f q = absurd (cc)

module _ (o : Op) (h : Hand) (s : Store) (tree : FileTree) (n : Naming) (birth when : ℕ) (f : Finish) (of : IsOfTree s tree n) (hand : IsHandOf h s tree.segments) (e : run (plan_of h birth when o) s ≡ Finishes f) where
  abbrev use_now : Use
  use_now = (fine o h s tree n birth when f of hand e).0

  one : (d : Edit) → Contains f.edits d → Fine (IsPiece when o s f) s f.edits use_now d
  one d c = one_fine o h s tree n birth when f of hand e d c

  free : GivesBackFree s n f
  free =
      let tidy = plans_move o h s tree n birth when f of hand e in
      record {
        small = λ k c.
            let r = something_said (use_said k) f.edits (SetUse k Fresh) Fresh c (rw (eq-eqb k k refl) refl) in
            let d = sayer (use_said k) f.edits r.0 r.1 in
            tidy.uses k ∙ ap (λ v. unwrap_or v (s.use_of k)) r.1 ∙ use_is (IsPiece when o s f) s use_now f.edits k r.0 d.0 (one d.0 d.1) d.2 ∙ sym (one (SetUse k Fresh) c);
        large = λ g c.
            let r = something_said (large_said g) f.edits (SetLarge g false) false c (rw (eq-eqb g g refl) refl) in
            let d = sayer (large_said g) f.edits r.0 r.1 in
            tidy.larges g ∙ ap (λ v. unwrap_or v (s.large_bit g)) r.1 ∙ not-true r.0 (large_is (IsPiece when o s f) s use_now f.edits g r.0 d.0 (one d.0 d.1) d.2 ∙ sym (one (SetLarge g false) c));
      }

plans_give_back_free : OfEachFinish plan_of GivesBackFree
plans_give_back_free o h s tree n birth when f of hand e = free o h s tree n birth when f of hand e

pub lines_give_back_free : LinesGiveBackFree
lines_give_back_free =
    lifted GivesBackFree (λ s n trail f law. record { small = law.small; large = law.large })
    (λ s tree n r trail of. record { small = λ k c. absurd (not_in_none (SetUse k Fresh) c); large = λ g c. absurd (not_in_none (SetLarge g false) c) }) plans_give_back_free
