-- The sectors that the bytes meet, one after another.
use Rattle.std.proofs.Common.{◌≡◌, ◌<◌, ◌≤◌, ◌+◌, ◌-◌, ◌/◌, ℕ, suc, Ok, Err, List, [], ◌∷◌, ◌++◌, append_assoc, append-nil, sym, ap, ◌∙◌, arith}
use Rattle.std.proofs.Math.Path.{fun_ext}
use Rattle.disk_definitions.specs.Store.{StoredNode}
use Rattle.disk_definitions.specs.Edits.{Edit}
use Rattle.disk_definitions.specs.Ask.{Ask}
use Rattle.disk_definitions.specs.Plans.{Plan}
use Rattle.disk_definitions.specs.FilePlans.{Writing, sectors_met, write_sector, write_sectors}
use Rattle.dir_lookup.specs.declared.need.Need.{Need}
use Rattle.dir_lookup.specs.Reading.{Read, Lacks}
use Rattle.dir_lookup.specs.Hands.{over}
use Rattle.dir_lookup.specs.declared.hand.Hand.{Hand}
use Rattle.plan_steps.specs.Edits.{edit_of}
use Rattle.plan_steps.specs.declared.edit.Edit.{Edit as CodeEdit}
use Rattle.op_data.specs.Writings.{WritesSector, write_behind}

module _ (hand : Hand) (w : Writing) (x y : StoredNode) (next : List Edit → Ask Plan) where
  -- n sectors from t on, with these edits before theirs
  abbrev pub sectors_from : List Edit → ℕ → ℕ → Ask Plan
  sectors_from before t n = write_sectors w x y t n (λ more. next (before ++ more))

  pub sectors_begin : (before : List Edit) (t n : ℕ) → t ≡ w.off / 512 → n ≡ sectors_met w.off w.len → over (sectors_from before t n) hand ≡ over (write_behind w x y before next) hand
  sectors_begin before t n e f = ap (λ t. over (sectors_from before t n) hand) e ∙ ap (λ n. over (sectors_from before (w.off / 512) n) hand) f

  -- the plan from one sector on
  abbrev on_from : List Edit → ℕ → ℕ → List Edit → Ask Plan
  on_from before t m one = write_sectors w x y (t + 1) m (λ more. next (before ++ (one ++ more)))

  opened : (before : List Edit) (t end : ℕ) → t < end → over (write_sector w x y t (on_from before t (end - (t + 1)))) hand ≡ over (sectors_from before t (end - t)) hand
  opened before t end l = let m : suc (end - (t + 1)) ≡ end - t = omega arith in ap (λ n. over (sectors_from before t n) hand) m

  pub sector_needed : (before : List Edit) (t end : ℕ) (need : Need) (want : Read Plan) → t < end → WritesSector hand w x y t (Err need)
      → over (sectors_from before t (end - t)) hand ≡ want → want ≡ Lacks need.0.0
  sector_needed before t end need want l f e = sym e ∙ sym (opened before t end l) ∙ f (on_from before t (end - (t + 1)))

  pub sector_added : (before after : List Edit) (t end : ℕ) (e : CodeEdit) (want : Read Plan) → t < end → WritesSector hand w x y t (Ok e) → after ≡ before ++ edit_of e ∷ []
      → over (sectors_from before t (end - t)) hand ≡ want → over (sectors_from after (t + 1) (end - (t + 1))) hand ≡ want
  sector_added before after t end e want l f a h =
      let same : (λ more. next (after ++ more)) ≡ (λ more. next (before ++ (edit_of e ∷ more))) =
      fun_ext (λ more. ap next (ap (λ a. a ++ more) a ∙ append_assoc before (edit_of e ∷ []) more)) in
      ap (λ g. over (write_sectors w x y (t + 1) (end - (t + 1)) g) hand) same ∙ sym (f (on_from before t (end - (t + 1)))) ∙ opened before t end l ∙ h

  pub sectors_end : (before : List Edit) (t end : ℕ) (want : Read Plan) → end ≤ t → over (sectors_from before t (end - t)) hand ≡ want → want ≡ over (next before) hand
  sectors_end before t end want l h =
      let z : end - t ≡ 0 = omega arith in
      sym h ∙ ap (λ n. over (sectors_from before t n) hand) z ∙ ap (λ es. over (next es) hand) (append-nil before)
