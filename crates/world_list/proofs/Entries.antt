-- Maps made of entries, put in one after the other.
use Rattle.std.proofs.Common.{◌≡◌, ◌≢◌, ⊎_elim, ℕ, true, ◌||◌, List, [], ◌∷◌, fold, is_some, sym, ap, ◌∙◌, subst}
use mathlib.Core.Bool.{or-false, or-true}
use Rattle.std.specs.Map.{keys_of}
use Rattle.std.proofs.lemmas.Bool.{cases_eq}
use Rattle.frang_base.specs.Functions.{member}
use Rattle.sector_bytes.specs.SectorMaps.{Ascend, value_at, with_value}
use Rattle.sector_bytes.proofs.MapLaws.{ascend_with}
use Rattle.log_slots.proofs.Maps.{at_with, member_here, member_other, other_with}

module _ {V : Type 0} where
  pub of_entries : (entries before : List (ℕ × V)) (s : ℕ) →
      is_some (value_at (fold (λ all entry. with_value all entry.0 entry.1) before entries) s) ≡ (is_some (value_at before s) || member s (keys_of entries))
  of_entries [] before s = sym (or-false (is_some (value_at before s)))
  of_entries (e ∷ es) before s = of_entries es (with_value before e.0 e.1) s ∙ ⊎_elim here there (cases_eq s e.0)
    where
      here : s ≡ e.0 → (is_some (value_at (with_value before e.0 e.1) s) || member s (keys_of es)) ≡ (is_some (value_at before s) || member s (e.0 ∷ keys_of es))
      here h =
          ap (λ b. b || member s (keys_of es)) (subst (λ n. is_some (value_at (with_value before e.0 e.1) n) ≡ true) (sym h) (ap is_some (at_with before e.0 e.1)))
          ∙ sym (ap (λ b. is_some (value_at before s) || b) (subst (λ n. member s (n ∷ keys_of es) ≡ true) h (member_here s (keys_of es))) ∙ or-true (is_some (value_at before s)))

      there : s ≢ e.0 → (is_some (value_at (with_value before e.0 e.1) s) || member s (keys_of es)) ≡ (is_some (value_at before s) || member s (e.0 ∷ keys_of es))
      there h = ap (λ o. is_some o || member s (keys_of es)) (other_with before e.0 e.1 s h) ∙ sym (ap (λ b. is_some (value_at before s) || b) (member_other s e.0 (keys_of es) h))

  pub entries_ascend : (entries before : List (ℕ × V)) → Ascend before → Ascend (fold (λ all entry. with_value all entry.0 entry.1) before entries)
  entries_ascend [] before s = s
  entries_ascend (e ∷ es) before s = entries_ascend es (with_value before e.0 e.1) (ascend_with e.0 e.1 before s)
