-- One more of what is kept, each at its place.
use Rattle.std.proofs.Common.{◌≡◌, ℕ, ◌+◌, ◌<◌, ⊎_elim, List, [], ◌∷◌, ◌++◌, length, sym, ap, ◌∙◌, subst, arith}
use Rattle.std.specs.Prelude.{slice_index_or}
use Rattle.std.proofs.Math.Seq.{get_or-append_seam}
use Rattle.std.proofs.lemmas.List.{get_or_append_left}
use Rattle.std.proofs.lemmas.Bool.{cases_eq}

pub one_more : {X : Type 0} (n : ℕ) (items : List X) (x d : X) (f : ℕ → X) → length items ≡ n → ((k : ℕ) → k < n → slice_index_or items k d ≡ f k) → x ≡ f n
    → (k : ℕ) → k < n + 1 → slice_index_or (items ++ x ∷ []) k d ≡ f k
one_more n items x d f e kept own k l =
    let there : slice_index_or (items ++ x ∷ []) n d ≡ f n = ap (λ j. slice_index_or (items ++ x ∷ []) j d) (sym e) ∙ get_or-append_seam items x [] d ∙ own in
    ⊎_elim
    (λ same. subst (λ j. slice_index_or (items ++ x ∷ []) j d ≡ f j) (sym same) there)
    (λ other. let less : k < n = omega arith in get_or_append_left items (x ∷ []) d k (subst (λ m. k < m) (sym e) less) ∙ kept k less)
    (cases_eq k n)
