-- A list of numbers whose first n are set to those of a function, one after another.
use Rattle.std.proofs.Common.{◌≡◌, ◌<◌, ◌≤◌, ◌+◌, ℕ, true, false, cond, nat_lt, List, length, get_or, set, slice_index, sym, ap, ◌∙◌, arith, ⊎_elim}
use Rattle.std.proofs.Math.Path.{fun_ext}
use Rattle.std.proofs.lemmas.Bool.{cases_eq, cases_lt}
use Rattle.std.proofs.lemmas.Bool.Decides.{nat_tests}
use Rattle.std.proofs.lemmas.List.{get_or-set_same, get_or-set_other, get_or_past}

-- the first n are f's, the others as they were
abbrev pub SetBelow : List ℕ → (ℕ → ℕ) → (ℕ → ℕ) → ℕ → Type 0
SetBelow xs f old n = (i : ℕ) → get_or xs i 0 ≡ cond (nat_lt i n) (f i) (old i)

one_later : (i n : ℕ) → (i ≡ n → ⊥) → nat_lt i n ≡ nat_lt i (n + 1)
one_later i n e = grind (arith, nat_tests)

pub set_more : (xs : List ℕ) (f old : ℕ → ℕ) (n v : ℕ) → n < length xs → v ≡ f n → SetBelow xs f old n → SetBelow (set xs n v) f old (n + 1)
set_more xs f old n v l e h i = ⊎_elim here there (cases_eq i n)
  where
    here : i ≡ n → get_or (set xs n v) i 0 ≡ cond (nat_lt i (n + 1)) (f i) (old i)
    here s =
        let t : nat_lt i (n + 1) ≡ true = grind (arith, nat_tests) in
        ap (λ i. get_or (set xs n v) i 0) s ∙ get_or-set_same xs n v 0 l ∙ e ∙ ap f (sym s) ∙ ap (λ b. cond b (f i) (old i)) (sym t)

    there : (i ≡ n → ⊥) → get_or (set xs n v) i 0 ≡ cond (nat_lt i (n + 1)) (f i) (old i)
    there s = get_or-set_other xs n i v 0 s ∙ h i ∙ ap (λ b. cond b (f i) (old i)) (one_later i n s)

-- all below an end are set, and past it f and the list are 0
pub set_all : (xs : List ℕ) (f old g : ℕ → ℕ) (end n : ℕ) → end ≤ n → ((i : ℕ) → i < end → f i ≡ g i) → ((i : ℕ) → end ≤ i → get_or xs i 0 ≡ g i) → SetBelow xs f old n → slice_index xs ≡ g
set_all xs f old g end n l below past h = fun_ext (λ i. ⊎_elim (low i) (past i) (cases_lt i end))
  where
    low : (i : ℕ) → i < end → get_or xs i 0 ≡ g i
    low i m =
        let t : nat_lt i n ≡ true = grind (arith, nat_tests) in
        h i ∙ ap (λ b. cond b (f i) (old i)) t ∙ below i m

pub past_end : (xs : List ℕ) (end i : ℕ) → length xs ≡ end → end ≤ i → get_or xs i 0 ≡ 0
past_end xs end i e l = get_or_past xs i 0 (omega (arith, e))

pub none_set : (xs : List ℕ) (f old : ℕ → ℕ) → ((i : ℕ) → get_or xs i 0 ≡ old i) → SetBelow xs f old 0
none_set xs f old h i = let t : nat_lt i 0 ≡ false = grind (arith, nat_tests) in h i ∙ ap (λ b. cond b (f i) (old i)) (sym t)
