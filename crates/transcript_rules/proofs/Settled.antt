-- A test of the first elements of a list is one of their places.
use Rattle.std.proofs.Common.{◌≡◌, ℕ, zero, suc, ◌+◌, ◌<◌, ◌≤◌, Bool, true, false, ◌&&◌, Some, List, [], ◌∷◌, ◌++◌, length, take, refl, sym, ◌∙◌, ap, arith}
use Rattle.std.specs.List.{list_all, slice_get}
use Rattle.std.proofs.lemmas.List.Folds.{list_all-append}
use Rattle.tree_definitions.specs.Numbers.{below}

last_true : (a b : Bool) → (a && b) ≡ (a && (b && true))
last_true true true = refl
last_true true false = refl
last_true false b = refl

inward : (a b c : Bool) → (a && (b && c)) ≡ ((a && b) && c)
inward true b c = refl
inward false b c = refl

last_first : (b : Bool) → (b && true) ≡ b
last_first true = refl
last_first false = refl

one_more : {X : Type 0} (f : X → Bool) (g : ℕ → Bool) (xs : List X) (n : ℕ) → n < length xs → ((i : ℕ) (x : X) → slice_get xs i ≡ Some x → f x ≡ g i)
    → list_all f (take (suc n) xs) ≡ (list_all f (take n xs) && g n)
one_more f g [] n short same = absurd (omega arith)
one_more f g (x ∷ xs) zero short same = last_first (f x) ∙ same 0 x refl
one_more f g (x ∷ xs) (suc n) short same =
    ap (λ b. f x && b) (one_more f (λ i. g (suc i)) xs n (omega arith) (λ i y is. same (suc i) y is)) ∙ inward (f x) (list_all f (take n xs)) (g (suc n))

pub all_below : {X : Type 0} (f : X → Bool) (g : ℕ → Bool) (xs : List X) (n : ℕ) → n ≤ length xs → ((i : ℕ) (x : X) → slice_get xs i ≡ Some x → f x ≡ g i) → list_all f (take n xs) ≡ list_all g (below n)
all_below f g xs zero short same = refl
all_below f g xs (suc n) short same =
    one_more f g xs n (omega arith) same ∙ ap (λ b. b && g n) (all_below f g xs n (omega arith) same)
    ∙ last_true (list_all g (below n)) (g n) ∙ sym (list_all-append g (below n) (n ∷ []))
