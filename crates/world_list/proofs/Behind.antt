-- What is put behind a list, one after the other.
use Rattle.std.proofs.Common.{◌≡◌, ℕ, ◌+◌, List, [], ◌∷◌, ◌++◌, sym, ap, ◌∙◌, add-one}
use Rattle.std.specs.List.{flat_map}
use Rattle.std.proofs.lemmas.List.{append_assoc, append-nil, flat_map_more}
use Rattle.tree_definitions.specs.Numbers.{below}

module _ {X : Type 0} where
  -- nothing
  pub none_more : (xs : List X) → xs ≡ xs ++ []
  none_more xs = sym (append-nil xs)

  -- this, and then that
  pub and_then : (a b c r s : List X) → b ≡ a ++ r → c ≡ b ++ s → c ≡ a ++ (r ++ s)
  and_then a b c r s first second = second ∙ ap (λ xs. xs ++ s) first ∙ append_assoc a r s

module _ {X E : Type 0} (f : X → List E) where
  -- what one more has
  pub one_more : (a b c : List E) (xs : List X) (x : X) → b ≡ a ++ flat_map f xs → c ≡ b ++ f x → c ≡ a ++ flat_map f (xs ++ x ∷ [])
  one_more a b c xs x before now = now ∙ ap (λ ys. ys ++ f x) before ∙ flat_map_more f a xs x

module _ {E : Type 0} (f : ℕ → List E) where
  -- of the next number below a bound
  pub next_more : (a b c : List E) (n : ℕ) → b ≡ a ++ flat_map f (below n) → c ≡ b ++ f n → c ≡ a ++ flat_map f (below (n + 1))
  next_more a b c n before now = one_more f a b c (below n) n before now ∙ ap (λ m. a ++ flat_map f (below m)) (sym (add-one n))
