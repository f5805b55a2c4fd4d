-- Numbers that are left: one that is taken leaves one fewer, and the others.
use Rattle.std.proofs.Common.{ℕ, ◌≡◌, ◌≢◌, ◌+◌, Bool, true, false, nat_eq, if◌then◌else◌, List, [], ◌∷◌, length, refl, ◌∙◌, ap, arith}
use Rattle.std.proofs.lemmas.Bool.{eqb-true}
use Rattle.frang_base.specs.Functions.{member}
use Rattle.line_histories.specs.Trees.{without}

pub one_fewer : (n : ℕ) (numbers : List ℕ) → member n numbers ≡ true → length (without n numbers) + 1 ≡ length numbers
one_fewer n [] h = absurd (cc)
one_fewer n (m ∷ numbers) h = go (nat_eq m n) h (one_fewer n numbers)
  where
    go : (b : Bool) → (if b then true else member n numbers) ≡ true → (member n numbers ≡ true → length (without n numbers) + 1 ≡ length numbers) → length (if b then numbers else m ∷ without n numbers) + 1 ≡ length (m ∷ numbers)
    go true h rest = omega arith
    go false h rest = let r : length (without n numbers) + 1 ≡ length numbers = rest h in omega arith

pub others_stay : (n k : ℕ) (numbers : List ℕ) → k ≢ n → member k numbers ≡ true → member k (without n numbers) ≡ true
others_stay n k [] d h = absurd (cc)
others_stay n k (m ∷ numbers) d h = go (nat_eq m n) refl (nat_eq m k) refl h (others_stay n k numbers d)
  where
    go : (b : Bool) → nat_eq m n ≡ b → (c : Bool) → nat_eq m k ≡ c → (if c then true else member k numbers) ≡ true → (member k numbers ≡ true → member k (without n numbers) ≡ true) → member k (if b then numbers else m ∷ without n numbers) ≡ true
    go true e true f h rest = absurd (d (let p : m ≡ n = eqb-true m n e in let q : m ≡ k = eqb-true m k f in cc))
    go true e false f h rest = h
    go false e c f h rest = at c f h
      where
        at : (c : Bool) → nat_eq m k ≡ c → (if c then true else member k numbers) ≡ true → (if nat_eq m k then true else member k (without n numbers)) ≡ true
        at true f h = ap (λ (t : Bool). if t then true else member k (without n numbers)) f
        at false f h = ap (λ (t : Bool). if t then true else member k (without n numbers)) f ∙ rest h
