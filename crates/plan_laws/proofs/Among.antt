-- A number is among the values of some numbers.
use Rattle.std.proofs.Common.{ℕ, zero, suc, ◌≡◌, ◌<◌, ◌+◌, ◌==◌, ◌||◌, Bool, true, false, nat_eq, List, [], ◌∷◌, length, slice_index, refl, sym, ◌∙◌, ap, arith, eq-eqb}
use Rattle.std.proofs.lemmas.Bool.{or_right, eqb-true}
use Rattle.plan_laws.proofs.Bytes.{values, values_same}

abbrev pub is_among : ℕ → List ℕ → Bool
is_among k [] = false
is_among k (c ∷ cs) = k == c || is_among k cs

module _ (f : ℕ → ℕ) (k : ℕ) where
  pub among_at : (n a m : ℕ) → m < n → f (a + m) ≡ k → is_among k (values f a n) ≡ true
  among_at zero a m l e = absurd (omega arith)
  among_at (suc n) a zero l e = let z : a + 0 ≡ a = omega arith in let q : nat_eq k (f a) ≡ true = eq-eqb k (f a) (sym e ∙ ap f z) in rw q refl
  among_at (suc n) a (suc m) l e =
      let z : a + suc m ≡ a + 1 + m = omega arith in
      or_right (nat_eq k (f a)) (is_among k (values f (a + 1) n)) (among_at n (a + 1) m (omega arith) (ap f (sym z) ∙ e))

  pub at_among : (n a : ℕ) → is_among k (values f a n) ≡ true → (m : ℕ) × (m < n) × (f (a + m) ≡ k)
  at_among zero a e = absurd (cc)
  at_among (suc n) a e = go (nat_eq k (f a)) refl e (λ h. at_among n (a + 1) h)
    where
      go : (p : Bool) → nat_eq k (f a) ≡ p → (p || is_among k (values f (a + 1) n)) ≡ true → (is_among k (values f (a + 1) n) ≡ true → (m : ℕ) × (m < n) × (f (a + 1 + m) ≡ k)) → (m : ℕ) × (m < suc n) × (f (a + m) ≡ k)
      go true q h rest = let z : a + 0 ≡ a = omega arith in (0, omega arith, ap f z ∙ sym (eqb-true k (f a) q))
      go false q h rest = let r = rest h in let l : r.0 < n = r.1 in let z : a + (r.0 + 1) ≡ a + 1 + r.0 = omega arith in (r.0 + 1, omega arith, ap f z ∙ r.2)

-- a list as the values at its places
pub listed : (ks : List ℕ) → ks ≡ values (slice_index ks) 0 (length ks)
listed [] = refl
listed (x ∷ xs) = ap (λ l. x ∷ l) (listed xs ∙ values_same (slice_index xs) (slice_index (x ∷ xs)) 0 (0 + 1) (length xs)
    (λ j l. let e : 0 + 1 + j ≡ suc (0 + j) = omega arith in sym (ap (slice_index (x ∷ xs)) e)))
