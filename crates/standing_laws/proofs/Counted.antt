-- Numbers that differ and lie below a bound are at most so many.
use Rattle.std.proofs.Common.{◌≡◌, ℕ, zero, suc, ◌+◌, ◌<◌, ◌≤◌, ⊎_elim, true, Option, Some, None, List, [], ◌∷◌, length, refl, sym, ◌∙◌, ap, subst, arith}
use Rattle.std.specs.List.{AllByRecursion}
use Rattle.std.specs.declared.cmp.Ordering.{Ordering}
use Rattle.std.specs.declared.cmp.Ordering.TheVariants.{Less, Equal, Greater}
use Rattle.std.specs.List.Sorted.{IsStrictlySortedBy}
use Rattle.std.specs.Map.{lookup, keys_of}
use Rattle.std.specs.BTreeMap.{is_at, insert_entry}
use Rattle.std.specs.Ordering.{nat_cmp, match_ordering}
use Rattle.std.proofs.lemmas.Bool.{cases_eq}
use Rattle.std.proofs.lemmas.List.Elements.{All-from_recursion}
use Rattle.std.proofs.lemmas.Map.Views.{length-le_from_below}
use Rattle.tree_definitions.proofs.Pairs.{birth_exact, found_put, found_other, sorted_put, length_put}
use Rattle.standing_laws.specs.Below.{are_distinct}
use Rattle.standing_laws.proofs.Bounded.{distinct_at}

-- how many of the first n are there
abbrev pub one_if : Option ℕ → ℕ
one_if None = 0
one_if (Some k) = 1

abbrev pub how_many : (ℕ → Option ℕ) → ℕ → ℕ
how_many f zero = 0
how_many f (suc n) = how_many f n + one_if (f n)

-- they, each with its place
abbrev placed : List (ℕ × ℕ) → Option ℕ → ℕ → List (ℕ × ℕ)
placed es None t = es
placed es (Some k) t = insert_entry nat_cmp es k t

abbrev all_placed : (ℕ → Option ℕ) → ℕ → List (ℕ × ℕ)
all_placed f zero = []
all_placed f (suc n) = placed (all_placed f n) (f n) n

none_sorted : IsStrictlySortedBy nat_cmp (keys_of {K = ℕ} {X = ℕ} [])
unfolding IsStrictlySortedBy
none_sorted = tt

sorted_one : (es : List (ℕ × ℕ)) (o : Option ℕ) (t : ℕ) → IsStrictlySortedBy nat_cmp (keys_of es) → IsStrictlySortedBy nat_cmp (keys_of (placed es o t))
sorted_one es None t h = h
sorted_one es (Some k) t h = sorted_put nat_cmp birth_exact es k t h

sorted_placed : (f : ℕ → Option ℕ) (n : ℕ) → IsStrictlySortedBy nat_cmp (keys_of (all_placed f n))
sorted_placed f zero = none_sorted
sorted_placed f (suc n) = sorted_one (all_placed f n) (f n) n (sorted_placed f n)

put_below : (m : ℕ) (es : List (ℕ × ℕ)) (k v : ℕ) → k < m → AllByRecursion (λ y. y < m) (keys_of es) → AllByRecursion (λ y. y < m) (keys_of (insert_entry nat_cmp es k v))
put_below m [] k v p a = (p, tt)
put_below m (e ∷ es) k v p a = go (put_below m es k v p a.1) (nat_cmp k e.0)
  where
    go : AllByRecursion (λ y. y < m) (keys_of (insert_entry nat_cmp es k v)) → (o : Ordering) → AllByRecursion (λ y. y < m) (keys_of (match_ordering o ((k, v) ∷ e ∷ es) ((e.0, v) ∷ es) (e ∷ insert_entry nat_cmp es k v)))
    go r Less = (p, a)
    go r Equal = a
    go r Greater = (a.0, r)

as_many : (es : List (ℕ × ℕ)) → length (keys_of es) ≡ length es
as_many [] = refl
as_many (e ∷ es) = ap suc (as_many es)

module _ (f : ℕ → Option ℕ) where
  one_below : (m : ℕ) (es : List (ℕ × ℕ)) (o : Option ℕ) (t : ℕ) → ((k : ℕ) → o ≡ Some k → k < m) → AllByRecursion (λ y. y < m) (keys_of es) → AllByRecursion (λ y. y < m) (keys_of (placed es o t))
  one_below m es None t h a = a
  one_below m es (Some k) t h a = put_below m es k t (h k refl) a

  below_placed : (m n : ℕ) → ((t k : ℕ) → t < n → f t ≡ Some k → k < m) → AllByRecursion (λ y. y < m) (keys_of (all_placed f n))
  below_placed m zero h = tt
  below_placed m (suc n) h = one_below m (all_placed f n) (f n) n (λ k e. h n k (omega arith) e) (below_placed m n (λ t k l e. h t k (omega arith) e))

  -- what is placed stands there
  placed_at : (n k t : ℕ) → lookup (is_at (nat_cmp k)) (all_placed f n) ≡ Some t → (t < n) × (f t ≡ Some k)
  placed_at zero k t e = absurd (cc)
  placed_at (suc n) k t e = go (placed_at n k t) (f n) refl e
    where
      go : (lookup (is_at (nat_cmp k)) (all_placed f n) ≡ Some t → (t < n) × (f t ≡ Some k)) → (o : Option ℕ) → f n ≡ o → lookup (is_at (nat_cmp k)) (placed (all_placed f n) o n) ≡ Some t → (t < suc n) × (f t ≡ Some k)
      go before None h e = let r = before e in let l : t < n = r.0 in (omega arith, r.1)
      go before (Some j) h e = ⊎_elim
          (λ s. (let q : Some n ≡ Some t = sym (subst (λ k. lookup (is_at (nat_cmp k)) (placed (all_placed f n) (Some j) n) ≡ Some n) (sym s) (found_put nat_cmp birth_exact (all_placed f n) j n)) ∙ e in
          let r : n ≡ t = cc in (omega arith, ap f (sym r) ∙ h ∙ ap (λ k. Some k) (sym s))))
          (λ ne. (let r = before (sym (found_other nat_cmp birth_exact (all_placed f n) j n k ne) ∙ e) in let l : t < n = r.0 in (omega arith, r.1))) (cases_eq k j)

  many_placed : (n : ℕ) → ((t u k : ℕ) → t < n → u < n → f t ≡ Some k → f u ≡ Some k → t ≡ u) → length (all_placed f n) ≡ how_many f n
  many_placed zero h = refl
  many_placed (suc n) h = go (many_placed n (λ t u k a b e g. h t u k (omega arith) (omega arith) e g)) (f n) refl
    where
      new : (k : ℕ) → f n ≡ Some k → (o : Option ℕ) → lookup (is_at (nat_cmp k)) (all_placed f n) ≡ o → o ≡ None
      new k g None e = refl
      new k g (Some t) e = absurd (let r = placed_at n k t e in let l : t < n = r.0 in let q : t ≡ n = h t n k (omega arith) (omega arith) r.1 g in omega arith)

      go : length (all_placed f n) ≡ how_many f n → (o : Option ℕ) → f n ≡ o → length (placed (all_placed f n) o n) ≡ how_many f n + one_if o
      go before None e = let b : length (all_placed f n) ≡ how_many f n = before in omega arith
      go before (Some k) e =
          let b : length (all_placed f n) ≡ how_many f n = before in
          let a : length (insert_entry nat_cmp (all_placed f n) k n) ≡ length (all_placed f n) + 1 = length_put nat_cmp birth_exact (all_placed f n) k n (new k e (lookup (is_at (nat_cmp k)) (all_placed f n)) refl) in
          omega arith

  -- numbers that differ, all below a bound
  pub at_most : (n m : ℕ) → are_distinct f n ≡ true → ((t k : ℕ) → t < n → f t ≡ Some k → k < m) → how_many f n ≤ m
  at_most n m d h =
      let s : length (keys_of (all_placed f n)) ≤ m = length-le_from_below m (keys_of (all_placed f n)) (sorted_placed f n) (All-from_recursion (λ x. x < m) (keys_of (all_placed f n)) (below_placed m n h)) in
      let l : length (keys_of (all_placed f n)) ≡ length (all_placed f n) = as_many (all_placed f n) in
      let k : length (all_placed f n) ≡ how_many f n = many_placed n (λ t u k a b e g. distinct_at f n d t u k a b e g) in
      omega arith

-- places one after another, and places that are alike
pub how_same : (f g : ℕ → Option ℕ) (n : ℕ) → ((t : ℕ) → t < n → f t ≡ g t) → how_many f n ≡ how_many g n
how_same f g zero h = refl
how_same f g (suc n) h = let a : how_many f n ≡ how_many g n = how_same f g n (λ t l. h t (omega arith)) in let b : one_if (f n) ≡ one_if (g n) = ap one_if (h n (omega arith)) in omega arith

pub how_after : (f : ℕ → Option ℕ) (a b : ℕ) → how_many f (a + b) ≡ how_many f a + how_many (λ j. f (a + j)) b
how_after f a zero = (let e : a + 0 ≡ a = omega arith in ap (how_many f) e) ∙ (let e : how_many f a ≡ how_many f a + 0 = omega arith in e)
how_after f a (suc b) =
    let e : a + suc b ≡ suc (a + b) = omega arith in
    let r : how_many f (a + b) ≡ how_many f a + how_many (λ j. f (a + j)) b = how_after f a b in
    let s : how_many f (a + b) + one_if (f (a + b)) ≡ how_many f a + (how_many (λ j. f (a + j)) b + one_if (f (a + b))) = omega arith in
    ap (how_many f) e ∙ s
