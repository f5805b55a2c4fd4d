-- Which numbers a list has, after maps, filters and tests of the numbers below a bound, and the greatest of them.
use Rattle.std.proofs.Common.{◌≡◌, ℕ, zero, suc, ◌<◌, ◌≤◌, ◌⊎◌, inl, inr, ⊎_elim, max, Bool, true, false, cond, Option, Some, None, List, [], ◌∷◌, ◌++◌, map, refl, sym, ap, ◌∙◌, subst, arith}
use Rattle.std.specs.Prelude.{fold}
use Rattle.std.specs.List.{list_all, filter, filter_map, cons_option}
use Rattle.std.proofs.lemmas.Bool.{and_parts, and_from, cases_eq}
use Rattle.tree_definitions.specs.Numbers.{below}

-- one of a list
abbrev pub Among : {X : Type 0} → X → List X → Type 0
Among x [] = ⊥
Among x (y ∷ ys) = (x ≡ y) ⊎ Among x ys

module _ {X : Type 0} where
  pub among_left : (x : X) (xs ys : List X) → Among x xs → Among x (xs ++ ys)
  among_left x [] ys a = absurd a
  among_left x (y ∷ xs) ys (inl e) = inl e
  among_left x (y ∷ xs) ys (inr a) = inr (among_left x xs ys a)

  pub among_right : (x : X) (xs ys : List X) → Among x ys → Among x (xs ++ ys)
  among_right x [] ys a = a
  among_right x (y ∷ xs) ys a = inr (among_right x xs ys a)

  pub among_either : (x : X) (xs ys : List X) → Among x (xs ++ ys) → Among x xs ⊎ Among x ys
  among_either x [] ys a = inr a
  among_either x (y ∷ xs) ys (inl e) = inl (inl e)
  among_either x (y ∷ xs) ys (inr a) = ⊎_elim (λ b. inl (inr b)) (λ b. inr b) (among_either x xs ys a)

  -- ---- tests of all

  pub all_at : (test : X → Bool) (xs : List X) → list_all test xs ≡ true → (x : X) → Among x xs → test x ≡ true
  all_at test [] all x a = absurd a
  all_at test (y ∷ xs) all x (inl e) = ap test e ∙ (and_parts (test y) (list_all test xs) all).0
  all_at test (y ∷ xs) all x (inr a) = all_at test xs (and_parts (test y) (list_all test xs) all).1 x a

  pub all_from : (test : X → Bool) (xs : List X) → ((x : X) → Among x xs → test x ≡ true) → list_all test xs ≡ true
  all_from test [] each = refl
  all_from test (y ∷ xs) each = and_from (test y) (list_all test xs) (each y (inl refl)) (all_from test xs (λ x a. each x (inr a)))

  -- ---- filters

  pub among_filter : (test : X → Bool) (xs : List X) (x : X) → Among x xs → test x ≡ true → Among x (filter test xs)
  among_filter test [] x a t = absurd a
  among_filter test (y ∷ xs) x a t = go (test y) refl a (among_filter test xs x)
    where
      go : (b : Bool) → test y ≡ b → Among x (y ∷ xs) → (Among x xs → test x ≡ true → Among x (filter test xs)) → Among x (cond b (y ∷ filter test xs) (filter test xs))
      go true is (inl e) rest = inl e
      go true is (inr a) rest = inr (rest a t)
      go false is (inl e) rest = absurd (let f : test x ≡ false = ap test e ∙ is in cc)
      go false is (inr a) rest = rest a t

  pub among_filtered : (test : X → Bool) (xs : List X) (x : X) → Among x (filter test xs) → Among x xs × (test x ≡ true)
  among_filtered test [] x a = absurd a
  among_filtered test (y ∷ xs) x a = go (test y) refl (among_filtered test xs x) a
    where
      go : (b : Bool) → test y ≡ b → (Among x (filter test xs) → Among x xs × (test x ≡ true)) → Among x (cond b (y ∷ filter test xs) (filter test xs)) → Among x (y ∷ xs) × (test x ≡ true)
      go true is rest (inl e) = (inl e, ap test e ∙ is)
      go true is rest (inr a) = let r = rest a in (inr r.0, r.1)
      go false is rest a = let r = rest a in (inr r.0, r.1)

module _ {X Y : Type 0} where
  -- ---- maps

  pub among_map : (f : X → Y) (xs : List X) (x : X) (y : Y) → Among x xs → f x ≡ y → Among y (map f xs)
  among_map f [] x y a e = absurd a
  among_map f (z ∷ xs) x y (inl s) e = inl (sym e ∙ ap f s)
  among_map f (z ∷ xs) x y (inr a) e = inr (among_map f xs x y a e)

  pub among_mapped : (f : X → Y) (xs : List X) (y : Y) → Among y (map f xs) → (x : X) × Among x xs × (f x ≡ y)
  among_mapped f [] y a = absurd a
  among_mapped f (z ∷ xs) y (inl e) = (z, inl refl, sym e)
  among_mapped f (z ∷ xs) y (inr a) = let r = among_mapped f xs y a in (r.0, inr r.1, r.2)

  pub among_filter_map : (f : X → Option Y) (xs : List X) (x : X) (y : Y) → Among x xs → f x ≡ Some y → Among y (filter_map f xs)
  among_filter_map f [] x y a e = absurd a
  among_filter_map f (z ∷ xs) x y (inl s) e = subst (λ o. Among y (cons_option o (filter_map f xs))) (sym e ∙ ap f s) (inl refl)
  among_filter_map f (z ∷ xs) x y (inr a) e = go (f z) (among_filter_map f xs x y a e)
    where
      go : (o : Option Y) → Among y (filter_map f xs) → Among y (cons_option o (filter_map f xs))
      go None b = b
      go (Some w) b = inr b

  pub among_filter_mapped : (f : X → Option Y) (xs : List X) (y : Y) → Among y (filter_map f xs) → (x : X) × Among x xs × (f x ≡ Some y)
  among_filter_mapped f [] y a = absurd a
  among_filter_mapped f (z ∷ xs) y a = go (f z) refl (among_filter_mapped f xs y) a
    where
      go : (o : Option Y) → f z ≡ o → (Among y (filter_map f xs) → (x : X) × Among x xs × (f x ≡ Some y)) → Among y (cons_option o (filter_map f xs)) → (x : X) × Among x (z ∷ xs) × (f x ≡ Some y)
      go None is rest a = let r = rest a in (r.0, inr r.1, r.2)
      go (Some w) is rest (inl e) = (z, inl refl, is ∙ ap (λ v. Some v) (sym e))
      go (Some w) is rest (inr a) = let r = rest a in (r.0, inr r.1, r.2)

-- ---- the numbers below a bound

pub among_below : (n k : ℕ) → k < n → Among k (below n)
among_below zero k h = absurd (omega arith)
among_below (suc n) k h = ⊎_elim (λ e. among_right k (below n) (n ∷ []) (inl e)) (λ ne. among_left k (below n) (n ∷ []) (among_below n k (omega arith))) (cases_eq k n)

pub below_among : (n k : ℕ) → Among k (below n) → k < n
below_among zero k a = absurd a
below_among (suc n) k a = ⊎_elim (λ b. let h = below_among n k b in omega arith) last (among_either k (below n) (n ∷ []) a)
  where
    last : Among k (n ∷ []) → k < suc n
    last (inl e) = omega arith
    last (inr a) = absurd a

-- ---- the greatest

pub max_from : (a : ℕ) (xs : List ℕ) → a ≤ fold max a xs
max_from a [] = omega arith
max_from a (x ∷ xs) = let h : max a x ≤ fold max (max a x) xs = max_from (max a x) xs in omega arith

pub max_above : (a : ℕ) (xs : List ℕ) (x : ℕ) → Among x xs → x ≤ fold max a xs
max_above a [] x m = absurd m
max_above a (y ∷ xs) x (inl e) = let h : max a y ≤ fold max (max a y) xs = max_from (max a y) xs in omega arith
max_above a (y ∷ xs) x (inr m) = max_above (max a y) xs x m

pub max_reached : (a : ℕ) (xs : List ℕ) → (fold max a xs ≡ a) ⊎ Among (fold max a xs) xs
max_reached a [] = inl refl
max_reached a (y ∷ xs) = ⊎_elim (λ e. which e) (λ m. inr (inr m)) (max_reached (max a y) xs)
  where
    either : (max a y ≡ a) ⊎ (max a y ≡ y)
    either = grind arith

    which : fold max (max a y) xs ≡ max a y → (fold max (max a y) xs ≡ a) ⊎ Among (fold max (max a y) xs) (y ∷ xs)
    which e = ⊎_elim (λ f. inl (e ∙ f)) (λ f. inr (inl (e ∙ f))) either
