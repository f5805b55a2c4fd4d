-- Lists of pairs in ascending order of their keys: what is found after an insertion or a removal, and that the order stays.
use Rattle.std.proofs.Common.{◌≡◌, ◌≢◌, ◌+◌, true, false, List, [], ◌∷◌, map, length, Some, None, cond, refl, sym, ◌∙◌, ap, arith}
use Rattle.std.specs.Ordering.{is_eq, match_ordering, ordering_reverse, nat_cmp}
use Rattle.std.specs.declared.cmp.Ordering.{Ordering}
use Rattle.std.specs.declared.cmp.Ordering.TheVariants.{Less, Equal, Greater}
use Rattle.std.specs.Map.{lookup, remove_entry, keys_of}
use Rattle.std.specs.BTreeMap.{is_at, insert_entry}
use Rattle.std.specs.Cmp.{IsTotalOrder, nat_cmp_total}
use Rattle.std.specs.Cmp.Lexicographic.{slice_cmp, nat_list_cmp_total}
use Rattle.std.specs.FinMap.{nat_cmp-IsAntisymmetric, slice_cmp-IsAntisymmetric}
use Rattle.std.specs.List.{AllByRecursion}
use Rattle.std.specs.List.Sorted.{IsStrictlySortedBy}
use Rattle.frang_base.proofs.Basics.{by_test}

-- an order whose ties are equal
pub record IsExact {K : Type 0} (cmp : K → K → Ordering) : Type 0 where
  pub total : IsTotalOrder cmp
  pub ties : (x y : K) → cmp x y ≡ Equal → x ≡ y
  pub own : (x : K) → cmp x x ≡ Equal

module _ {K : Type 0} (cmp : K → K → Ordering) (exact : IsExact cmp) where
  pub tie : (x y : K) → is_at (cmp x) y ≡ true → x ≡ y
  tie x y e = go (cmp x y) refl
    where
      go : (o : Ordering) → cmp x y ≡ o → x ≡ y
      go Less i = absurd (let q : is_eq (cmp x y) ≡ false = ap is_eq i in cc)
      go Equal i = exact.ties x y i
      go Greater i = absurd (let q : is_eq (cmp x y) ≡ false = ap is_eq i in cc)

  pub self : (x : K) → is_at (cmp x) x ≡ true
  self x = ap is_eq (exact.own x)

  pub below_all : (k l : K) (ks : List K) → cmp k l ≡ Less → AllByRecursion (λ y. cmp l y ≡ Less) ks → AllByRecursion (λ y. cmp k y ≡ Less) ks
  below_all k l [] h a = tt
  below_all k l (y ∷ ys) h a = (exact.total.trans k l y h a.0, below_all k l ys h a.1)

module _ {K X : Type 0} (cmp : K → K → Ordering) (exact : IsExact cmp) where
  pub found_put : (es : List (K × X)) (k : K) (v : X) → lookup (is_at (cmp k)) (insert_entry cmp es k v) ≡ Some v
  found_put [] k v = rw (self cmp exact k) refl
  found_put (e ∷ es) k v = go (found_put es k v) (cmp k e.0) refl
    where
      go : lookup (is_at (cmp k)) (insert_entry cmp es k v) ≡ Some v → (o : Ordering) → cmp k e.0 ≡ o → lookup (is_at (cmp k)) (match_ordering o ((k, v) ∷ e ∷ es) ((e.0, v) ∷ es) (e ∷ insert_entry cmp es k v)) ≡ Some v
      go r Less i = rw (self cmp exact k) refl
      go r Equal i = rw (ap is_eq i) refl
      go r Greater i = rw (ap is_eq i) r

  pub found_other : (es : List (K × X)) (k : K) (v : X) (q : K) → q ≢ k → lookup (is_at (cmp q)) (insert_entry cmp es k v) ≡ lookup (is_at (cmp q)) es
  found_other [] k v q n = by_test (λ x. x ≡ None) (Some v) None (is_at (cmp q) k) (λ e. absurd (n (tie cmp exact q k e))) (λ e. refl)
  found_other (e ∷ es) k v q n = go (found_other es k v q n) (cmp k e.0) refl
    where
      go : lookup (is_at (cmp q)) (insert_entry cmp es k v) ≡ lookup (is_at (cmp q)) es → (o : Ordering) → cmp k e.0 ≡ o → lookup (is_at (cmp q)) (match_ordering o ((k, v) ∷ e ∷ es) ((e.0, v) ∷ es) (e ∷ insert_entry cmp es k v)) ≡ lookup (is_at (cmp q)) (e ∷ es)
      go r Less i = by_test (λ x. x ≡ lookup (is_at (cmp q)) (e ∷ es)) (Some v) (lookup (is_at (cmp q)) (e ∷ es)) (is_at (cmp q) k) (λ f. absurd (n (tie cmp exact q k f))) (λ f. refl)
      go r Equal i = by_test (λ x. x ≡ lookup (is_at (cmp q)) (e ∷ es)) (Some v) (lookup (is_at (cmp q)) es) (is_at (cmp q) e.0) (λ f. absurd (n (tie cmp exact q e.0 f ∙ sym (exact.ties k e.0 i)))) (λ f. rw f refl)
      go r Greater i = ap (λ x. cond (is_at (cmp q) e.0) (Some e.1) x) r

  pub found_left : (es : List (K × X)) (k q : K) → q ≢ k → lookup (is_at (cmp q)) (remove_entry (is_at (cmp k)) es) ≡ lookup (is_at (cmp q)) es
  found_left [] k q n = refl
  found_left (e ∷ es) k q n = by_test (λ x. lookup (is_at (cmp q)) x ≡ lookup (is_at (cmp q)) (e ∷ es)) es (e ∷ remove_entry (is_at (cmp k)) es) (is_at (cmp k) e.0)
      (λ i. by_test (λ x. lookup (is_at (cmp q)) es ≡ x) (Some e.1) (lookup (is_at (cmp q)) es) (is_at (cmp q) e.0) (λ f. absurd (n (tie cmp exact q e.0 f ∙ sym (tie cmp exact k e.0 i)))) (λ f. refl))
      (λ i. ap (λ x. cond (is_at (cmp q) e.0) (Some e.1) x) (found_left es k q n))

  -- no key equals a key below all of them
  pub none_below : (es : List (K × X)) (k : K) → AllByRecursion (λ y. cmp k y ≡ Less) (keys_of es) → lookup (is_at (cmp k)) es ≡ None
  none_below [] k a = refl
  none_below (e ∷ es) k a = let z : is_at (cmp k) e.0 ≡ false = ap is_eq a.0 in rw z (none_below es k a.1)

  pub found_removed : (es : List (K × X)) (k : K) → IsStrictlySortedBy cmp (keys_of es) → lookup (is_at (cmp k)) (remove_entry (is_at (cmp k)) es) ≡ None
  unfolding IsStrictlySortedBy
  found_removed [] k s = refl
  found_removed (e ∷ es) k s = by_test (λ x. is_at (cmp k) e.0 ≡ is_at (cmp k) e.0 → lookup (is_at (cmp k)) x ≡ None) es (e ∷ remove_entry (is_at (cmp k)) es) (is_at (cmp k) e.0)
      (λ i j. rw (tie cmp exact k e.0 i) (none_below es e.0 s.0)) (λ i j. rw i (found_removed es k s.1)) refl

  all_put : (P : K → Type 0) (es : List (K × X)) (k : K) (v : X) → P k → AllByRecursion P (keys_of es) → AllByRecursion P (keys_of (insert_entry cmp es k v))
  all_put P [] k v p a = (p, tt)
  all_put P (e ∷ es) k v p a = go (all_put P es k v p a.1) (cmp k e.0)
    where
      go : AllByRecursion P (keys_of (insert_entry cmp es k v)) → (o : Ordering) → AllByRecursion P (keys_of (match_ordering o ((k, v) ∷ e ∷ es) ((e.0, v) ∷ es) (e ∷ insert_entry cmp es k v)))
      go r Less = (p, a)
      go r Equal = a
      go r Greater = (a.0, r)

  all_removed : (P : K → Type 0) (es : List (K × X)) (k : K) → AllByRecursion P (keys_of es) → AllByRecursion P (keys_of (remove_entry (is_at (cmp k)) es))
  all_removed P [] k a = tt
  all_removed P (e ∷ es) k a = by_test (λ x. AllByRecursion P (keys_of x)) es (e ∷ remove_entry (is_at (cmp k)) es) (is_at (cmp k) e.0) (λ i. a.1) (λ i. (a.0, all_removed P es k a.1))

  pub sorted_put : (es : List (K × X)) (k : K) (v : X) → IsStrictlySortedBy cmp (keys_of es) → IsStrictlySortedBy cmp (keys_of (insert_entry cmp es k v))
  unfolding IsStrictlySortedBy
  sorted_put [] k v s = (tt, tt)
  sorted_put (e ∷ es) k v s = go (sorted_put es k v s.1) (cmp k e.0) refl
    where
      go : IsStrictlySortedBy cmp (keys_of (insert_entry cmp es k v)) → (o : Ordering) → cmp k e.0 ≡ o → IsStrictlySortedBy cmp (keys_of (match_ordering o ((k, v) ∷ e ∷ es) ((e.0, v) ∷ es) (e ∷ insert_entry cmp es k v)))
      go r Less i = ((i, below_all cmp exact k e.0 (keys_of es) i s.0), s)
      go r Equal i = s
      go r Greater i = (all_put (λ y. cmp e.0 y ≡ Less) es k v (exact.total.antisymm e.0 k ∙ ap ordering_reverse i) s.0, r)

  pub sorted_removed : (es : List (K × X)) (k : K) → IsStrictlySortedBy cmp (keys_of es) → IsStrictlySortedBy cmp (keys_of (remove_entry (is_at (cmp k)) es))
  unfolding IsStrictlySortedBy
  sorted_removed [] k s = tt
  sorted_removed (e ∷ es) k s = by_test (λ x. IsStrictlySortedBy cmp (keys_of x)) es (e ∷ remove_entry (is_at (cmp k)) es) (is_at (cmp k) e.0) (λ i. s.1)
      (λ i. (all_removed (λ y. cmp e.0 y ≡ Less) es k s.0, sorted_removed es k s.1))

  pub length_put : (es : List (K × X)) (k : K) (v : X) → lookup (is_at (cmp k)) es ≡ None → length (insert_entry cmp es k v) ≡ length es + 1
  length_put [] k v h = refl
  length_put (e ∷ es) k v h = go (length_put es k v) (cmp k e.0) refl
    where
      go : (lookup (is_at (cmp k)) es ≡ None → length (insert_entry cmp es k v) ≡ length es + 1) → (o : Ordering) → cmp k e.0 ≡ o → length (match_ordering o ((k, v) ∷ e ∷ es) ((e.0, v) ∷ es) (e ∷ insert_entry cmp es k v)) ≡ length (e ∷ es) + 1
      go f Less i = omega arith
      go f Equal i = absurd (let z : is_at (cmp k) e.0 ≡ true = ap is_eq i in let y : lookup (is_at (cmp k)) (e ∷ es) ≡ Some e.1 = rw z refl in cc)
      go f Greater i = let z : is_at (cmp k) e.0 ≡ false = ap is_eq i in let y : lookup (is_at (cmp k)) (e ∷ es) ≡ lookup (is_at (cmp k)) es = rw z refl in let r : length (insert_entry cmp es k v) ≡ length es + 1 = f (sym y ∙ h) in omega arith

  -- a key that is there takes the new value, and nothing moves
  pub length_kept : (es : List (K × X)) (k : K) (v w : X) → IsStrictlySortedBy cmp (keys_of es) → lookup (is_at (cmp k)) es ≡ Some w → length (insert_entry cmp es k v) ≡ length es
  unfolding IsStrictlySortedBy
  length_kept [] k v w s h = cc
  length_kept (e ∷ es) k v w s h = go (λ i. length_kept es k v w s.1 i) (cmp k e.0) refl
    where
      go : (lookup (is_at (cmp k)) es ≡ Some w → length (insert_entry cmp es k v) ≡ length es) → (o : Ordering) → cmp k e.0 ≡ o → length (match_ordering o ((k, v) ∷ e ∷ es) ((e.0, v) ∷ es) (e ∷ insert_entry cmp es k v)) ≡ length (e ∷ es)
      go f Less i = absurd (let z : lookup (is_at (cmp k)) (e ∷ es) ≡ None = none_below (e ∷ es) k (i, below_all cmp exact k e.0 (keys_of es) i s.0) in cc)
      go f Equal i = refl
      go f Greater i = let z : is_at (cmp k) e.0 ≡ false = ap is_eq i in let y : lookup (is_at (cmp k)) (e ∷ es) ≡ lookup (is_at (cmp k)) es = rw z refl in let r : length (insert_entry cmp es k v) ≡ length es = f (sym y ∙ h) in omega arith

  -- a key that is there takes a value that is seen as the old one
  pub seen_kept : {Y : Type 0} (g : X → Y) (es : List (K × X)) (k : K) (v w : X) → IsStrictlySortedBy cmp (keys_of es) → lookup (is_at (cmp k)) es ≡ Some w → g v ≡ g w → map {A = K × X} {B = K × Y} (λ e. (e.0, g e.1)) (insert_entry cmp es k v) ≡ map {A = K × X} {B = K × Y} (λ e. (e.0, g e.1)) es
  unfolding IsStrictlySortedBy
  seen_kept {Y} g [] k v w s h i = cc
  seen_kept {Y} g (e ∷ es) k v w s h i = go (λ h. seen_kept g es k v w s.1 h i) (cmp k e.0) refl
    where
      go : (lookup (is_at (cmp k)) es ≡ Some w → map {A = K × X} {B = K × Y} (λ e. (e.0, g e.1)) (insert_entry cmp es k v) ≡ map {A = K × X} {B = K × Y} (λ e. (e.0, g e.1)) es) → (o : Ordering) → cmp k e.0 ≡ o → map {A = K × X} {B = K × Y} (λ e. (e.0, g e.1)) (match_ordering o ((k, v) ∷ e ∷ es) ((e.0, v) ∷ es) (e ∷ insert_entry cmp es k v)) ≡ map {A = K × X} {B = K × Y} (λ e. (e.0, g e.1)) (e ∷ es)
      go f Less j = absurd (let z : lookup (is_at (cmp k)) (e ∷ es) ≡ None = none_below (e ∷ es) k (j, below_all cmp exact k e.0 (keys_of es) j s.0) in cc)
      go f Equal j = let z : is_at (cmp k) e.0 ≡ true = ap is_eq j in let y : lookup (is_at (cmp k)) (e ∷ es) ≡ Some e.1 = rw z refl in let q : e.1 ≡ w = (let r : Some e.1 ≡ Some w = sym y ∙ h in cc) in ap (λ a. (e.0, a) ∷ map {A = K × X} {B = K × Y} (λ e. (e.0, g e.1)) es) (i ∙ ap g (sym q))
      go f Greater j = let z : is_at (cmp k) e.0 ≡ false = ap is_eq j in let y : lookup (is_at (cmp k)) (e ∷ es) ≡ lookup (is_at (cmp k)) es = rw z refl in ap (λ l. (e.0, g e.1) ∷ l) (f (sym y ∙ h))

  pub length_removed : (es : List (K × X)) (k : K) (v : X) → lookup (is_at (cmp k)) es ≡ Some v → length es ≡ length (remove_entry (is_at (cmp k)) es) + 1
  length_removed [] k v h = absurd (cc)
  length_removed (e ∷ es) k v h = by_test (λ x. is_at (cmp k) e.0 ≡ is_at (cmp k) e.0 → length (e ∷ es) ≡ length x + 1) es (e ∷ remove_entry (is_at (cmp k)) es) (is_at (cmp k) e.0)
      (λ i j. omega arith)
      (λ i j. let y : lookup (is_at (cmp k)) (e ∷ es) ≡ lookup (is_at (cmp k)) es = rw i refl in let r : length es ≡ length (remove_entry (is_at (cmp k)) es) + 1 = length_removed es k v (sym y ∙ h) in omega arith) refl

self_tie : {K : Type 0} (R : K → K → Ordering) → ((x y : K) → R x y ≡ ordering_reverse (R y x)) → (x : K) (o : Ordering) → R x x ≡ o → R x x ≡ Equal
self_tie R h x Less e = absurd (let q = h x x in let r : ordering_reverse (R x x) ≡ Greater = ap ordering_reverse e in cc)
self_tie R h x Equal e = e
self_tie R h x Greater e = absurd (let q = h x x in let r : ordering_reverse (R x x) ≡ Less = ap ordering_reverse e in cc)

-- names in the order of their bytes, and births
pub name_exact : IsExact (slice_cmp nat_cmp)
name_exact = record {
  total = nat_list_cmp_total;
  ties = λ x y e. slice_cmp-IsAntisymmetric nat_cmp-IsAntisymmetric x y e;
  own = λ x. self_tie (slice_cmp nat_cmp) nat_list_cmp_total.antisymm x (slice_cmp nat_cmp x x) refl;
}

pub birth_exact : IsExact nat_cmp
birth_exact = record {
  total = nat_cmp_total;
  ties = λ x y e. nat_cmp-IsAntisymmetric x y e;
  own = λ x. self_tie nat_cmp nat_cmp_total.antisymm x (nat_cmp x x) refl;
}
