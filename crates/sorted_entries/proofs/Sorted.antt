-- What an insertion and a removal do to a sorted list of entries: which value a key has, and that the keys stay sorted.
use Rattle.std.proofs.Common.{◌≡◌, Bool, true, false, if◌then◌else◌, List, [], ◌∷◌, Some, refl, sym, ap, ◌∙◌}
use Rattle.std.specs.List.{AllByRecursion}
use Rattle.std.specs.List.Sorted.{IsStrictlySortedBy}
use Rattle.std.specs.Map.{lookup, remove_entry, keys_of}
use Rattle.std.specs.BTreeMap.{insert_entry, is_at}
use Rattle.std.specs.Cmp.{IsTotalOrder}
use Rattle.std.specs.Ordering.{match_ordering, ordering_reverse, is_eq}
use Rattle.std.specs.declared.cmp.Ordering.{Ordering}
use Rattle.std.specs.declared.cmp.Ordering.TheVariants.{Less, Equal, Greater}

-- what holds of each, and follows, holds of each
pub all_along : {K : Type 0} {P Q : K → Type 0} → ((x : K) → P x → Q x) → (xs : List K) → AllByRecursion P xs → AllByRecursion Q xs
all_along f [] all = tt
all_along f (x ∷ xs) all = (f x all.0, all_along f xs all.1)

module _ {K X : Type 0} {cmp : K → K → Ordering} (total : IsTotalOrder cmp) (k : K) (v : X) where
  -- what holds of k and of each key holds of each key after an insertion
  all_inserted : (P : K → Type 0) (es : List (K × X)) → P k → AllByRecursion P (keys_of es) → AllByRecursion P (keys_of (insert_entry cmp es k v))
  all_inserted P [] here all = (here, tt)
  all_inserted P (e ∷ es) here all = go (cmp k e.0) (all_inserted P es here all.1)
    where
      go : (o : Ordering) → AllByRecursion P (keys_of (insert_entry cmp es k v)) → AllByRecursion P (keys_of (match_ordering o ((k, v) ∷ e ∷ es) ((e.0, v) ∷ es) (e ∷ insert_entry cmp es k v)))
      go Less rest = (here, all)
      go Equal rest = all
      go Greater rest = (all.0, rest)

  pub sorted-insert_entry : (es : List (K × X)) → IsStrictlySortedBy cmp (keys_of es) → IsStrictlySortedBy cmp (keys_of (insert_entry cmp es k v))
  unfolding IsStrictlySortedBy
  sorted-insert_entry [] sorted = (tt, tt)
  sorted-insert_entry (e ∷ es) sorted = go (cmp k e.0) refl (sorted-insert_entry es sorted.1)
    where
      go : (o : Ordering) → cmp k e.0 ≡ o → IsStrictlySortedBy cmp (keys_of (insert_entry cmp es k v)) → IsStrictlySortedBy cmp (keys_of (match_ordering o ((k, v) ∷ e ∷ es) ((e.0, v) ∷ es) (e ∷ insert_entry cmp es k v)))
      go Less is rest = ((is, all_along (λ y above. total.trans k e.0 y is above) (keys_of es) sorted.0), sorted)
      go Equal is rest = sorted
      go Greater is rest = (all_inserted (λ y. cmp e.0 y ≡ Less) es (total.antisymm e.0 k ∙ ap ordering_reverse is) sorted.0, rest)

  -- the key that is equal to k has v, and every other one what it had
  pub lookup-insert_entry : (q : K) (es : List (K × X)) → lookup (is_at (cmp q)) (insert_entry cmp es k v) ≡ (if is_at (cmp q) k then Some v else lookup (is_at (cmp q)) es)
  lookup-insert_entry q [] = refl
  lookup-insert_entry q (e ∷ es) = go (cmp k e.0) refl (lookup-insert_entry q es)
    where
      same : cmp k e.0 ≡ Equal → is_at (cmp q) k ≡ is_at (cmp q) e.0
      same is = ap is_eq (total.antisymm q k ∙ ap ordering_reverse (total.congr k e.0 q is) ∙ sym (total.antisymm q e.0))

      over : (a b : Bool) → a ≡ b → (if b then Some v else lookup (is_at (cmp q)) es) ≡ (if a then Some v else (if b then Some e.1 else lookup (is_at (cmp q)) es))
      over a true is = sym (ap (λ c. if c then Some v else Some e.1) is)
      over a false is = sym (ap (λ c. if c then Some v else lookup (is_at (cmp q)) es) is)

      apart : cmp k e.0 ≡ Greater → is_at (cmp q) e.0 ≡ true → is_at (cmp q) k ≡ false
      apart is at = ap is_eq (total.antisymm q k ∙ ap ordering_reverse (swapped (cmp q e.0) refl))
        where
          swapped : (o : Ordering) → cmp q e.0 ≡ o → cmp k q ≡ Greater
          swapped Less low = cc
          swapped Equal equal = total.antisymm k q ∙ ap ordering_reverse (total.congr q e.0 k equal ∙ total.antisymm e.0 k ∙ ap ordering_reverse is)
          swapped Greater high = cc

      past : (b : Bool) → is_at (cmp q) e.0 ≡ b → cmp k e.0 ≡ Greater → lookup (is_at (cmp q)) (insert_entry cmp es k v) ≡ (if is_at (cmp q) k then Some v else lookup (is_at (cmp q)) es)
          → (if b then Some e.1 else lookup (is_at (cmp q)) (insert_entry cmp es k v)) ≡ (if is_at (cmp q) k then Some v else (if b then Some e.1 else lookup (is_at (cmp q)) es))
      past true at is rest = sym (ap (λ c. if c then Some v else Some e.1) (apart is at))
      past false at is rest = rest

      go : (o : Ordering) → cmp k e.0 ≡ o → lookup (is_at (cmp q)) (insert_entry cmp es k v) ≡ (if is_at (cmp q) k then Some v else lookup (is_at (cmp q)) es)
          → lookup (is_at (cmp q)) (match_ordering o ((k, v) ∷ e ∷ es) ((e.0, v) ∷ es) (e ∷ insert_entry cmp es k v)) ≡ (if is_at (cmp q) k then Some v else lookup (is_at (cmp q)) (e ∷ es))
      go Less is rest = refl
      go Equal is rest = over (is_at (cmp q) k) (is_at (cmp q) e.0) (same is)
      go Greater is rest = past (is_at (cmp q) e.0) refl is rest

module _ {K X : Type 0} (cmp : K → K → Ordering) (test : K → Bool) where
  all_left : (P : K → Type 0) (es : List (K × X)) → AllByRecursion P (keys_of es) → AllByRecursion P (keys_of (remove_entry test es))
  all_left P [] all = tt
  all_left P (e ∷ es) all = go (test e.0) (all_left P es all.1)
    where
      go : (b : Bool) → AllByRecursion P (keys_of (remove_entry test es)) → AllByRecursion P (keys_of (if b then es else e ∷ remove_entry test es))
      go true rest = all.1
      go false rest = (all.0, rest)

  pub sorted-remove_entry : (es : List (K × X)) → IsStrictlySortedBy cmp (keys_of es) → IsStrictlySortedBy cmp (keys_of (remove_entry test es))
  unfolding IsStrictlySortedBy
  sorted-remove_entry [] sorted = tt
  sorted-remove_entry (e ∷ es) sorted = go (test e.0) (sorted-remove_entry es sorted.1)
    where
      go : (b : Bool) → IsStrictlySortedBy cmp (keys_of (remove_entry test es)) → IsStrictlySortedBy cmp (keys_of (if b then es else e ∷ remove_entry test es))
      go true rest = sorted.1
      go false rest = (all_left (λ y. cmp e.0 y ≡ Less) es sorted.0, rest)
