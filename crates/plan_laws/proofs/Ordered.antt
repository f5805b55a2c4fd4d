-- Two lists in order whose keys are the same are the same in their keys.
use Rattle.std.proofs.Common.{◌≡◌, Bool, true, false, List, [], ◌∷◌, refl, sym, ◌∙◌, ap, ap₂, is_some}
use Rattle.std.specs.declared.cmp.Ordering.{Ordering}
use Rattle.std.specs.declared.cmp.Ordering.TheVariants.{Less, Equal, Greater}
use Rattle.std.specs.Ordering.{ordering_reverse}
use Rattle.std.specs.Map.{lookup, keys_of}
use Rattle.std.specs.BTreeMap.{is_at}
use Rattle.std.specs.List.Sorted.{IsStrictlySortedBy}
use Rattle.tree_definitions.proofs.Pairs.{IsExact, tie, self, none_below, below_all}

-- a list has a key
abbrev has : {K Z : Type 0} → (K → K → Ordering) → List (K × Z) → K → Bool
has cmp es k = is_some (lookup (is_at (cmp k)) es)

module _ {K Z : Type 0} (cmp : K → K → Ordering) (exact : IsExact cmp) where
  has_head : (e : K × Z) (es : List (K × Z)) → has cmp (e ∷ es) e.0 ≡ true
  has_head e es = rw (self cmp exact e.0) refl

  -- a key below the first isn't there
  below_head : (k : K) (e : K × Z) (es : List (K × Z)) → cmp k e.0 ≡ Less → IsStrictlySortedBy cmp (keys_of (e ∷ es)) → has cmp (e ∷ es) k ≡ false
  unfolding IsStrictlySortedBy
  below_head k e es l sorted = ap is_some (none_below cmp exact (e ∷ es) k (l, below_all cmp exact k e.0 (keys_of es) l sorted.0))

module _ {K X Y : Type 0} (cmp : K → K → Ordering) (exact : IsExact cmp) where
  -- behind equal heads the keys are the same too
  rest_same : (e : K × X) (es : List (K × X)) (f : K × Y) (fs : List (K × Y)) → e.0 ≡ f.0 → IsStrictlySortedBy cmp (keys_of (e ∷ es)) → IsStrictlySortedBy cmp (keys_of (f ∷ fs)) → (k : K) → has cmp (e ∷ es) k ≡ has cmp (f ∷ fs) k → has cmp es k ≡ has cmp fs k
  unfolding IsStrictlySortedBy
  rest_same e es f fs i s t k h = go (is_at (cmp k) e.0) refl
    where
      other : is_at (cmp k) e.0 ≡ false → is_at (cmp k) f.0 ≡ false
      other q = ap (λ y. is_at (cmp k) y) (sym i) ∙ q

      go : (b : Bool) → is_at (cmp k) e.0 ≡ b → has cmp es k ≡ has cmp fs k
      go true q =
          let a : has cmp es k ≡ false = ap (has cmp es) (tie cmp exact k e.0 q) ∙ ap is_some (none_below cmp exact es e.0 s.0) in
          let c : has cmp fs k ≡ false = ap (has cmp fs) (tie cmp exact k e.0 q ∙ i) ∙ ap is_some (none_below cmp exact fs f.0 t.0) in
          a ∙ sym c
      go false q =
          let a : has cmp (e ∷ es) k ≡ has cmp es k = rw q refl in
          let c : has cmp (f ∷ fs) k ≡ has cmp fs k = rw (other q) refl in
          sym a ∙ h ∙ c

  pub same_keys : (es : List (K × X)) (fs : List (K × Y)) → IsStrictlySortedBy cmp (keys_of es) → IsStrictlySortedBy cmp (keys_of fs) → ((k : K) → has cmp es k ≡ has cmp fs k) → keys_of es ≡ keys_of fs
  unfolding IsStrictlySortedBy
  same_keys [] [] s t h = refl
  same_keys [] (f ∷ fs) s t h = absurd (let y : false ≡ true = h f.0 ∙ has_head cmp exact f fs in cc)
  same_keys (e ∷ es) [] s t h = absurd (let y : false ≡ true = sym (h e.0) ∙ has_head cmp exact e es in cc)
  same_keys (e ∷ es) (f ∷ fs) s t h = go (λ i. same_keys es fs s.1 t.1 (λ k. rest_same e es f fs i s t k (h k))) (cmp e.0 f.0) refl
    where
      go : (e.0 ≡ f.0 → keys_of es ≡ keys_of fs) → (o : Ordering) → cmp e.0 f.0 ≡ o → keys_of (e ∷ es) ≡ keys_of (f ∷ fs)
      go rest Less q = absurd (let z : true ≡ false = sym (has_head cmp exact e es) ∙ h e.0 ∙ below_head cmp exact e.0 f fs q t in cc)
      go rest Equal q = let i : e.0 ≡ f.0 = exact.ties e.0 f.0 q in ap₂ (λ k ks. k ∷ ks) i (rest i)
      go rest Greater q = absurd (let l : cmp f.0 e.0 ≡ Less = exact.total.antisymm f.0 e.0 ∙ ap ordering_reverse q in let z : true ≡ false = sym (has_head cmp exact f fs) ∙ sym (h f.0) ∙ below_head cmp exact f.0 e es l s in cc)
