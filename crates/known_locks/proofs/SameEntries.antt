-- Entries in order are the same where each key has the same value in them.
use Rattle.std.proofs.Common.{◌≡◌, Bool, true, false, if◌then◌else◌, List, [], ◌∷◌, Option, Some, None, refl, sym, ap, ◌∙◌, subst}
use Rattle.std.specs.List.{AllByRecursion}
use Rattle.std.specs.List.Sorted.{IsStrictlySortedBy}
use Rattle.std.specs.Map.{keys_of, lookup}
use Rattle.std.specs.BTreeMap.{is_at}
use Rattle.std.specs.Ordering.{is_eq, ordering_reverse}
use Rattle.std.specs.declared.cmp.Ordering.{Ordering}
use Rattle.std.specs.declared.cmp.Ordering.TheVariants.{Less, Equal, Greater}
use Rattle.sorted_entries.specs.Places.{IsKeyOrder}

itself : {K : Type 0} {cmp : K → K → Ordering} → IsKeyOrder cmp → (key : K) → cmp key key ≡ Equal
itself {cmp = cmp} order key = go (cmp key key) (order.total.antisymm key key)
  where
    go : (o : Ordering) → o ≡ ordering_reverse o → o ≡ Equal
    go Less e = cc
    go Equal e = refl
    go Greater e = cc

module _ {K V : Type 0} {cmp : K → K → Ordering} (order : IsKeyOrder cmp) where
  -- the value of a key
  abbrev at : K → List (K × V) → Option V
  at key entries = lookup (is_at (cmp key)) entries

  -- each key is above one
  abbrev pub AllAbove : K → List (K × V) → Type 0
  AllAbove key entries = AllByRecursion (λ k. cmp key k ≡ Less) (keys_of entries)

  -- a key below all isn't among them
  pub absent : (key : K) (entries : List (K × V)) → AllAbove key entries → at key entries ≡ None
  absent key [] all = refl
  absent key (entry ∷ entries) all = ap (λ b. if b then Some entry.1 else at key entries) (ap is_eq all.0) ∙ absent key entries all.1

  pub above_more : (a b : K) (entries : List (K × V)) → cmp a b ≡ Less → AllAbove b entries → AllAbove a entries
  above_more a b [] below all = tt
  above_more a b (entry ∷ entries) below all = (order.total.trans a b entry.0 below all.0, above_more a b entries below all.1)

  first : (key : K) (entry : K × V) (entries : List (K × V)) (b : Bool) → is_at (cmp key) entry.0 ≡ b → at key (entry ∷ entries) ≡ (if b then Some entry.1 else at key entries)
  first key entry entries b e = ap (λ c. if c then Some entry.1 else at key entries) e

  none_some : (v : V) → None ≡ Some v → ⊥
  none_some v e = cc

  -- behind the first entry, the others have the same values too
  behind : (key : K) (x y : V) (xs ys : List (K × V)) → AllAbove key xs → AllAbove key ys →
      ((q : K) → at q ((key, x) ∷ xs) ≡ at q ((key, y) ∷ ys)) → (q : K) → at q xs ≡ at q ys
  behind key x y xs ys low high same q = go (is_at (cmp q) key) refl
    where
      go : (b : Bool) → is_at (cmp q) key ≡ b → at q xs ≡ at q ys
      go true e = subst (λ k. at k xs ≡ at k ys) (order.exact q key e) (absent key xs low ∙ sym (absent key ys high))
      go false e = sym (first q (key, x) xs false e) ∙ same q ∙ first q (key, y) ys false e

  pub same_entries : (es fs : List (K × V)) → IsStrictlySortedBy cmp (keys_of es) → IsStrictlySortedBy cmp (keys_of fs) → ((q : K) → at q es ≡ at q fs) → es ≡ fs
  unfolding IsStrictlySortedBy
  same_entries [] [] s t same = refl
  same_entries [] (f ∷ fs) s t same = absurd (none_some f.1 (same f.0 ∙ first f.0 f fs true (ap is_eq (itself order f.0))))
  same_entries (e ∷ es) [] s t same = absurd (none_some e.1 (sym (same e.0) ∙ first e.0 e es true (ap is_eq (itself order e.0))))
  same_entries (e ∷ es) (f ∷ fs) s t same = go (cmp e.0 f.0) refl (same_entries es fs s.1 t.1)
    where
      go : (o : Ordering) → cmp e.0 f.0 ≡ o → (((q : K) → at q es ≡ at q fs) → es ≡ fs) → e ∷ es ≡ f ∷ fs
      go Less is rest = absurd (none_some e.1 (sym (absent e.0 (f ∷ fs) (is, above_more e.0 f.0 fs is t.0)) ∙ sym (same e.0) ∙ first e.0 e es true (ap is_eq (itself order e.0))))
      go Greater is rest =
          let low : cmp f.0 e.0 ≡ Less = order.total.antisymm f.0 e.0 ∙ ap ordering_reverse is in
          absurd (none_some f.1 (sym (absent f.0 (e ∷ es) (low, above_more f.0 e.0 es low s.0)) ∙ same f.0 ∙ first f.0 f fs true (ap is_eq (itself order f.0))))
      go Equal is rest =
          let key : f.0 ≡ e.0 = order.exact e.0 f.0 (ap is_eq is) in
          let above : AllAbove e.0 fs = subst (λ k. AllAbove k fs) key t.0 in
          let alike : (q : K) → at q ((e.0, e.1) ∷ es) ≡ at q ((e.0, f.1) ∷ fs) = λ q. same q ∙ ap (λ k. at q ((k, f.1) ∷ fs)) key in
          let here : Some e.1 ≡ Some f.1 = sym (first e.0 e es true (ap is_eq (itself order e.0))) ∙ alike e.0 ∙ first e.0 (e.0, f.1) fs true (ap is_eq (itself order e.0)) in
          let value : e.1 ≡ f.1 = cc here in
          let others : es ≡ fs = rest (behind e.0 e.1 f.1 es fs s.0 above alike) in
          ap (λ v. (e.0, v) ∷ es) value ∙ ap (λ k. (k, f.1) ∷ es) (sym key) ∙ ap (λ xs. f ∷ xs) others
