-- What a binary search finds in entries that ascend by their keys in some total order, and what an edit at that place makes of them.
use Rattle.std.proofs.Common.{◌≡◌, ℕ, zero, suc, ◌<◌, ◌≤◌, Bool, true, false, if◌then◌else◌, List, [], ◌∷◌, length, get_or, Some, None, is_ok, Result, Ok, Err, OnErr, refl, sym, ap, ◌∙◌, subst, arith}
use Rattle.std.specs.List.{AllByRecursion, insert, remove}
use Rattle.std.specs.List.Sorted.{IsStrictlySortedBy, IsSearchInRange, IsBinarySearchResult, IsNonDecreasingBy}
use Rattle.std.specs.Map.{lookup, remove_entry, keys_of}
use Rattle.std.specs.BTreeMap.{insert_entry, is_at}
use Rattle.std.specs.Cmp.{IsTotalOrder}
use Rattle.std.specs.Ordering.{match_ordering, ordering_reverse, ordering_index, is_eq}
use Rattle.std.specs.declared.cmp.Ordering.{Ordering}
use Rattle.std.specs.declared.cmp.Ordering.TheVariants.{Less, Equal, Greater}
use Rattle.std.proofs.lemmas.Cmp.{alike_right}
use Rattle.std.proofs.lemmas.Bool.{false≢true}
use Rattle.sorted_entries.specs.Places.{further, place_of, overwritten, at_of}

-- ---- results at places

further_ok : (r : Result ℕ ℕ) (at : ℕ) → further r ≡ Ok (suc at) → r ≡ Ok at
further_ok (Ok n) at e = let same = ap at_of e in ap Ok (omega arith)
further_ok (Err n) at e = absurd (false≢true (ap is_ok e))

further_err : (r : Result ℕ ℕ) (at : ℕ) → further r ≡ Err (suc at) → r ≡ Err at
further_err (Err n) at e = let same = ap at_of e in ap Err (omega arith)
further_err (Ok n) at e = absurd (false≢true (sym (ap is_ok e)))

not_first : (r : Result ℕ ℕ) → at_of (further r) ≡ zero → ⊥
not_first (Ok n) e = omega arith
not_first (Err n) e = omega arith

-- each of the three answers of a comparison
pub by_answer : {P : Type 0} (o : Ordering) → (o ≡ Less → P) → (o ≡ Equal → P) → (o ≡ Greater → P) → P
by_answer Less a b c = a refl
by_answer Equal a b c = b refl
by_answer Greater a b c = c refl

at_most_two : (o : Ordering) → ordering_index o ≤ 2
at_most_two Less = omega arith
at_most_two Equal = omega arith
at_most_two Greater = omega arith

module _ {K : Type 0} {cmp : K → K → Ordering} (total : IsTotalOrder cmp) (key : K) where
  rises_at : (a b : K) → cmp a b ≡ Less → ordering_index (cmp a key) ≤ ordering_index (cmp b key)
  rises_at a b below = by_answer (cmp b key)
      (λ is. subst (λ o. ordering_index o ≤ ordering_index (cmp b key)) (sym (total.trans a b key below is)) (omega arith))
      (λ is. subst (λ o. ordering_index o ≤ ordering_index (cmp b key)) (sym (sym (alike_right total b key a is) ∙ below)) (omega arith))
      (λ is. subst (λ o. ordering_index (cmp a key) ≤ ordering_index o) (sym is) (at_most_two (cmp a key)))

  turned : (a : K) (o : Ordering) → cmp a key ≡ o → cmp key a ≡ ordering_reverse o
  turned a o is = total.antisymm key a ∙ ap ordering_reverse is

module _ {K V : Type 0} {cmp : K → K → Ordering} (total : IsTotalOrder cmp) (key : K) where
  step : (entry : K × V) (entries : List (K × V)) (o : Ordering) → cmp key entry.0 ≡ o → place_of cmp key (entry ∷ entries) ≡ match_ordering o (Err zero) (Ok zero) (further (place_of cmp key entries))
  step entry entries o is = ap (λ p. match_ordering p (Err zero) (Ok zero) (further (place_of cmp key entries))) is

  inserts : (entry : K × V) (entries : List (K × V)) (value : V) (o : Ordering) → cmp key entry.0 ≡ o
      → match_ordering o ((key, value) ∷ entry ∷ entries) ((entry.0, value) ∷ entries) (entry ∷ insert_entry cmp entries key value) ≡ insert_entry cmp (entry ∷ entries) key value
  inserts entry entries value o is = sym (ap (λ p. match_ordering p ((key, value) ∷ entry ∷ entries) ((entry.0, value) ∷ entries) (entry ∷ insert_entry cmp entries key value)) is)

  -- ---- the place of a key that is there

  pub record IsPlace (entries : List (K × V)) (at : ℕ) : Type 0 where
    pub inside : at < length entries
    pub equal : (d : K × V) → cmp key (get_or entries at d).0 ≡ Equal
    pub value : (d : K × V) → lookup (is_at (cmp key)) entries ≡ Some (get_or entries at d).1
    pub writes : (value : V) → overwritten entries at value ≡ insert_entry cmp entries key value
    pub removes : remove entries at ≡ remove_entry (is_at (cmp key)) entries

  here : (entry : K × V) (entries : List (K × V)) → cmp key entry.0 ≡ Equal → IsPlace (entry ∷ entries) zero
  here entry entries is = record {
    inside = omega arith;
    equal = λ d. is;
    value = λ d. ap (λ b. if b then Some entry.1 else lookup (is_at (cmp key)) entries) (ap is_eq is);
    writes = λ value. inserts entry entries value Equal is;
    removes = sym (ap (λ b. if b then entries else entry ∷ remove_entry (is_at (cmp key)) entries) (ap is_eq is));
  }

  beyond : (entry : K × V) (entries : List (K × V)) (at : ℕ) → cmp key entry.0 ≡ Greater → IsPlace entries at → IsPlace (entry ∷ entries) (suc at)
  beyond entry entries at is place = record {
    inside = omega (arith, place.inside);
    equal = λ d. place.equal d;
    value = λ d. ap (λ b. if b then Some entry.1 else lookup (is_at (cmp key)) entries) (ap is_eq is) ∙ place.value d;
    writes = λ value. ap (λ rest. entry ∷ rest) (place.writes value) ∙ inserts entry entries value Greater is;
    removes = ap (λ rest. entry ∷ rest) place.removes ∙ sym (ap (λ b. if b then entries else entry ∷ remove_entry (is_at (cmp key)) entries) (ap is_eq is));
  }

  pub place_found : (entries : List (K × V)) (at : ℕ) → place_of cmp key entries ≡ Ok at → IsPlace entries at
  place_found [] at e = absurd (false≢true (ap is_ok e))
  place_found (entry ∷ entries) zero e = by_answer (cmp key entry.0)
      (λ is. absurd (false≢true (ap is_ok (sym (step entry entries Less is) ∙ e))))
      (λ is. here entry entries is)
      (λ is. absurd (not_first (place_of cmp key entries) (ap at_of (sym (step entry entries Greater is) ∙ e))))
  place_found (entry ∷ entries) (suc at) e = by_answer (cmp key entry.0)
      (λ is. absurd (false≢true (ap is_ok (sym (step entry entries Less is) ∙ e))))
      (λ is. let same = ap at_of (sym (step entry entries Equal is) ∙ e) in absurd (omega arith))
      (λ is. beyond entry entries at is (place_found entries at (further_ok _ at (sym (step entry entries Greater is) ∙ e))))

  -- ---- the place where a key would go

  pub record IsGap (entries : List (K × V)) (at : ℕ) : Type 0 where
    pub inside : at ≤ length entries
    pub writes : (value : V) → insert entries at (key, value) ≡ insert_entry cmp entries key value

  pub place_missed : (entries : List (K × V)) (at : ℕ) → place_of cmp key entries ≡ Err at → IsGap entries at
  place_missed [] zero e = record { inside = omega arith; writes = λ value. refl }
  place_missed [] (suc at) e = let same = ap at_of e in absurd (omega arith)
  place_missed (entry ∷ entries) zero e = by_answer (cmp key entry.0)
      (λ is. record { inside = omega arith; writes = λ value. inserts entry entries value Less is })
      (λ is. absurd (false≢true (sym (ap is_ok (sym (step entry entries Equal is) ∙ e)))))
      (λ is. absurd (not_first (place_of cmp key entries) (ap at_of (sym (step entry entries Greater is) ∙ e))))
  place_missed (entry ∷ entries) (suc at) e = by_answer (cmp key entry.0)
      (λ is. let same = ap at_of (sym (step entry entries Less is) ∙ e) in absurd (omega arith))
      (λ is. absurd (false≢true (sym (ap is_ok (sym (step entry entries Equal is) ∙ e)))))
      (λ is. let gap = place_missed entries at (further_err _ at (sym (step entry entries Greater is) ∙ e)) in record {
        inside = omega (arith, gap.inside);
        writes = λ value. ap (λ rest. entry ∷ rest) (gap.writes value) ∙ inserts entry entries value Greater is;
      })

  -- a key below all keys isn't among them
  below_all : (entry : K × V) (entries : List (K × V)) → cmp key entry.0 ≡ Less → AllByRecursion (λ y. cmp entry.0 y ≡ Less) (keys_of entries) → lookup (is_at (cmp key)) entries ≡ None
  below_all entry [] is all = refl
  below_all entry (next ∷ entries) is all =
      ap (λ b. if b then Some next.1 else lookup (is_at (cmp key)) entries) (ap is_eq (total.trans key entry.0 next.0 is all.0)) ∙ below_all entry entries is all.1

  pub absent : (entries : List (K × V)) (at : ℕ) → IsStrictlySortedBy cmp (keys_of entries) → place_of cmp key entries ≡ Err at → lookup (is_at (cmp key)) entries ≡ None
  unfolding IsStrictlySortedBy
  absent [] at sorted e = refl
  absent (entry ∷ entries) zero sorted e = by_answer (cmp key entry.0)
      (λ is. ap (λ b. if b then Some entry.1 else lookup (is_at (cmp key)) entries) (ap is_eq is) ∙ below_all entry entries is sorted.0)
      (λ is. absurd (false≢true (sym (ap is_ok (sym (step entry entries Equal is) ∙ e)))))
      (λ is. absurd (not_first (place_of cmp key entries) (ap at_of (sym (step entry entries Greater is) ∙ e))))
  absent (entry ∷ entries) (suc at) sorted e = by_answer (cmp key entry.0)
      (λ is. let same = ap at_of (sym (step entry entries Less is) ∙ e) in absurd (omega arith))
      (λ is. absurd (false≢true (sym (ap is_ok (sym (step entry entries Equal is) ∙ e)))))
      (λ is. ap (λ b. if b then Some entry.1 else lookup (is_at (cmp key)) entries) (ap is_eq is) ∙ absent entries at sorted.1 (further_err _ at (sym (step entry entries Greater is) ∙ e)))

  -- a search that misses finds no value
  pub missing : (entries : List (K × V)) → IsStrictlySortedBy cmp (keys_of entries) → (r : Result ℕ ℕ) → r ≡ place_of cmp key entries → OnErr r (lookup (is_at (cmp key)) entries ≡ None)
  missing entries sorted (Ok at) e = tt
  missing entries sorted (Err at) e = absent entries at sorted (sym e)

  -- a key that isn't there is in none of the entries that are removed for it
  pub nothing_removed : (entries : List (K × V)) → lookup (is_at (cmp key)) entries ≡ None → remove_entry (is_at (cmp key)) entries ≡ entries
  nothing_removed [] none = refl
  nothing_removed (entry ∷ entries) none = go (is_at (cmp key) entry.0) refl (nothing_removed entries)
    where
      go : (b : Bool) → is_at (cmp key) entry.0 ≡ b → (lookup (is_at (cmp key)) entries ≡ None → remove_entry (is_at (cmp key)) entries ≡ entries)
          → (if b then entries else entry ∷ remove_entry (is_at (cmp key)) entries) ≡ entry ∷ entries
      go true is rest = cc (ap (λ b. if b then Some entry.1 else lookup (is_at (cmp key)) entries) (sym is) ∙ none)
      go false is rest = ap (λ tail. entry ∷ tail) (rest (ap (λ b. if b then Some entry.1 else lookup (is_at (cmp key)) entries) (sym is) ∙ none))

  -- ---- a binary search

  each_at : (P : K → Type 0) (entries : List (K × V)) → AllByRecursion P (keys_of entries) → (i : ℕ) (d : K × V) → i < length entries → P (get_or entries i d).0
  each_at P [] all i d inside = absurd (omega arith)
  each_at P (entry ∷ entries) all zero d inside = all.0
  each_at P (entry ∷ entries) all (suc i) d inside = each_at P entries all.1 i d (omega arith)

  rises : (entries : List (K × V)) → IsStrictlySortedBy cmp (keys_of entries) → IsNonDecreasingBy (λ entry. ordering_index (cmp entry.0 key)) entries
  unfolding IsStrictlySortedBy
  rises [] sorted i j d le inside = absurd (omega arith)
  rises (entry ∷ entries) sorted zero zero d le inside = omega arith
  rises (entry ∷ entries) sorted zero (suc j) d le inside = rises_at total key entry.0 _ (each_at (λ y. cmp entry.0 y ≡ Less) entries sorted.0 j d (omega arith))
  rises (entry ∷ entries) sorted (suc i) zero d le inside = absurd (omega arith)
  rises (entry ∷ entries) sorted (suc i) (suc j) d le inside = rises entries sorted.1 i j d (omega arith) (omega arith)

  pub hit : (entries : List (K × V)) → IsStrictlySortedBy cmp (keys_of entries) → (at : ℕ) → at < length entries → ((d : K × V) → cmp (get_or entries at d).0 key ≡ Equal) → place_of cmp key entries ≡ Ok at
  unfolding IsStrictlySortedBy
  hit [] sorted at inside equal = absurd (omega arith)
  hit (entry ∷ entries) sorted zero inside equal = step entry entries Equal (turned total key entry.0 Equal (equal entry))
  hit (entry ∷ entries) sorted (suc at) inside equal =
      step entry entries Greater (turned total key entry.0 Less (sym (alike_right total _ key entry.0 (equal entry)) ∙ each_at (λ y. cmp entry.0 y ≡ Less) entries sorted.0 at entry (omega arith)))
      ∙ ap further (hit entries sorted.1 at (omega arith) equal)

  miss : (entries : List (K × V)) (at : ℕ) → at ≤ length entries → ((j : ℕ) (d : K × V) → j < at → cmp (get_or entries j d).0 key ≡ Less)
      → ((j : ℕ) (d : K × V) → at ≤ j → j < length entries → cmp (get_or entries j d).0 key ≡ Greater) → place_of cmp key entries ≡ Err at
  miss [] zero inside low high = refl
  miss [] (suc at) inside low high = absurd (omega arith)
  miss (entry ∷ entries) zero inside low high = step entry entries Less (turned total key entry.0 Greater (high 0 entry (omega arith) (omega arith)))
  miss (entry ∷ entries) (suc at) inside low high = step entry entries Greater (turned total key entry.0 Less (low 0 entry (omega arith)))
      ∙ ap further (miss entries at (omega arith) (λ j d below. low (suc j) d (omega arith)) (λ j d above below. high (suc j) d (omega arith) (omega arith)))

  pub searched : (entries : List (K × V)) → IsStrictlySortedBy cmp (keys_of entries) → (r : Result ℕ ℕ) → IsSearchInRange r (length entries) → IsBinarySearchResult (λ entry. cmp entry.0 key) entries r → r ≡ place_of cmp key entries
  searched entries sorted (Ok at) inside equal = sym (hit entries sorted at inside equal)
  searched entries sorted (Err at) inside parted = sym (miss entries at inside (λ j d below. (parted (rises entries sorted)).0 j d (omega arith) below) (λ j d above below. (parted (rises entries sorted)).1 j d above below))
