-- What an edit of what is kept of a sector makes of keys in order.
use Rattle.std.proofs.Common.{◌≡◌, ℕ, ◌+◌, ◌≤◌, Bool, true, false, if◌then◌else◌, List, [], ◌∷◌, length, Option, Some, None, is_some, refl, sym, ap, ◌∙◌, subst, arith}
use Rattle.std.specs.List.{AllByRecursion}
use Rattle.std.specs.List.Sorted.{IsStrictlySortedBy}
use Rattle.std.specs.Map.{lookup, remove_entry, keys_of}
use Rattle.std.specs.BTreeMap.{insert_entry, is_at}
use Rattle.std.specs.Ordering.{nat_cmp, match_ordering, ordering_reverse, is_eq}
use Rattle.std.specs.declared.cmp.Ordering.{Ordering}
use Rattle.std.specs.declared.cmp.Ordering.TheVariants.{Less, Equal, Greater}
use Rattle.sorted_entries.specs.Places.{IsKeyOrder}
use Rattle.sorted_entries.proofs.Sorted.{lookup-insert_entry, sorted-insert_entry}
use Rattle.sector_bytes.specs.SectorMaps.{value_at, with_value, without, room_for, Ascend}
use Rattle.sector_bytes.proofs.MapLaws.{by_answer, found, absent, above_more, removed_nothing, with_value_there, adjusted_by_nothing, AllAbove}
use Rattle.clerk_cache.specs.Keys.{with_key, without_key, IsApart, keyed, key_at}

-- ---- keys of a map to nothing

module _ {K : Type 0} {cmp : K → K → Ordering} (order : IsKeyOrder cmp) where
  step_key : (k : K) (entry : K × Unit {0}) (entries : List (K × Unit {0})) (o : Ordering) → cmp k entry.0 ≡ o
      → insert_entry cmp (entry ∷ entries) k tt ≡ match_ordering o ((k, tt) ∷ entry ∷ entries) ((entry.0, tt) ∷ entries) (entry ∷ insert_entry cmp entries k tt)
  step_key k entry entries o is = ap (λ p. match_ordering p ((k, tt) ∷ entry ∷ entries) ((entry.0, tt) ∷ entries) (entry ∷ insert_entry cmp entries k tt)) is

  turned : (a b : K) (o : Ordering) → cmp a b ≡ o → cmp b a ≡ ordering_reverse o
  turned a b o is = order.total.antisymm b a ∙ ap ordering_reverse is

  -- a key below another and below the first entry comes first
  below_first : (a b : K) (entry : K × Unit {0}) (entries : List (K × Unit {0})) → cmp a b ≡ Less → cmp a entry.0 ≡ Less
      → insert_entry cmp (insert_entry cmp (entry ∷ entries) b tt) a tt ≡ (a, tt) ∷ insert_entry cmp (entry ∷ entries) b tt
  below_first a b entry entries is low = by_answer (cmp b entry.0)
      (λ e. ap (λ es. insert_entry cmp es a tt) (step_key b entry entries Less e) ∙ step_key a (b, tt) (entry ∷ entries) Less is ∙ ap (λ es. (a, tt) ∷ es) (sym (step_key b entry entries Less e)))
      (λ e. ap (λ es. insert_entry cmp es a tt) (step_key b entry entries Equal e) ∙ step_key a (entry.0, tt) entries Less low ∙ ap (λ es. (a, tt) ∷ es) (sym (step_key b entry entries Equal e)))
      (λ e. ap (λ es. insert_entry cmp es a tt) (step_key b entry entries Greater e) ∙ step_key a entry (insert_entry cmp entries b tt) Less low ∙ ap (λ es. (a, tt) ∷ es) (sym (step_key b entry entries Greater e)))

  commuted_below : (a b : K) (entries : List (K × Unit {0})) → cmp a b ≡ Less → insert_entry cmp (insert_entry cmp entries a tt) b tt ≡ insert_entry cmp (insert_entry cmp entries b tt) a tt
  commuted_below a b [] is = step_key b (a, tt) [] Greater (turned a b Less is) ∙ sym (step_key a (b, tt) [] Less is)
  commuted_below a b (entry ∷ entries) is = by_answer (cmp a entry.0)
      (λ e. ap (λ es. insert_entry cmp es b tt) (step_key a entry entries Less e) ∙ step_key b (a, tt) (entry ∷ entries) Greater (turned a b Less is) ∙ sym (below_first a b entry entries is e))
      (λ e.
      let high : cmp b entry.0 ≡ Greater = ap (cmp b) (order.exact a entry.0 (ap is_eq e)) ∙ turned a b Less is in
      ap (λ es. insert_entry cmp es b tt) (step_key a entry entries Equal e) ∙ step_key b (entry.0, tt) entries Greater high
      ∙ sym (ap (λ es. insert_entry cmp es a tt) (step_key b entry entries Greater high) ∙ step_key a entry (insert_entry cmp entries b tt) Equal e))
      (λ e.
      let high : cmp b entry.0 ≡ Greater = turned entry.0 b Less (order.total.trans entry.0 a b (turned a entry.0 Greater e) is) in
      ap (λ es. insert_entry cmp es b tt) (step_key a entry entries Greater e) ∙ step_key b entry (insert_entry cmp entries a tt) Greater high
      ∙ ap (λ es. entry ∷ es) (commuted_below a b entries is)
      ∙ sym (ap (λ es. insert_entry cmp es a tt) (step_key b entry entries Greater high) ∙ step_key a entry (insert_entry cmp entries b tt) Greater e))

  -- two keys go in in either order
  pub commuted : (a b : K) (entries : List (K × Unit {0})) → insert_entry cmp (insert_entry cmp entries a tt) b tt ≡ insert_entry cmp (insert_entry cmp entries b tt) a tt
  commuted a b entries = by_answer (cmp a b)
      (λ is. commuted_below a b entries is)
      (λ is. let same = order.exact a b (ap is_eq is) in (λ i. insert_entry cmp (insert_entry cmp entries (sym same i) tt) (same i) tt))
      (λ is. sym (commuted_below b a entries (turned a b Greater is)))

  itself : (k : K) → is_at (cmp k) k ≡ true
  itself k = by_answer (cmp k k) (λ is. cc (sym is ∙ turned k k Less is)) (λ is. ap is_eq is) (λ is. cc (sym is ∙ turned k k Greater is))

  -- a key that went in comes out again
  pub taken_out : (k : K) (entries : List (K × Unit {0})) → lookup (is_at (cmp k)) entries ≡ None → remove_entry (is_at (cmp k)) (insert_entry cmp entries k tt) ≡ entries
  taken_out k [] none = ap (λ t. if t then [] else (k, tt) ∷ []) (itself k)
  taken_out k (entry ∷ entries) none = by_answer (cmp k entry.0)
      (λ is. ap (remove_entry (is_at (cmp k))) (step_key k entry entries Less is)
      ∙ ap (λ t. if t then entry ∷ entries else (k, tt) ∷ remove_entry (is_at (cmp k)) (entry ∷ entries)) (itself k))
      (λ is. cc (sym (ap (λ t. if t then Some entry.1 else lookup (is_at (cmp k)) entries) (ap is_eq is)) ∙ none))
      (λ is. ap (remove_entry (is_at (cmp k))) (step_key k entry entries Greater is)
      ∙ ap (λ t. if t then insert_entry cmp entries k tt else entry ∷ remove_entry (is_at (cmp k)) (insert_entry cmp entries k tt)) (ap is_eq is)
      ∙ ap (λ es. entry ∷ es) (taken_out k entries (sym (ap (λ t. if t then Some entry.1 else lookup (is_at (cmp k)) entries) (ap is_eq is)) ∙ none)))

  -- the same, where there may be none
  both : (a b : Option K) (keys : List (K × Unit {0})) → with_key cmp a (with_key cmp b keys) ≡ with_key cmp b (with_key cmp a keys)
  both None None keys = refl
  both None (Some b) keys = refl
  both (Some a) None keys = refl
  both (Some a) (Some b) keys = commuted b a keys

  pub taken : (o : Option K) (keys : List (K × Unit {0})) → IsApart cmp o keys → without_key cmp o (with_key cmp o keys) ≡ keys
  taken None keys apart = refl
  taken (Some k) keys apart = taken_out k keys apart

-- the two keys, where there are both, aren't the same
abbrev pub AreOther : {K : Type 0} → (K → K → Ordering) → Option K → Option K → Type 0
AreOther cmp None b = Unit {0}
AreOther cmp (Some a) None = Unit {0}
AreOther cmp (Some a) (Some b) = is_at (cmp a) b ≡ false

-- ---- keys of the states

module _ {K S : Type 0} {cmp : K → K → Ordering} (order : IsKeyOrder cmp) (key : ℕ × S → Option K) where
  -- they ascend
  pub keyed_sorted : (states : List (ℕ × S)) → IsStrictlySortedBy cmp (keys_of (keyed cmp key states))
  unfolding IsStrictlySortedBy
  keyed_sorted [] = tt
  keyed_sorted (entry ∷ states) = go (key entry) (keyed_sorted states)
    where
      go : (o : Option K) → IsStrictlySortedBy cmp (keys_of (keyed cmp key states)) → IsStrictlySortedBy cmp (keys_of (with_key cmp o (keyed cmp key states)))
      go None rest = rest
      go (Some k) rest = sorted-insert_entry order.total k tt (keyed cmp key states) rest

  lookup_with : (k : K) (o : Option K) (keys : List (K × Unit {0})) → AreOther cmp (Some k) o → lookup (is_at (cmp k)) keys ≡ None → lookup (is_at (cmp k)) (with_key cmp o keys) ≡ None
  lookup_with k None keys other none = none
  lookup_with k (Some l) keys other none = lookup-insert_entry order.total l tt k keys ∙ ap (λ t. if t then Some tt else lookup (is_at (cmp k)) keys) other ∙ none

  -- a key that is none of theirs is apart from them
  all_apart : (k : Option K) (states : List (ℕ × S)) → AllByRecursion (λ entry. AreOther cmp k (key entry)) states → IsApart cmp k (keyed cmp key states)
  all_apart None states all = tt
  all_apart (Some k) [] all = refl
  all_apart (Some k) (entry ∷ states) all = lookup_with k (key entry) (keyed cmp key states) all.0 (all_apart (Some k) states all.1)

  module _ (sector : ℕ) where
    pub keyed-with : (state : S) (states : List (ℕ × S)) → Ascend states → keyed cmp key (with_value states sector state) ≡ with_key cmp (key (sector, state)) (keyed cmp key (without states sector))
    unfolding IsStrictlySortedBy
    keyed-with state [] sorted = refl
    keyed-with state (entry ∷ states) sorted = by_answer (nat_cmp sector entry.0)
        (λ is.
        let none : value_at (entry ∷ states) sector ≡ None = ap (λ t. if t then Some entry.1 else value_at states sector) (ap is_eq is) ∙ absent sector states (above_more sector entry.0 states is sorted.0) in
        ap (λ o. keyed cmp key (match_ordering o ((sector, state) ∷ entry ∷ states) ((entry.0, state) ∷ states) (entry ∷ with_value states sector state))) is
        ∙ ap (λ es. with_key cmp (key (sector, state)) (keyed cmp key es)) (sym (removed_nothing (entry ∷ states) sector none)))
        (λ is.
        ap (λ o. keyed cmp key (match_ordering o ((sector, state) ∷ entry ∷ states) ((entry.0, state) ∷ states) (entry ∷ with_value states sector state))) is
        ∙ ap (λ n. with_key cmp (key (n, state)) (keyed cmp key states)) (found sector entry.0 (ap is_eq is))
        ∙ ap (λ t. with_key cmp (key (sector, state)) (keyed cmp key (if t then states else entry ∷ without states sector))) (sym (ap is_eq is)))
        (λ is.
        ap (λ o. keyed cmp key (match_ordering o ((sector, state) ∷ entry ∷ states) ((entry.0, state) ∷ states) (entry ∷ with_value states sector state))) is
        ∙ ap (with_key cmp (key entry)) (keyed-with state states sorted.1)
        ∙ both order (key entry) (key (sector, state)) (keyed cmp key (without states sector))
        ∙ ap (λ t. with_key cmp (key (sector, state)) (keyed cmp key (if t then states else entry ∷ without states sector))) (sym (ap is_eq is)))

    -- the keys of all are those of the others with the sector's own
    pub keyed-at : (o : Option S) (states : List (ℕ × S)) → Ascend states → value_at states sector ≡ o → keyed cmp key states ≡ with_key cmp (key_at key sector o) (keyed cmp key (without states sector))
    keyed-at None states sorted is = ap (keyed cmp key) (sym (removed_nothing states sector is))
    keyed-at (Some state) states sorted is =
        ap (keyed cmp key) (sym (with_value_there (λ v. v) states sector state sorted is ∙ adjusted_by_nothing states sector)) ∙ keyed-with state states sorted

    module _ (others : (state : S) (entry : ℕ × S) → is_at (nat_cmp sector) entry.0 ≡ false → AreOther cmp (key (sector, state)) (key entry)) where
      others_all : (state : S) (states : List (ℕ × S)) → value_at states sector ≡ None → AllByRecursion (λ entry. AreOther cmp (key (sector, state)) (key entry)) states
      others_all state [] none = tt
      others_all state (entry ∷ states) none = go (is_at (nat_cmp sector) entry.0) refl none (others_all state states)
        where
          go : (t : Bool) → is_at (nat_cmp sector) entry.0 ≡ t → (if t then Some entry.1 else value_at states sector) ≡ None
              → (value_at states sector ≡ None → AllByRecursion (λ entry. AreOther cmp (key (sector, state)) (key entry)) states)
              → AllByRecursion (λ entry. AreOther cmp (key (sector, state)) (key entry)) (entry ∷ states)
          go true is none rest = cc none
          go false is none rest = (others state entry is, rest none)

      -- a sector that is gone has no key
      gone : (states : List (ℕ × S)) → Ascend states → value_at (without states sector) sector ≡ None
      unfolding IsStrictlySortedBy
      gone [] sorted = refl
      gone (entry ∷ states) sorted = go (is_at (nat_cmp sector) entry.0) refl (gone states sorted.1)
        where
          go : (t : Bool) → is_at (nat_cmp sector) entry.0 ≡ t → value_at (without states sector) sector ≡ None → value_at (if t then states else entry ∷ without states sector) sector ≡ None
          go true is rest = absent sector states (subst (λ low. AllAbove low states) (found sector entry.0 is) sorted.0)
          go false is rest = ap (λ t. if t then Some entry.1 else value_at (without states sector) sector) is ∙ rest

      apart_at : (o : Option S) (states : List (ℕ × S)) → Ascend states → IsApart cmp (key_at key sector o) (keyed cmp key (without states sector))
      apart_at None states sorted = tt
      apart_at (Some state) states sorted = all_apart (key (sector, state)) (without states sector) (others_all state (without states sector) (gone states sorted))

      -- what the keys are once the sector's own is taken out
      unkeyed : (o : Option S) (states : List (ℕ × S)) → Ascend states → value_at states sector ≡ o → without_key cmp (key_at key sector o) (keyed cmp key states) ≡ keyed cmp key (without states sector)
      unkeyed o states sorted is =
          ap (without_key cmp (key_at key sector o)) (keyed-at o states sorted is) ∙ taken order (key_at key sector o) (keyed cmp key (without states sector)) (apart_at o states sorted)

      module _ (o : Option S) (states : List (ℕ × S)) (sorted : Ascend states) (there : value_at states sector ≡ o) (keys : List (K × Unit {0})) (old : Option K)
          (are : keys ≡ keyed cmp key states) (own : old ≡ key_at key sector o) where
        pub taken_keys : without_key cmp old keys ≡ keyed cmp key (without states sector)
        taken_keys = (λ i. without_key cmp (own i) (are i)) ∙ unkeyed o states sorted there

        pub exchanged_keys : (state : S) (next : Option K) (new : List (K × Unit {0})) → next ≡ key (sector, state)
            → ((rest : List (K × Unit {0})) → keys ≡ with_key cmp old rest → IsApart cmp old rest → new ≡ with_key cmp next rest)
            → new ≡ keyed cmp key (with_value states sector state)
        exchanged_keys state next new is exchanged =
            let rest = keyed cmp key (without states sector) in
            exchanged rest (are ∙ keyed-at o states sorted there ∙ ap (λ k. with_key cmp k rest) (sym own)) (subst (λ k. IsApart cmp k rest) (sym own) (apart_at o states sorted))
            ∙ ap (λ k. with_key cmp k rest) is
            ∙ sym (keyed-with state states sorted)

-- ---- how many there are

module _ {K : Type 0} (cmp : K → K → Ordering) where
  length-insert : (keys : List (K × Unit {0})) (key : K) → length (insert_entry cmp keys key tt) ≤ length keys + 1
  length-insert [] key = omega arith
  length-insert (entry ∷ keys) key = go (cmp key entry.0) (length-insert keys key)
    where
      go : (o : Ordering) → length (insert_entry cmp keys key tt) ≤ length keys + 1
          → length (match_ordering o ((key, tt) ∷ entry ∷ keys) ((entry.0, tt) ∷ keys) (entry ∷ insert_entry cmp keys key tt)) ≤ length (entry ∷ keys) + 1
      go Less rest = omega arith
      go Equal rest = omega arith
      go Greater rest = omega arith

  length-with_key : (o : Option K) (keys : List (K × Unit {0})) → length (with_key cmp o keys) ≤ length keys + 1
  length-with_key None keys = omega arith
  length-with_key (Some key) keys = length-insert keys key

  fewer_keys : {S : Type 0} (key : ℕ × S → Option K) (states : List (ℕ × S)) → length (keyed cmp key states) ≤ length states
  fewer_keys key [] = omega arith
  fewer_keys key (entry ∷ states) = omega (arith, length-with_key (key entry) (keyed cmp key states), fewer_keys key states)

module _ {S : Type 0} (sector : ℕ) where
  pub length-with : (state : S) (states : List (ℕ × S)) → Ascend states → length (with_value states sector state) ≡ length states + room_for states sector
  unfolding IsStrictlySortedBy
  length-with state [] sorted = omega arith
  length-with state (entry ∷ states) sorted = go (nat_cmp sector entry.0) refl (length-with state states sorted.1)
    where
      go : (o : Ordering) → nat_cmp sector entry.0 ≡ o → length (with_value states sector state) ≡ length states + room_for states sector
          → length (match_ordering o ((sector, state) ∷ entry ∷ states) ((entry.0, state) ∷ states) (entry ∷ with_value states sector state))
          ≡ length (entry ∷ states) + (if is_some (if is_eq o then Some entry.1 else value_at states sector) then 0 else 1)
      go Less is rest =
          let one : room_for states sector ≡ 1 = ap (λ (v : Option S). if is_some v then 0 else 1) (absent sector states (above_more sector entry.0 states is sorted.0)) in
          omega (arith, one)
      go Equal is rest = omega arith
      go Greater is rest = omega (arith, rest)

  pub length-without : (states : List (ℕ × S)) → length (without states sector) + 1 ≡ length states + room_for states sector
  length-without [] = omega arith
  length-without (entry ∷ states) = go (is_at (nat_cmp sector) entry.0) (length-without states)
    where
      go : (t : Bool) → length (without states sector) + 1 ≡ length states + room_for states sector
          → length (if t then states else entry ∷ without states sector) + 1 ≡ length (entry ∷ states) + (if is_some (if t then Some entry.1 else value_at states sector) then 0 else 1)
      go true rest = omega arith
      go false rest = omega (arith, rest)

  -- there is room for the sector's key once its old one is out
  pub room_for_key : {K : Type 0} (cmp : K → K → Ordering) (key : ℕ × S → Option K) (states : List (ℕ × S)) → length (keyed cmp key (without states sector)) + 1 ≤ length states + room_for states sector
  room_for_key cmp key states = omega (arith, fewer_keys cmp key (without states sector), length-without states)

  pub shorter : (states : List (ℕ × S)) → length (without states sector) ≤ length states
  shorter [] = omega arith
  shorter (entry ∷ states) = go (is_at (nat_cmp sector) entry.0) (shorter states)
    where
      go : (t : Bool) → length (without states sector) ≤ length states → length (if t then states else entry ∷ without states sector) ≤ length (entry ∷ states)
      go true rest = omega arith
      go false rest = omega (arith, rest)
