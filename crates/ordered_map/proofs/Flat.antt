-- An edit of a chunk is the same edit of all entries; and that the chunks stay filled.
use Rattle.std.proofs.Common.{◌≡◌, ℕ, zero, suc, ◌+◌, ◌-◌, ◌<◌, ◌≤◌, List, [], ◌∷◌, ◌++◌, length, get_or, set, take, drop, append_assoc, refl, sym, ap, ◌∙◌, subst, arith, add-one, length-append}
use Rattle.std.specs.List.{insert, remove}
use Rattle.std.proofs.lemmas.List.{set_split, get_or_read, set-append_left, set-append_right, get_or-append-add, get_or_append_left}
use Rattle.std.proofs.lemmas.List.Edits.{insert-append_left, insert-append_right, remove-append_left, remove-append_right}
use Rattle.ordered_map.specs.declared.chunk.TheConstants.{CHUNK}
use Rattle.ordered_map.specs.Chunks.{joined, chunk_at, flat, overwritten, AreFilled, AreBlank}
use Rattle.ordered_map.proofs.Spots.{overwrites}

module _ {E : Type 0} where
  -- ---- lists of chunks, taken apart

  pub parts : (chunks : List (List E)) (c : ℕ) → c < length chunks → chunks ≡ take c chunks ++ (chunk_at chunks c ∷ drop (suc c) chunks)
  parts [] c inside = absurd (omega arith)
  parts (chunk ∷ chunks) zero inside = refl
  parts (chunk ∷ chunks) (suc c) inside = ap (λ rest. chunk ∷ rest) (parts chunks c (omega arith))

  pub joined-append : (xs ys : List (List E)) → joined (xs ++ ys) ≡ joined xs ++ joined ys
  joined-append [] ys = refl
  joined-append (x ∷ xs) ys = ap (λ rest. x ++ rest) (joined-append xs ys) ∙ sym (append_assoc x (joined xs) (joined ys))

  pub filled-append : (xs ys : List (List E)) → AreFilled xs → AreFilled ys → AreFilled (xs ++ ys)
  filled-append [] ys a b = b
  filled-append (x ∷ xs) ys a b = (a.0, a.1, filled-append xs ys a.2 b)

  pub filled-take : (c : ℕ) (xs : List (List E)) → AreFilled xs → AreFilled (take c xs)
  filled-take zero xs a = tt
  filled-take (suc c) [] a = tt
  filled-take (suc c) (x ∷ xs) a = (a.0, a.1, filled-take c xs a.2)

  pub filled-drop : (c : ℕ) (xs : List (List E)) → AreFilled xs → AreFilled (drop c xs)
  filled-drop zero xs a = a
  filled-drop (suc c) [] a = tt
  filled-drop (suc c) (x ∷ xs) a = filled-drop c xs a.2

  pub filled-at : (c : ℕ) (xs : List (List E)) → c < length xs → AreFilled xs → (0 < length (chunk_at xs c)) × (length (chunk_at xs c) ≤ CHUNK)
  filled-at c [] inside a = absurd (omega arith)
  filled-at zero (x ∷ xs) inside a = (a.0, a.1)
  filled-at (suc c) (x ∷ xs) inside a = filled-at c xs (omega arith) a.2

  pub whole : (chunks : List (List E)) (c : ℕ) → c < length chunks → joined chunks ≡ joined (take c chunks) ++ (chunk_at chunks c ++ joined (drop (suc c) chunks))
  whole chunks c inside = ap joined (parts chunks c inside) ∙ joined-append (take c chunks) (chunk_at chunks c ∷ drop (suc c) chunks)

  pub with_chunk : (chunks : List (List E)) (c : ℕ) (x : List E) → c < length chunks → joined (set chunks c x) ≡ joined (take c chunks) ++ (x ++ joined (drop (suc c) chunks))
  with_chunk chunks c x inside = ap joined (set_split chunks c x inside) ∙ joined-append (take c chunks) (x ∷ drop (suc c) chunks)

  -- ---- edits of one chunk

  insert_within : (before chunk after : List E) (at : ℕ) (entry : E) → at ≤ length chunk → insert (before ++ (chunk ++ after)) (length before + at) entry ≡ before ++ (insert chunk at entry ++ after)
  insert_within before chunk after at entry inside =
      let same : length before + at - length before ≡ at = omega arith in
      insert-append_right before (chunk ++ after) (length before) (length before + at) entry refl (omega arith)
      ∙ ap (λ i. before ++ insert (chunk ++ after) i entry) same
      ∙ ap (λ rest. before ++ rest) (insert-append_left chunk after at entry inside)

  remove_within : (before chunk after : List E) (at : ℕ) → at < length chunk → remove (before ++ (chunk ++ after)) (length before + at) ≡ before ++ (remove chunk at ++ after)
  remove_within before chunk after at inside =
      let same : length before + at - length before ≡ at = omega arith in
      remove-append_right before (chunk ++ after) (length before) (length before + at) refl (omega arith)
      ∙ ap (λ i. before ++ remove (chunk ++ after) i) same
      ∙ ap (λ rest. before ++ rest) (remove-append_left chunk after at inside)

  set_within : (before chunk after : List E) (at : ℕ) (entry : E) → at < length chunk → set (before ++ (chunk ++ after)) (length before + at) entry ≡ before ++ (set chunk at entry ++ after)
  set_within before chunk after at entry inside =
      let same : length before + at - length before ≡ at = omega arith in
      set-append_right before (chunk ++ after) (length before) (length before + at) entry refl (omega arith)
      ∙ ap (λ i. before ++ set (chunk ++ after) i entry) same
      ∙ ap (λ rest. before ++ rest) (set-append_left chunk after at entry inside)

  pub get_within : (chunks : List (List E)) (c at : ℕ) (d : E) → c < length chunks → at < length (chunk_at chunks c) → get_or (joined chunks) (flat chunks c at) d ≡ get_or (chunk_at chunks c) at d
  get_within chunks c at d inside below =
      ap (λ es. get_or es (flat chunks c at) d) (whole chunks c inside)
      ∙ get_or-append-add (joined (take c chunks)) _ at d
      ∙ get_or_append_left (chunk_at chunks c) _ d at below

  pub insert_flat : (chunks : List (List E)) (c at : ℕ) (entry : E) → c < length chunks → at ≤ length (chunk_at chunks c)
      → joined (set chunks c (insert (chunk_at chunks c) at entry)) ≡ insert (joined chunks) (flat chunks c at) entry
  insert_flat chunks c at entry inside below =
      with_chunk chunks c _ inside
      ∙ sym (insert_within (joined (take c chunks)) (chunk_at chunks c) (joined (drop (suc c) chunks)) at entry below)
      ∙ ap (λ es. insert es (flat chunks c at) entry) (sym (whole chunks c inside))

  pub remove_flat : (chunks : List (List E)) (c at : ℕ) → c < length chunks → at < length (chunk_at chunks c)
      → joined (set chunks c (remove (chunk_at chunks c) at)) ≡ remove (joined chunks) (flat chunks c at)
  remove_flat chunks c at inside below =
      with_chunk chunks c _ inside
      ∙ sym (remove_within (joined (take c chunks)) (chunk_at chunks c) (joined (drop (suc c) chunks)) at below)
      ∙ ap (λ es. remove es (flat chunks c at)) (sym (whole chunks c inside))

  -- a chunk that goes may change before
  pub remove_set : (chunks : List (List E)) (c : ℕ) (x : List E) → remove (set chunks c x) c ≡ remove chunks c
  remove_set [] c x = refl
  remove_set (chunk ∷ chunks) zero x = refl
  remove_set (chunk ∷ chunks) (suc c) x = ap (λ rest. chunk ∷ rest) (remove_set chunks c x)

  only_one : (xs : List E) (at : ℕ) → length xs ≡ 1 → at < length xs → [] ≡ remove xs at
  only_one [] at one inside = absurd (omega arith)
  only_one (x ∷ []) zero one inside = refl
  only_one (x ∷ []) (suc at) one inside = absurd (omega arith)
  only_one (x ∷ y ∷ xs) at one inside = absurd (omega arith)

  pub discard_flat : (chunks : List (List E)) (c at : ℕ) → c < length chunks → length (chunk_at chunks c) ≡ 1 → at < length (chunk_at chunks c) → joined (remove chunks c) ≡ remove (joined chunks) (flat chunks c at)
  discard_flat chunks c at inside one below =
      joined-append (take c chunks) (drop (suc c) chunks)
      ∙ ap (λ es. joined (take c chunks) ++ (es ++ joined (drop (suc c) chunks))) (only_one (chunk_at chunks c) at one below)
      ∙ sym (remove_within (joined (take c chunks)) (chunk_at chunks c) (joined (drop (suc c) chunks)) at below)
      ∙ ap (λ es. remove es (flat chunks c at)) (sym (whole chunks c inside))

  -- ---- no chunk is empty

  pub filled_set : (chunks : List (List E)) (c : ℕ) (x : List E) → c < length chunks → AreFilled chunks → 0 < length x → length x ≤ CHUNK → AreFilled (set chunks c x)
  filled_set chunks c x inside filled some most = subst AreFilled (sym (set_split chunks c x inside)) (filled-append _ _ (filled-take c chunks filled) (some, most, filled-drop (suc c) chunks filled))

  pub filled_remove : (chunks : List (List E)) (c : ℕ) → AreFilled chunks → AreFilled (remove chunks c)
  filled_remove chunks c filled = filled-append _ _ (filled-take c chunks filled) (filled-drop (suc c) chunks filled)

get_or_same : {E : Type 0} (xs : List E) (i : ℕ) (d : E) → i < length xs → get_or xs i d ≡ get_or xs i (get_or xs i d)
get_or_same [] i d inside = absurd (omega arith)
get_or_same (x ∷ xs) zero d inside = refl
get_or_same (x ∷ xs) (suc i) d inside = get_or_same xs i d (omega arith)

pub overwrite_flat : {K V : Type 0} (chunks : List (List (K × V))) (c at : ℕ) (value : V) → c < length chunks → at < length (chunk_at chunks c)
    → joined (set chunks c (overwritten (chunk_at chunks c) at value)) ≡ overwritten (joined chunks) (flat chunks c at) value
overwrite_flat {K} {V} chunks c at value inside below = go (chunk_at chunks c) refl
  where
    go : (chunk : List (K × V)) → chunk_at chunks c ≡ chunk → joined (set chunks c (overwritten (chunk_at chunks c) at value)) ≡ overwritten (joined chunks) (flat chunks c at) value
    go [] is = absurd (omega (arith, ap length is))
    go (d ∷ rest) is =
        let entry : K × V = get_or (chunk_at chunks c) at d in
        let there : flat chunks c at < length (joined chunks) = omega (arith, ap length (whole chunks c inside), length-append (joined (take c chunks)) (chunk_at chunks c ++ joined (drop (suc c) chunks)), length-append (chunk_at chunks c) (joined (drop (suc c) chunks))) in
        ap (λ x. joined (set chunks c x)) (sym (overwrites (chunk_at chunks c) at entry value below (get_or_same (chunk_at chunks c) at d below)))
        ∙ with_chunk chunks c _ inside
        ∙ sym (set_within (joined (take c chunks)) (chunk_at chunks c) (joined (drop (suc c) chunks)) at (entry.0, value) below)
        ∙ ap (λ es. set es (flat chunks c at) (entry.0, value)) (sym (whole chunks c inside))
        ∙ overwrites (joined chunks) (flat chunks c at) entry value there (sym (get_within chunks c at entry inside below ∙ sym (get_or_same (chunk_at chunks c) at d below)))

-- ---- the chunks as they are kept

module _ {E : Type 0} where
  -- what reads of a chunk is what stands at its place
  pub read_chunk : (chunks : List (List E)) (c : ℕ) (chunk : List E) → c < length chunks → chunk ≡ get_or chunks c chunk → chunk ≡ chunk_at chunks c
  read_chunk chunks c chunk inside is = get_or_read chunks c chunk inside is []

  below_removed : (xs : List (List E)) (c j : ℕ) (d : List E) → c < j → get_or (remove xs j) c d ≡ get_or xs c d
  below_removed [] c zero d below = absurd (omega arith)
  below_removed [] c (suc j) d below = refl
  below_removed (x ∷ xs) c zero d below = absurd (omega arith)
  below_removed (x ∷ xs) zero (suc j) d below = refl
  below_removed (x ∷ xs) (suc c) (suc j) d below = below_removed xs c j d (omega arith)

  -- a chunk before one that goes stays where it is
  pub read_below : (chunks : List (List E)) (c j : ℕ) (chunk : List E) → c < j → j < length chunks → chunk ≡ get_or (remove chunks j) c chunk → chunk ≡ chunk_at chunks c
  read_below chunks c j chunk below inside is = read_chunk chunks c chunk (omega arith) (is ∙ below_removed chunks c j chunk below)

  pub blank_push : (blank : List (List E)) (x : List E) → AreBlank blank → x ≡ [] → AreBlank (blank ++ x ∷ [])
  blank_push [] x all none = (none, tt)
  blank_push (y ∷ blank) x all none = (all.0, blank_push blank x all.1 none)

  pub blank_first : (first rest : List (List E)) → AreBlank (first ++ rest) → AreBlank first
  blank_first [] rest all = tt
  blank_first (x ∷ first) rest all = (all.0, blank_first first rest all.1)

  pub blank_last : (first : List (List E)) (x : List E) → AreBlank (first ++ x ∷ []) → x ≡ []
  blank_last [] x all = all.0
  blank_last (y ∷ first) x all = blank_last first x all.1

  -- a chunk that is split in two
  pub split_chunks : (chunks : List (List E)) (c : ℕ) (lower upper : List E) → c < length chunks → insert (set chunks c lower) (c + 1) upper ≡ take c chunks ++ (lower ∷ upper ∷ drop (suc c) chunks)
  split_chunks chunks c lower upper inside = ap (λ n. insert (set chunks c lower) n upper) (add-one c) ∙ go chunks c inside
    where
      go : (xs : List (List E)) (n : ℕ) → n < length xs → insert (set xs n lower) (suc n) upper ≡ take n xs ++ (lower ∷ upper ∷ drop (suc n) xs)
      go [] n inside = absurd (omega arith)
      go (x ∷ xs) zero inside = refl
      go (x ∷ xs) (suc n) inside = ap (λ rest. x ∷ rest) (go xs n (omega arith))
