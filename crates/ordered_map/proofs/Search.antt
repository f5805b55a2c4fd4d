-- The key's place among all entries, from its chunk and its place there.
use Rattle.std.proofs.Common.{◌≡◌, ℕ, zero, suc, ◌<◌, ◌≤◌, Bool, true, false, List, [], ◌∷◌, ◌++◌, length, get_or, take, drop, Result, Ok, Err, refl, sym, ap, ◌∙◌, subst, arith}
use Rattle.std.specs.List.{AllByRecursion}
use Rattle.std.specs.List.Sorted.{IsStrictlySortedBy, IsPartitionedBy, IsPartitionPoint}
use Rattle.std.specs.Map.{keys_of}
use Rattle.std.specs.Cmp.{IsTotalOrder}
use Rattle.std.specs.Ordering.{match_ordering, ordering_reverse, is_gt}
use Rattle.std.specs.declared.cmp.Ordering.{Ordering}
use Rattle.std.specs.declared.cmp.Ordering.TheVariants.{Less, Equal, Greater}
use Rattle.std.proofs.lemmas.Bool.{false≢true}
use Rattle.std.proofs.lemmas.List.{get_or_default}
use Rattle.sorted_entries.specs.Places.{further, place_of}
use Rattle.ordered_map.specs.Chunks.{joined, chunk_at, ends_below, EndBelow, AreFilled, AreBelow, AreAbove, IsChunkOf, shifted}
use Rattle.sorted_entries.proofs.Spots.{by_answer}
use Rattle.ordered_map.proofs.Flat.{whole, filled-at}

shifted_none : (r : Result ℕ ℕ) → r ≡ shifted 0 r
shifted_none (Ok at) = ap Ok (omega arith)
shifted_none (Err at) = ap Err (omega arith)

shifted_more : (n : ℕ) (r : Result ℕ ℕ) → further (shifted n r) ≡ shifted (suc n) r
shifted_more n (Ok at) = ap Ok (omega arith)
shifted_more n (Err at) = ap Err (omega arith)

gt_is : (o : Ordering) → is_gt o ≡ true → o ≡ Greater
gt_is Less e = absurd (false≢true e)
gt_is Equal e = absurd (false≢true e)
gt_is Greater e = refl

module _ {K : Type 0} {cmp : K → K → Ordering} (total : IsTotalOrder cmp) (key : K) where
  -- what lies below a key that lies below
  under : (a b : K) → cmp a b ≡ Less → cmp key b ≡ Greater → cmp key a ≡ Greater
  under a b less above = total.antisymm key a ∙ ap ordering_reverse (total.trans a b key less (total.antisymm b key ∙ ap ordering_reverse above))

  -- what lies above a key that doesn't lie below
  over : (a b : K) → is_gt (cmp key a) ≡ false → cmp a b ≡ Less → cmp key b ≡ Less
  over a b not less = by_answer (cmp key a)
      (λ is. total.trans key a b is less)
      (λ is. total.congr key a b is ∙ less)
      (λ is. absurd (false≢true (sym not ∙ ap is_gt is)))

module _ {K V : Type 0} {cmp : K → K → Ordering} (total : IsTotalOrder cmp) where
  -- ---- ascending entries, taken apart

  pub sorted_rest : (before rest : List (K × V)) → IsStrictlySortedBy cmp (keys_of (before ++ rest)) → IsStrictlySortedBy cmp (keys_of rest)
  unfolding IsStrictlySortedBy
  sorted_rest [] rest sorted = sorted
  sorted_rest (entry ∷ before) rest sorted = sorted_rest before rest sorted.1

  all_first : (P : K → Type 0) (before rest : List (K × V)) → AllByRecursion P (keys_of (before ++ rest)) → AllByRecursion P (keys_of before)
  all_first P [] rest all = tt
  all_first P (entry ∷ before) rest all = (all.0, all_first P before rest all.1)

  all_rest : (P : K → Type 0) (before rest : List (K × V)) → AllByRecursion P (keys_of (before ++ rest)) → AllByRecursion P (keys_of rest)
  all_rest P [] rest all = all
  all_rest P (entry ∷ before) rest all = all_rest P before rest all.1

  all_both : (P : K → Type 0) (before rest : List (K × V)) → AllByRecursion P (keys_of before) → AllByRecursion P (keys_of rest) → AllByRecursion P (keys_of (before ++ rest))
  all_both P [] rest a b = b
  all_both P (entry ∷ before) rest a b = (a.0, all_both P before rest a.1 b)

  all_of : {P Q : K → Type 0} → ((x : K) → P x → Q x) → (entries : List (K × V)) → AllByRecursion P (keys_of entries) → AllByRecursion Q (keys_of entries)
  all_of f [] all = tt
  all_of f (entry ∷ entries) all = (f entry.0 all.0, all_of f entries all.1)

  pub sorted_first : (before rest : List (K × V)) → IsStrictlySortedBy cmp (keys_of (before ++ rest)) → IsStrictlySortedBy cmp (keys_of before)
  unfolding IsStrictlySortedBy
  sorted_first [] rest sorted = tt
  sorted_first (entry ∷ before) rest sorted = (all_first (λ y. cmp entry.0 y ≡ Less) before rest sorted.0, sorted_first before rest sorted.1)

  module _ (key : K) where
    -- a chunk that ends below lies below
    pub below_whole : (chunk : List (K × V)) → IsStrictlySortedBy cmp (keys_of chunk) → ends_below cmp key chunk ≡ true → AreBelow cmp key chunk
    unfolding IsStrictlySortedBy
    below_whole [] sorted ends = tt
    below_whole (entry ∷ []) sorted ends = (gt_is _ ends, tt)
    below_whole (entry ∷ next ∷ chunk) sorted ends =
        let rest = below_whole (next ∷ chunk) sorted.1 ends in
        (under total key entry.0 next.0 sorted.0.0 rest.0, rest)

    -- what follows a chunk that doesn't end below lies above
    pub above_rest : (chunk rest : List (K × V)) → 0 < length chunk → IsStrictlySortedBy cmp (keys_of (chunk ++ rest)) → ends_below cmp key chunk ≡ false → AreAbove cmp key rest
    unfolding IsStrictlySortedBy
    above_rest [] rest some sorted ends = absurd (omega arith)
    above_rest (entry ∷ []) rest some sorted ends = all_of (λ y. over total key entry.0 y ends) rest sorted.0
    above_rest (entry ∷ next ∷ chunk) rest some sorted ends = above_rest (next ∷ chunk) rest (omega arith) sorted.1 ends

    -- what lies above doesn't end below
    above_ends : (chunk : List (K × V)) → AreAbove cmp key chunk → ends_below cmp key chunk ≡ false
    above_ends [] above = refl
    above_ends (entry ∷ []) above = ap is_gt above.0
    above_ends (entry ∷ next ∷ chunk) above = above_ends (next ∷ chunk) above.1

    above_at : (chunks : List (List (K × V))) (j : ℕ) (d : List (K × V)) → j < length chunks → AreAbove cmp key (joined chunks) → AreAbove cmp key (get_or chunks j d)
    above_at [] j d inside above = absurd (omega arith)
    above_at (chunk ∷ chunks) zero d inside above = all_first (λ k. cmp key k ≡ Less) chunk (joined chunks) above
    above_at (chunk ∷ chunks) (suc j) d inside above = above_at chunks j d (omega arith) (all_rest (λ k. cmp key k ≡ Less) chunk (joined chunks) above)

    -- the chunks that end below come first
    pub parted : (chunks : List (List (K × V))) → AreFilled chunks → IsStrictlySortedBy cmp (keys_of (joined chunks)) → IsPartitionedBy (ends_below cmp key) chunks
    parted [] filled sorted i j d le inside ends = absurd (omega arith)
    parted (chunk ∷ chunks) filled sorted zero zero d le inside ends = ends
    parted (chunk ∷ chunks) filled sorted (suc i) zero d le inside ends = absurd (omega arith)
    parted (chunk ∷ chunks) filled sorted (suc i) (suc j) d le inside ends = parted chunks filled.2 (sorted_rest chunk (joined chunks) sorted) i j d (omega arith) (omega arith) ends
    parted (chunk ∷ chunks) filled sorted zero (suc j) d le inside ends = go (ends_below cmp key chunk) refl
      where
        go : (b : Bool) → ends_below cmp key chunk ≡ b → ends_below cmp key chunk ≡ true
        go true is = is
        go false is = absurd (false≢true (sym (above_ends _ (above_at chunks j d (omega arith) (above_rest chunk (joined chunks) filled.0 sorted is))) ∙ ends))

    below_taken : (chunks : List (List (K × V))) (c : ℕ) → IsStrictlySortedBy cmp (keys_of (joined chunks)) → c ≤ length chunks → ((j : ℕ) (d : List (K × V)) → j < c → ends_below cmp key (get_or chunks j d) ≡ true) → AreBelow cmp key (joined (take c chunks))
    below_taken chunks zero sorted inside ends = tt
    below_taken [] (suc c) sorted inside ends = tt
    below_taken (chunk ∷ chunks) (suc c) sorted inside ends =
        all_both (λ k. cmp key k ≡ Greater) chunk (joined (take c chunks)) (below_whole chunk (sorted_first chunk (joined chunks) sorted) (ends 0 [] (omega arith)))
        (below_taken chunks c (sorted_rest chunk (joined chunks) sorted) (omega arith) (λ j d below. ends (suc j) d (omega arith)))

    -- where one chunk ends below, so do those before it
    pub ends_before : (chunks : List (List (K × V))) (c : ℕ) → AreFilled chunks → IsStrictlySortedBy cmp (keys_of (joined chunks)) → c < length chunks → ends_below cmp key (chunk_at chunks c) ≡ true → EndBelow cmp key chunks (suc c)
    ends_before chunks c filled sorted inside ends j d below = parted chunks filled sorted j c d (omega arith) inside (ap (ends_below cmp key) (get_or_default chunks c d [] inside) ∙ ends)

    -- where one chunk doesn't end below, neither does one behind it
    pub reaches_behind : (chunks : List (List (K × V))) (c : ℕ) → AreFilled chunks → IsStrictlySortedBy cmp (keys_of (joined chunks)) → ends_below cmp key (chunk_at chunks c) ≡ false
        → (j : ℕ) (d : List (K × V)) → c ≤ j → j < length chunks → ends_below cmp key (get_or chunks j d) ≡ false
    reaches_behind chunks c filled sorted ends j d le inside = go (ends_below cmp key (get_or chunks j d)) refl
      where
        go : (b : Bool) → ends_below cmp key (get_or chunks j d) ≡ b → ends_below cmp key (get_or chunks j d) ≡ false
        go false is = is
        go true is = absurd (false≢true (sym (ap (ends_below cmp key) (get_or_default chunks c d [] (omega arith)) ∙ ends) ∙ parted chunks filled sorted c j d le inside is))

    -- where all chunks end below, all entries lie below
    pub all_below : (chunks : List (List (K × V))) → IsStrictlySortedBy cmp (keys_of (joined chunks)) → ((j : ℕ) (d : List (K × V)) → j < length chunks → ends_below cmp key (get_or chunks j d) ≡ true) → AreBelow cmp key (joined chunks)
    all_below [] sorted ends = tt
    all_below (chunk ∷ chunks) sorted ends =
        all_both (λ k. cmp key k ≡ Greater) chunk (joined chunks) (below_whole chunk (sorted_first chunk (joined chunks) sorted) (ends 0 [] (omega arith)))
        (all_below chunks (sorted_rest chunk (joined chunks) sorted) (λ j d below. ends (suc j) d (omega arith)))

    -- ---- the place

    skips : (before rest : List (K × V)) → AreBelow cmp key before → place_of cmp key (before ++ rest) ≡ shifted (length before) (place_of cmp key rest)
    skips [] rest below = shifted_none (place_of cmp key rest)
    skips (entry ∷ before) rest below =
        ap (λ o. match_ordering o (Err zero) (Ok zero) (further (place_of cmp key (before ++ rest)))) below.0
        ∙ ap further (skips before rest below.1)
        ∙ shifted_more (length before) (place_of cmp key rest)

    stops : (chunk rest : List (K × V)) → AreAbove cmp key rest → place_of cmp key (chunk ++ rest) ≡ place_of cmp key chunk
    stops [] [] above = refl
    stops [] (entry ∷ rest) above = ap (λ o. match_ordering o (Err zero) (Ok zero) (further (place_of cmp key rest))) above.0
    stops (entry ∷ chunk) rest above = ap (λ r. match_ordering (cmp key entry.0) (Err zero) (Ok zero) (further r)) (stops chunk rest above)

    pub placed : (chunks : List (List (K × V))) (c : ℕ) → IsChunkOf cmp key chunks c → place_of cmp key (joined chunks) ≡ shifted (length (joined (take c chunks))) (place_of cmp key (chunk_at chunks c))
    placed chunks c chunk =
        ap (place_of cmp key) (whole chunks c chunk.inside)
        ∙ skips (joined (take c chunks)) (chunk_at chunks c ++ joined (drop (suc c) chunks)) chunk.below
        ∙ ap (shifted (length (joined (take c chunks)))) (stops (chunk_at chunks c) (joined (drop (suc c) chunks)) chunk.above)

    pub sorted_chunk : (chunks : List (List (K × V))) (c : ℕ) → c < length chunks → IsStrictlySortedBy cmp (keys_of (joined chunks)) → IsStrictlySortedBy cmp (keys_of (chunk_at chunks c))
    sorted_chunk chunks c inside sorted = sorted_first (chunk_at chunks c) (joined (drop (suc c) chunks))
        (sorted_rest (joined (take c chunks)) _ (subst (λ es. IsStrictlySortedBy cmp (keys_of es)) (whole chunks c inside) sorted))

    drop_past : (chunks : List (List (K × V))) (c : ℕ) → length chunks ≤ c → drop c chunks ≡ []
    drop_past [] zero past = refl
    drop_past [] (suc c) past = refl
    drop_past (chunk ∷ chunks) zero past = absurd (omega arith)
    drop_past (chunk ∷ chunks) (suc c) past = drop_past chunks c (omega arith)

    -- the first chunk that doesn't end below is the key's
    pub first_is : (chunks : List (List (K × V))) (c : ℕ) → AreFilled chunks → IsStrictlySortedBy cmp (keys_of (joined chunks)) → c < length chunks
        → IsPartitionPoint (λ y. ends_below cmp key y ≡ true) (λ y. ends_below cmp key y ≡ false) chunks c → IsChunkOf cmp key chunks c
    first_is chunks c filled sorted inside point = record {
      inside = inside;
      below = below_taken chunks c sorted (omega arith) (λ j d below. point.0 j d (omega arith) below);
      above = above_rest (chunk_at chunks c) (joined (drop (suc c) chunks)) (filled-at c chunks inside filled).0
          (sorted_rest (joined (take c chunks)) _ (subst (λ es. IsStrictlySortedBy cmp (keys_of es)) (whole chunks c inside) sorted)) (point.1 c [] (omega arith) inside);
    }

    -- where all chunks end below, the last one is
    pub last_is : (chunks : List (List (K × V))) (c : ℕ) → IsStrictlySortedBy cmp (keys_of (joined chunks)) → suc c ≡ length chunks
        → ((j : ℕ) (d : List (K × V)) → j < length chunks → ends_below cmp key (get_or chunks j d) ≡ true) → IsChunkOf cmp key chunks c
    last_is chunks c sorted last ends = record {
      inside = omega arith;
      below = below_taken chunks c sorted (omega arith) (λ j d below. ends j d (omega arith));
      above = subst (λ xs. AreAbove cmp key (joined xs)) (sym (drop_past chunks (suc c) (omega arith))) tt;
    }
