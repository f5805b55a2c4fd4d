-- What is found at a key's place, and at the first place from there on.
use Rattle.std.proofs.Common.{◌≡◌, ℕ, zero, suc, ◌+◌, ◌-◌, ◌<◌, ◌≤◌, false, if◌then◌else◌, List, [], ◌∷◌, ◌++◌, length, get_or, take, drop, Some, None, unwrap_or, Result, Ok, Err, refl, sym, ap, ◌∙◌, subst, arith}
use Rattle.std.specs.List.{slice_get}
use Rattle.std.specs.List.Sorted.{IsStrictlySortedBy}
use Rattle.std.specs.Map.{lookup, keys_of}
use Rattle.std.specs.BTreeMap.{is_at}
use Rattle.std.specs.Cmp.{IsTotalOrder}
use Rattle.std.specs.Ordering.{match_ordering, is_le, is_gt}
use Rattle.std.specs.declared.cmp.Ordering.{Ordering}
use Rattle.std.specs.declared.cmp.Ordering.TheVariants.{Less, Equal, Greater}
use Rattle.std.proofs.lemmas.Bool.{false≢true}
use Rattle.std.proofs.lemmas.List.{drop_more}
use Rattle.sorted_entries.specs.Places.{further, place_of}
use Rattle.ordered_map.specs.Chunks.{joined, chunk_at, flat, shifted, at_of, ends_below, AreFilled, AreBelow, IsLocated, IsChunkOf, IsKeyAt}
use Rattle.ordered_map.specs.Entries.{first_from}
use Rattle.sorted_entries.proofs.Spots.{place_found, place_missed, absent, IsPlace, IsGap}
use Rattle.ordered_map.proofs.Spots.{lies_at}
use Rattle.ordered_map.proofs.Flat.{whole, get_within}
use Rattle.ordered_map.proofs.Search.{placed, sorted_chunk}

at_further : (r : Result ℕ ℕ) → at_of (further r) ≡ suc (at_of r)
at_further (Ok at) = refl
at_further (Err at) = refl

at_shifted : (n : ℕ) (r : Result ℕ ℕ) → at_of (shifted n r) ≡ n + at_of r
at_shifted n (Ok at) = refl
at_shifted n (Err at) = refl

module _ {K V : Type 0} {cmp : K → K → Ordering} (total : IsTotalOrder cmp) (key : K) (chunks : List (List (K × V))) where
  -- the place of a key that is there
  pub place_at : (chunk at : ℕ) → IsLocated cmp key chunks chunk (Ok at) → IsPlace total key (joined chunks) (flat chunks chunk at)
  place_at chunk at located = place_found total key (joined chunks) (flat chunks chunk at) (sym located.whole)

  -- the place where a key would go
  pub gap_at : (chunk at : ℕ) → IsLocated cmp key chunks chunk (Err at) → IsGap total key (joined chunks) (flat chunks chunk at)
  gap_at chunk at located = place_missed total key (joined chunks) (flat chunks chunk at) (sym located.whole)

  pub within_ok : (chunk at : ℕ) → IsLocated cmp key chunks chunk (Ok at) → at < length (chunk_at chunks chunk)
  within_ok chunk at located = (place_found total key (chunk_at chunks chunk) at (sym located.within)).inside

  pub within_err : (chunk at : ℕ) → IsLocated cmp key chunks chunk (Err at) → at ≤ length (chunk_at chunks chunk)
  within_err chunk at located = (place_missed total key (chunk_at chunks chunk) at (sym located.within)).inside

  -- its value
  pub value_found : (chunk at : ℕ) (entry : K × V) → IsLocated cmp key chunks chunk (Ok at) → entry ≡ get_or (chunk_at chunks chunk) at entry → lookup (is_at (cmp key)) (joined chunks) ≡ Some entry.1
  value_found chunk at entry located is =
      (place_at chunk at located).value entry
      ∙ ap (λ e. Some e.1) (get_within chunks chunk at entry located.inside (within_ok chunk at located) ∙ sym is)

  pub value_missed : (chunk at : ℕ) → IsStrictlySortedBy cmp (keys_of (joined chunks)) → IsLocated cmp key chunks chunk (Err at) → lookup (is_at (cmp key)) (joined chunks) ≡ None
  value_missed chunk at sorted located = absent total key (joined chunks) (flat chunks chunk at) sorted (sym located.whole)

  -- where a key lies in its chunk, it lies in all
  pub locate_is : (chunk : ℕ) (at : Result ℕ ℕ) → IsChunkOf cmp key chunks chunk → at ≡ place_of cmp key (chunk_at chunks chunk) → IsLocated cmp key chunks chunk at
  locate_is chunk at is within = record {
    inside = is.inside;
    within = within;
    whole = ap (shifted (length (joined (take chunk chunks)))) within ∙ sym (placed total key chunks chunk is);
  }

-- ---- a key that lies in a chunk

module _ {K V : Type 0} (cmp : K → K → Ordering) (key : K) where
  key_first : (xs after : List (K × V)) (at : ℕ) → IsKeyAt cmp key xs at → IsKeyAt cmp key (xs ++ after) at
  key_first [] after at is = absurd is
  key_first (x ∷ xs) after zero is = is
  key_first (x ∷ xs) after (suc at) is = key_first xs after at is

  key_rest : (before xs : List (K × V)) (at : ℕ) → IsKeyAt cmp key xs at → IsKeyAt cmp key (before ++ xs) (length before + at)
  key_rest [] xs at is = let none : 0 + at ≡ at = omega arith in subst (λ n. IsKeyAt cmp key xs n) (sym none) is
  key_rest (b ∷ before) xs at is =
      let more : suc (length before) + at ≡ suc (length before + at) = omega arith in
      subst (λ n. IsKeyAt cmp key (b ∷ (before ++ xs)) n) (sym more) (key_rest before xs at is)

module _ {K V : Type 0} {cmp : K → K → Ordering} (total : IsTotalOrder cmp) (key : K) (chunks : List (List (K × V))) where
  pub located_there : IsStrictlySortedBy cmp (keys_of (joined chunks)) → (chunk at : ℕ) → chunk < length chunks → IsKeyAt cmp key (chunk_at chunks chunk) at → IsLocated cmp key chunks chunk (Ok at)
  located_there sorted chunk at inside is =
      let after = joined (drop (suc chunk) chunks) in
      let among = key_rest cmp key (joined (take chunk chunks)) (chunk_at chunks chunk ++ after) at (key_first cmp key (chunk_at chunks chunk) after at is) in record {
        inside = inside;
        within = sym (lies_at total key (chunk_at chunks chunk) at (sorted_chunk total key chunks chunk inside sorted) is);
        whole = sym (lies_at total key (joined chunks) (flat chunks chunk at) sorted (subst (λ es. IsKeyAt cmp key es (flat chunks chunk at)) (sym (whole chunks chunk inside)) among));
      }

get_none : {E : Type 0} (xs : List E) (n : ℕ) → length xs ≤ n → None ≡ slice_get xs n
get_none [] n past = refl
get_none (x ∷ xs) zero past = absurd (omega arith)
get_none (x ∷ xs) (suc n) past = get_none xs n (omega arith)

module _ {K V : Type 0} (cmp : K → K → Ordering) (key : K) where
  -- the first entry that doesn't lie below is at the key's place
  pub first_place : (entries : List (K × V)) → first_from cmp entries key ≡ slice_get entries (at_of (place_of cmp key entries))
  first_place [] = refl
  first_place (entry ∷ entries) = go (cmp key entry.0) (first_place entries)
    where
      go : (o : Ordering) → first_from cmp entries key ≡ slice_get entries (at_of (place_of cmp key entries))
          → (if is_le o then Some entry else first_from cmp entries key) ≡ slice_get (entry ∷ entries) (at_of (match_ordering o (Err zero) (Ok zero) (further (place_of cmp key entries))))
      go Less rest = refl
      go Equal rest = refl
      go Greater rest = rest ∙ sym (ap (slice_get (entry ∷ entries)) (at_further (place_of cmp key entries)))

  -- where all lie below there is none
  pub none_from : (entries : List (K × V)) → AreBelow cmp key entries → first_from cmp entries key ≡ None
  none_from [] below = refl
  none_from (entry ∷ entries) below = ap (λ o. if is_le o then Some entry else first_from cmp entries key) below.0 ∙ none_from entries below.1

  -- a place beyond the last entry is that of none
  pub past_last : (entries : List (K × V)) → length entries ≤ at_of (place_of cmp key entries) → first_from cmp entries key ≡ None
  past_last entries past = first_place entries ∙ sym (get_none entries (at_of (place_of cmp key entries)) past)

  -- a chunk that doesn't end below has that place
  pub reached : (chunk : List (K × V)) → 0 < length chunk → ends_below cmp key chunk ≡ false → at_of (place_of cmp key chunk) < length chunk
  reached [] some ends = absurd (omega arith)
  reached (entry ∷ []) some ends = go (cmp key entry.0) ends
    where
      go : (o : Ordering) → is_gt o ≡ false → at_of (match_ordering o (Err zero) (Ok zero) (further (Err zero))) < 1
      go Less e = omega arith
      go Equal e = omega arith
      go Greater e = absurd (false≢true (sym e))
  reached (entry ∷ next ∷ chunk) some ends = go (cmp key entry.0) (reached (next ∷ chunk) (omega arith) ends)
    where
      go : (o : Ordering) → at_of (place_of cmp key (next ∷ chunk)) < length (next ∷ chunk) → at_of (match_ordering o (Err zero) (Ok zero) (further (place_of cmp key (next ∷ chunk)))) < suc (length (next ∷ chunk))
      go Less rest = omega arith
      go Equal rest = omega arith
      go Greater rest = omega (arith, at_further (place_of cmp key (next ∷ chunk)), rest)

get_first : {E : Type 0} (xs after : List E) (n : ℕ) → n < length xs → slice_get (xs ++ after) n ≡ slice_get xs n
get_first [] after n inside = absurd (omega arith)
get_first (y ∷ xs) after zero inside = refl
get_first (y ∷ xs) after (suc n) inside = get_first xs after n (omega arith)

get_rest : {E : Type 0} (before xs : List E) (n : ℕ) → slice_get (before ++ xs) (length before + n) ≡ slice_get xs n
get_rest [] xs n = let none : 0 + n ≡ n = omega arith in ap (slice_get xs) none
get_rest (y ∷ before) xs n = let more : suc (length before) + n ≡ suc (length before + n) = omega arith in ap (slice_get (y ∷ (before ++ xs))) more ∙ get_rest before xs n

get_flat : {E : Type 0} (before chunk after : List E) (at : ℕ) → at < length chunk → slice_get (before ++ (chunk ++ after)) (length before + at) ≡ slice_get chunk at
get_flat before chunk after at inside = get_rest before (chunk ++ after) at ∙ get_first chunk after at inside

module _ {K V : Type 0} {cmp : K → K → Ordering} (total : IsTotalOrder cmp) (key : K) (chunks : List (List (K × V))) where
  pub first_found : (chunk : ℕ) → IsChunkOf cmp key chunks chunk → 0 < length (chunk_at chunks chunk) → ends_below cmp key (chunk_at chunks chunk) ≡ false
      → first_from cmp (joined chunks) key ≡ slice_get (chunk_at chunks chunk) (at_of (place_of cmp key (chunk_at chunks chunk)))
  first_found chunk is some ends =
      first_place cmp key (joined chunks)
      ∙ ap (λ r. slice_get (joined chunks) (at_of r)) (placed total key chunks chunk is)
      ∙ ap (slice_get (joined chunks)) (at_shifted (length (joined (take chunk chunks))) (place_of cmp key (chunk_at chunks chunk)))
      ∙ ap (λ es. slice_get es (length (joined (take chunk chunks)) + at_of (place_of cmp key (chunk_at chunks chunk)))) (whole chunks chunk is.inside)
      ∙ get_flat (joined (take chunk chunks)) (chunk_at chunks chunk) (joined (drop (suc chunk) chunks)) (at_of (place_of cmp key (chunk_at chunks chunk))) (reached cmp key (chunk_at chunks chunk) some ends)

-- ---- the entry at a place among all

get_past : {E : Type 0} (xs ys : List E) (n : ℕ) → length xs ≤ n → slice_get (xs ++ ys) n ≡ slice_get ys (n - length xs)
get_past [] ys n past = let same : n ≡ n - 0 = omega arith in ap (slice_get ys) same
get_past (x ∷ xs) ys zero past = absurd (omega arith)
get_past (x ∷ xs) ys (suc n) past = let same : n - length xs ≡ suc n - suc (length xs) = omega arith in get_past xs ys n (omega arith) ∙ ap (slice_get ys) same

pub get_there : {E : Type 0} (xs : List E) (i : ℕ) (x : E) → i < length xs → x ≡ get_or xs i x → Some x ≡ slice_get xs i
get_there [] i x inside is = absurd (omega arith)
get_there (y ∷ xs) zero x inside is = ap Some is
get_there (y ∷ xs) (suc i) x inside is = get_there xs i x (omega arith) is

module _ {E : Type 0} (chunks : List (List E)) (i rest : ℕ) (chunk : List E) (inside : i < length chunks) (is : chunk ≡ get_or chunks i chunk) where
  next_chunk : drop i chunks ≡ chunk ∷ drop (i + 1) chunks
  next_chunk = drop_more chunks i chunk inside ∙ ap (λ x. x ∷ drop (i + 1) chunks) (sym is)

  pub entry_past : length chunk ≤ rest → slice_get (joined (drop (i + 1) chunks)) (rest - length chunk) ≡ slice_get (joined (drop i chunks)) rest
  entry_past past = sym (ap (λ xs. slice_get (joined xs) rest) next_chunk ∙ get_past chunk (joined (drop (i + 1) chunks)) rest past)

  pub entry_here : (entry : E) → rest < length chunk → entry ≡ get_or chunk rest entry → Some entry ≡ slice_get (joined (drop i chunks)) rest
  entry_here entry below at = get_there chunk rest entry below at ∙ sym (ap (λ xs. slice_get (joined xs) rest) next_chunk ∙ get_first chunk (joined (drop (i + 1) chunks)) rest below)

-- ---- the first entry

pub first_of : {E : Type 0} (chunks : List (List E)) (chunk : List E) → Some chunk ≡ slice_get chunks 0 → AreFilled chunks → slice_get (joined chunks) 0 ≡ slice_get chunk 0
first_of [] chunk is filled = cc
first_of (x ∷ chunks) chunk is filled = get_first x (joined chunks) 0 filled.0 ∙ ap (λ o. slice_get (unwrap_or o x) 0) (sym is)

pub first_none : {E : Type 0} (chunks : List (List E)) → None ≡ slice_get chunks 0 → None ≡ slice_get (joined chunks) 0
first_none [] is = refl
first_none (x ∷ chunks) is = cc
