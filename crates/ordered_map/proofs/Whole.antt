-- What an edit at a key's place makes of a map: the entries that the contracts say, and chunks that are as they should be.
use Rattle.std.proofs.Common.{◌≡◌, ℕ, zero, suc, ◌+◌, ◌-◌, ◌*◌, ◌<◌, ◌≤◌, if◌then◌else◌, List, [], ◌∷◌, length, set, Some, None, is_some, Ok, refl, sym, ap, ◌∙◌, subst, arith}
use Rattle.std.specs.List.{insert, remove}
use Rattle.std.specs.List.Sorted.{IsStrictlySortedBy}
use Rattle.std.specs.Map.{lookup, remove_entry, keys_of}
use Rattle.std.specs.BTreeMap.{insert_entry, is_at}
use Rattle.std.specs.Cmp.{IsTotalOrder}
use Rattle.std.specs.declared.cmp.Ordering.{Ordering}
use Rattle.std.proofs.lemmas.List.{length-set}
use Rattle.std.proofs.lemmas.List.Edits.{length-insert, length-remove}
use Rattle.sorted_entries.proofs.Sorted.{sorted-insert_entry, sorted-remove_entry}
use Rattle.ordered_map.specs.declared.chunk.TheConstants.{QUARTER}
use Rattle.ordered_map.specs.Chunks.{joined, chunk_at, flat, overwritten, capacity, AreFilled, AreClose, IsChunked, IsLocated}
use Rattle.ordered_map.specs.Entries.{room_for}
use Rattle.sorted_entries.proofs.Spots.{IsPlace, IsGap}
use Rattle.ordered_map.proofs.Flat.{filled-at, filled_set, overwrite_flat}
use Rattle.ordered_map.proofs.Close.{close_more}
use Rattle.ordered_map.proofs.Found.{place_at, within_ok}

pub length-overwritten : {K V : Type 0} (entries : List (K × V)) (i : ℕ) (value : V) → length (overwritten entries i value) ≡ length entries
length-overwritten [] i value = refl
length-overwritten (entry ∷ entries) zero value = refl
length-overwritten (entry ∷ entries) (suc i) value = ap suc (length-overwritten entries i value)

keys-overwritten : {K V : Type 0} (entries : List (K × V)) (i : ℕ) (value : V) → keys_of (overwritten entries i value) ≡ keys_of entries
keys-overwritten [] i value = refl
keys-overwritten (entry ∷ entries) zero value = refl
keys-overwritten (entry ∷ entries) (suc i) value = ap (λ keys. entry.0 ∷ keys) (keys-overwritten entries i value)

pub room_found : {K V : Type 0} (cmp : K → K → Ordering) (key : K) (entries : List (K × V)) (value : V) → lookup (is_at (cmp key)) entries ≡ Some value → room_for cmp entries key ≡ 0
room_found cmp key entries value is = ap (λ o. if is_some o then 0 else 1) is

pub room_missed : {K V : Type 0} (cmp : K → K → Ordering) (key : K) (entries : List (K × V)) → lookup (is_at (cmp key)) entries ≡ None → room_for cmp entries key ≡ 1
room_missed cmp key entries is = ap (λ o. if is_some o then 0 else 1) is

-- an element of a list that has some
pub any_of : {E : Type 0} (xs : List E) (i : ℕ) → i < length xs → E
any_of [] i inside = absurd (omega arith)
any_of (x ∷ xs) i inside = x

pub room_left : {E : Type 0} (chunks : List (List E)) (blank spare : ℕ) → capacity (length chunks + blank) - length (joined chunks) ≡ spare → 1 ≤ spare → length (joined chunks) < capacity (length chunks + blank)
room_left chunks blank spare is some = omega arith

module _ {K V : Type 0} (cmp : K → K → Ordering) where
  -- no chunks
  pub none_chunked : (chunks : List (List (K × V))) (blank : ℕ) → chunks ≡ [] → blank ≡ 0 → IsChunked cmp chunks blank 0
  unfolding IsStrictlySortedBy
  none_chunked chunks blank none zero_blank = subst (λ xs. IsChunked cmp xs blank 0) (sym none) (record {
    ordered = tt;
    filled = tt;
    close = tt;
    counted = refl;
    most = omega arith;
    small = omega arith;
  })

  -- the first entry
  pub begin_chunked : (chunks : List (List (K × V))) (key : K) (value : V) (left blank count : ℕ) → chunks ≡ ((key, value) ∷ []) ∷ [] → left + 1 ≡ blank → count ≡ 0 → 0 < capacity blank → QUARTER * blank ≤ 18446744073709551615
      → IsChunked cmp chunks left (count + 1)
  unfolding IsStrictlySortedBy
  begin_chunked chunks key value left blank count is less none room small = subst (λ xs. IsChunked cmp xs left (count + 1)) (sym is) (record {
    ordered = (tt, tt);
    filled = (omega arith, omega arith, tt);
    close = tt;
    counted = omega arith;
    most = omega arith;
    small = omega arith;
  })

module _ {K V : Type 0} {cmp : K → K → Ordering} (total : IsTotalOrder cmp) (key : K) {chunks : List (List (K × V))} {blank count : ℕ} (chunked : IsChunked cmp chunks blank count) where
  -- ---- an entry that is put in

  module _ (i : ℕ) (gap : IsGap total key (joined chunks) i) (value : V) (new : List (List (K × V))) (is : joined new ≡ insert (joined chunks) i (key, value)) where
    pub put_entries : joined new ≡ insert_entry cmp (joined chunks) key value
    put_entries = is ∙ gap.writes value

    pub put_length : length (joined new) ≡ length (joined chunks) + 1
    put_length = ap length is ∙ length-insert (joined chunks) i (key, value) gap.inside

    pub put_chunked : (left : ℕ) → AreFilled new → AreClose new → length new + left ≡ length chunks + blank → length (joined chunks) < capacity (length chunks + blank) → IsChunked cmp new left (count + 1)
    put_chunked left filled close all room = record {
      ordered = subst (λ es. IsStrictlySortedBy cmp (keys_of es)) (sym put_entries) (sorted-insert_entry total key value (joined chunks) chunked.ordered);
      filled = filled;
      close = close;
      counted = omega (arith, put_length, chunked.counted);
      most = omega (arith, put_length, room, all);
      small = omega (arith, chunked.small, all);
    }

  -- ---- a value in the place of another

  pub write_chunked : (c at : ℕ) (value : V) → IsLocated cmp key chunks c (Ok at) → IsChunked cmp (set chunks c (overwritten (chunk_at chunks c) at value)) blank count
  write_chunked c at value located =
      let within = within_ok total key chunks c at located in
      let same = overwrite_flat chunks c at value located.inside within in
      let long = ap length same ∙ length-overwritten (joined chunks) (flat chunks c at) value in
      let chunk = length-overwritten (chunk_at chunks c) at value in
      let some = filled-at c chunks located.inside chunked.filled in
      let many = length-set chunks c (overwritten (chunk_at chunks c) at value) in record {
        ordered = subst (λ keys. IsStrictlySortedBy cmp keys) (sym (ap (λ es. keys_of es) same ∙ keys-overwritten (joined chunks) (flat chunks c at) value)) chunked.ordered;
        filled = filled_set chunks c (overwritten (chunk_at chunks c) at value) located.inside chunked.filled (omega (arith, chunk, some.0)) (omega (arith, chunk, some.1));
        close = close_more chunks c (overwritten (chunk_at chunks c) at value) chunked.close (omega (arith, chunk));
        counted = omega (arith, chunked.counted, long);
        most = omega (arith, chunked.most, long, many);
        small = omega (arith, chunked.small, many);
      }

  pub write_entries : (c at : ℕ) (value : V) → IsLocated cmp key chunks c (Ok at) → joined (set chunks c (overwritten (chunk_at chunks c) at value)) ≡ insert_entry cmp (joined chunks) key value
  write_entries c at value located = overwrite_flat chunks c at value located.inside (within_ok total key chunks c at located) ∙ (place_at total key chunks c at located).writes value

  pub write_length : (c at : ℕ) (value : V) → IsLocated cmp key chunks c (Ok at) → length (joined (set chunks c (overwritten (chunk_at chunks c) at value))) ≡ length (joined chunks)
  write_length c at value located = ap length (overwrite_flat chunks c at value located.inside (within_ok total key chunks c at located)) ∙ length-overwritten (joined chunks) (flat chunks c at) value

  pub write_many : (c at : ℕ) (value : V) → length (set chunks c (overwritten (chunk_at chunks c) at value)) ≡ length chunks
  write_many c at value = length-set chunks c (overwritten (chunk_at chunks c) at value)

  -- ---- an entry that is taken out

  module _ (i : ℕ) (place : IsPlace total key (joined chunks) i) (new : List (List (K × V))) (is : joined new ≡ remove (joined chunks) i) where
    pub take_entries : joined new ≡ remove_entry (is_at (cmp key)) (joined chunks)
    take_entries = is ∙ place.removes

    pub take_length : length (joined new) + 1 ≡ length (joined chunks)
    take_length = ap (λ es. length es + 1) is ∙ length-remove (joined chunks) i place.inside

    pub take_chunked : (left now : ℕ) → now + 1 ≡ count → AreFilled new → AreClose new → length new + left ≡ length chunks + blank → IsChunked cmp new left now
    take_chunked left now less filled close all = record {
      ordered = subst (λ es. IsStrictlySortedBy cmp (keys_of es)) (sym take_entries) (sorted-remove_entry cmp (is_at (cmp key)) (joined chunks) chunked.ordered);
      filled = filled;
      close = close;
      counted = omega (arith, take_length, chunked.counted, less);
      most = omega (arith, take_length, chunked.most, all);
      small = omega (arith, chunked.small, all);
    }
