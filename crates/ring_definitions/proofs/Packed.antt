-- Packed sectors: those that are cut from bytes, and one that takes further bytes, may stand in their slots and read back.
use Rattle.std.proofs.Common.{◌≡◌, ◌==◌, ℕ, zero, suc, ◌+◌, ◌-◌, ◌/◌, ◌%◌, ◌^◌, min, ◌<◌, ◌≤◌, ◌⊎◌, inl, inr, true, if◌then◌else◌, Some, List, [], ◌∷◌, ◌++◌, length, take, drop, refl, sym, ap, ◌∙◌, subst, arith, length-append}
use Rattle.std.proofs.lemmas.Bool.{and_parts, eqb-true, eqb-false}
use Rattle.std.proofs.lemmas.List.{length-take, length-drop, drop_at, take_at}
use Rattle.frang_base.proofs.Basics.{by_test}
use Rattle.disk_definitions.specs.declared.log_sector.LogSector.{LogSector}
use Rattle.sector_bytes.specs.Bytes.{zeros, are_zero}
use Rattle.disk_definitions.specs.LogSectors.{log_sector_bytes, log_sector_in, none_begins, packed_mark}
use Rattle.disk_definitions.proofs.LogSectorLaws.{IsPackedSector, packed_fits, log_sector_back}
use Rattle.disk_definitions.proofs.WrittenFields.{length_zeros, zeros_are_zero}
use Rattle.ring_definitions.specs.Rings.{packed_sector, cut, sectors_for, packed_sectors, open_room, filled, put_on, framed}
use Rattle.ring_definitions.proofs.Along.{Along}

-- a packed sector of this number
pub record IsPacked (n : ℕ) (x : LogSector) : Type 0 where
  pub seq : x.seq ≡ n
  pub size : length x.body ≡ 488
  pub is : IsPackedSector x

small_part : (p u : ℕ) → u ≤ 488 → (p < u) ⊎ (p ≡ none_begins) → p < 256 ^ 2
small_part p u h (inl l) = omega arith
small_part p u h (inr e) = omega arith

-- it reads back from its slot
pub packed_reads : (n : ℕ) (x : LogSector) → IsPacked n x → n < 2 ^ 63 → log_sector_in (x.seq % 256) (log_sector_bytes x) ≡ Some x
packed_reads n x p h =
    let low : x.seq < 2 ^ 63 = low_of x.seq n p.seq h in
    log_sector_back (x.seq % 256) x
    (record { seq = seq_of x.seq low; op = op_of x.op.0 p.is.op; part = small_part x.part x.used p.is.few p.is.part; parts = parts_of x.parts p.is.parts; used = used_of x.used p.is.few; body = p.size })
    (packed_fits x p.is low)
  where
    low_of : (s m : ℕ) → s ≡ m → m < 2 ^ 63 → s < 2 ^ 63
    low_of s m e l = omega arith

    seq_of : (s : ℕ) → s < 2 ^ 63 → s < 256 ^ 8
    seq_of s l = omega arith

    op_of : (o : ℕ) → o ≡ 0 → o < 256 ^ 8
    op_of o e = omega arith

    parts_of : (o : ℕ) → o ≡ packed_mark → o < 256 ^ 2
    parts_of o e = omega arith

    used_of : (o : ℕ) → o ≤ 488 → o < 256 ^ 2
    used_of o e = omega arith

-- ---- one sector

-- the bytes that a sector uses
abbrev pub used_of : LogSector → List ℕ
used_of x = take x.used x.body

pub used_packed : (number part : ℕ) (bytes : List ℕ) → used_of (packed_sector number part bytes) ≡ bytes
used_packed number part bytes = take_at bytes (zeros (488 - length bytes)) (length bytes) refl

pub one_packed : (n part : ℕ) (bytes : List ℕ) → 256 ≤ n → 1 ≤ length bytes → length bytes ≤ 488 → (part < length bytes) ⊎ (part ≡ none_begins) → IsPacked n (packed_sector n part bytes)
one_packed n part bytes low some few at = record {
  seq = refl;
  size = length-append bytes (zeros (488 - length bytes)) ∙ sum (length bytes) (length (zeros (488 - length bytes))) few (length_zeros (488 - length bytes));
  is = record {
    seq = low;
    op = refl;
    parts = refl;
    some = some;
    few = few;
    part = at;
    zeros = ap are_zero (drop_at bytes (zeros (488 - length bytes)) (length bytes) refl) ∙ zeros_are_zero (488 - length bytes);
  };
}
  where
    sum : (a b : ℕ) → a ≤ 488 → b ≡ 488 - a → a + b ≡ 488
    sum a b h e = omega arith

-- zeros without the first of them
zeros_dropped : (k : ℕ) (xs : List ℕ) → are_zero xs ≡ true → are_zero (drop k xs) ≡ true
zeros_dropped zero xs h = h
zeros_dropped (suc k) [] h = refl
zeros_dropped (suc k) (x ∷ xs) h = zeros_dropped k xs (and_parts (x == 0) (are_zero xs) h).1

drop_none : (n : ℕ) → drop {A = ℕ} n [] ≡ []
drop_none zero = refl
drop_none (suc n) = refl

drop_both : (a b : ℕ) (xs : List ℕ) → drop (a + b) xs ≡ drop b (drop a xs)
drop_both zero b xs = let e : 0 + b ≡ b = omega arith in ap (λ n. drop n xs) e
drop_both (suc a) b [] = drop_none (suc a + b) ∙ sym (drop_none b)
drop_both (suc a) b (x ∷ xs) = let e : suc a + b ≡ suc (a + b) = omega arith in ap (λ n. drop n (x ∷ xs)) e ∙ drop_both a b xs

pub length-used : (n : ℕ) (x : LogSector) → IsPacked n x → length (used_of x) ≡ x.used
length-used n x p = length-take x.used x.body ∙ least (length x.body) x.used p.size p.is.few
  where
    least : (l u : ℕ) → l ≡ 488 → u ≤ 488 → min u l ≡ u
    least l u e h = omega arith

module _ (n : ℕ) (x : LogSector) (p : IsPacked n x) (bytes : List ℕ) (some : 1 ≤ length bytes) (fits : x.used + length bytes ≤ 488) where
  front : List ℕ
  front = used_of x ++ bytes

  length-front : length front ≡ x.used + length bytes
  unfolding front
  length-front = length-append (used_of x) bytes ∙ ap (λ m. m + length bytes) (length-used n x p)

  pub used_filled : used_of (filled x bytes) ≡ used_of x ++ bytes
  unfolding front
  used_filled = take_at (used_of x ++ bytes) (drop (x.used + length bytes) x.body) (x.used + length bytes) length-front

  part_filled : ((if x.part == none_begins then x.used else x.part) < x.used + length bytes) ⊎ ((if x.part == none_begins then x.used else x.part) ≡ none_begins)
  part_filled = by_test (λ q. (q < x.used + length bytes) ⊎ (q ≡ none_begins)) x.used x.part (x.part == none_begins) (λ t. inl (more x.used)) (λ t. old p.is.part)
    where
      more : (u : ℕ) → u < u + length bytes
      more u = omega (arith, some)

      up : (q u : ℕ) → q < u → q < u + length bytes
      up q u l = omega arith

      old : (x.part < x.used) ⊎ (x.part ≡ none_begins) → (x.part < x.used + length bytes) ⊎ (x.part ≡ none_begins)
      old (inl l) = inl (up x.part x.used l)
      old (inr e) = inr e

  pub one_filled : IsPacked n (filled x bytes)
  unfolding front
  one_filled = record {
    seq = p.seq;
    size = length-append (used_of x ++ bytes) (drop (x.used + length bytes) x.body)
        ∙ sum (length (used_of x ++ bytes)) (length (drop (x.used + length bytes) x.body)) (length x.body) (x.used + length bytes) length-front (length-drop (x.used + length bytes) x.body) p.size fits;
    is = record {
      seq = p.is.seq;
      op = p.is.op;
      parts = p.is.parts;
      some = least x.used p.is.some;
      few = fits;
      part = part_filled;
      zeros = ap are_zero (drop_at (used_of x ++ bytes) (drop (x.used + length bytes) x.body) (x.used + length bytes) length-front ∙ drop_both x.used (length bytes) x.body)
          ∙ zeros_dropped (length bytes) (drop x.used x.body) p.is.zeros;
    };
  }
    where
      sum : (a b c u : ℕ) → a ≡ u → b ≡ c - u → c ≡ 488 → u ≤ 488 → a + b ≡ 488
      sum a b c u e f g h = omega arith

      least : (u : ℕ) → 1 ≤ u → 1 ≤ u + length bytes
      least u h = omega arith

-- ---- sectors that are cut from bytes

-- the first sector of these, and how many the others are
pub first_size : (bytes : List ℕ) → length (take 488 bytes) ≡ min 488 (length bytes)
first_size bytes = length-take 488 bytes

pub rest_size : (bytes : List ℕ) → length (drop 488 bytes) ≡ length bytes - 488
rest_size bytes = length-drop 488 bytes

pub rest_count : (m : ℕ) (bytes : List ℕ) → suc m ≡ sectors_for (length bytes) → m ≡ sectors_for (length (drop 488 bytes))
rest_count m bytes e = at (length bytes) (length (drop 488 bytes)) e (rest_size bytes)
  where
    at : (l r : ℕ) → suc m ≡ (l + 487) / 488 → r ≡ l - 488 → m ≡ (r + 487) / 488
    at l r e f = omega arith

pub some_left : (m : ℕ) (bytes : List ℕ) → suc m ≡ sectors_for (length bytes) → 1 ≤ length bytes
some_left m bytes e = at (length bytes) e
  where
    at : (l : ℕ) → suc m ≡ (l + 487) / 488 → 1 ≤ l
    at l e = omega arith

pub length-cut : (m first part : ℕ) (bytes : List ℕ) → length (cut m first part bytes) ≡ m
length-cut zero first part bytes = refl
length-cut (suc m) first part bytes = ap suc (length-cut m (first + 1) none_begins (drop 488 bytes))

pub cut_packed : (m first part : ℕ) (bytes : List ℕ) → m ≡ sectors_for (length bytes) → 256 ≤ first → (part ≡ 0) ⊎ (part ≡ none_begins) → Along IsPacked first (cut m first part bytes)
cut_packed zero first part bytes e low at = tt
cut_packed (suc m) first part bytes e low at = (
  one_packed first part (take 488 bytes) low (some (length (take 488 bytes)) (length bytes) (first_size bytes) (some_left m bytes e)) (few (length (take 488 bytes)) (length bytes) (first_size bytes)) (begins at),
  cut_packed m (first + 1) none_begins (drop 488 bytes) (rest_count m bytes e) (up low) (inr refl),
)
  where
    some : (a l : ℕ) → a ≡ min 488 l → 1 ≤ l → 1 ≤ a
    some a l e h = omega arith

    few : (a l : ℕ) → a ≡ min 488 l → a ≤ 488
    few a l e = omega arith

    up : 256 ≤ first → 256 ≤ first + 1
    up h = omega arith

    below : (p a : ℕ) → p ≡ 0 → 1 ≤ a → p < a
    below p a e h = omega arith

    begins : (part ≡ 0) ⊎ (part ≡ none_begins) → (part < length (take 488 bytes)) ⊎ (part ≡ none_begins)
    begins (inl z) = inl (below part (length (take 488 bytes)) z (some (length (take 488 bytes)) (length bytes) (first_size bytes) (some_left m bytes e)))
    begins (inr z) = inr z

-- ---- the sectors that wait, with a frame more

-- what is put on the last one that waits
module _ (n next : ℕ) (x : LogSector) (frame : List ℕ) (p : IsPacked n x) (some : 1 ≤ length frame) where
  abbrev pub room : ℕ
  room = 488 - x.used

  -- it has room
  pub taken_some : (x.used ≡ 488 → ⊥) → 1 ≤ length (take room frame)
  taken_some ne = at (length (take room frame)) (length frame) x.used (length-take room frame) some p.is.few ne
    where
      at : (a l u : ℕ) → a ≡ min (488 - u) l → 1 ≤ l → u ≤ 488 → (u ≡ 488 → ⊥) → 1 ≤ a
      at a l u e h f ne = omega arith

  pub taken_fits : x.used + length (take room frame) ≤ 488
  taken_fits = at (length (take room frame)) (length frame) x.used (length-take room frame) p.is.few
    where
      at : (a l u : ℕ) → a ≡ min (488 - u) l → u ≤ 488 → u + a ≤ 488
      at a l u e f = omega arith

  pub put_packed : n + 1 ≡ next → 256 ≤ n → Along IsPacked n (put_on next x frame)
  put_packed e low = by_test (λ xs. Along IsPacked n xs) (x ∷ packed_sectors next 0 frame) (filled x (take room frame) ∷ packed_sectors next none_begins (drop room frame)) (x.used == 488)
      (λ t. (p, on 0 frame (inl refl)))
      (λ t. (one_filled n x p (take room frame) (taken_some (eqb-false x.used 488 t)) taken_fits, on none_begins (drop room frame) (inr refl)))
    where
      up : (k : ℕ) → n + 1 ≡ k → 256 ≤ n → 256 ≤ k
      up k e h = omega arith

      on : (part : ℕ) (bytes : List ℕ) → (part ≡ 0) ⊎ (part ≡ none_begins) → Along IsPacked (n + 1) (packed_sectors next part bytes)
      on part bytes at = subst (λ k. Along IsPacked k (packed_sectors next part bytes)) (sym e) (cut_packed (sectors_for (length bytes)) next part bytes refl (up next e low) at)

pub framed_packed : (from next : ℕ) (xs ys : List LogSector) (frame : List ℕ) → from + length (xs ++ ys) ≡ next → 256 ≤ from → 1 ≤ length frame → Along IsPacked from (xs ++ ys)
    → Along IsPacked from (xs ++ framed next ys frame)
framed_packed from next (x ∷ xs) ys frame e low some along = (along.0, framed_packed (from + 1) next xs ys frame (omega arith) (omega arith) some along.1)
framed_packed from next [] [] frame e low some along =
    let here : next ≡ from = omega arith in
    subst (λ k. Along IsPacked k (packed_sectors next 0 frame)) here (cut_packed (sectors_for (length frame)) next 0 frame refl (omega arith) (inl refl))
framed_packed from next [] (y ∷ []) frame e low some along = put_packed from next y frame along.0 some (omega arith) low
framed_packed from next [] (y ∷ z ∷ ys) frame e low some along = (along.0, framed_packed (from + 1) next [] (z ∷ ys) frame (omega arith) (omega arith) some along.1)

-- how many they are
pub length-framed : (next : ℕ) (ys : List LogSector) (frame : List ℕ) → length (framed next ys frame) ≡ length ys + sectors_for (length frame - open_room ys)
length-framed next [] frame = length-cut (sectors_for (length frame)) next 0 frame ∙ at (length frame)
  where
    at : (l : ℕ) → (l + 487) / 488 ≡ 0 + (l - 0 + 487) / 488
    at l = omega arith
length-framed next (y ∷ []) frame = by_test (λ xs. length xs ≡ 1 + sectors_for (length frame - (488 - y.used))) (y ∷ packed_sectors next 0 frame) (filled y (take (488 - y.used) frame) ∷ packed_sectors next none_begins (drop (488 - y.used) frame)) (y.used == 488)
    (λ t. ap suc (length-cut (sectors_for (length frame)) next 0 frame) ∙ full (length frame) y.used (eqb-true y.used 488 t))
    (λ t. ap suc (length-cut (sectors_for (length (drop (488 - y.used) frame))) next none_begins (drop (488 - y.used) frame)) ∙ more (length frame) (length (drop (488 - y.used) frame)) y.used (length-drop (488 - y.used) frame))
  where
    full : (l u : ℕ) → u ≡ 488 → suc ((l + 487) / 488) ≡ 1 + (l - (488 - u) + 487) / 488
    full l u e = omega arith

    more : (l d u : ℕ) → d ≡ l - (488 - u) → suc ((d + 487) / 488) ≡ 1 + (l - (488 - u) + 487) / 488
    more l d u e = omega arith
length-framed next (y ∷ z ∷ ys) frame =
    ap suc (length-framed next (z ∷ ys) frame) ∙ sum (length ys) (sectors_for (length frame - open_room (z ∷ ys)))
  where
    sum : (a b : ℕ) → suc (suc a + b) ≡ suc (suc a) + b
    sum a b = omega arith
