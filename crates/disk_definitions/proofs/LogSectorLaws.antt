-- Sectors of logs: what was written reads back, and a block in a slot is at most one sector.
use Rattle.std.proofs.Common.{◌≡◌, ℕ, ◌%◌, ◌^◌, ◌<◌, ◌≤◌, ◌⊎◌, inl, inr, ⊎_elim, Bool, true, false, ◌&&◌, ◌||◌, ◌==◌, nat_le, nat_lt, Option, Some, None, IfSome, IsTrue, List, [], ◌∷◌, ◌++◌, length, drop, refl, sym, ap, ◌∙◌, subst, arith}
use Rattle.std.proofs.lemmas.Bool.{and_parts, and_from, or_cases, or_left, or_right, false_from_ne_true, leb-true, le-leb, ltb-true, lt-ltb, eqb-true, eq-eqb}
use Rattle.std.proofs.lemmas.Bool.Decides.{nat_tests}
use Rattle.byteorder.specs.Endian.{little_bytes}
use Rattle.byteorder.specs.Numbers.{little_number-reads_back}
use Rattle.disk_definitions.specs.declared.log_sector.LogSector.{LogSector}
use Rattle.sector_bytes.specs.Bytes.{number_at, zeros, are_zero}
use Rattle.std.specs.Str.{bytes_eq}
use Rattle.disk_definitions.specs.LogSectors.{numbered_bytes, log_sector_bytes, is_empty_sector, is_record_sector, is_packed, packed_mark, none_begins, is_packed_sector, is_filled_sector, log_sector_fits, log_sector_fields, empty_sector, IsLogSector, numbered_sector_in, log_sector_in}
use Rattle.frang_base.proofs.Basics.{by_test}
use Rattle.disk_definitions.proofs.Readings.{read_back, read_is}
use Rattle.sector_bytes.proofs.SameBytes.{same_bytes_is, same_bytes_refl}

-- the numbers of a sector fit their fields, and the body has its length
pub record IsStorable (x : LogSector) : Type 0 where
  pub seq : x.seq < 256 ^ 8
  pub op : x.op.0 < 256 ^ 8
  pub part : x.part < 256 ^ 2
  pub parts : x.parts < 256 ^ 2
  pub used : x.used < 256 ^ 2
  pub body : length x.body ≡ 488

-- sectors with the same fields are one
same_sector : {s o p q u : ℕ} {b : List ℕ} (x : LogSector) → s ≡ x.seq → o ≡ x.op.0 → p ≡ x.part → q ≡ x.parts → u ≡ x.used → b ≡ x.body
    → record { seq = s; op = record { 0 = o }; part = p; parts = q; used = u; body = b } ≡ x
same_sector x seq op part parts used body = rw (seq, op, part, parts, used, body) refl

-- the fields of the bytes of a numbered sector
pub fields_of_numbered_bytes : (x : LogSector) → IsStorable x → log_sector_fields (numbered_bytes x) ≡ x
fields_of_numbered_bytes x h =
    let tail = little_bytes 2 x.used ++ (0 ∷ 0 ∷ x.body) in
    same_sector x
    (little_number-reads_back 8 x.seq (little_bytes 8 x.op.0 ++ (little_bytes 2 x.part ++ (little_bytes 2 x.parts ++ tail))) h.seq)
    (little_number-reads_back 8 x.op.0 (little_bytes 2 x.part ++ (little_bytes 2 x.parts ++ tail)) h.op)
    (little_number-reads_back 2 x.part (little_bytes 2 x.parts ++ tail) h.part)
    (little_number-reads_back 2 x.parts tail h.parts)
    (little_number-reads_back 2 x.used (0 ∷ 0 ∷ x.body) h.used)
    refl

-- a numbered sector isn't zeros
numbered_is_not_zeros : (x : LogSector) → IsStorable x → 256 ≤ x.seq → bytes_eq (zeros 512) (numbered_bytes x) ≡ false
unfolding zeros
numbered_is_not_zeros x h n = false_from_ne_true (bytes_eq (zeros 512) (numbered_bytes x)) (λ e.
    let first : 0 ≡ x.seq = ap (number_at 8 0) (same_bytes_is (zeros 512) (numbered_bytes x) e) ∙ ap (λ (y : LogSector). y.seq) (fields_of_numbered_bytes x h) in
    omega arith)

-- bytes that are all 0
zeros_of : (xs : List ℕ) → are_zero xs ≡ true → xs ≡ zeros (length xs)
unfolding zeros
zeros_of [] h = refl
zeros_of (x ∷ xs) h =
    let parts = and_parts (x == 0) (are_zero xs) h in
    let first : x ≡ 0 = grind (arith, nat_tests) in
    rw first (ap (λ (ys : List ℕ). 0 ∷ ys) (zeros_of xs parts.1))

-- one of two, where it isn't the second
first_of_two : (a b : Bool) → (a || b) ≡ true → (b ≡ true → ⊥) → a ≡ true
first_of_two true b h n = refl
first_of_two false b h n = absurd (n h)

record_number : (x : LogSector) → is_record_sector x ≡ true → 256 ≤ x.seq
record_number x h = grind (arith, nat_tests, and_parts)

-- what the test of a packed sector asks for
pub record IsPackedSector (x : LogSector) : Type 0 where
  pub seq : 256 ≤ x.seq
  pub op : x.op.0 ≡ 0
  pub parts : x.parts ≡ packed_mark
  pub some : 1 ≤ x.used
  pub few : x.used ≤ 488
  pub part : (x.part < x.used) ⊎ (x.part ≡ none_begins)
  pub zeros : are_zero (drop x.used x.body) ≡ true

pub packed_is : (x : LogSector) → is_packed_sector x ≡ true → IsPackedSector x
packed_is x h =
    let seq = nat_le 256 x.seq in
    let op = x.op.0 == 0 in
    let parts = is_packed x in
    let some = nat_le 1 x.used in
    let few = nat_le x.used 488 in
    let part = nat_lt x.part x.used || x.part == none_begins in
    let g = and_parts (seq && op && parts && some && few && part) (are_zero (drop x.used x.body)) h in
    let f = and_parts (seq && op && parts && some && few) part g.0 in
    let e = and_parts (seq && op && parts && some) few f.0 in
    let d = and_parts (seq && op && parts) some e.0 in
    let c = and_parts (seq && op) parts d.0 in
    let b = and_parts seq op c.0 in
    record {
      seq = leb-true 256 x.seq b.0;
      op = eqb-true x.op.0 0 b.1;
      parts = eqb-true x.parts packed_mark c.1;
      some = leb-true 1 x.used d.1;
      few = leb-true x.used 488 e.1;
      part = ⊎_elim (λ t. inl (ltb-true x.part x.used t)) (λ t. inr (eqb-true x.part none_begins t)) (or_cases (nat_lt x.part x.used) (x.part == none_begins) f.1);
      zeros = g.1;
    }

pub packed_from : (x : LogSector) → IsPackedSector x → is_packed_sector x ≡ true
packed_from x p =
    let seq = nat_le 256 x.seq in
    let op = x.op.0 == 0 in
    let parts = is_packed x in
    let some = nat_le 1 x.used in
    let few = nat_le x.used 488 in
    let low = nat_lt x.part x.used in
    let none = x.part == none_begins in
    let part : (low || none) ≡ true = ⊎_elim (λ l. or_left low none (lt-ltb x.part x.used l)) (λ e. or_right low none (eq-eqb x.part none_begins e)) p.part in
    let b = and_from seq op (le-leb 256 x.seq p.seq) (eq-eqb x.op.0 0 p.op) in
    let c = and_from (seq && op) parts b (eq-eqb x.parts packed_mark p.parts) in
    let d = and_from (seq && op && parts) some c (le-leb 1 x.used p.some) in
    let e = and_from (seq && op && parts && some) few d (le-leb x.used 488 p.few) in
    let f = and_from (seq && op && parts && some && few) (low || none) e part in
    and_from (seq && op && parts && some && few && (low || none)) (are_zero (drop x.used x.body)) f p.zeros

filled_number : (x : LogSector) → is_filled_sector x ≡ true → 256 ≤ x.seq
filled_number x h = ⊎_elim (record_number x) (λ p. (packed_is x p).seq) (or_cases (is_record_sector x) (is_packed_sector x) h)

-- a packed sector may stand in the slot of its number
pub packed_fits : (x : LogSector) → IsPackedSector x → x.seq < 2 ^ 63 → log_sector_fits (x.seq % 256) x ≡ true
packed_fits x p low =
    and_from (nat_lt x.seq (2 ^ 63) && x.seq % 256 == x.seq % 256) (is_empty_sector x || is_filled_sector x)
    (and_from (nat_lt x.seq (2 ^ 63)) (x.seq % 256 == x.seq % 256) (lt-ltb x.seq (2 ^ 63) low) (eq-eqb (x.seq % 256) (x.seq % 256) refl))
    (or_right (is_empty_sector x) (is_filled_sector x) (or_right (is_record_sector x) (is_packed_sector x) (packed_from x p)))

empty_fields : (x : LogSector) → is_empty_sector x ≡ true → (x.op.0 ≡ 0) × (x.part ≡ 0) × (x.parts ≡ 0) × (x.used ≡ 0) × (are_zero x.body ≡ true)
empty_fields x h = grind (arith, nat_tests, and_parts)

-- the slot of a sector that fits, and that it is empty or has bytes of records
fitting : (slot : ℕ) (x : LogSector) → log_sector_fits slot x ≡ true → (x.seq % 256 ≡ slot) × ((is_empty_sector x || is_filled_sector x) ≡ true)
fitting slot x h =
    let outer = and_parts (nat_lt x.seq (2 ^ 63) && x.seq % 256 == slot) (is_empty_sector x || is_filled_sector x) h in
    let inner = and_parts (nat_lt x.seq (2 ^ 63)) (x.seq % 256 == slot) outer.0 in
    let e : x.seq % 256 ≡ slot = grind (arith, nat_tests) in (e, outer.1)

-- a sector with a number below 256 is the empty one of its slot
low_is_empty : (slot : ℕ) (x : LogSector) → length x.body ≡ 488 → x.seq < 256 → log_sector_fits slot x ≡ true → empty_sector slot ≡ x
low_is_empty slot x n low h =
    let fit = fitting slot x h in
    let e = empty_fields x (first_of_two (is_empty_sector x) (is_filled_sector x) fit.1 (λ r. let k = filled_number x r in omega arith)) in
    let seq : slot ≡ x.seq = omega arith in
    let body : zeros 488 ≡ x.body = sym (zeros_of x.body e.4 ∙ ap zeros n) in
    same_sector x seq (sym e.0) (sym e.1) (sym e.2) (sym e.3) body

-- a sector with a number of its own that may stand in the slot
abbrev is_numbered : ℕ → LogSector → Bool
is_numbered slot x = nat_le 256 x.seq && log_sector_fits slot x

-- what was written reads back
pub log_sector_back : (slot : ℕ) (x : LogSector) → IsStorable x → log_sector_fits slot x ≡ true → log_sector_in slot (log_sector_bytes x) ≡ Some x
log_sector_back slot x h fits =
    by_test (λ (b : List ℕ). log_sector_in slot b ≡ Some x) (zeros 512) (numbered_bytes x) (nat_lt x.seq 256)
    (λ t. rw (same_bytes_refl (zeros 512)) (ap (λ (y : LogSector). Some y) (low_is_empty slot x h.body (grind (arith, nat_tests)) fits)))
    (λ f.
    let numbered : 256 ≤ x.seq = grind (arith, nat_tests) in
    let test : is_numbered slot x ≡ true = and_from (nat_le 256 x.seq) (log_sector_fits slot x) (grind (arith, nat_tests)) fits in
    rw (numbered_is_not_zeros x h numbered)
    (read_back numbered_bytes (is_numbered slot) (log_sector_fields (numbered_bytes x)) x (fields_of_numbered_bytes x h) test))

-- the empty sector of a slot may stand there
pub empty_fits : (slot : ℕ) → slot < 256 → log_sector_fits slot (empty_sector slot) ≡ true
unfolding zeros
empty_fits slot h =
    let below : nat_lt slot (2 ^ 63) ≡ true = grind (arith, nat_tests) in
    let at : (slot % 256 == slot) ≡ true = grind (arith, nat_tests) in
    rw (below, at) refl

-- the bytes of a numbered sector
bytes_of_numbered : (x : LogSector) → 256 ≤ x.seq → log_sector_bytes x ≡ numbered_bytes x
bytes_of_numbered x h = let e : nat_lt x.seq 256 ≡ false = grind (arith, nat_tests) in rw e refl

-- what a block in a slot is read as, it is
pub log_sector_read : (slot : ℕ) (block : List ℕ) (x : LogSector) → slot < 256 → log_sector_in slot block ≡ Some x → IsLogSector slot block x
log_sector_read slot block x low =
    by_test (λ (o : Option LogSector). o ≡ Some x → IsLogSector slot block x) (Some (empty_sector slot)) (numbered_sector_in slot block (log_sector_fields block))
    (bytes_eq (zeros 512) block)
    (λ t e.
    let is : empty_sector slot ≡ x = cc in
    let zero : log_sector_bytes (empty_sector slot) ≡ zeros 512 = let b : nat_lt slot 256 ≡ true = grind (arith, nat_tests) in rw b refl in
    subst (IsLogSector slot block) is (sym (same_bytes_is (zeros 512) block t) ∙ sym zero, empty_fits slot low))
    (λ f e.
    let parts = read_is numbered_bytes (is_numbered slot) block (log_sector_fields block) x e in
    let fits = and_parts (nat_le 256 x.seq) (log_sector_fits slot x) parts.1 in
    (parts.0 ∙ sym (bytes_of_numbered x (grind (arith, nat_tests))), fits.1))

-- what a block in a slot is, it is read as
pub log_sector_found : (slot : ℕ) (block : List ℕ) (x : LogSector) → IsStorable x → IsLogSector slot block x → log_sector_in slot block ≡ Some x
log_sector_found slot block x s h = ap (log_sector_in slot) h.0 ∙ log_sector_back slot x s h.1

-- a block in a slot is at most one sector
pub log_sector_once : (slot : ℕ) (block : List ℕ) (x y : LogSector) → IsStorable x → IsStorable y → IsLogSector slot block x → IsLogSector slot block y → x ≡ y
log_sector_once slot block x y s t h g =
    let e : Some x ≡ Some y = sym (log_sector_found slot block x s h) ∙ log_sector_found slot block y t g in cc

-- what is read of a numbered sector may stand in its slot
pub numbered_fits : (slot : ℕ) (block : List ℕ) (y : LogSector) (o : Option LogSector) → o ≡ numbered_sector_in slot block y → IfSome o (λ x. IsTrue (log_sector_fits slot x))
numbered_fits slot block y None e = tt
numbered_fits slot block y (Some x) e =
    (and_parts (nat_le 256 x.seq) (log_sector_fits slot x) (read_is numbered_bytes (is_numbered slot) block y x (sym e)).1).1
