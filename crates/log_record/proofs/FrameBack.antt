-- Frames read back, whatever follows them, and the first bytes of one hold none.
use Rattle.std.proofs.Common.{◌≡◌, ℕ, ◌+◌, ◌-◌, ◌^◌, ◌<◌, ◌≤◌, ⊎_elim, Bool, true, false, ◌&&◌, cond, if◌then◌else◌, nat_le, Some, None, List, ◌++◌, length, take, drop, refl, ap, ◌∙◌, arith}
use Rattle.std.proofs.lemmas.Bool.{and_from, cond-true, cond-false, cases_lt, lt-leb, le-leb}
use Rattle.std.proofs.lemmas.List.{length-take, length-drop, drop-take}
use Rattle.std.specs.Option.{option_and_then, option_map}
use Rattle.byteorder.specs.Endian.{little_bytes}
use Rattle.byteorder.specs.Numbers.{little_number-reads_back, little_from-take}
use Rattle.sector_bytes.specs.Bytes.{number_at}
use Rattle.frang_base.specs.declared.change.Redo.{Redo}
use Rattle.disk_definitions.specs.Records.{Read, bytes_read, number_read, record_bytes, record_fits}
use Rattle.disk_definitions.specs.Frames.{frame_bytes, body_read, frame_read}
use Rattle.log_record.proofs.NumbersRead.{number_back, bytes_back}
use Rattle.log_record.proofs.RecordBack.{goes_on, is_record}

-- a record whose frame may stand in a log
pub record IsFramed (redo : Redo) : Type 0 where
  pub op : redo.op.0 < 2 ^ 64
  pub fits : record_fits redo.changes ≡ true

pub some_bytes : (redo : Redo) → 1 ≤ length (record_bytes redo.changes)
some_bytes redo = omega arith

pub few_bytes : (redo : Redo) → IsFramed redo → length (record_bytes redo.changes) ≤ 4096
few_bytes redo f = (is_record redo.changes f.fits).short

pub length-frame_bytes : (redo : Redo) → length (frame_bytes redo) ≡ 10 + length (record_bytes redo.changes)
length-frame_bytes redo = omega arith

in_range : (redo : Redo) → IsFramed redo → (nat_le 1 (length (record_bytes redo.changes)) && nat_le (length (record_bytes redo.changes)) 4096) ≡ true
in_range redo f =
    and_from (nat_le 1 (length (record_bytes redo.changes))) (nat_le (length (record_bytes redo.changes)) 4096)
    (le-leb 1 (length (record_bytes redo.changes)) (some_bytes redo)) (le-leb (length (record_bytes redo.changes)) 4096 (few_bytes redo f))

body_back : (redo : Redo) (rest : List ℕ) → IsFramed redo → body_read (length (record_bytes redo.changes)) (record_bytes redo.changes ++ rest) ≡ Some (record_bytes redo.changes, rest)
body_back redo rest f =
    let body = record_bytes redo.changes in
    cond-true (nat_le 1 (length body) && nat_le (length body) 4096) (bytes_read (length body) (body ++ rest)) None (in_range redo f) ∙ bytes_back body rest

pub frame_back : (redo : Redo) (rest : List ℕ) → IsFramed redo → frame_read (frame_bytes redo ++ rest) ≡ Some ((redo.op.0, record_bytes redo.changes), rest)
unfolding frame_read
frame_back redo rest f =
    let body = record_bytes redo.changes in
    let few = few_bytes redo f in
    goes_on _ _ _ _ (number_back 8 redo.op.0 (little_bytes 2 (length body) ++ (body ++ rest)) (omega (arith, f.op)))
    (goes_on _ _ _ _ (number_back 2 (length body) (body ++ rest) (omega (arith, few)))
    (ap (option_map (λ b. ((redo.op.0, b.0), b.1))) (body_back redo rest f)))

-- ---- the first bytes of a frame

number_there : (n : ℕ) (bytes : List ℕ) → n ≤ length bytes → number_read n bytes ≡ Some (number_at n 0 bytes, drop n bytes)
number_there n bytes h = cond-true (nat_le n (length bytes)) (Some (number_at n 0 bytes, drop n bytes)) None (le-leb n (length bytes) h)

number_lacks : (n : ℕ) (bytes : List ℕ) → length bytes < n → number_read n bytes ≡ None
number_lacks n bytes h = cond-false (nat_le n (length bytes)) (Some (number_at n 0 bytes, drop n bytes)) None (lt-leb n (length bytes) h)

body_lacks : (n : ℕ) (bytes : List ℕ) → length bytes < n → body_read n bytes ≡ None
body_lacks n bytes h =
    ap (λ o. if nat_le 1 n && nat_le n 4096 then o else None) (cond-false (nat_le n (length bytes)) (Some (take n bytes, drop n bytes)) None (lt-leb n (length bytes) h))
    ∙ same (nat_le 1 n && nat_le n 4096)
  where
    same : (b : Bool) → cond {A = Read (List ℕ)} b None None ≡ None
    same true = refl
    same false = refl

module _ (redo : Redo) (f : IsFramed redo) (m : ℕ) (short : m < length (frame_bytes redo)) where
  body : List ℕ
  body = record_bytes redo.changes

  front : List ℕ
  front = take m (frame_bytes redo)

  size : length front ≡ m
  unfolding front
  size = omega (arith, length-take m (frame_bytes redo))

  -- behind the operation and behind the length
  behind : (k : ℕ) → k ≤ m → drop k front ≡ take (m - k) (drop k (frame_bytes redo))
  unfolding front
  behind k h = let e : m ≡ k + (m - k) = omega arith in ap (λ n. drop k (take n (frame_bytes redo))) e ∙ drop-take k (m - k) (frame_bytes redo)

  the_length : 10 ≤ m → number_at 2 0 (drop 8 front) ≡ length body
  unfolding body
  the_length h =
      let few = few_bytes redo f in
      ap (number_at 2 0) (behind 8 (omega arith)) ∙ little_from-take 0 2 (m - 8) (drop 8 (frame_bytes redo)) (omega arith)
      ∙ little_number-reads_back 2 (length (record_bytes redo.changes)) (record_bytes redo.changes) (omega (arith, few))

  pub frame_cut : frame_read (take m (frame_bytes redo)) ≡ None
  unfolding frame_read front body
  frame_cut = ⊎_elim no_op (λ h. ⊎_elim (no_length h) no_body (cases_lt m 10)) (cases_lt m 8)
    where
      no_op : m < 8 → frame_read front ≡ None
      no_op h = ap (option_and_then _) (number_lacks 8 front (omega (arith, size)))

      no_length : 8 ≤ m → m < 10 → frame_read front ≡ None
      no_length h l =
          goes_on _ _ _ _ (number_there 8 front (omega (arith, size)))
          (ap (option_and_then _) (number_lacks 2 (drop 8 front) (omega (arith, size, length-drop 8 front))))

      no_body : 10 ≤ m → frame_read front ≡ None
      no_body h =
          goes_on _ _ _ _ (number_there 8 front (omega (arith, size)))
          (goes_on _ _ _ _ (number_there 2 (drop 8 front) (omega (arith, size, length-drop 8 front)))
          (ap (option_map _) (ap (λ n. body_read n (drop 2 (drop 8 front))) (the_length h)
          ∙ body_lacks (length body) (drop 2 (drop 8 front)) (omega (arith, size, length-drop 8 front, length-drop 2 (drop 8 front), length-frame_bytes redo, short)))))
