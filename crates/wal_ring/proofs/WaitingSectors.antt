-- Packed sectors that wait: what a frame puts on them, a sector at a time, and that each may stand in its slot.
use Rattle.std.proofs.Common.{◌≡◌, ◌==◌, ℕ, suc, ◌+◌, ◌-◌, ◌/◌, ◌%◌, ◌^◌, min, ◌<◌, ◌≤◌, ◌⊎◌, inl, inr, ⊎_elim, true, ◌&&◌, nat_le, nat_lt, IsTrue, List, [], ◌∷◌, ◌++◌, length, take, drop, get_or, refl, sym, ap, ◌∙◌, arith, append_assoc}
use Rattle.std.specs.List.{list_all}
use Rattle.std.proofs.lemmas.Bool.{and_parts, and_from, cases_lt, cond-true, cond-false, eq-eqb, ne_eqb, ltb-true, lt-ltb}
use Rattle.std.proofs.lemmas.List.{length-drop, take_all, drop_all}
use Rattle.std.proofs.lemmas.List.Folds.{list_all-append}
use Rattle.disk_definitions.specs.declared.log_sector.LogSector.{LogSector}
use Rattle.disk_definitions.specs.LogSectors.{is_packed_sector, log_sector_fits, none_begins}
use Rattle.disk_definitions.proofs.LogSectorLaws.{IsPackedSector, packed_is, packed_from, packed_fits}
use Rattle.frang_base.specs.declared.change.Redo.{Redo}
use Rattle.disk_definitions.specs.Frames.{frame_bytes}
use Rattle.disk_definitions.specs.Records.{record_bytes, record_fits}
use Rattle.log_record.proofs.FrameBack.{IsFramed, few_bytes, length-frame_bytes}
use Rattle.ring_definitions.specs.Rings.{is_record, packed_sector, cut, sectors_for, packed_sectors, open_room, filled, framed}
use Rattle.ring_definitions.proofs.Packed.{one_packed, one_filled}
use Rattle.wal_ring.specs.Kept.{is_waiting, filled_last}

-- ---- a sector that waits

pub waiting_is : (x : LogSector) → is_waiting x ≡ true → (x.seq < 2 ^ 63) × IsPackedSector x
waiting_is x h = let p = and_parts (nat_lt x.seq (2 ^ 63)) (is_packed_sector x) h in (ltb-true x.seq (2 ^ 63) p.0, packed_is x p.1)

pub waiting_from : (x : LogSector) → x.seq < 2 ^ 63 → IsPackedSector x → is_waiting x ≡ true
waiting_from x low p = and_from (nat_lt x.seq (2 ^ 63)) (is_packed_sector x) (lt-ltb x.seq (2 ^ 63) low) (packed_from x p)

-- it may stand in its slot
pub waiting_fits : (x : LogSector) → is_waiting x ≡ true → IsTrue (log_sector_fits (x.seq % 256) x)
waiting_fits x h = let p = waiting_is x h in packed_fits x p.1 p.0

pub packed_waits : (n part : ℕ) (bytes : List ℕ) → 256 ≤ n → n < 2 ^ 63 → 1 ≤ length bytes → length bytes ≤ 488 → (part ≡ 0) ⊎ (part ≡ none_begins) → is_waiting (packed_sector n part bytes) ≡ true
packed_waits n part bytes low high some few at = waiting_from (packed_sector n part bytes) high (one_packed n part bytes low some few (begins at)).is
  where
    begins : (part ≡ 0) ⊎ (part ≡ none_begins) → (part < length bytes) ⊎ (part ≡ none_begins)
    begins (inl z) = inl (below part (length bytes) z some)
      where
        below : (p l : ℕ) → p ≡ 0 → 1 ≤ l → p < l
        below p l e h = omega arith
    begins (inr z) = inr z

pub filled_waits : (x : LogSector) (bytes : List ℕ) → length x.body ≡ 488 → is_waiting x ≡ true → 1 ≤ length bytes → x.used + length bytes ≤ 488 → is_waiting (filled x bytes) ≡ true
filled_waits x bytes size h some fits =
    let p = waiting_is x h in
    waiting_from (filled x bytes) p.0 (one_filled x.seq x (record { seq = refl; size = size; is = p.1 }) bytes some fits).is

-- ---- lists of them

pub all_both : (xs ys : List LogSector) → list_all is_waiting (xs ++ ys) ≡ true → (list_all is_waiting xs ≡ true) × (list_all is_waiting ys ≡ true)
all_both xs ys h = and_parts (list_all is_waiting xs) (list_all is_waiting ys) (sym (list_all-append is_waiting xs ys) ∙ h)

pub all_pushed : (xs : List LogSector) (x : LogSector) → list_all is_waiting xs ≡ true → is_waiting x ≡ true → list_all is_waiting (xs ++ x ∷ []) ≡ true
all_pushed xs x h e = list_all-append is_waiting xs (x ∷ []) ∙ and_from (list_all is_waiting xs) (is_waiting x && true) h (and_from (is_waiting x) true e refl)

pub first_waits : (xs : List LogSector) (x : LogSector) → 0 < length xs → x ≡ get_or xs 0 x → list_all is_waiting xs ≡ true → is_waiting x ≡ true
first_waits [] x h e all = absurd (omega arith)
first_waits (y ∷ ys) x h e all = ap is_waiting e ∙ (and_parts (is_waiting y) (list_all is_waiting ys) all).0

-- the room of the last one
pub open_at : (xs : List LogSector) (x : LogSector) → open_room (xs ++ x ∷ []) ≡ 488 - x.used
open_at [] x = refl
open_at (y ∷ []) x = refl
open_at (y ∷ z ∷ ys) x = open_at (z ∷ ys) x

pub open_last : (ys : List LogSector) (x : LogSector) → 0 < length ys → x ≡ get_or ys (length ys - 1) x → open_room ys ≡ 488 - x.used
open_last [] x h e = absurd (omega arith)
open_last (y ∷ []) x h e = ap (λ (z : LogSector). 488 - z.used) (sym e)
open_last (y ∷ z ∷ ys) x h e =
    let k : length (y ∷ z ∷ ys) - 1 ≡ suc (length (z ∷ ys) - 1) = omega arith in
    open_last (z ∷ ys) x (omega arith) (e ∙ ap (λ i. get_or (y ∷ z ∷ ys) i x) k)

pub open_none : (ys : List LogSector) → length ys ≡ 0 → open_room ys ≡ 0
open_none [] e = refl
open_none (y ∷ ys) e = absurd (omega arith)

pub filled_last_at : (xs : List LogSector) (x : LogSector) (bytes : List ℕ) → filled_last (xs ++ x ∷ []) bytes ≡ xs ++ filled x bytes ∷ []
filled_last_at [] x bytes = refl
filled_last_at (y ∷ []) x bytes = refl
filled_last_at (y ∷ z ∷ ys) x bytes = ap (λ zs. y ∷ zs) (filled_last_at (z ∷ ys) x bytes)

-- ---- a frame

pub is_framed : (redo : Redo) → IsTrue (is_record redo) → IsFramed redo
is_framed redo is =
    let outer = and_parts (nat_le 1 redo.op.0 && nat_lt redo.op.0 (2 ^ 64)) (record_fits redo.changes) is in
    record { op = ltb-true redo.op.0 (2 ^ 64) (and_parts (nat_le 1 redo.op.0) (nat_lt redo.op.0 (2 ^ 64)) outer.0).1; fits = outer.1 }

pub frame_size : (redo : Redo) → IsTrue (is_record redo) → (11 ≤ length (frame_bytes redo)) × (length (frame_bytes redo) ≤ 4106)
frame_size redo is = at (length (frame_bytes redo)) (length (record_bytes redo.changes)) (length-frame_bytes redo) some (few_bytes redo (is_framed redo is))
  where
    some : 1 ≤ length (record_bytes redo.changes)
    some = omega arith

    at : (a b : ℕ) → a ≡ 10 + b → 1 ≤ b → b ≤ 4096 → (11 ≤ a) × (a ≤ 4106)
    at a b e h f = (omega arith, omega arith)

-- it needs at most 9 sectors
pub few_sectors : (l r : ℕ) → l ≤ 4106 → sectors_for (l - r) ≤ 9
few_sectors l r h = omega arith

-- on sectors of which the last is full, or on none
pub full_on : (next : ℕ) (ys : List LogSector) (frame : List ℕ) → list_all is_waiting ys ≡ true → open_room ys ≡ 0 → framed next ys frame ≡ ys ++ packed_sectors next 0 frame
full_on next [] frame all e = refl
full_on next (y ∷ []) frame all e =
    let few : y.used ≤ 488 = (waiting_is y (and_parts (is_waiting y) true all).0).1.few in
    let full : y.used ≡ 488 = at y.used few e in
    cond-true (y.used == 488) (y ∷ packed_sectors next 0 frame) (filled y (take (488 - y.used) frame) ∷ packed_sectors next none_begins (drop (488 - y.used) frame)) (eq-eqb y.used 488 full)
  where
    at : (u : ℕ) → u ≤ 488 → 488 - u ≡ 0 → u ≡ 488
    at u h e = omega arith
full_on next (y ∷ z ∷ ys) frame all e = ap (λ zs. y ∷ zs) (full_on next (z ∷ ys) frame (and_parts (is_waiting y) (list_all is_waiting (z ∷ ys)) all).1 e)

-- on sectors of which the last is open
pub open_on : (next : ℕ) (ys : List LogSector) (frame : List ℕ) → 1 ≤ open_room ys
    → framed next ys frame ≡ filled_last ys (take (open_room ys) frame) ++ packed_sectors next none_begins (drop (open_room ys) frame)
open_on next [] frame h = absurd (omega arith)
open_on next (y ∷ []) frame h =
    cond-false (y.used == 488) (y ∷ packed_sectors next 0 frame) (filled y (take (488 - y.used) frame) ∷ packed_sectors next none_begins (drop (488 - y.used) frame)) (ne_eqb y.used 488 (apart y.used h))
  where
    apart : (u : ℕ) → 1 ≤ 488 - u → u ≡ 488 → ⊥
    apart u h e = omega arith
open_on next (y ∷ z ∷ ys) frame h = ap (λ zs. y ∷ zs) (open_on next (z ∷ ys) frame h)

pub take_least : (n : ℕ) (bs : List ℕ) → take (min n (length bs)) bs ≡ take n bs
take_least n bs = ⊎_elim (λ l. let m : min n (length bs) ≡ n = omega arith in ap (λ k. take k bs) m)
    (λ l. let m : min n (length bs) ≡ length bs = omega arith in ap (λ k. take k bs) m ∙ take_all (length bs) bs (omega arith) ∙ sym (take_all n bs l)) (cases_lt n (length bs))

pub drop_least : (n : ℕ) (bs : List ℕ) → drop (min n (length bs)) bs ≡ drop n bs
drop_least n bs = ⊎_elim (λ l. let m : min n (length bs) ≡ n = omega arith in ap (λ k. drop k bs) m)
    (λ l. let m : min n (length bs) ≡ length bs = omega arith in ap (λ k. drop k bs) m ∙ drop_all (length bs) bs (omega arith) ∙ sym (drop_all n bs l)) (cases_lt n (length bs))

-- one sector, and then the others
pub packed_more : (n part : ℕ) (bytes : List ℕ) → 1 ≤ length bytes → packed_sectors n part bytes ≡ packed_sector n part (take 488 bytes) ∷ packed_sectors (n + 1) none_begins (drop 488 bytes)
packed_more n part bytes some = ap (λ m. cut m n part bytes) (at (length bytes) (length (drop 488 bytes)) some (length-drop 488 bytes))
  where
    at : (l r : ℕ) → 1 ≤ l → r ≡ l - 488 → (l + 487) / 488 ≡ suc ((r + 487) / 488)
    at l r h e = omega arith

pub packed_none : (n part : ℕ) (bytes : List ℕ) → length bytes ≡ 0 → packed_sectors n part bytes ≡ []
packed_none n part bytes z = ap (λ l. cut (sectors_for l) n part bytes) z

-- a sector more stands behind the others
pub sectors_more : (n part : ℕ) (rest piece behind : List ℕ) (before after all : List LogSector) (x : LogSector) → 1 ≤ length rest → piece ≡ take (min (length rest) 488) rest → behind ≡ drop (min (length rest) 488) rest
    → x ≡ packed_sector n part piece → after ≡ before ++ x ∷ [] → before ++ packed_sectors n part rest ≡ all → after ++ packed_sectors (n + 1) none_begins behind ≡ all
sectors_more n part rest piece behind before after all x some p b is grown e =
    let swap : min (length rest) 488 ≡ min 488 (length rest) = omega arith in
    let first : piece ≡ take 488 rest = p ∙ ap (λ k. take k rest) swap ∙ take_least 488 rest in
    let second : behind ≡ drop 488 rest = b ∙ ap (λ k. drop k rest) swap ∙ drop_least 488 rest in
    ap (λ zs. zs ++ packed_sectors (n + 1) none_begins behind) (grown ∙ ap (λ y. before ++ y ∷ []) (is ∙ ap (packed_sector n part) first))
    ∙ ap (λ bs. (before ++ packed_sector n part (take 488 rest) ∷ []) ++ packed_sectors (n + 1) none_begins bs) second
    ∙ append_assoc before (packed_sector n part (take 488 rest) ∷ []) (packed_sectors (n + 1) none_begins (drop 488 rest))
    ∙ ap (λ zs. before ++ zs) (sym (packed_more n part rest some)) ∙ e
