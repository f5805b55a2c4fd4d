-- The loops of the reading of a log, a step at a time.
use Rattle.std.proofs.Common.{◌≡◌, ◌==◌, ℕ, zero, suc, ◌+◌, ◌-◌, min, ◌<◌, ◌≤◌, ◌⊎◌, inl, inr, ⊎_elim, Bool, true, false, if◌then◌else◌, Option, Some, None, List, [], ◌∷◌, ◌++◌, length, take, drop, get_or, refl, sym, ap, ◌∙◌, append_assoc, append-nil, not, Bor, arith}
use Rattle.std.proofs.lemmas.Bool.{false≢true, cond-true, cond-false, cases_lt, ne_eqb}
use Rattle.std.proofs.lemmas.List.{at_drop_more, drop_all, length-take, take_all}
use Rattle.std.specs.List.{cons_option, filter_map}
use Rattle.std.specs.Option.{option_copied, is_some}
use Rattle.disk_definitions.specs.declared.log_sector.LogSector.{LogSector}
use Rattle.disk_definitions.specs.LogSectors.{empty_sector}
use Rattle.frang_base.specs.declared.change.Redo.{Redo}
use Rattle.disk_definitions.specs.Records.{Read}
use Rattle.disk_definitions.specs.Frames.{Frame, frame_length, frame_read, framed_record, next_frames, frames_among}
use Rattle.disk_definitions.specs.Logs.{goes_on, bytes_on, records_at, records_among}
use Rattle.disk_definitions.proofs.ReadingLaws.{none_left}
use Rattle.log_reading.specs.Decoded.{Decoded, sector_with}
use Rattle.log_reading.proofs.Windows.{numbers_from, sectors_more, with_sector}

-- ---- sectors of the numbers up to an end

module _ (sectors : Decoded) (end n number : ℕ) (o : Option (Bor LogSector)) where
  pub one_read : (r : Bor LogSector) (before after : List LogSector) → number ≡ end - 191 + n → option_copied o ≡ sector_with sectors number → before ≡ filter_map (sector_with sectors) (numbers_from end n)
      → o ≡ Some r → after ≡ before ++ r.now ∷ [] → after ≡ filter_map (sector_with sectors) (numbers_from end (n + 1))
  one_read r before after is reads h there grown =
      let found : Some r.now ≡ sector_with sectors (end - 191 + n) = sym (ap option_copied there) ∙ reads ∙ ap (sector_with sectors) is in
      grown ∙ ap (λ xs. xs ++ r.now ∷ []) h ∙ ap (λ p. filter_map (sector_with sectors) (numbers_from end n) ++ with_sector p) found ∙ sym (sectors_more sectors end n)

  pub none_more : (before : List LogSector) → number ≡ end - 191 + n → option_copied o ≡ sector_with sectors number → before ≡ filter_map (sector_with sectors) (numbers_from end n)
      → o ≡ None → before ≡ filter_map (sector_with sectors) (numbers_from end (n + 1))
  none_more before is reads h none =
      let found : None ≡ sector_with sectors (end - 191 + n) = sym (ap option_copied none) ∙ reads ∙ ap (sector_with sectors) is in
      h ∙ sym (append-nil (filter_map (sector_with sectors) (numbers_from end n))) ∙ ap (λ p. filter_map (sector_with sectors) (numbers_from end n) ++ with_sector p) found ∙ sym (sectors_more sectors end n)

pub not_there : (sectors : Decoded) (number : ℕ) (o : Option (Bor LogSector)) (b : Bool) → option_copied o ≡ sector_with sectors number → is_some o ≡ not b → b ≡ true → is_some (sector_with sectors number) ≡ false
not_there sectors number None b reads some none = ap is_some (sym reads)
not_there sectors number (Some r) b reads some none = let e : true ≡ false = some ∙ ap not none in absurd (false≢true (sym e))

-- ---- records

among_more : (xs : List LogSector) (i : ℕ) → i < length xs → records_among (drop i xs) ≡ records_at (drop i xs) ++ records_among (drop (i + 1) xs)
among_more xs i h =
    let d = empty_sector 0 in
    let split = at_drop_more (λ ys. ys) xs i d h in
    ap records_among split ∙ ap (λ ys. records_at ys ++ records_among (drop (i + 1) xs)) (sym split)

-- the records that begin in one sector more
pub one_more : (xs slice : List LogSector) (i : ℕ) (before after all : List Redo) → i < length xs → slice ≡ drop i xs → after ≡ before ++ records_at slice
    → before ++ records_among (drop i xs) ≡ all → after ++ records_among (drop (i + 1) xs) ≡ all
one_more xs slice i before after all h is grown e =
    let rest = records_among (drop (i + 1) xs) in
    ap (λ rs. rs ++ rest) (grown ∙ ap (λ ys. before ++ records_at ys) is) ∙ append_assoc before (records_at (drop i xs)) rest ∙ ap (λ rs. before ++ rs) (sym (among_more xs i h)) ∙ e

-- ---- bytes of packed sectors

take_both : (n : ℕ) (bs rest : List ℕ) → take n (bs ++ rest) ≡ take n bs ++ take (n - length bs) rest
take_both zero bs rest = let e : 0 - length bs ≡ 0 = omega arith in sym (ap (λ k. take k rest) e)
take_both (suc n) [] rest = let e : suc n ≡ suc n - 0 = omega arith in ap (λ k. take k rest) e
take_both (suc n) (b ∷ bs) rest = let e : suc n - suc (length bs) ≡ n - length bs = omega arith in ap (λ cs. b ∷ cs) (take_both n bs rest) ∙ ap (λ k. b ∷ (take n bs ++ take k rest)) (sym e)

-- the bytes of one sector more
pub bytes_more : (xs : List LogSector) (i left : ℕ) (d : LogSector) (before after run all : List ℕ) → i < length xs → goes_on (get_or xs i d) ≡ true
    → run ≡ take (min (length (take (get_or xs i d).used (get_or xs i d).body)) left) (take (get_or xs i d).used (get_or xs i d).body) → after ≡ before ++ run → before ++ take left (bytes_on (drop i xs)) ≡ all
    → after ++ take (left - length run) (bytes_on (drop (i + 1) xs)) ≡ all
bytes_more xs i left d before after run all h goes cut grown e =
    let x = get_or xs i d in
    let used = take x.used x.body in
    let rest = bytes_on (drop (i + 1) xs) in
    let split : drop i xs ≡ x ∷ drop (i + 1) xs = at_drop_more (λ ys. ys) xs i d h in
    let here : bytes_on (drop i xs) ≡ used ++ rest = ap bytes_on split ∙ cond-true (goes_on x) (used ++ rest) [] goes in
    let same : run ≡ take left used = cut ∙ least left used in
    let size : left - length used ≡ left - length run = sizes left (length used) (length run) (ap length same ∙ length-take left used) in
    ap (λ bs. bs ++ take (left - length run) rest) (grown ∙ ap (λ bs. before ++ bs) same) ∙ append_assoc before (take left used) (take (left - length run) rest)
    ∙ ap (λ bs. before ++ bs) (ap (λ k. take left used ++ take k rest) (sym size) ∙ sym (take_both left used rest) ∙ ap (take left) (sym here)) ∙ e
  where
    least : (n : ℕ) (bs : List ℕ) → take (min (length bs) n) bs ≡ take n bs
    least n bs = ⊎_elim (λ l. let m : min (length bs) n ≡ length bs = omega arith in ap (λ k. take k bs) m ∙ take_all (length bs) bs (omega arith) ∙ sym (take_all n bs (omega arith)))
        (λ l. let m : min (length bs) n ≡ n = omega arith in ap (λ k. take k bs) m) (cases_lt (length bs) n)

    sizes : (n u r : ℕ) → r ≡ min n u → n - u ≡ n - r
    sizes n u r e = omega arith

-- no more bytes follow
pub bytes_end : (xs : List LogSector) (i left : ℕ) (before all : List ℕ) → length xs ≤ i → before ++ take left (bytes_on (drop i xs)) ≡ all → before ≡ all
bytes_end xs i left before all h e =
    sym (append-nil before) ∙ ap (λ bs. before ++ bs) (sym (ap (λ ys. take left (bytes_on ys)) (drop_all i xs h) ∙ take_nothing left)) ∙ e
  where
    take_nothing : (n : ℕ) → take {A = ℕ} n [] ≡ []
    take_nothing zero = refl
    take_nothing (suc n) = refl

pub bytes_full : (xs : List LogSector) (i left : ℕ) (before all : List ℕ) → left ≡ 0 → before ++ take left (bytes_on (drop i xs)) ≡ all → before ≡ all
bytes_full xs i left before all z e = sym (append-nil before) ∙ ap (λ bs. before ++ bs) (sym (ap (λ n. take n (bytes_on (drop i xs))) z)) ∙ e

pub bytes_stop : (xs : List LogSector) (i left : ℕ) (d : LogSector) (before all : List ℕ) → i < length xs → goes_on (get_or xs i d) ≡ false → before ++ take left (bytes_on (drop i xs)) ≡ all → before ≡ all
bytes_stop xs i left d before all h stops e =
    let x = get_or xs i d in
    let rest = bytes_on (drop (i + 1) xs) in
    let split : drop i xs ≡ x ∷ drop (i + 1) xs = at_drop_more (λ ys. ys) xs i d h in
    let none : bytes_on (drop i xs) ≡ [] = ap bytes_on split ∙ cond-false (goes_on x) (take x.used x.body ++ rest) [] stops in
    sym (append-nil before) ∙ ap (λ bs. before ++ bs) (sym (ap (take left) none ∙ take_nothing left)) ∙ e
  where
    take_nothing : (n : ℕ) → take {A = ℕ} n [] ≡ []
    take_nothing zero = refl
    take_nothing (suc n) = refl

-- ---- frames

-- as many frames as there are bytes are enough
frames_enough : (n m left : ℕ) (bytes : List ℕ) → left ≤ n → left ≤ m → frames_among n left bytes ≡ frames_among m left bytes
frames_enough zero m left bytes h g = let z : left ≡ 0 = omega arith in ap (λ k. frames_among zero k bytes) z ∙ sym (ap (λ k. frames_among m k bytes) z ∙ none_left m bytes)
frames_enough (suc n) zero left bytes h g = let z : left ≡ 0 = omega arith in ap (λ k. frames_among (suc n) k bytes) z ∙ sym (ap (λ k. frames_among zero k bytes) z)
frames_enough (suc n) (suc m) left bytes h g = ap (λ rs. if left == 0 then [] else rs) (next (frame_read bytes) (λ k rest l. frames_enough n m k rest (small n k h l) (small m k g l)))
  where
    small : (a k : ℕ) → left ≤ suc a → (k + 1 ≤ left) ⊎ (k ≡ 0) → k ≤ a
    small a k h (inl l) = omega arith
    small a k h (inr e) = omega arith

    next : (o : Read Frame) → ((k : ℕ) (rest : List ℕ) → (k + 1 ≤ left) ⊎ (k ≡ 0) → frames_among n k rest ≡ frames_among m k rest) → next_frames (frames_among n) left o ≡ next_frames (frames_among m) left o
    next None each = refl
    next (Some (frame, rest)) each = ap (cons_option (framed_record frame)) (each (left - (10 + length frame.1)) rest (less left (length frame.1)))
      where
        less : (l s : ℕ) → (l - (10 + s) + 1 ≤ l) ⊎ (l - (10 + s) ≡ 0)
        less zero s = inr (omega arith)
        less (suc l) s = inl (omega arith)

pub frames_more : (left : ℕ) (bytes : List ℕ) (frame : Frame) (rest : List ℕ) → 0 < left → frame_read bytes ≡ Some (frame, rest)
    → frames_among left left bytes ≡ cons_option (framed_record frame) (frames_among (left - frame_length frame) (left - frame_length frame) rest)
frames_more zero bytes frame rest h e = absurd (omega arith)
frames_more (suc n) bytes frame rest h e =
    cond-false (suc n == 0) [] (next_frames (frames_among n) (suc n) (frame_read bytes)) (ne_eqb (suc n) 0 (λ z. omega arith))
    ∙ ap (next_frames (frames_among n) (suc n)) e
    ∙ ap (cons_option (framed_record frame)) (frames_enough n (suc n - (10 + length frame.1)) (suc n - (10 + length frame.1)) rest (omega arith) (omega arith))

pub frames_end : (left : ℕ) (bytes : List ℕ) → frame_read bytes ≡ None → frames_among left left bytes ≡ []
frames_end zero bytes e = refl
frames_end (suc n) bytes e =
    cond-false (suc n == 0) [] (next_frames (frames_among n) (suc n) (frame_read bytes)) (ne_eqb (suc n) 0 (λ z. omega arith)) ∙ ap (next_frames (frames_among n) (suc n)) e

consed : (o : Option Redo) (rs : List Redo) → cons_option o rs ≡ cons_option o [] ++ rs
consed None rs = refl
consed (Some r) rs = refl

-- the record of a frame more
pub framed_more : (left next : ℕ) (bytes : List ℕ) (frame : Frame) (rest : List ℕ) (before after all : List Redo) → 0 < left → frame_read bytes ≡ Some (frame, rest) → next ≡ left - frame_length frame
    → after ≡ before ++ cons_option (framed_record frame) [] → before ++ frames_among left left bytes ≡ all → after ++ frames_among next next rest ≡ all
framed_more left next bytes frame rest before after all h e is grown same =
    ap (λ k. after ++ frames_among k k rest) is ∙ ap (λ rs. rs ++ frames_among (left - (10 + length frame.1)) (left - (10 + length frame.1)) rest) grown
    ∙ append_assoc before (cons_option (framed_record frame) []) (frames_among (left - (10 + length frame.1)) (left - (10 + length frame.1)) rest)
    ∙ ap (λ rs. before ++ rs) (sym (frames_more left bytes frame rest h e ∙ consed (framed_record frame) (frames_among (left - (10 + length frame.1)) (left - (10 + length frame.1)) rest))) ∙ same

pub framed_end : (left : ℕ) (bytes : List ℕ) (before all : List Redo) → frame_read bytes ≡ None → before ++ frames_among left left bytes ≡ all → before ≡ all
framed_end left bytes before all e same = sym (append-nil before) ∙ ap (λ rs. before ++ rs) (sym (frames_end left bytes e)) ∙ same

pub framed_none : (left : ℕ) (bytes : List ℕ) (before all : List Redo) → left ≡ 0 → before ++ frames_among left left bytes ≡ all → before ≡ all
framed_none left bytes before all z same = sym (append-nil before) ∙ ap (λ rs. before ++ rs) (sym (ap (λ k. frames_among k k bytes) z)) ∙ same
