-- Reading records among sectors: without the first sectors, with further ones behind, and which sectors are read up to an end.
use Rattle.std.proofs.Common.{◌≡◌, ℕ, zero, suc, ◌+◌, ◌-◌, ◌<◌, ◌≤◌, ⊎_elim, Bool, true, false, not, ◌&&◌, ◌==◌, if◌then◌else◌, nat_le, Option, Some, None, List, [], ◌∷◌, ◌++◌, length, take, drop, map, get_or, cond, refl, sym, ap, ◌∙◌, arith, append-nil, append_assoc, length-append, ne_eqb, eqb-true}
use Rattle.std.specs.List.{list_all, filter_map, cons_option}
use Rattle.std.specs.Option.{option_map}
use Rattle.std.proofs.lemmas.Bool.{and_left, and_right, and_parts, cases_lt, cases_eq, cond-false}
use Rattle.std.proofs.lemmas.List.{take_all, take-append-le, map-append, get_or_append_left, get_or_push}
use Rattle.std.proofs.lemmas.List.Elements.{filter_map-append}
use Rattle.tree_definitions.specs.Numbers.{below}
use Rattle.disk_definitions.specs.declared.log_sector.LogSector.{LogSector}
use Rattle.frang_base.specs.declared.change.Redo.{Redo}
use Rattle.disk_definitions.specs.Records.{record_in}
use Rattle.disk_definitions.specs.Logs.{Slots, sector_numbered, window, is_end, sectors_read, is_part, are_parts, used_bytes, record_of, record_at, goes_on, bytes_on, bytes_begun, frames_of, records_at, records_among}
use Rattle.disk_definitions.specs.Frames.{frame_most, frames_among}
use Rattle.disk_definitions.specs.LogSectors.{is_packed, packed_mark}
use Rattle.disk_definitions.proofs.EndLaws.{sector_of_number, end_is_high, end_stands}

-- no frame begins among no bytes
pub none_left : (n : ℕ) (bytes : List ℕ) → frames_among n 0 bytes ≡ []
none_left zero bytes = refl
none_left (suc n) bytes = refl

-- ---- records that begin among the first sectors

-- how many records begin among the first k sectors
abbrev pub begun : List LogSector → ℕ → ℕ
begun [] k = 0
begun (x ∷ xs) zero = 0
begun (x ∷ xs) (suc k) = length (records_at (x ∷ xs)) + begun xs k

dropped : (rs qs : List Redo) (n : ℕ) → drop (length rs + n) (rs ++ qs) ≡ drop n qs
dropped [] qs n = let e : 0 + n ≡ n = omega arith in ap (λ k. drop k qs) e
dropped (r ∷ rs) qs n = let e : suc (length rs) + n ≡ suc (length rs + n) = omega arith in ap (λ k. drop k (r ∷ (rs ++ qs))) e ∙ dropped rs qs n

-- without the first sectors the records that begin there are missing
pub records_among-drop : (k : ℕ) (xs : List LogSector) → records_among (drop k xs) ≡ drop (begun xs k) (records_among xs)
records_among-drop zero [] = refl
records_among-drop (suc k) [] = refl
records_among-drop zero (x ∷ xs) = refl
records_among-drop (suc k) (x ∷ xs) = records_among-drop k xs ∙ sym (dropped (records_at (x ∷ xs)) (records_among xs) (begun xs k))

pub plus_more : (a m n : ℕ) → m ≤ n → a + m ≤ a + n
plus_more a m n h = omega arith

pub begun_more : (xs : List LogSector) (j k : ℕ) → j ≤ k → begun xs j ≤ begun xs k
begun_more [] j k h = omega arith
begun_more (x ∷ xs) zero k h = omega arith
begun_more (x ∷ xs) (suc j) zero h = absurd (omega arith)
begun_more (x ∷ xs) (suc j) (suc k) h = plus_more (length (records_at (x ∷ xs))) (begun xs j) (begun xs k) (begun_more xs j k (omega arith))

pub begun_past : (xs : List LogSector) (k : ℕ) → length xs ≤ k → begun xs k ≡ length (records_among xs)
begun_past [] k h = refl
begun_past (x ∷ xs) zero h = absurd (omega arith)
begun_past (x ∷ xs) (suc k) h = ap (λ n. length (records_at (x ∷ xs)) + n) (begun_past xs k (omega arith)) ∙ sym (length-append (records_at (x ∷ xs)) (records_among xs))

pub begun_all : (xs : List LogSector) → begun xs (length xs) ≡ length (records_among xs)
begun_all xs = begun_past xs (length xs) (omega arith)

-- ---- further sectors behind

-- no record goes on in these sectors: the first one, if there is one, has part 0
abbrev pub starts_anew : List LogSector → Bool
starts_anew [] = true
starts_anew (x ∷ xs) = x.part == 0

-- sectors with one of part 0 behind the first are no parts of one record
not_parts : (first : LogSector) (part : ℕ) (xs : List LogSector) (y : LogSector) (ys : List LogSector) → 0 < part + length xs → y.part ≡ 0 → are_parts first part (xs ++ y ∷ ys) ≡ false
not_parts first part [] y ys h e = and_left (is_part first part y) (are_parts first (part + 1) ys) (and_right (y.op.0 == first.op.0 && y.parts == first.parts) (y.part == part) (ne_eqb y.part part (λ s. omega arith)))
not_parts first part (x ∷ xs) y ys h e = and_right (is_part first part x) (are_parts first (part + 1) (xs ++ y ∷ ys)) (not_parts first (part + 1) xs y ys (omega arith) e)

-- the first sectors, more than those before one
taken_past : (n : ℕ) (xs : List LogSector) (y : LogSector) (ys : List LogSector) → length xs < n → (zs : List LogSector) × (take n (xs ++ y ∷ ys) ≡ xs ++ y ∷ zs)
taken_past zero xs y ys h = absurd (omega arith)
taken_past (suc n) [] y ys h = (take n ys, refl)
taken_past (suc n) (x ∷ xs) y ys h = let r = taken_past n xs y ys (omega arith) in (r.0, ap (λ zs. x ∷ zs) r.1)

no_record_of : (first : LogSector) (parts : List LogSector) → (length parts == first.parts && are_parts first 0 parts) ≡ false → record_of first parts ≡ None
no_record_of first parts e = cond-false (length parts == first.parts && are_parts first 0 parts) (option_map (λ changes. record { op = first.op; changes = changes }) (record_in (used_bytes parts))) None e

-- a record that ends behind the last sector isn't whole, and can't go on in sectors that start anew
cut_record : (x : LogSector) (xs ys : List LogSector) → starts_anew ys ≡ true → length (x ∷ xs) < x.parts → record_of x (take x.parts ((x ∷ xs) ++ ys)) ≡ record_of x (take x.parts (x ∷ xs))
cut_record x xs [] anew h = ap (λ zs. record_of x (take x.parts zs)) (append-nil (x ∷ xs))
cut_record x xs (y ∷ ys) anew h =
    let taken = taken_past x.parts (x ∷ xs) y ys h in
    let short : length (take x.parts (x ∷ xs)) ≡ length (x ∷ xs) = ap length (take_all x.parts (x ∷ xs) (omega arith)) in
    ap (record_of x) taken.1
    ∙ no_record_of x ((x ∷ xs) ++ y ∷ taken.0) (and_right (length ((x ∷ xs) ++ y ∷ taken.0) == x.parts) (are_parts x 0 ((x ∷ xs) ++ y ∷ taken.0)) (not_parts x 0 (x ∷ xs) y taken.0 (omega arith) (eqb-true y.part 0 anew)))
    ∙ sym (no_record_of x (take x.parts (x ∷ xs)) (and_left (length (take x.parts (x ∷ xs)) == x.parts) (are_parts x 0 (take x.parts (x ∷ xs))) (ne_eqb (length (take x.parts (x ∷ xs))) x.parts (λ e. omega arith))))

same_record_of : (x : LogSector) (xs ys : List LogSector) → starts_anew ys ≡ true → record_of x (take x.parts ((x ∷ xs) ++ ys)) ≡ record_of x (take x.parts (x ∷ xs))
same_record_of x xs ys anew = ⊎_elim (cut_record x xs ys anew) (λ h. ap (record_of x) (take-append-le x.parts (x ∷ xs) ys h)) (cases_lt (length (x ∷ xs)) x.parts)

pub record_at-append : (x : LogSector) (xs ys : List LogSector) → starts_anew ys ≡ true → record_at ((x ∷ xs) ++ ys) ≡ record_at (x ∷ xs)
record_at-append x xs ys anew = ap (λ o. cond (x.part == 0 && nat_le 1 x.parts) o None) (same_record_of x xs ys anew)

-- no frame goes on in sectors that start anew
anew_stops : (ys : List LogSector) → starts_anew ys ≡ true → bytes_on ys ≡ []
anew_stops [] anew = refl
anew_stops (y ∷ ys) anew = cond-false (goes_on y) (take y.used y.body ++ bytes_on ys) [] (and_right (is_packed y) (not (y.part == 0)) (ap not anew))

bytes_on-append : (xs ys : List LogSector) → bytes_on ys ≡ [] → bytes_on (xs ++ ys) ≡ bytes_on xs
bytes_on-append [] ys stops = stops
bytes_on-append (x ∷ xs) ys stops = ap (λ bs. if goes_on x then take x.used x.body ++ bs else []) (bytes_on-append xs ys stops)

frames_of-append : (x : LogSector) (xs ys : List LogSector) → starts_anew ys ≡ true → frames_of x (xs ++ ys) ≡ frames_of x xs
frames_of-append x xs ys anew =
    ap (λ bs. frames_among (length (bytes_begun x)) (length (bytes_begun x)) (bytes_begun x ++ take frame_most bs)) (bytes_on-append xs ys (anew_stops ys anew))

pub records_at-append : (x : LogSector) (xs ys : List LogSector) → starts_anew ys ≡ true → records_at ((x ∷ xs) ++ ys) ≡ records_at (x ∷ xs)
records_at-append x xs ys anew =
    ap (λ rs. if is_packed x then rs else cons_option (record_at ((x ∷ xs) ++ ys)) []) (frames_of-append x xs ys anew)
    ∙ ap (λ o. if is_packed x then frames_of x xs else cons_option o []) (record_at-append x xs ys anew)

pub records_among-append : (xs ys : List LogSector) → starts_anew ys ≡ true → records_among (xs ++ ys) ≡ records_among xs ++ records_among ys
records_among-append [] ys anew = refl
records_among-append (x ∷ xs) ys anew =
    ap (λ rs. rs ++ records_among (xs ++ ys)) (records_at-append x xs ys anew) ∙ ap (λ rs. records_at (x ∷ xs) ++ rs) (records_among-append xs ys anew)
    ∙ sym (append_assoc (records_at (x ∷ xs)) (records_among xs) (records_among ys))

pub begun-append : (xs ys : List LogSector) → starts_anew ys ≡ true → begun (xs ++ ys) (length xs) ≡ length (records_among xs)
begun-append [] [] anew = refl
begun-append [] (y ∷ ys) anew = refl
begun-append (x ∷ xs) ys anew =
    ap (λ rs. length rs + begun (xs ++ ys) (length xs)) (records_at-append x xs ys anew) ∙ ap (λ n. length (records_at (x ∷ xs)) + n) (begun-append xs ys anew)
    ∙ sym (length-append (records_at (x ∷ xs)) (records_among xs))

-- behind sectors come as many as begin behind them
pub begun_behind : (xs ys : List LogSector) (j : ℕ) → starts_anew ys ≡ true → begun (xs ++ ys) (length xs + j) ≡ length (records_among xs) + begun ys j
begun_behind [] ys j anew = let e : 0 + j ≡ j = omega arith in ap (begun ys) e ∙ omega arith
begun_behind (x ∷ xs) ys j anew =
    let e : length (x ∷ xs) + j ≡ suc (length xs + j) = omega arith in
    ap (begun (x ∷ (xs ++ ys))) e
    ∙ ap (λ rs. length rs + begun (xs ++ ys) (length xs + j)) (records_at-append x xs ys anew)
    ∙ ap (λ n. length (records_at (x ∷ xs)) + n) (begun_behind xs ys j anew)
    ∙ sums (length (records_at (x ∷ xs))) (length (records_among xs)) (begun ys j) (length (records_at (x ∷ xs) ++ records_among xs)) (length-append (records_at (x ∷ xs)) (records_among xs))
  where
    sums : (a b c d : ℕ) → d ≡ a + b → a + (b + c) ≡ d + c
    sums a b c d e = omega arith

-- no record begins in a sector of no part
no_record_at : (x : LogSector) (xs : List LogSector) → x.parts ≡ 0 → record_at (x ∷ xs) ≡ None
no_record_at x xs e = cond-false (x.part == 0 && nat_le 1 x.parts) (record_of x (take x.parts (x ∷ xs))) None (and_right (x.part == 0) (nat_le 1 x.parts) (ap (nat_le 1) e))

pub no_records : (xs : List LogSector) → list_all (λ x. x.parts == 0) xs ≡ true → records_among xs ≡ []
no_records [] all = refl
no_records (x ∷ xs) all =
    let p = and_parts (x.parts == 0) (list_all (λ y. y.parts == 0) xs) all in
    let none : x.parts ≡ 0 = eqb-true x.parts 0 p.0 in
    let apart : is_packed x ≡ false = ap (λ n. n == packed_mark) none in
    ap (λ rs. rs ++ records_among xs) (cond-false (is_packed x) (frames_of x xs) (cons_option (record_at (x ∷ xs)) []) apart ∙ ap (λ o. cons_option o []) (no_record_at x xs none)) ∙ no_records xs p.1

-- ---- the sectors up to an end

module _ {X : Type 0} (f : ℕ → Option X) (g : ℕ → ℕ) where
  -- what is found at the numbers below n
  pub found : ℕ → List X
  found n = filter_map f (map g (below n))

  found_more : (n : ℕ) (x : X) → f (g n) ≡ Some x → found (suc n) ≡ found n ++ x ∷ []
  unfolding found
  found_more n x e = ap (filter_map f) (map-append g (below n) (n ∷ [])) ∙ filter_map-append f (map g (below n)) (g n ∷ []) ∙ ap (λ o. filter_map f (map g (below n)) ++ cons_option o []) e

  -- something is found at each
  abbrev pub Each : ℕ → Type 0
  Each n = (k : ℕ) → k < n → (x : X) × (f (g k) ≡ Some x)

  pub length_found : (n : ℕ) → Each n → length (found n) ≡ n
  unfolding found
  length_found zero each = refl
  length_found (suc n) each =
      let e : length (found n) ≡ n = length_found n (λ k h. each k (omega arith)) in
      let last = each n (omega arith) in
      let both = length-append (found n) (last.0 ∷ []) in
      ap length (found_more n last.0 last.1) ∙ both ∙ (omega arith)

  pub found_at : (n : ℕ) → Each n → (k : ℕ) → k < n → (d : X) → Some (get_or (found n) k d) ≡ f (g k)
  found_at zero each k h d = absurd (omega arith)
  found_at (suc n) each k h d =
      let before : Each n = λ j l. each j (omega arith) in
      let last = each n (omega arith) in
      let e = length_found n before in
      ap (λ xs. Some (get_or xs k d)) (found_more n last.0 last.1)
      ∙ ⊎_elim (λ s. ap (λ x. Some x) (get_or_push (found n) last.0 d k (e ∙ sym s)) ∙ sym last.1 ∙ ap (λ j. f (g j)) (sym s))
      (λ ne. let l : k < n = omega arith in ap (λ x. Some x) (get_or_append_left (found n) (last.0 ∷ []) d k (omega arith)) ∙ found_at n before k l d) (cases_eq k n)

sectors_are : (slots : Slots) (end : ℕ) → 191 ≤ end → sectors_read slots end ≡ found (sector_numbered slots) (λ k. end - 191 + k) 192
unfolding found window
sectors_are slots zero h = absurd (omega arith)
sectors_are slots (suc end) h = refl

each_stands : (slots : Slots) (end : ℕ) → is_end slots end ≡ true → (k : ℕ) → k < 192 → (x : LogSector) × (sector_numbered slots (end - 191 + k) ≡ Some x)
each_stands slots end e k h = let low : 191 ≤ end = end_is_high slots end e in sector_of_number slots (end - 191 + k) (end_stands slots end e (end - 191 + k) (omega arith) (omega arith))

-- up to an end 192 sectors are read
pub length-sectors_read : (slots : Slots) (end : ℕ) → is_end slots end ≡ true → length (sectors_read slots end) ≡ 192
length-sectors_read slots end e =
    ap length (sectors_are slots end (end_is_high slots end e)) ∙ length_found (sector_numbered slots) (λ k. end - 191 + k) 192 (each_stands slots end e)

-- and these are the ones of the 192 numbers
pub sector_read_at : (slots : Slots) (end : ℕ) → is_end slots end ≡ true → (k : ℕ) → k < 192 → (d : LogSector) → Some (get_or (sectors_read slots end) k d) ≡ sector_numbered slots (end - 191 + k)
sector_read_at slots end e k h d =
    ap (λ xs. Some (get_or xs k d)) (sectors_are slots end (end_is_high slots end e)) ∙ found_at (sector_numbered slots) (λ k. end - 191 + k) 192 (each_stands slots end e) k h d
