-- What packed sectors read as: the first of them read as the records that end there, and in each sector begin those that are laid there.
use Rattle.std.proofs.Common.{◌≡◌, ◌==◌, ℕ, zero, suc, ◌+◌, ◌-◌, min, max, ◌<◌, ◌≤◌, ⊎_elim, Bool, true, false, not, cond, nat_le, Some, List, [], ◌∷◌, ◌++◌, length, take, drop, map, refl, sym, ap, ◌∙◌, subst, arith, length-append, append_assoc, append-nil}
use Rattle.std.specs.List.{filter, cons_option}
use Rattle.std.specs.Option.{option_map}
use Rattle.std.proofs.Math.Seq.{take-append-add}
use Rattle.std.proofs.lemmas.Bool.{and_from, eq-eqb, ne_eqb, le-leb, lt-leb, leb-true, leb-false, cond-true, cond-false, cases_lt}
use Rattle.std.proofs.lemmas.List.{length-take, length-map, take_all, drop_all, drop_at, map-append}
use Rattle.std.proofs.Math.Nat.{le_refl}
use Rattle.disk_definitions.specs.declared.log_sector.LogSector.{LogSector}
use Rattle.disk_definitions.specs.LogSectors.{is_packed, none_begins, packed_mark}
use Rattle.frang_base.specs.declared.change.Redo.{Redo}
use Rattle.disk_definitions.specs.Records.{record_bytes}
use Rattle.disk_definitions.specs.Frames.{frame_most, frame_read, framed_record, next_frames, frames_among}
use Rattle.disk_definitions.specs.Logs.{goes_on, bytes_on, bytes_begun, frames_of, record_at, records_at, records_among}
use Rattle.disk_definitions.proofs.ReadingLaws.{begun, none_left, starts_anew}
use Rattle.log_record.proofs.RecordBack.{record_back}
use Rattle.log_record.proofs.FrameBack.{IsFramed, few_bytes, length-frame_bytes, frame_back, frame_cut}
use Rattle.ring_definitions.specs.RingRuns.{Placed}
use Rattle.ring_definitions.proofs.Packed.{used_of}
use Rattle.ring_definitions.proofs.Laid.{frame_of, frames, some_frame, IsRow, IsBegun, Runs, IsLaid}

abbrev pub redo_of : Placed → Redo
redo_of p = p.redo

-- those that end at this number or before it
abbrev pub up_to : ℕ → List Placed → List Placed
up_to n ps = filter (λ p. nat_le p.last n) ps

-- those that begin at this number or before it
abbrev pub begun_by : ℕ → List Placed → List Placed
begun_by n ps = filter (λ p. nat_le p.first n) ps

-- ---- lists

-- the longer of two fronts of a list begins with the shorter one
pub overlap : (a b c d : List ℕ) → a ++ b ≡ c ++ d → length a ≤ length c → (m : List ℕ) × ((c ≡ a ++ m) × (b ≡ m ++ d))
overlap [] b c d e h = (c, (refl, e))
overlap (x ∷ a) b [] d e h = absurd (omega arith)
overlap (x ∷ a) b (y ∷ c) d e h =
    let first : x ≡ y = cc in
    let rest : a ++ b ≡ c ++ d = cc in
    let r = overlap a b c d rest (omega arith) in
    (r.0, (ap (λ z. z ∷ c) (sym first) ∙ ap (λ zs. x ∷ zs) r.1.0, r.1.1))

nothing : (xs ys : List ℕ) → [] ≡ xs ++ ys → (xs ≡ []) × (ys ≡ [])
nothing [] ys e = (refl, sym e)
nothing (x ∷ xs) ys e = cc

filter_both : {X : Type 0} (test : X → Bool) (xs ys : List X) → filter test (xs ++ ys) ≡ filter test xs ++ filter test ys
filter_both test [] ys = refl
filter_both test (x ∷ xs) ys = at (test x) (filter_both test xs ys)
  where
    at : (b : Bool) → filter test (xs ++ ys) ≡ filter test xs ++ filter test ys → cond b (x ∷ filter test (xs ++ ys)) (filter test (xs ++ ys)) ≡ cond b (x ∷ filter test xs) (filter test xs) ++ filter test ys
    at true e = ap (λ zs. x ∷ zs) e
    at false e = e

filter_fewer : {X : Type 0} (test : X → Bool) (xs : List X) → length (filter test xs) ≤ length xs
filter_fewer test [] = omega arith
filter_fewer test (x ∷ xs) = at (test x) (filter_fewer test xs)
  where
    at : (b : Bool) → length (filter test xs) ≤ length xs → length (cond b (x ∷ filter test xs) (filter test xs)) ≤ suc (length xs)
    at true h = omega arith
    at false h = omega arith

up_to_with : (n : ℕ) (p : Placed) (ps : List Placed) → p.last ≤ n → up_to n (p ∷ ps) ≡ p ∷ up_to n ps
up_to_with n p ps h = cond-true (nat_le p.last n) (p ∷ up_to n ps) (up_to n ps) (le-leb p.last n h)

up_to_without : (n : ℕ) (p : Placed) (ps : List Placed) → n < p.last → up_to n (p ∷ ps) ≡ up_to n ps
up_to_without n p ps h = cond-false (nat_le p.last n) (p ∷ up_to n ps) (up_to n ps) (lt-leb p.last n h)

-- ---- the bytes behind a sector

goes : (from till : ℕ) (over : List ℕ) (x : LogSector) (xs : List LogSector) (ps : List Placed) (laid : IsLaid from over till (x ∷ xs) ps) → 1 ≤ length over → goes_on x ≡ true
goes from till over x xs ps laid h =
    and_from (is_packed x) (not (x.part == 0)) (eq-eqb x.parts packed_mark laid.packed) (ap not (ne_eqb x.part 0 (apart laid.here laid.part)))
  where
    apart : (here : List Placed) → IsBegun (length over) x here → x.part ≡ 0 → ⊥
    apart [] b e = let z : 0 ≡ none_begins = sym e ∙ b in omega arith
    apart (q ∷ qs) b e = let z : 0 ≡ length over = sym e ∙ b.0 in omega arith

bytes_on_more : (x : LogSector) (xs : List LogSector) → goes_on x ≡ true → bytes_on (x ∷ xs) ≡ used_of x ++ bytes_on xs
bytes_on_more x xs g = cond-true (goes_on x) (used_of x ++ bytes_on xs) [] g

-- where no record begins in a sector, all of its bytes are of the frame before
alone : (over bs past : List ℕ) (here : List Placed) → over ++ frames here ≡ bs ++ past → here ≡ [] → over ≡ bs ++ past
alone over bs past here e none = sym (append-nil over) ∙ ap (λ qs. over ++ frames qs) (sym none) ∙ e

-- all bytes of a frame are in the first sectors where it ends there
pub goes_whole : (from till t : ℕ) (over : List ℕ) (xs : List LogSector) (ps : List Placed) → IsLaid from over till xs ps → Runs from (length over) till → till ≤ from + t
    → (s : List ℕ) × (bytes_on (take t xs) ≡ over ++ s)
goes_whole from till t [] xs ps laid runs h = (bytes_on (take t xs), refl)
goes_whole from till t (b ∷ over) [] ps laid runs h = absurd (cc)
goes_whole from till zero (b ∷ over) (x ∷ xs) ps laid runs h = let l : from < till = runs.some (omega arith) in absurd (omega arith)
goes_whole from till (suc t) (b ∷ over) (x ∷ xs) ps laid runs h =
    at laid.here laid.bytes laid.row laid.part (λ g. goes_whole (from + 1) laid.end t laid.past xs laid.later laid.rest laid.runs g)
  where
    more : bytes_on (x ∷ take t xs) ≡ used_of x ++ bytes_on (take t xs)
    more = bytes_on_more x (take t xs) (goes from till (b ∷ over) x xs ps laid (omega arith))

    later : (e : ℕ) → max (from + 1) till ≡ max (from + 1) e → e ≤ from + 1 + t
    later e f = omega arith

    at : (here : List Placed) → (b ∷ over) ++ frames here ≡ used_of x ++ laid.past → IsRow (from + 1) (length laid.past) (max (from + 1) laid.end) (max (from + 1) till) here → IsBegun (length (b ∷ over)) x here
        → (laid.end ≤ from + 1 + t → (s : List ℕ) × (bytes_on (take t xs) ≡ laid.past ++ s)) → (s : List ℕ) × (bytes_on (x ∷ take t xs) ≡ (b ∷ over) ++ s)
    at [] e row part deeper =
        let rest = deeper (later laid.end row) in
        (rest.0, more ∙ ap (λ bs. used_of x ++ bs) rest.1 ∙ sym (append_assoc (used_of x) laid.past rest.0) ∙ ap (λ bs. bs ++ rest.0) (sym (alone (b ∷ over) (used_of x) laid.past [] e refl)))
    at (q ∷ qs) e row part deeper =
        let within : length (b ∷ over) ≤ length (used_of x) = fits (length (b ∷ over)) x.used (length (used_of x)) part.1 laid.used in
        let m = overlap (b ∷ over) (frames (q ∷ qs)) (used_of x) laid.past e within in
        (m.0 ++ bytes_on (take t xs), more ∙ ap (λ bs. bs ++ bytes_on (take t xs)) m.1.0 ∙ append_assoc (b ∷ over) m.0 (bytes_on (take t xs)))
      where
        fits : (o u l : ℕ) → o < u → l ≡ u → o ≤ l
        fits o u l h e = omega arith

-- and else they hold only some of them
pub goes_short : (from till t : ℕ) (over : List ℕ) (xs : List LogSector) (ps : List Placed) → IsLaid from over till xs ps → Runs from (length over) till → 1 ≤ length over → from + t < till
    → (k : ℕ) × ((k < length over) × (bytes_on (take t xs) ≡ take k over))
goes_short from till t over [] ps laid runs some h = let z : length over ≡ 0 = ap length laid.0 in absurd (omega arith)
goes_short from till zero over (x ∷ xs) ps laid runs some h = (0, (omega arith, refl))
goes_short from till (suc t) over (x ∷ xs) ps laid runs some h =
    at laid.here laid.bytes laid.row (λ f g. goes_short (from + 1) laid.end t laid.past xs laid.later laid.rest laid.runs f g)
  where
    more : bytes_on (x ∷ take t xs) ≡ used_of x ++ bytes_on (take t xs)
    more = bytes_on_more x (take t xs) (goes from till over x xs ps laid some)

    same : (e : ℕ) → max (from + 1) till ≡ max (from + 1) e → from + 1 + t < e
    same e f = omega arith

    left : (l e : ℕ) → (l ≡ 0 → e ≤ from + 1) → from + 1 + t < e → 1 ≤ l
    left zero e none h = let l : e ≤ from + 1 = none refl in absurd (omega arith)
    left (suc l) e none h = omega arith

    less : (u k p o : ℕ) → k < p → o ≡ u + p → u + k < o
    less u k p o h e = omega arith

    at : (here : List Placed) → over ++ frames here ≡ used_of x ++ laid.past → IsRow (from + 1) (length laid.past) (max (from + 1) laid.end) (max (from + 1) till) here
        → (1 ≤ length laid.past → from + 1 + t < laid.end → (k : ℕ) × ((k < length laid.past) × (bytes_on (take t xs) ≡ take k laid.past)))
        → (k : ℕ) × ((k < length over) × (bytes_on (x ∷ take t xs) ≡ take k over))
    at [] e row deeper =
        let is = alone over (used_of x) laid.past [] e refl in
        let late : from + 1 + t < laid.end = same laid.end row in
        let rest = deeper (left (length laid.past) laid.end laid.runs.none late) late in (
          length (used_of x) + rest.0,
          (
            less (length (used_of x)) rest.0 (length laid.past) (length over) rest.1.0 (ap length is ∙ length-append (used_of x) laid.past),
            more ∙ ap (λ bs. used_of x ++ bs) rest.1.1 ∙ sym (take-append-add (used_of x) laid.past rest.0) ∙ ap (take (length (used_of x) + rest.0)) (sym is),
          ),
        )
    at (q ∷ qs) e row deeper = let b : max (from + 1) till ≡ from + 1 = row.0.before in absurd (omega arith)

-- ---- the records that begin in a sector

-- a whole frame is read as its record
one_frame : (n left : ℕ) (p : Placed) (rest : List ℕ) → IsFramed p.redo → 1 ≤ left → frames_among (suc n) left (frame_of p ++ rest) ≡ p.redo ∷ frames_among n (left - length (frame_of p)) rest
one_frame n left p rest f some =
    let body = record_bytes p.redo.changes in
    let read : frame_read (frame_of p ++ rest) ≡ Some ((p.redo.op.0, body), rest) = frame_back p.redo rest f in
    let is : framed_record (p.redo.op.0, body) ≡ Some p.redo = ap (option_map (λ changes. record { op = record { 0 = p.redo.op.0 }; changes = changes })) (record_back p.redo.changes f.fits) in
    let size : 10 + length body ≡ length (frame_of p) = sym (length-frame_bytes p.redo) in
    cond-false (left == 0) [] (next_frames (frames_among n) left (frame_read (frame_of p ++ rest))) (ne_eqb left 0 (λ e. omega arith))
    ∙ ap (next_frames (frames_among n) left) read
    ∙ ap (λ o. cons_option o (frames_among n (left - (10 + length body)) rest)) is
    ∙ ap (λ k. p.redo ∷ frames_among n (left - k) rest) size

-- the first bytes of one are read as none
no_frame : (n left : ℕ) (p : Placed) (m : ℕ) → IsFramed p.redo → 1 ≤ left → m < length (frame_of p) → frames_among (suc n) left (take m (frame_of p)) ≡ []
no_frame n left p m f some short =
    cond-false (left == 0) [] (next_frames (frames_among n) left (frame_read (take m (frame_of p)))) (ne_eqb left 0 (λ e. omega arith))
    ∙ ap (next_frames (frames_among n) left) (frame_cut p.redo f m short)

-- what stands behind the bytes of a sector, where a frame that begins in it ends at number `end`: all of the frame's other bytes, if that isn't past a number
record Behind (past : List ℕ) (end number : ℕ) (bytes : List ℕ) : Type 0 where
  whole : end ≤ number → (s : List ℕ) × (bytes ≡ past ++ s)
  short : 1 ≤ length past → number < end → (k : ℕ) × ((k < length past) × (bytes ≡ take k past))

module _ (n number end : ℕ) (past behind : List ℕ) (runs : Runs n (length past) end) (on : n ≤ number) (is : Behind past end number behind) where
  -- the last record of a row ends in its sector or past the number
  last_in : (t : ℕ) (p : Placed) (qs : List Placed) (m : List ℕ) → IsRow n (length past) (max n end) t (p ∷ qs) → frames qs ≡ m ++ past → p.last ≤ number
  last_in t p [] m row e =
      let gone : length past ≡ 0 = ap length (nothing m past e).1 in
      let low : end ≤ n = runs.none gone in
      let l : p.last ≡ max n end = row.1 in
      omega arith
  last_in t p (q ∷ qs) m row e = let l : p.last ≡ n = row.1.0.before in omega arith

  -- the last frame goes on behind the sector
  module _ (t fuel : ℕ) (p : Placed) (bytes m : List ℕ) (row : IsRow n (length past) (max n end) t (p ∷ [])) (some : 1 ≤ length bytes) (cut : frame_of p ≡ bytes ++ m) (left : past ≡ m) (runs_on : 1 ≤ length past) where
    ends : p.last ≡ end
    ends = let l : n < end = runs.some runs_on in let e : p.last ≡ max n end = row.1 in omega arith

    run_whole : end ≤ number → frames_among (suc fuel) (length bytes) (bytes ++ behind) ≡ map redo_of (up_to number (p ∷ []))
    run_whole h =
        let s = is.whole h in
        let all : bytes ++ behind ≡ frame_of p ++ s.0 =
        ap (λ bs. bytes ++ bs) (s.1 ∙ ap (λ bs. bs ++ s.0) left) ∙ sym (append_assoc bytes m s.0) ∙ ap (λ bs. bs ++ s.0) (sym cut) in
        let long : length (frame_of p) ≡ length bytes + length m = ap length cut ∙ length-append bytes m in
        let none : length bytes - length (frame_of p) ≡ 0 = omega arith in
        ap (frames_among (suc fuel) (length bytes)) all ∙ one_frame fuel (length bytes) p s.0 row.0.framed some
        ∙ ap (λ k. p.redo ∷ frames_among fuel k s.0) none ∙ ap (λ rs. p.redo ∷ rs) (none_left fuel s.0)
        ∙ ap (map redo_of) (sym (up_to_with number p [] (subst (λ k. k ≤ number) (sym ends) h)))

    run_short : number < end → frames_among (suc fuel) (length bytes) (bytes ++ behind) ≡ map redo_of (up_to number (p ∷ []))
    run_short h =
        let s = is.short runs_on h in
        let some_of : bytes ++ behind ≡ take (length bytes + s.0) (frame_of p) =
        ap (λ bs. bytes ++ bs) (s.1.1 ∙ ap (take s.0) left) ∙ sym (take-append-add bytes m s.0) ∙ ap (take (length bytes + s.0)) (sym cut) in
        let long : length (frame_of p) ≡ length bytes + length m = ap length cut ∙ length-append bytes m in
        let same : length past ≡ length m = ap length left in
        let less : s.0 < length past = s.1.0 in
        ap (frames_among (suc fuel) (length bytes)) some_of ∙ no_frame fuel (length bytes) p (length bytes + s.0) row.0.framed some (omega arith)
        ∙ ap (map redo_of) (sym (up_to_without number p [] (subst (λ k. number < k) (sym ends) h)))

    run : frames_among (suc fuel) (length bytes) (bytes ++ behind) ≡ map redo_of (up_to number (p ∷ []))
    run = ⊎_elim run_short run_whole (cases_lt number end)

  read_row : (fuel t : ℕ) (bytes : List ℕ) (ps : List Placed) → length bytes ≤ fuel → frames ps ≡ bytes ++ past → IsRow n (length past) (max n end) t ps
      → frames_among fuel (length bytes) (bytes ++ behind) ≡ map redo_of (up_to number ps)
  read_row fuel t bytes [] h e row =
      let none : bytes ≡ [] = (nothing bytes past e).0 in
      ap (λ bs. frames_among fuel (length bs) (bs ++ behind)) none ∙ none_left fuel behind
  read_row zero t bytes (p ∷ qs) h e row =
      let a : length (frames (p ∷ qs)) ≡ length bytes + length past = ap length e ∙ length-append bytes past in
      let b : length past < length (frames (p ∷ qs)) = row.0.within in
      absurd (omega arith)
  read_row (suc fuel) t bytes (p ∷ qs) h e row = ⊎_elim over (within (λ m g f. read_row fuel p.last m qs g f row.1)) (cases_lt (length bytes) (length (frame_of p)))
    where
      a : length (frames (p ∷ qs)) ≡ length bytes + length past
      a = ap length e ∙ length-append bytes past

      some : 1 ≤ length bytes
      some = let b : length past < length (frames (p ∷ qs)) = row.0.within in let c = a in omega arith

      within : ((m : List ℕ) → length m ≤ fuel → frames qs ≡ m ++ past → frames_among fuel (length m) (m ++ behind) ≡ map redo_of (up_to number qs)) → length (frame_of p) ≤ length bytes
          → frames_among (suc fuel) (length bytes) (bytes ++ behind) ≡ map redo_of (up_to number (p ∷ qs))
      within others l =
          let m = overlap (frame_of p) (frames qs) bytes past e l in
          let long : length bytes ≡ length (frame_of p) + length m.0 = ap length m.1.0 ∙ length-append (frame_of p) m.0 in
          let one : 1 ≤ length (frame_of p) = some_frame p in
          let left : length bytes - length (frame_of p) ≡ length m.0 = omega arith in
          ap (frames_among (suc fuel) (length bytes)) (ap (λ bs. bs ++ behind) m.1.0 ∙ append_assoc (frame_of p) m.0 behind)
          ∙ one_frame fuel (length bytes) p (m.0 ++ behind) row.0.framed some
          ∙ ap (λ k. p.redo ∷ frames_among fuel k (m.0 ++ behind)) left
          ∙ ap (λ rs. p.redo ∷ rs) (others m.0 (omega arith) m.1.1)
          ∙ ap (map redo_of) (sym (up_to_with number p qs (last_in t p qs m.0 row m.1.1)))

      over : length bytes < length (frame_of p) → frames_among (suc fuel) (length bytes) (bytes ++ behind) ≡ map redo_of (up_to number (p ∷ qs))
      over l = at qs row (overlap bytes past (frame_of p) (frames qs) (sym e) (omega arith))
        where
          at : (qs : List Placed) → IsRow n (length past) (max n end) t (p ∷ qs) → (m : List ℕ) × ((frame_of p ≡ bytes ++ m) × (past ≡ m ++ frames qs))
              → frames_among (suc fuel) (length bytes) (bytes ++ behind) ≡ map redo_of (up_to number (p ∷ qs))
          at [] row m =
              let long : length (frame_of p) ≡ length bytes + length m.0 = ap length m.1.0 ∙ length-append bytes m.0 in
              let all : past ≡ m.0 = m.1.1 ∙ append-nil m.0 in
              let same : length past ≡ length m.0 = ap length all in
              run t fuel p bytes m.0 row some m.1.0 all (omega arith)
          at (q ∷ qs) row m =
              let long : length past ≡ length m.0 + length (frames (q ∷ qs)) = ap length m.1.1 ∙ length-append m.0 (frames (q ∷ qs)) in
              let less : length past < length (frames (q ∷ qs)) = row.1.0.within in
              absurd (omega arith)

-- no frame has more bytes behind its sector than a frame has
few_past : (n past e t : ℕ) (p : Placed) (ps : List Placed) → IsRow n past e t (p ∷ ps) → past ≤ frame_most
few_past n past e t p [] row =
    let a : past < length (frames (p ∷ [])) = row.0.within in
    let b : length (frames (p ∷ [])) ≡ length (frame_of p) = ap length (append-nil (frame_of p)) in
    let c : length (frame_of p) ≡ 10 + length (record_bytes p.redo.changes) = length-frame_bytes p.redo in
    let d : length (record_bytes p.redo.changes) ≤ 4096 = few_bytes p.redo row.0.framed in
    omega arith
few_past n past e t p (q ∷ ps) row = few_past n past e p.last q ps row.1

module _ (from till t : ℕ) (over : List ℕ) (x : LogSector) (xs : List LogSector) (ps : List Placed) (laid : IsLaid from over till (x ∷ xs) ps) where
  -- what follows the sector's bytes
  behind : List ℕ
  behind = take frame_most (bytes_on (take t xs))

  is_behind : length laid.past ≤ frame_most → Behind laid.past laid.end (from + 1 + t) behind
  unfolding behind
  is_behind few = record {
    whole = λ h. whole (goes_whole (from + 1) laid.end t laid.past xs laid.later laid.rest laid.runs h);
    short = λ some h. short (goes_short (from + 1) laid.end t laid.past xs laid.later laid.rest laid.runs some h);
  }
    where
      split : (l : ℕ) → l ≤ frame_most → frame_most ≡ l + (frame_most - l)
      split l h = omega arith

      whole : ((s : List ℕ) × (bytes_on (take t xs) ≡ laid.past ++ s)) → (s : List ℕ) × (take frame_most (bytes_on (take t xs)) ≡ laid.past ++ s)
      whole s = (
        take (frame_most - length laid.past) s.0,
        ap (take frame_most) s.1 ∙ ap (λ k. take k (laid.past ++ s.0)) (split (length laid.past) few) ∙ take-append-add laid.past s.0 (frame_most - length laid.past),
      )

      fits : (l k a : ℕ) → l ≤ frame_most → k < l → a ≡ min k l → a ≤ frame_most
      fits l k a h g e = omega arith

      short : ((k : ℕ) × ((k < length laid.past) × (bytes_on (take t xs) ≡ take k laid.past))) → (k : ℕ) × ((k < length laid.past) × (take frame_most (bytes_on (take t xs)) ≡ take k laid.past))
      short k =
          (k.0, (k.1.0, ap (take frame_most) k.1.1 ∙ take_all frame_most (take k.0 laid.past) (fits (length laid.past) k.0 (length (take k.0 laid.past)) few k.1.0 (length-take k.0 laid.past))))

  read_frames : (here : List Placed) → over ++ frames here ≡ used_of x ++ laid.past → IsRow (from + 1) (length laid.past) (max (from + 1) laid.end) (max (from + 1) till) here → IsBegun (length over) x here
      → frames_of x (take t xs) ≡ map redo_of (up_to (from + 1 + t) here)
  unfolding behind
  read_frames [] e row part =
      let far : length (used_of x) ≤ x.part = at x.part (length (used_of x)) x.used part laid.used laid.few in
      let none : bytes_begun x ≡ [] = drop_all x.part (used_of x) far in
      ap (λ bs. frames_among (length bs) (length bs) (bs ++ take frame_most (bytes_on (take t xs)))) none
    where
      at : (p l u : ℕ) → p ≡ none_begins → l ≡ u → u ≤ 488 → l ≤ p
      at p l u e f h = omega arith
  read_frames (q ∷ qs) e row part =
      let m = overlap over (frames (q ∷ qs)) (used_of x) laid.past e (fits (length over) x.used (length (used_of x)) part.1 laid.used) in
      let begun_here : bytes_begun x ≡ m.0 = ap (λ k. drop k (used_of x)) part.0 ∙ ap (drop (length over)) m.1.0 ∙ drop_at over m.0 (length over) refl in
      ap (λ bs. frames_among (length bs) (length bs) (bs ++ take frame_most (bytes_on (take t xs)))) begun_here
      ∙ read_row (from + 1) (from + 1 + t) laid.end laid.past (take frame_most (bytes_on (take t xs))) laid.runs (near t) (small (few_past (from + 1) (length laid.past) (max (from + 1) laid.end) (max (from + 1) till) q qs row))
      (length m.0) (max (from + 1) till) m.0 (q ∷ qs) (le_refl (length m.0)) m.1.1 row
    where
      fits : (o u l : ℕ) → o < u → l ≡ u → o ≤ l
      fits o u l h e = omega arith

      near : (t : ℕ) → from + 1 ≤ from + 1 + t
      near t = omega arith

      small : length laid.past ≤ frame_most → Behind laid.past laid.end (from + 1 + t) (take frame_most (bytes_on (take t xs)))
      small few = is_behind few

  pub read_sector : records_at (x ∷ take t xs) ≡ map redo_of (up_to (from + 1 + t) laid.here)
  read_sector =
      cond-true (is_packed x) (frames_of x (take t xs)) (cons_option (record_at (x ∷ take t xs)) []) (eq-eqb x.parts packed_mark laid.packed)
      ∙ read_frames laid.here laid.bytes laid.row laid.part

  few_in_sector : length (records_at (x ∷ take t xs)) ≤ length laid.here
  few_in_sector =
      subst (λ rs. length rs ≤ length laid.here) (sym read_sector)
      (at (length (map redo_of (up_to (from + 1 + t) laid.here))) (length (up_to (from + 1 + t) laid.here)) (length laid.here) (length-map (up_to (from + 1 + t) laid.here) redo_of)
      (filter_fewer (λ p. nat_le p.last (from + 1 + t)) laid.here))
    where
      at : (a b c : ℕ) → a ≡ b → b ≤ c → a ≤ c
      at a b c e h = omega arith

-- ---- the numbers at which records end don't fall

abbrev pub Rising : ℕ → List Placed → Type 0
Rising t [] = Unit {0}
Rising t (p ∷ ps) = (t ≤ p.last) × Rising p.last ps

rising_less : (t u : ℕ) (ps : List Placed) → t ≤ u → Rising u ps → Rising t ps
rising_less t u [] h r = tt
rising_less t u (p ∷ ps) h r = (at p.last r.0, r.1)
  where
    at : (l : ℕ) → u ≤ l → t ≤ l
    at l g = omega arith

row_rising : (n past e t u : ℕ) (here later : List Placed) → IsRow n past e t here → e ≤ u → Rising u later → Rising t (here ++ later)
row_rising n past e t u [] later row h r = rising_less t u later (at t e row h) r
  where
    at : (a b : ℕ) → a ≡ b → b ≤ u → a ≤ u
    at a b f g = omega arith
row_rising n past e t u (p ∷ ps) later row h r = (at t p.last row.0.before row.0.last, row_rising n past e p.last u ps later row.1 h r)
  where
    at : (a l : ℕ) → a ≡ n → n ≤ l → a ≤ l
    at a l f g = omega arith

pub laid_rising : (from till : ℕ) (over : List ℕ) (xs : List LogSector) (ps : List Placed) → IsLaid from over till xs ps → Rising (max (from + 1) till) ps
laid_rising from till over [] ps laid = subst (Rising (max (from + 1) till)) (sym laid.1) tt
laid_rising from till over (x ∷ xs) ps laid =
    subst (Rising (max (from + 1) till)) (sym laid.split)
    (row_rising (from + 1) (length laid.past) (max (from + 1) laid.end) (max (from + 1) till) (max (from + 1 + 1) laid.end) laid.here laid.later laid.row (at laid.end) (laid_rising (from + 1) laid.end laid.past xs laid.later laid.rest))
  where
    at : (e : ℕ) → max (from + 1) e ≤ max (from + 1 + 1) e
    at e = omega arith

none_up_to : (n t : ℕ) (ps : List Placed) → Rising t ps → n < t → up_to n ps ≡ []
none_up_to n t [] r h = refl
none_up_to n t (p ∷ ps) r h = let l : n < p.last = at p.last r.0 in up_to_without n p ps l ∙ none_up_to n p.last ps r.1 l
  where
    at : (l : ℕ) → t ≤ l → n < l
    at l g = omega arith

-- those that end up to a number are the first ones
pub up_to_first : (n t : ℕ) (ps : List Placed) → Rising t ps → up_to n ps ≡ take (length (up_to n ps)) ps
up_to_first n t [] r = refl
up_to_first n t (p ∷ ps) r = ⊎_elim none (some (up_to_first n p.last ps r.1)) (cases_lt n p.last)
  where
    none : n < p.last → up_to n (p ∷ ps) ≡ take (length (up_to n (p ∷ ps))) (p ∷ ps)
    none h = let e = up_to_without n p ps h ∙ none_up_to n p.last ps r.1 h in e ∙ ap (λ qs. take (length qs) (p ∷ ps)) (sym e)

    some : up_to n ps ≡ take (length (up_to n ps)) ps → p.last ≤ n → up_to n (p ∷ ps) ≡ take (length (up_to n (p ∷ ps))) (p ∷ ps)
    some rest h = let e = up_to_with n p ps h in e ∙ ap (λ qs. p ∷ qs) rest ∙ ap (λ qs. take (length qs) (p ∷ ps)) (sym e)

pub up_to_grows : (m n : ℕ) (ps : List Placed) → m ≤ n → length (up_to m ps) ≤ length (up_to n ps)
up_to_grows m n [] h = omega arith
up_to_grows m n (p ∷ ps) h = at (nat_le p.last m) (nat_le p.last n) refl refl (up_to_grows m n ps h)
  where
    at : (a b : Bool) → nat_le p.last m ≡ a → nat_le p.last n ≡ b → length (up_to m ps) ≤ length (up_to n ps) → length (cond a (p ∷ up_to m ps) (up_to m ps)) ≤ length (cond b (p ∷ up_to n ps) (up_to n ps))
    at true true e f g = omega arith
    at true false e f g = absurd (let x = leb-true p.last m e in let y = leb-false p.last n f in omega arith)
    at false true e f g = omega arith
    at false false e f g = g

-- ---- all records

pub laid_start : (from till t : ℕ) (xs : List LogSector) (ps : List Placed) → IsLaid from [] till xs ps → starts_anew (take t xs) ≡ true
laid_start from till zero xs ps laid = refl
laid_start from till (suc t) [] ps laid = refl
laid_start from till (suc t) (x ∷ xs) ps laid = at laid.here laid.bytes laid.part
  where
    at : (here : List Placed) → frames here ≡ used_of x ++ laid.past → IsBegun 0 x here → (x.part == 0) ≡ true
    at [] e part =
        let none : length (used_of x) ≡ 0 = ap length (nothing (used_of x) laid.past e).0 in
        absurd (let u : length (used_of x) ≡ x.used = laid.used in let s : 1 ≤ x.used = laid.some in omega arith)
    at (q ∷ qs) e part = eq-eqb x.part 0 part.0

pub read_laid : (from till t : ℕ) (over : List ℕ) (xs : List LogSector) (ps : List Placed) → IsLaid from over till xs ps → records_among (take t xs) ≡ map redo_of (up_to (from + t) ps)
read_laid from till zero over xs ps laid = ap (map redo_of) (sym (none_up_to (from + 0) (max (from + 1) till) ps (laid_rising from till over xs ps laid) (omega arith)))
read_laid from till (suc t) over [] ps laid = ap (λ qs. map redo_of (up_to (from + suc t) qs)) (sym laid.1)
read_laid from till (suc t) over (x ∷ xs) ps laid =
    let same : from + 1 + t ≡ from + suc t = omega arith in
    ap (λ rs. rs ++ records_among (take t xs)) (read_sector from till t over x xs ps laid)
    ∙ ap (λ rs. map redo_of (up_to (from + 1 + t) laid.here) ++ rs) (read_laid (from + 1) laid.end t laid.past xs laid.later laid.rest)
    ∙ sym (map-append redo_of (up_to (from + 1 + t) laid.here) (up_to (from + 1 + t) laid.later))
    ∙ ap (map redo_of) (sym (filter_both (λ p. nat_le p.last (from + 1 + t)) laid.here laid.later))
    ∙ ap (λ qs. map redo_of (up_to (from + 1 + t) qs)) (sym laid.split)
    ∙ ap (λ k. map redo_of (up_to k ps)) same

row_begun : (n past e t number : ℕ) (here : List Placed) → IsRow n past e t here → n ≤ number → begun_by number here ≡ here
row_begun n past e t number [] row h = refl
row_begun n past e t number (p ∷ ps) row h =
    cond-true (nat_le p.first number) (p ∷ begun_by number ps) (begun_by number ps) (le-leb p.first number (at p.first row.0.first)) ∙ ap (λ qs. p ∷ qs) (row_begun n past e p.last number ps row.1 h)
  where
    at : (f : ℕ) → f ≡ n → f ≤ number
    at f e = omega arith

-- among the first sectors no more begin than are laid there
pub begun_laid : (from till t m number : ℕ) (over : List ℕ) (xs : List LogSector) (ps : List Placed) → IsLaid from over till xs ps → from + m ≤ number → begun (take t xs) m ≤ length (begun_by number ps)
begun_laid from till zero m number over xs ps laid h = omega arith
begun_laid from till (suc t) m number over [] ps laid h = omega arith
begun_laid from till (suc t) zero number over (x ∷ xs) ps laid h = omega arith
begun_laid from till (suc t) (suc m) number over (x ∷ xs) ps laid h =
    at (length (records_at (x ∷ take t xs))) (begun (take t xs) m) (length laid.here) (length (begun_by number laid.later)) (length (begun_by number ps))
    (few_in_sector from till t over x xs ps laid) (begun_laid (from + 1) laid.end t m number laid.past xs laid.later laid.rest (omega arith))
    (ap (λ qs. length (begun_by number qs)) laid.split ∙ ap length (filter_both (λ p. nat_le p.first number) laid.here laid.later) ∙ length-append (begun_by number laid.here) (begun_by number laid.later)
    ∙ ap (λ qs. length qs + length (begun_by number laid.later)) (row_begun (from + 1) (length laid.past) (max (from + 1) laid.end) (max (from + 1) till) number laid.here laid.row (omega arith)))
  where
    at : (a b c d e : ℕ) → a ≤ c → b ≤ d → e ≡ c + d → a + b ≤ e
    at a b c d e f g h = omega arith
