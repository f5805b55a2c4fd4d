-- Records that are laid over packed sectors, frame behind frame: which begin in each sector, and what runs on into the next.
use Rattle.std.proofs.Common.{◌≡◌, ◌==◌, ℕ, zero, suc, ◌+◌, ◌-◌, ◌/◌, min, max, ◌<◌, ◌≤◌, if◌then◌else◌, List, [], ◌∷◌, ◌++◌, length, take, drop, refl, sym, ap, ◌∙◌, subst, arith, length-append, append_assoc, append-nil, take-append-drop}
use Rattle.std.specs.List.{flat_map}
use Rattle.std.proofs.lemmas.Bool.{eqb-true, eqb-false, eq-eqb, ne_eqb, cond-true, cond-false}
use Rattle.std.proofs.lemmas.List.{length-drop}
use Rattle.frang_base.proofs.Basics.{by_test}
use Rattle.disk_definitions.specs.declared.log_sector.LogSector.{LogSector}
use Rattle.disk_definitions.specs.LogSectors.{none_begins, packed_mark}
use Rattle.disk_definitions.specs.Records.{record_bytes}
use Rattle.disk_definitions.specs.Frames.{frame_bytes}
use Rattle.log_record.proofs.FrameBack.{IsFramed, length-frame_bytes}
use Rattle.ring_definitions.specs.Rings.{cut, sectors_for, packed_sectors, open_room, filled, put_on, framed}
use Rattle.ring_definitions.specs.RingRuns.{Placed}
use Rattle.ring_definitions.proofs.Along.{Along}
use Rattle.ring_definitions.proofs.Packed.{IsPacked, used_of, used_packed, used_filled, taken_some, taken_fits, first_size, rest_size, rest_count, some_left}

abbrev pub frame_of : Placed → List ℕ
frame_of p = frame_bytes p.redo

abbrev pub frames : List Placed → List ℕ
frames ps = flat_map frame_of ps

pub frames-append : (ps qs : List Placed) → frames (ps ++ qs) ≡ frames ps ++ frames qs
frames-append [] qs = refl
frames-append (p ∷ ps) qs = ap (λ bs. frame_of p ++ bs) (frames-append ps qs) ∙ sym (append_assoc (frame_of p) (frames ps) (frames qs))

pub some_frame : (p : Placed) → 1 ≤ length (frame_of p)
some_frame p = at (length (frame_bytes p.redo)) (length (record_bytes p.redo.changes)) (length-frame_bytes p.redo)
  where
    at : (a b : ℕ) → a ≡ 10 + b → 1 ≤ a
    at a b e = omega arith

-- a record begins in the sector of number n, where the frame before it ends at number t; all but so many bytes of it and those behind it are in that sector
pub record BeginsIn (n past t : ℕ) (p : Placed) (ps : List Placed) : Type 0 where
  pub before : t ≡ n
  pub first : p.first ≡ n
  pub last : n ≤ p.last
  pub within : past < length (frames (p ∷ ps))
  pub framed : IsFramed p.redo

-- the records that begin in a sector; the last of them ends at number e
abbrev pub IsRow : ℕ → ℕ → ℕ → ℕ → List Placed → Type 0
IsRow n past e t [] = t ≡ e
IsRow n past e t (p ∷ ps) = BeginsIn n past t p ps × IsRow n past e p.last ps

-- the part of a sector by the bytes before the first record that begins in it
abbrev pub IsBegun : ℕ → LogSector → List Placed → Type 0
IsBegun over x [] = x.part ≡ none_begins
IsBegun over x (p ∷ ps) = (x.part ≡ over) × (over < x.used)

-- a frame of which so many bytes are behind the sector of number n ends at number `end`
pub record Runs (n past end : ℕ) : Type 0 where
  pub none : past ≡ 0 → end ≤ n
  pub some : 1 ≤ past → n < end

-- a sector with the records that begin in it, those that begin later, and the bytes of the last one that are behind it
pub record IsFirst (Rest : List ℕ → ℕ → List Placed → Type 0) (n : ℕ) (over : List ℕ) (till : ℕ) (x : LogSector) (ps : List Placed) : Type 0 where
  pub here : List Placed
  pub later : List Placed
  pub past : List ℕ
  pub end : ℕ
  pub split : ps ≡ here ++ later
  pub bytes : over ++ frames here ≡ used_of x ++ past
  pub packed : x.parts ≡ packed_mark
  pub used : length (used_of x) ≡ x.used
  pub some : 1 ≤ x.used
  pub few : x.used ≤ 488
  pub part : IsBegun (length over) x here
  pub row : IsRow n (length past) (max n end) (max n till) here
  pub runs : Runs n (length past) end
  pub rest : Rest past end later

-- the sectors behind a number, over which these bytes of a frame that ends at `till` go on, and then these records follow
abbrev pub IsLaid : ℕ → List ℕ → ℕ → List LogSector → List Placed → Type 0
IsLaid from over till [] ps = (over ≡ []) × (ps ≡ [])
IsLaid from over till (x ∷ xs) ps = IsFirst (λ past end later. IsLaid (from + 1) past end xs later) (from + 1) over till x ps

no_bytes : (bs : List ℕ) → length bs ≡ 0 → bs ≡ []
no_bytes [] e = refl
no_bytes (b ∷ bs) e = absurd (omega arith)

-- ---- the sectors that are cut from bytes

-- the rest of a frame
pub laid_on : (m from till : ℕ) (bytes : List ℕ) → m ≡ sectors_for (length bytes) → till ≡ from + m → IsLaid from bytes till (cut m (from + 1) none_begins bytes) []
laid_on zero from till bytes e t = (no_bytes bytes (none (length bytes) e), refl)
  where
    none : (l : ℕ) → 0 ≡ (l + 487) / 488 → l ≡ 0
    none l e = omega arith
laid_on (suc m) from till bytes e t = record {
  here = [];
  later = [];
  past = drop 488 bytes;
  end = till;
  split = refl;
  bytes = append-nil bytes ∙ sym (take-append-drop 488 bytes) ∙ ap (λ bs. bs ++ drop 488 bytes) (sym (used_packed (from + 1) none_begins (take 488 bytes)));
  packed = refl;
  used = ap length (used_packed (from + 1) none_begins (take 488 bytes));
  some = some (length (take 488 bytes)) (length bytes) (first_size bytes) (some_left m bytes e);
  few = few (length (take 488 bytes)) (length bytes) (first_size bytes);
  part = refl;
  row = refl;
  runs = record {
    none = λ z. none (length bytes) (length (drop 488 bytes)) (rest_size bytes) e z;
    some = λ z. later (length bytes) (length (drop 488 bytes)) (rest_size bytes) e z;
  };
  rest = laid_on m (from + 1) till (drop 488 bytes) (rest_count m bytes e) (next t);
}
  where
    some : (a l : ℕ) → a ≡ min 488 l → 1 ≤ l → 1 ≤ a
    some a l e h = omega arith

    few : (a l : ℕ) → a ≡ min 488 l → a ≤ 488
    few a l e = omega arith

    none : (l r : ℕ) → r ≡ l - 488 → suc m ≡ (l + 487) / 488 → r ≡ 0 → till ≤ from + 1
    none l r f e z = omega arith

    later : (l r : ℕ) → r ≡ l - 488 → suc m ≡ (l + 487) / 488 → 1 ≤ r → from + 1 < till
    later l r f e z = omega arith

    next : till ≡ from + suc m → till ≡ from + 1 + m
    next e = omega arith

-- a record that begins in a sector of its own
new_cut : (m from till : ℕ) (p : Placed) → m ≡ sectors_for (length (frame_of p)) → till ≤ from + 1 → p.first ≡ from + 1 → p.last ≡ from + m → IsFramed p.redo
    → IsLaid from [] till (cut m (from + 1) 0 (frame_of p)) (p ∷ [])
new_cut zero from till p e low first last f = absurd (none (length (frame_of p)) e (some_frame p))
  where
    none : (l : ℕ) → 0 ≡ (l + 487) / 488 → 1 ≤ l → ⊥
    none l e h = omega arith
new_cut (suc m) from till p e low first last f = record {
  here = p ∷ [];
  later = [];
  past = drop 488 frame;
  end = p.last;
  split = refl;
  bytes = append-nil frame ∙ sym (take-append-drop 488 frame) ∙ ap (λ bs. bs ++ drop 488 frame) (sym (used_packed (from + 1) 0 (take 488 frame)));
  packed = refl;
  used = ap length (used_packed (from + 1) 0 (take 488 frame));
  some = some (length (take 488 frame)) (length frame) (first_size frame) (some_frame p);
  few = few (length (take 488 frame)) (length frame) (first_size frame);
  part = (refl, some (length (take 488 frame)) (length frame) (first_size frame) (some_frame p));
  row = (
    record {
      before = same till low;
      first = first;
      last = above p.last last;
      within = within (length frame) (length (drop 488 frame)) (length (frame ++ [])) (rest_size frame) (ap length (append-nil frame)) (some_frame p);
      framed = f;
    },
    high p.last last,
  );
  runs = record {
    none = λ z. none (length frame) (length (drop 488 frame)) p.last (rest_size frame) e last z;
    some = λ z. later (length frame) (length (drop 488 frame)) p.last (rest_size frame) e last z;
  };
  rest = laid_on m (from + 1) p.last (drop 488 frame) (rest_count m frame e) (next p.last last);
}
  where
    frame : List ℕ
    frame = frame_of p

    some : (a l : ℕ) → a ≡ min 488 l → 1 ≤ l → 1 ≤ a
    some a l e h = omega arith

    few : (a l : ℕ) → a ≡ min 488 l → a ≤ 488
    few a l e = omega arith

    same : (t : ℕ) → t ≤ from + 1 → max (from + 1) t ≡ from + 1
    same t h = omega arith

    above : (l : ℕ) → l ≡ from + suc m → from + 1 ≤ l
    above l e = omega arith

    high : (l : ℕ) → l ≡ from + suc m → l ≡ max (from + 1) l
    high l e = omega arith

    within : (l r s : ℕ) → r ≡ l - 488 → s ≡ l → 1 ≤ l → r < s
    within l r s e f h = omega arith

    none : (l r q : ℕ) → r ≡ l - 488 → suc m ≡ (l + 487) / 488 → q ≡ from + suc m → r ≡ 0 → q ≤ from + 1
    none l r q f e g z = omega arith

    later : (l r q : ℕ) → r ≡ l - 488 → suc m ≡ (l + 487) / 488 → q ≡ from + suc m → 1 ≤ r → from + 1 < q
    later l r q f e g z = omega arith

    next : (q : ℕ) → q ≡ from + suc m → q ≡ from + 1 + m
    next q e = omega arith

-- ---- a record more

-- a record that is appended behind sectors up to this number, of which the last has so much room
pub record IsNew (number room : ℕ) (p : Placed) : Type 0 where
  pub first : p.first ≡ (if room == 0 then number + 1 else number)
  pub last : p.last ≡ number + sectors_for (length (frame_of p) - room)
  pub framed : IsFramed p.redo

-- behind no sector that waits
new_laid : (from till : ℕ) (over : List ℕ) (ps : List Placed) (p : Placed) → over ≡ [] → ps ≡ [] → Runs from (length over) till → IsNew from 0 p
    → IsLaid from over till (packed_sectors (from + 1) 0 (frame_of p)) (ps ++ p ∷ [])
new_laid from till over ps p e f runs new =
    subst (λ bs. IsLaid from bs till (packed_sectors (from + 1) 0 (frame_of p)) (ps ++ p ∷ [])) (sym e)
    (subst (λ qs. IsLaid from [] till (packed_sectors (from + 1) 0 (frame_of p)) (qs ++ p ∷ [])) (sym f)
    (new_cut (sectors_for (length (frame_of p))) from till p refl (up till (runs.none (ap length e))) new.first (whole p.last (length (frame_of p)) new.last) new.framed))
  where
    up : (t : ℕ) → t ≤ from → t ≤ from + 1
    up t h = omega arith

    whole : (q l : ℕ) → q ≡ from + (l - 0 + 487) / 488 → q ≡ from + (l + 487) / 488
    whole q l e = omega arith

-- on the last sector, which has room
row_more : (n past more end e t : ℕ) (ps : List Placed) (p : Placed) → IsRow n past end t ps → end ≡ n → p.first ≡ n → n ≤ p.last → p.last ≡ e → more < length (frame_of p) → IsFramed p.redo
    → IsRow n more e t (ps ++ p ∷ [])
row_more n past more end e t [] p row at first last ends less f =
    (record { before = row ∙ at; first = first; last = last; within = within (length (frame_of p)) (length (frame_of p ++ [])) (ap length (append-nil (frame_of p))) less; framed = f }, ends)
  where
    within : (l s : ℕ) → s ≡ l → more < l → more < s
    within l s e h = omega arith
row_more n past more end e t (q ∷ ps) p row at first last ends less f = (
  record {
    before = row.0.before;
    first = row.0.first;
    last = row.0.last;
    within = within (length (frames (q ∷ ps))) (length (frame_of p)) (length (frame_of p ++ [])) (length (frames ((q ∷ ps) ++ p ∷ []))) (ap length (append-nil (frame_of p)))
        (ap length (frames-append (q ∷ ps) (p ∷ [])) ∙ length-append (frames (q ∷ ps)) (frame_of p ++ [])) less;
    framed = row.0.framed;
  },
  row_more n past more end e q.last ps p row.1 at first last ends less f,
)
  where
    within : (a l s b : ℕ) → s ≡ l → b ≡ a + s → more < l → more < b
    within a l s b e f h = omega arith

begun_more : (over : ℕ) (x : LogSector) (bytes : List ℕ) (ps : List Placed) (p : Placed) → x.used ≤ 488 → 1 ≤ length bytes → (ps ≡ [] → over ≡ x.used) → IsBegun over x ps → IsBegun over (filled x bytes) (ps ++ p ∷ [])
begun_more over x bytes [] p few some all b =
    (cond-true (x.part == none_begins) x.used x.part (eq-eqb x.part none_begins b) ∙ sym (all refl), less over x.used (length bytes) (all refl) some)
  where
    less : (o u l : ℕ) → o ≡ u → 1 ≤ l → o < u + l
    less o u l e h = omega arith
begun_more over x bytes (q ∷ ps) p few some all b =
    (cond-false (x.part == none_begins) x.used x.part (ne_eqb x.part none_begins (λ e. apart x.part over x.used b.0 b.1 few e)) ∙ b.0, less over x.used (length bytes) b.1)
  where
    apart : (r o u : ℕ) → r ≡ o → o < u → u ≤ 488 → r ≡ none_begins → ⊥
    apart r o u e h f g = omega arith

    less : (o u l : ℕ) → o < u → o < u + l
    less o u l h = omega arith

-- a sector in front, with the records that begin in it
in_front : (from till : ℕ) (over : List ℕ) (x : LogSector) (xs ys : List LogSector) (ps : List Placed) (p : Placed) (laid : IsLaid from over till (x ∷ xs) ps) → IsLaid (from + 1) laid.past laid.end ys (laid.later ++ p ∷ [])
    → IsLaid from over till (x ∷ ys) (ps ++ p ∷ [])
in_front from till over x xs ys ps p laid rest = record {
  here = laid.here;
  later = laid.later ++ p ∷ [];
  past = laid.past;
  end = laid.end;
  split = ap (λ qs. qs ++ p ∷ []) laid.split ∙ append_assoc laid.here laid.later (p ∷ []);
  bytes = laid.bytes;
  packed = laid.packed;
  used = laid.used;
  some = laid.some;
  few = laid.few;
  part = laid.part;
  row = laid.row;
  runs = laid.runs;
  rest = rest;
}

module _ (from till : ℕ) (over : List ℕ) (x : LogSector) (ps : List Placed) (p : Placed) (packed : IsPacked (from + 1) x) (laid : IsLaid from over till (x ∷ []) ps) (new : IsNew (from + 1) (488 - x.used) p) where
  abbrev room : ℕ
  room = 488 - x.used

  abbrev frame : List ℕ
  frame = frame_of p

  nothing_past : laid.past ≡ []
  nothing_past = laid.rest.0

  ended : laid.end ≤ from + 1
  ended = laid.runs.none (ap length nothing_past)

  here_bytes : over ++ frames laid.here ≡ used_of x
  here_bytes = laid.bytes ∙ ap (λ bs. used_of x ++ bs) nothing_past ∙ append-nil (used_of x)

  over_alone : laid.here ≡ [] → length over ≡ x.used
  over_alone e = ap length (sym (append-nil over)) ∙ ap (λ qs. length (over ++ frames qs)) (sym e) ∙ ap length here_bytes ∙ laid.used

  put_full : (x.used ≡ 488) → IsLaid from over till (x ∷ packed_sectors (from + 1 + 1) 0 frame) (ps ++ p ∷ [])
  put_full e = in_front from till over x [] (packed_sectors (from + 1 + 1) 0 frame) ps p laid
      (new_laid (from + 1) laid.end laid.past laid.later p nothing_past laid.rest.1 laid.runs (record {
        first = new.first ∙ ap (λ k. if k == 0 then from + 1 + 1 else from + 1) none;
        last = new.last ∙ ap (λ k. from + 1 + sectors_for (length frame - k)) none;
        framed = new.framed;
      }))
    where
      at : (u : ℕ) → u ≡ 488 → 488 - u ≡ 0
      at u e = omega arith

      none : 488 - x.used ≡ 0
      none = at x.used e

  put_open : (x.used ≡ 488 → ⊥) → IsLaid from over till (filled x (take room frame) ∷ packed_sectors (from + 1 + 1) none_begins (drop room frame)) (ps ++ p ∷ [])
  put_open ne = record {
    here = laid.here ++ p ∷ [];
    later = [];
    past = drop room frame;
    end = p.last;
    split = ap (λ qs. qs ++ p ∷ []) (laid.split ∙ ap (λ qs. laid.here ++ qs) laid.rest.1 ∙ append-nil laid.here) ∙ sym (append-nil (laid.here ++ p ∷ []));
    bytes =
        ap (λ bs. over ++ bs) (frames-append laid.here (p ∷ []) ∙ ap (λ bs. frames laid.here ++ bs) (append-nil frame)) ∙ sym (append_assoc over (frames laid.here) frame)
        ∙ ap (λ bs. bs ++ frame) here_bytes ∙ ap (λ bs. used_of x ++ bs) (sym (take-append-drop room frame)) ∙ sym (append_assoc (used_of x) (take room frame) (drop room frame))
        ∙ ap (λ bs. bs ++ drop room frame) (sym filling);
    packed = packed.is.parts;
    used = ap length filling ∙ length-append (used_of x) (take room frame) ∙ ap (λ k. k + length (take room frame)) laid.used;
    some = up x.used (length (take room frame)) laid.some;
    few = taken_fits (from + 1) 0 x frame packed (some_frame p);
    part = begun_more (length over) x (take room frame) laid.here p laid.few some over_alone laid.part;
    row = row_more (from + 1) (length laid.past) (length (drop room frame)) (max (from + 1) laid.end) (max (from + 1) p.last) (max (from + 1) till) laid.here p laid.row (same laid.end ended) begins
        (low p.last (sectors_for (length frame - room)) new.last) (high p.last (sectors_for (length frame - room)) new.last)
        (less (length frame) (length (drop room frame)) room (length-drop room frame) (some_frame p) has) new.framed;
    runs = record {
      none = λ z. none (length frame - room) (length (drop room frame)) p.last (length-drop room frame) new.last z;
      some = λ z. further (length frame - room) (length (drop room frame)) p.last (length-drop room frame) new.last z;
    };
    rest = laid_on (sectors_for (length (drop room frame))) (from + 1) p.last (drop room frame) refl (new.last ∙ ap (λ k. from + 1 + sectors_for k) (sym (length-drop room frame)));
  }
    where
      wide : (u : ℕ) → u ≤ 488 → (u ≡ 488 → ⊥) → 1 ≤ 488 - u
      wide u h ne = omega arith

      has : 1 ≤ room
      has = wide x.used laid.few ne

      some : 1 ≤ length (take room frame)
      some = taken_some (from + 1) 0 x frame packed (some_frame p) ne

      filling : used_of (filled x (take room frame)) ≡ used_of x ++ take room frame
      filling = used_filled (from + 1) x packed (take room frame) some (taken_fits (from + 1) 0 x frame packed (some_frame p))

      apart : (k : ℕ) → 1 ≤ k → k ≡ 0 → ⊥
      apart k h e = omega arith

      begins : p.first ≡ from + 1
      begins = new.first ∙ cond-false (room == 0) (from + 1 + 1) (from + 1) (ne_eqb room 0 (apart room has))

      up : (u l : ℕ) → 1 ≤ u → 1 ≤ u + l
      up u l h = omega arith

      same : (e : ℕ) → e ≤ from + 1 → max (from + 1) e ≡ from + 1
      same e h = omega arith

      low : (q k : ℕ) → q ≡ from + 1 + k → from + 1 ≤ q
      low q k e = omega arith

      high : (q k : ℕ) → q ≡ from + 1 + k → q ≡ max (from + 1) q
      high q k e = omega arith

      less : (l d r : ℕ) → d ≡ l - r → 1 ≤ l → 1 ≤ r → d < l
      less l d r e h g = omega arith

      none : (k d q : ℕ) → d ≡ k → q ≡ from + 1 + (k + 487) / 488 → d ≡ 0 → q ≤ from + 1
      none k d q e f z = omega arith

      further : (k d q : ℕ) → d ≡ k → q ≡ from + 1 + (k + 487) / 488 → 1 ≤ d → from + 1 < q
      further k d q e f z = omega arith

  put_laid : IsLaid from over till (put_on (from + 1 + 1) x frame) (ps ++ p ∷ [])
  put_laid = by_test (λ xs. IsLaid from over till xs (ps ++ p ∷ [])) (x ∷ packed_sectors (from + 1 + 1) 0 frame) (filled x (take room frame) ∷ packed_sectors (from + 1 + 1) none_begins (drop room frame)) (x.used == 488)
      (λ t. put_full (eqb-true x.used 488 t)) (λ t. put_open (eqb-false x.used 488 t))

-- behind sectors of which some wait
pub framed_laid : (from till last : ℕ) (over : List ℕ) (xs ys : List LogSector) (ps : List Placed) (p : Placed) → last ≡ from + length (xs ++ ys) → Along IsPacked (from + 1) (xs ++ ys)
    → IsLaid from over till (xs ++ ys) ps → Runs from (length over) till → IsNew last (open_room ys) p → IsLaid from over till (xs ++ framed (last + 1) ys (frame_of p)) (ps ++ p ∷ [])
framed_laid from till last over (x ∷ xs) ys ps p e along laid runs new =
    in_front from till over x (xs ++ ys) (xs ++ framed (last + 1) ys (frame_of p)) ps p laid
    (framed_laid (from + 1) laid.end last laid.past xs ys laid.later p (omega arith) along.1 laid.rest laid.runs new)
framed_laid from till last over [] [] ps p e along laid runs new =
    let here : last ≡ from = omega arith in
    subst (λ k. IsLaid from over till (packed_sectors (k + 1) 0 (frame_of p)) (ps ++ p ∷ [])) (sym here)
    (new_laid from till over ps p laid.0 laid.1 runs (subst (λ k. IsNew k 0 p) here new))
framed_laid from till last over [] (y ∷ []) ps p e along laid runs new =
    let here : last ≡ from + 1 = omega arith in
    subst (λ k. IsLaid from over till (put_on (k + 1) y (frame_of p)) (ps ++ p ∷ [])) (sym here)
    (put_laid from till over y ps p along.0 laid (subst (λ k. IsNew k (488 - y.used) p) here new))
framed_laid from till last over [] (y ∷ z ∷ ys) ps p e along laid runs new =
    in_front from till over y (z ∷ ys) (framed (last + 1) (z ∷ ys) (frame_of p)) ps p laid
    (framed_laid (from + 1) laid.end last laid.past [] (z ∷ ys) laid.later p (omega arith) along.1 laid.rest laid.runs new)
