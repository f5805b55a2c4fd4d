-- What stays true of a ring and its log when a record is appended, when a sector is issued, and so at every event.
use Rattle.std.proofs.Common.{◌≡◌, ℕ, suc, ◌+◌, ◌-◌, ◌/◌, ◌%◌, ◌^◌, min, ◌<◌, ◌≤◌, true, false, not, ◌&&◌, nat_le, nat_lt, Some, List, [], ◌∷◌, ◌++◌, length, take, drop, refl, sym, ap, ◌∙◌, subst, arith, length-append, take-append-drop}
use Rattle.std.specs.List.{slice_get}
use Rattle.std.proofs.lemmas.Bool.{and_parts, not-true, leb-true, ltb-true}
use Rattle.std.proofs.lemmas.List.{append_assoc, drop_at, length-take, length_push}
use Rattle.std.proofs.Math.Nat.{le_refl}
use Rattle.disk_definitions.specs.declared.log_sector.LogSector.{LogSector}
use Rattle.disk_definitions.specs.LogSectors.{log_sector_bytes, log_sector_in}
use Rattle.frang_base.specs.declared.change.Redo.{Redo}
use Rattle.frang_base.proofs.Lists.{get_left}
use Rattle.disk_definitions.specs.Frames.{frame_bytes}
use Rattle.disk_definitions.specs.Records.{record_bytes, record_fits}
use Rattle.log_record.proofs.FrameBack.{IsFramed, few_bytes, length-frame_bytes}
use Rattle.ring_definitions.specs.Rings.{is_record, need, begins, open_room, framed, sent, last, free}
use Rattle.ring_definitions.specs.RingRuns.{Placed, LogState, LogEvent, is_flying, may_happen, after_log_event, may_all_happen, after_log_events}
use Rattle.ring_definitions.specs.RingRuns.LogEvent.{Append, Issue, Arrive, Acknowledge, GiveUp}
use Rattle.ring_definitions.proofs.Shown.{behind_start, first_of_rest}
use Rattle.ring_definitions.proofs.Standing.{flies, flies_more, IsStanding, with_others, with_issued}
use Rattle.ring_definitions.proofs.Along.{Along, along_at}
use Rattle.ring_definitions.proofs.Flags.{flags_kept, flags_push}
use Rattle.ring_definitions.proofs.Packed.{IsPacked, packed_reads, framed_packed, length-framed}
use Rattle.ring_definitions.proofs.Laid.{IsLaid, IsNew, framed_laid}
use Rattle.ring_definitions.proofs.Good.{IsGood, acknowledged, arrival, given_up}

-- ---- a record is appended

module _ (end : ℕ) (before : List LogSector) (size : length before ≡ 192) (low : 255 ≤ end) (w : LogState) (redo : Redo) (is : is_record redo ≡ true) (g : IsGood end before w) where
  placed : Placed
  placed = record { redo = redo; first = begins w.ring; last = last w.ring + need w.ring redo }

  -- the sectors that are issued, and those that wait with the record
  issued : List LogSector
  issued = take (sent w.ring - end) g.rest

  waiting : List LogSector
  waiting = framed (last w.ring + 1) w.ring.waiting (frame_bytes redo)

  split : g.rest ≡ issued ++ w.ring.waiting
  unfolding issued
  split = sym (take-append-drop (sent w.ring - end) g.rest) ∙ ap (λ xs. take (sent w.ring - end) g.rest ++ xs) (sym g.waiting)

  not_early : end ≤ sent w.ring
  not_early = at (sent w.ring) w.ring.reached g.standing.low g.standing.order
    where
      at : (s r : ℕ) → end - 191 + 191 ≤ r → r ≤ s → end ≤ s
      at s r h l = let x = low in omega arith

  length-issued : length issued ≡ sent w.ring - end
  unfolding issued
  length-issued = length-take (sent w.ring - end) g.rest ∙ at (sent w.ring) (length w.ring.waiting) (length g.rest) g.ends
    where
      at : (s a l : ℕ) → s + a ≡ end + l → min (s - end) l ≡ s - end
      at s a l e = omega arith

  is_framed : IsFramed redo
  is_framed =
      let outer = and_parts (nat_le 1 redo.op.0 && nat_lt redo.op.0 (2 ^ 64)) (record_fits redo.changes) is in
      record { op = ltb-true redo.op.0 (2 ^ 64) (and_parts (nat_le 1 redo.op.0) (nat_lt redo.op.0 (2 ^ 64)) outer.0).1; fits = outer.1 }

  some_bytes : 1 ≤ length (frame_bytes redo)
  some_bytes = at (length (frame_bytes redo)) (length (record_bytes redo.changes)) (length-frame_bytes redo)
    where
      at : (a b : ℕ) → a ≡ 10 + b → 1 ≤ a
      at a b e = omega arith

  is_new : IsNew (last w.ring) (open_room w.ring.waiting) placed
  unfolding placed
  is_new = record { first = refl; last = refl; framed = is_framed }

  laid_more : IsLaid end [] end (issued ++ waiting) (w.placed ++ placed ∷ [])
  unfolding placed waiting
  laid_more =
      framed_laid end end (last w.ring) [] issued w.ring.waiting w.placed placed (g.ends ∙ ap (λ xs. end + length xs) split) (subst (Along IsPacked (end + 1)) split g.packed)
      (subst (λ xs. IsLaid end [] end xs w.placed) split g.laid) (record { none = λ z. le_refl end; some = λ z. absurd (no z) }) is_new
    where
      no : 1 ≤ 0 → ⊥
      no h = omega arith

  packed_more : Along IsPacked (end + 1) (issued ++ waiting)
  unfolding waiting
  packed_more =
      framed_packed (end + 1) (last w.ring + 1) issued w.ring.waiting (frame_bytes redo) (at (last w.ring) (length (issued ++ w.ring.waiting)) (g.ends ∙ ap (λ xs. end + length xs) split)) (first low) some_bytes
      (subst (Along IsPacked (end + 1)) split g.packed)
    where
      at : (l n : ℕ) → l ≡ end + n → end + 1 + n ≡ l + 1
      at l n e = omega arith

      first : 255 ≤ end → 256 ≤ end + 1
      first h = omega arith

  length-waiting : length waiting ≡ length w.ring.waiting + need w.ring redo
  unfolding waiting
  length-waiting = length-framed (last w.ring + 1) w.ring.waiting (frame_bytes redo)

  last_more : sent w.ring + length waiting ≡ last w.ring + need w.ring redo
  last_more = at (sent w.ring) (length w.ring.waiting) (need w.ring redo) (length waiting) length-waiting
    where
      at : (s a n b : ℕ) → b ≡ a + n → s + b ≡ s + a + n
      at s a n b e = omega arith

  -- the sectors that are issued stay
  same_front : (k : ℕ) → k ≤ sent w.ring - (end - 191) → slice_get (before ++ (issued ++ waiting)) k ≡ slice_get (before ++ g.rest) k
  same_front k h =
      ap (λ xs. slice_get xs k) (sym (append_assoc before issued waiting)) ∙ get_left (before ++ issued) waiting k near
      ∙ sym (ap (λ xs. slice_get xs k) (ap (λ xs. before ++ xs) split ∙ sym (append_assoc before issued w.ring.waiting)) ∙ get_left (before ++ issued) w.ring.waiting k near)
    where
      at : (s a b l : ℕ) → k ≤ s - (end - 191) → a ≡ 192 → b ≡ s - end → l ≡ a + b → end ≤ s → 255 ≤ end → k < l
      at s a b l h e f g i j = omega arith

      near : k < length (before ++ issued)
      near = at (sent w.ring) (length before) (length issued) (length (before ++ issued)) h size length-issued (length-append before issued) not_early low

  known_more : sent w.ring < end - 191 + length (before ++ (issued ++ waiting))
  known_more =
      at (sent w.ring) (length before) (length issued) (length waiting) (length (issued ++ waiting)) (length (before ++ (issued ++ waiting))) size length-issued (length-append issued waiting)
      (length-append before (issued ++ waiting)) not_early low
    where
      at : (s a b c d l : ℕ) → a ≡ 192 → b ≡ s - end → d ≡ b + c → l ≡ a + d → end ≤ s → 255 ≤ end → s < end - 191 + l
      at s a b c d l e f g h i j = omega arith

  append_kept : nat_le (need w.ring redo) (free w.ring) ≡ true → nat_lt (last w.ring) (2 ^ 63 - 16) ≡ true → need w.ring redo ≤ 16 → IsGood end before (after_log_event w (Append redo))
  unfolding placed waiting
  append_kept room high few = record {
    rest = issued ++ waiting;
    standing = with_others (end - 191) (before ++ g.rest) (before ++ (issued ++ waiting)) w.ring.reached (sent w.ring) same_front w.slots w.flying known_more g.standing;
    flags = g.flags;
    packed = packed_more;
    laid = laid_more;
    ends = whole (sent w.ring) (length waiting) (length issued) (length (issued ++ waiting)) length-issued (length-append issued waiting) not_early;
    bound = bounded (last w.ring) (need w.ring redo) (sent w.ring + length waiting) last_more (ltb-true (last w.ring) (2 ^ 63 - 16) high) few;
    waiting = sym (drop_at issued waiting (sent w.ring - end) length-issued);
    given = g.given;
    kept = fits (last w.ring) w.ring.given_up (need w.ring redo) (sent w.ring + length waiting) last_more g.kept (leb-true (need w.ring redo) (free w.ring) room);
  }
    where
      whole : (s a b l : ℕ) → b ≡ s - end → l ≡ b + a → end ≤ s → s + a ≡ end + l
      whole s a b l e f h = omega arith

      bounded : (l n m : ℕ) → m ≡ l + n → l < 2 ^ 63 - 16 → n ≤ 16 → m < 2 ^ 63
      bounded l n m e h f = omega arith

      fits : (l a n m : ℕ) → m ≡ l + n → l ≤ a + 192 → n ≤ 192 - (l - a) → m ≤ a + 192
      fits l a n m e h f = omega arith

  few_sectors : need w.ring redo ≤ 16
  few_sectors = at (length (frame_bytes redo)) (length (record_bytes redo.changes)) (open_room w.ring.waiting) (length-frame_bytes redo) (few_bytes redo is_framed)
    where
      at : (f b r : ℕ) → f ≡ 10 + b → b ≤ 4096 → (f - r + 487) / 488 ≤ 16
      at f b r e h = omega arith

-- ---- a sector is issued

-- the state with this waiting
abbrev with_waiting : LogState → List LogSector → LogState
with_waiting w xs = record w { ring = record w.ring { waiting = xs } }

module _ (end : ℕ) (before : List LogSector) (size : length before ≡ 192) (low : 255 ≤ end) (w : LogState) (x : LogSector) (xs : List LogSector) (g : IsGood end before (with_waiting w (x ∷ xs))) where
  abbrev so_far : ℕ
  so_far = sent w.ring

  abbrev all : List LogSector
  all = g.rest

  not_before : end ≤ so_far
  not_before = at w.ring.reached so_far low g.standing.low g.standing.order
    where
      at : (r s : ℕ) → 255 ≤ end → end - 191 + 191 ≤ r → r ≤ s → end ≤ s
      at r s l h k = omega arith

  first : (slice_get all (so_far - end) ≡ Some x) × (xs ≡ drop (so_far - end + 1) all)
  first = first_of_rest all (so_far - end) x xs g.waiting

  its_number : IsPacked (end + 1 + (so_far - end)) x
  its_number = along_at IsPacked (end + 1) all (so_far - end) x g.packed first.0

  turned : end + 1 + (so_far - end) ≡ so_far + 1
  turned = at so_far not_before
    where
      at : (s : ℕ) → end ≤ s → end + 1 + (s - end) ≡ s + 1
      at s h = omega arith

  number : x.seq ≡ so_far + 1
  number = its_number.seq ∙ turned

  its_bytes : log_sector_in (x.seq % 256) (log_sector_bytes x) ≡ Some x
  its_bytes = packed_reads (end + 1 + (so_far - end)) x its_number (at so_far (length xs) (end + 1 + (so_far - end)) g.bound turned)
    where
      at : (s a n : ℕ) → s + suc a < 2 ^ 63 → n ≡ s + 1 → n < 2 ^ 63
      at s a n h e = omega arith

  found : slice_get (before ++ all) (x.seq - (end - 191)) ≡ Some x
  found = ap (slice_get (before ++ all)) (at x.seq so_far number not_before low) ∙ behind_start before all 192 (so_far - end) size ∙ first.0
    where
      at : (n s : ℕ) → n ≡ s + 1 → end ≤ s → 255 ≤ end → n - (end - 191) ≡ 192 + (s - end)
      at n s e h l = omega arith

  sent_more : w.ring.reached + length (w.ring.above ++ false ∷ []) ≡ so_far + 1
  sent_more = at (length w.ring.above) (length (w.ring.above ++ false ∷ [])) (length_push w.ring.above false)
    where
      at : (a b : ℕ) → b ≡ a + 1 → w.ring.reached + b ≡ w.ring.reached + a + 1
      at a b e = omega arith

  last_same : w.ring.reached + length (w.ring.above ++ false ∷ []) + length xs ≡ so_far + length (x ∷ xs)
  last_same = ap (λ n. n + length xs) sent_more ∙ at so_far (length xs)
    where
      at : (s a : ℕ) → s + 1 + a ≡ s + suc a
      at s a = omega arith

  issue_kept : length w.ring.above < 64 → IsGood end before (after_log_event (with_waiting w (x ∷ xs)) Issue)
  issue_kept room = record {
    rest = all;
    standing = subst (IsStanding (end - 191) (before ++ all) w.slots (w.flying ++ x ∷ []) w.ring.reached) (sym sent_more)
        (with_issued (end - 191) (before ++ all) w.slots w.flying w.ring.reached so_far x number (fits (length w.ring.above) room) found its_bytes g.standing);
    flags = flags_push (flies (w.flying ++ x ∷ [])) w.ring.reached w.ring.above
        (flags_kept (flies w.flying) (flies (w.flying ++ x ∷ [])) w.ring.reached w.ring.above (λ n l u e. flies_more w.flying x n (other n x.seq so_far number u) ∙ e) g.flags);
    packed = g.packed;
    laid = g.laid;
    ends = last_same ∙ g.ends;
    bound = subst (λ n. n < 2 ^ 63) (sym last_same) g.bound;
    waiting = first.1 ∙ ap (λ n. drop n all) (next so_far (w.ring.reached + length (w.ring.above ++ false ∷ [])) sent_more not_before);
    given = subst (λ n. w.ring.given_up ≤ n) (sym sent_more) (up w.ring.given_up so_far g.given);
    kept = subst (λ n. n ≤ w.ring.given_up + 192) (sym last_same) g.kept;
  }
    where
      fits : (a : ℕ) → a < 64 → w.ring.reached + a < w.ring.reached + 64
      fits a h = omega arith

      other : (n m s : ℕ) → m ≡ s + 1 → n ≤ s → m ≡ n → ⊥
      other n m s e h f = omega arith

      up : (a s : ℕ) → a ≤ s → a ≤ s + 1
      up a s h = omega arith

      next : (s t : ℕ) → t ≡ s + 1 → end ≤ s → s - end + 1 ≡ t - end
      next s t e h = omega arith

-- ---- every event

some_waiting : (end : ℕ) (before : List LogSector) → length before ≡ 192 → 255 ≤ end → (w : LogState) (xs : List LogSector) → 0 < length xs → length w.ring.above < 64
    → IsGood end before (with_waiting w xs) → IsGood end before (after_log_event (with_waiting w xs) Issue)
some_waiting end before size low w [] some room g = absurd (omega arith)
some_waiting end before size low w (x ∷ xs) some room g = issue_kept end before size low w x xs g room

pub step : (end : ℕ) (before : List LogSector) → length before ≡ 192 → 255 ≤ end → (w : LogState) (e : LogEvent) → may_happen w e ≡ true → IsGood end before w → IsGood end before (after_log_event w e)
step end before size low w (Append redo) may g =
    let outer = and_parts (is_record redo && nat_le (need w.ring redo) (free w.ring)) (nat_lt (last w.ring) (2 ^ 63 - 16)) may in
    let inner = and_parts (is_record redo) (nat_le (need w.ring redo) (free w.ring)) outer.0 in
    append_kept end before size low w redo inner.0 g inner.1 outer.1 (few_sectors end before size low w redo inner.0 g)
step end before size low w Issue may g =
    let both = and_parts (nat_lt 0 (length w.ring.waiting)) (nat_lt (length w.ring.above) 64) may in
    some_waiting end before size low w w.ring.waiting (ltb-true 0 (length w.ring.waiting) both.0) (ltb-true (length w.ring.above) 64 both.1) g
step end before size low w (Arrive number) may g = arrival end before w number may g
step end before size low w (Acknowledge number) may g =
    let both = and_parts (nat_le number (sent w.ring)) (not (is_flying w number)) may in
    acknowledged end before w number (leb-true number (sent w.ring) both.0) (not-true (is_flying w number) both.1) g
step end before size low w GiveUp may g = given_up end before w g

pub steps : (end : ℕ) (before : List LogSector) → length before ≡ 192 → 255 ≤ end → (w : LogState) (es : List LogEvent) → may_all_happen w es ≡ true → IsGood end before w → IsGood end before (after_log_events w es)
steps end before size low w [] may g = g
steps end before size low w (e ∷ es) may g =
    let both = and_parts (may_happen w e) (may_all_happen (after_log_event w e) es) may in
    steps end before size low (after_log_event w e) es both.1 (step end before size low w e both.0 g)
