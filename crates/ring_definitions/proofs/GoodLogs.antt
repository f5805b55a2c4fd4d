-- Rings behind a log stay good at each event, and what is good reads back.
use Rattle.std.proofs.Common.{◌≡◌, ℕ, ◌+◌, ◌-◌, ◌^◌, ◌<◌, ◌≤◌, true, false, not, ◌&&◌, nat_le, nat_lt, is_some, List, [], ◌∷◌, ◌++◌, length, take, refl, sym, ap, ◌∙◌, subst, cond, Bool, if◌then◌else◌, ◌%◌, ◌==◌}
use Rattle.std.specs.List.{filter, list_any}
use Rattle.std.proofs.lemmas.Bool.{and_parts, and_from}
use Rattle.disk_definitions.specs.declared.log_sector.LogSector.{LogSector}
use Rattle.disk_definitions.specs.LogSectors.{log_sector_bytes}
use Rattle.disk_definitions.specs.Logs.{Slots, log_end, log_records, is_sealed, sectors_read}
use Rattle.disk_definitions.specs.Arriving.{with_sector}
use Rattle.disk_definitions.proofs.EndLaws.{numbers_are_below, all_numbers_below}
use Rattle.disk_definitions.proofs.SameLogs.{log_end_same, log_records_same, sector_same}
use Rattle.ring_definitions.specs.Rings.{Ring, is_record, need, begins, free, sent, last, appended, issued, acked, reclaimed}
use Rattle.ring_definitions.specs.RingRuns.{Placed, LogState, LogEvent, is_numbered, is_flying, log_at, may_happen, may_all_happen, after_log_event, after_log_events, placed_up_to, with_arrived, ReadsBack, EndsWithin}
use Rattle.ring_definitions.specs.RingRuns.LogEvent.{Append, Issue, Arrive, Acknowledge, GiveUp}
use Rattle.ring_definitions.specs.RingSteps.{IsSameState, IsGoodLog}
use Rattle.ring_definitions.proofs.Good.{IsGood}
use Rattle.ring_definitions.proofs.Stepping.{steps}
use Rattle.ring_definitions.proofs.Beginning.{length-before, good_first}
use Rattle.ring_definitions.proofs.Ending.{ends_within}
use Rattle.ring_definitions.proofs.ReadingBack.{reads_back}
use Rattle.ring_definitions.proofs.RisingEnds.{end_goes_on}

-- ---- one event more

may_more : (w : LogState) (es : List LogEvent) (e : LogEvent) → may_all_happen w es ≡ true → may_happen (after_log_events w es) e ≡ true → may_all_happen w (es ++ e ∷ []) ≡ true
may_more w [] e all one = and_from (may_happen w e) true one refl
may_more w (f ∷ es) e all one =
    let both = and_parts (may_happen w f) (may_all_happen (after_log_event w f) es) all in
    and_from (may_happen w f) (may_all_happen (after_log_event w f) (es ++ e ∷ [])) both.0 (may_more (after_log_event w f) es e both.1 one)

after_more : (w : LogState) (es : List LogEvent) (e : LogEvent) → after_log_events w (es ++ e ∷ []) ≡ after_log_event (after_log_events w es) e
after_more w [] e = refl
after_more w (f ∷ es) e = after_more (after_log_event w f) es e

-- ---- the same state

arrived_one : (number : ℕ) (a b : Slots) (x : LogSector) (slot : ℕ) → a slot ≡ b slot → (if is_numbered number x then with_sector a x else a) slot ≡ (if is_numbered number x then with_sector b x else b) slot
arrived_one number a b x slot e = at (is_numbered number x)
  where
    at : (t : Bool) → (cond t (with_sector a x) a) slot ≡ (cond t (with_sector b x) b) slot
    at true = ap (λ block. if slot == x.seq % 256 then log_sector_bytes x else block) e
    at false = e

arrived_same : (number : ℕ) (a b : Slots) (xs : List LogSector) → ((slot : ℕ) → slot < 256 → a slot ≡ b slot) → (slot : ℕ) → slot < 256 → with_arrived number a xs slot ≡ with_arrived number b xs slot
arrived_same number a b [] same slot h = same slot h
arrived_same number a b (x ∷ xs) same slot h =
    arrived_same number (if is_numbered number x then with_sector a x else a) (if is_numbered number x then with_sector b x else b) xs (λ k l. arrived_one number a b x k (same k l)) slot h

module _ (v w : LogState) (s : IsSameState v w) where
  pub may_same : (e : LogEvent) → may_happen v e ≡ may_happen w e
  may_same (Append redo) = ap (λ r. is_record redo && nat_le (need r redo) (free r) && nat_lt (last r) (2 ^ 63 - 16)) s.ring
  may_same Issue = ap (λ r. nat_lt 0 (length r.waiting) && nat_lt (length r.above) 64) s.ring
  may_same (Arrive number) = ap (λ xs. list_any (is_numbered number) xs) s.flying
  may_same (Acknowledge number) = ap (λ r. nat_le number (sent r) && not (is_flying v number)) s.ring ∙ ap (λ xs. nat_le number (sent w.ring) && not (list_any (is_numbered number) xs)) s.flying
  may_same GiveUp = refl

  pub after_same : (e : LogEvent) → IsSameState (after_log_event v e) (after_log_event w e)
  after_same (Append redo) = record {
    ring = ap (λ r. appended r redo) s.ring;
    flying = s.flying;
    placed = ap (λ r. v.placed ++ record { redo = redo; first = begins r; last = last r + need r redo } ∷ []) s.ring
        ∙ ap (λ ps. ps ++ record { redo = redo; first = begins w.ring; last = last w.ring + need w.ring redo } ∷ []) s.placed;
    slots = s.slots;
  }
  after_same Issue = record {
    ring = ap issued s.ring;
    flying = ap (λ r. v.flying ++ take 1 r.waiting) s.ring ∙ ap (λ xs. xs ++ take 1 w.ring.waiting) s.flying;
    placed = s.placed;
    slots = s.slots;
  }
  after_same (Arrive number) = record {
    ring = s.ring;
    flying = ap (filter (λ x. not (is_numbered number x))) s.flying;
    placed = s.placed;
    slots = λ slot h. ap (λ xs. with_arrived number v.slots xs slot) s.flying ∙ arrived_same number v.slots w.slots w.flying s.slots slot h;
  }
  after_same (Acknowledge number) = record { ring = ap (λ r. acked r number) s.ring; flying = s.flying; placed = s.placed; slots = s.slots }
  after_same GiveUp = record { ring = ap reclaimed s.ring; flying = s.flying; placed = s.placed; slots = s.slots }

  -- what holds with the other's ring, sectors and records
  through : (P : LogState → Type 0) → P (record w { slots = v.slots }) → P v
  through P h =
      subst (λ (r : Ring). P (record { slots = v.slots; ring = r; flying = v.flying; placed = v.placed })) (sym s.ring)
      (subst (λ (xs : List LogSector). P (record { slots = v.slots; ring = w.ring; flying = xs; placed = v.placed })) (sym s.flying)
      (subst (λ (ps : List Placed). P (record { slots = v.slots; ring = w.ring; flying = w.flying; placed = ps })) (sym s.placed) h))

  pub reads_same : (slots : Slots) → ReadsBack slots w → ReadsBack slots v
  reads_same slots r = through (ReadsBack slots) (record {
    prefix = r.prefix;
    missing = r.missing;
    reads = log_records_same v.slots w.slots s.slots ∙ r.reads;
    ended = r.ended ∙ ap (λ n. length (log_records slots) + length (placed_up_to n w)) (sym (log_end_same v.slots w.slots s.slots));
    reached = r.reached;
    given_up = r.given_up;
  })

  pub ends_same : EndsWithin w → EndsWithin v
  ends_same e = through EndsWithin (record {
    not_below = subst (λ n. w.ring.reached ≤ n) (sym (log_end_same v.slots w.slots s.slots)) e.not_below;
    not_above = subst (λ n. n ≤ sent w.ring) (sym (log_end_same v.slots w.slots s.slots)) e.not_above;
    numbers = all_numbers_below v.slots (sent w.ring) (λ n h. numbers_are_below w.slots (sent w.ring) e.numbers n (ap is_some (sym (sector_same v.slots w.slots s.slots n)) ∙ h));
    window = e.window;
    kept = e.kept;
    given = e.given;
    waits = e.waits;
  })

both_same : (u v w : LogState) → IsSameState u v → IsSameState v w → IsSameState u w
both_same u v w s t = record { ring = s.ring ∙ t.ring; flying = s.flying ∙ t.flying; placed = s.placed ∙ t.placed; slots = λ slot h. s.slots slot h ∙ t.slots slot h }

-- ---- good logs

pub begins_good : (slots : Slots) → 255 ≤ log_end slots → log_end slots < 2 ^ 62 → is_sealed slots ≡ true → IsGoodLog slots (log_at slots)
begins_good slots low high sealed = record { low = low; high = high; sealed = sealed; events = []; happened = refl; left = record { ring = refl; flying = refl; placed = refl; slots = λ slot h. refl } }

pub stays_good : (slots : Slots) (w : LogState) (e : LogEvent) → IsGoodLog slots w → may_happen w e ≡ true → IsGoodLog slots (after_log_event w e)
stays_good slots w e g may = record {
  low = g.low;
  high = g.high;
  sealed = g.sealed;
  events = g.events ++ e ∷ [];
  happened = may_more (log_at slots) g.events e g.happened (sym (may_same w (after_log_events (log_at slots) g.events) g.left e) ∙ may);
  left = subst (IsSameState (after_log_event w e)) (sym (after_more (log_at slots) g.events e)) (after_same w (after_log_events (log_at slots) g.events) g.left e);
}

pub same_good : (slots : Slots) (v w : LogState) → IsSameState v w → IsGoodLog slots w → IsGoodLog slots v
same_good slots v w s g = record {
  low = g.low;
  high = g.high;
  sealed = g.sealed;
  events = g.events;
  happened = g.happened;
  left = both_same v w (after_log_events (log_at slots) g.events) s g.left;
}

-- after every run
pub good_run : (slots : Slots) (events : List LogEvent) → 255 ≤ log_end slots → log_end slots < 2 ^ 62 → is_sealed slots ≡ true → may_all_happen (log_at slots) events ≡ true
    → IsGood (log_end slots) (sectors_read slots (log_end slots)) (after_log_events (log_at slots) events)
good_run slots events low high sealed may =
    steps (log_end slots) (sectors_read slots (log_end slots)) (length-before slots low high sealed) low (log_at slots) events may (good_first slots low high sealed)

pub run_reads : (slots : Slots) (events : List LogEvent) → 255 ≤ log_end slots → log_end slots < 2 ^ 62 → is_sealed slots ≡ true → may_all_happen (log_at slots) events ≡ true
    → ReadsBack slots (after_log_events (log_at slots) events)
run_reads slots events low high sealed may =
    reads_back slots (after_log_events (log_at slots) events) low (length-before slots low high sealed) (good_run slots events low high sealed may)

pub run_ends : (slots : Slots) (events : List LogEvent) → 255 ≤ log_end slots → log_end slots < 2 ^ 62 → is_sealed slots ≡ true → may_all_happen (log_at slots) events ≡ true
    → EndsWithin (after_log_events (log_at slots) events)
run_ends slots events low high sealed may =
    ends_within (log_end slots) (sectors_read slots (log_end slots)) (after_log_events (log_at slots) events) low (good_run slots events low high sealed may)

pub good_reads : (slots : Slots) (w : LogState) → IsGoodLog slots w → ReadsBack slots w
good_reads slots w g = reads_same w (after_log_events (log_at slots) g.events) g.left slots (run_reads slots g.events g.low g.high g.sealed g.happened)

pub good_ends : (slots : Slots) (w : LogState) → IsGoodLog slots w → EndsWithin w
good_ends slots w g = ends_same w (after_log_events (log_at slots) g.events) g.left (run_ends slots g.events g.low g.high g.sealed g.happened)

run_goes_on : (slots : Slots) (events : List LogEvent) (number : ℕ) → 255 ≤ log_end slots → log_end slots < 2 ^ 62 → is_sealed slots ≡ true → may_all_happen (log_at slots) events ≡ true
    → is_flying (after_log_events (log_at slots) events) number ≡ true → log_end (after_log_events (log_at slots) events).slots ≤ log_end (after_log_event (after_log_events (log_at slots) events) (Arrive number)).slots
run_goes_on slots events number low high sealed may flown =
    let w = after_log_events (log_at slots) events in
    let g = good_run slots events low high sealed may in
    end_goes_on (log_end slots - 191) (sectors_read slots (log_end slots) ++ g.rest) w.slots w.flying w.ring.reached (sent w.ring) number flown g.standing

goes_on_same : (v w : LogState) (number : ℕ) → IsSameState v w → log_end w.slots ≤ log_end (after_log_event w (Arrive number)).slots → log_end v.slots ≤ log_end (after_log_event v (Arrive number)).slots
goes_on_same v w number s risen =
    let before : log_end v.slots ≡ log_end w.slots = log_end_same v.slots w.slots s.slots in
    let behind : log_end (after_log_event v (Arrive number)).slots ≡ log_end (after_log_event w (Arrive number)).slots =
    log_end_same (after_log_event v (Arrive number)).slots (after_log_event w (Arrive number)).slots (after_same v w s (Arrive number)).slots in
    subst (λ n. n ≤ log_end (after_log_event v (Arrive number)).slots) (sym before) (subst (λ n. log_end w.slots ≤ n) (sym behind) risen)

pub end_of_good_goes_on : (slots : Slots) (w : LogState) (number : ℕ) → IsGoodLog slots w → is_flying w number ≡ true → log_end w.slots ≤ log_end (after_log_event w (Arrive number)).slots
end_of_good_goes_on slots w number g flown =
    let v = after_log_events (log_at slots) g.events in
    goes_on_same w v number g.left (run_goes_on slots g.events number g.low g.high g.sealed g.happened (sym (may_same w v g.left (Arrive number)) ∙ flown))
