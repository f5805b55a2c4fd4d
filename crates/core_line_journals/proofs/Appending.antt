-- A record is appended: the ring stays good, and its operation comes last, with no number of it on the disk.
use Rattle.std.proofs.Common.{◌≡◌, ◌↔◌, ◌+◌, ◌-◌, ◌/◌, ◌≤◌, ◌<◌, ◌==◌, ℕ, suc, Bool, true, false, not, if◌then◌else◌, IsTrue, nat_eq, nat_le, nat_lt, List, [], ◌∷◌, ◌++◌, Some, filter, length, map, reverse, refl, sym, ap, ◌∙◌, subst, inl, inr, ⊎_elim, arith, append-nil, le_refl, le_trans}
use Rattle.std.proofs.lemmas.Bool.{eqb-true, false≢true, le-leb, leb-true}
use Rattle.std.proofs.lemmas.Bool.Decides.{nat_tests}
use Rattle.std.proofs.lemmas.List.Elements.{Contains-append_cases, filter-append}
use Rattle.std.specs.List.{Contains}
use mathlib.Core.List.{reverse-cons}
use Rattle.frang_base.specs.Functions.{keep_if, put}
use Rattle.frang_base.proofs.Basics.{put_same}
use Rattle.frang_base.specs.declared.change.Change.{Change}
use Rattle.frang_base.specs.declared.change.Redo.{Redo}
use Rattle.sector_bytes.specs.Blocks.{version_of}
use Rattle.sector_bytes.specs.Sectors.{Sectors}
use Rattle.disk_definitions.specs.declared.log_sector.LogSector.{LogSector}
use Rattle.disk_definitions.specs.Frames.{frame_bytes}
use Rattle.disk_definitions.specs.Logs.{log_end, log_records}
use Rattle.disk_definitions.specs.Records.{record_bytes}
use Rattle.log_record.proofs.FrameBack.{length-frame_bytes}
use Rattle.ring_definitions.specs.RingRuns.{EndsWithin, Placed, may_happen}
use Rattle.ring_definitions.specs.RingRuns.LogEvent.{Append}
use Rattle.ring_definitions.specs.Rings.{Ring, appended, begins, framed, last, need, open_room, sectors_for, sent}
use Rattle.ring_definitions.proofs.GoodLogs.{good_ends, stays_good}
use Rattle.ring_definitions.proofs.Packed.{length-framed}
use Rattle.core_definitions.specs.Flights.{Flight, Flights, InPlace, OfLog, OfRecovery, Purpose, each_of_server}
use Rattle.core_definitions.specs.LineEffects.{flight_after, purpose_after}
use Rattle.core_definitions.specs.Lines.{Finishing}
use Rattle.core_definitions.specs.Plans as plans
use Rattle.core_definitions.specs.Plans.{record_of}
use Rattle.core_definitions.specs.Servers as life
use Rattle.core_laws.proofs.FlightLists.{all_changed, all_flights, in_flights}
use Rattle.core_laws.proofs.Membership.{contains_in, in_contains}
use Rattle.plan_laws.proofs.Covering.{has_cases, not_in_none}
use Rattle.sector_world.specs.Histories.{Commit, Each, Item, own, redo_of, settled}
use Rattle.sector_world.specs.Histories.Item.{Done, Doubt}
use Rattle.sector_world.specs.Logged.{Logged}
use Rattle.sector_world.specs.Steps.{after}
use Rattle.sector_world.specs.Steps.Event.{Do}
use Rattle.sector_world.specs.World.{World}
use Rattle.core_world.specs.Journals.{AreRecords, AreSent, IsCounted, IsJournal, IsSent, IsUpTo, Journal, SectorLog, is_above, records_above, records_up_to, sector_log}
use Rattle.core_world.specs.Readings.{AllInPlace, changing, keep_changing}
use Rattle.core_lives.proofs.Alike.{journal_mounted, mounted_journal}
use Rattle.core_commits.specs.Commits.{fetched_world}
use Rattle.core_commits.specs.Finished.{number_in}
use Rattle.core_commits.specs.Moments.{IsNumbered, claimed_in, operation_at}
use Rattle.core_commits.specs.Standing.{tree_now}
use Rattle.core_commits.proofs.Reclaiming.{up_of}
use Rattle.core_line_steps.specs.Marks.{journal_done}
use Rattle.core_line_steps.proofs.Ended.{up_mounted}
use Rattle.core_line_journals.specs.Appends.{CommitsAppend}

-- ---- numbers

pub past_not : (n m : ℕ) → m < n → nat_le n m ≡ false
past_not n m l = grind (arith, nat_tests, l)

pub never : (n m : ℕ) → n ≤ m → m < n → ⊥
never n m l k = omega (arith, l, k)

-- ---- a ring with a record more

module _ (r : Ring) (redo : Redo) where
  abbrev waits : List LogSector
  waits = framed (last r + 1) r.waiting (frame_bytes redo)

  waits_are : length waits ≡ length r.waiting + need r redo
  waits_are = length-framed (last r + 1) r.waiting (frame_bytes redo)

  some_bytes : 1 ≤ length (frame_bytes redo)
  some_bytes = at (length (frame_bytes redo)) (length (record_bytes redo.changes)) (length-frame_bytes redo)
    where
      at : (a b : ℕ) → a ≡ 10 + b → 1 ≤ a
      at a b e = omega (arith, e)

  pub last_is : last (appended r redo) ≡ last r + need r redo
  last_is = ap (λ n. sent r + n) waits_are ∙ at (sent r) (length r.waiting) (need r redo)
    where
      at : (a b c : ℕ) → a + (b + c) ≡ a + b + c
      at a b c = omega arith

  -- some sector waits then
  one_waits : (ws : List LogSector) → 1 ≤ length ws + sectors_for (length (frame_bytes redo) - open_room ws)
  one_waits [] = first (length (frame_bytes redo)) some_bytes
    where
      first : (f : ℕ) → 1 ≤ f → 1 ≤ 0 + (f - 0 + 487) / 488
      first f l = omega (arith, l)
  one_waits (x ∷ xs) = over (length xs) (sectors_for (length (frame_bytes redo) - open_room (x ∷ xs)))
    where
      over : (n m : ℕ) → 1 ≤ suc n + m
      over n m = omega arith

  pub past_sent : sent r < last (appended r redo)
  past_sent = at (sent r) (length r.waiting) (need r redo) (last (appended r redo)) last_is (one_waits r.waiting)
    where
      at : (a b c n : ℕ) → n ≡ a + b + c → 1 ≤ b + c → a < n
      at a b c n e l = omega (arith, e, l)

  pub last_below : last r ≤ last (appended r redo)
  last_below = at (last r) (need r redo) (last (appended r redo)) last_is
    where
      at : (a c n : ℕ) → n ≡ a + c → a ≤ n
      at a c n e = omega (arith, e)

-- its first sector is past the last that is issued
begins_past : (r : Ring) → sent r < begins r
begins_past r = go r.waiting
  where
    after_all : (a b : ℕ) → a < a + b + 1
    after_all a b = omega arith

    open_one : (a b : ℕ) → a < a + suc b
    open_one a b = omega arith

    go : (ws : List LogSector) → sent r < (if open_room ws == 0 then sent r + length ws + 1 else sent r + length ws)
    go [] = after_all (sent r) 0
    go (x ∷ xs) = by (open_room (x ∷ xs) == 0)
      where
        by : (b : Bool) → sent r < (if b then sent r + length (x ∷ xs) + 1 else sent r + length (x ∷ xs))
        by true = after_all (sent r) (length (x ∷ xs))
        by false = open_one (sent r) (length xs)

-- ---- operations of records

abbrev pub AllOps : ℕ → List Redo → Type 0
AllOps n [] = Unit {0}
AllOps n (r ∷ rs) = (r.op.0 ≤ n) × AllOps n rs

both_ops : (n : ℕ) (xs ys : List Redo) → AllOps n xs → AllOps n ys → AllOps n (xs ++ ys)
both_ops n [] ys a b = b
both_ops n (x ∷ xs) ys a b = (a.0, both_ops n xs ys a.1 b)

pub turned_ops : (n : ℕ) (xs : List Redo) → AllOps n xs → AllOps n (reverse xs)
turned_ops n [] a = tt
turned_ops n (x ∷ xs) a = subst (AllOps n) (sym (reverse-cons x xs)) (both_ops n (reverse xs) (x ∷ []) (turned_ops n xs a.1) (a.0, tt))

pub changing_ops : (n : ℕ) (xs : List Redo) → AllOps n xs → AllOps n (changing xs)
changing_ops n [] a = tt
changing_ops n (x ∷ xs) a = go x.changes (changing_ops n xs a.1)
  where
    go : (cs : List Change) → AllOps n (changing xs) → AllOps n (keep_changing cs x (changing xs))
    go [] rest = rest
    go (c ∷ cs) rest = (a.0, rest)

pub own_ops : (d floor : ℕ) (last_of : ℕ → ℕ) (h : List Item) → Each (λ c. c.op ≤ last_of c.by) h → AllOps (last_of d) (own d floor h)
own_ops d floor last_of [] all = tt
own_ops d floor last_of (Done c ∷ h) all = go (nat_eq c.by d) refl (own_ops d floor last_of h all.1)
  where
    kept : (b : Bool) → c.op ≤ last_of d → AllOps (last_of d) (own d floor h) → AllOps (last_of d) (keep_if b (redo_of c) (own d floor h))
    kept true l rest = (l, rest)
    kept false l rest = rest

    go : (b : Bool) → nat_eq c.by d ≡ b → AllOps (last_of d) (own d floor h) → AllOps (last_of d) (keep_if (if b then nat_lt floor c.op else false) (redo_of c) (own d floor h))
    go true e rest = kept (nat_lt floor c.op) (subst (λ n. c.op ≤ last_of n) (eqb-true c.by d e) all.0) rest
    go false e rest = rest
own_ops d floor last_of (Doubt m ∷ h) all = own_ops d floor last_of h all

-- one that is placed
pub placed_op : (n floor : ℕ) (xs : List Placed) → AllOps n (map (λ p. p.redo) (filter (is_above floor) xs)) → (p : Placed) → Contains xs p → is_above floor p ≡ true → p.redo.op.0 ≤ n
placed_op n floor [] all p there e = absurd (not_in_none p there)
placed_op n floor (x ∷ xs) all p there e = go (is_above floor x) refl all (λ rest more. placed_op n floor xs rest p more e)
  where
    go : (b : Bool) → is_above floor x ≡ b → AllOps n (map (λ p. p.redo) (if b then x ∷ filter (is_above floor) xs else filter (is_above floor) xs)) →
        (AllOps n (map (λ p. p.redo) (filter (is_above floor) xs)) → Contains xs p → p.redo.op.0 ≤ n) → p.redo.op.0 ≤ n
    go true i all further = ⊎_elim (λ q. subst (λ (y : Placed). y.redo.op.0 ≤ n) q all.0) (λ more. further all.1 more) (has_cases x p xs there)
    go false i all further = ⊎_elim (λ q. absurd (false≢true (sym i ∙ ap (is_above floor) q ∙ e))) (λ more. further all more) (has_cases x p xs there)

map_more : (xs ys : List Placed) → map (λ p. p.redo) (xs ++ ys) ≡ map (λ p. p.redo) xs ++ map (λ p. p.redo) ys
map_more [] ys = refl
map_more (x ∷ xs) ys = ap (λ l. x.redo ∷ l) (map_more xs ys)

some_change : (c : Commit) (rs : List Redo) (x : Change) (xs : List Change) → c.changes ≡ x ∷ xs → changing (redo_of c ∷ rs) ≡ redo_of c ∷ changing rs
some_change c rs x xs e = ap (λ cs. keep_changing cs (redo_of c) (changing rs)) e

-- ---- writes in the log

pub log_purpose : (outcome : plans.Outcome) (sector number : ℕ) (p : Purpose) → purpose_after outcome sector p ≡ OfLog number → p ≡ OfLog number
log_purpose outcome sector number (OfLog n) e = e
log_purpose outcome sector number OfRecovery e = absurd (cc)
log_purpose outcome sector number (InPlace cover) e = absurd (cc)

-- ---- the journal

module _ (w : World) (c : Commit) (logged : Logged w) (new : w.last c.by < c.op) (phase : life.Phase) (ring : Ring) (now : ℕ) (flights : Flights) (disk : Sectors) (jn : Journal)
    (j : IsJournal life.Up ring now flights disk (sector_log w c.by) c.by jn) (outcome : plans.Outcome) (redo : Redo) (is : redo ≡ redo_of c) (x : Change) (xs : List Change) (some : c.changes ≡ x ∷ xs)
    (may : IsTrue (may_happen jn.log (Append redo))) where
  abbrev r : Ring
  r = jn.log.ring

  abbrev before : ℕ
  before = w.last c.by

  abbrev then_ : Journal
  then_ = journal_done (w.last c.by) (Some redo) jn

  abbrev placed : Placed
  placed = record { redo = redo; first = begins r; last = last r + need r redo }

  abbrev log : SectorLog
  log = record {
    durable = w.durable c.by;
    acked = w.acked c.by;
    floor = w.floor c.by;
    last = c.op;
    records = redo_of c ∷ w.log c.by;
    history = Done c ∷ settled w.history;
    versions = λ s. version_of (w.disk s);
  }

  e : EndsWithin jn.log
  e = good_ends jn.before jn.log j.good

  op_is : redo.op.0 ≡ c.op
  op_is = ap (λ (y : Redo). y.op.0) is

  -- numbers
  over_floor : w.floor c.by < c.op
  over_floor = at (w.floor c.by) (w.last c.by) c.op (logged.floored c.by) new
    where
      at : (a b n : ℕ) → a ≤ b → b < n → a < n
      at a b n l k = omega (arith, l, k)

  over_durable : w.durable c.by < c.op
  over_durable = at (w.durable c.by) (w.last c.by) c.op (logged.reached c.by) new
    where
      at : (a b n : ℕ) → a ≤ b → b < n → a < n
      at a b n l k = omega (arith, l, k)

  over_acked : w.acked c.by < c.op
  over_acked = at (w.acked c.by) (w.durable c.by) c.op (logged.acks c.by) over_durable
    where
      at : (a b n : ℕ) → a ≤ b → b < n → a < n
      at a b n l k = omega (arith, l, k)

  over_end : log_end jn.log.slots < last (appended r redo)
  over_end = at (log_end jn.log.slots) (sent r) (last (appended r redo)) e.not_above (past_sent r redo)
    where
      at : (a b n : ℕ) → a ≤ b → b < n → a < n
      at a b n l k = omega (arith, l, k)

  over_reached : r.reached < last (appended r redo)
  over_reached = at r.reached (log_end jn.log.slots) (last (appended r redo)) e.not_below over_end
    where
      at : (a b n : ℕ) → a ≤ b → b < n → a < n
      at a b n l k = omega (arith, l, k)

  over_given : r.given_up < begins r
  over_given = at r.given_up (sent r) (begins r) e.given (begins_past r)
    where
      at : (a b n : ℕ) → a ≤ b → b < n → a < n
      at a b n l k = omega (arith, l, k)

  -- ends
  new_end : then_.ends c.op ≡ last (appended r redo)
  new_end = ap (λ (b : Bool). if b then jn.ends c.op else last (appended r redo)) (past_not c.op (w.last c.by) new)

  old_end : (n : ℕ) → n ≤ w.last c.by → then_.ends n ≡ jn.ends n
  old_end n l = ap (λ (b : Bool). if b then jn.ends n else last (appended r redo)) (le-leb n (w.last c.by) l)

  last_end : jn.ends (w.last c.by) ≡ last r
  last_end = j.counted.ends_at ∙ ap (λ (y : Ring). last y) (sym j.ring_is)

  rises : (n m : ℕ) → n ≤ m → then_.ends n ≤ then_.ends m
  rises n m l = go (nat_le n before) refl (nat_le m before) refl
    where
      go : (a : Bool) → nat_le n before ≡ a → (b : Bool) → nat_le m before ≡ b → (if a then jn.ends n else last (appended r redo)) ≤ (if b then jn.ends m else last (appended r redo))
      go true p true q = j.counted.rises n m l
      go true p false q = le_trans (subst (λ k. jn.ends n ≤ k) last_end (j.counted.rises n before (leb-true n before p))) (last_below r redo)
      go false p true q = absurd (false≢true (sym p ∙ le-leb n before (le_trans l (leb-true m before q))))
      go false p false q = le_refl (last (appended r redo))

  up_to : (limit k : ℕ) (h : List Item) → Each (λ i. i.op ≤ w.last i.by) h → IsUpTo jn.ends limit c.by k h → IsUpTo then_.ends limit c.by k h
  up_to limit k [] all up = tt
  up_to limit k (Done i ∷ h) all up =
      ((λ mine. subst (λ n. (i.op ≤ k) ↔ (n ≤ limit)) (sym (old_end i.op (subst (λ b. i.op ≤ w.last b) mine all.0))) (up.0 mine)), up_to limit k h all.1 up.1)
  up_to limit k (Doubt n ∷ h) all up = up_to limit k h all up

  -- the operation isn't up to a number that is less
  up_less : (limit k : ℕ) → k < c.op → limit < last (appended r redo) → c.by ≡ c.by → (c.op ≤ k) ↔ (then_.ends c.op ≤ limit)
  up_less limit k less low mine = ((λ l. absurd (never c.op k l less)), (λ l. absurd (never (last (appended r redo)) limit (subst (λ n. n ≤ limit) new_end l) low)))

  counted_r : IsCounted log c.by (appended r redo) (log_end jn.log.slots) then_.ends
  counted_r = record {
    rises = rises;
    durable = (up_less (log_end jn.log.slots) (w.durable c.by) over_durable over_end, up_to (log_end jn.log.slots) (w.durable c.by) (settled w.history) logged.below j.counted.durable);
    acked = (up_less r.reached (w.acked c.by) over_acked over_reached, up_to r.reached (w.acked c.by) (settled w.history) logged.below (subst (λ (y : Ring). IsUpTo jn.ends y.reached c.by (w.acked c.by) (settled w.history)) (sym j.ring_is) j.counted.acked));
    newest = inr (inl (refl, refl));
    ends_at = new_end;
  }

  -- writes on their way
  abbrev IsOnItsWay : Flight → Type 0
  IsOnItsWay f = (number : ℕ) → f.server ≡ c.by → f.purpose ≡ OfLog number → now ≤ f.stamp → IsSent jn.log.flying number f.block

  keep : (f : Flight) → IsOnItsWay f → (b : Bool) → IsOnItsWay (if b then record f { purpose = purpose_after outcome f.sector f.purpose } else f)
  keep f way false number mine purpose early = way number mine purpose early
  keep f way true number mine purpose early = way number mine (log_purpose outcome f.sector number f.purpose purpose) early

  sent_then : AreSent then_ now (each_of_server c.by (flight_after outcome) flights) c.by
  sent_then one number there mine purpose early =
      in_flights IsOnItsWay (each_of_server c.by (flight_after outcome) flights) one (contains_in (each_of_server c.by (flight_after outcome) flights) one there)
      (all_changed IsOnItsWay c.by (flight_after outcome) (λ f way. keep f way f.present) flights (all_flights IsOnItsWay flights (λ o i n. j.sent o n (in_contains flights o i)))) number mine purpose early

  -- records
  above : is_above (w.floor c.by) placed ≡ true
  above = ap (λ b. not b) (past_not redo.op.0 (w.floor c.by) (subst (λ n. w.floor c.by < n) (sym op_is) over_floor))

  old_op : (p : Placed) → Contains jn.log.placed p → p.redo.op.0 ≤ w.last c.by
  old_op p there = go (is_above (w.floor c.by) p) refl
    where
      ops : AllOps (w.last c.by) (records_above (w.floor c.by) jn.log.placed)
      ops = subst (AllOps (w.last c.by)) (sym j.records.placed) (turned_ops (w.last c.by) (changing (w.log c.by)) (changing_ops (w.last c.by) (w.log c.by)
          (subst (AllOps (w.last c.by)) (sym (logged.logs c.by)) (own_ops c.by (w.floor c.by) w.last (settled w.history) logged.below))))

      not_above : (b : Bool) → not b ≡ false → b ≡ true
      not_above true q = refl
      not_above false q = absurd (false≢true (sym q))

      go : (b : Bool) → is_above (w.floor c.by) p ≡ b → p.redo.op.0 ≤ w.last c.by
      go true q = placed_op (w.last c.by) (w.floor c.by) jn.log.placed ops p there q
      go false q = le_trans (leb-true p.redo.op.0 (w.floor c.by) (not_above (nat_le p.redo.op.0 (w.floor c.by)) q)) (logged.floored c.by)

  only_new : (p : Placed) → Contains (placed ∷ []) p → placed ≡ p
  only_new p there = ⊎_elim (λ q. q) (λ none. absurd (not_in_none p none)) (has_cases placed p [] there)

  records_then : AreRecords then_ log
  records_then = record {
    ends_at_last = λ p there. ⊎_elim (λ i. old_end p.redo.op.0 (old_op p i) ∙ j.records.ends_at_last p i) (λ i. subst (λ q. then_.ends q.redo.op.0 ≡ q.last) (only_new p i) (ap then_.ends op_is ∙ new_end ∙ last_is r redo))
        (Contains-append_cases jn.log.placed (placed ∷ []) p there);
    given_up = λ p there. ⊎_elim (λ i. j.records.given_up p i)
        (λ i. subst (λ q. (q.redo.op.0 ≤ w.floor c.by) ↔ (q.first ≤ r.given_up)) (only_new p i)
        ((λ l. absurd (never c.op (w.floor c.by) (subst (λ n. n ≤ w.floor c.by) op_is l) over_floor)), (λ l. absurd (never (begins r) r.given_up l over_given))))
        (Contains-append_cases jn.log.placed (placed ∷ []) p there);
    placed = ap (λ l. map (λ p. p.redo) l) (filter-append (is_above (w.floor c.by)) jn.log.placed (placed ∷ []))
        ∙ ap (λ (b : Bool). map (λ p. p.redo) (filter (is_above (w.floor c.by)) jn.log.placed ++ (if b then placed ∷ [] else []))) above
        ∙ map_more (filter (is_above (w.floor c.by)) jn.log.placed) (placed ∷ [])
        ∙ ap (λ l. l ++ redo ∷ []) j.records.placed
        ∙ ap (λ y. reverse (changing (w.log c.by)) ++ y ∷ []) is
        ∙ sym (reverse-cons (redo_of c) (changing (w.log c.by)))
        ∙ ap (λ l. reverse l) (sym (some_change c (w.log c.by) x xs some));
    old = λ s. subst (λ l. AllInPlace (log_records jn.before ++ l) s (version_of (w.disk s))) (sym (same_old)) (j.records.old s);
  }
    where
      below : nat_le redo.op.0 (w.floor c.by) ≡ false
      below = past_not redo.op.0 (w.floor c.by) (subst (λ n. w.floor c.by < n) (sym op_is) over_floor)

      same_old : records_up_to (w.floor c.by) (jn.log.placed ++ placed ∷ []) ≡ records_up_to (w.floor c.by) jn.log.placed
      same_old = ap (λ l. map (λ p. p.redo) l) (filter-append (λ p. nat_le p.redo.op.0 (w.floor c.by)) jn.log.placed (placed ∷ [])
          ∙ ap (λ (b : Bool). filter (λ p. nat_le p.redo.op.0 (w.floor c.by)) jn.log.placed ++ (if b then placed ∷ [] else [])) below
          ∙ append-nil (filter (λ p. nat_le p.redo.op.0 (w.floor c.by)) jn.log.placed))

  pub appended_journal : IsJournal life.Up (appended ring redo) now (each_of_server c.by (flight_after outcome) flights) disk log c.by then_
  appended_journal = record {
    good = stays_good jn.before jn.log (Append redo) j.good may;
    ring_is = ap (λ y. appended y redo) j.ring_is;
    slots = j.slots;
    counted = subst (λ y. IsCounted log c.by (appended y redo) (log_end jn.log.slots) then_.ends) j.ring_is counted_r;
    sent = sent_then;
    records = records_then;
  }

-- ---- at a moment of a run

from_record : (n : ℕ) (redo : Redo) (changes : List Change) → record_of n changes ≡ Some redo →
    ((x : Change) × (xs : List Change) × (changes ≡ x ∷ xs)) × (redo ≡ record { op = record { 0 = n }; changes = changes })
from_record n redo [] e = absurd (cc)
from_record n redo (x ∷ xs) e = ((x, xs, refl), cc)

pub commits_append : CommitsAppend
commits_append s w journal when first_tree numbers a outcome redo server m at numbered op has may =
    let up = up_mounted (s.core.servers a).phase (up_of s.core.setting s.core.locks a (s.core.servers a) (Finishing outcome) at) in
    let j = mounted_journal (s.core.servers a).phase up (s.core.servers a).ring s.core.now s.core.flights s.disk (sector_log w a) a (journal a) (m.world.journals a server) in
    let q : IsNumbered s w when first_tree numbers a op.f.line.under.line.number op.f.line.operation = numbered op.f.line.under op.f.line.operation op.f.line.is op.f.line.asked in
    let record_is = ap (λ k. record_of (number_in s.core.setting op.f.line.under.line.number) k) op.out.says.changes ∙ sym (ap (λ (o : plans.Outcome). o.redo) op.f.outcome_is) ∙ has in
    let found = from_record (number_in s.core.setting op.f.line.under.line.number) redo op.out.o.changes record_is in
    journal_mounted (s.core.servers a).phase up (appended (s.core.servers a).ring redo) s.core.now (each_of_server a (flight_after outcome) s.core.flights) s.disk
    (sector_log (after (fetched_world w a (claimed_in (s.core.servers a).cache op.out.o.claims)) (Do (operation_at s w when (tree_now when first_tree w) a outcome op))) a) a (journal_done (w.last a) (Some redo) (journal a))
    (subst (λ n. IsJournal life.Up (appended (s.core.servers a).ring redo) s.core.now (each_of_server a (flight_after outcome) s.core.flights) s.disk
    (record {
      durable = w.durable a;
      acked = w.acked a;
      floor = w.floor a;
      last = n;
      records = put w.log a (redo_of (operation_at s w when (tree_now when first_tree w) a outcome op) ∷ w.log a) a;
      history = Done (operation_at s w when (tree_now when first_tree w) a outcome op) ∷ settled w.history;
      versions = λ t. version_of (w.disk t);
    })
    a (journal_done (w.last a) (Some redo) (journal a))) (sym (put_same w.last a (number_in s.core.setting op.f.line.under.line.number)))
    (subst (λ rs. IsJournal life.Up (appended (s.core.servers a).ring redo) s.core.now (each_of_server a (flight_after outcome) s.core.flights) s.disk
    (record {
      durable = w.durable a;
      acked = w.acked a;
      floor = w.floor a;
      last = number_in s.core.setting op.f.line.under.line.number;
      records = rs;
      history = Done (operation_at s w when (tree_now when first_tree w) a outcome op) ∷ settled w.history;
      versions = λ t. version_of (w.disk t);
    })
    a (journal_done (w.last a) (Some redo) (journal a))) (sym (put_same w.log a (redo_of (operation_at s w when (tree_now when first_tree w) a outcome op) ∷ w.log a)))
    (appended_journal w (operation_at s w when (tree_now when first_tree w) a outcome op) m.good.logged q.above (s.core.servers a).phase (s.core.servers a).ring s.core.now s.core.flights s.disk (journal a) j outcome redo found.1 found.0.0
    found.0.1 found.0.2 may)))
