-- An operation without a record: it ends where the last one did, so it is durable and acknowledged just where the log is.
use Rattle.std.proofs.Common.{◌≡◌, ◌↔◌, ◌≤◌, ◌<◌, ℕ, Bool, true, false, not, if◌then◌else◌, nat_le, List, [], ◌∷◌, reverse, refl, sym, ap, ◌∙◌, subst, inl, inr, arith, le_refl, le_trans, None}
use Rattle.std.proofs.lemmas.Bool.{false≢true, le-leb, leb-true}
use Rattle.std.specs.List.{Contains}
use Rattle.frang_base.specs.declared.change.Change.{Change}
use Rattle.sector_bytes.specs.Sectors.{Sectors}
use Rattle.disk_definitions.specs.Logs.{log_end}
use Rattle.ring_definitions.specs.RingRuns.{Placed}
use Rattle.ring_definitions.specs.Rings.{Ring, last}
use Rattle.core_definitions.specs.Flights.{Flight, Flights, OfLog, each_of_server}
use Rattle.core_definitions.specs.LineEffects.{flight_after, purpose_after}
use Rattle.core_definitions.specs.Lines.{Finishing}
use Rattle.core_definitions.specs.Plans as plans
use Rattle.core_definitions.specs.Plans.{record_of}
use Rattle.core_definitions.specs.Servers as life
use Rattle.core_laws.proofs.FlightLists.{all_changed, all_flights, in_flights}
use Rattle.core_laws.proofs.Membership.{contains_in, in_contains}
use Rattle.sector_world.specs.Histories.{Commit, Each, Item, redo_of, settled}
use Rattle.sector_world.specs.Histories.Item.{Done, Doubt}
use Rattle.sector_world.specs.Logged.{Logged}
use Rattle.sector_world.specs.World.{World}
use Rattle.core_world.specs.Journals.{AreRecords, AreSent, IsCounted, IsJournal, IsSent, IsUpTo, Journal, SectorLog, is_above, records_above, sector_log}
use Rattle.core_world.specs.Readings.{changing, keep_changing}
use Rattle.core_lives.proofs.Alike.{journal_mounted, mounted_journal}
use Rattle.core_commits.specs.Finished.{number_in}
use Rattle.core_commits.specs.Moments.{IsNumbered, operation_at}
use Rattle.core_commits.specs.Standing.{tree_now}
use Rattle.core_commits.proofs.Reclaiming.{up_of}
use Rattle.core_line_steps.specs.Marks.{journal_done}
use Rattle.core_line_steps.proofs.Ended.{up_mounted}
use Rattle.core_line_journals.proofs.Appending.{AllOps, changing_ops, log_purpose, never, own_ops, past_not, placed_op, turned_ops}
use Rattle.core_line_journals.specs.Appends.{CommitsWithoutRecords, log_without}

module _ (w : World) (c : Commit) (logged : Logged w) (new : w.last c.by < c.op) (ring : Ring) (now : ℕ) (flights : Flights) (disk : Sectors) (jn : Journal)
    (j : IsJournal life.Up ring now flights disk (sector_log w c.by) c.by jn) (outcome : plans.Outcome) (none : c.changes ≡ []) where
  abbrev before : ℕ
  before = w.last c.by

  abbrev then_ : Journal
  then_ = journal_done (w.last c.by) None jn

  abbrev log : SectorLog
  log = log_without w c ring jn.log.slots

  -- ends
  new_end : then_.ends c.op ≡ last ring
  new_end = ap (λ (b : Bool). if b then jn.ends c.op else last jn.log.ring) (past_not c.op (w.last c.by) new) ∙ ap (λ (y : Ring). last y) j.ring_is

  old_end : (n : ℕ) → n ≤ w.last c.by → then_.ends n ≡ jn.ends n
  old_end n l = ap (λ (b : Bool). if b then jn.ends n else last jn.log.ring) (le-leb n (w.last c.by) l)

  low_end : (n : ℕ) → n ≤ w.last c.by → jn.ends n ≤ last ring
  low_end n l = subst (λ k. jn.ends n ≤ k) j.counted.ends_at (j.counted.rises n (w.last c.by) l)

  rises : (n m : ℕ) → n ≤ m → then_.ends n ≤ then_.ends m
  rises n m l = go (nat_le n before) refl (nat_le m before) refl
    where
      go : (a : Bool) → nat_le n before ≡ a → (b : Bool) → nat_le m before ≡ b → (if a then jn.ends n else last jn.log.ring) ≤ (if b then jn.ends m else last jn.log.ring)
      go true p true q = j.counted.rises n m l
      go true p false q = subst (λ k. jn.ends n ≤ k) (ap (λ (y : Ring). last y) (sym j.ring_is)) (low_end n (leb-true n before p))
      go false p true q = absurd (false≢true (sym p ∙ le-leb n before (le_trans l (leb-true m before q))))
      go false p false q = le_refl (last jn.log.ring)

  -- where not all is there, as before
  up_to : (limit k : ℕ) (h : List Item) → Each (λ i. i.op ≤ w.last i.by) h → IsUpTo jn.ends limit c.by k h → IsUpTo then_.ends limit c.by k h
  up_to limit k [] all up = tt
  up_to limit k (Done i ∷ h) all up =
      ((λ mine. subst (λ n. (i.op ≤ k) ↔ (n ≤ limit)) (sym (old_end i.op (subst (λ b. i.op ≤ w.last b) mine all.0))) (up.0 mine)), up_to limit k h all.1 up.1)
  up_to limit k (Doubt n ∷ h) all up = up_to limit k h all up

  -- where all is, each operation is
  all_to : (limit : ℕ) → last ring ≤ limit → (h : List Item) → Each (λ i. i.op ≤ w.last i.by) h → IsUpTo then_.ends limit c.by c.op h
  all_to limit low [] all = tt
  all_to limit low (Done i ∷ h) all = (head, all_to limit low h all.1)
    where
      under : (n m k : ℕ) → n ≤ m → m < k → n ≤ k
      under n m k l r = omega (arith, l, r)

      head : i.by ≡ c.by → (i.op ≤ c.op) ↔ (then_.ends i.op ≤ limit)
      head mine =
          let old : i.op ≤ w.last c.by = subst (λ b. i.op ≤ w.last b) mine all.0 in
          ((λ l. subst (λ n. n ≤ limit) (sym (old_end i.op old)) (le_trans (low_end i.op old) low)), (λ l. under i.op (w.last c.by) c.op old new))
  all_to limit low (Doubt n ∷ h) all = all_to limit low h all

  counted_by : (limit k : ℕ) → k < c.op → IsUpTo jn.ends limit c.by k (settled w.history) → (b : Bool) → nat_le (last ring) limit ≡ b → IsUpTo then_.ends limit c.by (if b then c.op else k) (Done c ∷ settled w.history)
  counted_by limit k less up true e =
      ((λ mine. ((λ l. subst (λ n. n ≤ limit) (sym new_end) (leb-true (last ring) limit e)), (λ l. le_refl c.op))), all_to limit (leb-true (last ring) limit e) (settled w.history) logged.below)
  counted_by limit k less up false e =
      ((λ mine. ((λ l. absurd (never c.op k l less)), (λ l. absurd (false≢true (sym e ∙ le-leb (last ring) limit (subst (λ n. n ≤ limit) new_end l)))))), up_to limit k (settled w.history) logged.below up)

  over_durable : w.durable c.by < c.op
  over_durable = at (w.durable c.by) (w.last c.by) c.op (logged.reached c.by) new
    where
      at : (a b n : ℕ) → a ≤ b → b < n → a < n
      at a b n l k = omega (arith, l, k)

  over_acked : w.acked c.by < c.op
  over_acked = at (w.acked c.by) (w.durable c.by) c.op (logged.acks c.by) over_durable
    where
      at : (a b n : ℕ) → a ≤ b → b < n → a < n
      at a b n l k = omega (arith, l, k)

  counted_then : IsCounted log c.by ring (log_end jn.log.slots) then_.ends
  counted_then = record {
    rises = rises;
    durable = counted_by (log_end jn.log.slots) (w.durable c.by) over_durable j.counted.durable (nat_le (last ring) (log_end jn.log.slots)) refl;
    acked = counted_by ring.reached (w.acked c.by) over_acked j.counted.acked (nat_le (last ring) ring.reached) refl;
    newest = inr (inl (refl, refl));
    ends_at = new_end;
  }

  -- writes on their way
  abbrev IsOnItsWay : Flight → Type 0
  IsOnItsWay f = (number : ℕ) → f.server ≡ c.by → f.purpose ≡ OfLog number → now ≤ f.stamp → IsSent jn.log.flying number f.block

  keep : (f : Flight) → IsOnItsWay f → (b : Bool) → IsOnItsWay (if b then record f { purpose = purpose_after outcome f.sector f.purpose } else f)
  keep f way false number mine purpose early = way number mine purpose early
  keep f way true number mine purpose early = way number mine (log_purpose outcome f.sector number f.purpose purpose) early

  sent_then : AreSent then_ now (each_of_server c.by (flight_after outcome) flights) c.by
  sent_then one number there mine purpose early =
      in_flights IsOnItsWay (each_of_server c.by (flight_after outcome) flights) one (contains_in (each_of_server c.by (flight_after outcome) flights) one there)
      (all_changed IsOnItsWay c.by (flight_after outcome) (λ f way. keep f way f.present) flights (all_flights IsOnItsWay flights (λ o i n. j.sent o n (in_contains flights o i)))) number mine purpose early

  -- records
  old_op : (p : Placed) → Contains jn.log.placed p → p.redo.op.0 ≤ w.last c.by
  old_op p there = go (is_above (w.floor c.by) p) refl
    where
      ops : AllOps (w.last c.by) (records_above (w.floor c.by) jn.log.placed)
      ops = subst (AllOps (w.last c.by)) (sym j.records.placed) (turned_ops (w.last c.by) (changing (w.log c.by)) (changing_ops (w.last c.by) (w.log c.by)
          (subst (AllOps (w.last c.by)) (sym (logged.logs c.by)) (own_ops c.by (w.floor c.by) w.last (settled w.history) logged.below))))

      not_above : (b : Bool) → not b ≡ false → b ≡ true
      not_above true q = refl
      not_above false q = absurd (false≢true (sym q))

      go : (b : Bool) → is_above (w.floor c.by) p ≡ b → p.redo.op.0 ≤ w.last c.by
      go true q = placed_op (w.last c.by) (w.floor c.by) jn.log.placed ops p there q
      go false q = le_trans (leb-true p.redo.op.0 (w.floor c.by) (not_above (nat_le p.redo.op.0 (w.floor c.by)) q)) (logged.floored c.by)

  records_then : AreRecords then_ log
  records_then = record {
    ends_at_last = λ p there. old_end p.redo.op.0 (old_op p there) ∙ j.records.ends_at_last p there;
    given_up = j.records.given_up;
    placed = j.records.placed ∙ ap (λ l. reverse l) (sym (ap (λ cs. keep_changing cs (redo_of c) (changing (w.log c.by))) none));
    old = j.records.old;
  }

  pub journal_then : IsJournal life.Up ring now (each_of_server c.by (flight_after outcome) flights) disk log c.by then_
  journal_then = record { good = j.good; ring_is = j.ring_is; slots = j.slots; counted = counted_then; sent = sent_then; records = records_then }

-- ---- at a moment of a run

no_changes : (n : ℕ) (changes : List Change) → record_of n changes ≡ None → changes ≡ []
no_changes n [] e = refl
no_changes n (x ∷ xs) e = absurd (cc)

pub commits_without : CommitsWithoutRecords
commits_without s w journal when first_tree numbers a outcome server m at numbered op has =
    let up = up_mounted (s.core.servers a).phase (up_of s.core.setting s.core.locks a (s.core.servers a) (Finishing outcome) at) in
    let j = mounted_journal (s.core.servers a).phase up (s.core.servers a).ring s.core.now s.core.flights s.disk (sector_log w a) a (journal a) (m.world.journals a server) in
    let q : IsNumbered s w when first_tree numbers a op.f.line.under.line.number op.f.line.operation = numbered op.f.line.under op.f.line.operation op.f.line.is op.f.line.asked in
    let record_is = ap (λ k. record_of (number_in s.core.setting op.f.line.under.line.number) k) op.out.says.changes ∙ sym (ap (λ (o : plans.Outcome). o.redo) op.f.outcome_is) ∙ has in
    journal_mounted (s.core.servers a).phase up (s.core.servers a).ring s.core.now (each_of_server a (flight_after outcome) s.core.flights) s.disk
    (log_without w (operation_at s w when (tree_now when first_tree w) a outcome op) (s.core.servers a).ring (journal a).log.slots) a (journal_done (w.last a) None (journal a))
    (journal_then w (operation_at s w when (tree_now when first_tree w) a outcome op) m.good.logged q.above (s.core.servers a).ring s.core.now s.core.flights s.disk (journal a) j outcome
    (no_changes (number_in s.core.setting op.f.line.under.line.number) op.out.o.changes record_is))
