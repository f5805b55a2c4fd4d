-- The log of a server that has nothing to write is at rest: it ends where all is acknowledged, no number stands above, and all its records are in place.
use Rattle.std.proofs.Common.{◌≡◌, ◌⊎◌, ℕ, zero, suc, ◌+◌, ◌-◌, ◌≤◌, Bool, true, false, not, IsTrue, is_some, List, [], ◌∷◌, ◌++◌, take, drop, filter, length, map, reverse, Option, Some, None, nat_eq, nat_le, nat_lt, if◌then◌else◌, refl, sym, ap, ◌∙◌, subst, ⊎_elim, arith}
use Rattle.std.proofs.lemmas.Bool.{eqb-true}
use mathlib.Core.List.{reverse-cons}
use Rattle.frang_base.specs.declared.change.Change.{Change}
use Rattle.frang_base.specs.declared.change.Redo.{Redo}
use Rattle.frang_base.specs.declared.limits.TheConstants.{LOG_SECTORS}
use Rattle.frang_base.proofs.Basics.{by_keep}
use Rattle.sector_bytes.specs.Blocks.{version_of}
use Rattle.sector_bytes.specs.Replays.{change_at}
use Rattle.sector_bytes.specs.Sectors.{Sectors}
use Rattle.disk_definitions.proofs.EndLaws.{numbers_are_below, sealed_from}
use Rattle.disk_definitions.proofs.SameLogs.{SameSlots, log_end_same, log_records_same, sector_same}
use Rattle.disk_definitions.specs.Logs.{Slots, is_sealed, log_end, log_records}
use Rattle.disk_definitions.specs.Replay.{slots_of}
use Rattle.ring_definitions.proofs.GoodLogs.{good_run}
use Rattle.ring_definitions.specs.RingRuns.{EndsWithin, Placed, ReadsBack, after_log_events, all_records, log_at}
use Rattle.ring_definitions.specs.RingSteps.{GoodLogsEndWithin, GoodLogsReadBack}
use Rattle.ring_definitions.specs.Rings.{Ring, last, sent}
use Rattle.core_definitions.specs.Flights.{Flights}
use Rattle.core_definitions.specs.Rings.{is_all_reached}
use Rattle.core_definitions.specs.Servers as life
use Rattle.sector_world.proofs.HistoryLaws.{AtMost, each_map, in_place_or}
use Rattle.sector_world.specs.Guards.{IsBelow, NotDirty}
use Rattle.sector_world.specs.Histories.{Each, Item, is_own, own, redo_of, settled}
use Rattle.sector_world.specs.Histories.Item.{Done, Doubt}
use Rattle.sector_world.specs.Kinds.{Good}
use Rattle.sector_world.specs.Logged.{Covers, Pending}
use Rattle.sector_world.specs.World.{World, Phase, Off, Up, Dead, Slot, Absent, Clean, Dirty}
use Rattle.core_world.specs.Journals.{IsAtRest, IsJournal, Journal, SectorLog, is_above, records_above, records_up_to, sector_log}
use Rattle.core_world.specs.Readings.{AllInPlace, changing, keep_changing}

-- ---- records in place, of lists

module _ (s v : ℕ) where
  pub both_in_place : (xs ys : List Redo) → AllInPlace xs s v → AllInPlace ys s v → AllInPlace (xs ++ ys) s v
  both_in_place [] ys a b = b
  both_in_place (x ∷ xs) ys a b = (a.0, both_in_place xs ys a.1 b)

  first_in_place : (xs ys : List Redo) → AllInPlace (xs ++ ys) s v → AllInPlace xs s v
  first_in_place [] ys a = tt
  first_in_place (x ∷ xs) ys a = (a.0, first_in_place xs ys a.1)

  second_in_place : (xs ys : List Redo) → AllInPlace (xs ++ ys) s v → AllInPlace ys s v
  second_in_place [] ys a = a
  second_in_place (x ∷ xs) ys a = second_in_place xs ys a.1

  turned_in_place : (xs : List Redo) → AllInPlace xs s v → AllInPlace (reverse xs) s v
  turned_in_place [] a = tt
  turned_in_place (x ∷ xs) a = subst (λ l. AllInPlace l s v) (sym (reverse-cons x xs)) (both_in_place (reverse xs) (x ∷ []) (turned_in_place xs a.1) (a.0, tt))

  taken_in_place : (n : ℕ) (xs : List Redo) → AllInPlace xs s v → AllInPlace (take n xs) s v
  taken_in_place zero xs a = tt
  taken_in_place (suc n) [] a = tt
  taken_in_place (suc n) (x ∷ xs) a = (a.0, taken_in_place n xs a.1)

  dropped_in_place : (n : ℕ) (xs : List Redo) → AllInPlace xs s v → AllInPlace (drop n xs) s v
  dropped_in_place zero xs a = a
  dropped_in_place (suc n) [] a = tt
  dropped_in_place (suc n) (x ∷ xs) a = dropped_in_place n xs a.1

  changing_in_place : (xs : List Redo) → AllInPlace xs s v → AllInPlace (changing xs) s v
  changing_in_place [] a = tt
  changing_in_place (x ∷ xs) a = by x.changes (changing_in_place xs a.1)
    where
      by : (changes : List Change) → AllInPlace (changing xs) s v → AllInPlace (keep_changing changes x (changing xs)) s v
      by [] rest = rest
      by (y ∷ ys) rest = (a.0, rest)

  -- those up to a number and those above it are all
  parts_in_place : (floor : ℕ) (placed : List Placed) → AllInPlace (records_up_to floor placed) s v → AllInPlace (records_above floor placed) s v →
      AllInPlace (map (λ p. p.redo) placed) s v
  parts_in_place floor [] a b = tt
  parts_in_place floor (p ∷ placed) a b = go (nat_le p.redo.op.0 floor) a b (parts_in_place floor placed)
    where
      go : (t : Bool) → AllInPlace (map (λ q. q.redo) (if t then p ∷ filter (λ q. nat_le q.redo.op.0 floor) placed else filter (λ q. nat_le q.redo.op.0 floor) placed)) s v →
          AllInPlace (map (λ q. q.redo) (if not t then p ∷ filter (is_above floor) placed else filter (is_above floor) placed)) s v →
          (AllInPlace (records_up_to floor placed) s v → AllInPlace (records_above floor placed) s v → AllInPlace (map (λ q. q.redo) placed) s v) →
          AllInPlace (map (λ q. q.redo) (p ∷ placed)) s v
      go true x y rest = (x.0, rest x.1 y)
      go false x y rest = (y.0, rest x y.1)

-- ---- of a server with nothing dirty all operations are in place

below_of : (o : Option Change) (n : ℕ) → AtMost o n → IsBelow o n
below_of None n l = tt
below_of (Some x) n l = l

not_covered : (p : Phase) (slot : Slot) (op : ℕ) → p ≡ Up → NotDirty slot → Covers p slot op → ⊥
not_covered Up Absent op e n c = c
not_covered Up (Clean block) op e n c = c
not_covered Up (Dirty block mark) op e n c = n
not_covered Off slot op e n c = c
not_covered Dead slot op e n c = absurd (cc)

pub own_in_place : (w : World) (a : ℕ) → Good w → w.phase a ≡ Up → ((s : ℕ) → NotDirty (w.slot a s)) → (s : ℕ) →
    Each (λ c. c.by ≡ a → IsBelow (change_at c.changes s) (version_of (w.disk s))) (settled w.history)
own_in_place w a g up clean s =
    each_map (λ c. Pending w s c ⊎ AtMost (change_at c.changes s) (version_of (w.disk s))) (λ c. c.by ≡ a → IsBelow (change_at c.changes s) (version_of (w.disk s)))
    (λ c d e. ⊎_elim (λ p. absurd (not_covered (w.phase c.by) (w.slot c.by s) c.op (ap w.phase e ∙ up) (subst (λ b. NotDirty (w.slot b s)) (sym e) (clean s)) p.covered))
    (λ l. below_of (change_at c.changes s) (version_of (w.disk s)) l) d)
    (settled w.history) (in_place_or w.opening w.durable s (Pending w s) (w.disk s) (settled w.history) (g.logged.place s) (g.logged.rising s))

own_records : (a f s v : ℕ) (h : List Item) → Each (λ c. c.by ≡ a → IsBelow (change_at c.changes s) v) h → AllInPlace (own a f h) s v
own_records a f s v [] all = tt
own_records a f s v (Doubt m ∷ h) all = own_records a f s v h all
own_records a f s v (Done c ∷ h) all =
    by_keep (λ x. AllInPlace x s v) (is_own a f c) (redo_of c) (own a f h) (λ e. (all.0 (by (nat_eq c.by a) refl e), own_records a f s v h all.1)) (λ e. own_records a f s v h all.1)
  where
    by : (b : Bool) → nat_eq c.by a ≡ b → (if b then nat_lt f c.op else false) ≡ true → c.by ≡ a
    by true e i = eqb-true c.by a e
    by false e i = absurd (cc)

-- ---- the log

-- where all is acknowledged it ends with the last number of the ring
pub ends_at_last : GoodLogsEndWithin → (ring : Ring) → IsTrue (is_all_reached ring) → (now : ℕ) (flights : Flights) (disk : Sectors) (log : SectorLog) (a : ℕ) (j : Journal) →
    IsJournal life.Up ring now flights disk log a j → log_end (slots_of disk a) ≡ last ring
ends_at_last ends ring all now flights disk log a j t =
    let within : EndsWithin j.log = ends j.before j.log t.good in
    log_end_same (slots_of disk a) j.log.slots t.slots
    ∙ met j.log.ring.reached (log_end j.log.slots) (sent j.log.ring) (length j.log.ring.waiting) within.not_below within.not_above
    (subst (λ r. r.reached ≡ last r) (sym t.ring_is) (eqb-true ring.reached (last ring) all))
    ∙ ap last t.ring_is
  where
    met : (r e n more : ℕ) → r ≤ e → e ≤ n → r ≡ n + more → e ≡ n + more
    met r e n more l h i = omega arith

module _ (ends : GoodLogsEndWithin) (reads : GoodLogsReadBack) (w : World) (a : ℕ) (g : Good w) (up : w.phase a ≡ Up) (clean : (s : ℕ) → NotDirty (w.slot a s))
    (ring : Ring) (all : IsTrue (is_all_reached ring)) (now : ℕ) (flights : Flights) (disk : Sectors) (j : Journal)
    (t : IsJournal life.Up ring now flights disk (sector_log w a) a j) where
  abbrev slots : Slots
  slots = slots_of disk a

  within : EndsWithin j.log
  within = ends j.before j.log t.good

  same : SameSlots slots j.log.slots
  same = t.slots

  reached_all : j.log.ring.reached ≡ last j.log.ring
  reached_all = subst (λ r. r.reached ≡ last r) (sym t.ring_is) (eqb-true ring.reached (last ring) all)

  -- no more is issued than is acknowledged
  end_is : log_end j.log.slots ≡ sent j.log.ring
  end_is = squeezed j.log.ring.reached (log_end j.log.slots) (sent j.log.ring) (length j.log.ring.waiting) within.not_below within.not_above reached_all
    where
      squeezed : (r e n more : ℕ) → r ≤ e → e ≤ n → r ≡ n + more → e ≡ n
      squeezed r e n more l h i = omega arith

  same_end : log_end slots ≡ log_end j.log.slots
  same_end = log_end_same slots j.log.slots same

  low : LOG_SECTORS ≤ log_end slots + 1
  low = far (log_end j.before) (after_log_events (log_at j.before) t.good.events).ring.reached j.log.ring.reached (log_end j.log.slots) (log_end slots) t.good.low
      (good_run j.before t.good.events t.good.low t.good.high t.good.sealed t.good.happened).standing.low (ap (λ r. r.reached) t.good.left.ring) within.not_below same_end
    where
      far : (f q r e m : ℕ) → 255 ≤ f → f - 191 + 191 ≤ q → r ≡ q → r ≤ e → m ≡ e → 256 ≤ m + 1
      far f q r e m a b c d h = omega arith

  sealed : IsTrue (is_sealed slots)
  sealed = sealed_from slots (λ n h. subst (λ e. n ≤ e) (sym (same_end ∙ end_is))
      (numbers_are_below j.log.slots (sent j.log.ring) within.numbers n (ap is_some (sym (sector_same slots j.log.slots same n)) ∙ h)))

  placed_in_place : (s : ℕ) → AllInPlace (map (λ p. p.redo) j.log.placed) s (version_of (w.disk s))
  placed_in_place s =
      parts_in_place s (version_of (w.disk s)) (w.floor a) j.log.placed
      (second_in_place s (version_of (w.disk s)) (log_records j.before) (records_up_to (w.floor a) j.log.placed) (t.records.old s))
      (subst (λ l. AllInPlace l s (version_of (w.disk s))) (sym t.records.placed)
      (turned_in_place s (version_of (w.disk s)) (changing (w.log a)) (changing_in_place s (version_of (w.disk s)) (w.log a)
      (subst (λ l. AllInPlace l s (version_of (w.disk s))) (sym (g.logged.logs a))
      (own_records a (w.floor a) s (version_of (w.disk s)) (settled w.history) (own_in_place w a g up clean s))))))

  old : (s : ℕ) → AllInPlace (log_records slots) s (version_of (w.disk s))
  old s =
      let back : ReadsBack j.before j.log = reads j.before j.log t.good in
      subst (λ l. AllInPlace l s (version_of (w.disk s))) (sym (log_records_same slots j.log.slots same ∙ back.reads))
      (dropped_in_place s (version_of (w.disk s)) back.missing (take back.prefix (all_records j.before j.log))
      (taken_in_place s (version_of (w.disk s)) back.prefix (all_records j.before j.log)
      (both_in_place s (version_of (w.disk s)) (log_records j.before) (map (λ p. p.redo) j.log.placed)
      (first_in_place s (version_of (w.disk s)) (log_records j.before) (records_up_to (w.floor a) j.log.placed) (t.records.old s)) (placed_in_place s))))

  pub at_rest : IsAtRest slots (sector_log w a)
  at_rest = record { low = low; sealed = sealed; old = old }
