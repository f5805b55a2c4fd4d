-- A good log and its ring beside the writes in flight, at each thing that happens to it: a sector arrives, one is acknowledged or issued, a record is appended, the oldest are given up.
use Rattle.std.proofs.Common.{◌≡◌, ℕ, suc, ◌+◌, ◌-◌, ◌%◌, ◌<◌, ◌≤◌, ◌^◌, ◌⊎◌, inl, inr, ◌&&◌, true, not, List, [], ◌∷◌, ◌++◌, Some, length, take, nat_le, nat_lt, refl, sym, ap, ◌∙◌, subst, arith}
use Rattle.std.proofs.Math.Nat.{le_trans}
use Rattle.std.proofs.lemmas.Bool.{and_from, cases_eq, eq-eqb, eqb-true, le-leb, lt-ltb, ne_eqb, or_left, or_right}
use Rattle.std.proofs.lemmas.List.Elements.{All-contains, All-weaker, Contains-append_left, Contains-push, Contains-push_cases}
use Rattle.std.proofs.lemmas.Option.{same_Some, none-some}
use Rattle.std.specs.List.{All, Contains, list_any, slice_get}
use Rattle.frang_base.specs.declared.change.Redo.{Redo}
use Rattle.disk_definitions.proofs.EndLaws.{all_numbers_below, numbers_are_below, sealed_from}
use Rattle.disk_definitions.proofs.Listed.{Among, among_filter}
use Rattle.disk_definitions.proofs.SameLogs.{SameSlots}
use Rattle.disk_definitions.specs.Arriving.{with_sector}
use Rattle.disk_definitions.specs.LogSectors.{log_sector_bytes}
use Rattle.disk_definitions.specs.Logs.{Slots, is_sealed, log_end, sectors_read}
use Rattle.disk_definitions.specs.declared.log_sector.LogSector.{LogSector}
use Rattle.lock_definitions.specs.Lease.{IsInTime}
use Rattle.sector_bytes.specs.Blocks.{Block}
use Rattle.ring_definitions.specs.RingRuns.{EndsWithin, LogEvent, LogState, after_log_event, after_log_events, is_flying, is_numbered, log_at, may_happen, with_arrived}
use Rattle.ring_definitions.specs.RingRuns.LogEvent.{Acknowledge, Append, Arrive, GiveUp, Issue}
use Rattle.ring_definitions.specs.RingSteps.{IsGoodLog}
use Rattle.ring_definitions.specs.Rings.{Ring, acked, appended, first_waiting, free, is_record, issued, last, need, reclaimed, sent}
use Rattle.ring_definitions.specs.Sealing.{IsWithinFlight}
use Rattle.ring_definitions.proofs.Good.{IsGood}
use Rattle.ring_definitions.proofs.GoodLogs.{end_of_good_goes_on, good_ends, good_run, stays_good}
use Rattle.ring_definitions.proofs.Standing.{IsFlown, arrived_elsewhere, arrived_here, left, left_same}
use Rattle.core_definitions.specs.Flights.{Flight, Flights, OfLog}
use Rattle.core_definitions.specs.Runs.{State}
use Rattle.core_laws.proofs.Membership.{contains_in, in_contains}
use Rattle.core_journals.specs.Journals.{GoesOn, Happens, IsJournal, IsSent, Journal}
use Rattle.core_journals.proofs.LogBlocks.{with_elsewhere, with_here}

-- ---- what is on its way

module _ (slots : Slots) (w : LogState) (good : IsGoodLog slots w) where
  abbrev pub behind : LogState
  behind = after_log_events (log_at slots) good.events

  pub is_good : IsGood (log_end slots) (sectors_read slots (log_end slots)) behind
  is_good = good_run slots good.events good.low good.high good.sealed good.happened

  abbrev pub all_sectors : List LogSector
  all_sectors = sectors_read slots (log_end slots) ++ is_good.rest

  are_flown : All (IsFlown (log_end slots - 191) all_sectors w.ring.reached (sent w.ring)) w.flying
  are_flown =
      subst (All (IsFlown (log_end slots - 191) all_sectors w.ring.reached (sent w.ring))) (sym good.left.flying)
      (subst (λ (r : Ring). All (IsFlown (log_end slots - 191) all_sectors r.reached (sent r)) behind.flying) (sym good.left.ring) is_good.standing.flown)

  pub is_flown : (x : LogSector) → Contains w.flying x → IsFlown (log_end slots - 191) all_sectors w.ring.reached (sent w.ring) x
  is_flown x i = All-contains (IsFlown (log_end slots - 191) all_sectors w.ring.reached (sent w.ring)) w.flying x are_flown i

  -- the sectors of a number are one
  one_of : (x : LogSector) → Contains w.flying x → All (λ y. is_numbered x.seq y ≡ true → y ≡ x) w.flying
  one_of x i =
      All-weaker (IsFlown (log_end slots - 191) all_sectors w.ring.reached (sent w.ring)) (λ y. is_numbered x.seq y ≡ true → y ≡ x)
      (λ y f e. same_Some y x (sym f.same ∙ ap (λ n. slice_get all_sectors (n - (log_end slots - 191))) (eqb-true y.seq x.seq e) ∙ (is_flown x i).same)) w.flying are_flown

  any_of : (x : LogSector) (number : ℕ) → x.seq ≡ number → (xs : List LogSector) → Among x xs → list_any (is_numbered number) xs ≡ true
  any_of x number e [] i = absurd i
  any_of x number e (y ∷ ys) (inl same) = or_left (is_numbered number y) (list_any (is_numbered number) ys) (eq-eqb y.seq number (ap (λ (z : LogSector). z.seq) (sym same) ∙ e))
  any_of x number e (y ∷ ys) (inr i) = or_right (is_numbered number y) (list_any (is_numbered number) ys) (any_of x number e ys i)

  pub flies_at : (x : LogSector) (number : ℕ) → x.seq ≡ number → Contains w.flying x → is_flying w number ≡ true
  flies_at x number e i = any_of x number e w.flying (contains_in w.flying x i)

  -- what stands in the slots once it has arrived
  pub arrived_slots : (x : LogSector) → Contains w.flying x → SameSlots (with_arrived x.seq w.slots w.flying) (with_sector w.slots x)
  arrived_slots x i slot low = go (cases_eq slot (x.seq % 256))
    where
      go : (slot ≡ x.seq % 256) ⊎ (slot ≡ x.seq % 256 → ⊥) → with_arrived x.seq w.slots w.flying slot ≡ with_sector w.slots x slot
      go (inl e) =
          ap (with_arrived x.seq w.slots w.flying) e ∙ arrived_here x.seq w.flying w.slots x (one_of x i) (inr (flies_at x x.seq refl i)) ∙ sym (with_here w.slots x)
          ∙ ap (with_sector w.slots x) (sym e)
      go (inr ne) = arrived_elsewhere x.seq w.flying w.slots slot ne ∙ sym (with_elsewhere w.slots x slot ne)

-- where it ends, its numbers, and that it is sealed where all is acknowledged
module _ (slots : Slots) (w : LogState) (good : IsGoodLog slots w) where
  within : EndsWithin w
  within = good_ends slots w good

  pub end_small : last w.ring < 2 ^ 62 → log_end w.slots < 2 ^ 62
  end_small h = up (log_end w.slots) (sent w.ring) (length w.ring.waiting) within.not_above h
    where
      up : (e n k : ℕ) → e ≤ n → n + k < 2 ^ 62 → e < 2 ^ 62
      up e n k h i = omega (arith, h, i)

  pub flight_bound : IsWithinFlight w.slots
  flight_bound =
      all_numbers_below w.slots (log_end w.slots + 64)
      (λ n s. up n (sent w.ring) w.ring.reached (log_end w.slots) (numbers_are_below w.slots (sent w.ring) within.numbers n s) within.window within.not_below)
    where
      up : (n m r e : ℕ) → n ≤ m → m ≤ r + 64 → r ≤ e → n ≤ e + 64
      up n m r e h i j = omega (arith, h, i, j)

  pub acked_sealed : w.ring.reached ≡ last w.ring → is_sealed w.slots ≡ true
  acked_sealed all =
      sealed_from w.slots
      (λ n s. up n w.ring.reached (length w.ring.above) (length w.ring.waiting) (log_end w.slots) (numbers_are_below w.slots (sent w.ring) within.numbers n s) all within.not_below)
    where
      up : (n r a k e : ℕ) → n ≤ r + a → r ≡ r + a + k → r ≤ e → n ≤ e
      up n r a k e h i j = omega (arith, h, i, j)

-- ---- a journal goes on

abbrev pub Sends : List LogSector → ℕ → Flights → ℕ → Type 0
Sends flying now flights a = (one : ℕ × Flight) (number : ℕ) → Contains flights one → one.1.server ≡ a → one.1.purpose ≡ OfLog number → IsInTime one.1.stamp now → IsSent flying number one.1.block

abbrev pub with_event : Journal → LogEvent → Journal
with_event j e = record j { log = after_log_event j.log e }

pub one_event : (s : State) (a : ℕ) (j : Journal) (e : LogEvent) → may_happen j.log e ≡ true → GoesOn s a j (with_event j e)
one_event s a j e may = Happens (e ∷ []) (and_from (may_happen j.log e) true may refl)

pub no_event : (s : State) (a : ℕ) (j : Journal) → GoesOn s a j j
no_event s a j = Happens [] refl

pub two_events : (s : State) (a : ℕ) (j : Journal) (e f : LogEvent) → may_happen j.log e ≡ true → may_happen (after_log_event j.log e) f ≡ true → GoesOn s a j (with_event (with_event j e) f)
two_events s a j e f may more =
    Happens (e ∷ f ∷ []) (and_from (may_happen j.log e) (may_happen (after_log_event j.log e) f && true) may (and_from (may_happen (after_log_event j.log e) f) true more refl))

-- a sector of it arrives
module _ (ring : Ring) (now : ℕ) (flights : Flights) (a : ℕ) (j : Journal) (is : IsJournal ring now flights a j) (number : ℕ) (x : LogSector) (there : Contains j.log.flying x) (e : x.seq ≡ number) where
  pub arrive_may : may_happen j.log (Arrive number) ≡ true
  arrive_may = flies_at j.before j.log is.good x number e there

  still_sent : (n : ℕ) (block : Block) → (n ≡ number → ⊥) → IsSent j.log.flying n block → IsSent (left number j.log.flying) n block
  still_sent n block apart s = record {
    sector = s.sector;
    there = in_contains (left number j.log.flying) s.sector
        (among_filter (λ y. not (is_numbered number y)) j.log.flying s.sector (contains_in j.log.flying s.sector s.there) (ap not (ne_eqb s.sector.seq number (λ f. apart (sym s.number_is ∙ f)))));
    number_is = s.number_is;
    block_is = s.block_is;
  }

  pub arrives : (later : ℕ) (others : Flights) →
      ((one : ℕ × Flight) (n : ℕ) → Contains others one → one.1.server ≡ a → one.1.purpose ≡ OfLog n → IsInTime one.1.stamp later → IsSent j.log.flying n one.1.block × (n ≡ number → ⊥)) →
      IsJournal ring later others a (with_event j (Arrive number))
  arrives later others rest = record {
    good = stays_good j.before j.log (Arrive number) is.good arrive_may;
    ring_is = is.ring_is;
    low = le_trans is.low (end_of_good_goes_on j.before j.log number is.good arrive_may);
    sent = λ one n i by of early. let r = rest one n i by of early in still_sent n one.1.block r.1 r.0;
  }

  pub arrive_slots : SameSlots (with_event j (Arrive number)).log.slots (with_sector j.log.slots x)
  arrive_slots = subst (λ n. SameSlots (with_arrived n j.log.slots j.log.flying) (with_sector j.log.slots x)) e (arrived_slots j.before j.log is.good x there)

  -- and may be acknowledged then
  pub ack_may : may_happen (with_event j (Arrive number)).log (Acknowledge number) ≡ true
  ack_may =
      and_from (nat_le number (sent j.log.ring)) (not (is_flying (with_event j (Arrive number)).log number))
      (le-leb number (sent j.log.ring) (subst (λ n. n ≤ sent j.log.ring) e (is_flown j.before j.log is.good x there).high)) (ap not (left_same number j.log.flying))

module _ (ring : Ring) (now : ℕ) (flights : Flights) (a : ℕ) (j : Journal) (is : IsJournal ring now flights a j) where
  pub acknowledged : (number : ℕ) → may_happen j.log (Acknowledge number) ≡ true → IsJournal (acked ring number) now flights a (with_event j (Acknowledge number))
  acknowledged number may = record { good = stays_good j.before j.log (Acknowledge number) is.good may; ring_is = ap (λ r. acked r number) is.ring_is; low = is.low; sent = is.sent }

  pub gives_up : IsJournal (reclaimed ring) now flights a (with_event j GiveUp)
  gives_up = record { good = stays_good j.before j.log GiveUp is.good refl; ring_is = ap reclaimed is.ring_is; low = is.low; sent = is.sent }

  pub append_may : (redo : Redo) → is_record redo ≡ true → nat_le (need ring redo) (free ring) ≡ true → last ring < 2 ^ 62 → may_happen j.log (Append redo) ≡ true
  append_may redo fits room small =
      subst (λ r. (is_record redo && nat_le (need r redo) (free r) && nat_lt (last r) (2 ^ 63 - 16)) ≡ true) (sym is.ring_is)
      (and_from (is_record redo && nat_le (need ring redo) (free ring)) (nat_lt (last ring) (2 ^ 63 - 16)) (and_from (is_record redo) (nat_le (need ring redo) (free ring)) fits room)
      (lt-ltb (last ring) (2 ^ 63 - 16) (more (last ring) small)))
    where
      more : (n : ℕ) → n < 2 ^ 62 → n < 2 ^ 63 - 16
      more n h = omega (arith, h)

  pub appends : (redo : Redo) → may_happen j.log (Append redo) ≡ true → IsJournal (appended ring redo) now flights a (with_event j (Append redo))
  appends redo may = record { good = stays_good j.before j.log (Append redo) is.good may; ring_is = ap (λ r. appended r redo) is.ring_is; low = is.low; sent = is.sent }

  -- the first sector that waits is issued
  pub record Next (number : ℕ) (block : Block) : Type 0 where
    pub sector : LogSector
    pub rest : List LogSector
    pub waits : ring.waiting ≡ sector ∷ rest
    pub number_is : number ≡ sent ring + 1
    pub block_is : block ≡ log_sector_bytes sector

  pub next_is : (number : ℕ) (block : Block) → first_waiting (sent ring + 1) ring.waiting ≡ Some (number, block) → Next number block
  next_is number block e = go ring.waiting refl e
    where
      go : (waiting : List LogSector) → ring.waiting ≡ waiting → first_waiting (sent ring + 1) waiting ≡ Some (number, block) → Next number block
      go [] f e = absurd (none-some (number, block) e)
      go (x ∷ xs) f e =
          let same : (sent ring + 1, log_sector_bytes x) ≡ (number, block) = same_Some (sent ring + 1, log_sector_bytes x) (number, block) e in
          record { sector = x; rest = xs; waits = f; number_is = ap (λ (p : ℕ × Block). p.0) (sym same); block_is = ap (λ (p : ℕ × Block). p.1) (sym same) }

  pub issue_may : (number : ℕ) (block : Block) → Next number block → number ≤ ring.reached + 64 → may_happen j.log Issue ≡ true
  issue_may number block n window =
      subst (λ r. (nat_lt 0 (length r.waiting) && nat_lt (length r.above) 64) ≡ true) (sym is.ring_is)
      (and_from (nat_lt 0 (length ring.waiting)) (nat_lt (length ring.above) 64) (subst (λ (xs : List LogSector). nat_lt 0 (length xs) ≡ true) (sym n.waits) (lt-ltb 0 (suc (length n.rest)) (some (length n.rest))))
      (lt-ltb (length ring.above) 64 (small number ring.reached (length ring.above) n.number_is window)))
    where
      some : (n : ℕ) → 0 < suc n
      some n = omega arith

      small : (n r k : ℕ) → n ≡ r + k + 1 → n ≤ r + 64 → k < 64
      small n r k e h = omega (arith, e, h)

  pub issue_sent : (number : ℕ) (block : Block) → Next number block → IsSent (with_event j Issue).log.flying number block
  issue_sent number block n = record {
    sector = n.sector;
    there = subst (λ xs. Contains (j.log.flying ++ take 1 xs) n.sector) (sym (ap (λ (r : Ring). r.waiting) is.ring_is ∙ n.waits)) (Contains-push j.log.flying n.sector);
    number_is = (good_ends j.before j.log is.good).waits 0 n.sector (ap (λ xs. slice_get xs 0) (ap (λ (r : Ring). r.waiting) is.ring_is ∙ n.waits)) ∙ zero_more (sent j.log.ring) ∙ ap (λ r. sent r + 1) is.ring_is ∙ sym n.number_is;
    block_is = n.block_is;
  }
    where
      zero_more : (n : ℕ) → n + 1 + 0 ≡ n + 1
      zero_more n = omega arith

  pub issues : (number : ℕ) (block : Block) → Next number block → number ≤ ring.reached + 64 → (more : ℕ × Flight) → ((n : ℕ) → more.1.purpose ≡ OfLog n → (n ≡ number) × (more.1.block ≡ block)) →
      IsJournal (issued ring) now (flights ++ more ∷ []) a (with_event j Issue)
  issues number block n window more of = record {
    good = stays_good j.before j.log Issue is.good (issue_may number block n window);
    ring_is = ap issued is.ring_is;
    low = is.low;
    sent = λ one k i by purpose early. go one k (Contains-push_cases flights more one i) by purpose early;
  }
    where
      still : (k : ℕ) (b : Block) → IsSent j.log.flying k b → IsSent (with_event j Issue).log.flying k b
      still k b s = record { sector = s.sector; there = Contains-append_left j.log.flying (take 1 j.log.ring.waiting) s.sector s.there; number_is = s.number_is; block_is = s.block_is }

      go : (one : ℕ × Flight) (k : ℕ) → Contains flights one ⊎ (more ≡ one) → one.1.server ≡ a → one.1.purpose ≡ OfLog k → IsInTime one.1.stamp now → IsSent (with_event j Issue).log.flying k one.1.block
      go one k (inl i) by purpose early = still k one.1.block (is.sent one k i by purpose early)
      go one k (inr e) by purpose early =
          let r = of k (ap (λ (o : ℕ × Flight). o.1.purpose) e ∙ purpose) in
          let s : IsSent (with_event j Issue).log.flying number block = issue_sent number block n in
          record { sector = s.sector; there = s.there; number_is = s.number_is ∙ sym r.0; block_is = ap (λ (o : ℕ × Flight). o.1.block) (sym e) ∙ r.1 ∙ s.block_is }
