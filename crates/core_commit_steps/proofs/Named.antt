-- Of each record of a ring that isn't given up the ring has what it names, with the number of the sector in which it begins.
use Rattle.std.proofs.Common.{◌≡◌, ◌+◌, ◌-◌, ◌≤◌, ◌<◌, ℕ, Bool, true, false, not, if◌then◌else◌, min, List, [], ◌∷◌, ◌++◌, nat_lt, slice_set, refl, sym, ap, subst, inl, inr, ⊎_elim, arith}
use Rattle.std.proofs.lemmas.Bool.{and_parts, lt-leb}
use Rattle.frang_base.specs.declared.change.Change.{Change}
use Rattle.disk_definitions.proofs.Listed.{Among, among_either, among_filter, among_left, among_map, among_right}
use Rattle.disk_definitions.specs.Logs.{Slots}
use Rattle.ring_definitions.specs.declared.ring.Named.{Named}
use Rattle.ring_definitions.specs.RingRuns.{LogEvent, LogState, Placed, after_log_event, after_log_events, log_at, may_all_happen, may_happen}
use Rattle.ring_definitions.specs.RingRuns.LogEvent.{Acknowledge, Append, Arrive, GiveUp, Issue}
use Rattle.ring_definitions.specs.RingSteps.{IsGoodLog}
use Rattle.ring_definitions.specs.Rings.{Ring, acked, begins, is_reclaimable_of, last, names_of, need, passed, reclaim_end_of, sent}
use Rattle.ring_definitions.proofs.GoodLogs.{begins_good, good_ends, stays_good}

-- the entry of a change of a record that begins there
abbrev pub entry : Change → ℕ → Named
entry x first = record { sector = x.sector; version = x.version; first = first }

abbrev pub AreAllNamed : LogState → Type 0
AreAllNamed w = (p : Placed) (x : Change) → Among p w.placed → Among x p.redo.changes → w.ring.given_up < p.first → Among (entry x p.first) w.ring.named

-- ---- what an acknowledgement leaves

passed_named : (r : Ring) (n : ℕ) (above : List Bool) → (passed r n above).named ≡ r.named
passed_named r n [] = refl
passed_named r n (true ∷ above) = passed_named r (n + 1) above
passed_named r n (false ∷ above) = refl

passed_given : (r : Ring) (n : ℕ) (above : List Bool) → (passed r n above).given_up ≡ r.given_up
passed_given r n [] = refl
passed_given r n (true ∷ above) = passed_given r (n + 1) above
passed_given r n (false ∷ above) = refl

acked_named : (r : Ring) (number : ℕ) → (acked r number).named ≡ r.named
acked_named r number = go (nat_lt r.reached number)
  where
    go : (b : Bool) → (if b then passed r r.reached (slice_set r.above (number - r.reached - 1) true) else r).named ≡ r.named
    go true = passed_named r r.reached (slice_set r.above (number - r.reached - 1) true)
    go false = refl

acked_given : (r : Ring) (number : ℕ) → (acked r number).given_up ≡ r.given_up
acked_given r number = go (nat_lt r.reached number)
  where
    go : (b : Bool) → (if b then passed r r.reached (slice_set r.above (number - r.reached - 1) true) else r).given_up ≡ r.given_up
    go true = passed_given r r.reached (slice_set r.above (number - r.reached - 1) true)
    go false = refl

-- ---- step by step

given_on : (g q s f : ℕ) → g ≤ s → min (g + q) s < f → g < f
given_on g q s f l h = omega (arith, l, h)

named_step : (slots : Slots) (w : LogState) (e : LogEvent) → IsGoodLog slots w → AreAllNamed w → AreAllNamed (after_log_event w e)
named_step slots w (Append redo) good all p x i j above = ⊎_elim old new (among_either p w.placed (record { redo = redo; first = begins w.ring; last = last w.ring + need w.ring redo } ∷ []) i)
  where
    old : Among p w.placed → Among (entry x p.first) (w.ring.named ++ names_of (begins w.ring) redo)
    old here = among_left (entry x p.first) w.ring.named (names_of (begins w.ring) redo) (all p x here j above)

    new : Among p (record { redo = redo; first = begins w.ring; last = last w.ring + need w.ring redo } ∷ []) → Among (entry x p.first) (w.ring.named ++ names_of (begins w.ring) redo)
    new (inl e) =
        among_right (entry x p.first) w.ring.named (names_of (begins w.ring) redo)
        (subst (λ (y : Placed). Among (entry x y.first) (names_of (begins w.ring) redo)) (sym e)
        (among_map (λ (c : Change). record { sector = c.sector; version = c.version; first = begins w.ring }) redo.changes x (entry x (begins w.ring)) (subst (λ (y : Placed). Among x y.redo.changes) e j) refl))
    new (inr none) = absurd none
named_step slots w Issue good all p x i j above = all p x i j above
named_step slots w (Arrive number) good all p x i j above = all p x i j above
named_step slots w (Acknowledge number) good all p x i j above =
    subst (Among (entry x p.first)) (sym (acked_named w.ring number)) (all p x i j (subst (λ n. n < p.first) (acked_given w.ring number) above))
named_step slots w GiveUp good all p x i j above =
    among_filter (λ y. not (is_reclaimable_of 64 w.ring y)) w.ring.named (entry x p.first) (all p x i j (given_on w.ring.given_up 64 (sent w.ring) p.first (good_ends slots w good).given above))
    (ap not (lt-leb p.first (reclaim_end_of 64 w.ring) above))

named_run : (slots : Slots) (w : LogState) (events : List LogEvent) → IsGoodLog slots w → may_all_happen w events ≡ true → AreAllNamed w → AreAllNamed (after_log_events w events)
named_run slots w [] good may all = all
named_run slots w (e ∷ es) good may all =
    let m = and_parts (may_happen w e) (may_all_happen (after_log_event w e) es) may in
    named_run slots (after_log_event w e) es (stays_good slots w e good m.0) m.1 (named_step slots w e good all)

-- of a good log
pub all_named : (slots : Slots) (w : LogState) → IsGoodLog slots w → AreAllNamed w
all_named slots w good p x i j above =
    subst (λ (r : Ring). Among (entry x p.first) r.named) (sym good.left.ring)
    (named_run slots (log_at slots) good.events (begins_good slots good.low good.high good.sealed) good.happened (λ q y none k over. absurd none) p x (subst (Among p) good.left.placed i) j
    (subst (λ (r : Ring). r.given_up < p.first) good.left.ring above))
