-- What stays true of a ring and its log in every run: which sectors stand, wait and fly, and what the ring keeps of its records.
use Rattle.std.proofs.Common.{◌≡◌, ℕ, ◌+◌, ◌-◌, ◌^◌, min, ◌<◌, ◌≤◌, ◌⊎◌, inl, inr, true, false, nat_lt, List, [], ◌++◌, length, drop, slice_set, sym, ap, ◌∙◌, subst, arith}
use Rattle.std.proofs.lemmas.Bool.{ltb-true, cases_eq, cond_both}
use Rattle.std.proofs.lemmas.List.{length-set}
use Rattle.disk_definitions.specs.declared.log_sector.LogSector.{LogSector}
use Rattle.ring_definitions.specs.Rings.{Ring, sent, last, passed, acked}
use Rattle.ring_definitions.specs.RingRuns.{LogState, after_log_event}
use Rattle.ring_definitions.specs.RingRuns.LogEvent.{Arrive, GiveUp}
use Rattle.ring_definitions.proofs.Standing.{flies, left, left_same, left_other, IsStanding, with_arrival, with_passed}
use Rattle.ring_definitions.proofs.Flags.{AreFlags, flags_kept, flags_set, IsPassed, passed_is}
use Rattle.ring_definitions.proofs.Along.{Along}
use Rattle.ring_definitions.proofs.Packed.{IsPacked}
use Rattle.ring_definitions.proofs.Laid.{IsLaid}

-- the log had this end, with these sectors up to it; `rest` are all sectors behind it
pub record IsGood (end : ℕ) (before : List LogSector) (w : LogState) : Type 0 where
  pub rest : List LogSector
  pub standing : IsStanding (end - 191) (before ++ rest) w.slots w.flying w.ring.reached (sent w.ring)
  pub flags : AreFlags (flies w.flying) w.ring.reached w.ring.above
  pub packed : Along IsPacked (end + 1) rest
  pub laid : IsLaid end [] end rest w.placed
  pub ends : last w.ring ≡ end + length rest
  pub bound : last w.ring < 2 ^ 63
  pub waiting : w.ring.waiting ≡ drop (sent w.ring - end) rest
  pub given : w.ring.given_up ≤ sent w.ring
  pub kept : last w.ring ≤ w.ring.given_up + 192

-- ---- an acknowledgement

with_ring : (end : ℕ) (before : List LogSector) (w : LogState) (q : Ring) → IsPassed (flies w.flying) w.ring w.ring.reached (sent w.ring) q → IsGood end before w → IsGood end before (record w { ring = q })
with_ring end before w q p g = record {
  rest = g.rest;
  standing = subst (IsStanding (end - 191) (before ++ g.rest) w.slots w.flying q.reached) (sym p.sent)
      (with_passed (end - 191) (before ++ g.rest) w.slots w.flying w.ring.reached q.reached (sent w.ring) p.low (within q.reached (length q.above) (sent w.ring) p.sent) p.none g.standing);
  flags = p.flags;
  packed = g.packed;
  laid = g.laid;
  ends = same ∙ g.ends;
  bound = subst (λ n. n < 2 ^ 63) (sym same) g.bound;
  waiting = p.waiting ∙ g.waiting ∙ ap (λ n. drop (n - end) g.rest) (sym p.sent);
  given = under q.given_up w.ring.given_up (sent q) (sent w.ring) p.given_up p.sent g.given;
  kept = at (last q) (last w.ring) q.given_up w.ring.given_up same p.given_up g.kept;
}
  where
    within : (a b c : ℕ) → a + b ≡ c → a ≤ c
    within a b c e = omega arith

    same : last q ≡ last w.ring
    same = ap (λ n. n + length q.waiting) p.sent ∙ ap (λ xs. sent w.ring + length xs) p.waiting

    at : (a b c d : ℕ) → a ≡ b → c ≡ d → b ≤ d + 192 → a ≤ c + 192
    at a b c d e f h = omega arith

    under : (a b c d : ℕ) → a ≡ b → c ≡ d → b ≤ d → a ≤ c
    under a b c d e f h = omega arith

pub acknowledged : (end : ℕ) (before : List LogSector) (w : LogState) (number : ℕ) → number ≤ sent w.ring → flies w.flying number ≡ false → IsGood end before w → IsGood end before (record w { ring = acked w.ring number })
acknowledged end before w number h f g =
    cond_both (nat_lt w.ring.reached number) (passed w.ring w.ring.reached (slice_set w.ring.above (number - w.ring.reached - 1) true)) w.ring (λ r. IsGood end before (record w { ring = r }))
    (λ t. with_ring end before w (passed w.ring w.ring.reached (slice_set w.ring.above (number - w.ring.reached - 1) true)) (ahead (ltb-true w.ring.reached number t)) g) (λ t. g)
  where
    place : (n r : ℕ) → r < n → r + 1 + (n - r - 1) ≡ n
    place n r l = omega arith

    ahead : w.ring.reached < number
        → IsPassed (flies w.flying) w.ring w.ring.reached (sent w.ring) (passed w.ring w.ring.reached (slice_set w.ring.above (number - w.ring.reached - 1) true))
    ahead l =
        passed_is (flies w.flying) w.ring w.ring.reached (sent w.ring) (slice_set w.ring.above (number - w.ring.reached - 1) true)
        (ap (λ n. w.ring.reached + n) (length-set w.ring.above (number - w.ring.reached - 1) true))
        (flags_set (flies w.flying) w.ring.reached (number - w.ring.reached - 1) w.ring.above g.flags (ap (flies w.flying) (place number w.ring.reached l) ∙ f))

-- ---- an arrival

pub arrival : (end : ℕ) (before : List LogSector) (w : LogState) (number : ℕ) → flies w.flying number ≡ true → IsGood end before w → IsGood end before (after_log_event w (Arrive number))
arrival end before w number f g = record {
  rest = g.rest;
  standing = with_arrival (end - 191) (before ++ g.rest) w.slots w.flying w.ring.reached (sent w.ring) number f g.standing;
  flags = flags_kept (flies w.flying) (flies (left number w.flying)) w.ring.reached w.ring.above (λ n l u e. still n e (cases_eq n number)) g.flags;
  packed = g.packed;
  laid = g.laid;
  ends = g.ends;
  bound = g.bound;
  waiting = g.waiting;
  given = g.given;
  kept = g.kept;
}
  where
    still : (n : ℕ) → flies w.flying n ≡ false → (n ≡ number) ⊎ (n ≡ number → ⊥) → flies (left number w.flying) n ≡ false
    still n e (inl s) = ap (flies (left number w.flying)) s ∙ left_same number w.flying
    still n e (inr ne) = left_other number n w.flying ne ∙ e

-- ---- records are given up

pub given_up : (end : ℕ) (before : List LogSector) (w : LogState) → IsGood end before w → IsGood end before (after_log_event w GiveUp)
given_up end before w g = record {
  rest = g.rest;
  standing = g.standing;
  flags = g.flags;
  packed = g.packed;
  laid = g.laid;
  ends = g.ends;
  bound = g.bound;
  waiting = g.waiting;
  given = least (w.ring.given_up + 64) (sent w.ring);
  kept = up (last w.ring) w.ring.given_up (sent w.ring) g.given g.kept;
}
  where
    least : (a b : ℕ) → min a b ≤ b
    least a b = omega arith

    up : (l a s : ℕ) → a ≤ s → l ≤ a + 192 → l ≤ min (a + 64) s + 192
    up l a s h k = omega arith
