-- The records of a ring follow one another closely: each begins behind the one before it at the latest, and ends nine numbers behind its beginning at the latest. So the last that ends up to
-- a number that the ring has come to begins shortly before it.
use Rattle.std.proofs.Common.{◌≡◌, ℕ, suc, ◌+◌, ◌-◌, ◌/◌, ◌<◌, ◌≤◌, ◌⊎◌, inl, inr, ⊎_elim, Bool, true, false, ◌==◌, if◌then◌else◌, nat_le, nat_lt, List, [], ◌∷◌, ◌++◌, length, drop, refl, sym, ap, ◌∙◌, subst, arith, length-append}
use Rattle.std.proofs.lemmas.Bool.{and_parts, cases_lt, leb-true, ltb-true}
use Rattle.frang_base.specs.declared.change.Redo.{Redo}
use Rattle.disk_definitions.specs.declared.log_sector.LogSector.{LogSector}
use Rattle.disk_definitions.proofs.Listed.{Among}
use Rattle.disk_definitions.specs.Frames.{frame_bytes}
use Rattle.disk_definitions.specs.Logs.{Slots, log_end}
use Rattle.disk_definitions.specs.Records.{record_bytes, record_fits}
use Rattle.log_record.proofs.FrameBack.{length-frame_bytes}
use Rattle.ring_definitions.specs.RingRuns.{LogEvent, LogState, Placed, after_log_event, after_log_events, log_at, may_all_happen, may_happen}
use Rattle.ring_definitions.specs.RingRuns.LogEvent.{Acknowledge, Append, Arrive, GiveUp, Issue}
use Rattle.ring_definitions.specs.RingSteps.{IsGoodLog}
use Rattle.ring_definitions.specs.Rings.{Ring, begins, is_record, issued, last, need, open_room}
use Rattle.core_facts.proofs.Marking.{acked_last}
use Rattle.core_laws.proofs.Membership.{in_contains}
use Rattle.core_line_journals.proofs.Appending.{last_is}
use Rattle.core_log_marks.specs.Accounts.{OperationsRise}

-- behind a number, up to the ring's last
abbrev pub IsChain : ℕ → List Placed → ℕ → Type 0
IsChain t [] l = t ≡ l
IsChain t (p ∷ ps) l = (p.first ≤ t + 1) × ((p.last ≤ p.first + 9) × ((t ≤ p.last) × IsChain p.last ps l))

chain_more : (t : ℕ) (ps : List Placed) (p : Placed) (l : ℕ) → IsChain t ps l → p.first ≤ l + 1 → p.last ≤ p.first + 9 → l ≤ p.last → IsChain t (ps ++ p ∷ []) p.last
chain_more t [] p l c a b d = (subst (λ n. p.first ≤ n + 1) (sym c) a, (b, (subst (λ n. n ≤ p.last) (sym c) d, refl)))
chain_more t (q ∷ ps) p l c a b d = (c.0, (c.1.0, (c.1.1.0, chain_more q.last ps p l c.1.1.1 a b d)))

-- ---- what happens to a ring

-- a record needs nine sectors at most
few_needed : (r : Ring) (redo : Redo) → is_record redo ≡ true → need r redo ≤ 9
few_needed r redo is =
    at (length (frame_bytes redo)) (length (record_bytes redo.changes)) (open_room r.waiting) (length-frame_bytes redo)
    (leb-true (length (record_bytes redo.changes)) 4096 (and_parts _ (nat_le (length (record_bytes redo.changes)) 4096) (and_parts _ (record_fits redo.changes) is).1).1)
  where
    at : (f b o : ℕ) → f ≡ 10 + b → b ≤ 4096 → (f - o + 487) / 488 ≤ 9
    at f b o e h = omega (arith, e, h)

begins_near : (r : Ring) → (last r ≤ begins r) × (begins r ≤ last r + 1)
begins_near r = go (open_room r.waiting == 0)
  where
    up : (n : ℕ) → n ≤ n + 1
    up n = omega arith

    same : (n : ℕ) → n ≤ n
    same n = omega arith

    go : (b : Bool) → (last r ≤ (if b then last r + 1 else last r)) × ((if b then last r + 1 else last r) ≤ last r + 1)
    go true = (up (last r), same (last r + 1))
    go false = (same (last r), up (last r))

issued_last : (r : Ring) → 0 < length r.waiting → last (issued r) ≡ last r
issued_last r some = go r.waiting refl some
  where
    more : (n k m : ℕ) → n + (k + 1) + m ≡ n + k + suc m
    more n k m = omega arith

    go : (ws : List LogSector) → r.waiting ≡ ws → 0 < length ws → r.reached + length (r.above ++ false ∷ []) + length (drop 1 r.waiting) ≡ r.reached + length r.above + length r.waiting
    go [] e some = absurd (omega (arith, some))
    go (x ∷ xs) e some =
        ap (λ n. r.reached + n + length (drop 1 r.waiting)) (length-append r.above (false ∷ [])) ∙ ap (λ ws. r.reached + (length r.above + 1) + length (drop 1 ws)) e
        ∙ more r.reached (length r.above) (length xs) ∙ ap (λ ws. r.reached + length r.above + length ws) (sym e)

chain_event : (t : ℕ) (w : LogState) (e : LogEvent) → may_happen w e ≡ true → IsChain t w.placed (last w.ring) → IsChain t (after_log_event w e).placed (last (after_log_event w e).ring)
chain_event t w (Append redo) may c =
    let fits : is_record redo ≡ true = (and_parts (is_record redo) _ (and_parts _ _ may).0).0 in
    let near = begins_near w.ring in
    subst (IsChain t (after_log_event w (Append redo)).placed) (sym (last_is w.ring redo))
    (chain_more t w.placed (record { redo = redo; first = begins w.ring; last = last w.ring + need w.ring redo }) (last w.ring) c near.1 (far (last w.ring) (need w.ring redo) (begins w.ring) (few_needed w.ring redo fits) near.0)
    (up (last w.ring) (need w.ring redo)))
  where
    far : (l n b : ℕ) → n ≤ 9 → l ≤ b → l + n ≤ b + 9
    far l n b h k = omega (arith, h, k)

    up : (l n : ℕ) → l ≤ l + n
    up l n = omega arith
chain_event t w Issue may c = subst (IsChain t w.placed) (sym (issued_last w.ring (ltb-true 0 (length w.ring.waiting) (and_parts (nat_lt 0 (length w.ring.waiting)) _ may).0))) c
chain_event t w (Arrive number) may c = c
chain_event t w (Acknowledge number) may c = subst (IsChain t w.placed) (sym (acked_last w.ring number)) c
chain_event t w GiveUp may c = c

chain_events : (t : ℕ) (w : LogState) (es : List LogEvent) → may_all_happen w es ≡ true → IsChain t w.placed (last w.ring) → IsChain t (after_log_events w es).placed (last (after_log_events w es).ring)
chain_events t w [] may c = c
chain_events t w (e ∷ es) may c =
    let both = and_parts (may_happen w e) (may_all_happen (after_log_event w e) es) may in
    chain_events t (after_log_event w e) es both.1 (chain_event t w e both.0 c)

pub chain_of_good : (before : Slots) (w : LogState) → IsGoodLog before w → IsChain (log_end before) w.placed (last w.ring)
chain_of_good before w g =
    subst (λ (ps : List Placed). IsChain (log_end before) ps (last w.ring)) (sym g.left.placed)
    (subst (λ (r : Ring). IsChain (log_end before) (after_log_events (log_at before) g.events).placed (last r)) (sym g.left.ring)
    (chain_events (log_end before) (log_at before) g.events g.happened (first (log_end before))))
  where
    first : (n : ℕ) → n ≡ n + 0 + 0
    first n = omega arith

-- ---- the last that ends up to a number

above_start : (t l : ℕ) (ps : List Placed) → IsChain t ps l → (p : Placed) → Among p ps → t ≤ p.last
above_start t l [] c p i = absurd i
above_start t l (x ∷ xs) c p (inl e) = subst (λ (q : Placed). t ≤ q.last) (sym e) c.1.1.0
above_start t l (x ∷ xs) c p (inr i) = over t x.last p.last c.1.1.0 (above_start x.last l xs c.1.1.1 p i)
  where
    over : (a b d : ℕ) → a ≤ b → b ≤ d → a ≤ d
    over a b d h k = omega (arith, h, k)

-- none ends up to it, and it is near
record IsBehind (t e : ℕ) (ps : List Placed) : Type 0 where
  near : e < t + 10
  none : (p : Placed) → Among p ps → e < p.last

pub record IsLastUpTo (e : ℕ) (ps : List Placed) : Type 0 where
  pub one : Placed
  pub there : Among one ps
  pub ends : one.last ≤ e
  pub near : e < one.first + 19
  pub below : (p : Placed) → Among p ps → p.last ≤ e → p.redo.op.0 ≤ one.redo.op.0

never : (a b : ℕ) → a < b → b ≤ a → ⊥
never a b h k = omega (arith, h, k)

last_up_to : (t e l : ℕ) (ps : List Placed) → IsChain t ps l → t ≤ e → e ≤ l → OperationsRise ps → IsBehind t e ps ⊎ IsLastUpTo e ps
last_up_to t e l [] c low high rise = inl (record { near = at t l c high; none = λ p i. absurd i })
  where
    at : (t l : ℕ) → t ≡ l → e ≤ l → e < t + 10
    at t l f h = omega (arith, f, h)
last_up_to t e l (x ∷ xs) c low high rise = ⊎_elim past (λ h. here h (last_up_to x.last e l xs c.1.1.1 h high rise.1)) (cases_lt e x.last)
  where
    past : e < x.last → IsBehind t e (x ∷ xs) ⊎ IsLastUpTo e (x ∷ xs)
    past h = inl (record { near = at x.first x.last c.0 c.1.0 h; none = none })
      where
        at : (f m : ℕ) → f ≤ t + 1 → m ≤ f + 9 → e < m → e < t + 10
        at f m a b d = omega (arith, a, b, d)

        over : (a b : ℕ) → e < a → a ≤ b → e < b
        over a b d k = omega (arith, d, k)

        none : (p : Placed) → Among p (x ∷ xs) → e < p.last
        none p (inl same) = subst (λ (q : Placed). e < q.last) (sym same) h
        none p (inr i) = over x.last p.last h (above_start x.last l xs c.1.1.1 p i)

    here : x.last ≤ e → IsBehind x.last e xs ⊎ IsLastUpTo e xs → IsBehind t e (x ∷ xs) ⊎ IsLastUpTo e (x ∷ xs)
    here h (inl b) = inr (record { one = x; there = inl refl; ends = h; near = at x.first x.last c.1.0 b.near; below = below })
      where
        at : (f m : ℕ) → m ≤ f + 9 → e < m + 10 → e < f + 19
        at f m a d = omega (arith, a, d)

        le : (n : ℕ) → n ≤ n
        le n = omega arith

        below : (p : Placed) → Among p (x ∷ xs) → p.last ≤ e → p.redo.op.0 ≤ x.redo.op.0
        below p (inl same) k = subst (λ (q : Placed). q.redo.op.0 ≤ x.redo.op.0) (sym same) (le x.redo.op.0)
        below p (inr i) k = absurd (never e p.last (b.none p i) k)
    here h (inr k) = inr (record { one = k.one; there = inr k.there; ends = k.ends; near = k.near; below = below })
      where
        le : (n m : ℕ) → n < m → n ≤ m
        le n m h = omega (arith, h)

        below : (p : Placed) → Among p (x ∷ xs) → p.last ≤ e → p.redo.op.0 ≤ k.one.redo.op.0
        below p (inl same) m = subst (λ (q : Placed). q.redo.op.0 ≤ k.one.redo.op.0) (sym same) (le x.redo.op.0 k.one.redo.op.0 (rise.0 k.one (in_contains xs k.one k.there)))
        below p (inr i) m = k.below p i m

-- where one ends up to it
pub last_one : (t e l : ℕ) (ps : List Placed) → IsChain t ps l → t ≤ e → e ≤ l → OperationsRise ps → (p : Placed) → Among p ps → p.last ≤ e → IsLastUpTo e ps
last_one t e l ps c low high rise p i h = go (last_up_to t e l ps c low high rise)
  where
    go : IsBehind t e ps ⊎ IsLastUpTo e ps → IsLastUpTo e ps
    go (inl b) = absurd (never e p.last (b.none p i) h)
    go (inr k) = k
