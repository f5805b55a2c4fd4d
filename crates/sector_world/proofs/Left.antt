-- What recoveries of all logs would leave.
use Rattle.std.proofs.Common.{true, false, zero, suc, List, [], ◌∷◌, Bool, if◌then◌else◌, ⊎_elim, ℕ, ◌<◌, ◌≤◌, ◌≡◌, ◌≢◌, ◌⊎◌, ◌&&◌, inl, inr, Some, nat_eq, nat_lt, nat_le, refl, sym, ◌∙◌, ap, subst, arith}
use Rattle.std.proofs.lemmas.Bool.Decides.{nat_tests}
use Rattle.std.proofs.lemmas.Bool.{cases_lt, cases_eq, ne_eqb, eq-eqb, lt-ltb, le-leb}
use mathlib.Core.Bool.{and-true}
use Rattle.frang_base.specs.declared.lock.Mode.TheVariants.{Sole}
use Rattle.sector_bytes.specs.Blocks.{Block}
use Rattle.sector_world.specs.Histories.{Commit, Item, kept, survives, in_doubt, recovered, settled, Each, Moves, Writes, reaches, OpsRise, is_logged, logical, is_left}
use Rattle.sector_world.specs.Histories.Item.{Done, Doubt}
use Rattle.sector_world.specs.HistoryBytes.{is_free, Known, AllWritten, OnData, Agree}
use Rattle.sector_world.specs.HistoryBytes.OnData.{here, newer, marked}
use Rattle.sector_world.specs.Seen.{Alters, Unseen}
use Rattle.frang_base.proofs.Basics.{by_test, le_or_lt, true_or}
use Rattle.sector_world.proofs.HistoryLaws.{each_map, each_kept}
use Rattle.sector_world.proofs.Seen.{each_kept_with, unseen_kept, clear_survives}
use Rattle.sector_world.proofs.Removals.{survives_low, ops_kept}
use Rattle.sector_world.proofs.Bytes.{survives_up, kept_id, free_kept, known_kept, known_past, known_marked, writes_reach, doubt_kept, finish_known, recovered_known, agree_kept, data_kept}
use Rattle.sector_world.specs.World.{World, Phase, Page, cover, has_version}
use Rattle.sector_world.specs.World.Phase.{Off, Up, Dead}
use Rattle.sector_world.specs.Bytes.{IsLoose, PendingBytes}
use Rattle.sector_bytes.specs.Replays.{change_at, forced}
use Rattle.frang_base.specs.Functions.{keep_if}
use Rattle.sector_world.specs.Plans.{Plan, IsFramed, IsByPlan, Legal}
use Rattle.sector_world.proofs.Plans.{legal_kept}
use Rattle.sector_world.specs.Kinds.{Claimed, Good}
use Rattle.sector_world.specs.Claims.{left_by, left}
use Rattle.sector_world.proofs.Reaching.{sole_held}
use Rattle.sector_world.proofs.BytesPlain.{off_none}
use Rattle.sector_world.proofs.Versioned.{logged_less, claimed_kept}

-- what holds of the list that a recovery leaves, and of the list before where none is needed, holds of the list that is left
pub by_phase : (P : List Item → Type 0) (p : Phase) (d k n : ℕ) (h : List Item) → (p ≡ Off → P h) → P (recovered d k n h) → P (left_by p d k n h)
by_phase P Off d k n h off on = off refl
by_phase P Up d k n h off on = on
by_phase P Dead d k n h off on = on

-- what all the lists have that recoveries leave
pub record Fine (w : World) (h : List Item) : Type 0 where
  pub ops : OpsRise h
  pub live : Agree w.first h
  pub unseen : (d : ℕ) → Unseen d (w.durable d) h
  pub firm : (s : ℕ) → Each (λ a. Alters s a → w.durable a.by < a.op → w.holds a.by (cover w s) ≡ Some Sole) h
  pub claimed : (s : ℕ) → Claimed w.logged s h
  pub moving : (s : ℕ) → Each (λ c. c.claims s ≡ true → Moves s c) h
  pub by_plan : Each IsByPlan h

fine_recovered : (w : World) (d n : ℕ) (h : List Item) → Fine w h → Fine w (recovered d (w.durable d) n h)
fine_recovered w d n h f = record {
  ops = ops_kept (survives d (w.durable d)) h f.ops;
  live = agree_kept w.first d (w.durable d) h f.ops (f.unseen d) f.live;
  unseen = λ e. unseen_kept e (w.durable e) (survives d (w.durable d)) h (f.unseen e);
  firm = λ s. each_kept (λ a. Alters s a → w.durable a.by < a.op → w.holds a.by (cover w s) ≡ Some Sole) (survives d (w.durable d)) h (f.firm s);
  claimed = λ s. claimed_kept w.logged s d (w.durable d) h f.ops (f.unseen d) (f.moving s) (f.claimed s);
  moving = λ s. each_kept (λ c. c.claims s ≡ true → Moves s c) (survives d (w.durable d)) h (f.moving s);
  by_plan = each_kept IsByPlan (survives d (w.durable d)) h f.by_plan;
}

pub fine_left : (w : World) → Good w → (n : ℕ) → Fine w (left w n)
fine_left w g zero = record { ops = g.logged.ops; live = g.bytes.live; unseen = g.logged.unseen; firm = g.logged.firm; claimed = g.kinds.claimed; moving = g.kinds.moving; by_plan = g.bytes.by_plan }
fine_left w g (suc n) =
    by_phase (Fine w) (w.phase n) n (w.durable n) (w.synced n) (left w n) (λ off. fine_left w g n) (fine_recovered w n (w.synced n) (left w n) (fine_left w g n))

-- a sector that has a version after all recoveries has one now
pub left_logged : (w : World) (n s : ℕ) → is_logged w.logged (left w n) s ≡ true → has_version w s ≡ true
left_logged w zero s e = e
left_logged w (suc n) s e =
    by_phase (λ h. is_logged w.logged h s ≡ true → has_version w s ≡ true) (w.phase n) n (w.durable n) (w.synced n) (left w n)
    (λ off. left_logged w n s) (λ v. left_logged w n s (logged_less w.logged s (survives n (w.durable n)) (left w n) v)) e

-- the operations alone, without the marks of doubt
abbrev pub bare : List Item → List Item
bare [] = []
bare (Done c ∷ h) = Done c ∷ bare h
bare (Doubt m ∷ h) = bare h

bare_keep : (b : Bool) (c : Commit) (h : List Item) → bare (keep_if b (Done c) h) ≡ keep_if b (Done c) (bare h)
bare_keep true c h = refl
bare_keep false c h = refl

bare_kept : (keep : Commit → Bool) (h : List Item) → bare (kept keep h) ≡ kept keep (bare h)
bare_kept keep [] = refl
bare_kept keep (Done c ∷ h) = bare_keep (keep c) c (kept keep h) ∙ ap (keep_if (keep c) (Done c)) (bare_kept keep h)
bare_kept keep (Doubt m ∷ h) = bare_kept keep h

pub bare_logical : (opening : ℕ → Block) (h : List Item) (s : ℕ) → logical opening (bare h) s ≡ logical opening h s
bare_logical opening [] s = refl
bare_logical opening (Done c ∷ h) s = ap (forced (change_at c.changes s)) (bare_logical opening h s)
bare_logical opening (Doubt m ∷ h) s = bare_logical opening h s

kept_keep : (more : Commit → Bool) (b : Bool) (c : Commit) (h : List Item) → kept more (keep_if b (Done c) h) ≡ keep_if (b && more c) (Done c) (kept more h)
kept_keep more true c h = refl
kept_keep more false c h = refl

kept_two : (keep more : Commit → Bool) (h : List Item) → kept more (kept keep h) ≡ kept (λ c. keep c && more c) h
kept_two keep more [] = refl
kept_two keep more (Done c ∷ h) = kept_keep more (keep c) c (kept keep h) ∙ ap (keep_if (keep c && more c) (Done c)) (kept_two keep more h)
kept_two keep more (Doubt m ∷ h) = ap (λ x. Doubt m ∷ x) (kept_two keep more h)

kept_same : (keep more : Commit → Bool) (h : List Item) → Each (λ c. keep c ≡ more c) h → kept keep h ≡ kept more h
kept_same keep more [] e = refl
kept_same keep more (Done c ∷ h) e = rw (e.0, kept_same keep more h e.1)
kept_same keep more (Doubt m ∷ h) e = ap (λ x. Doubt m ∷ x) (kept_same keep more h e)

each_bare : (P : Commit → Type 0) (h : List Item) → Each P h → Each P (bare h)
each_bare P [] e = tt
each_bare P (Done c ∷ h) e = (e.0, each_bare P h e.1)
each_bare P (Doubt m ∷ h) e = each_bare P h e

each_always : (P : Commit → Type 0) → ((x : Commit) → P x) → (h : List Item) → Each P h
each_always P f [] = tt
each_always P f (Done x ∷ h) = (f x, each_always P f h)
each_always P f (Doubt m ∷ h) = each_always P f h

-- the operations of the servers below n up to their durable numbers, and all of the others
abbrev pub below : (ℕ → ℕ) → ℕ → Commit → Bool
below durable n c = if nat_lt c.by n then nat_le c.op (durable c.by) else true

below_next : (durable : ℕ → ℕ) (n : ℕ) (c : Commit) → (below durable n c && survives n (durable n) c) ≡ below durable (suc n) c
below_next durable n c =
    ⊎_elim
    (λ e. let a : nat_lt c.by n ≡ false = (let q : n ≤ c.by = omega arith in grind (arith, nat_tests)) in
    let b : nat_eq c.by n ≡ true = eq-eqb c.by n e in
    let d : nat_lt c.by (suc n) ≡ true = (let q : c.by < suc n = omega arith in grind (arith, nat_tests)) in
    rw (a, b, d) (ap (λ x. nat_le c.op (durable x)) (sym e)))
    (λ ne. let b : nat_eq c.by n ≡ false = ne_eqb c.by n ne in
    ⊎_elim
    (λ lt. let a : nat_lt c.by n ≡ true = lt-ltb c.by n lt in
    let d : nat_lt c.by (suc n) ≡ true = (let q : c.by < suc n = omega arith in grind (arith, nat_tests)) in
    rw (a, b, d) (and-true (nat_le c.op (durable c.by))))
    (λ ge. let a : nat_lt c.by n ≡ false = grind (arith, nat_tests) in
    let d : nat_lt c.by (suc n) ≡ false = (let q : suc n ≤ c.by = omega arith in grind (arith, nat_tests)) in
    rw (a, b, d) refl)
    (cases_lt c.by n))
    (cases_eq c.by n)

-- the operations of a server that is off are durable
below_rested : (durable : ℕ → ℕ) (n : ℕ) (c : Commit) → (c.by ≡ n → c.op ≤ durable n) → below durable n c ≡ below durable (suc n) c
below_rested durable n c f = and_all (below durable n c) (survives n (durable n) c) (survives_low n (durable n) c f) ∙ below_next durable n c
  where
    and_all : (a b : Bool) → b ≡ true → a ≡ (a && b)
    and_all true b e = sym e
    and_all false b e = refl

left_below : (w : World) → Good w → (n : ℕ) → bare (left w n) ≡ kept (below w.durable n) (bare (settled w.history))
left_below w g zero = sym (all_kept (bare (settled w.history)))
  where
    all_kept : (h : List Item) → kept (below w.durable 0) h ≡ h
    all_kept [] = refl
    all_kept (Done c ∷ h) = let a : nat_lt c.by 0 ≡ false = grind (arith, nat_tests) in rw (a, all_kept h)
    all_kept (Doubt m ∷ h) = ap (λ x. Doubt m ∷ x) (all_kept h)
left_below w g (suc n) =
    by_phase (λ h. bare h ≡ kept (below w.durable (suc n)) (bare (settled w.history))) (w.phase n) n (w.durable n) (w.synced n) (left w n)
    (λ off. left_below w g n
    ∙ kept_same (below w.durable n) (below w.durable (suc n)) (bare (settled w.history))
    (each_bare (λ c. below w.durable n c ≡ below w.durable (suc n) c) (settled w.history)
    (each_map (λ c. c.op ≤ w.last c.by) (λ c. below w.durable n c ≡ below w.durable (suc n) c)
    (λ c m. below_rested w.durable n c
    (λ e. let q : w.last c.by ≤ w.durable c.by = g.logged.rested c.by (ap w.phase e ∙ off) in let z : w.durable c.by ≡ w.durable n = ap w.durable e in omega arith))
    (settled w.history) g.logged.below)))
    (bare_kept (survives n (w.durable n)) (left w n)
    ∙ ap (kept (survives n (w.durable n))) (left_below w g n)
    ∙ kept_two (below w.durable n) (survives n (w.durable n)) (bare (settled w.history))
    ∙ kept_same (λ c. below w.durable n c && survives n (w.durable n) c) (below w.durable (suc n)) (bare (settled w.history))
    (each_always (λ c. (below w.durable n c && survives n (w.durable n) c) ≡ below w.durable (suc n) c) (below_next w.durable n) (bare (settled w.history))))

-- a recovery of a server that is off would remove nothing
pub off_rested : (w : World) → Good w → (d : ℕ) → w.phase d ≡ Off → kept (survives d (w.durable d)) (settled w.history) ≡ settled w.history
off_rested w g d off =
    kept_id (survives d (w.durable d)) (settled w.history)
    (each_map (λ c. c.op ≤ w.last c.by) (λ c. survives d (w.durable d) c ≡ true)
    (λ c m. survives_low d (w.durable d) c
    (λ e. let q : w.last c.by ≤ w.durable c.by = g.logged.rested c.by (ap w.phase e ∙ off) in let z : w.durable c.by ≡ w.durable d = ap w.durable e in omega arith))
    (settled w.history) g.logged.below)

phase_or : (p : Phase) → (p ≡ Off) ⊎ (p ≢ Off)
phase_or Off = inl refl
phase_or Up = inr (λ e. cc)
phase_or Dead = inr (λ e. cc)

-- what recoveries of all logs leave is what is durable
pub left_is : (w : World) → Good w → (s : ℕ) → logical w.opening (left w w.servers) s ≡ logical w.opening (kept (is_left w.durable) (settled w.history)) s
left_is w g s =
    sym (bare_logical w.opening (left w w.servers) s)
    ∙ ap (λ h. logical w.opening h s)
    (left_below w g w.servers
    ∙ kept_same (below w.durable w.servers) (is_left w.durable) (bare (settled w.history))
    (each_bare (λ c. below w.durable w.servers c ≡ is_left w.durable c) (settled w.history)
    (each_map (λ c. c.op ≤ w.last c.by) (λ c. below w.durable w.servers c ≡ is_left w.durable c)
    (λ c m. by_test (λ b. b ≡ nat_le c.op (w.durable c.by)) (nat_le c.op (w.durable c.by)) true (nat_lt c.by w.servers) (λ e. refl)
    (λ e. let big : w.servers ≤ c.by = grind (arith, nat_tests) in
    ⊎_elim
    (λ off. let q : w.last c.by ≤ w.durable c.by = g.logged.rested c.by off in sym (le-leb c.op (w.durable c.by) (omega arith)))
    (λ on. let q : c.by < w.servers = g.logged.known c.by on in absurd (omega arith))
    (phase_or (w.phase c.by))))
    (settled w.history) g.logged.below))
    ∙ sym (bare_kept (is_left w.durable) (settled w.history)))
    ∙ bare_logical w.opening (kept (is_left w.durable) (settled w.history)) s

-- the histories that recoveries leave stay legal
pub legal_left : (plan : Plan) → IsFramed plan → (w : World) → Good w → Legal plan w.opening (settled w.history) → (n : ℕ) → Legal plan w.opening (left w n)
legal_left plan frame w g l zero = l
legal_left plan frame w g l (suc n) =
    by_phase (Legal plan w.opening) (w.phase n) n (w.durable n) (w.synced n) (left w n) (λ off. legal_left plan frame w g l n)
    (legal_kept plan w.opening (survives n (w.durable n)) frame (left w n) (clear_survives n (w.durable n) (left w n) (fine_left w g n).ops ((fine_left w g n).unseen n)) (legal_left plan frame w g l n))

module _ (w : World) (g : Good w) (s : ℕ) where
  durable_stay : (d : ℕ) (h : List Item) → AllWritten w.durable s h → Each (λ a. Writes s a → survives d (w.durable d) a ≡ true) h
  durable_stay d h a = each_map (λ a. Writes s a → a.op ≤ w.durable a.by) (λ a. Writes s a → survives d (w.durable d) a ≡ true)
      (λ a m i. survives_low d (w.durable d) a (λ q. subst (λ x. a.op ≤ w.durable x) q (m i))) h a

  -- once the bytes are in place they stay so
  in_place_on : (d : ℕ) (h : List Item) (v : Block) → Fine w h → AllWritten w.durable s h → Known w.first s v h → Known w.first s v (recovered d (w.durable d) (w.synced d) h)
  in_place_on d h v f a k = recovered_known w.first s d (w.durable d) (w.synced d) v h (λ q. known_kept w.first s v (survives d (w.durable d)) h (durable_stay d h a) f.live k)

  still_known : (v : Block) → Known w.first s v (settled w.history) → AllWritten w.durable s (settled w.history) → (n : ℕ) → Known w.first s v (left w n) × AllWritten w.durable s (left w n)
  still_known v k a zero = (k, a)
  still_known v k a (suc n) =
      let r = still_known v k a n in
      by_phase (λ h. Known w.first s v h × AllWritten w.durable s h) (w.phase n) n (w.durable n) (w.synced n) (left w n) (λ off. r)
      (in_place_on n (left w n) v (fine_left w g n) r.1 r.0, each_kept (λ a. Writes s a → a.op ≤ w.durable a.by) (survives n (w.durable n)) (left w n) r.1)

  -- a free sector whose writes are durable stays free
  pub still_free : is_free w.first (settled w.history) s ≡ true → AllWritten w.durable s (settled w.history) → (n : ℕ) → (is_free w.first (left w n) s ≡ true) × AllWritten w.durable s (left w n)
  still_free f a zero = (f, a)
  still_free f a (suc n) =
      let r = still_free f a n in
      by_phase (λ h. (is_free w.first h s ≡ true) × AllWritten w.durable s h) (w.phase n) n (w.durable n) (w.synced n) (left w n) (λ off. r)
      (free_kept w.first s (survives n (w.durable n)) (left w n) (durable_stay n (left w n) r.1) ∙ r.0, each_kept (λ a. Writes s a → a.op ≤ w.durable a.by) (survives n (w.durable n)) (left w n) r.1)

  -- before its holder's log is recovered a sector's bytes keep their place, after that they are known
  before_or_after : (d : ℕ) → w.holds d (cover w s) ≡ Some Sole → (n : ℕ)
      → ((n ≤ d) × OnData w.first w.durable s (PendingBytes w s) (w.bytes s) (left w n)) ⊎ ((d < n) × Known w.first s (w.bytes s) (left w n) × AllWritten w.durable s (left w n))
  before_or_after d e zero = inl (omega arith, g.bytes.place s)
  before_or_after d e (suc n) =
      let f : Fine w (left w n) = fine_left w g n in
      by_phase
      (λ h. ((suc n ≤ d) × OnData w.first w.durable s (PendingBytes w s) (w.bytes s) h) ⊎ ((d < suc n) × Known w.first s (w.bytes s) h × AllWritten w.durable s h))
      (w.phase n) n (w.durable n) (w.synced n) (left w n)
      (λ off. ⊎_elim
      (λ m. ⊎_elim (λ l. inl (l, m.1))
      (λ l. let i : n ≡ d = (let x : n ≤ d = m.0 in omega arith) in
      absurd (off_none (w.phase n) (w.holds n (cover w s)) off (g.logged.off_free n (cover w s)) (ap (λ x. w.holds x (cover w s)) i ∙ e)))
      (le_or_lt (suc n) d))
      (λ m. inr ((let x : d < n = m.0 in omega arith), m.1, m.2))
      (before_or_after d e n))
      (⊎_elim
      (λ m. ⊎_elim
      (λ l. let other : w.holds n (cover w s) ≡ Some Sole → ⊥ = (λ q. let z : n ≡ d = g.logged.apart n d (cover w s) q (sole_held (w.holds d (cover w s)) e) in absurd (omega arith)) in
      inl (
        l,
        marked (data_kept w.first w.durable s (PendingBytes w s) (PendingBytes w s) (w.bytes s) n (w.durable n)
            (λ c h stay p. let q : c.by ≢ n = (λ i. other (ap (λ x. w.holds x (cover w s)) (sym i) ∙ p.sole)) in
            record { sole = p.sole; loose = p.loose; wrote = p.wrote; read = λ i. ⊎_elim (λ j. inl (doubt_kept c.by (w.synced c.by) s n (w.durable n) q h j)) (λ j. inr (free_kept w.first s (survives n (w.durable n)) h stay ∙ j)) (p.read i) })
            (left w n)
            (each_map (λ a. Alters s a → w.durable a.by < a.op → w.holds a.by (cover w s) ≡ Some Sole) (λ a. Writes s a → survives n (w.durable n) a ≡ true)
            (λ a k i. survives_low n (w.durable n) a (λ q. ⊎_elim (λ l. l) (λ l. let z : w.durable a.by ≡ w.durable n = ap w.durable q in absurd (other (ap (λ x. w.holds x (cover w s)) (sym q) ∙ k (inr (inr i)) (omega arith)))) (le_or_lt a.op (w.durable n))))
            (left w n) (f.firm s))
            f.live m.1),
      ))
      (λ l. let i : n ≡ d = (let x : n ≤ d = m.0 in omega arith) in
      inr (
        l,
        recovered_known w.first s n (w.durable n) (w.synced n) (w.bytes s) (left w n)
            (finish_known w.first w.durable s n (w.synced n) (PendingBytes w s) (w.bytes s)
            (λ a h p. let q : a.by ≡ n = g.logged.apart a.by d (cover w s) p.sole (sole_held (w.holds d (cover w s)) e) ∙ sym i in
            (q, (λ j. subst (λ x. w.synced x < a.op) q (p.wrote j).0), (λ j. ⊎_elim (λ y. inl (subst (λ x. in_doubt x (w.synced x) h s ≡ true) q y)) (λ y. inr y) (p.read j))))
            (left w n) f.ops f.live m.1),
        each_map (λ a. (survives n (w.durable n) a ≡ true) × (Alters s a → w.durable a.by < a.op → w.holds a.by (cover w s) ≡ Some Sole)) (λ a. Writes s a → a.op ≤ w.durable a.by)
            (λ a k j. ⊎_elim (λ l. l)
            (λ l. let q : a.by ≡ n = g.logged.apart a.by d (cover w s) (k.1 (inr (inr j)) l) (sole_held (w.holds d (cover w s)) e) ∙ sym i in
            let z : w.durable a.by ≡ w.durable n = ap w.durable q in
            let y : a.op ≤ w.durable n = survives_up n (w.durable n) a q k.0 in absurd (omega arith))
            (le_or_lt a.op (w.durable a.by)))
            (kept (survives n (w.durable n)) (left w n))
            (each_kept_with (λ a. Alters s a → w.durable a.by < a.op → w.holds a.by (cover w s) ≡ Some Sole) (survives n (w.durable n)) (left w n) (f.firm s)),
      ))
      (le_or_lt (suc n) d))
      (λ m. inr ((let x : d < n = m.0 in omega arith), in_place_on n (left w n) (w.bytes s) f m.2 m.1, each_kept (λ a. Writes s a → a.op ≤ w.durable a.by) (survives n (w.durable n)) (left w n) m.2))
      (before_or_after d e n))

  someone : (h : List Item) → OnData w.first w.durable s (PendingBytes w s) (w.bytes s) h → ((b : ℕ) × (w.holds b (cover w s) ≡ Some Sole) × IsLoose (w.phase b) (w.page b s)) ⊎ (Known w.first s (w.bytes s) h × AllWritten w.durable s h)
  someone h (here k a) = inr (k, a)
  someone (Done a ∷ h) (newer p o) =
      ⊎_elim
      (λ t. let q = p t in inl (a.by, q.sole, q.loose))
      (λ t. ⊎_elim (λ x. inl x)
      (λ r. inr (known_past w.first s (w.bytes s) a h t r.0, ((λ i. absurd (t (writes_reach a s i))), r.1)))
      (someone h o))
      (true_or (reaches a s))
  someone (Doubt m ∷ h) (marked o) = ⊎_elim (λ x. inl x) (λ r. inr (known_marked w.first s (w.bytes s) m h r.0, r.1)) (someone h o)

  loose_known : (p : Phase) (x : Page) → IsLoose p x → p ≢ Off
  loose_known Off x l e = l
  loose_known Up x l e = cc
  loose_known Dead x l e = cc

  pub on_disk : Known w.first s (w.bytes s) (left w w.servers)
  on_disk =
      ⊎_elim
      (λ m. let l : m.0 < w.servers = g.logged.known m.0 (loose_known (w.phase m.0) (w.page m.0 s) m.2) in ⊎_elim (λ i. let k : w.servers ≤ m.0 = i.0 in absurd (omega arith)) (λ i. i.1) (before_or_after m.0 m.1 w.servers))
      (λ r. (still_known (w.bytes s) r.0 r.1 w.servers).0)
      (someone (settled w.history) (g.bytes.place s))
