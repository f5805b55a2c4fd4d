-- A walk along names flags what is reached, and nothing else.
use Rattle.std.proofs.Common.{◌==◌, ◌≡◌, ◌≢◌, ℕ, zero, suc, ◌+◌, ◌<◌, ⊎_elim, Bool, true, false, not, ◌&&◌, ◌||◌, Option, List, [], ◌∷◌, ◌++◌, length, set, replicate, refl, sym, ◌∙◌, ap, subst, arith, eqb-true, eq-eqb, ne_eqb, length-set, length-append, get_or-set_same, get_or-set_other}
use Rattle.std.proofs.lemmas.Bool.{and_parts, and_from, or_cases, or_left, or_right, not_from_false, both_ways, cases_eq}
use Rattle.std.proofs.lemmas.List.Folds.{list_any-append}
use Rattle.frang_base.proofs.Tests.{or_second_alone}
use mathlib.Core.Bool.{or-false, or_assoc}
use Rattle.disk_definitions.specs.Store.{Store}
use Rattle.standing_laws.specs.Below.{holds, lists}
use Rattle.standing_laws.proofs.Bounded.{any_more}
use Rattle.disk_reading.specs.Marks.{flag_at}
use Rattle.disk_reading.specs.Reach.{has_value, unflagged}
use Rattle.report_definitions.specs.View.{names, leads, IsReach}
use Rattle.report_rules.specs.Walks.{HasFlagged, IsOnTheWay}

-- ---- one number

fewer : (flags : List Bool) (i : ℕ) → i < length flags → flag_at flags i ≡ false → unflagged (set flags i true) + 1 ≡ unflagged flags
fewer [] i h e = absurd (omega arith)
fewer (true ∷ flags) zero h e = absurd (cc)
fewer (false ∷ flags) zero h e = refl
fewer (true ∷ flags) (suc i) h e = fewer flags i (omega arith) e
fewer (false ∷ flags) (suc i) h e = let r : unflagged (set flags i true) + 1 ≡ unflagged flags = fewer flags i (omega arith) e in omega arith

one_flagged : (flags : List Bool) (i k : ℕ) → i < length flags → flag_at (set flags i true) k ≡ (flag_at flags k || i == k)
one_flagged flags i k h = ⊎_elim
    (λ e. subst (λ k. flag_at (set flags i true) k ≡ (flag_at flags k || i == k)) e (get_or-set_same flags i true false h ∙ sym (or_right (flag_at flags i) (i == i) (eq-eqb i i refl))))
    (λ ne. get_or-set_other flags i k true false (λ e. ne (sym e)) ∙ sym (or-false (flag_at flags k)) ∙ sym (ap (λ b. flag_at flags k || b) (ne_eqb i k ne))) (cases_eq i k)

one_waits : (flags : List Bool) (later : List ℕ) (i k : ℕ) → flag_at flags i ≡ false → has_value (later ++ i ∷ []) k ≡ (has_value later k || (i == k && not (flag_at flags k)))
one_waits flags later i k f = list_any-append (λ v. v == k) later (i ∷ []) ∙ ap (λ b. has_value later k || b) (⊎_elim (λ e. at_same e) (λ ne. other ne) (cases_eq i k))
  where
    at_same : i ≡ k → ((i == k) || false) ≡ (i == k && not (flag_at flags k))
    at_same e = or-false (i == k) ∙ eq-eqb i k e ∙ sym (and_from (i == k) (not (flag_at flags k)) (eq-eqb i k e) (not_from_false (flag_at flags k) (ap (flag_at flags) (sym e) ∙ f)))

    other : i ≢ k → ((i == k) || false) ≡ (i == k && not (flag_at flags k))
    other ne = or-false (i == k) ∙ ne_eqb i k ne ∙ sym (ap (λ b. b && not (flag_at flags k)) (ne_eqb i k ne))

-- a number without a flag gets it, and waits
set_new : (flags : List Bool) (later : List ℕ) (i : ℕ) → i < length flags → flag_at flags i ≡ false → HasFlagged (λ k. i == k) flags later (set flags i true) (later ++ i ∷ [])
set_new flags later i h f =
    let u : unflagged (set flags i true) + 1 ≡ unflagged flags = fewer flags i h f in
    let l : length (later ++ i ∷ []) ≡ length later + 1 = length-append later (i ∷ []) in
    record { long = length-set flags i true; each = λ k. one_flagged flags i k h; waits = λ k. one_waits flags later i k f; sum = omega arith }

pub flagged_new : (flags : List Bool) (later : List ℕ) (i : ℕ) (new : List Bool) (waiting : List ℕ) → i < length flags → flag_at flags i ≡ false → new ≡ set flags i true → waiting ≡ later ++ i ∷ [] → HasFlagged (λ k. i == k) flags later new waiting
flagged_new flags later i new waiting h f e g =
    subst (λ (l : List ℕ). HasFlagged (λ k. i == k) flags later new l) (sym g) (subst (λ (l : List Bool). HasFlagged (λ k. i == k) flags later l (later ++ i ∷ [])) (sym e) (set_new flags later i h f))

same_flag : (flags : List Bool) (i k : ℕ) → flag_at flags i ≡ true → flag_at flags k ≡ (flag_at flags k || i == k)
same_flag flags i k f = go (i == k) refl
  where
    go : (b : Bool) → (i == k) ≡ b → flag_at flags k ≡ (flag_at flags k || b)
    go true e = let t : flag_at flags k ≡ true = ap (flag_at flags) (sym (eqb-true i k e)) ∙ f in t ∙ sym (or_left (flag_at flags k) true t)
    go false e = sym (or-false (flag_at flags k))

none_waits : (flags : List Bool) (later : List ℕ) (i k : ℕ) → flag_at flags i ≡ true → has_value later k ≡ (has_value later k || (i == k && not (flag_at flags k)))
none_waits flags later i k f = sym (or-false (has_value later k)) ∙ ap (λ b. has_value later k || b) (go (i == k) refl)
  where
    go : (b : Bool) → (i == k) ≡ b → false ≡ (b && not (flag_at flags k))
    go true e = sym (ap not (ap (flag_at flags) (sym (eqb-true i k e)) ∙ f))
    go false e = refl

-- a number that has its flag keeps it
pub flagged_before : (flags : List Bool) (later : List ℕ) (i : ℕ) → flag_at flags i ≡ true → HasFlagged (λ k. i == k) flags later flags later
flagged_before flags later i f = record { long = refl; each = λ k. same_flag flags i k f; waits = λ k. none_waits flags later i k f; sum = refl }

-- nothing is named
pub flagged_nothing : (flags : List Bool) (later : List ℕ) → HasFlagged (λ k. false) flags later flags later
flagged_nothing flags later = record { long = refl; each = λ k. sym (or-false (flag_at flags k)); waits = λ k. sym (or-false (has_value later k)); sum = refl }

-- ---- one number more

waits_join : (l a h f : Bool) → ((l || (a && not f)) || (h && not (f || a))) ≡ (l || ((a || h) && not f))
waits_join true a h f = refl
waits_join false true true true = refl
waits_join false true true false = refl
waits_join false true false true = refl
waits_join false true false false = refl
waits_join false false true true = refl
waits_join false false true false = refl
waits_join false false false true = refl
waits_join false false false false = refl

pub flagged_more : (f : ℕ → Option ℕ) (n : ℕ) (flags : List Bool) (later : List ℕ) (flags_1 : List Bool) (later_1 : List ℕ) (flags_2 : List Bool) (later_2 : List ℕ)
    → HasFlagged (lists f n) flags later flags_1 later_1 → HasFlagged (holds (f n)) flags_1 later_1 flags_2 later_2 → HasFlagged (lists f (n + 1)) flags later flags_2 later_2
flagged_more f n flags later flags_1 later_1 flags_2 later_2 a b = record {
  long = b.long ∙ a.long;
  each = λ k. b.each k ∙ ap (λ x. x || holds (f n) k) (a.each k) ∙ or_assoc (flag_at flags k) (lists f n k) (holds (f n) k) ∙ sym (ap (λ x. flag_at flags k || x) (any_more n (λ t. holds (f t) k)));
  waits = λ k. b.waits k ∙ ap (λ x. x || (holds (f n) k && not (flag_at flags_1 k))) (a.waits k) ∙ ap (λ x. (has_value later k || (lists f n k && not (flag_at flags k))) || (holds (f n) k && not x)) (a.each k)
      ∙ waits_join (has_value later k) (lists f n k) (holds (f n) k) (flag_at flags k) ∙ sym (ap (λ x. has_value later k || (x && not (flag_at flags k))) (any_more n (λ t. holds (f t) k)));
  sum = b.sum ∙ a.sum;
}

-- ---- the whole walk

flag_of_none : (n k : ℕ) → flag_at (replicate n false) k ≡ false
flag_of_none zero k = refl
flag_of_none (suc n) zero = refl
flag_of_none (suc n) (suc k) = flag_of_none n k

-- inode 0 alone is flagged
pub begun : (s : Store) (n : ℕ) (flags : List Bool) (later : List ℕ) → HasFlagged (λ k. 0 == k) (replicate n false) [] flags later → IsOnTheWay s flags later
begun s n flags later h = record {
  root = only 0;
  led = λ i f. ([], (let e : (0 == i) ≡ true = sym (only i) ∙ f in e));
  waits = λ d w. only d ∙ waiting d w;
  taken = λ d i f w m. absurd (both_ways (has_value later d) w (h.waits d ∙ and_from (0 == d) (not (flag_at (replicate n false) d)) (sym (only d) ∙ f) (not_from_false (flag_at (replicate n false) d) (flag_of_none n d))));
}
  where
    only : (k : ℕ) → flag_at flags k ≡ (0 == k)
    only k = h.each k ∙ or_second_alone (flag_at (replicate n false) k) (0 == k) (flag_of_none n k)

    waiting : (d : ℕ) → has_value later d ≡ true → (0 == d) ≡ true
    waiting d w = (and_parts (0 == d) (not (flag_at (replicate n false) d)) (sym (h.waits d) ∙ w)).0

led_on : (s : Store) (path : List ℕ) (a d i : ℕ) → leads s a path d ≡ true → names s d i ≡ true → leads s a (path ++ i ∷ []) i ≡ true
led_on s [] a d i l h = and_from (names s a i) (i == i) (subst (λ k. names s k i ≡ true) (sym (eqb-true a d l)) h) (eq-eqb i i refl)
led_on s (b ∷ path) a d i l h = let p = and_parts (names s a b) (leads s b path d) l in and_from (names s a b) (leads s b (path ++ i ∷ []) i) p.0 (led_on s path b d i p.1 h)

module _ (s : Store) (flags : List Bool) (rest : List ℕ) (x : ℕ) (new : List Bool) (later : List ℕ) (w : IsOnTheWay s flags (rest ++ x ∷ [])) (h : HasFlagged (names s x) flags rest new later) where
  x_flagged : flag_at flags x ≡ true
  x_flagged = w.waits x (list_any-append (λ v. v == x) rest (x ∷ []) ∙ or_right (has_value rest x) ((x == x) || false) (or_left (x == x) false (eq-eqb x x refl)))

  kept : (k : ℕ) → flag_at flags k ≡ true → flag_at new k ≡ true
  kept k f = h.each k ∙ or_left (flag_at flags k) (names s x k) f

  led_new : (i : ℕ) → flag_at new i ≡ true → (path : List ℕ) × (leads s 0 path i ≡ true)
  led_new i f = ⊎_elim (λ t. w.led i t) (λ t. (let p = w.led x x_flagged in (p.0 ++ i ∷ [], led_on s p.0 0 x i p.1 t))) (or_cases (flag_at flags i) (names s x i) (sym (h.each i) ∙ f))

  still_waits : (d : ℕ) → has_value rest d ≡ true → has_value (rest ++ x ∷ []) d ≡ true
  still_waits d t = list_any-append (λ v. v == d) rest (x ∷ []) ∙ or_left (has_value rest d) ((x == d) || false) t

  waits_new : (d : ℕ) → has_value later d ≡ true → flag_at new d ≡ true
  waits_new d t = ⊎_elim (λ e. kept d (w.waits d (still_waits d e))) (λ e. h.each d ∙ or_right (flag_at flags d) (names s x d) (and_parts (names s x d) (not (flag_at flags d)) e).0)
      (or_cases (has_value rest d) (names s x d && not (flag_at flags d)) (sym (h.waits d) ∙ t))

  -- what is flagged and doesn't wait was flagged before, and is the one taken or was taken
  not_waiting : (d : ℕ) → has_value later d ≡ false → has_value rest d ≡ false
  not_waiting d t = go (has_value rest d) refl
    where
      go : (b : Bool) → has_value rest d ≡ b → b ≡ false
      go true e = absurd (both_ways (has_value later d) t (h.waits d ∙ or_left (has_value rest d) (names s x d && not (flag_at flags d)) e))
      go false e = refl

  before : (d : ℕ) → flag_at new d ≡ true → has_value later d ≡ false → flag_at flags d ≡ true
  before d f t = go (flag_at flags d) refl
    where
      go : (b : Bool) → flag_at flags d ≡ b → b ≡ true
      go true e = refl
      go false e = absurd (both_ways (has_value later d) t (h.waits d ∙ or_right (has_value rest d) (names s x d && not (flag_at flags d))
          (and_from (names s x d) (not (flag_at flags d)) (⊎_elim (λ q. absurd (both_ways (flag_at flags d) e q)) (λ q. q) (or_cases (flag_at flags d) (names s x d) (sym (h.each d) ∙ f))) (not_from_false (flag_at flags d) e))))

  alone : (d : ℕ) → has_value rest d ≡ false → d ≢ x → has_value (rest ++ x ∷ []) d ≡ false
  alone d t ne = list_any-append (λ v. v == d) rest (x ∷ []) ∙ or_second_alone (has_value rest d) ((x == d) || false) t ∙ or-false (x == d) ∙ ne_eqb x d (λ e. ne (sym e))

  taken_new : (d i : ℕ) → flag_at new d ≡ true → has_value later d ≡ false → names s d i ≡ true → flag_at new i ≡ true
  taken_new d i f t n = ⊎_elim
      (λ e. h.each i ∙ or_right (flag_at flags i) (names s x i) (subst (λ k. names s k i ≡ true) e n))
      (λ ne. kept i (w.taken d i (before d f t) (alone d (not_waiting d t) ne) n)) (cases_eq d x)

  -- one inode is taken
  pub taken_one : IsOnTheWay s new later
  taken_one = record { root = kept 0 w.root; led = led_new; waits = waits_new; taken = taken_new }

-- nothing is to be taken any more
pub all_taken : (s : Store) (flags : List Bool) → IsOnTheWay s flags [] → IsReach s (flag_at flags)
all_taken s flags w = record { root = w.root; closed = λ d i f n. w.taken d i f refl n; led = w.led }
