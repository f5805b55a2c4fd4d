-- The slots of a log in which sectors arrive: in the window of numbers that may stand, each that isn't on its way stands.
use Rattle.std.proofs.Common.{◌≡◌, ◌≢◌, ◌==◌, ℕ, ◌+◌, ◌-◌, ◌%◌, ◌<◌, ◌≤◌, ◌⊎◌, inl, inr, Bool, true, false, not, ◌||◌, if◌then◌else◌, Option, Some, None, List, [], ◌∷◌, ◌++◌, length, get_or, cond, refl, sym, ap, ◌∙◌, subst, arith}
use Rattle.std.specs.List.{slice_get, All, list_any, filter}
use Rattle.std.proofs.lemmas.Bool.{cases_eq, both_ways, or_cases, eqb-true, eq-eqb, ne_eqb, cond-true, cond-false}
use Rattle.std.proofs.lemmas.List.Elements.{All-head, All-tail, All-push, All-weaker, All-filter}
use Rattle.std.proofs.lemmas.List.Folds.{list_any_at}
use Rattle.std.proofs.lemmas.Option.{slice_get_within, same_Some}
use mathlib.Core.Bool.{or-true}
use Rattle.disk_definitions.specs.declared.log_sector.LogSector.{LogSector}
use Rattle.disk_definitions.specs.LogSectors.{log_sector_bytes, log_sector_in}
use Rattle.disk_definitions.specs.Logs.{Slots, numbered, sector_numbered}
use Rattle.disk_definitions.specs.Arriving.{with_sector}
use Rattle.ring_definitions.specs.RingRuns.{is_numbered, with_arrived}

-- a sector of this number is among those on their way
abbrev pub flies : List LogSector → ℕ → Bool
flies flying n = list_any (is_numbered n) flying

-- a sector on its way is the one of its number in the list of all from a on, and it is read back
pub record IsFlown (a : ℕ) (all : List LogSector) (reached sent : ℕ) (x : LogSector) : Type 0 where
  pub low : reached < x.seq
  pub high : x.seq ≤ sent
  pub same : slice_get all (x.seq - a) ≡ Some x
  pub reads : log_sector_in (x.seq % 256) (log_sector_bytes x) ≡ Some x

-- the slots and the sectors on their way, where all sectors from number a on are these: of the numbers in the window each that isn't on its way has its
-- sector in its slot, none that is stands, and no number stands that isn't issued
pub record IsStanding (a : ℕ) (all : List LogSector) (slots : Slots) (flying : List LogSector) (reached sent : ℕ) : Type 0 where
  pub low : a + 191 ≤ reached
  pub order : reached ≤ sent
  pub window : sent ≤ reached + 64
  pub known : sent < a + length all
  pub flown : All (IsFlown a all reached sent) flying
  pub gone : (n : ℕ) → reached < n + 192 → n ≤ sent → flies flying n ≡ true → sector_numbered slots n ≡ None
  pub there : (n : ℕ) → reached < n + 192 → n ≤ sent → flies flying n ≡ false → sector_numbered slots n ≡ slice_get all (n - a)
  pub numbers : (slot : ℕ) (x : LogSector) → slot < 256 → log_sector_in slot (slots slot) ≡ Some x → x.seq ≤ sent

-- numbers of a window have slots of their own
slots_apart : (r n m : ℕ) → r < n + 192 → n ≤ r + 64 → r < m + 192 → m ≤ r + 64 → n ≢ m → n % 256 ≢ m % 256
slots_apart r n m a b c d ne e = ne (omega arith)

below_256 : (n : ℕ) → n % 256 < 256
below_256 n = omega arith

-- a sector with another number isn't the one of this number
not_numbered : (n : ℕ) (o : Option LogSector) → ((x : LogSector) → o ≡ Some x → x.seq ≢ n) → numbered n o ≡ None
not_numbered n None h = refl
not_numbered n (Some x) h = cond-false (x.seq == n) (Some x) None (ne_eqb x.seq n (h x refl))

numbered_own : (x : LogSector) → numbered x.seq (Some x) ≡ Some x
numbered_own x = cond-true (x.seq == x.seq) (Some x) None (eq-eqb x.seq x.seq refl)

-- ---- sectors that aren't issued become others

module _ (a : ℕ) (all other : List LogSector) (reached sent : ℕ) (same : (k : ℕ) → k ≤ sent - a → slice_get other k ≡ slice_get all k) where
  within : (n : ℕ) → n ≤ sent → n - a ≤ sent - a
  within n h = omega arith

  other_flown : (x : LogSector) → IsFlown a all reached sent x → IsFlown a other reached sent x
  other_flown x f = record { low = f.low; high = f.high; same = same (x.seq - a) (within x.seq f.high) ∙ f.same; reads = f.reads }

  pub with_others : (slots : Slots) (flying : List LogSector) → sent < a + length other → IsStanding a all slots flying reached sent → IsStanding a other slots flying reached sent
  with_others slots flying known s = record {
    low = s.low;
    order = s.order;
    window = s.window;
    known = known;
    flown = All-weaker (IsFlown a all reached sent) (IsFlown a other reached sent) other_flown flying s.flown;
    gone = s.gone;
    there = λ n l h f. s.there n l h f ∙ sym (same (n - a) (within n h));
    numbers = s.numbers;
  }

-- ---- a sector is issued

pub flies_more : (flying : List LogSector) (x : LogSector) (n : ℕ) → x.seq ≢ n → flies (flying ++ x ∷ []) n ≡ flies flying n
flies_more [] x n ne = ap (λ b. b || false) (ne_eqb x.seq n ne)
flies_more (y ∷ ys) x n ne = ap (λ b. is_numbered n y || b) (flies_more ys x n ne)

flies_last : (flying : List LogSector) (x : LogSector) (n : ℕ) → x.seq ≡ n → flies (flying ++ x ∷ []) n ≡ true
flies_last [] x n e = ap (λ b. b || false) (eq-eqb x.seq n e)
flies_last (y ∷ ys) x n e = ap (λ b. is_numbered n y || b) (flies_last ys x n e) ∙ or-true (is_numbered n y)

higher_flown : (a : ℕ) (all : List LogSector) (reached sent : ℕ) (x : LogSector) → IsFlown a all reached sent x → IsFlown a all reached (sent + 1) x
higher_flown a all reached sent x f = record { low = f.low; high = up x.seq f.high; same = f.same; reads = f.reads }
  where
    up : (n : ℕ) → n ≤ sent → n ≤ sent + 1
    up n h = omega arith

next_or_before : (n sent : ℕ) → n ≤ sent + 1 → (n ≤ sent) ⊎ (n ≡ sent + 1)
next_or_before n sent h = grind arith

pub with_issued : (a : ℕ) (all : List LogSector) (slots : Slots) (flying : List LogSector) (reached sent : ℕ) (x : LogSector)
    → x.seq ≡ sent + 1 → sent < reached + 64 → slice_get all (x.seq - a) ≡ Some x → log_sector_in (x.seq % 256) (log_sector_bytes x) ≡ Some x
    → IsStanding a all slots flying reached sent → IsStanding a all slots (flying ++ x ∷ []) reached (sent + 1)
with_issued a all slots flying reached sent x number room same reads s = record {
  low = s.low;
  order = step reached sent s.order;
  window = fits room;
  known = known x.seq (length all) number s.order s.low (slice_get_within all (x.seq - a) x same);
  flown = All-push (IsFlown a all reached (sent + 1)) flying x
      (All-weaker (IsFlown a all reached sent) (IsFlown a all reached (sent + 1)) (higher_flown a all reached sent) flying s.flown)
      (record { low = above x.seq number s.order; high = at x.seq number; same = same; reads = reads });
  gone = λ n l h f. gone n l f (next_or_before n sent h);
  there = λ n l h f. there n l f (next_or_before n sent h);
  numbers = λ slot y l e. step y.seq sent (s.numbers slot y l e);
}
  where
    step : (n m : ℕ) → n ≤ m → n ≤ m + 1
    step n m h = omega arith

    fits : sent < reached + 64 → sent + 1 ≤ reached + 64
    fits h = omega arith

    at : (n : ℕ) → n ≡ sent + 1 → n ≤ sent + 1
    at n e = omega arith

    above : (n : ℕ) → n ≡ sent + 1 → reached ≤ sent → reached < n
    above n e h = omega arith

    known : (n l : ℕ) → n ≡ sent + 1 → reached ≤ sent → a + 191 ≤ reached → n - a < l → sent + 1 < a + l
    known n l e o low h = omega arith

    other : (n m : ℕ) → n ≤ sent → m ≡ sent + 1 → m ≢ n
    other n m h e f = omega arith

    past : (n m : ℕ) → m ≤ sent → n ≡ sent + 1 → m ≢ n
    past n m h e f = omega arith

    gone : (n : ℕ) → reached < n + 192 → flies (flying ++ x ∷ []) n ≡ true → (n ≤ sent) ⊎ (n ≡ sent + 1) → sector_numbered slots n ≡ None
    gone n l f (inl h) = s.gone n l h (sym (flies_more flying x n (other n x.seq h number)) ∙ f)
    gone n l f (inr e) = not_numbered n (log_sector_in (n % 256) (slots (n % 256))) (λ y e2. past n y.seq (s.numbers (n % 256) y (below_256 n) e2) e)

    there : (n : ℕ) → reached < n + 192 → flies (flying ++ x ∷ []) n ≡ false → (n ≤ sent) ⊎ (n ≡ sent + 1) → sector_numbered slots n ≡ slice_get all (n - a)
    there n l f (inl h) = s.there n l h (sym (flies_more flying x n (other n x.seq h number)) ∙ f)
    there n l f (inr e) = absurd (both_ways (flies (flying ++ x ∷ []) n) f (flies_last flying x n (number ∙ sym e)))

-- ---- a sector arrives

-- the sectors of one number are one
abbrev IsOne : ℕ → LogSector → LogSector → Type 0
IsOne number x y = is_numbered number y ≡ true → y ≡ x

abbrev arrives : ℕ → Slots → LogSector → Slots
arrives number slots y = if is_numbered number y then with_sector slots y else slots

arrives_elsewhere : (number : ℕ) (slots : Slots) (y : LogSector) (k : ℕ) → k ≢ number % 256 → arrives number slots y k ≡ slots k
arrives_elsewhere number slots y k ne = at (y.seq == number) refl
  where
    at : (b : Bool) → (y.seq == number) ≡ b → (cond b (with_sector slots y) slots) k ≡ slots k
    at false e = refl
    at true e = cond-false (k == y.seq % 256) (log_sector_bytes y) (slots k) (ne_eqb k (y.seq % 256) (λ f. ne (f ∙ ap (λ n. n % 256) (eqb-true y.seq number e))))

pub arrived_elsewhere : (number : ℕ) (flying : List LogSector) (slots : Slots) (k : ℕ) → k ≢ number % 256 → with_arrived number slots flying k ≡ slots k
arrived_elsewhere number [] slots k ne = refl
arrived_elsewhere number (y ∷ ys) slots k ne = arrived_elsewhere number ys (arrives number slots y) k ne ∙ arrives_elsewhere number slots y k ne

arrives_here : (number : ℕ) (slots : Slots) (x y : LogSector) → IsOne number x y → (slots (number % 256) ≡ log_sector_bytes x) ⊎ (is_numbered number y ≡ true) → arrives number slots y (number % 256) ≡ log_sector_bytes x
arrives_here number slots x y one h = at (y.seq == number) refl h
  where
    at : (b : Bool) → (y.seq == number) ≡ b → (slots (number % 256) ≡ log_sector_bytes x) ⊎ (b ≡ true) → (cond b (with_sector slots y) slots) (number % 256) ≡ log_sector_bytes x
    at false e (inl h) = h
    at false e (inr h) = absurd (cc)
    at true e h =
        let slot : number % 256 ≡ y.seq % 256 = ap (λ n. n % 256) (sym (eqb-true y.seq number e)) in
        cond-true (number % 256 == y.seq % 256) (log_sector_bytes y) (slots (number % 256)) (eq-eqb (number % 256) (y.seq % 256) slot) ∙ ap log_sector_bytes (one e)

pub arrived_here : (number : ℕ) (flying : List LogSector) (slots : Slots) (x : LogSector) → All (IsOne number x) flying
    → (slots (number % 256) ≡ log_sector_bytes x) ⊎ (flies flying number ≡ true) → with_arrived number slots flying (number % 256) ≡ log_sector_bytes x
arrived_here number [] slots x all (inl h) = h
arrived_here number [] slots x all (inr h) = absurd (cc)
arrived_here number (y ∷ ys) slots x all h =
    arrived_here number ys (arrives number slots y) x (All-tail (IsOne number x) y ys all) (next h)
  where
    one : IsOne number x y
    one = All-head (IsOne number x) y ys all

    or : (is_numbered number y ≡ true) ⊎ (flies ys number ≡ true) → (arrives number slots y (number % 256) ≡ log_sector_bytes x) ⊎ (flies ys number ≡ true)
    or (inl a) = inl (arrives_here number slots x y one (inr a))
    or (inr b) = inr b

    next : (slots (number % 256) ≡ log_sector_bytes x) ⊎ (flies (y ∷ ys) number ≡ true) → (arrives number slots y (number % 256) ≡ log_sector_bytes x) ⊎ (flies ys number ≡ true)
    next (inl h) = inl (arrives_here number slots x y one (inl h))
    next (inr h) = or (or_cases (is_numbered number y) (flies ys number) h)

-- the sectors that are left
abbrev pub left : ℕ → List LogSector → List LogSector
left number flying = filter (λ x. not (is_numbered number x)) flying

pub left_same : (number : ℕ) (flying : List LogSector) → flies (left number flying) number ≡ false
left_same number [] = refl
left_same number (y ∷ ys) = at (y.seq == number) refl (left_same number ys)
  where
    at : (b : Bool) → (y.seq == number) ≡ b → flies (left number ys) number ≡ false → flies (cond (not b) (y ∷ left number ys) (left number ys)) number ≡ false
    at true e rest = rest
    at false e rest = ap (λ b. b || flies (left number ys) number) e ∙ rest

pub left_other : (number n : ℕ) (flying : List LogSector) → n ≢ number → flies (left number flying) n ≡ flies flying n
left_other number n [] ne = refl
left_other number n (y ∷ ys) ne = at (y.seq == number) refl (left_other number n ys ne)
  where
    at : (b : Bool) → (y.seq == number) ≡ b → flies (left number ys) n ≡ flies ys n → flies (cond (not b) (y ∷ left number ys) (left number ys)) n ≡ (is_numbered n y || flies ys n)
    at true e rest = rest ∙ sym (ap (λ b. b || flies ys n) (ne_eqb y.seq n (λ f. ne (sym f ∙ eqb-true y.seq number e))))
    at false e rest = ap (λ b. is_numbered n y || b) rest

-- the one of a number that is on its way
pub found_flying : (P : LogSector → Type 0) (number : ℕ) (flying : List LogSector) → All P flying → flies flying number ≡ true → (x : LogSector) × (x.seq ≡ number) × P x
found_flying P number [] all f = absurd (cc)
found_flying P number (y ∷ ys) all f = at (or_cases (is_numbered number y) (flies ys number) f) (found_flying P number ys (All-tail P y ys all))
  where
    at : (is_numbered number y ≡ true) ⊎ (flies ys number ≡ true) → (flies ys number ≡ true → (x : LogSector) × (x.seq ≡ number) × P x) → (x : LogSector) × (x.seq ≡ number) × P x
    at (inl e) rest = (y, eqb-true y.seq number e, All-head P y ys all)
    at (inr e) rest = rest e

one_of_number : (a : ℕ) (all : List LogSector) (reached sent number : ℕ) (x : LogSector) → x.seq ≡ number → slice_get all (x.seq - a) ≡ Some x
    → (y : LogSector) → IsFlown a all reached sent y → IsOne number x y
one_of_number a all reached sent number x is same y f e =
    same_Some y x (sym f.same ∙ ap (λ n. slice_get all (n - a)) (eqb-true y.seq number e ∙ sym is) ∙ same)

-- what stands in the slots after the one of a number arrived
module _ (slots : Slots) (flying : List LogSector) (x : LogSector) (one : All (IsOne x.seq x) flying) (there : flies flying x.seq ≡ true) (reads : log_sector_in (x.seq % 256) (log_sector_bytes x) ≡ Some x) where
  seen_here : sector_numbered (with_arrived x.seq slots flying) x.seq ≡ Some x
  seen_here = ap (λ b. numbered x.seq (log_sector_in (x.seq % 256) b)) (arrived_here x.seq flying slots x one (inr there)) ∙ ap (numbered x.seq) reads ∙ numbered_own x

  seen_elsewhere : (n : ℕ) → n % 256 ≢ x.seq % 256 → sector_numbered (with_arrived x.seq slots flying) n ≡ sector_numbered slots n
  seen_elsewhere n ne = ap (λ b. numbered n (log_sector_in (n % 256) b)) (arrived_elsewhere x.seq flying slots (n % 256) ne)

  number_in : (sent slot : ℕ) (y : LogSector) → x.seq ≤ sent → (log_sector_in slot (slots slot) ≡ Some y → y.seq ≤ sent) → log_sector_in slot (with_arrived x.seq slots flying slot) ≡ Some y → y.seq ≤ sent
  number_in sent slot y high old e = at (cases_eq slot (x.seq % 256))
    where
      at : (slot ≡ x.seq % 256) ⊎ (slot ≡ x.seq % 256 → ⊥) → y.seq ≤ sent
      at (inl s) =
          let here : log_sector_in slot (with_arrived x.seq slots flying slot) ≡ Some x =
          ap (λ k. log_sector_in k (with_arrived x.seq slots flying k)) s ∙ ap (log_sector_in (x.seq % 256)) (arrived_here x.seq flying slots x one (inr there)) ∙ reads in
          subst (λ (z : LogSector). z.seq ≤ sent) (same_Some x y (sym here ∙ e)) high
      at (inr ne) = old (ap (log_sector_in slot) (sym (arrived_elsewhere x.seq flying slots slot ne)) ∙ e)

arrived_one : (a : ℕ) (all : List LogSector) (slots : Slots) (flying : List LogSector) (reached sent : ℕ) (x : LogSector) → flies flying x.seq ≡ true → IsFlown a all reached sent x
    → IsStanding a all slots flying reached sent → IsStanding a all (with_arrived x.seq slots flying) (left x.seq flying) reached sent
arrived_one a all slots flying reached sent x f flown s = record {
  low = s.low;
  order = s.order;
  window = s.window;
  known = s.known;
  flown = All-filter (λ y. not (is_numbered x.seq y)) (IsFlown a all reached sent) flying s.flown;
  gone = λ n l h g. gone n l h g (cases_eq n x.seq);
  there = λ n l h g. there n l h g (cases_eq n x.seq);
  numbers = λ slot y l e. number_in slots flying x one f flown.reads sent slot y flown.high (s.numbers slot y l) e;
}
  where
    one : All (IsOne x.seq x) flying
    one = All-weaker (IsFlown a all reached sent) (IsOne x.seq x) (one_of_number a all reached sent x.seq x refl flown.same) flying s.flown

    apart : (n m : ℕ) → reached < n + 192 → n ≤ sent → reached < m → m ≤ sent → sent ≤ reached + 64 → n ≢ m → n % 256 ≢ m % 256
    apart n m b c d e w ne = slots_apart reached n m b (omega arith) (omega arith) (omega arith) ne

    gone : (n : ℕ) → reached < n + 192 → n ≤ sent → flies (left x.seq flying) n ≡ true → (n ≡ x.seq) ⊎ (n ≡ x.seq → ⊥) → sector_numbered (with_arrived x.seq slots flying) n ≡ None
    gone n l h g (inl e) = absurd (both_ways (flies (left x.seq flying) x.seq) (left_same x.seq flying) (ap (flies (left x.seq flying)) (sym e) ∙ g))
    gone n l h g (inr ne) = seen_elsewhere slots flying x one f flown.reads n (apart n x.seq l h flown.low flown.high s.window ne) ∙ s.gone n l h (sym (left_other x.seq n flying ne) ∙ g)

    there : (n : ℕ) → reached < n + 192 → n ≤ sent → flies (left x.seq flying) n ≡ false → (n ≡ x.seq) ⊎ (n ≡ x.seq → ⊥) → sector_numbered (with_arrived x.seq slots flying) n ≡ slice_get all (n - a)
    there n l h g (inl e) = subst (λ k. sector_numbered (with_arrived x.seq slots flying) k ≡ slice_get all (k - a)) (sym e) (seen_here slots flying x one f flown.reads ∙ sym flown.same)
    there n l h g (inr ne) = seen_elsewhere slots flying x one f flown.reads n (apart n x.seq l h flown.low flown.high s.window ne) ∙ s.there n l h (sym (left_other x.seq n flying ne) ∙ g)

pub with_arrival : (a : ℕ) (all : List LogSector) (slots : Slots) (flying : List LogSector) (reached sent number : ℕ) → flies flying number ≡ true
    → IsStanding a all slots flying reached sent → IsStanding a all (with_arrived number slots flying) (left number flying) reached sent
with_arrival a all slots flying reached sent number f s =
    let x = found_flying (IsFlown a all reached sent) number flying s.flown f in
    subst (λ k. flies flying k ≡ true → IsStanding a all (with_arrived k slots flying) (left k flying) reached sent) x.1
    (λ g. arrived_one a all slots flying reached sent x.0 g x.2 s) f

-- ---- numbers are passed

pub with_passed : (a : ℕ) (all : List LogSector) (slots : Slots) (flying : List LogSector) (reached further sent : ℕ) → reached ≤ further → further ≤ sent
    → ((n : ℕ) → reached < n → n ≤ further → flies flying n ≡ false)
    → IsStanding a all slots flying reached sent → IsStanding a all slots flying further sent
with_passed a all slots flying reached further sent more within passed s = record {
  low = up (a + 191) s.low;
  order = within;
  window = window s.window;
  known = s.known;
  flown = λ k d l. flown (get_or flying k d) (list_any_at (is_numbered (get_or flying k d).seq) flying k d l (eq-eqb (get_or flying k d).seq (get_or flying k d).seq refl)) (s.flown k d l);
  gone = λ n l h. s.gone n (down (n + 192) l) h;
  there = λ n l h. s.there n (down (n + 192) l) h;
  numbers = s.numbers;
}
  where
    up : (n : ℕ) → n ≤ reached → n ≤ further
    up n h = omega arith

    window : sent ≤ reached + 64 → sent ≤ further + 64
    window h = omega arith

    down : (n : ℕ) → further < n → reached < n
    down n h = omega arith

    above : (n : ℕ) → reached < n → flies flying n ≡ true → (n ≤ further) ⊎ (further < n) → further < n
    above n l f (inl h) = absurd (both_ways (flies flying n) (passed n l h) f)
    above n l f (inr h) = h

    cases : (n : ℕ) → (n ≤ further) ⊎ (further < n)
    cases n = grind arith

    flown : (x : LogSector) → flies flying x.seq ≡ true → IsFlown a all reached sent x → IsFlown a all further sent x
    flown x f old = record { low = above x.seq old.low f (cases x.seq); high = old.high; same = old.same; reads = old.reads }
