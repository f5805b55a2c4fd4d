-- The line with a number is found by its place where numbers ascend.
use Rattle.std.proofs.Common.{◌≡◌, ◌⊎◌, inl, inr, ℕ, zero, suc, ◌+◌, ◌<◌, ◌≤◌, true, false, cond, ◌==◌, Option, Some, None, List, [], ◌∷◌, length, get_or, refl, sym, ◌∙◌, ap, subst, arith}
use Rattle.std.specs.Prelude.{Result, Ok, Err}
use Rattle.std.specs.List.{slice_get}
use Rattle.std.specs.List.Sorted.{IsSearchInRange, IsBinarySearchResult, IsNonDecreasingBy}
use Rattle.std.specs.Ordering.{nat_cmp, ordering_index}
use Rattle.std.proofs.lemmas.Cmp.{ranked}
use Rattle.std.proofs.lemmas.List.Sorted.{IsNonDecreasingBy-from_default, IsNonDecreasingBy-short}
use Rattle.std.proofs.lemmas.Bool.Decides.{nat_tests}
use Rattle.std.proofs.lemmas.Bool.{cases_lt}
use Rattle.std.proofs.lemmas.Option.{get_or_from_slice_get, slice_get-get_or, slice_get_within}
use Rattle.frang_base.specs.declared.script.Line.{Line}
use Rattle.tree_definitions.specs.Live.{line_of}
use Rattle.transcript_rules.specs.Tells.{AscendFrom}
use Rattle.transcript_rules.proofs.Waits.{ascend_above}
use Rattle.judge_rules.specs.Scripts.{Finds}

-- a line before another has a lesser number
ascend_order : (m : ℕ) (lines : List Line) (i j : ℕ) (a b : Line) → AscendFrom m lines → slice_get lines i ≡ Some a → slice_get lines j ≡ Some b → i < j → a.number < b.number
ascend_order m [] i j a b up at to below = cc
ascend_order m (x ∷ xs) i zero a b up at to below = absurd (omega arith)
ascend_order m (x ∷ xs) zero (suc j) a b (low, up) at to below =
    let same : x ≡ a = cc in
    let above : x.number + 1 ≤ b.number = ascend_above (x.number + 1) xs j b up to in
    subst (λ (y : Line). y.number < b.number) same (omega arith)
ascend_order m (x ∷ xs) (suc i) (suc j) a b (low, up) at to below = ascend_order (x.number + 1) xs i j a b up at to (omega arith)

-- a line that stands in a script is the one with its number
found_at : (m : ℕ) (lines : List Line) (i : ℕ) (l : Line) → AscendFrom m lines → slice_get lines i ≡ Some l → line_of lines l.number ≡ Some l
found_at m [] i l up is = cc
found_at m (x ∷ xs) zero l up is =
    let same : x ≡ l = cc in
    let own : (l.number == l.number) ≡ true = grind (arith, nat_tests) in
    subst (λ (y : Line). line_of (y ∷ xs) l.number ≡ Some l) (sym same) (ap (λ b. cond {A = Option Line} b (Some l) (line_of xs l.number)) own)
found_at m (x ∷ xs) (suc i) l (low, up) is =
    let above : x.number + 1 ≤ l.number = ascend_above (x.number + 1) xs i l up is in
    let other : (x.number == l.number) ≡ false = grind (arith, nat_tests) in
    ap (λ b. cond {A = Option Line} b (Some x) (line_of xs l.number)) other ∙ found_at (x.number + 1) xs i l up is

none_found : (k : ℕ) (lines : List Line) → ((j : ℕ) (l : Line) → slice_get lines j ≡ Some l → (l.number == k) ≡ false) → line_of lines k ≡ None
none_found k [] others = refl
none_found k (x ∷ xs) others = ap (λ b. cond {A = Option Line} b (Some x) (line_of xs k)) (others 0 x refl) ∙ none_found k xs (λ j l at. others (suc j) l at)

-- ---- what a search says

-- the comparisons with a number rise along the lines, as a search asks
rise : (m : ℕ) (lines : List Line) (k : ℕ) → AscendFrom m lines → IsNonDecreasingBy (λ (l : Line). ordering_index (nat_cmp l.number k)) lines
rise m [] k up = IsNonDecreasingBy-short (λ (l : Line). ordering_index (nat_cmp l.number k)) [] (omega arith)
rise m (x ∷ xs) k up = IsNonDecreasingBy-from_default (λ (l : Line). ordering_index (nat_cmp l.number k)) (x ∷ xs) x (λ i j le within.
    let lines = x ∷ xs in
    let a = get_or lines i x in
    let b = get_or lines j x in
    let numbers : a.number ≤ b.number = by i j le within (cases_lt i j) in
    grind (arith, nat_tests))
  where
    by : (i j : ℕ) → i ≤ j → j < length (x ∷ xs) → (i < j) ⊎ (j ≤ i) → (get_or (x ∷ xs) i x).number ≤ (get_or (x ∷ xs) j x).number
    by i j le within (inl below) =
        let at = slice_get-get_or (x ∷ xs) i x (omega arith) in
        let to = slice_get-get_or (x ∷ xs) j x within in
        let less : (get_or (x ∷ xs) i x).number < (get_or (x ∷ xs) j x).number = ascend_order m (x ∷ xs) i j (get_or (x ∷ xs) i x) (get_or (x ∷ xs) j x) up at to below in
        omega arith
    by i j le within (inr above) =
        let same : i ≡ j = omega arith in
        subst (λ n. (get_or (x ∷ xs) i x).number ≤ (get_or (x ∷ xs) n x).number) same (omega arith)

pub searched : (lines : List Line) (k : ℕ) (r : Result ℕ ℕ) → AscendFrom 0 lines → IsSearchInRange r (length lines) → IsBinarySearchResult (λ (l : Line). nat_cmp l.number k) lines r → Finds lines k r
searched [] k (Ok at) up within equal = absurd (omega arith)
searched (x ∷ xs) k (Ok at) up within equal =
    let l = get_or (x ∷ xs) at x in
    let is : slice_get (x ∷ xs) at ≡ Some l = slice_get-get_or (x ∷ xs) at x within in
    let number : l.number ≡ k = ranked _ k _ (sym (equal x)) in
    record { within = within; line = l; is_at = is; own = number; is = subst (λ n. line_of (x ∷ xs) n ≡ Some l) number (found_at 0 (x ∷ xs) at l up is) }
searched lines k (Err at) up within parted = none_found k lines (λ j l is. by j l is (cases_lt j at))
  where
    by : (j : ℕ) (l : Line) → slice_get lines j ≡ Some l → (j < at) ⊎ (at ≤ j) → (l.number == k) ≡ false
    by j l is (inl below) =
        let less : (get_or lines j l).number < k = ranked _ k _ (sym ((parted (rise 0 lines k up)).0 j l (omega arith) below)) in
        subst (λ (y : Line). (y.number == k) ≡ false) (get_or_from_slice_get lines j l l is) (grind (arith, nat_tests))
    by j l is (inr above) =
        let more : k < (get_or lines j l).number = ranked _ k _ (sym ((parted (rise 0 lines k up)).1 j l above (slice_get_within lines j l is))) in
        subst (λ (y : Line). (y.number == k) ≡ false) (get_or_from_slice_get lines j l l is) (grind (arith, nat_tests))
