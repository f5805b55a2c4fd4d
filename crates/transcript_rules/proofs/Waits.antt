-- Lines that wait for an answer: what the first of them tells, where numbers ascend.
use Rattle.std.proofs.Common.{◌≡◌, ℕ, zero, suc, ◌+◌, ◌<◌, ◌≤◌, Bool, true, false, not, ◌&&◌, ◌||◌, ◌==◌, cond, Option, Some, None, List, [], ◌∷◌, ◌++◌, length, filter, take, drop, nat_le, nat_lt, is_some, IfSome, refl, sym, ◌∙◌, ap, subst, arith}
use Rattle.std.specs.List.{list_any, list_all, slice_get}
use Rattle.std.specs.Ordering.{nat_cmp}
use Rattle.std.specs.BTreeSet.{BTreeSet, contains}
use Rattle.std.proofs.lemmas.Bool.Decides.{nat_tests}
use Rattle.std.proofs.lemmas.Bool.{and_parts}
use Rattle.std.proofs.lemmas.Option.{slice_get_within}
use Rattle.std.proofs.lemmas.List.Folds.{list_all-append}
use Rattle.std.proofs.lemmas.List.Elements.{filter-append}
use Rattle.frang_base.specs.declared.said.Said.{Said}
use Rattle.frang_base.specs.declared.script.Line.{Line}
use Rattle.tree_definitions.specs.Live.{line_of}
use Rattle.tree_definitions.specs.Transcript.{answers, are_answered, lines_before, lines_for}
use Rattle.transcript_rules.specs.Tells.{AscendFrom, passed, wanted}
use Rattle.transcript_rules.specs.Waiting.{passes, lets}

-- ---- by the numbers that were answered

pub passes_is : (hosts : Bool) (answered : BTreeSet ℕ) (before : List Said) → ((n : ℕ) → contains nat_cmp answered n ≡ list_any (answers n) before) → (l : Line) → passes hosts answered l ≡ passed hosts before l
passes_is hosts answered before marked l = ap (λ b. not (wanted hosts l) || b) (marked l.number)

pub all_passes : (hosts : Bool) (answered : BTreeSet ℕ) (before : List Said) → ((n : ℕ) → contains nat_cmp answered n ≡ list_any (answers n) before) → (lines : List Line) → list_all (passes hosts answered) lines ≡ list_all (passed hosts before) lines
all_passes hosts answered before marked [] = refl
all_passes hosts answered before marked (l ∷ lines) =
    ap (λ b. b && list_all (passes hosts answered) lines) (passes_is hosts answered before marked l) ∙ ap (λ b. passed hosts before l && b) (all_passes hosts answered before marked lines)

-- ---- numbers that ascend

-- none of them is below what they ascend from
none_below : (n m : ℕ) (h : Bool) (lines : List Line) → n ≤ m → AscendFrom m lines → lines_before n (filter (wanted h) lines) ≡ []
none_below n m h [] low up = refl
none_below n m h (l ∷ lines) low (at, up) = go (wanted h l) (none_below n (l.number + 1) h lines (omega arith) up)
  where
    out : nat_lt l.number n ≡ false
    out = grind (arith, nat_tests)

    go : (b : Bool) → lines_before n (filter (wanted h) lines) ≡ [] → lines_before n (cond b (l ∷ filter (wanted h) lines) (filter (wanted h) lines)) ≡ []
    go true rest = ap (λ b. cond {A = List Line} b (l ∷ lines_before n (filter (wanted h) lines)) (lines_before n (filter (wanted h) lines))) out ∙ rest
    go false rest = rest

-- a line that waits stops whoever asks for a greater number
pub stuck_at : (h : Bool) (before : List Said) (n m : ℕ) (l : Line) (lines : List Line) → AscendFrom m (l ∷ lines) → passed h before l ≡ false
    → are_answered (lines_before n (filter (wanted h) (l ∷ lines))) before ≡ nat_le n l.number
stuck_at h before n m l lines (at, up) waits = go (wanted h l) (list_any (answers l.number) before) refl refl waits
  where
    by : (c : Bool) → nat_lt l.number n ≡ c → list_any (answers l.number) before ≡ false
        → are_answered (cond {A = List Line} c (l ∷ lines_before n (filter (wanted h) lines)) (lines_before n (filter (wanted h) lines))) before ≡ nat_le n l.number
    by true below unanswered = ap (λ b. b && are_answered (lines_before n (filter (wanted h) lines)) before) unanswered ∙ (let z : false ≡ nat_le n l.number = grind (arith, nat_tests) in z)
    by false above unanswered =
        let low : n ≤ l.number + 1 = grind (arith, nat_tests) in
        ap (λ (ls : List Line). are_answered ls before) (none_below n (l.number + 1) h lines low up) ∙ (let z : true ≡ nat_le n l.number = grind (arith, nat_tests) in z)

    go : (w a : Bool) → wanted h l ≡ w → list_any (answers l.number) before ≡ a → (not w || a) ≡ false
        → are_answered (lines_before n (cond {A = List Line} w (l ∷ filter (wanted h) lines) (filter (wanted h) lines))) before ≡ nat_le n l.number
    go true false is an unmet = by (nat_lt l.number n) refl an
    go true true is an unmet = cc
    go false _ is an unmet = cc

-- where none waits, all are answered
pub none_waits : (h : Bool) (before : List Said) (n : ℕ) (lines : List Line) → list_all (passed h before) lines ≡ true → are_answered (lines_before n (filter (wanted h) lines)) before ≡ true
none_waits h before n [] all = refl
none_waits h before n (l ∷ lines) all =
    let parts = and_parts (passed h before l) (list_all (passed h before) lines) all in
    go (wanted h l) (nat_lt l.number n) parts.0 (none_waits h before n lines parts.1)
  where
    by : (c : Bool) → list_any (answers l.number) before ≡ true → are_answered (lines_before n (filter (wanted h) lines)) before ≡ true
        → are_answered (cond {A = List Line} c (l ∷ lines_before n (filter (wanted h) lines)) (lines_before n (filter (wanted h) lines))) before ≡ true
    by true an rest = ap (λ b. b && are_answered (lines_before n (filter (wanted h) lines)) before) an ∙ rest
    by false an rest = rest

    go : (w c : Bool) → (not w || list_any (answers l.number) before) ≡ true → are_answered (lines_before n (filter (wanted h) lines)) before ≡ true
        → are_answered (lines_before n (cond {A = List Line} w (l ∷ filter (wanted h) lines) (filter (wanted h) lines))) before ≡ true
    go true c an rest = by (nat_lt l.number n) an rest
    go false c an rest = rest

-- ---- a script, of which no line waits before a place

before_both : (h : Bool) (before : List Said) (n : ℕ) (xs ys : List Line)
    → are_answered (lines_before n (filter (wanted h) (xs ++ ys))) before ≡ (are_answered (lines_before n (filter (wanted h) xs)) before && are_answered (lines_before n (filter (wanted h) ys)) before)
before_both h before n xs ys =
    ap (λ (ls : List Line). are_answered (lines_before n ls) before) (filter-append (wanted h) xs ys)
    ∙ ap (λ (ls : List Line). are_answered ls before) (filter-append (λ l. nat_lt l.number n) (filter (wanted h) xs) (filter (wanted h) ys))
    ∙ list_all-append (λ l. list_any (answers l.number) before) (lines_before n (filter (wanted h) xs)) (lines_before n (filter (wanted h) ys))

pub first_waits : (h : Bool) (before : List Said) (n m : ℕ) (xs : List Line) (p : ℕ) → AscendFrom m xs → list_all (passed h before) (take p xs) ≡ true
    → ((l : Line) → slice_get xs p ≡ Some l → passed h before l ≡ false) → are_answered (lines_before n (filter (wanted h) xs)) before ≡ lets (slice_get xs p) n
first_waits h before n m [] p up all waits = refl
first_waits h before n m (x ∷ xs) zero up all waits = stuck_at h before n m x xs up (waits x refl)
first_waits h before n m (x ∷ xs) (suc p) up all waits =
    let parts = and_parts (passed h before x) (list_all (passed h before) (take p xs)) all in
    before_both h before n (x ∷ []) xs
    ∙ ap (λ b. b && are_answered (lines_before n (filter (wanted h) xs)) before) (none_waits h before n (x ∷ []) (ap (λ b. b && true) parts.0))
    ∙ first_waits h before n (x.number + 1) xs p up.1 parts.1 waits

-- those of any party are all
any_party : (lines : List Line) → filter (wanted false) lines ≡ lines
any_party [] = refl
any_party (l ∷ lines) = ap (λ ls. l ∷ ls) (any_party lines)

pub first_of_all : (before : List Said) (n m : ℕ) (xs : List Line) (p : ℕ) → AscendFrom m xs → list_all (passed false before) (take p xs) ≡ true
    → ((l : Line) → slice_get xs p ≡ Some l → passed false before l ≡ false) → are_answered (lines_before n xs) before ≡ lets (slice_get xs p) n
first_of_all before n m xs p up all waits = ap (λ (ls : List Line). are_answered (lines_before n ls) before) (sym (any_party xs)) ∙ first_waits false before n m xs p up all waits

abbrev pub is_nothing : Option Line → Bool
is_nothing None = true
is_nothing (Some l) = false

pub all_answered : (before : List Said) (xs : List Line) (p : ℕ) → list_all (passed false before) (take p xs) ≡ true
    → ((l : Line) → slice_get xs p ≡ Some l → passed false before l ≡ false) → are_answered xs before ≡ is_nothing (slice_get xs p)
all_answered before [] p all waits = refl
all_answered before (x ∷ xs) zero all waits = ap (λ b. b && list_all (λ l. list_any (answers l.number) before) xs) (waits x refl)
all_answered before (x ∷ xs) (suc p) all waits =
    let parts = and_parts (passed false before x) (list_all (passed false before) (take p xs)) all in
    ap (λ b. b && list_all (λ l. list_any (answers l.number) before) xs) parts.0 ∙ all_answered before xs p parts.1 waits

-- ---- a line by its number

-- a number below what they ascend from is none's
none_of : (n m : ℕ) (lines : List Line) → n < m → AscendFrom m lines → line_of lines n ≡ None
none_of n m [] low up = refl
none_of n m (l ∷ lines) low (at, up) =
    let other : (l.number == n) ≡ false = grind (arith, nat_tests) in
    ap (λ b. cond {A = Option Line} b (Some l) (line_of lines n)) other ∙ none_of n (l.number + 1) lines (omega arith) up

pub ascend_above : (m : ℕ) (lines : List Line) (i : ℕ) (l : Line) → AscendFrom m lines → slice_get lines i ≡ Some l → m ≤ l.number
ascend_above m [] i l up is = cc
ascend_above m (x ∷ xs) zero l (at, up) is = let same : x ≡ l = cc in subst (λ (y : Line). m ≤ y.number) same at
ascend_above m (x ∷ xs) (suc i) l (at, up) is = let rest : x.number + 1 ≤ l.number = ascend_above (x.number + 1) xs i l up is in omega arith

pub line_at : (m : ℕ) (lines : List Line) (i : ℕ) (l : Line) → AscendFrom m lines → slice_get lines i ≡ Some l → line_of lines l.number ≡ Some l
line_at m [] i l up is = cc
line_at m (x ∷ xs) zero l (at, up) is =
    let same : x ≡ l = cc in
    let own : (x.number == l.number) ≡ true = subst (λ (y : Line). (x.number == y.number) ≡ true) same (let z : (x.number == x.number) ≡ true = grind (arith, nat_tests) in z) in
    ap (λ b. cond {A = Option Line} b (Some x) (line_of xs l.number)) own ∙ ap Some same
line_at m (x ∷ xs) (suc i) l (at, up) is =
    let rest : x.number + 1 ≤ l.number = ascend_above (x.number + 1) xs i l up is in
    let other : (x.number == l.number) ≡ false = grind (arith, nat_tests) in
    ap (λ b. cond {A = Option Line} b (Some x) (line_of xs l.number)) other ∙ line_at (x.number + 1) xs i l up is

pub found_at : (m : ℕ) (lines : List Line) (i : ℕ) (o : Option Line) → AscendFrom m lines → slice_get lines i ≡ o → IfSome o (λ l. line_of lines l.number ≡ Some l)
found_at m lines i None up is = tt
found_at m lines i (Some l) up is = line_at m lines i l up is

-- ---- one place further

-- the lines from a place on are that at the place, and those behind it
from_next : (i : ℕ) (script : List Line) (l : Line) → slice_get script i ≡ Some l → drop i script ≡ l ∷ drop (suc i) script
from_next i [] l is = cc
from_next zero (x ∷ xs) l is = let same : x ≡ l = cc in ap (λ (y : Line). y ∷ xs) same
from_next (suc i) (x ∷ xs) l is = from_next i xs l is

pub from_place : (i : ℕ) (script : List Line) (l : Line) → slice_get script i ≡ Some l → drop i script ≡ l ∷ drop (i + 1) script
from_place i script l is = let next : suc i ≡ i + 1 = omega arith in from_next i script l is ∙ ap (λ n. l ∷ drop n script) next

pub past_end : (i : ℕ) (script : List Line) → slice_get script i ≡ None → drop i script ≡ []
past_end zero [] is = refl
past_end (suc i) [] is = refl
past_end zero (x ∷ xs) is = cc
past_end (suc i) (x ∷ xs) is = past_end i xs is

pub other_party : (who i : ℕ) (script : List Line) (l : Line) → slice_get script i ≡ Some l → (l.who.0 == who) ≡ false → lines_for who (drop (i + 1) script) ≡ lines_for who (drop i script)
other_party who i script l is other =
    sym (ap (lines_for who) (from_place i script l is) ∙ ap (λ b. cond {A = List Line} b (l ∷ lines_for who (drop (i + 1) script)) (lines_for who (drop (i + 1) script))) other)

pub own_party : (who i : ℕ) (script : List Line) (l : Line) → slice_get script i ≡ Some l → (l.who.0 == who) ≡ true → lines_for who (drop i script) ≡ l ∷ lines_for who (drop (i + 1) script)
own_party who i script l is own =
    ap (lines_for who) (from_place i script l is) ∙ ap (λ b. cond {A = List Line} b (l ∷ lines_for who (drop (i + 1) script)) (lines_for who (drop (i + 1) script))) own

next_passed : (test : Line → Bool) (i : ℕ) (script : List Line) (l : Line) → slice_get script i ≡ Some l → test l ≡ true → list_all test (take i script) ≡ true → list_all test (take (suc i) script) ≡ true
next_passed test i [] l is holds all = cc
next_passed test zero (x ∷ xs) l is holds all =
    let same : x ≡ l = cc in
    ap (λ b. b && true) (ap test same ∙ holds)
next_passed test (suc i) (x ∷ xs) l is holds all =
    let parts = and_parts (test x) (list_all test (take i xs)) all in
    ap (λ b. b && list_all test (take (suc i) xs)) parts.0 ∙ next_passed test i xs l is holds parts.1

pub one_passed : (test : Line → Bool) (i : ℕ) (script : List Line) (l : Line) → slice_get script i ≡ Some l → test l ≡ true → list_all test (take i script) ≡ true → list_all test (take (i + 1) script) ≡ true
one_passed test i script l is holds all = let next : i + 1 ≡ suc i = omega arith in ap (λ n. list_all test (take n script)) next ∙ next_passed test i script l is holds all

-- the line at a place, where the lines from there on begin with it, and where there are none
pub front_is : (lines : List Line) (c : ℕ) (l : Line) (rest : List Line) → drop c lines ≡ l ∷ rest → Some l ≡ slice_get lines c
front_is [] zero l rest is = cc
front_is [] (suc c) l rest is = cc
front_is (x ∷ xs) zero l rest is = cc
front_is (x ∷ xs) (suc c) l rest is = front_is xs c l rest is

pub front_is_none : (lines : List Line) (c : ℕ) → drop c lines ≡ [] → None ≡ slice_get lines c
front_is_none [] zero is = refl
front_is_none [] (suc c) is = refl
front_is_none (x ∷ xs) zero is = cc
front_is_none (x ∷ xs) (suc c) is = front_is_none xs c is

-- ---- by a party's own lines

-- where the next line of a party stands, once as many as this are answered
pub next_found : (who next count : ℕ) (script : List Line) → lines_for who (drop next script) ≡ drop count (lines_for who script) → IfSome (slice_get script next) (λ l. (l.who.0 == who) ≡ true)
    → slice_get script next ≡ slice_get (lines_for who script) count
next_found who next count script same own = go (slice_get script next) refl own
  where
    go : (o : Option Line) → slice_get script next ≡ o → IfSome o (λ l. (l.who.0 == who) ≡ true) → slice_get script next ≡ slice_get (lines_for who script) count
    go None is h = is ∙ front_is_none (lines_for who script) count (sym same ∙ ap (lines_for who) (past_end next script is))
    go (Some l) is h = is ∙ front_is (lines_for who script) count l (lines_for who (drop (next + 1) script)) (sym same ∙ own_party who next script l is h)

none_past : (xs : List Line) (i : ℕ) → slice_get xs i ≡ None → nat_lt i (length xs) ≡ false
none_past [] i is = grind (arith, nat_tests)
none_past (x ∷ xs) zero is = cc
none_past (x ∷ xs) (suc i) is = let past : nat_lt i (length xs) ≡ false = none_past xs i is in grind (arith, nat_tests)

-- and those behind it
pub behind_next : (who next : ℕ) (script : List Line) (o : Option Line) → slice_get script next ≡ o → IfSome o (λ l. (l.who.0 == who) ≡ true)
    → lines_for who (drop (cond (nat_lt next (length script)) (next + 1) next) script) ≡ drop 1 (lines_for who (drop next script))
behind_next who next script None is h =
    let none : lines_for who (drop next script) ≡ [] = ap (lines_for who) (past_end next script is) in
    ap (λ b. lines_for who (drop (cond b (next + 1) next) script)) (none_past script next is) ∙ none ∙ sym (ap (drop 1) none)
behind_next who next script (Some l) is h =
    let low : next < length script = slice_get_within script next l is in
    let inside : nat_lt next (length script) ≡ true = grind (arith, nat_tests) in
    ap (λ b. lines_for who (drop (cond b (next + 1) next) script)) inside ∙ sym (ap (drop 1) (own_party who next script l is h))

-- ---- a first line that waits, by the numbers that were answered

pub unpassed : (hosts : Bool) (answered : BTreeSet ℕ) (before : List Said) → ((n : ℕ) → contains nat_cmp answered n ≡ list_any (answers n) before) → (o : Option Line)
    → IfSome o (λ l. passes hosts answered l ≡ false) → (l : Line) → o ≡ Some l → passed hosts before l ≡ false
unpassed hosts answered before marked None h l is = cc
unpassed hosts answered before marked (Some k) h l is = let same : k ≡ l = cc in sym (passes_is hosts answered before marked l) ∙ subst (λ (j : Line). passes hosts answered j ≡ false) same h
