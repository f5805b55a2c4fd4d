-- The times of the lines of a script whose numbers ascend.
use Rattle.std.proofs.Common.{◌≡◌, ℕ, zero, suc, ◌+◌, ◌<◌, ◌≤◌, true, false, cond, Some, List, [], ◌∷◌, ◌++◌, length, get_or, filter, map, take, drop, nat_lt, Bool, inl, inr, refl, sym, ◌∙◌, ap, subst, arith}
use Rattle.std.specs.List.{slice_get, sum_by}
use Rattle.std.proofs.lemmas.Bool.Decides.{nat_tests}
use Rattle.std.proofs.lemmas.List.{at_drop_more, map-append, take_more}
use Rattle.std.proofs.lemmas.List.Sums.{sum_by-append, sum_by-cons}
use Rattle.std.proofs.lemmas.Option.{slice_get-get_or}
use Rattle.frang_base.specs.declared.limits.TheConstants.{RUN_TICKS_END}
use Rattle.script_definitions.specs.Ticks.{all_ticks}
use Rattle.frang_base.specs.declared.script.Line.{Line}
use Rattle.script_definitions.specs.ScriptGrammar.{AreLines}
use Rattle.tree_definitions.specs.Live.{script_time, ticks_of}
use Rattle.tree_definitions.specs.Transcript.{is_halt}
use Rattle.transcript_rules.specs.Tells.{AscendFrom}
use Rattle.transcript_rules.proofs.Waits.{ascend_above}

-- no line behind is below
none_before : (n m : ℕ) (lines : List Line) → n ≤ m → AscendFrom m lines → filter (λ l. nat_lt l.number n) lines ≡ []
none_before n m [] low up = refl
none_before n m (l ∷ lines) low (at, up) =
    let out : nat_lt l.number n ≡ false = grind (arith, nat_tests) in
    ap (λ b. cond {A = List Line} b (l ∷ filter (λ k. nat_lt k.number n) lines) (filter (λ k. nat_lt k.number n) lines)) out ∙ none_before n (l.number + 1) lines (omega arith) up

before_is : (m : ℕ) (lines : List Line) (i : ℕ) (l : Line) → AscendFrom m lines → slice_get lines i ≡ Some l → filter (λ k. nat_lt k.number l.number) lines ≡ take i lines
before_is m [] i l up is = cc
before_is m (x ∷ xs) zero l (at, up) is =
    let same : x ≡ l = cc in
    subst (λ (y : Line). filter (λ k. nat_lt k.number y.number) (x ∷ xs) ≡ []) same (none_before x.number x.number (x ∷ xs) (omega arith) (omega arith, up))
before_is m (x ∷ xs) (suc i) l (at, up) is =
    let rest : x.number + 1 ≤ l.number = ascend_above (x.number + 1) xs i l up is in
    let first : nat_lt x.number l.number ≡ true = grind (arith, nat_tests) in
    ap (λ b. cond {A = List Line} b (x ∷ filter (λ k. nat_lt k.number l.number) xs) (filter (λ k. nat_lt k.number l.number) xs)) first
    ∙ ap (λ ls. x ∷ ls) (before_is (x.number + 1) xs i l up is)

pub time_at : (m : ℕ) (lines : List Line) (i : ℕ) (l : Line) → AscendFrom m lines → slice_get lines i ≡ Some l → script_time lines l.number ≡ sum_by (λ k. ticks_of k.what) (take i lines)
time_at m lines i l up is = ap (sum_by (λ k. ticks_of k.what)) (before_is m lines i l up is)

-- one line more
pub times_turn : (script : List Line) (times : List ℕ) (i ticks : ℕ) (x : Line) → AscendFrom 0 script → i < length script → x ≡ get_or script i x
    → times ≡ map (λ (l : Line). script_time script l.number) (take i script) → ticks ≡ sum_by (λ (l : Line). ticks_of l.what) (take i script)
    → (times ++ ticks ∷ [] ≡ map (λ (l : Line). script_time script l.number) (take (i + 1) script)) × (ticks + ticks_of x.what ≡ sum_by (λ (l : Line). ticks_of l.what) (take (i + 1) script))
times_turn script times i ticks x up within is before so_far =
    let time = λ (l : Line). script_time script l.number in
    let tick = λ (l : Line). ticks_of l.what in
    let more : take (i + 1) script ≡ take i script ++ x ∷ [] = take_more script i x within ∙ ap (λ y. take i script ++ y ∷ []) (sym is) in
    let at : slice_get script i ≡ Some x = slice_get-get_or script i x within ∙ ap Some (sym is) in
    let sum = ap (sum_by tick) more in
    let pushed = sum_by-append tick (take i script) (x ∷ []) in
    let one = sum_by-cons tick x [] in (
      ap (λ ts. ts ++ ticks ∷ []) before ∙ ap (λ t. map time (take i script) ++ t ∷ []) (so_far ∙ sym (time_at 0 script i x up at))
          ∙ sym (map-append time (take i script) (x ∷ [])) ∙ ap (map time) (sym more),
      omega (arith, sum, pushed, one),
    )

-- the ticks of the lines that are left, where the first of them is taken
pub few_turn : (script : List Line) (i ticks : ℕ) (x : Line) → i < length script → x ≡ get_or script i x → ticks + all_ticks (drop i script) < RUN_TICKS_END
    → (ticks + ticks_of x.what < RUN_TICKS_END) × ((ticks + ticks_of x.what) + all_ticks (drop (i + 1) script) < RUN_TICKS_END)
few_turn script i ticks x within is few =
    let left : all_ticks (drop i script) ≡ all_ticks (x ∷ drop (i + 1) script) = at_drop_more all_ticks script i x within ∙ ap (λ (y : Line). all_ticks (y ∷ drop (i + 1) script)) (sym is) in
    let one = sum_by-cons (λ (l : Line). ticks_of l.what) x (drop (i + 1) script) in
    (omega (arith, left, one), omega (arith, left, one))

-- the numbers of a script that was read ascend
pub ascend_lower : (m n : ℕ) (lines : List Line) → m ≤ n → AscendFrom n lines → AscendFrom m lines
ascend_lower m n [] low up = tt
ascend_lower m n (l ∷ lines) low (at, up) = (omega arith, up)

pub read_ascend : (n : ℕ) (halted : Bool) (texts : List (List ℕ)) (script : List Line) → AreLines n halted texts script → AscendFrom n script
read_ascend n halted [] script is = subst (AscendFrom n) (sym is) tt
read_ascend n halted (text ∷ texts) script (small, inl skipped) = ascend_lower n (n + 1) script (omega arith) (read_ascend (n + 1) halted texts script skipped.1)
read_ascend n halted (text ∷ texts) script (small, inr (asked, rest, is, on, asks, more)) =
    subst (AscendFrom n) (sym is) (omega arith, read_ascend (n + 1) (is_halt asked.what) texts rest more)
