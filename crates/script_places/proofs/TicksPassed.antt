-- The ticks that pass before each number: lines from one on whose number isn't below another let none pass before that, and so line by line all numbers get theirs.
use Rattle.std.proofs.Common.{◌≡◌, ◌≤◌, ◌+◌, ◌-◌, ◌^◌, ◌<◌, ◌++◌, ℕ, Bool, true, false, if◌then◌else◌, List, [], ◌∷◌, length, get_or, take, replicate, filter, min, max, nat_le, nat_lt, IsTrue, refl, sym, ap, ◌∙◌, subst, inl, inr, ◌⊎◌, arith}
use Rattle.std.specs.List.{sum_by}
use Rattle.std.proofs.lemmas.Bool.{and_parts, cases_lt, ltb-true}
use Rattle.std.proofs.lemmas.Bool.Decides.{nat_tests}
use Rattle.std.proofs.lemmas.List.Sums.{sum_by-cons}
use Rattle.std.proofs.lemmas.List.{get_or-append_right, get_or-replicate, get_or_append_left, length-append, length-replicate, take_all}
use Rattle.frang_base.specs.declared.script.Line.{Line}
use Rattle.tree_definitions.specs.Live.{script_time, ticks_of}
use Rattle.script_places.specs.Placed.{AreTicks, all_above, ascends, mark_count, ticks_before}
use Rattle.script_places.proofs.Ascending.{all_from, any_from, ascends_from, next_from}

above_none : (script : List Line) (least number : ℕ) → number ≤ least → all_above least script ≡ true → script_time script number ≡ 0
above_none [] least number below above = refl
above_none (line ∷ script) least number below above = go (nat_lt line.number number) refl (above_none script least number below)
  where
    rest : List Line
    rest = filter (λ l. nat_lt l.number number) script

    go : (t : Bool) → nat_lt line.number number ≡ t → (all_above least script ≡ true → script_time script number ≡ 0) → script_time (line ∷ script) number ≡ 0
    go true is others =
        let small : line.number < number = ltb-true line.number number is in
        let large : least < line.number = ltb-true least line.number (and_parts (nat_lt least line.number) (all_above least script) above).0 in
        absurd (omega arith)
    go false is others =
        ap (λ (t : Bool). sum_by (λ l. ticks_of l.what) (if t then line ∷ rest else rest)) is
        ∙ others (and_parts (nat_lt least line.number) (all_above least script) above).1

pub none_from : (line : Line) (script : List Line) (number : ℕ) → number ≤ line.number → IsTrue (ascends (line ∷ script)) → script_time (line ∷ script) number ≡ 0
none_from line script number below ascending = go (nat_lt line.number number) refl
  where
    rest : List Line
    rest = filter (λ l. nat_lt l.number number) script

    go : (t : Bool) → nat_lt line.number number ≡ t → script_time (line ∷ script) number ≡ 0
    go true is = let small : line.number < number = ltb-true line.number number is in absurd (omega arith)
    go false is =
        ap (λ (t : Bool). sum_by (λ l. ticks_of l.what) (if t then line ∷ rest else rest)) is
        ∙ above_none script line.number number below (and_parts (all_above line.number script) (ascends script) ascending).0

-- one before a number lets its ticks pass
counted : (line : Line) (script : List Line) (number : ℕ) → line.number < number → script_time (line ∷ script) number ≡ ticks_of line.what + script_time script number
counted line script number below = ap (λ (t : Bool). sum_by (λ l. ticks_of l.what) (if t then line ∷ rest else rest)) is ∙ sum_by-cons (λ l. ticks_of l.what) line rest
  where
    rest : List Line
    rest = filter (λ l. nat_lt l.number number) script

    is : nat_lt line.number number ≡ true
    is = grind (arith, nat_tests)

-- ---- all numbers, line by line

-- the numbers up to the last line passed have their ticks, and the lines left ascend behind them
pub record SoFar (lines left : List Line) (ticks : List ℕ) (passed : ℕ) : Type 0 where
  pub few : passed ≤ 2 ^ 64 - 1
  pub ordered : ascends_from (length ticks) left ≡ true
  pub ahead : (number : ℕ) → length ticks ≤ number → min (passed + script_time left number) (2 ^ 64 - 1) ≡ ticks_before lines number
  pub behind : (number : ℕ) → number < length ticks → get_or ticks number 0 ≡ ticks_before lines number
  pub count : max (length ticks) (mark_count left) ≡ mark_count lines

pub none_yet : (lines : List Line) → IsTrue (ascends lines) → SoFar lines lines [] 0
none_yet lines ascending = record {
  few = omega arith;
  ordered = any_from lines ∙ ascending;
  ahead = λ number past. same (script_time lines number);
  behind = λ number inside. absurd (omega (arith, inside));
  count = none (mark_count lines);
}
  where
    same : (t : ℕ) → min (0 + t) (2 ^ 64 - 1) ≡ min t (2 ^ 64 - 1)
    same t = omega arith

    none : (c : ℕ) → max 0 c ≡ c
    none c = omega arith

module _ (lines : List Line) (line : Line) (rest : List Line) (ticks : List ℕ) (passed : ℕ) (so : SoFar lines (line ∷ rest) ticks passed) where
  abbrev more : List ℕ
  more = replicate (line.number + 1 - length ticks) passed

  first : nat_le (length ticks) line.number ≡ true
  first = (and_parts (nat_le (length ticks) line.number) (all_from (length ticks) rest) (and_parts (all_from (length ticks) (line ∷ rest)) (ascends (line ∷ rest)) so.ordered).0).0

  low : length ticks ≤ line.number
  low = le_of (length ticks) line.number first
    where
      le_of : (a b : ℕ) → nat_le a b ≡ true → a ≤ b
      le_of a b e = grind (arith, nat_tests, e)

  ascending : IsTrue (ascends (line ∷ rest))
  ascending = (and_parts (all_from (length ticks) (line ∷ rest)) (ascends (line ∷ rest)) so.ordered).1

  long : length (ticks ++ more) ≡ line.number + 1
  long = length-append ticks more ∙ ap (λ n. length ticks + n) (length-replicate (line.number + 1 - length ticks) passed) ∙ sum (length ticks) line.number low
    where
      sum : (a n : ℕ) → a ≤ n → a + (n + 1 - a) ≡ n + 1
      sum a n e = omega arith

  new_behind : (number : ℕ) → number < line.number + 1 → get_or (ticks ++ more) number 0 ≡ ticks_before lines number
  new_behind number inside = go (cases_lt number (length ticks))
    where
      before : (p t : ℕ) → p ≤ 2 ^ 64 - 1 → t ≡ 0 → p ≡ min (p + t) (2 ^ 64 - 1)
      before p t few is = omega arith

      within : (n a e : ℕ) → a ≤ n → n < e → n - a < e - a
      within n a e f g = omega arith

      up_to : (n e : ℕ) → n < e + 1 → n ≤ e
      up_to n e f = omega arith

      go : (number < length ticks) ⊎ (length ticks ≤ number) → get_or (ticks ++ more) number 0 ≡ ticks_before lines number
      go (inl known) = get_or_append_left ticks more 0 number known ∙ so.behind number known
      go (inr past) =
          get_or-append_right ticks more (length ticks) number 0 refl past
          ∙ get_or-replicate (line.number + 1 - length ticks) (number - length ticks) passed 0 (within number (length ticks) (line.number + 1) past inside)
          ∙ before passed (script_time (line ∷ rest) number) so.few (none_from line rest number (up_to number line.number inside) ascending) ∙ so.ahead number past

  new_ahead : (number : ℕ) → line.number + 1 ≤ number → min (min (passed + ticks_of line.what) (2 ^ 64 - 1) + script_time rest number) (2 ^ 64 - 1) ≡ ticks_before lines number
  new_ahead number past =
      sums passed (ticks_of line.what) (script_time rest number) (script_time (line ∷ rest) number) (counted line rest number (above line.number number past))
      ∙ so.ahead number (through (length ticks) line.number number low past)
    where
      above : (a n : ℕ) → a + 1 ≤ n → a < n
      above a n e = omega arith

      through : (l a n : ℕ) → l ≤ a → a + 1 ≤ n → l ≤ n
      through l a n e f = omega arith

      sums : (p t s u : ℕ) → u ≡ t + s → min (min (p + t) (2 ^ 64 - 1) + s) (2 ^ 64 - 1) ≡ min (p + u) (2 ^ 64 - 1)
      sums p t s u is = omega arith

  passed_on : SoFar lines rest (ticks ++ more) (min (passed + ticks_of line.what) (2 ^ 64 - 1))
  passed_on = record {
    few = least (passed + ticks_of line.what);
    ordered = ap (λ n. ascends_from n rest) long ∙ sym (next_from (length ticks) line rest first) ∙ so.ordered;
    ahead = λ number past. new_ahead number (subst (λ n. n ≤ number) long past);
    behind = λ number inside. new_behind number (subst (λ n. number < n) long inside);
    count = ap (λ n. max n (mark_count rest)) long ∙ widest (length ticks) line.number (mark_count rest) (mark_count lines) low so.count;
  }
    where
      least : (p : ℕ) → min p (2 ^ 64 - 1) ≤ 2 ^ 64 - 1
      least p = omega arith

      widest : (l n c m : ℕ) → l ≤ n → max l (max (n + 1) c) ≡ m → max (n + 1) c ≡ m
      widest l n c m e f = omega arith

  -- one more line has passed
  pub one_more : (new : List ℕ) (now : ℕ) → new ≡ take (line.number + 1) ticks ++ replicate (line.number + 1 - length ticks) passed → now ≡ min (passed + ticks_of line.what) (2 ^ 64 - 1)
      → SoFar lines rest new now
  one_more new now is sum =
      subst (λ n. SoFar lines rest n now) (sym (is ∙ ap (λ (t : List ℕ). t ++ more) (take_all (line.number + 1) ticks (wide (length ticks) line.number low))))
      (subst (SoFar lines rest (ticks ++ more)) (sym sum) passed_on)
    where
      wide : (l n : ℕ) → l ≤ n → l ≤ n + 1
      wide l n e = omega arith

-- all lines have passed
pub all_known : (lines : List Line) (ticks : List ℕ) (passed : ℕ) → SoFar lines [] ticks passed → AreTicks lines ticks
all_known lines ticks passed so = record { all = whole (length ticks) (mark_count lines) so.count; each = so.behind }
  where
    whole : (l m : ℕ) → max l 0 ≡ m → l ≡ m
    whole l m e = omega arith
