-- What an answer to a line of a script adds, found by the line's place and its time.
use Rattle.std.proofs.Common.{◌≡◌, ℕ, zero, suc, ◌<◌, ◌≤◌, Bool, true, false, cond, Some, List, [], ◌∷◌, filter, nat_lt, sym, ◌∙◌, ap, subst, arith}
use Rattle.std.specs.List.{list_all, slice_get, sum_by}
use Rattle.std.specs.Option.{option_map}
use Rattle.std.proofs.lemmas.Bool.{and_parts}
use Rattle.std.proofs.lemmas.List.Sums.{sum_by-cons}
use Rattle.std.proofs.lemmas.Option.{slice_get-map}
use Rattle.frang_base.specs.declared.limits.TheConstants.{RUN_TICKS_END}
use Rattle.frang_base.specs.declared.reply.Reply.{Reply}
use Rattle.frang_base.specs.declared.script.Line.{Line}
use Rattle.frang_base.specs.declared.sector.ServerId.{ServerId}
use Rattle.tree_definitions.specs.Live.{item_of_line, item_of_what, line_of, script_time, ticks_of}
use Rattle.script_definitions.specs.Ticks.{all_ticks}
use Rattle.judge_rules.specs.Scripts.{CanJudge, IsPlace, times_of, what_within}

what_at : (lines : List Line) (i : ℕ) (l : Line) → list_all (λ (k : Line). what_within k.what) lines ≡ true → slice_get lines i ≡ Some l → what_within l.what ≡ true
what_at [] i l all is = cc
what_at (x ∷ xs) zero l all is =
    let same : x ≡ l = cc in
    subst (λ (y : Line). what_within y.what ≡ true) same (and_parts (what_within x.what) (list_all (λ (k : Line). what_within k.what) xs) all).0
what_at (x ∷ xs) (suc i) l all is = what_at xs i l (and_parts (what_within x.what) (list_all (λ (k : Line). what_within k.what) xs) all).1 is

-- the ticks before a line are at most all
before_few : (lines : List Line) (n : ℕ) → script_time lines n ≤ all_ticks lines
before_few [] n = omega arith
before_few (x ∷ xs) n = by (nat_lt x.number n) (before_few xs n)
  where
    by : (b : Bool) → script_time xs n ≤ all_ticks xs → sum_by (λ (l : Line). ticks_of l.what) (cond {A = List Line} b (x ∷ filter (λ (l : Line). nat_lt l.number n) xs) (filter (λ (l : Line). nat_lt l.number n) xs)) ≤ all_ticks (x ∷ xs)
    by true rest = omega (arith, sum_by-cons (λ (l : Line). ticks_of l.what) x (filter (λ (l : Line). nat_lt l.number n) xs), sum_by-cons (λ (l : Line). ticks_of l.what) x xs)
    by false rest = omega (arith, sum_by-cons (λ (l : Line). ticks_of l.what) x xs)

-- the line at a place, and its time
pub record Stands (script : List Line) (number : ℕ) (l : Line) (time : ℕ) : Type 0 where
  pub within : what_within l.what ≡ true
  pub few : time < RUN_TICKS_END
  pub adds : (server : ServerId) (r : Reply) → item_of_what 1 server r number time l.what ≡ item_of_line 1 server r number (script_time script number) (line_of script number)

pub line_stands : (script : List Line) (times : List ℕ) (number place time : ℕ) (l : Line) → CanJudge script → times ≡ times_of script → IsPlace script number place
    → slice_get script place ≡ Some l → slice_get times place ≡ Some time → Stands script number l time
line_stands script times number place time l can are at is_line is_time =
    let same : at.line ≡ l = cc (at.is_at) in
    let own : l.number ≡ number = ap (λ (y : Line). y.number) (sym same) ∙ at.own in
    let one : slice_get (times_of script) place ≡ Some (script_time script l.number) = slice_get-map (λ (k : Line). script_time script k.number) script place ∙ ap (option_map (λ (k : Line). script_time script k.number)) is_line in
    let two : slice_get (times_of script) place ≡ Some time = ap (λ ts. slice_get ts place) (sym are) ∙ is_time in
    let time_is : time ≡ script_time script number = (let e : time ≡ script_time script l.number = cc in e) ∙ ap (script_time script) own in
    record {
      within = what_at script place l can.within is_line;
      few = let low = before_few script number in let few = can.few in omega (arith, low, few, time_is);
      adds = λ server r. ap (λ t. item_of_what 1 server r number t l.what) time_is ∙ sym (ap (item_of_line 1 server r number (script_time script number)) (at.is ∙ ap Some same));
    }
