-- What a call of a first copy leaves of the puts that it has counted.
use Rattle.std.proofs.Common.{◌≡◌, ◌≤◌, ◌<◌, ℕ, zero, suc, ◌+◌, ◌-◌, true, false, ◌&&◌, List, [], ◌∷◌, ◌++◌, length, drop, Option, Some, None, is_none, Result, Ok, Err, inl, inr, nat_le, nat_lt, refl, sym, ap, subst, ◌∙◌, arith}
use Rattle.std.specs.List.{list_all}
use Rattle.std.proofs.lemmas.Bool.{and_from, and_parts, true≢false}
use Rattle.std.proofs.lemmas.Bool.Decides.{nat_tests}
use Rattle.std.proofs.lemmas.List.{append-nil, length-append}
use Rattle.std.proofs.lemmas.List.Elements.{filter-append}
use Rattle.std.proofs.lemmas.List.Folds.{list_all-append}
use Rattle.std.proofs.Math.Seq.{drop-nil}
use Rattle.frang_base.specs.declared.sector.ServerId.{ServerId}
use Rattle.frang_outside.specs.declared.act.Act.{Act}
use Rattle.frang_outside.specs.declared.act.Act.TheVariants.{Put as Acted, Said}
use Rattle.frang_outside.specs.declared.act.Put.{Put}
use Rattle.frang_outside.specs.declared.act.Taken.{Taken}
use Rattle.frang_outside.specs.declared.act.Taken.TheVariants.{Written, Late}
use Rattle.frang_outside.specs.declared.outside.PutFault.{PutFault}
use Rattle.frang_outside.specs.declared.outside.PutFault.TheVariants.{Failed as PutFailed, NoMemory as PutNoMemory}
use Rattle.frang_outside.specs.declared.outside.SayFault.{SayFault}
use Rattle.frang_outside.specs.declared.outside.SayFault.TheVariants.{Failed as SayFailed, NoMemory as SayNoMemory}
use Rattle.frang_outside.specs.Outside.{State, Follows, PutOutcome, SayOutcome, told_more}
use Rattle.frang_outside.proofs.Acts.{fell-trans}
use Rattle.quiet_outside.specs.KeptLines.{Passes, QuietPut, QuietSay, Quieted, is_due, is_put, puts_of, quiet_state}
use Rattle.quiet_pair.specs.FirstCopies.{IsCountedIn, IsFirstCopy, is_late}

-- ---- one act more

pub puts_push : (acts : List Act) (put : Put) (taken : Taken) → puts_of (acts ++ Acted put taken ∷ []) ≡ puts_of acts ++ Acted put taken ∷ []
puts_push acts put taken = filter-append is_put acts (Acted put taken ∷ [])

pub puts_said : (acts : List Act) (line : List ℕ) → puts_of (acts ++ Said line ∷ []) ≡ puts_of acts
puts_said acts line = filter-append is_put acts (Said line ∷ []) ∙ append-nil (puts_of acts)

late_push : (n : ℕ) (xs : List Act) (x : Act) → list_all is_late (drop n xs) ≡ true → (n ≤ length xs → is_late x ≡ true) → list_all is_late (drop n (xs ++ x ∷ [])) ≡ true
late_push zero xs x all then =
    list_all-append is_late xs (x ∷ []) ∙ and_from (list_all is_late xs) (list_all is_late (x ∷ [])) all (and_from (is_late x) true (then (omega arith)) refl)
late_push (suc n) [] x all then = ap (list_all is_late) (drop-nil n)
late_push (suc n) (y ∷ ys) x all then = late_push n ys x all (λ few. then (omega (arith, few)))

-- ---- what is counted

counted_put : (told : Option (List Act)) (puts fail_at : ℕ) (failed : Option ServerId) (put : Put) (taken : Taken) → IsCountedIn told puts fail_at failed
    → (failed ≡ None → fail_at - 1 ≤ puts → is_late (Acted put taken) ≡ true) → IsCountedIn (told_more told (Acted put taken)) (puts + 1) fail_at failed
counted_put None puts fail_at failed put taken is late = tt
counted_put (Some acts) puts fail_at failed put taken is late = record {
  counted = more;
  waits = λ none. subst (λ xs. list_all is_late (drop (fail_at - 1) xs) ≡ true) (sym (puts_push acts put taken))
      (late_push (fail_at - 1) (puts_of acts) (Acted put taken) (is.waits none) (λ few. late none (subst (λ n. fail_at - 1 ≤ n) is.counted few)));
  came = λ server some. grow (length (puts_of acts)) (length (puts_of (acts ++ Acted put taken ∷ []))) (is.came server some) (more ∙ ap (λ n. n + 1) (sym is.counted));
}
  where
    more : length (puts_of (acts ++ Acted put taken ∷ [])) ≡ puts + 1
    more = ap length (puts_push acts put taken) ∙ length-append (puts_of acts) (Acted put taken ∷ []) ∙ ap (λ n. n + 1) is.counted

    grow : (x y : ℕ) → fail_at - 1 ≤ x → y ≡ x + 1 → fail_at - 1 ≤ y
    grow x y few e = omega (arith, few, e)

counted_said : (told : Option (List Act)) (puts fail_at : ℕ) (failed : Option ServerId) (line : List ℕ) → IsCountedIn told puts fail_at failed → IsCountedIn (told_more told (Said line)) puts fail_at failed
counted_said None puts fail_at failed line is = tt
counted_said (Some acts) puts fail_at failed line is = record {
  counted = ap length (puts_said acts line) ∙ is.counted;
  waits = λ none. subst (λ xs. list_all is_late (drop (fail_at - 1) xs) ≡ true) (sym (puts_said acts line)) (is.waits none);
  came = λ server some. subst (λ xs. fail_at - 1 ≤ length xs) (sym (puts_said acts line)) (is.came server some);
}

counted_failed : (told : Option (List Act)) (puts fail_at : ℕ) (failed : Option ServerId) (server : ServerId) → IsCountedIn told puts fail_at failed → fail_at - 1 ≤ puts → IsCountedIn told puts fail_at (Some server)
counted_failed None puts fail_at failed server is few = tt
counted_failed (Some acts) puts fail_at failed server is few = record {
  counted = is.counted;
  waits = λ none. cc;
  came = λ other some. subst (λ n. fail_at - 1 ≤ n) (sym is.counted) few;
}

-- ---- whether a put is the one that is to fail

no_failed : (failed : Option ServerId) → is_none failed ≡ true → failed ≡ None
no_failed None e = refl
no_failed (Some server) e = cc

due_parts : (failed : Option ServerId) (fail_at puts now stamp : ℕ) → (is_none failed && (nat_lt 0 fail_at && (nat_le (fail_at - 1) puts && nat_le now stamp))) ≡ true → (failed ≡ None) × (fail_at - 1 ≤ puts)
due_parts failed fail_at puts now stamp due =
    let a = and_parts (is_none failed) (nat_lt 0 fail_at && (nat_le (fail_at - 1) puts && nat_le now stamp)) due in
    let b = and_parts (nat_lt 0 fail_at) (nat_le (fail_at - 1) puts && nat_le now stamp) a.1 in
    let c = and_parts (nat_le (fail_at - 1) puts) (nat_le now stamp) b.1 in
    (no_failed failed a.0, le_of (fail_at - 1) puts c.0)
  where
    le_of : (x y : ℕ) → nat_le x y ≡ true → x ≤ y
    le_of x y e = grind (arith, nat_tests, e)

not_due : (failed : Option ServerId) (fail_at puts now stamp : ℕ) → (is_none failed && (nat_lt 0 fail_at && (nat_le (fail_at - 1) puts && nat_le now stamp))) ≡ false → 0 < fail_at → failed ≡ None → fail_at - 1 ≤ puts
    → now ≤ stamp → ⊥
not_due failed fail_at puts now stamp due some none few early =
    true≢false
    (sym (and_from (is_none failed) (nat_lt 0 fail_at && (nat_le (fail_at - 1) puts && nat_le now stamp)) (ap is_none none)
    (and_from (nat_lt 0 fail_at) (nat_le (fail_at - 1) puts && nat_le now stamp) (lt_is 0 fail_at some)
    (and_from (nat_le (fail_at - 1) puts) (nat_le now stamp) (le_is (fail_at - 1) puts few) (le_is now stamp early))))
    ∙ due)
  where
    lt_is : (x y : ℕ) → x < y → nat_lt x y ≡ true
    lt_is x y h = grind (arith, nat_tests, h)

    le_is : (x y : ℕ) → x ≤ y → nat_le x y ≡ true
    le_is x y h = grind (arith, nat_tests, h)

-- ---- the calls

module _ {O : Type 0} (state : O → State) (outset : State) (old new : Quieted O) where
  abbrev Was : Type 0
  Was = IsFirstCopy outset (state old.out) (quiet_state state old).acts old.puts old.fail_at old.failed

  abbrev Is : Type 0
  Is = IsFirstCopy outset (state new.out) (quiet_state state new).acts new.puts new.fail_at new.failed

  kept : Was → Follows (state old.out) (state new.out) → new.fail_at ≡ old.fail_at → IsCountedIn (quiet_state state new).acts new.puts old.fail_at new.failed → Is
  kept was below same counted = record {
    follows = fell-trans outset (state old.out) (state new.out) was.follows below;
    some = subst (λ n. 0 < n) (sym same) was.some;
    puts_are = subst (λ n. IsCountedIn (quiet_state state new).acts new.puts n new.failed) (sym same) counted;
  }

  -- what is counted, by what is told and counted then
  moved : (told : Option (List Act)) (puts : ℕ) (failed : Option ServerId) → (quiet_state state new).acts ≡ told → new.puts ≡ puts → new.failed ≡ failed → IsCountedIn told puts old.fail_at failed
      → IsCountedIn (quiet_state state new).acts new.puts old.fail_at new.failed
  moved told puts failed e f g is =
      subst (λ t. IsCountedIn t new.puts old.fail_at new.failed) (sym e) (subst (λ n. IsCountedIn told n old.fail_at new.failed) (sym f) (subst (λ x. IsCountedIn told puts old.fail_at x) (sym g) is))

  -- nothing but the outside below changed
  passes : (quiet_state state new).acts ≡ (quiet_state state old).acts → Was → Passes old new → Follows (state old.out) (state new.out) → Is
  passes acts was is below =
      kept was below (ap (λ q. q.fail_at) is) (moved (quiet_state state old).acts old.puts old.failed acts (ap (λ q. q.puts) is) (ap (λ q. q.failed) is) was.puts_are)

  late_of : (put : Put) (taken : Taken) → Was → is_due old put ≡ false → PutOutcome (quiet_state state old) (quiet_state state new) put (Ok taken) → old.failed ≡ None → old.fail_at - 1 ≤ old.puts → is_late (Acted put taken) ≡ true
  late_of put Written was due outcome none few = absurd (not_due old.failed old.fail_at old.puts put.now put.stamp due was.some none few outcome.0)
  late_of put Late was due outcome none few = refl

  acts_ok : (put : Put) (taken : Taken) → PutOutcome (quiet_state state old) (quiet_state state new) put (Ok taken) → (quiet_state state new).acts ≡ told_more (quiet_state state old).acts (Acted put taken)
  acts_ok put Written outcome = outcome.2
  acts_ok put Late outcome = outcome.2

  acts_err : (put : Put) (fault : PutFault) → PutOutcome (quiet_state state old) (quiet_state state new) put (Err fault) → (quiet_state state new).acts ≡ (quiet_state state old).acts
  acts_err put PutFailed outcome = outcome.2
  acts_err put PutNoMemory outcome = outcome.1

  pub put_keeps : (put : Put) (result : Result Taken PutFault) → Was → QuietPut old new put result → PutOutcome (quiet_state state old) (quiet_state state new) put result → Follows (state old.out) (state new.out) → Is
  put_keeps put (Ok taken) was (inl h) outcome below = cc
  put_keeps put (Err fault) was (inl h) outcome below =
      kept was below (ap (λ q. q.fail_at) h.2)
      (moved (quiet_state state old).acts old.puts (Some put.server) (acts_err put fault outcome) (ap (λ q. q.puts) h.2) (ap (λ q. q.failed) h.2)
      (counted_failed (quiet_state state old).acts old.puts old.fail_at old.failed put.server was.puts_are (due_parts old.failed old.fail_at old.puts put.now put.stamp h.0).1))
  put_keeps put (Ok taken) was (inr h) outcome below =
      kept was below (ap (λ q. q.fail_at) h.1)
      (moved (told_more (quiet_state state old).acts (Acted put taken)) (old.puts + 1) old.failed (acts_ok put taken outcome) (ap (λ q. q.puts) h.1) (ap (λ q. q.failed) h.1)
      (counted_put (quiet_state state old).acts old.puts old.fail_at old.failed put taken was.puts_are (late_of put taken was h.0 outcome)))
  put_keeps put (Err fault) was (inr h) outcome below = passes (acts_err put fault outcome) was h.1 below

  pub say_keeps : (line : List ℕ) (result : Result (Unit {0}) SayFault) → Was → QuietSay old new line result → SayOutcome (quiet_state state old) (quiet_state state new) line result → Follows (state old.out) (state new.out) → Is
  say_keeps line (Ok done) was is outcome below =
      kept was below (ap (λ q. q.fail_at) is)
      (moved (told_more (quiet_state state old).acts (Said line)) old.puts old.failed outcome.0 (ap (λ q. q.puts) is) (ap (λ q. q.failed) is)
      (counted_said (quiet_state state old).acts old.puts old.fail_at old.failed line was.puts_are))
  say_keeps line (Err SayFailed) was is outcome below = absurd is
  say_keeps line (Err SayNoMemory) was is outcome below =
      kept was below (ap (λ q. q.fail_at) is) (moved (quiet_state state old).acts old.puts old.failed outcome.0 (ap (λ q. q.puts) is) (ap (λ q. q.failed) is) was.puts_are)
