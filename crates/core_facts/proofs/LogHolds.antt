-- What the calls of a lock table leave of the holds on logs.
use Rattle.std.proofs.Common.{◌≡◌, ℕ, Bool, true, false, ◌||◌, ◌==◌, if◌then◌else◌, IsTrue, is_some, ◌<◌, length, map, set, Option, Some, None, nat_lt, refl, sym, ap, ◌∙◌, subst, arith}
use Rattle.std.proofs.Math.ListN.{get_or-map}
use Rattle.std.proofs.lemmas.Bool.{false≢true}
use Rattle.std.proofs.lemmas.Bool.Decides.{nat_tests}
use Rattle.std.proofs.lemmas.List.{get_or-set_same, get_or-set_other}
use Rattle.std.proofs.lemmas.Option.{same_Some, none-some}
use Rattle.lock_definitions.specs.declared.claim.LogHold.{LogHold}
use Rattle.lock_definitions.specs.Calls.{cleared, extended, hold_against, hold_extended, hold_not_by, hold_of, taken}
use Rattle.lock_definitions.specs.Locks.{Locks, log_hold}
use Rattle.core_definitions.specs.EndGuards.{is_hold_over}
use Rattle.core_laws.proofs.Unheld.{takes}

-- ---- one is cleared

pub hold_after_clear : (locks : Locks) (dead d : ℕ) → (d ≡ dead → ⊥) → log_hold (cleared locks dead) d ≡ hold_not_by dead (log_hold locks d)
hold_after_clear locks dead d apart = get_or-set_other (map (hold_not_by dead) locks.logs) dead d None None apart ∙ get_or-map (hold_not_by dead) locks.logs d None

pub not_by_kept : (dead : ℕ) (hold : Option LogHold) (h : LogHold) → hold_not_by dead hold ≡ Some h → hold ≡ Some h
not_by_kept dead None h e = e
not_by_kept dead (Some x) h e = go (x.by.0 == dead) e
  where
    go : (b : Bool) → (if b then None else Some x) ≡ Some h → Some x ≡ Some h
    go true e = absurd (none-some h e)
    go false e = e

same_number : (x y : ℕ) → (x == y) ≡ true → x ≡ y
same_number x y e = grind (arith, nat_tests, e)

pub takes_kept : (dead i : ℕ) (hold : Option LogHold) → (i ≡ dead → ⊥) → takes i hold ≡ true → takes i (hold_not_by dead hold) ≡ true
takes_kept dead i None apart t = t
takes_kept dead i (Some x) apart t = go (x.by.0 == dead) refl
  where
    go : (b : Bool) → (x.by.0 == dead) ≡ b → takes i (if b then None else Some x) ≡ true
    go true e = absurd (apart (sym (same_number x.by.0 i t) ∙ same_number x.by.0 dead e))
    go false e = t

-- ---- a taker's holds are extended

pub hold_after_extension : (locks : Locks) (by expiry d : ℕ) → log_hold (extended locks by expiry) d ≡ hold_extended by expiry (log_hold locks d)
hold_after_extension locks by expiry d = get_or-map (hold_extended by expiry) locks.logs d None

-- the hold before, by the same taker
pub record Extended (by expiry : ℕ) (hold : Option LogHold) (h : LogHold) : Type 0 where
  pub before : LogHold
  pub is : hold ≡ Some before
  pub same_by : h.by.0 ≡ before.by.0
  pub expiry_is : h.expiry ≡ (if h.by.0 == by then expiry else before.expiry)

pub extended_from : (by expiry : ℕ) (hold : Option LogHold) (h : LogHold) → hold_extended by expiry hold ≡ Some h → Extended by expiry hold h
extended_from by expiry None h e = absurd (none-some h e)
extended_from by expiry (Some x) h e = go (x.by.0 == by) refl e
  where
    itself : (n : ℕ) → (n == n) ≡ true
    itself n = grind (arith, nat_tests)

    go : (b : Bool) → (x.by.0 == by) ≡ b → (if b then Some (hold_of by expiry) else Some x) ≡ Some h → Extended by expiry (Some x) h
    go true f e =
        subst (Extended by expiry (Some x)) (same_Some (hold_of by expiry) h e)
        (record { before = x; is = refl; same_by = sym (same_number x.by.0 by f); expiry_is = sym (ap (λ b. if b then expiry else x.expiry) (itself by)) })
    go false f e =
        subst (Extended by expiry (Some x)) (same_Some x h e)
        (record { before = x; is = refl; same_by = refl; expiry_is = sym (ap (λ b. if b then expiry else x.expiry) f) })

pub takes_extended : (by expiry i : ℕ) (hold : Option LogHold) → takes i (hold_extended by expiry hold) ≡ takes i hold
takes_extended by expiry i None = refl
takes_extended by expiry i (Some x) = go (x.by.0 == by) refl
  where
    go : (b : Bool) → (x.by.0 == by) ≡ b → takes i (if b then Some (hold_of by expiry) else Some x) ≡ (x.by.0 == i)
    go true e = ap (λ k. k == i) (sym (same_number x.by.0 by e))
    go false e = refl

-- ---- a log whose hold is over is taken

none_against : (by now : ℕ) (hold : Option LogHold) → IsTrue (is_hold_over now hold) → is_some (hold_against by now hold) ≡ false
none_against by now None over = refl
none_against by now (Some hold) over = go (hold.by.0 == by) (nat_lt hold.expiry now) over
  where
    go : (b t : Bool) → IsTrue t → is_some (if b || t then None else Some hold) ≡ false
    go true t over = refl
    go false true over = refl
    go false false over = absurd (false≢true over)

abbrev took : Locks → ℕ → ℕ → ℕ → Locks
took locks dead by expiry = record locks { logs = set locks.logs dead (Some (hold_of by expiry)) }

taken_is : (locks : Locks) (dead by now expiry : ℕ) → IsTrue (is_hold_over now (log_hold locks dead)) → taken locks dead by now expiry ≡ took locks dead by expiry
taken_is locks dead by now expiry over = ap (λ b. if b then locks else took locks dead by expiry) (none_against by now (log_hold locks dead) over)

module _ (locks : Locks) (dead by now expiry : ℕ) (over : IsTrue (is_hold_over now (log_hold locks dead))) where
  pub hold_taken : dead < length locks.logs → log_hold (taken locks dead by now expiry) dead ≡ Some (hold_of by expiry)
  hold_taken inside = ap (λ x. log_hold x dead) (taken_is locks dead by now expiry over) ∙ get_or-set_same locks.logs dead (Some (hold_of by expiry)) None inside

  pub hold_elsewhere : (d : ℕ) → (d ≡ dead → ⊥) → log_hold (taken locks dead by now expiry) d ≡ log_hold locks d
  hold_elsewhere d apart = ap (λ x. log_hold x d) (taken_is locks dead by now expiry over) ∙ get_or-set_other locks.logs dead d (Some (hold_of by expiry)) None apart
