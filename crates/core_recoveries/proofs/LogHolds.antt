-- What a taking of a log and a clearing leave of the holds on logs.
use Rattle.std.proofs.Common.{◌≡◌, ℕ, Bool, true, false, ◌||◌, ◌==◌, if◌then◌else◌, IsTrue, is_some, ◌<◌, length, map, set, Option, Some, None, nat_lt, refl, ap, ◌∙◌}
use Rattle.std.proofs.Math.ListN.{get_or-map}
use Rattle.std.proofs.lemmas.Bool.{false≢true}
use Rattle.std.proofs.lemmas.List.{get_or-set_same, get_or-set_other}
use Rattle.lock_definitions.specs.declared.claim.LogHold.{LogHold}
use Rattle.lock_definitions.specs.Calls.{cleared, hold_against, hold_not_by, hold_of, taken}
use Rattle.lock_definitions.specs.Locks.{Locks, log_hold}
use Rattle.core_definitions.specs.EndGuards.{is_hold_over}

-- another log's hold stays, where it isn't the cleared server's
pub hold_after_clear : (locks : Locks) (dead d : ℕ) → (d ≡ dead → ⊥) → log_hold (cleared locks dead) d ≡ hold_not_by dead (log_hold locks d)
hold_after_clear locks dead d apart = get_or-set_other (map (hold_not_by dead) locks.logs) dead d None None apart ∙ get_or-map (hold_not_by dead) locks.logs d None

none_against : (by now : ℕ) (hold : Option LogHold) → IsTrue (is_hold_over now hold) → is_some (hold_against by now hold) ≡ false
none_against by now None over = refl
none_against by now (Some hold) over = go (hold.by.0 == by) (nat_lt hold.expiry now) over
  where
    go : (b t : Bool) → IsTrue t → is_some (if b || t then None else Some hold) ≡ false
    go true t over = refl
    go false true over = refl
    go false false over = absurd (false≢true over)

abbrev took : Locks → ℕ → ℕ → ℕ → Locks
took locks dead by expiry = record locks { logs = set locks.logs dead (Some (hold_of by expiry)) }

taken_is : (locks : Locks) (dead by now expiry : ℕ) → IsTrue (is_hold_over now (log_hold locks dead)) → taken locks dead by now expiry ≡ took locks dead by expiry
taken_is locks dead by now expiry over = ap (λ b. if b then locks else took locks dead by expiry) (none_against by now (log_hold locks dead) over)

-- a log whose hold is over is taken
module _ (locks : Locks) (dead by now expiry : ℕ) (over : IsTrue (is_hold_over now (log_hold locks dead))) where
  pub hold_taken : dead < length locks.logs → log_hold (taken locks dead by now expiry) dead ≡ Some (hold_of by expiry)
  hold_taken inside = ap (λ x. log_hold x dead) (taken_is locks dead by now expiry over) ∙ get_or-set_same locks.logs dead (Some (hold_of by expiry)) None inside

  pub hold_elsewhere : (d : ℕ) → (d ≡ dead → ⊥) → log_hold (taken locks dead by now expiry) d ≡ log_hold locks d
  hold_elsewhere d apart = ap (λ x. log_hold x d) (taken_is locks dead by now expiry over) ∙ get_or-set_other locks.logs dead d (Some (hold_of by expiry)) None apart
