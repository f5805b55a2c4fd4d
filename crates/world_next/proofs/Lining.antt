-- What a server's line does next, by the guards and by what its stage asks.
use Rattle.std.proofs.Common.{◌≡◌, ℕ, Bool, true, false, not, ◌||◌, if◌then◌else◌, IsTrue, Option, Some, None, refl, ap, ◌∙◌, sym}
use Rattle.std.proofs.lemmas.Bool.{false≢true}
use Rattle.frang_base.specs.declared.lock.LockId.{LockId}
use Rattle.frang_base.specs.declared.lock.Mode.{Mode}
use Rattle.disk_definitions.specs.Plans.{Lock}
use Rattle.lock_definitions.specs.Calls.{is_free}
use Rattle.lock_definitions.specs.Locks.{Locks, is_wished}
use Rattle.core_definitions.specs.Cores.{Core, stage}
use Rattle.core_definitions.specs.LineGuards.{CanAgain, CanAnswer, CanAsk, CanBegin, CanClear, CanCommit, CanFetch, is_needed, is_server, is_unread, may_again, may_answer, may_begin, may_commit}
use Rattle.core_definitions.specs.Lines.{Stage, Asking, Fetching, Moving, Stopping, Growing, Clearing, Finishing}
use Rattle.line_stages.specs.Stages.{asked_next, cleared_next}
use Rattle.core_laws.proofs.Guarding.{again_may, answer_may, begin_may, commit_may}

-- ---- Ask

record Asks (locks : Locks) (a : ℕ) (at : Option Stage) (need : Lock) : Type 0 where
  stage_is : at ≡ Some (Asking need)
  new : IsTrue (not (is_wished locks a need.0 need.1) || is_free locks a need.0 need.1)

asks : (locks : Locks) (a : ℕ) (at : Option Stage) (need : Lock) → asked_next locks a at ≡ Some need → Asks locks a at need
asks locks a None need is = absurd (cc)
asks locks a (Some (Asking own)) need is = go (not (is_wished locks a own.0 own.1) || is_free locks a own.0 own.1) refl is
  where
    go : (b : Bool) → (not (is_wished locks a own.0 own.1) || is_free locks a own.0 own.1) ≡ b → (if b then Some own else None) ≡ Some need → Asks locks a (Some (Asking own)) need
    go true new is = let same : own ≡ need = cc in record { stage_is = ap (λ n. Some (Asking n)) same; new = ap (λ n. not (is_wished locks a n.0 n.1) || is_free locks a n.0 n.1) (sym same) ∙ new }
    go false new is = absurd (cc)
asks locks a (Some (Fetching needs)) need is = absurd (cc)
asks locks a (Some Moving) need is = absurd (cc)
asks locks a (Some Stopping) need is = absurd (cc)
asks locks a (Some (Growing needs seen)) need is = absurd (cc)
asks locks a (Some (Clearing block)) need is = absurd (cc)
asks locks a (Some (Finishing outcome)) need is = absurd (cc)

asks_none : (locks : Locks) (a : ℕ) (need : Lock) (at : Option Stage) → at ≡ Some (Asking need) → IsTrue (not (is_wished locks a need.0 need.1) || is_free locks a need.0 need.1) → asked_next locks a at ≡ None → ⊥
asks_none locks a need at is new none =
    let some : asked_next locks a at ≡ Some need = ap (asked_next locks a) is ∙ ap (λ b. if b then Some need else None) new in
    absurd (cc)

-- ---- Clear

clears : (at : Option Stage) (block : ℕ) → cleared_next at ≡ Some block → at ≡ Some (Clearing block)
clears None block is = absurd (cc)
clears (Some (Asking need)) block is = absurd (cc)
clears (Some (Fetching needs)) block is = absurd (cc)
clears (Some Moving) block is = absurd (cc)
clears (Some Stopping) block is = absurd (cc)
clears (Some (Growing needs seen)) block is = absurd (cc)
clears (Some (Clearing own)) block is = let same : own ≡ block = cc in ap (λ b. Some (Clearing b)) same
clears (Some (Finishing outcome)) block is = absurd (cc)

-- ---- of a line

module _ (c : Core) (a : ℕ) where
  pub asks_next : (lock : LockId) (mode : Mode) → IsTrue (is_server a) → asked_next c.locks a (stage c a) ≡ Some (lock, mode) → CanAsk c a lock mode
  asks_next lock mode server is =
      let asked : Asks c.locks a (stage c a) (lock, mode) = asks c.locks a (stage c a) (lock, mode) is in
      record { server = server; least = asked.stage_is; new = asked.new }

  pub asks_nothing : asked_next c.locks a (stage c a) ≡ None → (lock : LockId) (mode : Mode) → CanAsk c a lock mode → ⊥
  asks_nothing none lock mode can = asks_none c.locks a (lock, mode) (stage c a) can.least can.new none

  pub clears_next : (block : ℕ) → IsTrue (is_server a) → cleared_next (stage c a) ≡ Some block → CanClear c a block
  clears_next block server is = record { server = server; clear = clears (stage c a) block is }

  pub clears_nothing : cleared_next (stage c a) ≡ None → (block : ℕ) → CanClear c a block → ⊥
  clears_nothing none block can = let some : cleared_next (stage c a) ≡ Some block = ap cleared_next can.clear in absurd (cc)

  pub fetches_next : (sector : ℕ) → IsTrue (is_server a) → (is_needed c a (stage c a) sector || is_unread c a sector) ≡ true → CanFetch c a sector
  fetches_next sector server lacks = record { server = server; lacks = lacks }

  pub fetches_nothing : ((sector : ℕ) → (is_needed c a (stage c a) sector || is_unread c a sector) ≡ false) → (sector : ℕ) → CanFetch c a sector → ⊥
  fetches_nothing none sector can = false≢true (sym (none sector) ∙ can.lacks)

  pub begins_not : may_begin c a ≡ false → CanBegin c a → ⊥
  begins_not bars can = false≢true (sym bars ∙ begin_may c a can)

  pub answers_not : may_answer c a ≡ false → CanAnswer c a → ⊥
  answers_not bars can = false≢true (sym bars ∙ answer_may c a can)

  pub commits_not : may_commit c a (stage c a) ≡ false → CanCommit c a → ⊥
  commits_not bars can = false≢true (sym bars ∙ commit_may c a can)

  pub agains_not : may_again c a (stage c a) ≡ false → CanAgain c a → ⊥
  agains_not bars can = false≢true (sym bars ∙ again_may c a can)
