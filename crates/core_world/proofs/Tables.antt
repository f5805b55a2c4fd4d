-- What calls of the lock table do to who holds what, as a function of server and lock.
use Rattle.std.proofs.Common.{◌≡◌, ◌≢◌, ℕ, ◌<◌, ◌≤◌, ◌==◌, Bool, true, false, if◌then◌else◌, map, length, Option, Some, None, refl, sym, ap, ◌∙◌, inl, inr, ◌⊎◌, arith}
use Rattle.std.proofs.lemmas.Bool.{cases_lt, eqb-true, false≢true}
use Rattle.std.proofs.lemmas.List.{get_or_past, get_or-map, length-map}
use Rattle.frang_base.specs.Functions.{put_lock}
use Rattle.frang_base.proofs.Basics.{at_lock}
use Rattle.frang_base.specs.declared.lock.LockId.{LockId}
use Rattle.frang_base.specs.declared.lock.Mode.{Mode}
use Rattle.frang_base.specs.declared.lock.Mode.TheVariants.{Shared, Sole}
use Rattle.lock_definitions.specs.declared.claim.Claim.{Claim}
use Rattle.lock_definitions.specs.declared.claim.LogHold.{LogHold}
use Rattle.lock_definitions.specs.Locks.{Locks, AreLocks, claim_of, held, log_hold}
use Rattle.lock_definitions.specs.Calls.{changed, extended, given_up, granted, hold_extended, hold_of, holding, shared, released, downgraded, serves, wishing}
use Rattle.lock_definitions.proofs.Changes.{claim_of-changed, own_claim, IsChanged}
use Rattle.sector_world.specs.World.{World}
use Rattle.sector_world.specs.Steps.{is_taker}
use Rattle.sector_world.specs.Steps as sectors
use Rattle.core_world.specs.Ties.{AreHeld, taker_of, until_of}

module _ (locks : Locks) (are : AreLocks locks) (a : ℕ) (inside : a < length locks.clerks) (l : LockId) (change : Claim → Claim) where
  -- a change of one claim changes what is held at this server and lock, and nowhere else
  pub held_changed : (b : ℕ) (k : LockId) → put_lock (held locks) a l (change (claim_of locks a l)).held b k ≡ held (changed locks a l change) b k
  held_changed b k = at_lock (λ x. x ≡ held (changed locks a l change) b k) (held locks) a l (change (claim_of locks a l)).held b k here there
    where
      here : b ≡ a → k ≡ l → (change (claim_of locks a l)).held ≡ held (changed locks a l change) b k
      here e f = sym (ap (λ c. c.held) (own_claim locks a l change (are.claims a) inside)) ∙ (λ i. held (changed locks a l change) (sym e i) (sym f i))

      there : (b ≡ a → k ≢ l) → held locks b k ≡ held (changed locks a l change) b k
      there apart = go (claim_of-changed locks a l change (are.claims a) b k)
        where
          go : IsChanged locks a l change b k ⊎ (claim_of (changed locks a l change) b k ≡ claim_of locks b k) → held locks b k ≡ held (changed locks a l change) b k
          go (inl at) = absurd (apart at.same_server at.same_lock)
          go (inr same) = sym (ap (λ c. c.held) same)

pub held_released : (locks : Locks) → AreLocks locks → (a : ℕ) → a < length locks.clerks → (l : LockId) (b : ℕ) (k : LockId) → put_lock (held locks) a l None b k ≡ held (released locks a l) b k
held_released locks are a inside l b k = held_changed locks are a inside l given_up b k

pub held_downgraded : (locks : Locks) → AreLocks locks → (a : ℕ) → a < length locks.clerks → (l : LockId) → held locks a l ≡ Some Sole → (b : ℕ) (k : LockId) →
    put_lock (held locks) a l (Some Shared) b k ≡ held (downgraded locks a l) b k
held_downgraded locks are a inside l sole b k = ap (λ m. put_lock (held locks) a l m b k) (sym (lowered (held locks a l) sole)) ∙ held_changed locks are a inside l shared b k
  where
    lowered : (m : Option Mode) → m ≡ Some Sole → (shared (record { held = m; wishes_shared = (claim_of locks a l).wishes_shared; wishes_sole = (claim_of locks a l).wishes_sole })).held ≡ Some Shared
    lowered None e = absurd (cc)
    lowered (Some mode) e = refl

-- ---- a lock that is wanted

pub held_wished : (locks : Locks) → AreLocks locks → (a : ℕ) → a < length locks.clerks → (l : LockId) (mode : Mode) (b : ℕ) (k : LockId) → held locks b k ≡ held (changed locks a l (wishing mode)) b k
held_wished locks are a inside l mode b k = sym (at_lock (λ x. x ≡ held locks b k) (held locks) a l (wishing mode (claim_of locks a l)).held b k here (λ apart. refl)) ∙ held_changed locks are a inside l (wishing mode) b k
  where
    same : (m : Mode) → (wishing m (claim_of locks a l)).held ≡ held locks a l
    same Shared = refl
    same Sole = refl

    here : b ≡ a → k ≡ l → (wishing mode (claim_of locks a l)).held ≡ held locks b k
    here e f = same mode ∙ (λ i. held locks (sym e i) (sym f i))

-- what isn't held so yet is held so once it is granted
grants : (mode : Mode) (claim : Claim) → serves claim.held mode ≡ false → (granted mode claim).held ≡ Some mode
grants mode claim lacks = by mode claim.held lacks
  where
    by : (m : Mode) (h : Option Mode) → serves h m ≡ false → (if serves h Sole then holding Sole claim else holding m claim).held ≡ Some m
    by Shared None e = refl
    by Sole None e = refl
    by m (Some Sole) e = absurd (false≢true (sym e))
    by Shared (Some Shared) e = absurd (false≢true (sym e))
    by Sole (Some Shared) e = refl

pub held_granted : (locks : Locks) → AreLocks locks → (a : ℕ) → a < length locks.clerks → (l : LockId) (mode : Mode) → serves (held locks a l) mode ≡ false → (b : ℕ) (k : LockId) →
    put_lock (held locks) a l (Some mode) b k ≡ held (changed locks a l (granted mode)) b k
held_granted locks are a inside l mode lacks b k = ap (λ m. put_lock (held locks) a l m b k) (sym (grants mode (claim_of locks a l) lacks)) ∙ held_changed locks are a inside l (granted mode) b k

-- ---- holds on logs that are extended

hold_at : (locks : Locks) (by expiry d : ℕ) → log_hold (extended locks by expiry) d ≡ hold_extended by expiry (log_hold locks d)
hold_at locks by expiry d = go (cases_lt d (length locks.logs))
  where
    go : (d < length locks.logs) ⊎ (length locks.logs ≤ d) → log_hold (extended locks by expiry) d ≡ hold_extended by expiry (log_hold locks d)
    go (inl inside) = get_or-map (hold_extended by expiry) locks.logs d None None inside
    go (inr past) =
        get_or_past (map (hold_extended by expiry) locks.logs) d None (omega (arith, past, length-map locks.logs (hold_extended by expiry)))
        ∙ sym (ap (hold_extended by expiry) (get_or_past locks.logs d None past))

taker_stays : (by expiry : ℕ) (hold : Option LogHold) → taker_of (hold_extended by expiry hold) ≡ taker_of hold
taker_stays by expiry None = refl
taker_stays by expiry (Some hold) = go (hold.by.0 == by) refl
  where
    go : (b : Bool) → (hold.by.0 == by) ≡ b → taker_of (if b then Some (hold_of by expiry) else Some hold) ≡ Some hold.by.0
    go true e = ap Some (sym (eqb-true hold.by.0 by e))
    go false e = refl

until_grows : (by expiry old : ℕ) (hold : Option LogHold) → old ≡ until_of hold → (if is_taker by (taker_of hold) then expiry else old) ≡ until_of (hold_extended by expiry hold)
until_grows by expiry old None e = e
until_grows by expiry old (Some hold) e = go (hold.by.0 == by)
  where
    go : (b : Bool) → (if b then expiry else old) ≡ until_of (if b then Some (hold_of by expiry) else Some hold)
    go true = refl
    go false = e

-- a lease that is renewed to a moment, on both sides
pub locks_renewed : (locks : Locks) (w : World) (by expiry moment : ℕ) → expiry ≡ moment → AreHeld locks w → (u : World) → u.holds ≡ w.holds → u.taker ≡ w.taker →
    u.until ≡ sectors.extended by moment w.taker w.until → AreHeld (extended locks by expiry) u
locks_renewed locks w by expiry moment same t u holds taker until = record {
  holds = λ a l. ap (λ f. f a l) holds ∙ t.holds a l;
  taker = λ d. ap (λ f. f d) taker ∙ t.taker d ∙ sym (ap taker_of (hold_at locks by expiry d) ∙ taker_stays by expiry (log_hold locks d));
  until = λ d. ap (λ f. f d) until
      ∙ ap (λ m. if is_taker by (w.taker d) then m else w.until d) (sym same)
      ∙ ap (λ o. if is_taker by o then expiry else w.until d) (t.taker d)
      ∙ until_grows by expiry (w.until d) (log_hold locks d) (t.until d)
      ∙ sym (ap until_of (hold_at locks by expiry d));
}
