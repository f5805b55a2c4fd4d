-- A wish that conflicts with no holder any more, and the table without it.
use Rattle.std.proofs.Common.{◌≡◌, ℕ, zero, suc, ◌<◌, ◌≤◌, Bool, true, false, not, ◌&&◌, ◌||◌, ◌==◌, if◌then◌else◌, [], ◌∷◌, replicate, get_or, Some, None, unwrap_or, refl, sym, ap, ◌∙◌, inl, inr, ◌⊎◌, arith}
use Rattle.std.proofs.lemmas.Bool.{cases_lt, false≢true}
use Rattle.std.proofs.lemmas.List.{get_or-replicate, get_or_past, length-replicate}
use mathlib.Core.Bool.{and-false}
use Rattle.frang_base.specs.declared.lock.LockId.{LockId}
use Rattle.frang_base.specs.declared.lock.LockId.TheVariants.{Node}
use Rattle.frang_base.specs.declared.lock.Mode.{Mode}
use Rattle.frang_base.specs.declared.lock.Mode.TheVariants.{Shared, Sole}
use Rattle.lock_definitions.specs.declared.claim.Claim.{Claim}
use Rattle.lock_definitions.specs.Order.{is_lock}
use Rattle.lock_definitions.specs.Servers.{any_below, any_server}
use Rattle.lock_definitions.specs.Locks.{Claims, no_locks, no_clerks, no_logs, no_claim, claim_in, held, is_wished_in, is_wished, log_hold}
use Rattle.lock_definitions.specs.Calls.{clashes, is_free}
use Rattle.lock_definitions.specs.Same.{SameLocks, AllWishesWait}
use Rattle.known_locks.specs.Examples.{released_by_0}

-- the wish of server 1
wish : Claim
wish = record { held = None; wishes_shared = true; wishes_sole = false }

empty_past : (n s : ℕ) → get_or (replicate {A = Claims} n []) s [] ≡ []
empty_past n s = go (cases_lt s n)
  where
    go : (s < n) ⊎ (n ≤ s) → get_or (replicate {A = Claims} n []) s [] ≡ []
    go (inl inside) = get_or-replicate n s [] [] inside
    go (inr past) = get_or_past (replicate n []) s [] (omega (arith, past, length-replicate {A = Claims} n []))

none_wished : (mode : Mode) → is_wished_in no_claim mode ≡ false
none_wished Shared = refl
none_wished Sole = refl

pub no_wish : (server : ℕ) (lock : LockId) (mode : Mode) → is_wished no_locks server lock mode ≡ false
unfolding no_clerks
no_wish server lock mode = ap (λ claims. is_wished_in (claim_in claims lock) mode) (empty_past 16 server) ∙ none_wished mode

pub all_wait : AllWishesWait no_locks
all_wait server lock mode wished = absurd (false≢true (sym (no_wish server lock mode) ∙ wished))

-- who has what afterwards: server 1 its wish, nobody else anything
unheld : (lock : LockId) → (claim_in ((Node 1, wish) ∷ []) lock).held ≡ None
unfolding wish
unheld lock = go (is_lock lock (Node 1))
  where
    go : (b : Bool) → (unwrap_or (if b then Some wish else None) no_claim).held ≡ None
    go true = refl
    go false = refl

held_same : (server : ℕ) (lock : LockId) → held released_by_0 server lock ≡ held no_locks server lock
unfolding no_clerks no_logs any_server wish
held_same zero lock = refl
held_same (suc zero) lock = unheld lock
held_same (suc (suc n)) lock = refl

free_same : (server : ℕ) (lock : LockId) (mode : Mode) → is_free released_by_0 server lock mode ≡ is_free no_locks server lock mode
free_same server lock mode i = not (any_server (λ other. not (other == server) && clashes mode (held_same other lock i)))

pub wished_by_1 : is_wished released_by_0 1 (Node 1) Shared ≡ true
unfolding no_clerks no_logs any_server
wished_by_1 = refl

-- nobody holds anything, so every want is free
all_free : (server : ℕ) (lock : LockId) (mode : Mode) → is_free no_locks server lock mode ≡ true
unfolding any_server no_clerks
all_free server lock mode = ap not (none (λ other. not (other == server) && clashes mode (held no_locks other lock)) (λ other. ap (λ h. not (other == server) && clashes mode h) (nothing other) ∙ and-false (not (other == server))) 16)
  where
    nothing : (other : ℕ) → held no_locks other lock ≡ None
    nothing other = ap (λ claims. (claim_in claims lock).held) (empty_past 16 other)

    none : (passes : ℕ → Bool) → ((n : ℕ) → passes n ≡ false) → (n : ℕ) → any_below passes n ≡ false
    none passes all zero = refl
    none passes all (suc n) = (λ i. none passes all n i || all n i)

pub forgotten : SameLocks released_by_0 no_locks
forgotten = record {
  held = held_same;
  wishes = λ server lock mode. (λ i. is_wished released_by_0 server lock mode && not ((free_same server lock mode ∙ all_free server lock mode) i)) ∙ and-false (is_wished released_by_0 server lock mode)
      ∙ sym (ap (λ w. w && not (is_free no_locks server lock mode)) (no_wish server lock mode));
  logs = same_logs;
}
  where
    same_logs : (dead : ℕ) → log_hold released_by_0 dead ≡ log_hold no_locks dead
    same_logs dead = refl
