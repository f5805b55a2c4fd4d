-- What follows from the guards of events.
use Rattle.std.proofs.Common.{◌≡◌, ◌<◌, ℕ, Bool, true, false, not, ◌&&◌, ◌||◌, Option, Some, None, is_some, IsSome, refl, ap, ◌∙◌, nat_lt}
use Rattle.std.proofs.lemmas.Bool.{and_parts, false≢true, not-true, ltb-true}
use Rattle.frang_base.specs.declared.limits.TheConstants.{SERVERS}
use Rattle.frang_base.specs.declared.lock.LockId.{LockId}
use Rattle.frang_base.specs.declared.lock.Mode.{Mode}
use Rattle.lock_definitions.specs.Calls.{asked_for, asked_of}
use Rattle.lock_definitions.specs.Locks.{Locks, held}
use Rattle.lock_definitions.specs.declared.claim.AskedFor.{AskedFor}
use Rattle.cache_definitions.specs.Caches.{any_cached, is_dirty_under}
use Rattle.core_definitions.specs.Cores.{Core, clean_at}
use Rattle.core_definitions.specs.Flights.{has_flights_under}
use Rattle.core_definitions.specs.LineGuards.{is_server}
use Rattle.core_definitions.specs.Rings.{is_all_reached}
use Rattle.core_definitions.specs.Servers.{Phase, is_doomed, is_in_mount, is_still, is_up}
use Rattle.core_definitions.specs.WriteGuards.{is_in_use, is_past_lease, is_sole, may_give, may_resume}

pub is_below : (a : ℕ) → is_server a ≡ true → a < SERVERS
is_below a server = ltb-true a SERVERS server

-- ---- Give

module _ (c : Core) (a : ℕ) (lock : LockId) (may : may_give c a lock ≡ true) where
  abbrev logged : Bool
  logged = not (is_sole c a lock) || is_all_reached (c.servers a).ring

  abbrev to_asked : Bool
  to_asked = is_server a && is_up (c.servers a).phase && is_some (asked_for c.locks a lock)

  to_clean : (to_asked && not (is_in_use c a lock) && not (any_cached (is_dirty_under lock) (c.servers a).cache)) ≡ true
  to_clean = (and_parts (to_asked && not (is_in_use c a lock) && not (any_cached (is_dirty_under lock) (c.servers a).cache)) (not (has_flights_under c.flights a lock))
      (and_parts (to_asked && not (is_in_use c a lock) && not (any_cached (is_dirty_under lock) (c.servers a).cache) && not (has_flights_under c.flights a lock)) logged may).0).0

  pub gives_clean : any_cached (is_dirty_under lock) (c.servers a).cache ≡ false
  gives_clean = not-true (any_cached (is_dirty_under lock) (c.servers a).cache)
      (and_parts (to_asked && not (is_in_use c a lock)) (not (any_cached (is_dirty_under lock) (c.servers a).cache)) to_clean).1

  pub gives_server : a < SERVERS
  gives_server = is_below a (and_parts (is_server a) (is_up (c.servers a).phase) (and_parts (is_server a && is_up (c.servers a).phase) (is_some (asked_for c.locks a lock))
      (and_parts to_asked (not (is_in_use c a lock)) (and_parts (to_asked && not (is_in_use c a lock)) (not (any_cached (is_dirty_under lock) (c.servers a).cache)) to_clean).0).0).0).0

-- who is asked for a lock holds it
held_where : (mode : Option Mode) (for_shared for_sole : Bool) (asked : AskedFor) → asked_of mode for_shared for_sole ≡ Some asked → IsSome mode
held_where None for_shared for_sole asked is = absurd (false≢true (ap is_some is))
held_where (Some mode) for_shared for_sole asked is = refl

pub asked_is_held : (locks : Locks) (a : ℕ) (lock : LockId) → {asked : AskedFor} → asked_for locks a lock ≡ Some asked → IsSome (held locks a lock)
asked_is_held locks a lock {asked} is = held_where (held locks a lock) _ _ asked is

-- ---- Resume, Renew, Die

still_is_mounted : (phase : Phase) → is_still phase ≡ true → is_in_mount phase ≡ true
still_is_mounted phase still = ap (λ b. is_up phase || b || is_doomed phase) still ∙ or_true (is_up phase) (is_doomed phase)
  where
    or_true : (b d : Bool) → (b || true || d) ≡ true
    or_true true d = refl
    or_true false d = refl

module _ (c : Core) (a : ℕ) (may : may_resume c a ≡ true) where
  resumes : (is_server a && is_past_lease c a) ≡ true
  resumes = (and_parts (is_server a && is_past_lease c a) (clean_at c a) may).0

  pub resumes_server : a < SERVERS
  resumes_server = is_below a (and_parts (is_server a) (is_past_lease c a) resumes).0

  pub resumes_mounted : is_in_mount (c.servers a).phase ≡ true
  resumes_mounted = still_is_mounted (c.servers a).phase
      (and_parts (is_still (c.servers a).phase) (nat_lt (c.servers a).expiry c.now) (and_parts (is_server a) (is_past_lease c a) resumes).1).0
