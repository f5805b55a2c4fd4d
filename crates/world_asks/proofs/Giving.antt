-- Whoever is asked for no lock that may be given may give none.
use Rattle.std.proofs.Common.{◌≡◌, ℕ, Bool, true, false, not, ◌&&◌, ◌||◌, is_some, None, refl, ap, ◌∙◌}
use Rattle.std.specs.List.{slice_get}
use Rattle.frang_base.specs.declared.lock.LockId.{LockId}
use Rattle.cache_definitions.specs.Caches.{any_cached, is_dirty_under}
use Rattle.lock_definitions.specs.Calls.{asked_for, revokes}
use Rattle.lock_definitions.proofs.Answers.{revokes_of}
use Rattle.core_definitions.specs.Cores.{Core}
use Rattle.core_definitions.specs.Flights.{has_flights_under}
use Rattle.core_definitions.specs.LineGuards.{is_server}
use Rattle.core_definitions.specs.Rings.{is_all_reached}
use Rattle.core_definitions.specs.Servers.{is_up}
use Rattle.core_definitions.specs.WriteGuards.{is_in_use, is_sole, may_give}
use Rattle.world_asks.proofs.Places.{ArePassed, no_more}

unasked : (a b d e f g : Bool) → b ≡ false → (a && b && d && e && f && g) ≡ false
unasked true b d e f g none = ap (λ (t : Bool). t && d && e && f && g) none
unasked false b d e f g none = refl

pub none_given : (c : Core) (a place : ℕ) → ArePassed (may_give c a) (revokes c.locks a) place → slice_get (revokes c.locks a) place ≡ None → (lock : LockId) → may_give c a lock ≡ false
none_given c a place before none lock = go (is_some (asked_for c.locks a lock)) refl
  where
    go : (t : Bool) → is_some (asked_for c.locks a lock) ≡ t → may_give c a lock ≡ false
    go true is = no_more (may_give c a) (revokes c.locks a) place before none lock (ap is_some (revokes_of c.locks a lock) ∙ is)
    go false is =
        unasked (is_server a && is_up (c.servers a).phase) (is_some (asked_for c.locks a lock)) (not (is_in_use c a lock)) (not (any_cached (is_dirty_under lock) (c.servers a).cache))
        (not (has_flights_under c.flights a lock)) (not (is_sole c a lock) || is_all_reached (c.servers a).ring) is
