-- Only a lock that is asked for may be given, so that those asked for have all that may be.
use Rattle.std.proofs.Common.{◌≡◌, ℕ, Bool, true, not, ◌&&◌, ◌||◌, List, ◌++◌, is_some, ap, ◌∙◌}
use Rattle.std.specs.List.{flat_map}
use Rattle.std.proofs.lemmas.Bool.{and_parts}
use Rattle.frang_base.specs.declared.lock.LockId.{LockId}
use Rattle.lock_definitions.specs.Calls.{asked_for, revokes}
use Rattle.lock_definitions.specs.Locks.{claims_of}
use Rattle.lock_definitions.specs.declared.claim.AskedFor.{AskedFor}
use Rattle.cache_definitions.specs.Caches.{any_cached, is_dirty_under}
use Rattle.core_definitions.specs.Cores.{Core}
use Rattle.core_definitions.specs.Enabled.{gives, only, party_of}
use Rattle.core_definitions.specs.Events.{Give}
use Rattle.core_definitions.specs.Flights.{has_flights_under}
use Rattle.core_definitions.specs.LineGuards.{is_server}
use Rattle.core_definitions.specs.Rings.{is_all_reached}
use Rattle.core_definitions.specs.Servers.{is_up}
use Rattle.core_definitions.specs.WriteGuards.{is_in_use, is_sole, may_give}
use Rattle.hall_runs.specs.declared.event.Event.{Event as Named}
use Rattle.world_list.specs.Listing.{Adds, AddsOf, events_of}
use Rattle.world_list.specs.Over.{core_over}
use Rattle.world_list.specs.Rows.{party_events}
use Rattle.world_list.specs.declared.row.Row.TheVariants as rows
use Rattle.world_list.proofs.Onlys.{those_with}
use Rattle.world_state.specs.States.{State, core_at}

asked_of_given : (c : Core) (a : ℕ) (lock : LockId) → may_give c a lock ≡ true → is_some (asked_for c.locks a lock) ≡ true
asked_of_given c a lock may = (and_parts up_ asked_ (and_parts (up_ && asked_) unused_ (and_parts (up_ && asked_ && unused_) clean_ (and_parts (up_ && asked_ && unused_ && clean_) landed_ (and_parts (up_ && asked_ && unused_ && clean_ && landed_) logged_ may).0).0).0).0).1
  where
    up_ : Bool
    up_ = is_server a && is_up (c.servers a).phase

    asked_ : Bool
    asked_ = is_some (asked_for c.locks a lock)

    unused_ : Bool
    unused_ = not (is_in_use c a lock)

    clean_ : Bool
    clean_ = not (any_cached (is_dirty_under lock) (c.servers a).cache)

    landed_ : Bool
    landed_ = not (has_flights_under c.flights a lock)

    logged_ : Bool
    logged_ = not (is_sole c a lock) || is_all_reached (c.servers a).ring

pub given_are : (c : Core) (a : ℕ) → flat_map (λ (one : LockId × AskedFor). only (may_give c a one.0) (Give a one.0)) (revokes c.locks a) ≡ gives c (party_of c a)
given_are c a = those_with (λ entry. entry.0) (may_give c a) (Give a) (asked_for c.locks a) (asked_of_given c a) (claims_of c.locks a)

pub gives_added : (s : State) (a : ℕ) (asked : List (LockId × AskedFor)) (old new : List Named) → asked ≡ revokes s.locks.locks a
    → Adds old new (flat_map (λ one. only (may_give (core_at s) a one.0) (Give a one.0)) asked) → AddsOf old new (party_events s rows.Gives a)
unfolding party_events
gives_added s a asked old new are added tree =
    added ∙ ap (λ es. events_of old ++ es) (ap (λ ones. flat_map (λ (one : LockId × AskedFor). only (may_give (core_at s) a one.0) (Give a one.0)) ones) are ∙ given_are (core_over s tree) a)
