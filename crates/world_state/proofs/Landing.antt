-- A write in flight that the core knows is in flight as code has it.
use Rattle.std.proofs.Common.{◌≡◌, ℕ, Bool, true, false, if◌then◌else◌, Option, Some, None, is_some, IsSome, IsSomeAnd, IfSome, [], ◌∷◌, refl, sym, ap, ◌∙◌, subst}
use Rattle.std.specs.Option.{option_map}
use Rattle.std.proofs.lemmas.Bool.{false≢true}
use Rattle.sector_bytes.specs.SectorMaps.{value_at}
use Rattle.petal_disk.specs.Flights.{is_ticket, write_at}
use Rattle.petal_disk.specs.Flying.{InFlight, puts}
use Rattle.flight_laws.specs.Flights.{flight_of, flights_of}
use Rattle.flight_laws.specs.Laws.{AWriteIsTheCores}
use Rattle.core_definitions.specs.Flights as core
use Rattle.world_parties.specs.States.{IsReady, State as Parties}
use Rattle.world_state.specs.Rooms.{HasLossRoom}
use Rattle.world_state.specs.States.{IsWriteOf, State, core_at}

some_mapped : {A B : Type 0} (f : A → B) (o : Option A) → is_some (option_map f o) ≡ is_some o
some_mapped f None = refl
some_mapped f (Some x) = refl

some_is : {A : Type 0} (o : Option A) → is_some o ≡ true → IsSome o
some_is None is = absurd (false≢true is)
some_is (Some x) is = refl

puts_at : (flying : InFlight) (t : ℕ) → is_some (write_at (puts flying) t) ≡ is_some (write_at flying t)
puts_at [] t = refl
puts_at (one ∷ flying) t = go (is_ticket t one.0) (puts_at flying t)
  where
    go : (b : Bool) → is_some (write_at (puts flying) t) ≡ is_some (write_at flying t) → is_some (if b then Some one.1.put else write_at (puts flying) t) ≡ is_some (if b then Some one.1 else write_at flying t)
    go true rest = refl
    go false rest = rest

pub is_flying_here : (flying : InFlight) (t : ℕ) → AWriteIsTheCores → is_some (value_at (flights_of flying) t) ≡ true → IsSome (write_at (puts flying) t)
is_flying_here flying t law is =
    some_is (write_at (puts flying) t) (puts_at flying t ∙ sym (some_mapped flight_of (write_at flying t)) ∙ ap is_some (sym (law flying t)) ∙ is)

-- the recovery of the party whose write it is is ready
pub loss_ready : (s : State) (ticket server sector : ℕ) → IsWriteOf s ticket server sector → HasLossRoom s ticket → IsReady s.parties server
loss_ready s ticket server sector = go (value_at (core_at s).flights ticket)
  where
    go : (o : Option core.Flight) → IsSomeAnd o (λ flight. (flight.server ≡ server) × (flight.sector ≡ sector)) → IfSome o (λ flight. IsReady s.parties flight.server) → IsReady s.parties server
    go None is ready = absurd is
    go (Some flight) is ready = subst (IsReady s.parties) is.0 ready

-- it is made ready by the number of that party
pub loss_made_ready : (parties : Parties) (there : Option core.Flight) (by : ℕ) → Some by ≡ option_map (λ (flight : core.Flight). flight.server) there → IsReady parties by
    → IfSome there (λ flight. IsReady parties flight.server)
loss_made_ready parties None by is ready = tt
loss_made_ready parties (Some flight) by is ready = let same : by ≡ flight.server = cc is in subst (IsReady parties) same ready
