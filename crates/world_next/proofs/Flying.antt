-- A write arrives where one is in flight, and where none is, none arrives and none is lost.
use Rattle.std.proofs.Common.{◌≡◌, ℕ, true, [], ◌∷◌, Some, None, is_some, if◌then◌else◌, arith, refl, sym, ap, ◌∙◌}
use Rattle.std.specs.BTreeMap.{is_at}
use Rattle.std.specs.List.{slice_get}
use Rattle.std.specs.Map.{lookup}
use Rattle.std.specs.Ordering.{nat_cmp}
use Rattle.std.proofs.lemmas.Bool.{false≢true}
use Rattle.std.proofs.lemmas.Bool.Decides.{nat_tests}
use Rattle.sector_bytes.specs.SectorMaps.{value_at}
use Rattle.petal_disk.specs.Flying.{InFlight}
use Rattle.petal_disk.specs.declared.flying.Flying.{Flying}
use Rattle.petal_disk.specs.declared.ticket.Ticket.{Ticket}
use Rattle.flight_laws.specs.Flights.{flight_of, flights_of}
use Rattle.core_definitions.specs.Cores.{Core}
use Rattle.core_definitions.specs.Flights.{Flights}
use Rattle.core_definitions.specs.WriteGuards.{CanArrive, is_by_dead, is_flight}
use Rattle.world_next.specs.NoEvents.{NoneOfFlights}

own_ticket : (ticket : ℕ) → is_at (nat_cmp ticket) ticket ≡ true
own_ticket ticket = grind (arith, nat_tests)

first_flies : (flights : InFlight) (one : Ticket × Flying) → slice_get flights 0 ≡ Some one → is_some (value_at (flights_of flights) one.0.0) ≡ true
first_flies [] one first = absurd (cc)
first_flies (x ∷ xs) one first =
    let same : x ≡ one = cc in
    ap (λ b. is_some (if b then Some (flight_of x.1) else lookup (is_at (nat_cmp one.0.0)) (flights_of xs))) (ap (λ y. is_at (nat_cmp one.0.0) y.0.0) same ∙ own_ticket one.0.0)

none_flies : (flights : InFlight) → slice_get flights 0 ≡ None → flights_of flights ≡ []
none_flies [] none = refl
none_flies (x ∷ xs) none = absurd (cc)

module _ (c : Core) (flights : InFlight) (are : c.flights ≡ flights_of flights) where
  pub arrives_first : (one : Ticket × Flying) → slice_get flights 0 ≡ Some one → CanArrive c one.0.0
  arrives_first one first = record { flying = ap (λ (f : Flights). is_some (value_at f one.0.0)) are ∙ first_flies flights one first }

  pub nothing_flies : slice_get flights 0 ≡ None → NoneOfFlights c
  nothing_flies none = record {
    arrive = λ ticket can. false≢true (ap (λ (f : Flights). is_some (value_at f ticket)) (sym (are ∙ none_flies flights none)) ∙ can.flying);
    lose = λ ticket can. false≢true (ap (λ (f : Flights). is_flight (is_by_dead c) (value_at f ticket)) (sym (are ∙ none_flies flights none)) ∙ can.dead);
  }
