-- The first of the writes in flight is lost, again and again, till none is left.
use Rattle.std.proofs.Common.{◌≡◌, ◌<◌, ◌==◌, ℕ, suc, true, false, if◌then◌else◌, Some, None, is_some, IsSome, [], ◌∷◌, length, refl, ap, arith}
use Rattle.std.proofs.lemmas.Bool.Decides.{nat_tests}
use Rattle.std.specs.List.{slice_get}
use Rattle.core_definitions.specs.Logs.{is_none}
use Rattle.petal_disk.specs.declared.flying.Flying.{Flying}
use Rattle.petal_disk.specs.declared.ticket.Ticket.{Ticket}
use Rattle.petal_disk.specs.Flights.{is_ticket, without, write_at}
use Rattle.petal_disk.specs.Flying.{InFlight, put_of, puts}
use Rattle.flight_laws.specs.Flights.{flights_of}

equal : (a b : ℕ) → a ≡ b → (a == b) ≡ true
equal a b same = grind (arith, nat_tests)

-- the write at the first place has this ticket
at_first : (one : Ticket × Flying) (ticket : Ticket) (flying : Flying) → Some one ≡ Some (ticket, flying) → is_ticket ticket.0 one.0 ≡ true
at_first one ticket flying there = let same : one.0.0 ≡ ticket.0 = cc there in equal one.0.0 ticket.0 same

pub first_flies : (flights : InFlight) (ticket : Ticket) (flying : Flying) → slice_get flights 0 ≡ Some (ticket, flying) → IsSome (write_at (puts flights) ticket.0)
first_flies [] ticket flying there = cc there
first_flies (one ∷ flights) ticket flying there = ap (λ b. is_some (if b then Some (put_of one.1) else write_at (puts flights) ticket.0)) (at_first one ticket flying there)

pub first_goes : (flights : InFlight) (ticket : Ticket) (flying : Flying) → slice_get flights 0 ≡ Some (ticket, flying) → length (without flights ticket.0) < length flights
first_goes [] ticket flying there = cc there
first_goes (one ∷ flights) ticket flying there =
    let rest = ap (λ b. length (if b then flights else one ∷ without flights ticket.0)) (at_first one ticket flying there) in
    omega (arith, rest)

pub none_left : (flights : InFlight) → slice_get flights 0 ≡ None → flights ≡ []
none_left [] none = refl
none_left (one ∷ flights) none = cc none

one_more : (n : ℕ) → (suc n == 0) ≡ false
one_more n = grind (arith, nat_tests)

-- there are none exactly where the core has none
pub none_counted : (flights : InFlight) → (length flights == 0) ≡ is_none (flights_of flights)
none_counted [] = refl
none_counted (one ∷ flights) = one_more (length flights)
