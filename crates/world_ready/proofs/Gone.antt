-- The tickets of the writes in flight, place by place.
use Rattle.std.proofs.Common.{◌≡◌, ◌+◌, ◌<◌, ◌≤◌, ◌&&◌, ⊎_elim, ℕ, Bool, true, false, Some, None, List, length, take, get_or, ap, ◌∙◌, arith}
use Rattle.std.specs.List.{list_all, slice_get}
use Rattle.std.specs.Map.{keys_of}
use Rattle.std.specs.Option.{option_map}
use Rattle.std.proofs.lemmas.List.Folds.{list_all_at, list_all_more}
use Rattle.std.proofs.lemmas.Option.{get_or_from_slice_get, slice_get-map, slice_get_cases, slice_get_within}
use Rattle.core_definitions.specs.Flights.{Flight}
use Rattle.flight_laws.specs.Flights.{flight_of, flights_of}
use Rattle.petal_disk.specs.Flying.{InFlight}
use Rattle.petal_disk.specs.declared.flying.Flying.{Flying}
use Rattle.petal_disk.specs.declared.ticket.Ticket.{Ticket}

abbrev pub tickets : InFlight → List ℕ
tickets flying = keys_of (flights_of flying)

ticket_at : (flying : InFlight) (i : ℕ) (one : Ticket × Flying) → slice_get flying i ≡ Some one → slice_get (tickets flying) i ≡ Some one.0.0
ticket_at flying i one is =
    slice_get-map (λ (e : ℕ × Flight). e.0) (flights_of flying) i
    ∙ ap (option_map (λ (e : ℕ × Flight). e.0)) (slice_get-map (λ (one : Ticket × Flying). (one.0.0, flight_of one.1)) flying i ∙ ap (option_map (λ (one : Ticket × Flying). (one.0.0, flight_of one.1))) is)

module _ (passes : ℕ → Bool) (flying : InFlight) (i : ℕ) (one : Ticket × Flying) (is : slice_get flying i ≡ Some one) where
  within : i < length (tickets flying)
  within = slice_get_within (tickets flying) i one.0.0 (ticket_at flying i one is)

  here : get_or (tickets flying) i 0 ≡ one.0.0
  here = get_or_from_slice_get (tickets flying) i one.0.0 0 (ticket_at flying i one is)

  pub bars_all : passes one.0.0 ≡ false → list_all passes (tickets flying) ≡ false
  bars_all bars = list_all_at passes (tickets flying) i 0 within (ap passes here ∙ bars)

  pub one_more : list_all passes (take i (tickets flying)) ≡ true → passes one.0.0 ≡ true → list_all passes (take (i + 1) (tickets flying)) ≡ true
  one_more before passed = list_all_more passes (tickets flying) i 0 within ∙ ap (λ b. b && passes (get_or (tickets flying) i 0)) before ∙ ap passes here ∙ passed

-- there is one at each place below their count
pub past : (flying : InFlight) (i : ℕ) → slice_get flying i ≡ None → i < length flying → ⊥
past flying i none below = let end : length flying ≤ i = ⊎_elim (λ here. absurd (cc (here.2))) (λ after. after.0) (slice_get_cases flying i).1 in omega arith
