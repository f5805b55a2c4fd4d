-- Arrivals and losses, write by write in flight, are the core's.
use Rattle.std.proofs.Common.{◌≡◌, ℕ, ◌+◌, List, [], ◌∷◌, ◌++◌, Option, Some, None, drop, length, map, refl, sym, ap, ◌∙◌}
use Rattle.std.specs.List.{flat_map, slice_get}
use Rattle.std.specs.Option.{option_to_list}
use Rattle.std.proofs.lemmas.List.{append-nil}
use Rattle.std.specs.Map.{keys_of}
use Rattle.core_definitions.specs.Events.{Event, Arrive}
use Rattle.flight_laws.specs.Flights.{flights_of}
use Rattle.hall_runs.specs.declared.event.Event.{Event as Named}
use Rattle.host_tree.specs.Reading.{HostReading}
use Rattle.petal_disk.specs.Flying.{InFlight}
use Rattle.petal_disk.specs.Flights.{Flights}
use Rattle.world_list.specs.Listing.{AddsOf, events_of}
use Rattle.world_list.specs.Rows.{arrive_events, lose_events, lose_of}
use Rattle.world_list.proofs.Flown.{none_listed, of_tickets, one_listed}
use Rattle.world_state.specs.States.{State}

arrivals : (flights : InFlight) → flat_map (λ one. Arrive one.0.0 ∷ []) flights ≡ map Arrive (keys_of (flights_of flights))
arrivals [] = refl
arrivals (one ∷ flights) = ap (λ es. Arrive one.0.0 ∷ es) (arrivals flights)

pub arrives_are : (s : State) (tree : HostReading) → flat_map (λ one. Arrive one.0.0 ∷ []) s.flights.flying ≡ arrive_events s tree
unfolding arrive_events
arrives_are s tree = arrivals s.flights.flying

pub loses_are : (s : State) (tree : HostReading) → flat_map (λ one. lose_of s one.0.0) s.flights.flying ≡ lose_events s tree
unfolding lose_events lose_of
loses_are s tree = sym (of_tickets (lose_of s) s.flights.flying)

-- ---- place by place

module _ {X : Type 0} (f : X → List Event) (xs : List X) where
  pub place_listed : (a b c : List Event) (i : ℕ) → b ++ flat_map f (drop i xs) ≡ a ++ flat_map f xs → c ≡ b ++ flat_map f (option_to_list (slice_get xs i)) → c ++ flat_map f (drop (i + 1) xs) ≡ a ++ flat_map f xs
  place_listed a b c i before now = go (slice_get xs i) refl now
    where
      go : (o : Option X) → slice_get xs i ≡ o → c ≡ b ++ flat_map f (option_to_list o) → c ++ flat_map f (drop (i + 1) xs) ≡ a ++ flat_map f xs
      go None at now = ap (λ es. es ++ flat_map f (drop (i + 1) xs)) (now ∙ append-nil b) ∙ none_listed f xs a b i at before
      go (Some x) at now = one_listed f xs a b c i x at before (now ∙ ap (λ es. b ++ es) (append-nil (f x)))

  pub all_listed : (a b : List Event) (i : ℕ) → i ≡ length xs → b ++ flat_map f (drop i xs) ≡ a ++ flat_map f xs → b ≡ a ++ flat_map f xs
  all_listed a b i all before = sym (append-nil b) ∙ ap (λ ys. b ++ flat_map f ys) (sym (past_all xs)) ∙ ap (λ n. b ++ flat_map f (drop n xs)) (sym all) ∙ before
    where
      past_all : (ys : List X) → drop (length ys) ys ≡ []
      past_all [] = refl
      past_all (y ∷ ys) = past_all ys

module _ (s : State) (flights : Flights) (same : flights ≡ s.flights) (old new : List Named) (i : ℕ) (all : i ≡ length flights.flying) where
  pub arrives_added : events_of new ++ flat_map (λ one. Arrive one.0.0 ∷ []) (drop i flights.flying) ≡ events_of old ++ flat_map (λ one. Arrive one.0.0 ∷ []) flights.flying → AddsOf old new (arrive_events s)
  arrives_added left tree =
      all_listed (λ one. Arrive one.0.0 ∷ []) flights.flying (events_of old) (events_of new) i all left
      ∙ ap (λ (fs : Flights). events_of old ++ flat_map (λ one. Arrive one.0.0 ∷ []) fs.flying) same ∙ ap (λ es. events_of old ++ es) (arrives_are s tree)

  pub loses_added : events_of new ++ flat_map (λ one. lose_of s one.0.0) (drop i flights.flying) ≡ events_of old ++ flat_map (λ one. lose_of s one.0.0) flights.flying → AddsOf old new (lose_events s)
  loses_added left tree =
      all_listed (λ one. lose_of s one.0.0) flights.flying (events_of old) (events_of new) i all left
      ∙ ap (λ (fs : Flights). events_of old ++ flat_map (λ one. lose_of s one.0.0) fs.flying) same ∙ ap (λ es. events_of old ++ es) (loses_are s tree)
