-- Whether a test passes for all events of a list, gone through from the front.
use Rattle.std.proofs.Common.{◌≡◌, ◌<◌, ℕ, ◌+◌, Bool, true, false, ◌&&◌, List, [], ◌∷◌, drop, get_or, length, refl, sym, ap, ◌∙◌, add-one, drop-cons}
use Rattle.std.specs.List.{list_all}
use Rattle.core_definitions.specs.Events.{Event}
use Rattle.hall_runs.specs.Asking.{event_of}
use Rattle.hall_runs.specs.declared.event.Event.{Event as Named}
use Rattle.world_list.specs.Listing.{events_of}

module _ (test : Event → Bool) (xs : List Named) (i : ℕ) where
  -- those from a place on are the one there and those behind it
  one_of : (e : Named) → i < length xs → list_all test (events_of (drop i xs)) ≡ (test (event_of (get_or xs i e)) && list_all test (events_of (drop (i + 1) xs)))
  one_of e within = ap (λ ys. list_all test (events_of ys)) (drop-cons xs i e within) ∙ ap (λ n. test (event_of (get_or xs i e)) && list_all test (events_of (drop n xs))) (sym (add-one i))

  -- one that fails
  pub one_fails : (e : Named) → i < length xs → test (event_of (get_or xs i e)) ≡ false → list_all test (events_of (drop i xs)) ≡ list_all test (events_of xs) → false ≡ list_all test (events_of xs)
  one_fails e within fails left = sym (ap (λ b. b && list_all test (events_of (drop (i + 1) xs))) fails) ∙ sym (one_of e within) ∙ left

  -- one that passes
  pub one_passes : (e : Named) → i < length xs → test (event_of (get_or xs i e)) ≡ true → list_all test (events_of (drop i xs)) ≡ list_all test (events_of xs)
      → list_all test (events_of (drop (i + 1) xs)) ≡ list_all test (events_of xs)
  one_passes e within passes left = sym (ap (λ b. b && list_all test (events_of (drop (i + 1) xs))) passes) ∙ sym (one_of e within) ∙ left

  -- none is left
  pub all_pass : i ≡ length xs → list_all test (events_of (drop i xs)) ≡ list_all test (events_of xs) → true ≡ list_all test (events_of xs)
  all_pass all left = sym (ap (λ n. list_all test (events_of (drop n xs))) all ∙ ap (λ ys. list_all test (events_of ys)) (past_all xs)) ∙ left
    where
      past_all : (ys : List Named) → drop (length ys) ys ≡ []
      past_all [] = refl
      past_all (y ∷ ys) = past_all ys
