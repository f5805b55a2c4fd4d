-- An event that is drawn among those that may happen may happen, and where none is drawn none may.
use Rattle.std.proofs.Common.{ℕ, ◌≡◌, ◌%◌, ◌<◌, IfOk, IfSome, Result, Ok, Option, Some, None, List, length, get_or, sym, ◌∙◌, arith}
use Rattle.std.specs.List.{Contains, slice_get}
use Rattle.std.specs.Option.{option_map}
use Rattle.std.proofs.lemmas.Option.{get_or_from_slice_get, slice_get-get_or, slice_get_within}
use Rattle.std.proofs.lemmas.Result.{IfOk-at_ok, IfOk-weaker}
use Rattle.core_definitions.specs.Cores.{Core}
use Rattle.core_definitions.specs.Enabled.{enabled}
use Rattle.core_definitions.specs.Events.{Event}
use Rattle.core_definitions.specs.Guards.{Can}
use Rattle.core_laws.proofs.Exact.{enabled_listed, enabled_only}
use Rattle.core_laws.proofs.Membership.{contains_in, in_contains}
use Rattle.hall_runs.specs.Asking.{event_of}
use Rattle.hall_runs.specs.declared.event.Event.{Event as Named}
use Rattle.frang_world.specs.Picks.{drawn_from}

module _ {X : Type 0} where
  there_below : (xs : List X) (k : ℕ) (x : X) → slice_get xs k ≡ Some x → Contains xs x
  there_below xs k x at = (k, slice_get_within xs k x at, get_or_from_slice_get xs k x x at)

  -- a list that has something has something at every place below its end, wherever a draw begins anew
  drawn_there : (xs : List X) (draw : ℕ) (x : X) → Contains xs x → slice_get xs (draw % length xs) ≡ None → ⊥
  drawn_there xs draw x has none =
      let some : 0 < length xs = omega (arith, has.1) in
      let within : draw % length xs < length xs = omega arith in
      let at : slice_get xs (draw % length xs) ≡ Some (get_or xs (draw % length xs) x) = slice_get-get_or xs (draw % length xs) x within in
      let same : Some (get_or xs (draw % length xs) x) ≡ None = sym at ∙ none in
      absurd (cc)

module _ (c : Core) where
  drawn_can : (place : ℕ) (event : Event) → slice_get (enabled c) place ≡ Some event → Can c event
  drawn_can place event at = enabled_only c event (contains_in (enabled c) event (there_below (enabled c) place event at))

  none_drawn : (draw : ℕ) → slice_get (enabled c) (draw % length (enabled c)) ≡ None → (event : Event) → Can c event → ⊥
  none_drawn draw none event can = drawn_there (enabled c) draw event (in_contains (enabled c) event (enabled_listed c event can)) none

-- ---- what was drawn, by its name

abbrev IsDrawn : Core → ℕ → Option Named → Type 0
IsDrawn c draw found = option_map event_of found ≡ slice_get (enabled c) (draw % length (enabled c))

found_can : (c : Core) (draw : ℕ) (found : Option Named) → IsDrawn c draw found → IfSome found (λ event. Can c (event_of event))
found_can c draw None is = tt
found_can c draw (Some event) is = drawn_can c (draw % length (enabled c)) (event_of event) (sym is)

found_drawn : (c : Core) (draw : ℕ) (found : Option Named) → IsDrawn c draw found → IfSome found (λ event. drawn_from (enabled c) draw ≡ Some (event_of event))
found_drawn c draw None is = tt
found_drawn c draw (Some event) is = sym is

module _ {E : Type 0} (c : Core) (draw : ℕ) (result : Result (Option Named) E) (drawn : IfOk result (λ found. option_map event_of found ≡ slice_get (enabled c) (draw % length (enabled c)))) where
  pub all_can : IfOk result (λ found. IfSome found (λ event. Can c (event_of event)))
  all_can = IfOk-weaker result (IsDrawn c draw) (λ found. IfSome found (λ event. Can c (event_of event))) (found_can c draw) drawn

  pub all_drawn : IfOk result (λ found. IfSome found (λ event. drawn_from (enabled c) draw ≡ Some (event_of event)))
  all_drawn = IfOk-weaker result (IsDrawn c draw) (λ found. IfSome found (λ event. drawn_from (enabled c) draw ≡ Some (event_of event))) (found_drawn c draw) drawn

  pub none_can : result ≡ Ok None → (event : Event) → Can c event → ⊥
  none_can is = none_drawn c draw (sym (IfOk-at_ok (IsDrawn c draw) is drawn))
