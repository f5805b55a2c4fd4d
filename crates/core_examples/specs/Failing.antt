-- Runs in which calls fail: what is heard then, and an order in which a doom or an answer that may come comes at once.
use Rattle.std.specs.Prelude.{ℕ, zero, suc, Bool, true, false, Option, Some, None, List, [], find}
use Rattle.std.specs.List.{slice_get}
use Rattle.std.specs.Option.{option_or}
use Rattle.core_definitions.specs.Enabled.{enabled}
use Rattle.core_definitions.specs.Events.{Event, Answer, Doom, Arrive, Heard, Got, GetFailed, Written, PutFailed}
use Rattle.core_definitions.specs.Runs.{State, next}
use Rattle.core_examples.specs.Driving.{Driven, behind, hears}

-- ---- which calls fail

-- a get by its event; a put by its ticket, and whether it leaves the new block
pub record Failures : Type 0 where
  pub get : Event → Bool
  pub put : ℕ → Option Bool

-- no get, and no put
abbrev pub no_get : Event → Bool
no_get event = false

abbrev pub no_put : ℕ → Option Bool
no_put ticket = None

abbrev pub failing_get : Bool → Heard → Heard
failing_get true (Got block) = GetFailed
failing_get fails heard = heard

-- one that comes in time
abbrev pub failing_put : Option Bool → Heard → Heard
failing_put (Some new) Written = PutFailed new
failing_put fails heard = heard

abbrev pub hears_failing : Failures → State → Event → Heard
hears_failing failures s (Arrive ticket) = failing_put (failures.put ticket) (hears (λ other. false) s (Arrive ticket))
hears_failing failures s event = failing_get (failures.get event) (hears (λ other. false) s event)

-- ---- the order

abbrev pub is_prompt : Event → Bool
is_prompt (Answer a) = true
is_prompt (Doom a) = true
is_prompt event = false

abbrev pub prompt_first : List Event → Option Event
prompt_first events = option_or (find is_prompt events) (slice_get events 0)

-- ---- the run

abbrev pub made_failing : Failures → (State → Driven) → State → Option Event → Driven
made_failing failures onward s None = record { events = []; end = s }
made_failing failures onward s (Some event) = behind event (onward (next s event (hears_failing failures s event)))

-- so many turns
abbrev pub driven_promptly : Failures → ℕ → State → Driven
driven_promptly failures zero s = record { events = []; end = s }
driven_promptly failures (suc n) s = made_failing failures (driven_promptly failures n) s (prompt_first (enabled s.core))
