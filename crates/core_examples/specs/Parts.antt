-- A run in parts, where it is too long to be computed at once: what its first turns make, and that it goes on behind them. How far the first server's line has come may be
-- known for a turn: its plan is then not made for it again.
use Rattle.std.proofs.Common.{◌∙◌, ap, subst}
use Rattle.std.specs.Prelude.{◌≡◌, ◌++◌, ℕ, suc, not, false, if◌then◌else◌, Option, Some, None, List, [], ◌∷◌, drop, filter, map, refl}
use Rattle.sector_bytes.specs.SectorMaps.{value_at}
use Rattle.core_definitions.specs.Cores.{Core, parties, stage, writes}
use Rattle.core_definitions.specs.Lines.{Stage}
use Rattle.core_definitions.specs.Enabled.{enabled, enabled_among, party_at, party_of}
use Rattle.core_definitions.specs.Events.{Event, Arrive, Issue}
use Rattle.core_definitions.specs.Runs.{State, next}
use Rattle.core_examples.specs.Driving.{Driven, Story, behind, driven, driven_by, hears, is_log_get}
use Rattle.core_examples.specs.Stays.{arrival_stays, issue_stays}

-- a turn for each of these events, and so many more
abbrev pub turns_past : List Event → ℕ → ℕ
turns_past [] more = more
turns_past (event ∷ events) more = suc (turns_past events more)

-- what an event leaves, where no call fails; and what these leave
abbrev pub left_by_one : State → Event → State
left_by_one s event = next s event (hears (λ ticket. false) s event)

abbrev pub left_by : List Event → State → State
left_by [] s = s
left_by (event ∷ events) s = left_by events (left_by_one s event)

-- a run behind these events, and its story
abbrev pub behind_all : List Event → Driven → Driven
behind_all [] run = run
behind_all (event ∷ events) run = behind event (behind_all events run)

abbrev pub story_behind : List Event → Story → Story
story_behind events story = record { events = filter (λ event. not (is_log_get event)) events ++ story.events; said_lines = story.said_lines }

-- ---- where the first turns make these events, the run goes on from what they leave

abbrev first_or : Event → List Event → Event
first_or other [] = other
first_or other (event ∷ events) = event

abbrev rest_of : List Event → List Event
rest_of [] = []
rest_of (event ∷ events) = events

abbrev IsEmpty : List Event → Type 0
IsEmpty [] = Unit {0}
IsEmpty (event ∷ events) = ⊥

goes_on_among :
    (event : Event) (events : List Event) (more : ℕ) (s : State) →
    ((t : State) → (driven (turns_past events 0) t).events ≡ events → driven (turns_past events more) t ≡ behind_all events (driven more (left_by events t))) →
    (found : List Event) → (driven_by (λ ticket. false) (driven (turns_past events 0)) s found).events ≡ event ∷ events →
    driven_by (λ ticket. false) (driven (turns_past events more)) s found ≡ behind event (behind_all events (driven more (left_by events (left_by_one s event))))
goes_on_among event events more s later [] is = absurd (subst IsEmpty is tt)
goes_on_among event events more s later (first ∷ others) is =
    ap (behind first) (later (left_by_one s first) (ap rest_of is))
    ∙ ap (λ made. behind made (behind_all events (driven more (left_by events (left_by_one s made))))) (ap (first_or event) is)

pub a_run_goes_on :
    (events : List Event) (more : ℕ) (s : State) → (driven (turns_past events 0) s).events ≡ events →
    driven (turns_past events more) s ≡ behind_all events (driven more (left_by events s))
a_run_goes_on [] more s is = refl
a_run_goes_on (event ∷ events) more s is = goes_on_among event events more s (λ t made. a_run_goes_on events more t made) (enabled s.core) is

-- ---- where it is known how far the first server's line has come

-- what may happen then
abbrev pub enabled_at : Core → Option Stage → List Event
enabled_at c at = if c.over then [] else enabled_among c (party_at c 0 at ∷ map (party_of c) (drop 1 parties))

abbrev pub first_event : List Event → Option Event
first_event [] = None
first_event (event ∷ events) = Some event

-- the event comes first at such a turn
pub record ComesFirst (at : Option Stage) (s : State) (event : Event) : Type 0 where
  pub come : stage s.core 0 ≡ at
  pub first : first_event (enabled_at s.core at) ≡ Some event

by_first :
    (found : List Event) (event : Event) (more : ℕ) (s : State) → first_event found ≡ Some event →
    driven_by (λ ticket. false) (driven more) s found ≡ behind event (driven more (left_by_one s event))
by_first [] event more s is = absurd (cc)
by_first (first ∷ others) event more s is = ap (λ made. behind made (driven more (left_by_one s made))) (same is)
  where
    same : Some first ≡ Some event → first ≡ event
    same e = cc

pub a_turn_goes_on :
    (event : Event) (more : ℕ) (s : State) (at : Option Stage) → ComesFirst at s event → driven (suc more) s ≡ behind event (driven more (left_by_one s event))
a_turn_goes_on event more s at turn = by_first (enabled s.core) event more s (ap (λ o. first_event (enabled_at s.core o)) turn.come ∙ turn.first)

-- ---- while writes are issued and arrive

pub data IsOfWrite : Event → Type 0 where
  OfIssue : {a sector : ℕ} → IsOfWrite (Issue a sector)
  OfArrival : {ticket : ℕ} → IsOfWrite (Arrive ticket)

stays : (s : State) (event : Event) → IsOfWrite event → stage (left_by_one s event).core 0 ≡ stage s.core 0
stays s event (OfIssue {a = a} {sector = sector}) = issue_stays s.core a sector (value_at (writes s.core a) sector)
stays s event (OfArrival {ticket = ticket}) = arrival_stays s.core ticket (hears (λ ticket. false) s (Arrive ticket)) (value_at s.core.flights ticket)

-- each of these is one, and comes first at its turn
abbrev pub WritesCome : Option Stage → State → List Event → Type 0
WritesCome at s [] = Unit {0}
WritesCome at s (event ∷ events) = IsOfWrite event × (first_event (enabled_at s.core at) ≡ Some event) × WritesCome at (left_by_one s event) events

pub writes_go_on :
    (events : List Event) (more : ℕ) (s : State) (at : Option Stage) → stage s.core 0 ≡ at → WritesCome at s events →
    driven (turns_past events more) s ≡ behind_all events (driven more (left_by events s))
writes_go_on [] more s at come turns = refl
writes_go_on (event ∷ events) more s at come turns =
    a_turn_goes_on event (turns_past events more) s at (record { come = come; first = turns.1 })
    ∙ ap (behind event) (writes_go_on events more (left_by_one s event) at (stays s event turns.0 ∙ come) turns.2)

pub writes_stay : (events : List Event) (s : State) (at : Option Stage) → stage s.core 0 ≡ at → WritesCome at s events → stage (left_by events s).core 0 ≡ at
writes_stay [] s at come turns = come
writes_stay (event ∷ events) s at come turns = writes_stay events (left_by_one s event) at (stays s event turns.0 ∙ come) turns.2
