-- The lock that a party asks for next and the block that it clears next are what the core lists.
use Rattle.std.proofs.Common.{◌≡◌, ℕ, Bool, true, false, not, ◌&&◌, ◌||◌, if◌then◌else◌, List, [], ◌∷◌, ◌++◌, Option, Some, None, is_some, refl, sym, ap, ◌∙◌}
use Rattle.disk_definitions.specs.Plans.{Lock}
use Rattle.core_definitions.specs.Cores.{Core}
use Rattle.core_definitions.specs.Enabled.{asks_at, clears_at, only}
use Rattle.core_definitions.specs.Events.{Event, Ask, Clear}
use Rattle.core_definitions.specs.LineGuards.{is_new_wish, is_server}
use Rattle.core_definitions.specs.Lines.{Stage, Asking, Fetching, Moving, Stopping, Growing, Clearing, Finishing}
use Rattle.line_stages.specs.Stages.{asked_next, cleared_next}
use Rattle.core_definitions.specs.Cores.{clean_at, due_at, stage}
use Rattle.core_definitions.specs.LineGuards.{done_by, has_room_for, is_grown, is_moved, may_again, may_answer, may_commit, may_reclaim}
use Rattle.core_definitions.specs.Logs.{is_none}
use Rattle.core_definitions.specs.WriteGuards.{is_crashing, is_faulted, is_held_back, is_past_lease, may_doom}
use Rattle.core_definitions.specs.Writes.{Writes}
use Rattle.hall_runs.specs.declared.event.Event.{Event as Named}
use Rattle.world_asks.specs.Asking.{Asked}
use Rattle.world_list.specs.Listing.{Adds, AddsOf, events_of}
use Rattle.world_list.specs.Over.{core_over}
use Rattle.world_list.specs.Rows.{party_events}
use Rattle.world_list.specs.declared.row.Row.TheVariants as rows
use Rattle.world_state.specs.States.{State, core_at}

-- ---- asks

abbrev pub ask_of : ℕ → Option Lock → List Event
ask_of a None = []
ask_of a (Some need) = Ask a need.0 need.1 ∷ []

none_asked : (a : ℕ) (b : Bool) → ask_of a (if b then None else None) ≡ []
none_asked a true = refl
none_asked a false = refl

pub asks_are : (c : Core) (a : ℕ) (at : Option Stage) → asks_at c a at ≡ ask_of a (if is_server a then asked_next c.locks a at else None)
asks_are c a None = sym (none_asked a (is_server a))
asks_are c a (Some (Asking need)) = go (is_server a) (is_new_wish c a need.0 need.1)
  where
    go : (server new : Bool) → only (server && new) (Ask a need.0 need.1) ≡ ask_of a (if server then if new then Some need else None else None)
    go true true = refl
    go true false = refl
    go false new = refl
asks_are c a (Some (Fetching needs)) = sym (none_asked a (is_server a))
asks_are c a (Some Moving) = sym (none_asked a (is_server a))
asks_are c a (Some Stopping) = sym (none_asked a (is_server a))
asks_are c a (Some (Growing needs seen)) = sym (none_asked a (is_server a))
asks_are c a (Some (Clearing block)) = sym (none_asked a (is_server a))
asks_are c a (Some (Finishing outcome)) = sym (none_asked a (is_server a))

-- ---- clears

abbrev pub clear_of : ℕ → Option ℕ → List Event
clear_of a None = []
clear_of a (Some block) = Clear a block ∷ []

none_cleared : (a : ℕ) (b : Bool) → clear_of a (if b then None else None) ≡ []
none_cleared a true = refl
none_cleared a false = refl

pub clears_are : (a : ℕ) (at : Option Stage) → clears_at a at ≡ clear_of a (if is_server a then cleared_next at else None)
clears_are a None = sym (none_cleared a (is_server a))
clears_are a (Some (Asking need)) = sym (none_cleared a (is_server a))
clears_are a (Some (Fetching needs)) = sym (none_cleared a (is_server a))
clears_are a (Some Moving) = sym (none_cleared a (is_server a))
clears_are a (Some Stopping) = sym (none_cleared a (is_server a))
clears_are a (Some (Growing needs seen)) = sym (none_cleared a (is_server a))
clears_are a (Some (Clearing block)) = go (is_server a)
  where
    go : (server : Bool) → only server (Clear a block) ≡ clear_of a (if server then Some block else None)
    go true = refl
    go false = refl
clears_are a (Some (Finishing outcome)) = sym (none_cleared a (is_server a))

-- ---- of a world

-- what is said of a server that is asked is said of the world
pub of_asked : {X : Type 0} (f : State → ℕ → X) (asked : Asked) (s : State) (a : ℕ) → asked.world ≡ s → asked.number ≡ a → f asked.world asked.number ≡ f s a
of_asked f asked s a world number = λ j. f (world j) (number j)

module _ (s : State) (a : ℕ) (old new : List Named) where
  pub ask_row : (need : Option Lock) → need ≡ (if is_server a then asked_next (core_at s).locks a (stage (core_at s) a) else None) → Adds old new (ask_of a need) → AddsOf old new (party_events s rows.Asks a)
  unfolding party_events
  ask_row need is added tree = added ∙ ap (λ es. events_of old ++ es) (ap (ask_of a) is ∙ sym (asks_are (core_over s tree) a (stage (core_over s tree) a)))

  pub clear_row : (block : Option ℕ) → block ≡ (if is_server a then cleared_next (stage (core_at s) a) else None) → Adds old new (clear_of a block) → AddsOf old new (party_events s rows.Clears a)
  unfolding party_events
  clear_row block is added tree = added ∙ ap (λ es. events_of old ++ es) (ap (clear_of a) is ∙ sym (clears_are a (stage (core_over s tree) a)))

-- ---- of the host

module _ (c : Core) (a : ℕ) (off : is_server a ≡ false) where
  pub never_again : (at : Option Stage) → false ≡ may_again c a at
  never_again at = sym (ap (λ b. b && (is_moved at || is_grown at || may_reclaim c.setting.logs (c.servers a) at) && not (c.servers a).failed) off)

  pub never_commits : (at : Option Stage) → false ≡ may_commit c a at
  never_commits at = sym (ap (λ b. b && is_some (done_by at) && is_none (c.servers a).pending && has_room_for c.setting.logs (c.servers a) (done_by at)) off)

  pub never_answers : false ≡ may_answer c a
  never_answers = sym (ap (λ b. b && is_some (due_at c a)) off)

  pub never_doomed : (all : Writes) → false ≡ may_doom c a all
  never_doomed all = sym (ap (λ b. b && (is_crashing (c.servers a) || is_held_back c a all || (is_past_lease c a && not (clean_at c a)) || is_faulted (c.servers a))) off)
