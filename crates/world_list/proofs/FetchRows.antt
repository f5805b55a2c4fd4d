-- The row of fetches of a party: what its line needs, and then the slots of its log.
use Rattle.std.proofs.Common.{◌≡◌, ℕ, true, false, ◌&&◌, List, ◌++◌, Option, map, sym, ap, ◌∙◌}
use Rattle.std.specs.Map.{keys_of}
use Rattle.tree_definitions.specs.Transcript.{is_mount}
use Rattle.core_definitions.specs.Cores.{stage}
use Rattle.core_definitions.specs.Enabled.{only_if}
use Rattle.core_definitions.specs.Events.{Event, Fetch}
use Rattle.core_definitions.specs.LineGuards.{is_server, needed_by, slots_under}
use Rattle.core_definitions.specs.Servers.{Server, asks, is_off}
use Rattle.hall_runs.specs.declared.event.Event.{Event as Named}
use Rattle.line_stages.proofs.StageWords.{needs_are}
use Rattle.line_stages.specs.Asked.{needs_of}
use Rattle.line_stages.specs.Stages.{IsStage}
use Rattle.line_stages.specs.declared.stage.Stage.{Stage as CodeStage}
use Rattle.log_slots.specs.Reading.{log_rules}
use Rattle.world_parties.specs.States.{server_of, servers_at}
use Rattle.world_parties.specs.declared.party.Party.{Party}
use Rattle.world_list.specs.Listing.{Adds, AddsOf, events_of}
use Rattle.world_list.specs.Over.{core_over}
use Rattle.world_list.specs.Rows.{party_events}
use Rattle.world_list.specs.declared.row.Row.TheVariants as rows
use Rattle.world_list.proofs.Behind.{and_then, none_more}
use Rattle.world_list.proofs.Fetching.{its_fetches, needed_keys, no_fetches}
use Rattle.world_list.proofs.RecoveryWants.{rules_are}
use Rattle.world_state.specs.States.{State, core_at}

-- what a stage needs
pub needs_added : (s : State) (a : ℕ) (party : Party) (code : Option CodeStage) (old new : List Named) → IsStage party.plan party.server.server code (stage (core_at s) a) → party.server.id ≡ a
    → Adds old new (map (Fetch party.server.id) (keys_of (needs_of party.server.server code))) → Adds old new (map (Fetch a) (needed_by (stage (core_at s) a)))
needs_added s a party code old new is number added =
    let keys : keys_of (needs_of party.server.server code) ≡ needed_by (stage (core_at s) a) = ap keys_of (needs_are party.plan party.server.server code (stage (core_at s) a) is) ∙ needed_keys (stage (core_at s) a) in
    added ∙ (λ j. events_of old ++ map (Fetch (number j)) (keys j))

module _ (s : State) (a : ℕ) where
  pub fetches_none : (list : List Named) → is_server a ≡ false → AddsOf list list (party_events s rows.Fetches a)
  unfolding party_events
  fetches_none list host tree = none_more (events_of list) ∙ ap (λ es. events_of list ++ es) (sym (no_fetches (core_over s tree) a host))

  abbrev slots_of : Server → List Event
  slots_of server = map (Fetch a) (only_if (is_off server.phase && asks is_mount server) (slots_under log_rules a server.under))

  pub fetches_added : (party : Party) → is_server a ≡ true → server_of party ≡ servers_at s.parties a → (l0 l1 l2 : List Named) → Adds l0 l1 (map (Fetch a) (needed_by (stage (core_at s) a))) → Adds l1 l2 (slots_of party.server.server)
      → AddsOf l0 l2 (party_events s rows.Fetches a)
  unfolding party_events
  fetches_added party server is l0 l1 l2 needs slots tree =
      let core_slots : Server → List Event = λ (one : Server). map (Fetch a) (only_if (is_off one.phase && asks is_mount one) (slots_under (core_at s).setting.logs a one.under)) in
      let same : slots_of party.server.server ≡ core_slots (servers_at s.parties a) = (λ j. map (Fetch a) (only_if (is_off (is j).phase && asks is_mount (is j)) (slots_under (sym rules_are j) a (is j).under))) in
      and_then (events_of l0) (events_of l1) (events_of l2) (map (Fetch a) (needed_by (stage (core_at s) a))) (slots_of party.server.server) needs slots
      ∙ ap (λ es. events_of l0 ++ es) (ap (λ es. map (Fetch a) (needed_by (stage (core_at s) a)) ++ es) same ∙ sym (its_fetches (core_over s tree) a server))
