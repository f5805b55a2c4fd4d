-- Rows that are put behind a list party by party.
use Rattle.std.proofs.Common.{◌≡◌, ℕ, ◌+◌, Bool, List, ◌++◌, sym, ap, ◌∙◌}
use Rattle.std.specs.List.{flat_map}
use Rattle.std.proofs.lemmas.List.{append_assoc}
use Rattle.tree_definitions.specs.Numbers.{below}
use Rattle.core_definitions.specs.Cores.{parties}
use Rattle.core_definitions.specs.Enabled.{only}
use Rattle.core_definitions.specs.EndGuards.{may_recover}
use Rattle.core_definitions.specs.Events.{Event, Recover}
use Rattle.core_definitions.specs.Scripts.{host_party}
use Rattle.hall_runs.specs.declared.event.Event.{Event as Named}
use Rattle.world_list.specs.Listing.{Adds, AddsOf, events_of}
use Rattle.world_list.specs.Over.{core_over}
use Rattle.world_list.specs.Rows.{of_party, party_events, recover_events, row_events}
use Rattle.world_list.specs.declared.row.Row.{Row}
use Rattle.world_list.proofs.Behind.{next_more}
use Rattle.world_list.proofs.PartyRows.{over_all, over_parties}
use Rattle.world_state.specs.States.{State, core_at}

module _ (s : State) (row : Row) (old mid new : List Named) where
  -- the next server
  pub party_added : (n : ℕ) → AddsOf old mid (λ tree. flat_map (λ a. party_events s row a tree) (below n)) → AddsOf mid new (party_events s row n) → AddsOf old new (λ tree. flat_map (λ a. party_events s row a tree) (below (n + 1)))
  party_added n before now tree = next_more (λ a. party_events s row a tree) (events_of old) (events_of mid) (events_of new) n (before tree) (now tree)

  -- and the host
  pub row_added : AddsOf old mid (λ tree. flat_map (λ a. party_events s row a tree) (below 16)) → AddsOf mid new (party_events s row host_party) → AddsOf old new (row_events s row)
  unfolding row_events party_events
  row_added before now tree =
      now tree ∙ ap (λ es. es ++ party_events s row host_party tree) (before tree) ∙ append_assoc (events_of old) (flat_map (λ a. party_events s row a tree) (below 16)) (party_events s row host_party tree)
      ∙ ap (λ es. events_of old ++ es) (sym (over_all (core_over s tree) (of_party (core_over s tree) row)))

-- recoveries of one log, by each server, and then by the host
module _ (s : State) (dead : ℕ) (old mid new : List Named) where
  abbrev taken : ℕ → List Event
  taken by = only (may_recover (core_at s) dead by) (Recover dead by)

  -- by the next server
  pub recover_more : (n : ℕ) (may : Bool) → may ≡ may_recover (core_at s) dead n → Adds old mid (flat_map (λ by. only (may_recover (core_at s) dead by) (Recover dead by)) (below n)) → Adds mid new (only may (Recover dead n))
      → Adds old new (flat_map (λ by. only (may_recover (core_at s) dead by) (Recover dead by)) (below (n + 1)))
  recover_more n may is before now = next_more taken (events_of old) (events_of mid) (events_of new) n before (now ∙ ap (λ b. events_of mid ++ only b (Recover dead n)) is)

  -- by the host
  pub recover_added : (may : Bool) → may ≡ may_recover (core_at s) dead host_party → Adds old mid (flat_map (λ by. only (may_recover (core_at s) dead by) (Recover dead by)) (below 16)) → Adds mid new (only may (Recover dead host_party))
      → Adds old new (flat_map (λ by. only (may_recover (core_at s) dead by) (Recover dead by)) parties)
  recover_added may is before now =
      now ∙ ap (λ b. events_of mid ++ only b (Recover dead host_party)) is ∙ ap (λ es. es ++ taken host_party) before ∙ append_assoc (events_of old) (flat_map taken (below 16)) (taken host_party)
      ∙ ap (λ es. events_of old ++ es) (sym (over_parties taken))

-- recoveries of all logs, one after the other
module _ (s : State) (old mid new : List Named) where
  abbrev all_taken : ℕ → List Event
  all_taken dead = flat_map (λ by. only (may_recover (core_at s) dead by) (Recover dead by)) parties

  pub recovers_more : (n : ℕ) → Adds old mid (flat_map (λ dead. flat_map (λ by. only (may_recover (core_at s) dead by) (Recover dead by)) parties) (below n))
      → Adds mid new (flat_map (λ by. only (may_recover (core_at s) n by) (Recover n by)) parties) → Adds old new (flat_map (λ dead. flat_map (λ by. only (may_recover (core_at s) dead by) (Recover dead by)) parties) (below (n + 1)))
  recovers_more n before now = next_more all_taken (events_of old) (events_of mid) (events_of new) n before now

pub recovers_added : (s : State) (old new : List Named) (n : ℕ) → n ≡ 16 → Adds old new (flat_map (λ dead. flat_map (λ by. only (may_recover (core_at s) dead by) (Recover dead by)) parties) (below n)) → AddsOf old new (recover_events s)
unfolding recover_events
recovers_added s old new n all added tree = added ∙ ap (λ m. events_of old ++ flat_map (λ dead. flat_map (λ by. only (may_recover (core_at s) dead by) (Recover dead by)) parties) (below m)) all
