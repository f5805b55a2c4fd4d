-- The rows one behind another are the core's list.
use Rattle.std.proofs.Common.{◌≡◌, Bool, false, if◌then◌else◌, List, [], ◌++◌, sym, ap, ◌∙◌}
use Rattle.core_definitions.specs.Cores.{Core}
use Rattle.core_definitions.specs.Enabled.{after_tick, all_parties, before_tick, enabled, enabled_among, may_tick, only, row_by_row}
use Rattle.core_definitions.specs.Events.{Event, Tick}
use Rattle.host_tree.specs.Reading.{HostReading}
use Rattle.hall_runs.specs.Asking.{event_of}
use Rattle.hall_runs.specs.declared.event.Event.{Event as Named}
use Rattle.std.proofs.lemmas.List.{map-append}
use Rattle.world_list.specs.Listing.{Adds, AddsOf, events_of}
use Rattle.world_list.specs.Over.{core_over}
use Rattle.world_list.specs.Rows.{arrive_events, end_events, end_rows, host_events, line_rows, lose_events, read_events, recover_events, recovery_rows, row_events, show_events, write_rows}
use Rattle.world_list.proofs.Ticking.{rows_then}
use Rattle.world_state.specs.States.{State}

module _ (s : State) (tree : HostReading) where
  pub before_are : row_by_row (line_rows s tree) ++ row_by_row (write_rows s tree) ≡ before_tick (core_over s tree) (all_parties (core_over s tree))
  unfolding row_events arrive_events lose_events
  before_are = rows_then (line_rows s tree) (write_rows s tree)

  pub after_are : row_by_row (recovery_rows s tree) ++ row_by_row (end_rows s tree) ≡ after_tick (core_over s tree) (all_parties (core_over s tree))
  unfolding row_events recover_events host_events read_events show_events end_events
  after_are = rows_then (recovery_rows s tree) (end_rows s tree)

-- with the tick between them
pub enabled_are : (c : Core) (before behind ticked : List Event) (ticks : Bool) → c.over ≡ false → before ≡ before_tick c (all_parties c) → behind ≡ after_tick c (all_parties c) → ticks ≡ may_tick c (before ++ behind)
    → ticked ≡ before ++ only ticks Tick → ticked ++ behind ≡ enabled c
enabled_are c before behind ticked ticks going is_before is_behind is_ticks is_ticked =
    ap (λ es. es ++ behind) is_ticked ∙ ap (λ b. before ++ only b Tick ++ behind) is_ticks
    ∙ (λ j. is_before j ++ only (may_tick c (is_before j ++ is_behind j)) Tick ++ is_behind j)
    ∙ sym (ap (λ (over : Bool). if over then [] else enabled_among c (all_parties c)) going)

module _ (s : State) where
  pub before_listed : (l0 l1 l2 : List Named) → l0 ≡ [] → AddsOf l0 l1 (λ tree. row_by_row (line_rows s tree)) → AddsOf l1 l2 (λ tree. row_by_row (write_rows s tree)) → (tree : HostReading)
      → events_of l2 ≡ before_tick (core_over s tree) (all_parties (core_over s tree))
  before_listed l0 l1 l2 empty first second tree =
      second tree ∙ ap (λ es. es ++ row_by_row (write_rows s tree)) (first tree ∙ ap (λ (l : List Named). events_of l ++ row_by_row (line_rows s tree)) empty) ∙ before_are s tree

  pub after_listed : (tree : HostReading) (l0 l1 l2 : List Named) → l0 ≡ [] → AddsOf l0 l1 (λ tree. row_by_row (recovery_rows s tree)) → Adds l1 l2 (row_by_row (end_rows s tree))
      → events_of l2 ≡ after_tick (core_over s tree) (all_parties (core_over s tree))
  after_listed tree l0 l1 l2 empty first second =
      second ∙ ap (λ es. es ++ row_by_row (end_rows s tree)) (first tree ∙ ap (λ (l : List Named). events_of l ++ row_by_row (recovery_rows s tree)) empty) ∙ after_are s tree

  pub all_listed : (tree : HostReading) (before behind ticked all : List Named) (ticks : Bool) → s.over ≡ false → events_of before ≡ before_tick (core_over s tree) (all_parties (core_over s tree))
      → events_of behind ≡ after_tick (core_over s tree) (all_parties (core_over s tree)) → ticks ≡ may_tick (core_over s tree) (events_of before ++ events_of behind) → Adds before ticked (only ticks Tick)
      → all ≡ ticked ++ behind → events_of all ≡ enabled (core_over s tree)
  all_listed tree before behind ticked all ticks going is_before is_behind is_ticks is_ticked joined =
      ap events_of joined ∙ map-append event_of ticked behind
      ∙ enabled_are (core_over s tree) (events_of before) (events_of behind) (events_of ticked) ticks going is_before is_behind is_ticks is_ticked
