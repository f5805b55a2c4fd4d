-- Rows that are put behind a list one after the other.
use Rattle.std.proofs.Common.{List, [], ◌++◌, drop, ap, ◌∙◌}
use Rattle.core_definitions.specs.Enabled.{row_by_row}
use Rattle.core_definitions.specs.Events.{Event}
use Rattle.hall_runs.specs.declared.event.Event.{Event as Named}
use Rattle.host_tree.specs.Reading.{HostReading}
use Rattle.world_list.specs.Listing.{Adds, AddsOf, events_of}
use Rattle.world_list.specs.Rows.{arrive_events, end_events, end_rows, host_events, line_rows, lose_events, read_events, recover_events, recovery_rows, row_events, show_events, write_rows}
use Rattle.world_list.specs.declared.row.Row.TheVariants as rows
use Rattle.world_list.proofs.Behind.{and_then, none_more}
use Rattle.world_state.specs.States.{State}

then_row : (row rest : List Event) (old mid new : List Named) → Adds old mid row → Adds mid new rest → Adds old new (row ++ rest)
then_row row rest old mid new first last = and_then (events_of old) (events_of mid) (events_of new) row rest first last

last_row : (row : List Event) (old new : List Named) → Adds old new row → Adds old new (row ++ [])
last_row row old new added = added ∙ ap (λ es. events_of old ++ es) (none_more row)

module _ (s : State) where
  pub lines_added : (l0 l1 l2 l3 l4 l5 l6 l7 : List Named) → AddsOf l0 l1 (row_events s rows.Begins) → AddsOf l1 l2 (row_events s rows.Asks) → AddsOf l2 l3 (row_events s rows.Fetches) → AddsOf l3 l4 (row_events s rows.Agains)
      → AddsOf l4 l5 (row_events s rows.Clears) → AddsOf l5 l6 (row_events s rows.Commits) → AddsOf l6 l7 (row_events s rows.Answers) → AddsOf l0 l7 (λ tree. row_by_row (line_rows s tree))
  lines_added l0 l1 l2 l3 l4 l5 l6 l7 begins asks fetches agains clears commits answers tree =
      let all : List (List Event) = line_rows s tree in
      then_row (row_events s rows.Begins tree) (row_by_row (drop 1 all)) l0 l1 l7 (begins tree)
      (then_row (row_events s rows.Asks tree) (row_by_row (drop 2 all)) l1 l2 l7 (asks tree)
      (then_row (row_events s rows.Fetches tree) (row_by_row (drop 3 all)) l2 l3 l7 (fetches tree)
      (then_row (row_events s rows.Agains tree) (row_by_row (drop 4 all)) l3 l4 l7 (agains tree)
      (then_row (row_events s rows.Clears tree) (row_by_row (drop 5 all)) l4 l5 l7 (clears tree)
      (then_row (row_events s rows.Commits tree) (row_by_row (drop 6 all)) l5 l6 l7 (commits tree) (last_row (row_events s rows.Answers tree) l6 l7 (answers tree)))))))

  pub writes_added : (l0 l1 l2 l3 l4 l5 l6 l7 l8 : List Named) → AddsOf l0 l1 (row_events s rows.Gives) → AddsOf l1 l2 (row_events s rows.Issues) → AddsOf l2 l3 (row_events s rows.Dooms) → AddsOf l3 l4 (row_events s rows.Resumes)
      → AddsOf l4 l5 (arrive_events s) → AddsOf l5 l6 (lose_events s) → AddsOf l6 l7 (row_events s rows.Dies) → AddsOf l7 l8 (row_events s rows.Renews) → AddsOf l0 l8 (λ tree. row_by_row (write_rows s tree))
  writes_added l0 l1 l2 l3 l4 l5 l6 l7 l8 gives issues dooms resumes arrives loses dies renews tree =
      let all : List (List Event) = write_rows s tree in
      then_row (row_events s rows.Gives tree) (row_by_row (drop 1 all)) l0 l1 l8 (gives tree)
      (then_row (row_events s rows.Issues tree) (row_by_row (drop 2 all)) l1 l2 l8 (issues tree)
      (then_row (row_events s rows.Dooms tree) (row_by_row (drop 3 all)) l2 l3 l8 (dooms tree)
      (then_row (row_events s rows.Resumes tree) (row_by_row (drop 4 all)) l3 l4 l8 (resumes tree)
      (then_row (arrive_events s tree) (row_by_row (drop 5 all)) l4 l5 l8 (arrives tree)
      (then_row (lose_events s tree) (row_by_row (drop 6 all)) l5 l6 l8 (loses tree)
      (then_row (row_events s rows.Dies tree) (row_by_row (drop 7 all)) l6 l7 l8 (dies tree) (last_row (row_events s rows.Renews tree) l7 l8 (renews tree))))))))

  pub recoveries_added : (l0 l1 l2 l3 l4 : List Named) → AddsOf l0 l1 (recover_events s) → AddsOf l1 l2 (row_events s rows.Loads) → AddsOf l2 l3 (row_events s rows.Looks) → AddsOf l3 l4 (row_events s rows.Finishes)
      → AddsOf l0 l4 (λ tree. row_by_row (recovery_rows s tree))
  recoveries_added l0 l1 l2 l3 l4 recovers loads looks finishes tree =
      let all : List (List Event) = recovery_rows s tree in
      then_row (recover_events s tree) (row_by_row (drop 1 all)) l0 l1 l4 (recovers tree)
      (then_row (row_events s rows.Loads tree) (row_by_row (drop 2 all)) l1 l2 l4 (loads tree)
      (then_row (row_events s rows.Looks tree) (row_by_row (drop 3 all)) l2 l3 l4 (looks tree) (last_row (row_events s rows.Finishes tree) l3 l4 (finishes tree))))

  pub ends_added : (tree : HostReading) (l0 l1 l2 l3 l4 l5 : List Named) → AddsOf l0 l1 (host_events s) → AddsOf l1 l2 (row_events s rows.Closes) → Adds l2 l3 (read_events s tree) → Adds l3 l4 (show_events s tree)
      → Adds l4 l5 (end_events s tree) → Adds l0 l5 (row_by_row (end_rows s tree))
  ends_added tree l0 l1 l2 l3 l4 l5 hosts closes reads shows ends =
      let all : List (List Event) = end_rows s tree in
      then_row (host_events s tree) (row_by_row (drop 1 all)) l0 l1 l5 (hosts tree)
      (then_row (row_events s rows.Closes tree) (row_by_row (drop 2 all)) l1 l2 l5 (closes tree)
      (then_row (read_events s tree) (row_by_row (drop 3 all)) l2 l3 l5 reads
      (then_row (show_events s tree) (row_by_row (drop 4 all)) l3 l4 l5 shows (last_row (end_events s tree) l4 l5 ends))))
