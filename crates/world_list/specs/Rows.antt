-- The rows of the core's list: those that go over all parties, party by party, and the others; each whatever the host has read and said of the tree.
use Rattle.std.specs.Prelude.{ℕ, List, [], ◌∷◌}
use Rattle.std.specs.List.{flat_map}
use Rattle.sector_bytes.specs.SectorMaps.{value_at}
use Rattle.core_definitions.specs.Cores.{Core, next_of}
use Rattle.core_definitions.specs.Enabled.{Party, agains, all_parties, answers, arrives, asks_of, begins, clears, closes, commits, dies, dooms, ends, fetches, finishes, gives, host_line, issues, loads, looks, loses, only, party_of, reads, recovers, renews, resumes, shows}
use Rattle.core_definitions.specs.Events.{Event, Lose}
use Rattle.core_definitions.specs.Scripts.{host_party}
use Rattle.core_definitions.specs.WriteGuards.{is_by_dead, is_flight}
use Rattle.host_tree.specs.Reading.{HostReading}
use Rattle.world_state.specs.States.{State, core_at}
use Rattle.world_list.specs.declared.row.Row.{Row}
use Rattle.world_list.specs.declared.row.Row.TheVariants as rows
use Rattle.world_list.specs.Over.{core_over}

-- ---- rows over all parties

-- what a row has of one party
abbrev pub of_party : Core → Row → Party → List Event
of_party c rows.Begins p = begins c p
of_party c rows.Asks p = asks_of c p
of_party c rows.Fetches p = fetches c p
of_party c rows.Agains p = agains c p
of_party c rows.Clears p = clears p
of_party c rows.Commits p = commits c p
of_party c rows.Answers p = answers c p
of_party c rows.Gives p = gives c p
of_party c rows.Issues p = issues c p
of_party c rows.Dooms p = dooms c p
of_party c rows.Resumes p = resumes c p
of_party c rows.Dies p = dies c p
of_party c rows.Renews p = renews c p
of_party c rows.Loads p = loads c p
of_party c rows.Looks p = looks c p
of_party c rows.Finishes p = finishes c p
of_party c rows.Closes p = closes c p

-- of the party of a number in a world
unfoldable pub party_events : State → Row → ℕ → HostReading → List Event
party_events s row a tree = of_party (core_over s tree) row (party_of (core_over s tree) a)

-- of all
unfoldable pub row_events : State → Row → HostReading → List Event
row_events s row tree = flat_map (of_party (core_over s tree) row) (all_parties (core_over s tree))

-- ---- the others

unfoldable pub arrive_events : State → HostReading → List Event
arrive_events s tree = arrives (core_over s tree)

-- the loss of the write with a ticket, if it may be lost
unfoldable pub lose_of : State → ℕ → List Event
lose_of s ticket = only (is_flight (is_by_dead (core_at s)) (value_at (core_at s).flights ticket)) (Lose ticket)

unfoldable pub lose_events : State → HostReading → List Event
lose_events s tree = loses (core_over s tree)

unfoldable pub recover_events : State → HostReading → List Event
recover_events s tree = recovers (core_over s tree)

unfoldable pub host_events : State → HostReading → List Event
host_events s tree = host_line (core_over s tree) (next_of (core_over s tree) host_party)

unfoldable pub read_events : State → HostReading → List Event
read_events s tree = reads (core_over s tree)

unfoldable pub show_events : State → HostReading → List Event
show_events s tree = shows (core_over s tree)

unfoldable pub end_events : State → HostReading → List Event
end_events s tree = ends (core_over s tree)

-- ---- rows one behind another

-- those of lines
abbrev pub line_rows : State → HostReading → List (List Event)
line_rows s tree =
    row_events s rows.Begins tree ∷ row_events s rows.Asks tree ∷ row_events s rows.Fetches tree ∷ row_events s rows.Agains tree ∷ row_events s rows.Clears tree ∷ row_events s rows.Commits tree
    ∷ row_events s rows.Answers tree ∷ []

-- of locks, writes and lives
abbrev pub write_rows : State → HostReading → List (List Event)
write_rows s tree =
    row_events s rows.Gives tree ∷ row_events s rows.Issues tree ∷ row_events s rows.Dooms tree ∷ row_events s rows.Resumes tree ∷ arrive_events s tree ∷ lose_events s tree ∷ row_events s rows.Dies tree
    ∷ row_events s rows.Renews tree ∷ []

-- of recoveries
abbrev pub recovery_rows : State → HostReading → List (List Event)
recovery_rows s tree = recover_events s tree ∷ row_events s rows.Loads tree ∷ row_events s rows.Looks tree ∷ row_events s rows.Finishes tree ∷ []

-- of the host and the end
abbrev pub end_rows : State → HostReading → List (List Event)
end_rows s tree = host_events s tree ∷ row_events s rows.Closes tree ∷ read_events s tree ∷ show_events s tree ∷ end_events s tree ∷ []
