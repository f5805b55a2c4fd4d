-- What the core asks of a server's log in memory: whether it is acknowledged, whether a record has room, and what its oldest records name.
use Rattle.std.specs.Prelude.{ℕ, ◌+◌, Bool, true, ◌==◌, ◌&&◌, if◌then◌else◌, nat_le, Option, Some, None, List}
use Rattle.std.specs.List.{list_any}
use Rattle.frang_base.specs.declared.change.Redo.{Redo}
use Rattle.ring_definitions.specs.Rings.{Ring, appended, first_waiting, free_of, last, need, oldest_of, sent}
use Rattle.core_definitions.specs.Settings.{LogRules}

-- the whole log so far is acknowledged
abbrev pub is_all_reached : Ring → Bool
is_all_reached ring = ring.reached == last ring

-- the ring has room for the record of a line; a line without one needs none
abbrev pub has_room : LogRules → Ring → Option Redo → Bool
has_room logs ring None = true
has_room logs ring (Some redo) = nat_le (need ring redo) (free_of logs.room ring)

abbrev pub appended_some : Ring → Option Redo → Ring
appended_some ring None = ring
appended_some ring (Some redo) = appended ring redo

-- the records that the oldest quarter's numbers hold name this sector
abbrev pub is_oldest_named : LogRules → Ring → ℕ → Bool
is_oldest_named logs ring sector = list_any (λ x. x.sector.0 == sector) (oldest_of logs.quarter ring)

-- the first number that isn't issued, with the block of its sector
abbrev pub next_write : Ring → Option (ℕ × List ℕ)
next_write ring = first_waiting (sent ring + 1) ring.waiting

-- no number further past the one up to which all are acknowledged is in flight
abbrev pub is_in_window : LogRules → Ring → ℕ → Bool
is_in_window logs ring number = nat_le number (ring.reached + logs.in_flight)
