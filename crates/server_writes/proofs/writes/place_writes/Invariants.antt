-- What is listed, and then the writes of the marks that are left.
use Rattle.std.proofs.Common.{◌≡◌, ◌++◌, drop, map, Option}
use Rattle.std.specs.List.{filter_map}
use Rattle.log_slots.specs.Reading.{log_rules}
use Rattle.core_definitions.specs.Lines.{Stage}
use Rattle.core_definitions.specs.Writes.{lacks_room}
use Rattle.server_writes.specs.Lists.{entry_of}
use Rattle.server_writes.proofs.Sectorwise.{of_mark}
use Rattle.server_writes.proofs.writes.place_writes.Given as goal

abbrev pub invariant-loop-mark : goal.invariant-loop-mark
invariant-loop-mark l = (stage : Option Stage) → lacks_room log_rules l.server.server.ring stage ≡ l.waits
    → map (entry_of l.server.id) l.list.items ++ filter_map (of_mark l.table.locks l.server.id l.server.server stage) (drop l.mark-index l.mark-items)
    ≡ filter_map (of_mark l.table.locks l.server.id l.server.server stage) l.mark-items
