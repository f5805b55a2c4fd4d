-- The core of a world and of what its host has read and said of the tree.
use Rattle.core_definitions.specs.Cores.{Core}
use Rattle.host_tree.specs.Reading.{HostReading}
use Rattle.world_state.specs.States.{State, core_at}

abbrev pub core_over : State → HostReading → Core
core_over s tree = record (core_at s) { read = tree.read; shown = tree.shown }
