-- When a world and what its host has read may be asked for the next event: what is kept beside them is up to date.
use Rattle.std.specs.Prelude.{◌≡◌, ◌≤◌, true, [], length}
use Rattle.core_definitions.specs.EndGuards.{is_at_rest}
use Rattle.host_tree.specs.Reading.{HostReading, all_lines, needed}
use Rattle.world_asks.specs.Fresh.{AreAllFresh}
use Rattle.world_state.specs.States.{State, core_at}

-- the next line of a tree that is read is made, and no more lines are said than it has
pub record IsLineMade (tree : HostReading) : Type 0 where
  pub made : tree.is_made ≡ true
  pub said : tree.shown ≤ length (all_lines tree.segments tree.read)

-- at rest, once the tree is read
abbrev pub IsLineFresh : State → HostReading → Type 0
IsLineFresh s tree = is_at_rest (core_at s) ≡ true → needed tree.segments tree.read ≡ [] → IsLineMade tree

-- each server and the host is, and so is the tree's next line
pub record IsFresh (s : State) (tree : HostReading) : Type 0 where
  pub parties : AreAllFresh s
  pub line : IsLineFresh s tree
