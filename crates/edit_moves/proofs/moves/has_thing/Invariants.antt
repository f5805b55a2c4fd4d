-- One of the moves that are left is of the thing where one of all is.
use Rattle.std.proofs.Common.{◌≡◌, drop}
use Rattle.edit_moves.specs.Moves.{has_thing}
use Rattle.edit_moves.proofs.moves.has_thing.Given as goal

abbrev pub invariant-loop-one : goal.invariant-loop-one
invariant-loop-one l = has_thing (drop l.one-index l.moves) l.thing ≡ has_thing l.moves l.thing
