-- Where the moves that are left put the thing, all put it.
use Rattle.std.proofs.Common.{◌≡◌, drop}
use Rattle.edit_moves.specs.Moves.{lock_in}
use Rattle.edit_moves.proofs.moves.lock_in.Given as goal

abbrev pub invariant-loop-one : goal.invariant-loop-one
invariant-loop-one l = lock_in (drop l.one-index l.moves) l.thing ≡ lock_in l.moves l.thing
