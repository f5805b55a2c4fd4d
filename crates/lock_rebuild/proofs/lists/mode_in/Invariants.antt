-- What was found, and what the rest has, is what all have.
use Rattle.std.proofs.Common.{◌≡◌, drop}
use Rattle.lock_rebuild.specs.Lists.{stronger, mode_in}
use Rattle.lock_rebuild.proofs.lists.mode_in.Given as goal

abbrev pub invariant-loop-listed : goal.invariant-loop-listed
invariant-loop-listed l = stronger l.found (mode_in (drop l.listed-index l.list) l.lock) ≡ mode_in l.list l.lock
