-- What was found, and what the rest has, is what all have.
use Rattle.std.proofs.Common.{◌≡◌, drop}
use Rattle.std.specs.Option.{option_or}
use Rattle.lock_rebuild.specs.Lists.{expiry_in}
use Rattle.lock_rebuild.proofs.lists.expiry_in.Given as goal

abbrev pub invariant-loop-listed : goal.invariant-loop-listed
invariant-loop-listed l = option_or (expiry_in (drop l.listed-index l.list) l.dead) l.found ≡ expiry_in l.list l.dead
