-- What was found, and what the rest says, is what all say.
use Rattle.std.proofs.Common.{◌≡◌, drop}
use Rattle.lock_rebuild.specs.Lists.{stronger, listed_mode}
use Rattle.lock_rebuild.proofs.lists.listed_mode.Given as goal

abbrev pub invariant-loop-clerk : goal.invariant-loop-clerk
invariant-loop-clerk l = stronger l.found (listed_mode (drop l.clerk-index l.clerks) l.server.0 l.lock) ≡ listed_mode l.clerks l.server.0 l.lock
