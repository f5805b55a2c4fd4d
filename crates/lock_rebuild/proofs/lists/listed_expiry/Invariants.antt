-- What was found, and what the rest says, is what all say.
use Rattle.std.proofs.Common.{◌≡◌, drop}
use Rattle.std.specs.Option.{option_or}
use Rattle.lock_rebuild.specs.Lists.{listed_expiry}
use Rattle.lock_rebuild.proofs.lists.listed_expiry.Given as goal

abbrev pub invariant-loop-clerk : goal.invariant-loop-clerk
invariant-loop-clerk l = option_or (listed_expiry (drop l.clerk-index l.clerks) l.party.0 l.dead) l.found ≡ listed_expiry l.clerks l.party.0 l.dead
