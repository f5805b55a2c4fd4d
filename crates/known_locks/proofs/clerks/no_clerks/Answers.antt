-- Each call of the closure gives a server that has nothing.
use Rattle.std.proofs.Common.{rules}
use Rattle.known_locks.proofs.ClerkLists.{no_claims}
use Rattle.known_locks.proofs.clerks.no_clerks.Goals as goal

pub returns : goal.returns
returns c = no_claims c.from_fn.result c.from_fn.ensures.items.long (λ i d below. let call = c.from_fn.ensures.items.at i d below in search rules)
