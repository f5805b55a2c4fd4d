-- Each call of the closure gives a list of nothing.
use Rattle.std.proofs.Common.{rules}
use Rattle.lock_table.proofs.Lists.{no_lists}
use Rattle.lock_table.proofs.asked_lists.no_lists.Goals as goal

pub returns : goal.returns
returns c = no_lists c.from_fn.result c.from_fn.ensures.items.long (λ i d below. let call = c.from_fn.ensures.items.at i d below in search rules)
