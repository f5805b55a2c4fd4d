-- One list after the other is made anew.
use Rattle.std.proofs.Common.{arith}
use Rattle.lock_table.specs.Kept.{renewed}
use Rattle.lock_table.proofs.Lists.{made_all}
use Rattle.lock_table.proofs.asked_lists.AskedLists.renew_all.Goals as goal

pub returns-clause-asked : goal.returns-clause-asked
returns-clause-asked c = made_all (λ t list. renewed t c.args.claims.now list) c.args.self.now.asked _ c.loop-server.server c.requires (omega arith) c.loop-server.invariant.lists
