-- Kept is what begins behind the number.
use Rattle.std.proofs.Common.{rules, not, nat_le}
use Rattle.std.proofs.lemmas.Fn.{filter_same}
use Rattle.wal_ring.proofs.names.drop_up_to.Goals as goal

pub returns-clause-items : goal.returns-clause-items
returns-clause-items c = filter_same _ (λ x. not (nat_le x.first c.args.end)) _ (λ x b f called. search rules) _ _ c.retain.ensures.filtered
