-- The room that there is was counted.
use Rattle.std.proofs.Common.{length, ap, arith}
use Rattle.ordered_map.proofs.map.OrderedMap.count.Goals as goal

pub returns-clause-most : goal.returns-clause-most
returns-clause-most g c = omega (arith, c.self.invariant.most, c.self.invariant.small, ap (λ m. m.spare) c.self.view_is, ap (λ m. length m.entries) c.self.view_is)
