-- Each part is what its call gives.
use Rattle.std.proofs.Common.{arith, rules}
use Rattle.disk_check.proofs.checking.segment_parts.Goals as goal

pub returns-clause-parts : goal.returns-clause-parts
returns-clause-parts g c = λ k d l. let m = (c.in_ok-map_indices.ensures.each k d l).1.met in first_of (assumption, search rules, grind arith)
