-- There are no chunks.
use Rattle.ordered_map.proofs.Whole.{none_chunked}
use Rattle.ordered_map.proofs.map.OrderedMap.new.Goals as goal

pub invariant_of-result : goal.invariant_of-result
invariant_of-result g c = none_chunked g.K.Ord.cmp c.new.result.chunks c.new.result.blank c.new.ensures.chunks c.new.ensures.blank
