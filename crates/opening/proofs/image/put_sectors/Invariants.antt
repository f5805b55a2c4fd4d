use Rattle.std.specs.Prelude.{filter}
use Rattle.core_definitions.specs.Opening.{is_put}
use Rattle.opening.specs.Puts.{PutSoFar}
use Rattle.opening.proofs.image.put_sectors.Given as goal

-- the iterator of a map is seen as the entries that it has left
abbrev pub invariant-loop-sector : goal.invariant-loop-sector
invariant-loop-sector g l = record {
  can : (goal.iterator-loop-sector g).can_next l.sector-iterator;
  ends : (goal.iterator-loop-sector g).is_finite l.sector-iterator;
  so_far : PutSoFar (g.O.Outside.state l.fn.out) (g.O.Outside.state l.out) (filter is_put l.disk) (filter is_put l.sector-iterator);
}
