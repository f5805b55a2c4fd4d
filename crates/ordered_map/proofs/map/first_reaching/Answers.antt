-- The chunks that end below come first.
use Rattle.std.proofs.Common.{rules}
use Rattle.std.proofs.lemmas.List.Sorted.{IsPartitionPoint-from_clause}
use Rattle.ordered_map.specs.Chunks.{ends_below}
use Rattle.ordered_map.proofs.Search.{parted}
use Rattle.ordered_map.proofs.map.first_reaching.Goals as goal

pub returns-clause-point : goal.returns-clause-point
returns-clause-point g c =
    let order = parted g.met.K.Ord.total c.args.key.now c.args.chunks.now c.requires.filled c.requires.ordered in
    IsPartitionPoint-from_clause (ends_below g.K.Ord.cmp c.args.key.now) _ _ c.partition_point.ensures.partitioned order (λ a r q k. search rules)
