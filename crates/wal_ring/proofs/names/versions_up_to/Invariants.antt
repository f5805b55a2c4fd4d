use Rattle.std.proofs.Common.{◌≡◌, [], drop, nat_le, fold}
use Rattle.std.specs.List.{filter}
use Rattle.ring_definitions.specs.Rings.{with_named}
use Rattle.wal_ring.proofs.names.versions_up_to.Given as goal

abbrev pub invariant-loop-x : goal.invariant-loop-x
invariant-loop-x l =
    fold with_named l.versions.entries (filter (λ x. nat_le x.first l.end) (drop l.x-index l.named)) ≡ fold with_named [] (filter (λ x. nat_le x.first l.end) l.named)
