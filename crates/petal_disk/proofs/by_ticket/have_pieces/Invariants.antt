use Rattle.std.proofs.Common.{◌≡◌, drop}
use Rattle.std.specs.Box.{box_value}
use Rattle.ordered_map.specs.Chunks.{joined}
use Rattle.petal_disk.specs.Flying.{has_flights_under}
use Rattle.petal_disk.specs.Keeping.{opened}
use Rattle.petal_disk.proofs.by_ticket.have_pieces.Given as goal

-- one is among those that are left, if one is among all
abbrev pub invariant-loop-piece : goal.invariant-loop-piece
invariant-loop-piece l = has_flights_under (opened (joined (drop l.piece-index l.pieces)) box_value) l.server.0 l.lock ≡ has_flights_under (opened (joined l.pieces) box_value) l.server.0 l.lock
