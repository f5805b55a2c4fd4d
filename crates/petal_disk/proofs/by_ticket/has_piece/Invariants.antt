use Rattle.std.proofs.Common.{◌≡◌, drop}
use Rattle.std.specs.Box.{box_value}
use Rattle.petal_disk.specs.Flying.{has_flights_under}
use Rattle.petal_disk.specs.Keeping.{opened}
use Rattle.petal_disk.proofs.by_ticket.has_piece.Given as goal

-- one is among those that are left, if one is among all
abbrev pub invariant-loop-kept : goal.invariant-loop-kept
invariant-loop-kept l = has_flights_under (opened (drop l.kept-index l.piece) box_value) l.server.0 l.lock ≡ has_flights_under (opened l.piece box_value) l.server.0 l.lock
