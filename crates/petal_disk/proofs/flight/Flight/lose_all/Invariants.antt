use Rattle.std.proofs.Common.{◌≡◌, ◌+◌, ◌≤◌, length}
use Rattle.petal_disk.specs.Flying.{lost, lost_from}
use Rattle.petal_disk.proofs.flight.Flight.lose_all.Given as goal

-- what is lost from the place on are all that is left to be lost, and so many are left to be looked at
abbrev pub invariant-loop-turn : goal.invariant-loop-turn
invariant-loop-turn l = record {
  flying : lost_from l.server.0 l.i l.self.flying ≡ lost l.server.0 l.initial.self.flying;
  left : l.i + length l.initial.self.flying ≡ l.turn + length l.self.flying;
  next : l.self.next ≡ l.initial.self.next;
  room : l.initial.self.room ≤ l.self.room;
}
