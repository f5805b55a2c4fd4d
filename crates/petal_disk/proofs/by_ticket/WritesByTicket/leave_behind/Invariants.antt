use Rattle.std.proofs.Common.{◌≡◌}
use Rattle.petal_disk.specs.Flying.{changed_first, left}
use Rattle.petal_disk.proofs.by_ticket.WritesByTicket.leave_behind.Given as goal

-- the first so many are left behind
abbrev pub invariant-loop-i : goal.invariant-loop-i
invariant-loop-i l = record {
  writes : l.self.writes ≡ l.initial.self.writes;
  flying : l.self.flying ≡ changed_first (left l.server.0) l.initial.self.flying l.i;
  spare : l.self.spare ≡ l.initial.self.spare;
}
