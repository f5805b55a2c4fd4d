-- The list is walked up to a place, which isn't beyond the turns so far.
use Rattle.std.proofs.Common.{◌≤◌, ◌-◌}
use Rattle.known_locks.specs.Beside.{again, IsWalked}
use Rattle.known_locks.proofs.clerk.Clerk.renew.Given as goal

abbrev pub invariant-loop : goal.invariant-loop
invariant-loop l = record {
  walked : IsWalked (again l.table.locks l.server.0) l.fn.self.claims l.self.claims l.i (l.count - l.counter);
  small : l.i ≤ l.counter;
  room : l.fn.self.room ≤ l.self.room;
}
