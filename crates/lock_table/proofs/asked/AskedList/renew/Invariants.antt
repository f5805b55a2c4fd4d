-- The list is walked up to a place, which isn't beyond the turns so far.
use Rattle.std.proofs.Common.{◌≤◌, ◌-◌}
use Rattle.lock_table.specs.Kept.{IsWalked}
use Rattle.lock_table.proofs.asked.AskedList.renew.Given as goal

abbrev pub invariant-loop : goal.invariant-loop
invariant-loop l = record {
  walked : IsWalked l.server.0 l.claims l.fn.self.asked l.self.asked l.i (l.count - l.counter);
  small : l.i ≤ l.counter;
  room : l.fn.self.room ≤ l.self.room;
}
