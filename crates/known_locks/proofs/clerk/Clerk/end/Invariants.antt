-- So many are gone.
use Rattle.std.proofs.Common.{◌≡◌, ◌≤◌, drop}
use Rattle.known_locks.proofs.clerk.Clerk.end.Given as goal

abbrev pub invariant-loop : goal.invariant-loop
invariant-loop l = record {
  claims : l.self.claims ≡ drop l.counter l.fn.self.claims;
  room : l.fn.self.room ≤ l.self.room;
}
