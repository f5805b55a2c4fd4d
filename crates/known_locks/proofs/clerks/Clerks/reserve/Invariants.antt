use Rattle.std.proofs.Common.{◌≡◌, ℕ, ◌<◌, slice_index}
use Rattle.lock_table.specs.Kept.{KeepsSpace}
use Rattle.known_locks.proofs.clerks.Clerks.reserve.Given as goal

abbrev pub invariant-loop-server : goal.invariant-loop-server
invariant-loop-server l = record {
  claims : l.self.claims ≡ l.initial.self.claims;
  space : (t : ℕ) → t < l.server → 0 < slice_index l.self.room t;
  room : KeepsSpace l.initial.self.room l.self.room;
}
