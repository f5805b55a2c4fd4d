-- A server is marked, or one of the rest, where it is one of all.
use Rattle.std.proofs.Common.{◌≡◌, ℕ, ◌||◌, false, length, drop, get_or}
use Rattle.lock_rebuild.specs.Guard.{is_one_of}
use Rattle.lock_rebuild.proofs.guarded.silent_among.Given as goal

abbrev pub invariant-loop-server : goal.invariant-loop-server
invariant-loop-server l = record {
  long : length l.among ≡ 16;
  marked : (s : ℕ) → (get_or l.among s false || is_one_of (drop l.server-index l.silent) s) ≡ is_one_of l.silent s;
}
