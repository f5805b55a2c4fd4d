use Rattle.std.proofs.Common.{◌≡◌, ◌≤◌, vec_len}
use Rattle.meta_version.proofs.sectors.fill.Given as goal

abbrev pub invariant-loop : goal.invariant-loop
invariant-loop l = record { count : vec_len l.blank ≡ l.counter; more : vec_len l.fn.blank ≤ l.counter }
