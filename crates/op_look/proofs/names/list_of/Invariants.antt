-- The names so far.
use Rattle.std.proofs.Common.{◌≡◌, map}
use Rattle.op_look.proofs.names.list_of.Given as goal

abbrev pub invariant-loop-name : goal.invariant-loop-name
invariant-loop-name l = l.names ≡ map (λ r. r.now) l.yielded
