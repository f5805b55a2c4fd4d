use Rattle.std.proofs.Common.{◌≡◌, ◌++◌, drop}
use Rattle.namei.proofs.targets.append.Given as goal

abbrev pub invariant-loop-name : goal.invariant-loop-name
invariant-loop-name l = l.path ++ drop l.name-index l.names ≡ l.initial.path ++ l.names
