use Rattle.std.proofs.Common.{◌≡◌, ◌++◌, drop}
use Rattle.file_tree.proofs.perform.extend.Given as goal

abbrev pub invariant-loop-birth : goal.invariant-loop-birth
invariant-loop-birth l = l.trail.items ++ drop l.birth-index l.more ≡ l.initial.trail.items ++ l.more
