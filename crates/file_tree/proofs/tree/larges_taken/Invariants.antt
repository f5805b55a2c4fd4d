use Rattle.std.proofs.Common.{◌≡◌, ◌-◌, ◌^◌, min, sum_by}
use Rattle.tree_definitions.specs.Tree.{large_blocks}
use Rattle.file_tree.proofs.tree.larges_taken.Given as goal

abbrev pub invariant-loop-node : goal.invariant-loop-node
invariant-loop-node l = l.taken ≡ min (sum_by (λ r. large_blocks r.now) l.yielded) (2 ^ 64 - 1)
