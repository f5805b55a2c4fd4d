-- An operation does the same with the number of directories' blocks that its answer tells, or where it tells none with that of the tree.
use Rattle.std.proofs.Common.{◌≤◌, sym, ap, subst}
use Rattle.tree_definitions.specs.History.{told_blocks}
use Rattle.tree_definitions.specs.Perform.{resolved}
use Rattle.line_histories.proofs.Told.{step_told}
use Rattle.stop_laws.specs.Keeping.{ToldNumbersDoTheSame}

-- an operation that is performed with the number that its answer tells, or where it tells none with that of the tree, comes to the same
pub told_same : ToldNumbersDoTheSame
told_same tree o birth when m r few h = step_told tree (resolved tree o).step birth when m r (told_blocks tree r) (λ e. ap (told_blocks tree) e) (λ e. subst (λ q. told_blocks tree q ≤ m) (sym e) few) h
