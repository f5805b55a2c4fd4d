-- One of the marks that are left is set where one of all is.
use Rattle.std.proofs.Common.{◌≡◌, drop}
use Rattle.std.specs.List.{list_any}
use Rattle.world_parties.proofs.all.is_any_set.Given as goal

abbrev pub invariant-loop-mark : goal.invariant-loop-mark
invariant-loop-mark l = list_any (λ mark. mark) (drop l.mark-index l.marks) ≡ list_any (λ mark. mark) l.marks
