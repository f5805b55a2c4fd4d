-- A create may be applied to any tree.
use Rattle.script_tests.proofs.parts.apply_create.Goals as goal

pub apply-requires : goal.apply-requires
apply-requires c = rw c.in-Create.is tt
