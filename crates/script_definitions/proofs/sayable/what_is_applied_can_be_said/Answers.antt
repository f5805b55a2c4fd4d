use Rattle.script_definitions.specs.Sayable.{IsSayableCell}
use Rattle.script_definitions.proofs.SayableTrees.{apply_sayable}
use Rattle.script_definitions.proofs.SayablePaths.{perform_sayable}
use Rattle.script_definitions.proofs.sayable.what_is_applied_can_be_said.Goals as goal

pub returns-clause-performed : goal.returns-clause-performed
returns-clause-performed c = λ tree o birth when m h k. perform_sayable IsSayableCell (λ b small. small) m tree o birth when h k

pub returns-clause-applied : goal.returns-clause-applied
returns-clause-applied c = λ tree o birth when m h k. apply_sayable IsSayableCell (λ b small. small) m tree o birth when h k
