use Rattle.script_definitions.proofs.SaidRead.{refused_behind}
use Rattle.script_definitions.proofs.laws.nothing_may_follow_a_line.Goals as goal

pub returns : goal.returns
returns c = λ s b more h. refused_behind s b more h
