use Rattle.script_definitions.proofs.PrintedLaws.{read_again}
use Rattle.script_definitions.proofs.PrintedLength.{printed_short, ended_again}
use Rattle.script_definitions.proofs.laws.printed_scripts_are_read_back.Goals as goal

pub returns-clause-read : goal.returns-clause-read
returns-clause-read c = λ bytes script e short. read_again bytes script e short

pub returns-clause-short : goal.returns-clause-short
returns-clause-short c = λ bytes script e. printed_short bytes script e

pub returns-clause-ended : goal.returns-clause-ended
returns-clause-ended c = λ text script e. ended_again text script e
