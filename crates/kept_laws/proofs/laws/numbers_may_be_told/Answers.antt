-- The law.
use Rattle.kept_laws.proofs.Telling.{blocks_counted, numbers_told}
use Rattle.kept_laws.proofs.laws.numbers_may_be_told.Goals as goal

pub returns : goal.returns
returns c = record { counted = blocks_counted; told = numbers_told }
