-- A sector that comes clean keeps its block and its cover.
use Rattle.kept_plans.proofs.Keeping.{acknowledged_same}
use Rattle.kept_plans.proofs.laws.an_acknowledged_write_leaves_it.Goals as goal

pub returns : goal.returns
returns c = record { kept = acknowledged_same }
