-- What is looked at and written is as it was.
use Rattle.core_recoveries.proofs.Loading.{early_loads, loads}
use Rattle.core_recoveries.proofs.reads.loads_are_none.Goals as goal

pub returns : goal.returns
returns c = record { load = loads; early = early_loads }
