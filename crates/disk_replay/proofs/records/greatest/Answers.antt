-- By the records of the log.
use Rattle.std.proofs.Common.{ap, ◌∙◌}
use Rattle.disk_definitions.specs.Logs.{greatest_operation}
use Rattle.disk_replay.proofs.records.greatest.Goals as goal

pub returns : goal.returns
returns c = c.greatest_operation.ensures ∙ ap greatest_operation (c.deref.ensures.value ∙ c.in_ok-records.ensures.records)
