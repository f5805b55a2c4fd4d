-- By the events, one by one.
use Rattle.core_laws.proofs.Hearing.{records_have_the_calls}
use Rattle.core_laws.proofs.calls.the_record_has_each_call.Goals as goal

pub returns : goal.returns
returns u = record { recorded = records_have_the_calls }
