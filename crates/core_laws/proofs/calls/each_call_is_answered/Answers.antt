-- By the events, one by one.
use Rattle.core_laws.proofs.Hearing.{calls_are_answered, failures_are_of_their_calls}
use Rattle.core_laws.proofs.calls.each_call_is_answered.Goals as goal

pub returns : goal.returns
returns u = record { answered = calls_are_answered; failed = failures_are_of_their_calls }
