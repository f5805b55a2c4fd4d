-- By the laws of replays.
use Rattle.ring_definitions.proofs.ReplayLaws.{with_logs_twice, replayed_twice, with_logs_rises, logs_are_zero}
use Rattle.ring_definitions.proofs.logs.a_replay_made_twice_is_one.Goals as goal

pub returns-clause-once : goal.returns-clause-once
returns-clause-once c = (with_logs_twice, replayed_twice)

pub returns-clause-versions : goal.returns-clause-versions
returns-clause-versions c = with_logs_rises

pub returns-clause-zero : goal.returns-clause-zero
returns-clause-zero c = logs_are_zero
