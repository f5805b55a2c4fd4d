-- Step by step.
use Rattle.core_journals.proofs.Replaying.{replays}
use Rattle.core_journals.proofs.reports.recoveries_replay_the_journal.Goals as goal

pub returns : goal.returns
returns c = λ script segments run disk s by dead b. replays c.leases_last.ensures.end script segments run disk s by dead b
