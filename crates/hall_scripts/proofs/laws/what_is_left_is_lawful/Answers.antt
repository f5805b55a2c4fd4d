-- By the laws of all runs.
use Rattle.hall_scripts.proofs.Lawful.{lawful}
use Rattle.hall_scripts.proofs.laws.what_is_left_is_lawful.Goals as goal

pub returns : goal.returns
returns c = lawful c.runs_are_within_their_faults.ensures.within c.puts_come_in_time.ensures.timely c.holders_stay_compatible.ensures.compatible
