-- By the plan of the line.
use Rattle.run_laws.proofs.Sighted.{fresh_is_seen, who_sees_stays}
use Rattle.run_laws.proofs.lines.who_sees_a_tree_stays_on_the_disk.Goals as goal

pub returns : goal.returns
returns c = record { lines = who_sees_stays; fresh = fresh_is_seen }
