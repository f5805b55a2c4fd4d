-- So many stages are read.
use Rattle.world_list.proofs.Staging.{AreFirst}
use Rattle.world_list.proofs.stages.all_stages.Given as goal

abbrev pub invariant-loop-a : goal.invariant-loop-a
invariant-loop-a l = AreFirst l.world l.stages.items l.a
