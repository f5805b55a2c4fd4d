-- The sectors of the segments so far.
use Rattle.std.proofs.Common.{map}
use Rattle.dir_lookup.specs.Looked.{Adds}
use Rattle.plan_steps.specs.Looking.{segment_number}
use Rattle.plan_steps.proofs.room.look_at_held.Given as goal

abbrev pub invariant-loop-k : goal.invariant-loop-k
invariant-loop-k l = Adds l.initial.looked l.looked (map segment_number (map (λ r. r.now) l.yielded))
