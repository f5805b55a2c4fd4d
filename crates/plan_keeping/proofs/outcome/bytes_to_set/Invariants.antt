-- What is taken over, and what is left, are all that is set.
use Rattle.std.proofs.Common.{◌≡◌, ◌++◌, drop, map}
use Rattle.planned_lines.specs.Outcomes.{bytes_as}
use Rattle.server_core.specs.Outcomes.{bytes_of}
use Rattle.plan_keeping.proofs.outcome.bytes_to_set.Given as goal

abbrev pub invariant-loop-set : goal.invariant-loop-set
invariant-loop-set l = map bytes_of l.sets.items ++ map bytes_as (drop l.set-index l.bytes) ≡ map bytes_as l.bytes
