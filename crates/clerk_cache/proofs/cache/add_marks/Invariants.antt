-- The marks so far, and then those of the states that are left, are all.
use Rattle.std.proofs.Common.{◌≡◌, ◌++◌, drop}
use Rattle.clerk_cache.specs.Kept.{state_marks}
use Rattle.clerk_cache.proofs.cache.add_marks.Given as goal

abbrev pub invariant-loop-entry : goal.invariant-loop-entry
invariant-loop-entry l = l.marks.items ++ state_marks (drop l.entry-index l.states) ≡ l.fn.marks.items ++ state_marks l.states
