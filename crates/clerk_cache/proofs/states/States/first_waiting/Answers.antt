-- The first mark under the lock is the least of those under it.
use Rattle.std.proofs.Common.{ap, ◌∙◌}
use Rattle.flush_order.specs.Marks.{least}
use Rattle.clerk_cache.specs.Kept.{is_idle_under, passing_marks}
use Rattle.clerk_cache.specs.CoveredMarks.{first_mark_of}
use Rattle.clerk_cache.proofs.MarksUnderLock.{first_mark_of-keyed}
use Rattle.clerk_cache.proofs.states.States.first_waiting.Goals as goal

pub returns : goal.returns
returns c =
    c.first_mark_of.ensures ∙ ap (first_mark_of c.args.lock) c.self.invariant.waiting ∙ first_mark_of-keyed c.args.lock c.self.inside.states.entries
    ∙ ap (λ map. least (passing_marks (is_idle_under c.args.lock) map.entries)) c.self.view_is
