-- The first mark in order is the least.
use Rattle.std.proofs.Common.{ap, ◌∙◌}
use Rattle.flush_order.specs.Marks.{least, first_mark}
use Rattle.flush_order.proofs.MarkOrder.{first_is_least}
use Rattle.clerk_cache.specs.Kept.{state_marks}
use Rattle.clerk_cache.proofs.MarkKeys.{keyed_marks}
use Rattle.clerk_cache.proofs.states.States.first_mark.Goals as goal

pub returns : goal.returns
returns c =
    c.first_mark.ensures ∙ ap first_mark (c.self.invariant.marks ∙ keyed_marks c.self.inside.states.entries) ∙ first_is_least (state_marks c.self.inside.states.entries)
    ∙ ap (λ map. least (state_marks map.entries)) c.self.view_is
