-- The first mark in order is the least.
use Rattle.std.proofs.Common.{ap, ◌∙◌}
use Rattle.flush_order.specs.Marks.{least, first_mark}
use Rattle.flush_order.proofs.MarkOrder.{first_is_least}
use Rattle.clerk_cache.specs.Kept.{is_idle_staying, passing_marks}
use Rattle.clerk_cache.proofs.MarkKeys.{keyed_passing}
use Rattle.clerk_cache.proofs.states.States.first_staying.Goals as goal

pub returns : goal.returns
returns c =
    c.first_mark.ensures ∙ ap first_mark (c.self.invariant.staying ∙ keyed_passing is_idle_staying c.self.inside.states.entries) ∙ first_is_least (passing_marks is_idle_staying c.self.inside.states.entries)
    ∙ ap (λ map. least (passing_marks is_idle_staying map.entries)) c.self.view_is
