-- The first mark in order is the least.
use Rattle.std.proofs.Common.{ap, ◌∙◌, subst}
use Rattle.flush_order.specs.Marks.{least, first_mark}
use Rattle.flush_order.proofs.MarkOrder.{first_is_least}
use Rattle.clerk_cache.specs.Kept.{is_state_fresh, passing_marks}
use Rattle.clerk_cache.proofs.MarkKeys.{keyed_passing}
use Rattle.sector_bytes.specs.SectorMaps.{Ascend}
use Rattle.clerk_cache.proofs.states.States.first_fresh.Goals as goal

pub returns-clause-mark : goal.returns-clause-mark
returns-clause-mark c =
    c.first_mark.ensures ∙ ap first_mark (c.self.invariant.fresh ∙ keyed_passing is_state_fresh c.self.inside.states.entries) ∙ first_is_least (passing_marks is_state_fresh c.self.inside.states.entries)
    ∙ ap (λ map. least (passing_marks is_state_fresh map.entries)) c.self.view_is

pub returns-clause-ordered : goal.returns-clause-ordered
returns-clause-ordered c = subst (λ map. Ascend map.entries) c.self.view_is c.self.invariant.ascend
