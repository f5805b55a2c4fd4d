-- The least mark of the states is that of the sectors.
use Rattle.std.proofs.Common.{ap, ◌∙◌}
use Rattle.flush_order.specs.Marks.{sector_reached, next_reached}
use Rattle.clerk_cache.specs.Marks.{marks_of}
use Rattle.clerk_cache.proofs.Dropped.{marks-joined}
use Rattle.clerk_cache.proofs.cache.Cache.next_dirty.Goals as goal

pub returns : goal.returns
returns c =
    c.sector_reached.ensures ∙ ap (sector_reached c.args.reached) c.first_mark.ensures
    ∙ ap (λ marks. next_reached marks c.args.reached) (marks-joined _ _ c.self.invariant.alike) ∙ ap (λ cache. next_reached (marks_of cache.entries) c.args.reached) c.self.view_is
