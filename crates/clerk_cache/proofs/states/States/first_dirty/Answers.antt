-- The first dirty sector in order of the covers is the first in order of the sectors.
use Rattle.std.proofs.Common.{refl, ap, ◌∙◌}
use Rattle.clerk_cache.specs.Covers.{first_of}
use Rattle.clerk_cache.specs.Kept.{first_state, is_state_dirty, is_state_dirty_under}
use Rattle.clerk_cache.proofs.UnderLock.{first_of-keyed}
use Rattle.clerk_cache.proofs.states.States.first_dirty.Goals as goal

pub returns : goal.returns
returns c =
    c.first_of.ensures ∙ ap (first_of c.args.lock) c.self.invariant.dirty
    ∙ first_of-keyed c.args.lock is_state_dirty (is_state_dirty_under c.args.lock) (λ state. refl) c.self.inside.states.entries c.self.invariant.ascend
    ∙ ap (λ map. first_state (is_state_dirty_under c.args.lock) map.entries) c.self.view_is
