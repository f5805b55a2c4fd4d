-- The first sector in order of the covers is the first in order of the sectors.
use Rattle.std.proofs.Common.{ap, ◌∙◌}
use mathlib.Core.Bool.{and-true}
use Rattle.clerk_cache.specs.Covers.{first_of, is_any}
use Rattle.clerk_cache.specs.Kept.{first_state, is_state_under}
use Rattle.clerk_cache.proofs.UnderLock.{first_of-keyed}
use Rattle.clerk_cache.proofs.states.States.first_under.Goals as goal

pub returns : goal.returns
returns c =
    c.first_of.ensures ∙ ap (first_of c.args.lock) c.self.invariant.covers
    ∙ first_of-keyed c.args.lock is_any (is_state_under c.args.lock) (λ state. and-true (is_state_under c.args.lock state)) c.self.inside.states.entries c.self.invariant.ascend
    ∙ ap (λ map. first_state (is_state_under c.args.lock) map.entries) c.self.view_is
