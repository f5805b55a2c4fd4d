-- The flag is kept beside the block.
use Rattle.std.proofs.Common.{false, ap, sym, ◌∙◌}
use Rattle.std.specs.Option.{option_map, unwrap_or}
use Rattle.frang_base.specs.Functions.{member}
use Rattle.cache_definitions.specs.Caches.{is_dirty_at}
use Rattle.clerk_cache.specs.Kept.{is_state_dirty, is_state_staying}
use Rattle.clerk_cache.proofs.Flagging.{member_flagged}
use Rattle.clerk_cache.proofs.Joining.{states_ascend}
use Rattle.clerk_cache.proofs.Staying.{dirty-joined, staying_is_dirty}
use Rattle.clerk_cache.proofs.cache.Cache.stays.Goals as goal

pub returns-in-Some-clause-stays : goal.returns-in-Some-clause-stays
returns-in-Some-clause-stays c =
    c.is_staying.ensures ∙ ap (λ o. unwrap_or (option_map is_state_staying o) false) c.in-Some.ensures.value ∙ sym (member_flagged is_state_staying c.args.sector.0 c.self.inside.states.entries (states_ascend c.self.invariant))
    ∙ ap (λ cache. member c.args.sector.0 cache.staying) c.self.view_is

pub returns-in-None-clause-stays : goal.returns-in-None-clause-stays
returns-in-None-clause-stays c =
    ap (λ o. unwrap_or (option_map is_state_staying o) false) c.in-None.ensures.value ∙ sym (member_flagged is_state_staying c.args.sector.0 c.self.inside.states.entries (states_ascend c.self.invariant))
    ∙ ap (λ cache. member c.args.sector.0 cache.staying) c.self.view_is

pub returns-in-Some-clause-dirty : goal.returns-in-Some-clause-dirty
returns-in-Some-clause-dirty c = λ stays.
    sym (ap (λ cache. is_dirty_at cache.entries c.args.sector.0) c.self.view_is)
    ∙ sym (dirty-joined c.self.inside.sectors.entries c.self.inside.states.entries c.args.sector.0 c.self.invariant)
    ∙ sym (ap (λ o. unwrap_or (option_map is_state_dirty o) false) c.in-Some.ensures.value)
    ∙ staying_is_dirty c.in-Some.state (sym c.is_staying.ensures ∙ stays)
