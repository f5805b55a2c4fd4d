-- The flag is kept beside the block.
use Rattle.std.proofs.Common.{false, ap, sym, ◌∙◌}
use Rattle.std.specs.Option.{option_map, unwrap_or}
use Rattle.frang_base.specs.Functions.{member}
use Rattle.clerk_cache.specs.Kept.{is_state_flying}
use Rattle.clerk_cache.proofs.Flagging.{member_flagged}
use Rattle.clerk_cache.proofs.Joining.{states_ascend}
use Rattle.clerk_cache.proofs.cache.Cache.flies.Goals as goal

pub returns-in-Some : goal.returns-in-Some
returns-in-Some c =
    ap (λ o. unwrap_or (option_map is_state_flying o) false) c.in-Some.ensures.value ∙ sym (member_flagged is_state_flying c.args.sector.0 c.self.inside.states.entries (states_ascend c.self.invariant))
    ∙ ap (λ cache. member c.args.sector.0 cache.flying) c.self.view_is

pub returns-in-None : goal.returns-in-None
returns-in-None c =
    ap (λ o. unwrap_or (option_map is_state_flying o) false) c.in-None.ensures.value ∙ sym (member_flagged is_state_flying c.args.sector.0 c.self.inside.states.entries (states_ascend c.self.invariant))
    ∙ ap (λ cache. member c.args.sector.0 cache.flying) c.self.view_is
