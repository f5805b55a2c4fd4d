-- The log ends where the slots that were read say.
use Rattle.std.proofs.Common.{◌≡◌, Some, sym, ap, ◌∙◌}
use Rattle.std.specs.Option.{option_copied, option_map}
use Rattle.core_definitions.specs.Servers.{Server}
use Rattle.server_core.specs.States.{UnderState}
use Rattle.world_state.specs.States.{State, core_at}
use Rattle.world_state.proofs.EndedLines.{ring_found}
use Rattle.world_state.proofs.world.World.ring_behind.Goals as goal

pub returns-else-end-ge-RING_ENDS_END : goal.returns-else-end-ge-RING_ENDS_END
returns-else-end-ge-RING_ENDS_END c =
    let e : Some c.in-Some.under.now.under ≡ c.get.result.now.server.server.under = ap (λ o. option_map (λ (u : UnderState). u.under) (option_copied o)) (sym c.in-Some.is) ∙ c.under.ensures in
    ring_found c.at.result c.in_ok-end-in-Some.end ((core_at c.args.self.now).servers c.args.a.0).under c.in-Some.under.now.under c.at.ensures
    (ap (λ (s : State). ((core_at s).servers c.args.a.0).under) (sym c.self.view_is) ∙ ap (λ (server : Server). server.under) (sym c.get.ensures.server) ∙ sym e) c.in_ok-end-in-Some.ensures
