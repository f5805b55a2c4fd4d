-- Of a server that is up.
use Rattle.std.proofs.Common.{sym, ◌∙◌}
use Rattle.world_asks.specs.Asking.{stage_in}
use Rattle.world_asks.proofs.LineStages.{commits, staged, up_mounted}
use Rattle.world_asks.proofs.asking.Asking.may_commit.Goals as goal

pub returns-then-is_up : goal.returns-then-is_up
returns-then-is_up c =
    let asked = c.args.self.now in
    let party = c.party-party.result.now in
    commits asked party c.may_commit.result c.party-party.ensures
    (c.may_commit.ensures (stage_in asked) (staged asked party c.stage.result.now c.stage.ensures c.party-party.ensures) (up_mounted party.server.server.phase (sym c.is_up.ensures ∙ c.if-is_up.true)))
