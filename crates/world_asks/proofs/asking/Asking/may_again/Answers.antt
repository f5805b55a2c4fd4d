-- Of a server that is up and well.
use Rattle.std.proofs.Common.{true, sym, ◌∙◌}
use Rattle.std.proofs.lemmas.Bool.{false≢true, not-true}
use Rattle.world_asks.specs.Asking.{stage_in}
use Rattle.world_asks.proofs.LineStages.{goes_again, staged, up_mounted}
use Rattle.world_asks.proofs.asking.Asking.may_again.Goals as goal
use Rattle.world_asks.proofs.asking.Asking.may_again.Goals.{then-is_up, else-is_up}

pub returns-then-not-has_failed : goal.returns-then-not-has_failed
returns-then-not-has_failed c =
    let asked = c.args.self.now in
    let party = c.party-party.result.now in
    elim c.if-is_up.branch [
      | then-is_up w ↦ goes_again asked party c.must_again.result c.party-party.ensures (sym w.has_failed.ensures ∙ not-true w.has_failed.result (sym w.value-is ∙ c.if-not-has_failed.true))
          (c.must_again.ensures (stage_in asked) (staged asked party c.stage.result.now c.stage.ensures c.party-party.ensures) (up_mounted party.server.server.phase (sym c.is_up.ensures ∙ w.if-is_up.true))
          (c.oldest.ensures party c.party-party.ensures))
      | else-is_up w ↦ absurd (false≢true (sym w.if-is_up.false ∙ sym w.value-is ∙ c.if-not-has_failed.true))
    ]
