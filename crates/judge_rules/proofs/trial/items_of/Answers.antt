-- One item more.
use Rattle.std.proofs.Common.{map, sym, ◌∙◌, ap, subst}
use Rattle.std.specs.List.{All}
use Rattle.judge_rules.specs.Judging.{WithinAt}
use Rattle.judge_rules.specs.Scripts.{items_of}
use Rattle.judge_rules.proofs.Adding.{items_turn}
use Rattle.judge_rules.proofs.trial.items_of.Goals as goal

pub loop-said-preserved : goal.loop-said-preserved
loop-said-preserved c =
    let more = items_turn c.args.script.now c.args.saids.now c.loop-said.items.items c.loop-said.said-index c.in_ok-item.item c.said-item.result c.loop-said-test.true c.said-item.is
    c.in_ok-item.ensures.is c.in_ok-item.ensures.within c.loop-said.invariant.are c.loop-said.invariant.within in
    record {
      are = ap (map items_of) c.in_ok-push.ensures.items ∙ more.0;
      within = subst (All WithinAt) (sym c.in_ok-push.ensures.items) more.1;
    }
