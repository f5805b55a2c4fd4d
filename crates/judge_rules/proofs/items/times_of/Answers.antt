-- The time of a line is the ticks of those before it.
use Rattle.std.proofs.Common.{◌∙◌, arith}
use Rattle.judge_rules.proofs.Times.{few_turn, times_turn}
use Rattle.judge_rules.proofs.items.times_of.Goals as goal

pub loop-line-preserved : goal.loop-line-preserved
loop-line-preserved c =
    let script = c.args.script.now in
    let i = c.loop-line.line-index in
    let x = c.line-item.result in
    let t = times_turn script c.loop-line.times.items i c.loop-line.ticks x c.requires.ascend c.loop-line-test.true c.line-item.is c.loop-line.invariant.times c.loop-line.invariant.ticks in
    let f = few_turn script i c.loop-line.ticks x c.loop-line-test.true c.line-item.is c.loop-line.invariant.few in
    record {
      times = c.in_ok-push.ensures.items ∙ t.0;
      ticks = omega (arith, t.1);
      few = omega (arith, f.1);
    }
