use Rattle.judge_rules.specs.Judging.{Hears, Weighs}
use Rattle.judge_rules.proofs.trial.heard.Given as goal

abbrev pub invariant-loop-i : goal.invariant-loop-i
invariant-loop-i l = record {
  heard : Hears l.script l.segments l.granted l.saids l.i l.hearing.told l.hearing.tree.items l.hearing.first;
  weighed : Weighs l.script l.segments l.saids l.i l.weighing.settling l.weighing.legal l.weighing.kept;
}
