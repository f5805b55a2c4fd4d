-- The times of the lines so far; the ticks of these, and those of the lines that are left.
use Rattle.std.proofs.Common.{◌≡◌, ◌+◌, ◌<◌, map, take, drop}
use Rattle.std.specs.List.{sum_by}
use Rattle.frang_base.specs.declared.limits.TheConstants.{RUN_TICKS_END}
use Rattle.tree_definitions.specs.Live.{script_time, ticks_of}
use Rattle.script_definitions.specs.Ticks.{all_ticks}
use Rattle.judge_rules.proofs.items.times_of.Given as goal

abbrev pub invariant-loop-line : goal.invariant-loop-line
invariant-loop-line l = record {
  times : l.times.items ≡ map (λ k. script_time l.script k.number) (take l.line-index l.script);
  ticks : l.ticks ≡ sum_by (λ k. ticks_of k.what) (take l.line-index l.script);
  few : l.ticks + all_ticks (drop l.line-index l.script) < RUN_TICKS_END;
}
