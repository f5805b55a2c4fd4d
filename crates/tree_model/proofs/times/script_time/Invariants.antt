use Rattle.std.proofs.Common.{◌≡◌, ◌+◌, ◌<◌, drop}
use Rattle.frang_base.specs.declared.limits.TheConstants.{RUN_TICKS_END}
use Rattle.tree_definitions.specs.Live.{script_time}
use Rattle.script_definitions.specs.Ticks.{all_ticks}
use Rattle.tree_model.proofs.times.script_time.Given as goal

abbrev pub invariant-loop-line : goal.invariant-loop-line
invariant-loop-line l = record {
  few : l.ticks + all_ticks (drop l.line-index l.script) < RUN_TICKS_END;
  rest : l.ticks + script_time (drop l.line-index l.script) l.number ≡ script_time l.script l.number;
}
