use Rattle.std.proofs.Common.{◌≡◌, ◌+◌, ◌-◌, ◌^◌, min, drop}
use Rattle.script_definitions.specs.Ticks.{all_ticks}
use Rattle.tree_model.proofs.times.has_times.Given as goal

abbrev pub invariant-loop-line : goal.invariant-loop-line
invariant-loop-line l = min (l.ticks + all_ticks (drop l.line-index l.script)) (2 ^ 64 - 1) ≡ min (all_ticks l.script) (2 ^ 64 - 1)
