-- Of the line that is at the gate.
use Rattle.std.proofs.Common.{sym, ◌∙◌}
use Rattle.world_next.specs.Over.{core_over}
use Rattle.world_next.proofs.Gating.{at_gate_is, not_at_gate}
use Rattle.world_next.proofs.gate.at_gate.Goals as goal

pub returns-then-is_at_gate : goal.returns-then-is_at_gate
returns-then-is_at_gate c = λ tree. c.next_number.ensures ∙ at_gate_is (core_over c.args.world.now tree) c.args.a.0 (sym c.is_at_gate.ensures ∙ c.if-is_at_gate.true)

pub returns-else-is_at_gate : goal.returns-else-is_at_gate
returns-else-is_at_gate c = λ tree. not_at_gate (core_over c.args.world.now tree) c.args.a.0 (sym c.is_at_gate.ensures ∙ c.if-is_at_gate.false)
