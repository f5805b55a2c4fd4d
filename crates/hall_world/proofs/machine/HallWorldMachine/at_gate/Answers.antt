-- By the core of the moment.
use Rattle.std.proofs.Common.{◌≡◌, sym, subst}
use Rattle.hall_runs.specs.Gates.{line_at_gate}
use Rattle.hall_world.proofs.machine.HallWorldMachine.at_gate.Goals as goal

pub returns : goal.returns
returns c = λ r at. subst (λ k. c.at_gate.result ≡ line_at_gate k c.args.server) (sym at) c.at_gate.ensures
