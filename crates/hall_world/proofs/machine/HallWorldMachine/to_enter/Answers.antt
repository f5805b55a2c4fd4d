-- By the core of the moment.
use Rattle.std.proofs.Common.{◌≡◌, sym, subst}
use Rattle.hall_runs.specs.Gates.{number_to_enter}
use Rattle.hall_world.proofs.machine.HallWorldMachine.to_enter.Goals as goal

pub returns : goal.returns
returns c = λ r at. subst (λ k. c.to_enter.result ≡ number_to_enter k c.args.server) (sym at) c.to_enter.ensures
