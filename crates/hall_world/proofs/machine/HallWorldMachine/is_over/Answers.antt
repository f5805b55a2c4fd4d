-- By the core of the moment.
use Rattle.std.proofs.Common.{◌≡◌, sym, subst}
use Rattle.hall_world.proofs.machine.HallWorldMachine.is_over.Goals as goal

pub returns : goal.returns
returns c = λ r at. subst (λ k. c.over.result ≡ k.over) (sym at) c.over.ensures
