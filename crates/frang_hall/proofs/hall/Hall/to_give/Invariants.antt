-- The servers before this one were asked.
use Rattle.std.proofs.Common.{◌≡◌, ◌<◌, ℕ, None}
use Rattle.core_definitions.specs.Runs.{State as RunMoment}
use Rattle.hall_runs.specs.Gates.{IsToEnter, line_to_give}
use Rattle.frang_hall.proofs.hall.Hall.to_give.Given as goal

abbrev pub invariant-loop-server : goal.invariant-loop-server
invariant-loop-server g l = (a : ℕ) → a < l.server → (r : RunMoment) → g.M.Machine.stands l.self.world r → line_to_give r.core l.self.given a ≡ None
