-- Plan by plan.
use Rattle.plan_laws.proofs.Laws.{plans_move, covers_follow}
use Rattle.plan_laws.proofs.moves.plans_move_what_they_take_and_free.Goals as goal

pub returns : goal.returns
returns c = record { tidy = plans_move; covers = covers_follow }
