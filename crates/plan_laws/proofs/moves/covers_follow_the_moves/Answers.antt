-- Sector by sector.
use Rattle.plan_laws.proofs.Moving.{covers_move}
use Rattle.plan_laws.proofs.moves.covers_follow_the_moves.Goals as goal

pub returns : goal.returns
returns c = record { moves = covers_move }
