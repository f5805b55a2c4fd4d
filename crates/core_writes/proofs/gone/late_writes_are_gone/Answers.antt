-- Each by the fading of what the world has of it.
use Rattle.core_writes.proofs.Going.{late, loses}
use Rattle.core_writes.proofs.gone.late_writes_are_gone.Goals as goal

pub returns : goal.returns
returns c = record { late = late c.writes_stand_once.ensures.sectors; lose = loses c.writes_stand_once.ensures.sectors }
