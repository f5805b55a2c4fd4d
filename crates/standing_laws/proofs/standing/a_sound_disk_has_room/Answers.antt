-- Blocks that differ, below a bound, are at most so many.
use Rattle.standing_laws.proofs.RoomLaws.{sound_fits}
use Rattle.standing_laws.proofs.standing.a_sound_disk_has_room.Goals as goal

pub returns : goal.returns
returns c = record { fits = sound_fits }
