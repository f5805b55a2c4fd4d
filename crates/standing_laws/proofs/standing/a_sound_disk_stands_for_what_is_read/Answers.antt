-- By the picture of a consistent store.
use Rattle.standing_laws.proofs.SoundStanding.{sound_stands}
use Rattle.standing_laws.proofs.OneTree.{reading_has_no_doubt}
use Rattle.standing_laws.proofs.standing.a_sound_disk_stands_for_what_is_read.Goals as goal

pub returns-clause-stands : goal.returns-clause-stands
returns-clause-stands c = sound_stands

pub returns-clause-doubt : goal.returns-clause-doubt
returns-clause-doubt c = reading_has_no_doubt
