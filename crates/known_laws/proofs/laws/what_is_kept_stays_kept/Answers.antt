-- The law.
use Rattle.known_laws.proofs.Knowing.{known_stays}
use Rattle.known_laws.proofs.laws.what_is_kept_stays_kept.Goals as goal

pub returns : goal.returns
returns c = record { stays = known_stays }
