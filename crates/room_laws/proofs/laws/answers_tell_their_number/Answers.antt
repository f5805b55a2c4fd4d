-- The law.
use Rattle.room_laws.proofs.Numbers.{answers_tell}
use Rattle.room_laws.proofs.laws.answers_tell_their_number.Goals as goal

pub returns : goal.returns
returns c = record { number = answers_tell }
