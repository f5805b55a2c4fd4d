-- The law.
use Rattle.room_laws.proofs.Refused.{refused_hold_all}
use Rattle.room_laws.proofs.laws.refused_lines_hold_all_segments.Goals as goal

pub returns : goal.returns
returns c = record { all = refused_hold_all }
