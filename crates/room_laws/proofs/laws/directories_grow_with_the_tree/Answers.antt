-- The law.
use Rattle.room_laws.proofs.Gaining.{lines_gain_or_free}
use Rattle.room_laws.proofs.Growing.{grows_with_the_tree, lines_grow}
use Rattle.room_laws.proofs.laws.directories_grow_with_the_tree.Goals as goal

pub returns : goal.returns
returns c = record { one = lines_gain_or_free; stores = grows_with_the_tree; lines = lines_grow }
