-- Outcome by outcome.
use Rattle.byte_trees.proofs.Doubting.{doubt_keeps, parts_have_none}
use Rattle.byte_trees.proofs.trees.a_part_in_doubt_has_no_bytes.Goals as goal

pub returns : goal.returns
returns c = record { others = doubt_keeps; parts = parts_have_none }
