-- Piece by piece.
use Rattle.line_sectors.proofs.AtHand.{done_lines_set_sectors_once}
use Rattle.line_sectors.proofs.Pieces.{lines_set_sectors_once}
use Rattle.line_sectors.proofs.lines_set_sectors_once.Goals as goal

pub returns : goal.returns
returns c = record { once = lines_set_sectors_once; at_hand = done_lines_set_sectors_once }
