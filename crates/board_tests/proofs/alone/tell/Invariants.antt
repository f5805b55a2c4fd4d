use Rattle.std.proofs.Common.{◌≡◌}
use Rattle.board_tests.proofs.alone.tell.Given as goal

abbrev pub invariant-loop-line : goal.invariant-loop-line
invariant-loop-line g l = (l.writer.board ≡ l.board) × (l.reader.board ≡ l.board)
