use Rattle.std.proofs.Common.{◌≡◌}
use Rattle.board_tests.proofs.beside.publish_all.Given as goal

abbrev pub invariant-loop-number : goal.invariant-loop-number
invariant-loop-number g l = l.writer.board ≡ l.board
