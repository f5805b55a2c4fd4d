use Rattle.std.proofs.Common.{◌≡◌}
use Rattle.board_tests.proofs.beside.read_all.Given as goal

abbrev pub invariant-loop : goal.invariant-loop
invariant-loop g l = l.reader.board ≡ l.board
