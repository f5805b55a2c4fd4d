-- The board of the desk is this one.
use Rattle.std.proofs.Common.{◌≡◌}
use Rattle.watched_hall.proofs.watch.watch_on.Given as goal

abbrev pub ghosts-watch_named : goal.ghosts-watch_named
ghosts-watch_named g a = record { is_board = λ board. board ≡ a.board }
