-- The list is what the reader has read, so many, and has room for the rest and one more.
use Rattle.std.proofs.Common.{◌≡◌, ◌<◌}
use Rattle.std.specs.Prelude.{vec_capacity, vec_len}
use Rattle.watched_hall.proofs.watch.read_all.Given as goal

abbrev pub invariant-loop : goal.invariant-loop
invariant-loop g l = (l.reader.board ≡ l.board) × (l.list.items ≡ l.reader.figures) × (vec_len l.list ≡ l.counter) × (l.reads < vec_capacity l.list)
