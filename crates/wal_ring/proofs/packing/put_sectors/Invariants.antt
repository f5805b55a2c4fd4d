use Rattle.std.proofs.Common.{◌≡◌, ◌+◌, ◌≤◌, ◌⊎◌, ◌++◌, length}
use Rattle.std.specs.Bool.{IsTrue}
use Rattle.std.specs.List.{list_all}
use Rattle.std.specs.VecDeque.{deque_len, deque_capacity}
use Rattle.disk_definitions.specs.LogSectors.{none_begins}
use Rattle.ring_definitions.specs.Rings.{sectors_for, packed_sectors}
use Rattle.wal_ring.specs.Kept.{is_waiting}
use Rattle.wal_ring.proofs.packing.put_sectors.Given as goal

abbrev pub invariant-loop-rest : goal.invariant-loop-rest
invariant-loop-rest l = record {
  items : l.waiting.items ++ packed_sectors l.number l.part l.rest ≡ l.fn.waiting.items ++ packed_sectors l.fn.first l.fn.part l.fn.bytes;
  fit : IsTrue (list_all is_waiting l.waiting.items);
  len : deque_len l.waiting + sectors_for (length l.rest) ≡ deque_len l.fn.waiting + sectors_for (length l.fn.bytes);
  numbers : l.number + sectors_for (length l.rest) ≡ l.fn.first + sectors_for (length l.fn.bytes);
  low : 256 ≤ l.number;
  part : (l.part ≡ 0) ⊎ (l.part ≡ none_begins);
  capacity : deque_capacity l.fn.waiting ≤ deque_capacity l.waiting;
}

abbrev pub decreases-loop-rest : goal.decreases-loop-rest
decreases-loop-rest l = length l.rest
