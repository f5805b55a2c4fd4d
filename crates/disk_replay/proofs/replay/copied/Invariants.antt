use Rattle.disk_replay.proofs.Copied.{IsCopying}
use Rattle.disk_replay.proofs.replay.copied.Given as goal

-- the iterator of a map is seen as the entries that it has left
abbrev pub invariant-loop-sector : goal.invariant-loop-sector
invariant-loop-sector l = record {
  can : (goal.iterator-loop-sector).can_next l.sector-iterator;
  ends : (goal.iterator-loop-sector).is_finite l.sector-iterator;
  copying : IsCopying l.disk l.sector-iterator l.copy;
}
