use Rattle.std.proofs.Common.{◌≡◌, drop}
use Rattle.std.specs.List.{list_any}
use Rattle.ordered_map.specs.Chunks.{joined}
use Rattle.lock_definitions.specs.Holders.{is_sole}
use Rattle.lock_table.proofs.table.LockTable.has_sole.Given as goal

-- one is among those that are left, if one is among all
abbrev pub invariant-loop-piece : goal.invariant-loop-piece
invariant-loop-piece l = list_any (λ entry. is_sole l.self.locks l.server.0 entry.0) (joined (drop l.piece-index l.pieces)) ≡ list_any (λ entry. is_sole l.self.locks l.server.0 entry.0) (joined l.pieces)
