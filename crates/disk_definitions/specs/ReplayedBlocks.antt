-- What the records of a log make of one sector.
use Rattle.std.specs.Prelude.{ℕ, List, fold}
use Rattle.frang_base.specs.declared.change.Redo.{Redo}
use Rattle.sector_bytes.specs.Blocks.{Block}
use Rattle.sector_bytes.specs.Replays.{change_at, redone}

-- the block with the changes of all records applied, in order
abbrev pub replayed_block : List Redo → ℕ → Block → Block
replayed_block records sector block = fold (λ old redo. redone (change_at redo.changes sector) old) block records
