-- The words of a recovery over the logs of a disk, each closed, so that no proof goes through them.
use Rattle.std.specs.Prelude.{ℕ, ◌+◌, List, [], ◌∷◌, drop, map}
use Rattle.frang_base.specs.declared.change.Redo.{Redo}
use Rattle.tree_definitions.specs.Numbers.{below}
use Rattle.sector_bytes.specs.Blocks.{Block}
use Rattle.core_definitions.specs.Logs.{later_seals, log_sector, seal_block}
use Rattle.core_definitions.specs.Recoveries.{named_sectors}
use Rattle.log_slots.specs.Reading.{log_rules}

-- the sectors that records name and a replay may change, ascending
unfoldable pub named : ℕ → List Redo → List ℕ
named segments records = named_sectors segments records

-- the write that seals a number of a server's log
unfoldable pub seal : ℕ → ℕ → ℕ × Block
seal dead number = (log_sector log_rules dead number, seal_block number)

-- the writes of a seal behind an end but the first, from one of these on, of so many; and the first
unfoldable pub later_from : ℕ → ℕ → ℕ → ℕ → List (ℕ × Block)
later_from count from dead end = map (seal dead) (map (λ k. end + 2 + k) (drop from (below count)))

unfoldable pub later_writes : ℕ → ℕ → List (ℕ × Block)
later_writes dead end = map (seal dead) (later_seals log_rules end)

abbrev pub first_writes : ℕ → ℕ → List (ℕ × Block)
first_writes dead end = seal dead (end + 1) ∷ []
