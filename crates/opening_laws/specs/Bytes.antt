-- Sectors of bytes.
use Rattle.std.specs.Prelude.{◌<◌}
use Rattle.std.specs.List.{All}
use Rattle.sector_bytes.specs.Blocks.{Block}

-- numbers that are bytes
abbrev pub AreBytes : Block → Type 0
AreBytes block = All (λ byte. byte < 256) block
