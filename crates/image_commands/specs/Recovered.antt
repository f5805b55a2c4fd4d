-- What a replay gives: the replayed disk that stands for a tree, with the lines before those of the tree, or that it stands for none.
use Rattle.std.specs.Prelude.{◌≡◌, Option, Some, None, List}
use Rattle.frang_base.specs.declared.limits.TheConstants.{LOGS}
use Rattle.frang_base.specs.declared.said.Said.{Said}
use Rattle.sector_bytes.specs.Sectors.{SameSectors, sectors_of}
use Rattle.image_file.specs.Images.{Blocks}
use Rattle.disk_definitions.specs.Replay.{replayed}
use Rattle.report_definitions.specs.Laws.{StandsForSome}
use Rattle.image_commands.specs.declared.lines.Recovery.{Recovery}
use Rattle.image_commands.specs.Lines.{IsRecovery, IsTree, recovered_below}

-- the replayed disk, which stands for a tree
abbrev pub IsReplayed : Blocks → Blocks → Type 0
IsReplayed blocks new = SameSectors (sectors_of new) (replayed (sectors_of blocks)) × StandsForSome (sectors_of new)

abbrev pub GivesReplayed : Blocks → Option Blocks → Type 0
GivesReplayed blocks None = (lines : List Said) → IsTree blocks lines → ⊥
GivesReplayed blocks (Some new) = IsReplayed blocks new

abbrev pub GivesRecovery : Blocks → Option Recovery → Type 0
GivesRecovery blocks None = (lines : List Said) → IsRecovery blocks lines → ⊥
GivesRecovery blocks (Some r) = IsReplayed blocks r.disk × (r.before.items ≡ recovered_below (sectors_of blocks) LOGS)
