-- What a recovery reads of a log, and what is to be replayed by the theorem on sectors.
use Rattle.std.specs.Prelude.{◌≡◌, ◌≤◌, ◌⊎◌, ℕ, List, [], ◌∷◌, ◌++◌, reverse}
use Rattle.std.specs.List.{Contains}
use Rattle.frang_base.specs.declared.change.Change.{Change}
use Rattle.frang_base.specs.declared.change.Redo.{Redo}
use Rattle.sector_bytes.specs.Blocks.{Block, version_of}
use Rattle.sector_bytes.specs.Replays.{change_at, redo_all}
use Rattle.disk_definitions.specs.ReplayedBlocks.{replayed_block}
use Rattle.core_definitions.specs.Recoveries.{named_sectors}
use Rattle.sector_world.specs.Guards.{IsBelow, NoneNames, to_replay}
use Rattle.sector_world.specs.World.{World}

-- the records read replay as those that the theorem replays, over each block that isn't older than the disk's
abbrev pub ReadsAs : World → ℕ → List Redo → Type 0
ReadsAs w d records = (s : ℕ) (block : Block) → version_of (w.disk s) ≤ version_of block → replayed_block records s block ≡ redo_all (to_replay w d) s block

-- of each sector the records to replay name nothing, the records read name it, or its replay changes nothing
abbrev pub AreNamed : ℕ → World → ℕ → List Redo → Type 0
AreNamed segments w d records =
    (s : ℕ) → NoneNames (to_replay w d) s ⊎ (Contains (named_sectors segments records) s ⊎ (redo_all (to_replay w d) s (w.disk s) ≡ w.disk s))

-- each of these records is in place at the sector
abbrev pub AllInPlace : List Redo → ℕ → ℕ → Type 0
AllInPlace [] s n = Unit {0}
AllInPlace (r ∷ rs) s n = IsBelow (change_at r.changes s) n × AllInPlace rs s n

-- those with changes
abbrev pub keep_changing : List Change → Redo → List Redo → List Redo
keep_changing [] r rs = rs
keep_changing (x ∷ xs) r rs = r ∷ rs

-- of a list
abbrev pub changing : List Redo → List Redo
changing [] = []
changing (r ∷ rs) = keep_changing r.changes r (changing rs)

-- older records that are in place, and behind them those to replay, the oldest first, but for the empty ones
pub record IsReading (w : World) (d : ℕ) (records : List Redo) : Type 0 where
  pub front : List Redo
  pub is : records ≡ front ++ reverse (changing (to_replay w d))
  pub in_place : (s : ℕ) → AllInPlace front s (version_of (w.disk s))
