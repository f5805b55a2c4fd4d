-- What servers have cached of free sectors: zeros. It is kept by the events of the theorem on sectors alone.
use Rattle.std.specs.Prelude.{◌≡◌, ℕ, Bool, true, List}
use Rattle.frang_base.specs.declared.lock.LockId.{LockId}
use Rattle.sector_bytes.specs.Blocks.{Block, zero_block}
use Rattle.core_definitions.specs.Servers.{Server}
use Rattle.sector_world.specs.Histories.{settled}
use Rattle.sector_world.specs.HistoryBytes.{is_free}
use Rattle.sector_world.specs.Kinds.{Good}
use Rattle.sector_world.specs.Steps.{Event, Can, Run, after}
use Rattle.sector_world.specs.World.{World, Page, NoPage, CleanPage, DirtyPage, FreedPage, start}
use Rattle.core_world.specs.Ties.{AreCached}
use Rattle.core_world.specs.Sights.{FreeIsZero}

-- the block that the page has, if any, is zeros
abbrev pub IsZeroPage : Page → Type 0
IsZeroPage NoPage = Unit {0}
IsZeroPage (CleanPage block) = block ≡ zero_block
IsZeroPage (DirtyPage block mark) = block ≡ zero_block
IsZeroPage (FreedPage mark) = Unit {0}

-- so it is of each page of a free sector
abbrev pub FreePagesAreZeros : World → Type 0
FreePagesAreZeros w = (a s : ℕ) → is_free w.first (settled w.history) s ≡ true → IsZeroPage (w.page a s)

-- so it is at the start
abbrev pub StartsHaveNoPages : Type 0
StartsHaveNoPages = (servers : ℕ) (disk : ℕ → Block) (logged of_files : ℕ → Bool) (home : ℕ → LockId) → FreePagesAreZeros (start servers disk logged of_files home)

-- and after each event, where it was before it
abbrev pub EventsKeepZeros : Type 0
EventsKeepZeros = (w : World) (e : Event) → Can w e → Good w → FreePagesAreZeros w → FreePagesAreZeros (after w e)

-- and so after each run
abbrev pub RunsKeepZeros : Type 0
RunsKeepZeros = (w u : World) (events : List Event) → Run w events u → Good w → FreePagesAreZeros w → FreePagesAreZeros u

-- then what servers of the core have cached of a free sector is zeros
abbrev pub FreeSectorsAreZeros : Type 0
FreeSectorsAreZeros = (servers : ℕ → Server) (w : World) → AreCached servers w → FreePagesAreZeros w → FreeIsZero servers w
