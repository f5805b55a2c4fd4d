-- What decoded sectors are in a store.
use Rattle.std.specs.Prelude.{ℕ, List}
use Rattle.bitmap_block.specs.declared.state.BlockState.{BlockState}
use Rattle.bitmap_block.specs.declared.state.BlockState.TheVariants as state
use Rattle.sector_bytes.specs.Sectors.{sectors_of}
use Rattle.disk_definitions.specs.Store.{Store, Use, store_of}
use Rattle.disk_definitions.specs.Store.Use.{Fresh, Bytes, Empty, Entries as OfEntries}

-- what a disk of so many segments says
unfoldable pub store_in : ℕ → List (ℕ × List ℕ) → Store
store_in segments disk = store_of segments (sectors_of disk)

-- the use of a block by its state
abbrev pub use_of_state : BlockState → Use
use_of_state state.Unused = Fresh
use_of_state state.FileBytes = Bytes
use_of_state state.FormerDirectory = Empty
use_of_state state.Directory = OfEntries
