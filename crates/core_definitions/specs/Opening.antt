-- The opening: what the host puts on a fresh disk, or on that of an image, before a run, and what a run begins from.
use Rattle.std.specs.Prelude.{◌≡◌, ℕ, ◌+◌, ◌==◌, Bool, not, ◌&&◌, IsTrue, Some, List, [], ◌∷◌, ◌++◌, filter, fold, length, map}
use Rattle.std.specs.List.{All}
use Rattle.std.specs.Map.{values_of}
use Rattle.frang_base.specs.declared.limits.TheConstants.{LEASE_TICKS, MARGIN_TICKS, ROOT_INODE, SECTOR_BYTES, SEGMENTS_MAX}
use Rattle.frang_base.specs.declared.script.Line.{Line}
use Rattle.frang_outside.specs.declared.act.Put.{Put}
use Rattle.frang_outside.specs.declared.act.Taken.TheVariants as taken
use Rattle.frang_outside.specs.Disk.{written}
use Rattle.lock_definitions.specs.Lease.{lease_expiry_of, write_stamp_of}
use Rattle.tree_definitions.specs.History.{Opening, fresh_opening}
use Rattle.tree_definitions.specs.Tree.{FileTree}
use Rattle.sector_bytes.specs.Blocks.{Block, zero_block}
use Rattle.sector_bytes.specs.Bytes.{are_zero}
use Rattle.sector_bytes.specs.Sectors.{SameSectors, Sectors, sectors_of}
use Rattle.sector_bytes.specs.SectorMaps.{Ascend}
use Rattle.disk_definitions.specs.declared.param.Param.{Param}
use Rattle.disk_definitions.specs.declared.param.TheConstants.{FORMAT_NEWEST}
use Rattle.disk_definitions.specs.declared.region.Region.TheVariants as region
use Rattle.disk_definitions.specs.Bitmaps.{bitmap_bytes}
use Rattle.disk_definitions.specs.FreshDisk.{first_bitmap, fresh_param, root_inode}
use Rattle.disk_definitions.specs.Inodes.{inode_bytes}
use Rattle.disk_definitions.specs.Meets.{directory_blocks_in}
use Rattle.disk_definitions.specs.Params.{param_bytes, param_fits, param_in}
use Rattle.disk_definitions.specs.Regions.{region_of, sector_of}
use Rattle.disk_definitions.specs.Replay.{is_log, replayed}
use Rattle.disk_definitions.specs.Standing.{HasNoDoubt, StandsByInodes}
use Rattle.disk_definitions.specs.Store.{store_of}
use Rattle.core_definitions.specs.Settings.{setting_of}
use Rattle.core_definitions.specs.Scripts.{host_party}
use Rattle.core_definitions.specs.Effects.{Deed, Made, id_of}
use Rattle.core_definitions.specs.Runs.{State, first_state}

-- sectors with the blocks that are put there, in the order of the puts
abbrev pub Puts : Type 0
Puts = List (ℕ × Block)

-- ---- the parameters

-- the disk of an image becomes one of the newest format, and has the next run
abbrev pub next_param : Param → Param
next_param p = record p { format = FORMAT_NEWEST; run = p.run + 1 }

abbrev pub param_put : Param → ℕ × Block
param_put p = (sector_of region.Param, param_bytes p)

-- ---- a fresh disk

-- the root's inode, the first segment of the bitmap, the parameters
abbrev pub fresh_puts : ℕ → Puts
fresh_puts segments =
    (sector_of (region.Inode ROOT_INODE), inode_bytes root_inode) ∷ (sector_of (region.Segment 0), bitmap_bytes first_bitmap) ∷ param_put (fresh_param segments) ∷ []

-- ---- the disk of an image, once its logs are replayed: its sectors, ascending

-- it isn't zero, and neither the parameters' nor one of a log
abbrev pub is_put : ℕ × Block → Bool
is_put sector = not (are_zero sector.1) && not (sector.0 == sector_of region.Param) && not (is_log (region_of SEGMENTS_MAX sector.0))

-- each such sector, and last the parameters
abbrev pub image_puts : Param → List (ℕ × Block) → Puts
image_puts p disk = filter is_put disk ++ param_put (next_param p) ∷ []

-- ---- what they leave

-- they are the host's own, under its lease of tick 0
abbrev pub opening_put : ℕ × Block → Put
opening_put sector = record {
  server = id_of host_party;
  behalf = id_of host_party;
  stamp = write_stamp_of MARGIN_TICKS (lease_expiry_of LEASE_TICKS 0);
  now = 0;
  sector = record { 0 = sector.0 };
  bytes = sector.1;
}

-- each was written
abbrev pub opening_deeds : Puts → List Deed
opening_deeds puts = map (λ sector. Made (opening_put sector) taken.Written) puts

abbrev pub put_over : Sectors → Puts → Sectors
put_over disk puts = fold (λ old sector. written old sector.0 sector.1) disk puts

-- nothing was written before
abbrev pub disk_put : Puts → Sectors
disk_put puts = put_over (λ sector. zero_block) puts

-- ---- what a run begins from

-- a script; the tree, how many blocks are or were a directory's, and the number of the run; the disk with the opening's puts, and the record that they leave
pub record Start : Type 0 where
  pub script : List Line
  pub opening : Opening
  pub disk : Sectors
  pub record_ : List Deed

abbrev pub start_by : List Line → Opening → Puts → Start
start_by script opening puts = record { script = script; opening = opening; disk = disk_put puts; record_ = opening_deeds puts }

abbrev pub fresh_start : List Line → ℕ → Start
fresh_start script segments = start_by script (fresh_opening segments) (fresh_puts segments)

-- on the disk of an image that stands for a tree
abbrev pub image_opening : Param → FileTree → List (ℕ × Block) → Opening
image_opening p tree disk = record { tree = tree; dir_blocks = directory_blocks_in (store_of p.segments (sectors_of disk)) p.segments; run = (next_param p).run }

abbrev pub image_start : List Line → Param → FileTree → List (ℕ × Block) → Start
image_start script p tree disk = start_by script (image_opening p tree disk) (image_puts p disk)

-- the sectors of an image may be opened: these are its parameters, another run may follow, its blocks are whole, this is its disk once its logs are replayed, and this is the tree that
-- it is read as: it stands for it, each birth is the number of its inode, and no cell is in doubt
pub record MayOpen (image : Sectors) (p : Param) (tree : FileTree) (disk : List (ℕ × Block)) : Type 0 where
  pub parameters : param_in (image (sector_of region.Param)) ≡ Some p
  pub run : IsTrue (param_fits (next_param p))
  pub ascending : Ascend disk
  pub blocks : All (λ block. length block ≡ SECTOR_BYTES) (values_of disk)
  pub replays : SameSectors (sectors_of disk) (replayed image)
  pub stands : StandsByInodes (sectors_of disk) tree
  pub sure : HasNoDoubt tree

-- what a run may begin from
pub data IsStart : Start → Type 0 where
  OnFresh : (script : List Line) (segments : ℕ) → IsTrue (param_fits (fresh_param segments)) → IsStart (fresh_start script segments)
  OnImage : (script : List Line) (image : Sectors) (p : Param) (tree : FileTree) (disk : List (ℕ × Block)) → MayOpen image p tree disk → IsStart (image_start script p tree disk)

-- the moment at which its run begins
abbrev pub moment_of : Start → State
moment_of start = first_state (setting_of start.script start.opening.tree.segments start.opening.run) start.disk
