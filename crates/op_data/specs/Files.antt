-- The file that a path names, as every plan of a file goes on with it, and where its sectors lie.
use Rattle.std.specs.Prelude.{◌≡◌, ◌≤◌, ℕ, ◌-◌, ◌/◌, ◌%◌, if◌then◌else◌, nat_lt, Result, Ok, Err, List}
use Rattle.frang_base.specs.declared.limits.TheConstants.{FILE_BYTES_MAX, KIND_FILE, SMALL_BLOCK_SECTORS, SMALL_SECTORS_MAX}
use Rattle.tree_definitions.specs.Tree.{small_blocks_of}
use Rattle.disk_definitions.specs.declared.inode.Inode.{Inode}
use Rattle.disk_definitions.specs.declared.region.Region.{Region}
use Rattle.disk_definitions.specs.declared.region.Region.TheVariants as region
use Rattle.disk_definitions.specs.Store.{StoredNode, stored}
use Rattle.disk_definitions.specs.Ask.{Ask}
use Rattle.disk_definitions.specs.Plans.{Plan, refuse}
use Rattle.disk_definitions.specs.FilePlans.{plan_of_file, read_sectors}
use Rattle.dir_lookup.specs.Reading.{Lacks, Gives}
use Rattle.dir_lookup.specs.Hands.{over}
use Rattle.dir_lookup.specs.declared.hand.Hand.{Hand}
use Rattle.dir_lookup.specs.declared.spot.NumberedInode.{NumberedInode}
use Rattle.plan_steps.specs.declared.stop.Stop.{Stop}
use Rattle.plan_steps.specs.declared.stop.Stop.TheVariants as stop

-- the inode of a file, whose small blocks are those of its size
pub record IsFile (x : Inode) : Type 0 where
  pub kind : x.kind ≡ KIND_FILE
  pub blocks : x.blocks ≡ small_blocks_of x.size
  pub size : x.size ≤ FILE_BYTES_MAX

-- each plan of the file that the path names goes on with its inode, or is refused, or needs the sector
abbrev pub FindsFile : Hand → List (List ℕ) → Result NumberedInode Stop → Type 0
FindsFile hand path (Ok file) =
    (touched : List ℕ) × ((next : ℕ → List ℕ → StoredNode → Ask Plan) → over (plan_of_file path next) hand ≡ over (next file.number touched (stored file.inode)) hand)
FindsFile hand path (Err (stop.Refused r)) =
    (touched : List ℕ) × ((next : ℕ → List ℕ → StoredNode → Ask Plan) → over (plan_of_file path next) hand ≡ Gives (refuse r touched))
FindsFile hand path (Err (stop.Need s)) = (next : ℕ → List ℕ → StoredNode → Ask Plan) → over (plan_of_file path next) hand ≡ Lacks s.0
FindsFile hand path (Err stop.Segments) = ⊥
FindsFile hand path (Err (stop.Clear k)) = ⊥
FindsFile hand path (Err stop.NoMemory) = ⊥

-- where a sector of a file lies
abbrev pub place_of : StoredNode → ℕ → Region
place_of x t = if nat_lt t SMALL_SECTORS_MAX then region.Small (x.small (t / SMALL_BLOCK_SECTORS)) (t % SMALL_BLOCK_SECTORS) else region.Large (x.large - 1) (t - SMALL_SECTORS_MAX)

-- n sectors of the file from sector t on have these bytes, or one of them is needed
abbrev pub ReadsSectors : Hand → StoredNode → ℕ → ℕ → Result (List ℕ) Stop → Type 0
ReadsSectors hand x t n (Ok bytes) = (next : List ℕ → Ask Plan) → over (read_sectors x t n next) hand ≡ over (next bytes) hand
ReadsSectors hand x t n (Err (stop.Need s)) = (next : List ℕ → Ask Plan) → over (read_sectors x t n next) hand ≡ Lacks s.0
ReadsSectors hand x t n (Err (stop.Refused r)) = ⊥
ReadsSectors hand x t n (Err stop.Segments) = ⊥
ReadsSectors hand x t n (Err (stop.Clear k)) = ⊥
ReadsSectors hand x t n (Err stop.NoMemory) = Unit {0}
