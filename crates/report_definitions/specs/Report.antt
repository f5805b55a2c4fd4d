-- The report of a check: counts, and the faults in order of their sectors and kinds, each once. Segments lie before inodes, and these before
-- small blocks.
use Rattle.std.specs.Prelude.{◌≡◌, ℕ, ◌*◌, Bool, true, false, ◌&&◌, Some, List, [], ◌∷◌, ◌++◌}
use Rattle.frang_base.specs.declared.limits.TheConstants.{KIND_DIRECTORY, KIND_FILE, KIND_LINK, RUN_VERSIONS_MAX, SEGMENT_BLOCKS, SEGMENT_INODES, SMALL_BLOCK_SECTORS}
use Rattle.disk_definitions.specs.declared.param.Param.{Param}
use Rattle.disk_definitions.specs.declared.region.Region.TheVariants as region
use Rattle.disk_definitions.specs.Regions.{sector_of}
use Rattle.disk_definitions.specs.Params.{param_in}
use Rattle.sector_bytes.specs.Sectors.{Sectors}
use Rattle.standing_laws.specs.Below.{lists}
use Rattle.standing_laws.specs.Soundness.{has_kind}
use Rattle.report_definitions.specs.Sums.{count_below, Fault, gathered}
use Rattle.report_definitions.specs.View.{View, view_of, IsReach}
use Rattle.report_definitions.specs.Rules as rules

pub record Report : Type 0 where
  pub segments : ℕ
  pub dirs : ℕ  -- directories, files and links that are reached
  pub files : ℕ
  pub links : ℕ
  pub blocks : ℕ  -- small and large blocks of these, each once, as far as they are in range
  pub larges : ℕ
  pub faults : List Fault
  pub stands : Bool

-- the fault of a sector, where it isn't fine
abbrev pub fault_unless : Bool → ℕ → ℕ → List Fault
fault_unless true sector kind = []
fault_unless false sector kind = (sector, kind) ∷ []

abbrev pub segment_faults : View → (ℕ → Bool) → ℕ → List Fault
segment_faults v reached k =
    fault_unless (rules.are_bits_fine v reached k) (sector_of (region.Segment k)) 7
    ++ fault_unless (rules.is_segment_fine v reached k) (sector_of (region.Segment k)) 8
    ++ fault_unless (rules.is_mark_fine v reached k) (sector_of (region.Segment k)) 9

abbrev pub inode_faults : View → (ℕ → Bool) → ℕ → List Fault
inode_faults v reached i =
    fault_unless (rules.is_root_fine v i) (sector_of (region.Inode i)) 1
    ++ fault_unless (rules.is_count_fine v reached i) (sector_of (region.Inode i)) 4
    ++ fault_unless (rules.is_named_once v reached i) (sector_of (region.Inode i)) 5
    ++ fault_unless (rules.are_blocks_fine v reached i) (sector_of (region.Inode i)) 6

abbrev pub part_faults : View → (ℕ → Bool) → ℕ → ℕ → List Fault
part_faults v reached b p =
    fault_unless (rules.is_sector_fine v reached b p) (sector_of (region.Small b p)) 2
    ++ fault_unless (rules.are_entries_fine v reached b p) (sector_of (region.Small b p)) 3

-- all of them
abbrev pub faults_of : View → (ℕ → Bool) → List Fault
faults_of v reached =
    gathered v.segments (segment_faults v reached) ++ gathered (SEGMENT_INODES * v.segments) (inode_faults v reached)
    ++ gathered (SEGMENT_BLOCKS * v.segments) (λ b. gathered SMALL_BLOCK_SECTORS (part_faults v reached b))

-- the inodes of a kind that are reached
abbrev pub reached_of_kind : View → (ℕ → Bool) → ℕ → ℕ
reached_of_kind v reached kind = count_below (SEGMENT_INODES * v.segments) (λ i. reached i && has_kind (v.store.inode i) kind)

abbrev pub is_nothing : List Fault → Bool
is_nothing [] = true
is_nothing (f ∷ faults) = false

-- the report of a view in which this is reached
abbrev pub report_by : View → (ℕ → Bool) → Report
report_by v reached = record {
  segments = v.segments;
  dirs = reached_of_kind v reached KIND_DIRECTORY;
  files = reached_of_kind v reached KIND_FILE;
  links = reached_of_kind v reached KIND_LINK;
  blocks = count_below (SEGMENT_BLOCKS * v.segments) (lists (rules.used v reached) (SEGMENT_BLOCKS * v.segments));
  larges = count_below v.segments (lists (rules.used_large v reached) (SEGMENT_INODES * v.segments));
  faults = faults_of v reached;
  stands = is_nothing (faults_of v reached);
}

-- what is seen of a disk with these parameters
abbrev pub view_by : Param → Sectors → View
view_by param sectors = view_of (RUN_VERSIONS_MAX * param.run) param.segments sectors

-- the report of a disk whose first sector has parameters
pub record IsReport (sectors : Sectors) (report : Report) : Type 0 where
  pub param : Param
  pub parameters : param_in (sectors 0) ≡ Some param
  pub reached : ℕ → Bool
  pub reach : IsReach (view_by param sectors).store reached
  pub is : report ≡ report_by (view_by param sectors) reached
