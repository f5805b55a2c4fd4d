-- The edits of a finished line may be made on the disk, with whatever segments of it at hand, and whatever its bytes of files are taken for.
use Rattle.std.specs.Prelude.{◌≡◌, ◌<◌, ◌^◌, ℕ, true}
use Rattle.frang_base.specs.declared.limits.TheConstants.{SECTOR_BYTES, SMALL_BLOCK_SECTORS}
use Rattle.frang_base.specs.declared.op.Op.{Op}
use Rattle.tree_definitions.specs.Tree.{FileTree}
use Rattle.sector_bytes.specs.Bytes.{zeros}
use Rattle.sector_bytes.specs.Sectors.{Sectors}
use Rattle.disk_definitions.specs.declared.region.Region.TheVariants as region
use Rattle.disk_definitions.specs.Regions.{sector_of}
use Rattle.disk_definitions.specs.Store.{store_of}
use Rattle.disk_definitions.specs.Allowed.{IsAllowed}
use Rattle.disk_definitions.specs.Ask.{run}
use Rattle.disk_definitions.specs.FitPlans.{IsFitFinish}
use Rattle.disk_definitions.specs.Meets.{IsHandOf}
use Rattle.disk_definitions.specs.OnDisk.{StandsBelow}
use Rattle.disk_definitions.specs.Plans.{Hand, Finish}
use Rattle.disk_definitions.specs.Plans.Plan.{Finishes}
use Rattle.disk_definitions.specs.Ready.{IsReady}
use Rattle.disk_definitions.specs.Lines.{plan_of_line}
use Rattle.line_laws.specs.Stores.{with_bytes}

-- each small block that counts as clear is zero on the disk
abbrev pub IsClearOn : Sectors → Hand → Type 0
IsClearOn sectors hand = (block part : ℕ) → hand.zeroed block ≡ true → part < SMALL_BLOCK_SECTORS → sectors (sector_of (region.Small block part)) ≡ zeros SECTOR_BYTES

-- the edits are fit by the store, and may be made on the disk, which stands for the tree
pub record MayBeMade (sectors : Sectors) (tree : FileTree) (below : StandsBelow sectors tree) (hand : Hand) (byte large_byte : ℕ → ℕ → ℕ) (finish : Finish) : Type 0 where
  pub fit : IsFitFinish hand tree.segments (with_bytes (store_of tree.segments sectors) byte large_byte) finish
  pub ready : IsReady below.most tree.segments sectors finish.edits

abbrev pub LinesMayBeMade : Type 0
LinesMayBeMade =
    (operation : Op) (hand : Hand) (sectors : Sectors) (tree : FileTree) (byte large_byte : ℕ → ℕ → ℕ) (birth when : ℕ) (finish : Finish) → IsAllowed operation →
    (below : StandsBelow sectors tree) → IsHandOf hand (with_bytes (store_of tree.segments sectors) byte large_byte) tree.segments → IsClearOn sectors hand →
    birth < 2 ^ 64 → when < 2 ^ 64 →
    run (plan_of_line hand birth when operation) (with_bytes (store_of tree.segments sectors) byte large_byte) ≡ Finishes finish →
    MayBeMade sectors tree below hand byte large_byte finish
