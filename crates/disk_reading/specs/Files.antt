-- Where the bytes of a file lie, sector by sector.
use Rattle.std.specs.Prelude.{◌≡◌, ℕ, ◌-◌, ◌/◌, ◌%◌, true, false, if◌then◌else◌, nat_lt, Option, Some, None}
use Rattle.frang_base.specs.declared.limits.TheConstants.{SMALL_BLOCK_SECTORS, SMALL_SECTORS_MAX}
use Rattle.disk_definitions.specs.declared.region.Region.TheVariants as region
use Rattle.disk_definitions.specs.Regions.{sector_of}
use Rattle.tree_definitions.specs.Entries.{Entries}
use Rattle.disk_definitions.specs.Store.{Store, StoredNode, StoredEntry}
use Rattle.standing_laws.specs.ReadTree.{entries_to, read_node}
use Rattle.tree_definitions.specs.declared.node.Node.{Node}
use Rattle.standing_laws.specs.Soundness.{entries_agree, node_agrees}

-- the sector of 512 bytes of a file, counted from its start: the first 128 stand in small blocks, the others in the large one
abbrev pub data_sector : StoredNode → ℕ → ℕ
data_sector x part =
    if nat_lt part SMALL_SECTORS_MAX then sector_of (region.Small (x.small (part / SMALL_BLOCK_SECTORS)) (part % SMALL_BLOCK_SECTORS))
    else sector_of (region.Large (x.large - 1) (part - SMALL_SECTORS_MAX))

-- the entries of the first n places, or that they don't agree
abbrev pub AreRead : Store → (ℕ → Option StoredEntry) → ℕ → Option Entries → Type 0
AreRead s place n None = entries_agree s place n ≡ false
AreRead s place n (Some entries) = (entries_agree s place n ≡ true) × (entries ≡ entries_to place n)

-- a node, or that what it holds isn't as long as its size says, or doesn't agree
abbrev pub IsNode : Store → StoredNode → Option Node → Type 0
IsNode s x None = node_agrees s (Some x) ≡ false
IsNode s x (Some node) = (node_agrees s (Some x) ≡ true) × (node ≡ read_node s x)
