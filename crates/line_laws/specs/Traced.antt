-- The sectors of a line's trace, against its looks over a disk.
use Rattle.std.specs.Prelude.{◌≡◌, ℕ, Bool}
use Rattle.std.specs.List.{take_while}
use Rattle.frang_base.specs.declared.op.Op.{Op}
use Rattle.tree_definitions.specs.Tree.{FileTree}
use Rattle.sector_bytes.specs.Sectors.{Sectors}
use Rattle.disk_definitions.specs.Store.{Store, store_of}
use Rattle.disk_definitions.specs.Held.{Segments}
use Rattle.disk_definitions.specs.Ask.{Ask, AtHand, looks}
use Rattle.disk_definitions.specs.Missing.{is_at_hand}
use Rattle.disk_definitions.specs.OnDisk.{AreOfDisk, StandsBelow}
use Rattle.disk_definitions.specs.Plans.{Plan}
use Rattle.disk_definitions.specs.Written.{Cached, at_hand, hand_of, sectors_at_hand}
use Rattle.disk_definitions.specs.Traces.{traced}
use Rattle.disk_definitions.specs.Lines.{plan_of_line}

-- what a program looked at is what it looks at over this disk, up to the first sector that isn't at hand
abbrev pub FollowsLooks : Ask Plan → AtHand → Store → Type 0
FollowsLooks program known store = (traced program known).looked ≡ take_while (is_at_hand known) (looks program store)

-- so it is of each line over sectors and bitmaps of a disk that stands for a tree, and over the disk that is made so of these
abbrev pub OfEachLine : (Cached → Segments → Sectors → Sectors) → Type 0
OfEachLine disk =
    (operation : Op) (cached : Cached) (held : Segments) (all : Bool) (sectors : Sectors) (tree : FileTree) (birth when : ℕ) →
    AreOfDisk cached held all tree.segments sectors → StandsBelow sectors tree →
    FollowsLooks (plan_of_line (hand_of cached held all) birth when operation) (at_hand cached held) (store_of tree.segments (disk cached held sectors))

-- the disk itself
abbrev pub LinesFollowTheDisk : Type 0
LinesFollowTheDisk = OfEachLine (λ cached held sectors. sectors)

-- the sectors at hand, and zeros
abbrev pub LinesFollowWhatIsAtHand : Type 0
LinesFollowWhatIsAtHand = OfEachLine (λ cached held sectors. sectors_at_hand cached held)
