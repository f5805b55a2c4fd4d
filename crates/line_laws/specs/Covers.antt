-- The cover of a sector by what is at hand, against the cover by the naming of the disk.
use Rattle.std.specs.Prelude.{◌≡◌, ℕ, ◌⊎◌, Bool}
use Rattle.std.specs.List.{Contains}
use Rattle.frang_base.specs.declared.op.Op.{Op}
use Rattle.tree_definitions.specs.Tree.{FileTree}
use Rattle.sector_bytes.specs.Sectors.{Sectors}
use Rattle.disk_definitions.specs.Held.{Segments}
use Rattle.disk_definitions.specs.Ask.{Ask, AtHand, Sector}
use Rattle.disk_definitions.specs.Ask.Met.{Needs}
use Rattle.disk_definitions.specs.OnDisk.{AreOfDisk, StandsBelow}
use Rattle.disk_definitions.specs.Written.{Cached, at_hand, hand_of}
use Rattle.disk_definitions.specs.Covers.{cover_of}
use Rattle.disk_definitions.specs.Traces.{traced}
use Rattle.disk_definitions.specs.Lines.{plan_of_line}
use Rattle.disk_definitions.specs.LookedAt.{looked_nodes}
use Rattle.disk_definitions.specs.CoversAtHand.{cover_among, cover_at_hand}

-- the computation looks at the sector, which is at hand, or needs it
abbrev pub AsksFor : {A : Type 0} → Ask A → AtHand → Sector → Type 0
AsksFor program known sector = Contains (traced program known).looked sector ⊎ ((traced program known).met ≡ Needs sector)

-- over a disk that stands for a tree, of each sector for which a line asks
abbrev pub CoversAtHandAreTrue : Type 0
CoversAtHandAreTrue =
    (operation : Op) (cached : Cached) (held : Segments) (all : Bool) (sectors : Sectors) (tree : FileTree) (birth when : ℕ) →
    AreOfDisk cached held all tree.segments sectors → (below : StandsBelow sectors tree) →
    (sector : Sector) → AsksFor (plan_of_line (hand_of cached held all) birth when operation) (at_hand cached held) sector →
    cover_at_hand cached held tree.segments sector ≡ cover_of below.stands.naming sector

-- and so it is by the nodes at whose inodes the line looked
abbrev pub CoversAmongAreTrue : Type 0
CoversAmongAreTrue =
    (operation : Op) (cached : Cached) (held : Segments) (all : Bool) (sectors : Sectors) (tree : FileTree) (birth when : ℕ) →
    AreOfDisk cached held all tree.segments sectors → (below : StandsBelow sectors tree) →
    let program = plan_of_line (hand_of cached held all) birth when operation in
    (sector : Sector) → AsksFor program (at_hand cached held) sector →
    cover_among cached held (looked_nodes program (at_hand cached held)) sector ≡ cover_of below.stands.naming sector
