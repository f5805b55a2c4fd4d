-- The locks that are found of a line are the line's, over sectors and bitmaps of a disk that stands for a tree.
use Rattle.std.specs.Prelude.{◌≡◌, ℕ, Bool, false, List, filter, map}
use Rattle.std.specs.List.{Contains}
use Rattle.frang_base.specs.declared.op.Op.{Op}
use Rattle.tree_definitions.specs.Perform.{Goes}
use Rattle.tree_definitions.specs.Tree.{FileTree}
use Rattle.sector_bytes.specs.Sectors.{Sectors}
use Rattle.disk_definitions.specs.Edits.{Edit}
use Rattle.disk_definitions.specs.Held.{Segments}
use Rattle.disk_definitions.specs.Ask.{Ask, meet, number_of}
use Rattle.disk_definitions.specs.Ask.Met.{Has}
use Rattle.disk_definitions.specs.OnDisk.{AreOfDisk, StandsBelow}
use Rattle.disk_definitions.specs.Plans.{Finish, Lock, Plan}
use Rattle.disk_definitions.specs.Plans.Plan.{Clears, Finishes}
use Rattle.disk_definitions.specs.Written.{Cached, at_hand, hand_of, is_metadata}
use Rattle.disk_definitions.specs.Covers.{cover_of}
use Rattle.disk_definitions.specs.CoversAtHand.{cover_among}
use Rattle.disk_definitions.specs.Traces.{has_version, traced}
use Rattle.disk_definitions.specs.Lines.{plan_of_line, resolved}
use Rattle.disk_definitions.specs.LookedAt.{looked_nodes, nodes_in, nodes_of}
use Rattle.disk_definitions.specs.FoundLocks.{clear_locks, finish_locks, owns_at_hand}
use Rattle.plan_laws.specs.Looked.{edited_at}
use Rattle.line_locks.specs.Same.{AreAlike}

-- so it is of each line over a disk that stands for a tree
abbrev pub OfEachLine : ((cached : Cached) (held : Segments) (all : Bool) (operation : Op) → Ask Plan → Type 0) → Type 0
OfEachLine Law =
    (operation : Op) (cached : Cached) (held : Segments) (all : Bool) (sectors : Sectors) (tree : FileTree) (birth when : ℕ) →
    AreOfDisk cached held all tree.segments sectors → StandsBelow sectors tree →
    Law cached held all operation (plan_of_line (hand_of cached held all) birth when operation)

-- of a finished line they are found by its reply and its edits
abbrev pub FindsFinish : (cached : Cached) (held : Segments) (all : Bool) (operation : Op) → Ask Plan → Type 0
FindsFinish cached held all operation program =
    (finish : Finish) → meet program (at_hand cached held) ≡ Has (Finishes finish) →
    AreAlike (finish_locks (owns_at_hand cached) held (looked_nodes program (at_hand cached held)) finish.reply finish.edits) finish.locks

abbrev pub FinishLocksAreFound : Type 0
FinishLocksAreFound = OfEachLine FindsFinish

-- of one that has a block cleared by the operation over paths without links to which it comes
abbrev pub FindsClear : (cached : Cached) (held : Segments) (all : Bool) (operation : Op) → Ask Plan → Type 0
FindsClear cached held all operation program =
    (over : Op) (trail : List ℕ) (block : ℕ) (locks : List Lock) → meet (resolved operation) (at_hand cached held) ≡ Has (record { step = Goes over; trail = trail }) →
    meet program (at_hand cached held) ≡ Has (Clears block locks) →
    AreAlike (clear_locks over (looked_nodes program (at_hand cached held)) block) locks

abbrev pub ClearLocksAreFound : Type 0
ClearLocksAreFound = OfEachLine FindsClear

-- the numbers of the sectors at which a line looked tell these nodes, also where those of file bytes are left out
abbrev pub NumbersTellNodes : Type 0
NumbersTellNodes =
    (operation : Op) (cached : Cached) (held : Segments) (all : Bool) (sectors : Sectors) (tree : FileTree) (birth when : ℕ) →
    AreOfDisk cached held all tree.segments sectors → StandsBelow sectors tree →
    let looked = (traced (plan_of_line (hand_of cached held all) birth when operation) (at_hand cached held)).looked in
    (nodes_in tree.segments (map number_of looked) ≡ nodes_of looked) × (nodes_in tree.segments (map number_of (filter has_version looked)) ≡ nodes_of looked)

-- of the file bytes that a finished line sets, the cover by the nodes at whose inodes it looked is the lock that covers them by the naming of the disk
abbrev pub SetCoversAreTrue : Type 0
SetCoversAreTrue =
    (operation : Op) (cached : Cached) (held : Segments) (all : Bool) (sectors : Sectors) (tree : FileTree) (birth when : ℕ) →
    AreOfDisk cached held all tree.segments sectors → (below : StandsBelow sectors tree) →
    let program = plan_of_line (hand_of cached held all) birth when operation in
    (finish : Finish) → meet program (at_hand cached held) ≡ Has (Finishes finish) → (edit : Edit) → Contains finish.edits edit → is_metadata edit ≡ false →
    cover_among cached held (looked_nodes program (at_hand cached held)) (edited_at edit) ≡ cover_of below.stands.naming (edited_at edit)
