-- The locks that are found are those of a line's plan, over sectors and bitmaps of a disk that stands for a tree.
use Rattle.std.specs.Prelude.{◌≡◌, ℕ, Bool, Some, List, []}
use Rattle.frang_base.specs.declared.lock.LockId.{LockId}
use Rattle.frang_base.specs.declared.lock.Mode.TheVariants.{Sole}
use Rattle.frang_base.specs.declared.op.Op.{Op}
use Rattle.frang_base.specs.declared.reply.Reply.{Reply}
use Rattle.tree_definitions.specs.Perform.{Goes}
use Rattle.tree_definitions.specs.Tree.{FileTree}
use Rattle.sector_bytes.specs.Sectors.{Sectors}
use Rattle.disk_definitions.specs.Naming.{Naming}
use Rattle.disk_definitions.specs.Edits.{Edit}
use Rattle.disk_definitions.specs.Held.{Segments}
use Rattle.disk_definitions.specs.Ask.{Ask, Sector, meet}
use Rattle.disk_definitions.specs.Ask.Met.{Has}
use Rattle.disk_definitions.specs.OnDisk.{AreOfDisk, StandsBelow}
use Rattle.disk_definitions.specs.Plans.{Lock, Plan}
use Rattle.disk_definitions.specs.Plans.Plan.{Clears, Finishes}
use Rattle.disk_definitions.specs.Written.{Cached, at_hand, hand_of}
use Rattle.disk_definitions.specs.Covers.{cover_of}
use Rattle.disk_definitions.specs.Moves.{moved_by}
use Rattle.disk_definitions.specs.Lines.{plan_of_line, resolved}
use Rattle.set_definitions.specs.Sets.{LockSet, joined_all, mode_in}
use Rattle.dir_lookup.specs.declared.hand.Hand.{Hand}
use Rattle.disk_definitions.specs.LookedAt.{nodes_in, looked_nodes}

-- so it is of each line that has looked at the nodes of these sectors, by their numbers, and of the naming of the disk
abbrev pub OfEachLine : Cached → Segments → Bool → ℕ → List ℕ → (Op → Ask Plan → Naming → Type 0) → Type 0
OfEachLine cached held all segments looked Law =
    (operation : Op) (sectors : Sectors) (tree : FileTree) (birth when : ℕ) → tree.segments ≡ segments → AreOfDisk cached held all tree.segments sectors →
    (below : StandsBelow sectors tree) → let program = plan_of_line (hand_of cached held all) birth when operation in
    nodes_in tree.segments looked ≡ looked_nodes program (at_hand cached held) → Law operation program below.stands.naming

-- of each that is finished with this reply and these edits, by its locks
abbrev pub OfEachFinish : Hand → ℕ → List ℕ → Reply → List Edit → (List Lock → Naming → Type 0) → Type 0
OfEachFinish hand segments looked reply edits Law =
    OfEachLine hand.sectors.now.entries hand.held.now hand.all segments looked
    (λ operation program naming.
    ((locks : List Lock) → meet program (at_hand hand.sectors.now.entries hand.held.now) ≡ Has (Finishes (record { reply = reply; edits = edits; locks = locks })) →
    Law locks naming))

-- the set is that of the locks that it needs
abbrev pub FinishIsNeeded : Hand → ℕ → List ℕ → Reply → List Edit → LockSet → Type 0
FinishIsNeeded hand segments looked reply edits set = OfEachFinish hand segments looked reply edits (λ locks naming. set ≡ joined_all [] locks)

-- of each sector that its edits move the set has both locks sole: the one that covers it by the naming of the disk, and the one under which it is from then on
abbrev pub MovesAreSole : Hand → ℕ → List ℕ → Reply → List Edit → LockSet → Type 0
MovesAreSole hand segments looked reply edits set =
    OfEachFinish hand segments looked reply edits
    (λ locks naming.
    ((sector : Sector) (new : LockId) → moved_by edits sector ≡ Some new → (mode_in set (cover_of naming sector) ≡ Some Sole) × (mode_in set new ≡ Some Sole)))

-- the set is that of the locks under which it has this block cleared, where its walks come to this operation over paths without links
abbrev pub ClearIsNeeded : ℕ → List ℕ → Op → ℕ → LockSet → Type 0
ClearIsNeeded segments looked over block set =
    (cached : Cached) (held : Segments) (all : Bool) →
    OfEachLine cached held all segments looked
    (λ operation program naming.
    ((trail : List ℕ) (locks : List Lock) → meet (resolved operation) (at_hand cached held) ≡ Has (record { step = Goes over; trail = trail }) →
    meet program (at_hand cached held) ≡ Has (Clears block locks) → set ≡ joined_all [] locks))
