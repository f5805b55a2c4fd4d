-- Which operations saw each sector of bytes under a lock that they used: where each happened, and among what recoveries leave.
use Rattle.std.specs.Prelude.{◌≡◌, ℕ, Bool, true, false, IsTrue, Option, Some, List, [], ◌∷◌}
use Rattle.frang_base.specs.Locks.{has_lock}
use Rattle.frang_base.specs.declared.lock.LockId.{LockId}
use Rattle.tree_definitions.specs.Tree.{FileTree}
use Rattle.sector_bytes.specs.Blocks.{Block}
use Rattle.sector_world.specs.HistoryBytes.{Agree, is_free, value}
use Rattle.sector_world.specs.Histories.{Commit, Each, Entry, Item, OpsRise, kept, reaches, settled, survives}
use Rattle.sector_world.specs.Histories.Entry.{Did, Recovered, Synced, Mounted}
use Rattle.sector_world.specs.Histories.Item.{Done, Doubt}
use Rattle.sector_world.specs.Plans.{IsByPlan, Legal}
use Rattle.sector_world.specs.Seen.{Kept, Unmet, Unseen, cover_of}
use Rattle.sector_world.specs.Trees.{Distinct}
use Rattle.line_histories.specs.LinePlans.{sector_plan}
use Rattle.line_histories.specs.Following.{Follows}
use Rattle.line_histories.specs.Standing.{StandsNumbered}
use Rattle.line_histories.specs.Trees.{AreTimes, MayNumber}
use Rattle.byte_trees.specs.Deeds.{items}
use Rattle.stop_laws.specs.Happened.{Happening, on_sectors, settle}
use Rattle.stop_laws.specs.Paired.{ArePaired}

-- the operation looked at the bytes of each sector that a lock that it used covers after the older ones
abbrev pub SeesItsLocks : (ℕ → LockId) → Commit → List Item → Type 0
SeesItsLocks home c older = (sector : ℕ) → has_lock (cover_of home older sector) c.uses ≡ true → c.sees sector ≡ true

-- so did each operation where it happened, and what it did to bytes is what its plan said
abbrev pub AllSaw : (ℕ → LockId) → List Entry → Type 0
AllSaw home [] = Unit {0}
AllSaw home (Did c ∷ older) = SeesItsLocks home c (settled older) × IsByPlan c × AllSaw home older
AllSaw home (Recovered server durable ∷ older) = AllSaw home older
AllSaw home (Synced server number ∷ older) = AllSaw home older
AllSaw home (Mounted server number ∷ older) = AllSaw home older

-- so does each operation that is left, after the older ones that are left
abbrev pub AllSee : (ℕ → LockId) → List Item → Type 0
AllSee home [] = Unit {0}
AllSee home (Done c ∷ older) = SeesItsLocks home c older × AllSee home older
AllSee home (Doubt marked ∷ older) = AllSee home older

-- a first disk on which histories of lines begin
pub record Begins (segments : ℕ) (when : ℕ → ℕ) (opening : ℕ → Block) (first_tree : FileTree) (numbers : List ℕ) (home : ℕ → LockId) (logged : ℕ → Bool)
    (first : ℕ → Option Block) : Type 0 where
  pub times : AreTimes when
  pub stands : StandsNumbered segments opening (record { tree = first_tree; numbers = numbers })
  pub follows : Follows segments opening home logged first []

-- a legal history of lines with new numbers, in which nobody saw or met what a recovery of the server removes: its operations above the number
pub record MayGo (segments : ℕ) (when : ℕ → ℕ) (opening : ℕ → Block) (first_tree : FileTree) (numbers : List ℕ) (server durable : ℕ) (h : List Item) : Type 0 where
  pub legal : Legal (sector_plan segments when) opening h
  pub distinct : Distinct (MayNumber numbers) first_tree h
  pub by_plan : Each IsByPlan h
  pub rises : OpsRise h
  pub unseen : Unseen server durable h
  pub unmet : Unmet server durable h

-- then the operations that are left see what is under their locks, where all did: a removal may put a sector back under its former lock, but none that one that
-- is left uses
abbrev pub RemovalsKeepSight : Type 0
RemovalsKeepSight =
    (segments : ℕ) (when : ℕ → ℕ) (opening : ℕ → Block) (first_tree : FileTree) (numbers : List ℕ) (home : ℕ → LockId) (logged : ℕ → Bool) (first : ℕ → Option Block)
    (server durable : ℕ) (h : List Item) → Begins segments when opening first_tree numbers home logged first → MayGo segments when opening first_tree numbers server durable h →
    AllSee home h → AllSee home (kept (survives server durable) h)

-- so it is along each history that is told twice, whatever was recovered
abbrev pub HistoriesKeepSight : Type 0
HistoriesKeepSight =
    (segments : ℕ) (when : ℕ → ℕ) (opening : ℕ → Block) (first_tree : FileTree) (numbers : List ℕ) (home : ℕ → LockId) (logged : ℕ → Bool) (first : ℕ → Option Block)
    (h : List Happening) → Begins segments when opening first_tree numbers home logged first → ArePaired segments when opening first_tree numbers h →
    Kept (on_sectors h) → AllSaw home (on_sectors h) → AllSee home (items (settle first_tree h))

-- ---- what operations showed

-- each operation showed the bytes that were known where it happened
abbrev pub AllShowed : (ℕ → Option Block) → List Entry → Type 0
AllShowed first [] = Unit {0}
AllShowed first (Did c ∷ older) =
    ((sector : ℕ) (known shown : Block) → IsTrue (reaches c sector) → c.shown sector ≡ Some shown → is_free first (settled older) sector ≡ false →
    value first (settled older) sector ≡ Some known → known ≡ shown)
    × AllShowed first older
AllShowed first (Recovered server durable ∷ older) = AllShowed first older
AllShowed first (Synced server number ∷ older) = AllShowed first older
AllShowed first (Mounted server number ∷ older) = AllShowed first older

-- then the operations that are left show what is known after the older ones that are left
abbrev pub HistoriesKeepReads : Type 0
HistoriesKeepReads =
    (segments : ℕ) (when : ℕ → ℕ) (opening : ℕ → Block) (first_tree : FileTree) (numbers : List ℕ) (first : ℕ → Option Block) (h : List Happening) → AreTimes when →
    StandsNumbered segments opening (record { tree = first_tree; numbers = numbers }) → ArePaired segments when opening first_tree numbers h → Kept (on_sectors h) →
    AllShowed first (on_sectors h) → Agree first (items (settle first_tree h))
