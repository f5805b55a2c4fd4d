-- The cells that recoveries put into doubt cover the sectors that they marked: at once, and once later recoveries removed further operations.
use Rattle.std.specs.Prelude.{◌≡◌, ◌≤◌, ℕ, Bool, true, if◌then◌else◌, nat_eq, Option, List, [], ◌∷◌}
use Rattle.frang_base.specs.declared.lock.LockId.{LockId}
use Rattle.tree_definitions.specs.History.{CellRun}
use Rattle.tree_definitions.specs.Removal.{doubtful}
use Rattle.tree_definitions.specs.Tree.{FileTree}
use Rattle.sector_bytes.specs.Blocks.{Block}
use Rattle.sector_world.specs.Histories.{Each, Entry, in_doubt, synced_of}
use Rattle.sector_world.specs.Histories.Entry.{Did, Recovered, Synced, Mounted}
use Rattle.sector_world.specs.Seen.{Kept}
use Rattle.byte_trees.specs.Deeds.{Deed, Does, Says, Doubts, items, steps}
use Rattle.stop_laws.specs.Happened.{Happening, Acts, Speaks, Mounts, Covers, Recovers, on_sectors, settle, what_stays}
use Rattle.stop_laws.specs.Paired.{AreLines, ArePaired}
use Rattle.stop_laws.specs.Cells.{CoversMarks}
use Rattle.stop_laws.specs.Sight.{AllSaw, AllSee, Begins, MayGo}

-- Marks of doubt are those of a server's operations above a number, none of which a recovery of it up to its number in `most` removes; and the cells cover the
-- sectors that are marked
pub record IsCovered (segments : ℕ) (opening : ℕ → Block) (first_tree : FileTree) (most : ℕ → ℕ) (marked : ℕ → Bool) (runs : List CellRun) (older : List Deed) : Type 0 where
  pub server : ℕ
  pub number : ℕ
  pub marks : (sector : ℕ) → marked sector ≡ true → in_doubt server number (items older) sector ≡ true
  pub stays : Each (λ c. c.by ≡ server → c.op ≤ most server) (items older)
  pub covers : CoversMarks segments opening first_tree marked runs older

-- so it is of all marks
abbrev pub AllCovered : ℕ → (ℕ → Block) → FileTree → (ℕ → ℕ) → List Deed → Type 0
AllCovered segments opening first_tree most [] = Unit {0}
AllCovered segments opening first_tree most (Does c e ∷ older) = AllCovered segments opening first_tree most older
AllCovered segments opening first_tree most (Says e ∷ older) = AllCovered segments opening first_tree most older
AllCovered segments opening first_tree most (Doubts marked runs ∷ older) =
    IsCovered segments opening first_tree most marked runs older × AllCovered segments opening first_tree most older

-- it stays so where a recovery removes operations, of another server or of the same one above what its last recovery kept
abbrev pub RemovalsKeepCoverage : Type 0
RemovalsKeepCoverage =
    (segments : ℕ) (when : ℕ → ℕ) (opening : ℕ → Block) (first_tree : FileTree) (numbers : List ℕ) (home : ℕ → LockId) (logged : ℕ → Bool) (first : ℕ → Option Block)
    (server durable : ℕ) (most : ℕ → ℕ) (deeds : List Deed) → Begins segments when opening first_tree numbers home logged first →
    MayGo segments when opening first_tree numbers server durable (items deeds) → AreLines when deeds → AllSee home (items deeds) → most server ≤ durable →
    AllCovered segments opening first_tree most deeds → AllCovered segments opening first_tree most (what_stays server durable deeds)

-- ---- along a history

-- the number up to which the last recovery of a server's log kept its operations
abbrev pub recovered_to : List Entry → ℕ → ℕ
recovered_to [] server = 0
recovered_to (Did c ∷ older) server = recovered_to older server
recovered_to (Recovered other durable ∷ older) server = if nat_eq other server then durable else recovered_to older server
recovered_to (Synced other number ∷ older) server = recovered_to older server
recovered_to (Mounted other number ∷ older) server = recovered_to older server

-- no recovery removes what an earlier one of the same log kept
abbrev pub RecoveriesRise : List Entry → Type 0
RecoveriesRise [] = Unit {0}
RecoveriesRise (Did c ∷ older) = RecoveriesRise older
RecoveriesRise (Recovered server durable ∷ older) = (recovered_to older server ≤ durable) × RecoveriesRise older
RecoveriesRise (Synced server number ∷ older) = RecoveriesRise older
RecoveriesRise (Mounted server number ∷ older) = RecoveriesRise older

-- at the end of each recovery the cells that it puts into doubt cover the sectors that it marks
abbrev pub AllCoverAtOnce : ℕ → (ℕ → Block) → FileTree → List Happening → Type 0
AllCoverAtOnce segments opening first_tree [] = Unit {0}
AllCoverAtOnce segments opening first_tree (Acts c e ∷ older) = AllCoverAtOnce segments opening first_tree older
AllCoverAtOnce segments opening first_tree (Speaks e ∷ older) = AllCoverAtOnce segments opening first_tree older
AllCoverAtOnce segments opening first_tree (Mounts number e ∷ older) = AllCoverAtOnce segments opening first_tree older
AllCoverAtOnce segments opening first_tree (Covers server number ∷ older) = AllCoverAtOnce segments opening first_tree older
AllCoverAtOnce segments opening first_tree (Recovers server greatest durable ∷ older) =
    let kept = what_stays server durable (settle first_tree older) in
    CoversMarks segments opening first_tree (in_doubt server (synced_of server (on_sectors older)) (items kept)) (doubtful server first_tree (steps kept)) kept
    × AllCoverAtOnce segments opening first_tree older

-- then they do at each moment after it
abbrev pub HistoriesKeepCoverage : Type 0
HistoriesKeepCoverage =
    (segments : ℕ) (when : ℕ → ℕ) (opening : ℕ → Block) (first_tree : FileTree) (numbers : List ℕ) (home : ℕ → LockId) (logged : ℕ → Bool) (first : ℕ → Option Block)
    (h : List Happening) → Begins segments when opening first_tree numbers home logged first → ArePaired segments when opening first_tree numbers h →
    Kept (on_sectors h) → AllSaw home (on_sectors h) → RecoveriesRise (on_sectors h) → AllCoverAtOnce segments opening first_tree h →
    AllCovered segments opening first_tree (recovered_to (on_sectors h)) (settle first_tree h)
