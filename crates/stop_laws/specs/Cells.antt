-- Cells are known along every history: a disk that has what is known of bytes has the bytes of the tree's files, a cell in doubt allowing any.
use Rattle.std.specs.Prelude.{◌≡◌, ◌≤◌, ◌<◌, ℕ, ◌+◌, ◌*◌, ◌/◌, ◌%◌, Bool, true, Option, List, [], ◌∷◌}
use Rattle.std.specs.List.{Contains}
use Rattle.frang_base.specs.declared.limits.TheConstants.{SECTOR_BYTES}
use Rattle.frang_base.specs.declared.lock.LockId.{LockId}
use Rattle.tree_definitions.specs.declared.history.Entry.{Entry}
use Rattle.tree_definitions.specs.History.{CellRun, is_answer}
use Rattle.tree_definitions.specs.Removal.{doubtful}
use Rattle.tree_definitions.specs.Tree.{FileTree}
use Rattle.sector_bytes.specs.Blocks.{Block}
use Rattle.disk_definitions.specs.declared.region.Region.TheVariants as region
use Rattle.disk_definitions.specs.Regions.{sector_of}
use Rattle.sector_world.specs.HistoryBytes.{Agree}
use Rattle.sector_world.specs.Histories.{Commit, in_doubt, logical}
use Rattle.sector_world.specs.Histories.Item.{Done}
use Rattle.sector_world.specs.Plans.{IsByPlan, Legal}
use Rattle.sector_world.specs.Trees.{Distinct}
use Rattle.disk_definitions.specs.Store.{Store}
use Rattle.disk_definitions.specs.Ask.{run}
use Rattle.disk_definitions.specs.Plans.{Finish}
use Rattle.disk_definitions.specs.Plans.Plan.{Finishes}
use Rattle.line_laws.specs.Stores.{with_bytes}
use Rattle.disk_definitions.specs.Lines.{plan_of_line}
use Rattle.line_histories.specs.LinePlans.{byte_shown, hand_on, sector_plan}
use Rattle.line_histories.specs.Following.{store_after}
use Rattle.line_histories.specs.Trees.{MayNumber}
use Rattle.byte_trees.specs.Cells.{Covers}
use Rattle.byte_trees.specs.Deeds.{Deed, Does, Says, Doubts, items, steps, tree_after}
use Rattle.stop_laws.specs.Along.{LiesAfter}
use Rattle.stop_laws.specs.Known.{IsToldTwice, KnowsCells}

-- a store whose sectors of bytes read as these blocks, as zeros where there is none
abbrev pub having : (ℕ → Option Block) → Store → Store
having shown store =
    with_bytes store (λ block index. byte_shown (shown (sector_of (region.Small block (index / SECTOR_BYTES)))) (index % SECTOR_BYTES))
    (λ large index. byte_shown (shown (sector_of (region.Large large (index / SECTOR_BYTES)))) (index % SECTOR_BYTES))

-- the entry has the operation's number and time, and says what the line's plan says where each sector of bytes reads as the operation showed it
pub record IsShown (segments : ℕ) (when : ℕ → ℕ) (opening : ℕ → Block) (c : Commit) (e : Entry) (older : List Deed) : Type 0 where
  pub number : e.number.0 ≡ c.op
  pub time : e.when ≡ when c.op
  pub finish : Finish
  pub comes : run (plan_of_line (hand_on segments (logical opening (items older)) c.hint) c.op (when c.op) c.asked) (having c.shown (store_after segments opening (items older)))
      ≡ Finishes finish
  pub said : e.reply ≡ finish.reply

-- where a part of a file lies in a marked sector, the runs cover each cell of the part
abbrev pub CoversMarks : ℕ → (ℕ → Block) → FileTree → (ℕ → Bool) → List CellRun → List Deed → Type 0
CoversMarks segments opening first_tree marked runs older =
    (birth part sector : ℕ) (lies : LiesAfter segments opening first_tree birth part sector older) → marked sector ≡ true →
    (at : ℕ) → SECTOR_BYTES * part ≤ at → at < SECTOR_BYTES * (part + 1) → at < lies.lies.stored.size → (one : CellRun) × Contains runs one × Covers one birth at

-- what the end of a recovery leaves in doubt on both sides does so
abbrev pub DoubtCoversMarks : Type 0
DoubtCoversMarks =
    (segments : ℕ) (when : ℕ → ℕ) (opening : ℕ → Block) (first_tree : FileTree) (numbers : List ℕ) (home : ℕ → LockId) (logged : ℕ → Bool) (first : ℕ → Option Block)
    (server number : ℕ) (deeds : List Deed) → IsToldTwice segments when opening first_tree numbers home logged first server number deeds →
    CoversMarks segments opening first_tree (in_doubt server number (items deeds)) (doubtful server first_tree (steps deeds)) deeds

-- each operation is shown, and each mark covered; an entry that does nothing to sectors leaves the tree
abbrev pub AllShown : ℕ → (ℕ → ℕ) → (ℕ → Block) → FileTree → List Deed → Type 0
AllShown segments when opening first_tree [] = Unit {0}
AllShown segments when opening first_tree (Does c e ∷ older) = IsShown segments when opening c e older × AllShown segments when opening first_tree older
AllShown segments when opening first_tree (Says e ∷ older) =
    (tree_after first_tree (Says e ∷ older) ≡ tree_after first_tree older) × AllShown segments when opening first_tree older
AllShown segments when opening first_tree (Doubts marked runs ∷ older) =
    CoversMarks segments opening first_tree marked runs older × AllShown segments when opening first_tree older

-- along each history that is told twice, whose reads agree with what was known, and whose entries say what the operations showed: where cells are known of the
-- first disk, they are known after it
abbrev pub CellsAreKnown : Type 0
CellsAreKnown =
    (segments : ℕ) (when : ℕ → ℕ) (opening : ℕ → Block) (first_tree : FileTree) (numbers : List ℕ) (home : ℕ → LockId) (logged : ℕ → Bool) (first : ℕ → Option Block)
    (server number : ℕ) (deeds : List Deed) → IsToldTwice segments when opening first_tree numbers home logged first server number deeds → Agree first (items deeds) →
    AllShown segments when opening first_tree deeds → KnowsCells segments opening logged first first_tree [] → KnowsCells segments opening logged first first_tree deeds

-- and so the reply of the next operation is the tree's answer, bytes included
abbrev pub RepliesAreAnswers : Type 0
RepliesAreAnswers =
    (segments : ℕ) (when : ℕ → ℕ) (opening : ℕ → Block) (first_tree : FileTree) (numbers : List ℕ) (home : ℕ → LockId) (logged : ℕ → Bool) (first : ℕ → Option Block)
    (server number : ℕ) (deeds : List Deed) (c : Commit) (e : Entry) → IsToldTwice segments when opening first_tree numbers home logged first server number deeds →
    AllShown segments when opening first_tree deeds → KnowsCells segments opening logged first first_tree [] →
    Legal (sector_plan segments when) opening (Done c ∷ items deeds) → Distinct (MayNumber numbers) first_tree (Done c ∷ items deeds) → IsByPlan c → Agree first (Done c ∷ items deeds) →
    e.op ≡ c.asked → IsShown segments when opening c e deeds → is_answer (tree_after first_tree deeds) e ≡ true
