-- The events of a line at a moment of a run, whose world has a history of lines.
use Rattle.std.specs.Prelude.{◌≡◌, ◌≢◌, ◌<◌, ℕ, Bool, IsTrue, List, [], ◌∷◌, ◌++◌, filter, map, Ok, Some, true, false}
use Rattle.std.specs.Map.{keys_of}
use Rattle.frang_base.specs.declared.lock.LockId.{LockId}
use Rattle.frang_base.specs.declared.op.Op.{Op}
use Rattle.frang_base.specs.declared.script.Line.{Line}
use Rattle.script_definitions.specs.ScriptText.{script_of}
use Rattle.cache_definitions.specs.Caches.{Cache}
use Rattle.sector_bytes.specs.Blocks.{Block}
use Rattle.sector_bytes.specs.Sectors.{Sectors}
use Rattle.tree_definitions.specs.Tree.{FileTree}
use Rattle.disk_definitions.specs.Allowed.{IsAllowed}
use Rattle.line_laws.specs.Laws.{HasPath}
use Rattle.line_histories.specs.Following.{Follows}
use Rattle.line_histories.specs.Standing.{StandsNumbered}
use Rattle.line_histories.specs.Trees.{AreTimes, MayNumber}
use Rattle.core_definitions.specs.Cores.{Core, stage}
use Rattle.core_definitions.specs.Events as core
use Rattle.core_definitions.specs.Events.{Got, Nothing}
use Rattle.core_definitions.specs.Lines.{Finishing, Under, operation_of}
use Rattle.core_definitions.specs.Plans as plans
use Rattle.core_definitions.specs.Runs.{State as RunMoment, Makes, first_state, next}
use Rattle.core_definitions.specs.Servers.{is_up}
use Rattle.core_definitions.specs.Settings.{setting_of}
use Rattle.core_facts.specs.Blocks.{IsWholeDisk}
use Rattle.sector_world.specs.Histories.{Commit, Each, settled}
use Rattle.sector_world.specs.Kinds.{Good}
use Rattle.sector_world.specs.Steps.{Run, after}
use Rattle.sector_world.specs.Steps.Event.{Do, Fetch}
use Rattle.sector_world.specs.World.{World}
use Rattle.core_world.specs.Events.{LeadsQuietly, first_world}
use Rattle.core_world.specs.Journals.{AreZero, Journal}
use Rattle.core_world.specs.Steps.{IsReached, IsWorldOf}
use Rattle.core_world.specs.Ties.{AreCached, AreFlying}
use Rattle.core_commits.specs.Clears.{IsReachedWithAll, LeadsByClears}
use Rattle.core_commits.specs.Commits.{AreClaimed, AreClaimedClean, IsDoneAs, WritesHoldTheirCovers, fetched_world}
use Rattle.core_commits.specs.Finished.{IsOutcomeNow, number_in, time_of}
use Rattle.core_commits.specs.Operations.{MayBeDone, operation_in}
use Rattle.core_commits.specs.Stages.{IsFinished, sight_in}
use Rattle.core_commits.specs.Standing.{AreSegmentsOf, IsOfLines, StandsWhole, tree_now}
use Rattle.core_commits.specs.Zeros.{FreePagesAreZeros}

-- the segments of each set are of the disk
abbrev pub SetsAreOfTheDisk : Core → Type 0
SetsAreOfTheDisk c = (a : ℕ) (under : Under) → (c.servers a).under ≡ Some under → AreSegmentsOf c.setting.segments under.set

-- a moment of a run over a disk whose sectors behind the logs have 512 bytes, with its world, whose history is of lines
pub record IsOfARun (s : RunMoment) (w : World) (journal : ℕ → Journal) (when : ℕ → ℕ) (first_tree : FileTree) (numbers : List ℕ) : Type 0 where
  pub reached : IsReached s
  pub whole : IsWholeDisk reached.disk
  pub world : IsWorldOf s w journal
  pub good : Good w
  pub zeros : FreePagesAreZeros w
  pub lines : IsOfLines s.core.setting.segments when first_tree numbers w
  pub sets : SetsAreOfTheDisk s.core

-- so it is of the first moment, over a disk with zero logs of the servers whose sectors with versions stand for a tree and say covers, kinds and free sectors
abbrev pub FirstMomentsAreOfARun : Type 0
FirstMomentsAreOfARun =
    (bytes : List ℕ) (script : List Line) (segments run : ℕ) (disk : Sectors) (logged of_files : ℕ → Bool) (home : ℕ → LockId) (journal : ℕ → Journal) (when : ℕ → ℕ) (first_tree : FileTree) (numbers : List ℕ) →
    script_of bytes ≡ Ok script → IsWholeDisk disk → AreZero disk → AreTimes when →
    StandsNumbered segments (first_world disk logged of_files home).opening (record { tree = first_tree; numbers = numbers }) →
    Follows segments (first_world disk logged of_files home).opening home logged (first_world disk logged of_files home).first [] → logged 0 ≡ true →
    IsOfARun (first_state (setting_of script segments run) disk) (first_world disk logged of_files home) journal when first_tree numbers

-- a Fetch by a server that is up
abbrev pub FetchesOfLinesAreEvents : Type 0
FetchesOfLinesAreEvents =
    (s : RunMoment) (w : World) (journal : ℕ → Journal) (when : ℕ → ℕ) (first_tree : FileTree) (numbers : List ℕ) (a sector : ℕ) (block : Block) →
    IsOfARun s w journal when first_tree numbers → Makes s (core.Fetch a sector) (Got block) → IsTrue (is_up (s.core.servers a).phase) → LeadsQuietly w (next s (core.Fetch a sector) (Got block)) journal

-- the line under way of a server may be asked and has a path; its number is above those of its server, new to the first tree and to the history, and it has this time
pub record IsNumbered (s : RunMoment) (w : World) (when : ℕ → ℕ) (first_tree : FileTree) (numbers : List ℕ) (a : ℕ) (line : ℕ) (operation : Op) : Type 0 where
  pub allowed : IsAllowed operation
  pub path : HasPath operation
  pub above : w.last a < number_in s.core.setting line
  pub new : MayNumber numbers (number_in s.core.setting line) first_tree
  pub others : Each (λ e. e.op ≢ number_in s.core.setting line) (settled w.history)
  pub time : when (number_in s.core.setting line) ≡ time_of s.core.setting line

abbrev pub LinesAreNumbered : RunMoment → World → (ℕ → ℕ) → FileTree → List ℕ → ℕ → Type 0
LinesAreNumbered s w when first_tree numbers a =
    (under : Under) (operation : Op) → (s.core.servers a).under ≡ Some under → operation_of under.line.what ≡ Some operation → IsNumbered s w when first_tree numbers a under.line.number operation

-- a Clear
abbrev pub ClearsOfLinesAreEvents : Type 0
ClearsOfLinesAreEvents =
    (s : RunMoment) (w : World) (journal : ℕ → Journal) (when : ℕ → ℕ) (first_tree : FileTree) (numbers : List ℕ) (a block : ℕ) → IsOfARun s w journal when first_tree numbers →
    Makes s (core.Clear a block) Nothing → LinesAreNumbered s w when first_tree numbers a → IsReachedWithAll s.core.servers w a → LeadsByClears w a block (next s (core.Clear a block) Nothing) journal

-- ---- a Commit

-- the sectors with these claims that a server has cached
abbrev pub claimed_in : Cache → (ℕ → Bool) → List ℕ
claimed_in cache claims = filter claims (keys_of cache)

-- A Commit's line is an outcome over the logical sectors; where what it claims is cached clean, the claimed sectors are fetched and its operation is done
pub record IsOperation (s : RunMoment) (w : World) (when : ℕ → ℕ) (tree : FileTree) (a : ℕ) (outcome : plans.Outcome) : Type 0 where
  pub on : StandsWhole s.core.setting.segments w tree
  pub f : IsFinished s.core.setting s.core.locks a (s.core.servers a) outcome
  pub out : IsOutcomeNow s.core.setting.segments when w (sight_in s.core.setting (s.core.servers a) f.line.under) on.now.stands.naming (number_in s.core.setting f.line.under.line.number) f.line.operation f.finish
  pub done :
      let claimed = claimed_in (s.core.servers a).cache out.o.claims in
      let c = operation_in w a (number_in s.core.setting f.line.under.line.number) claimed (keys_of (sight_in s.core.setting (s.core.servers a) f.line.under).held) f.line.operation out.o in
      AreClaimedClean (s.core.servers a).cache c →
      AreClaimed c claimed × MayBeDone w a (number_in s.core.setting f.line.under.line.number) claimed (keys_of (sight_in s.core.setting (s.core.servers a) f.line.under).held) f.line.operation out.o
      × Run w (map (Fetch a) claimed ++ Do c ∷ []) (after (fetched_world w a claimed) (Do c))

abbrev pub CommitsOfLinesMayBeDone : Type 0
CommitsOfLinesMayBeDone =
    (s : RunMoment) (w : World) (journal : ℕ → Journal) (when : ℕ → ℕ) (first_tree : FileTree) (numbers : List ℕ) (a : ℕ) (outcome : plans.Outcome) →
    IsOfARun s w journal when first_tree numbers → stage s.core a ≡ Some (Finishing outcome) → LinesAreNumbered s w when first_tree numbers a → IsOperation s w when (tree_now when first_tree w) a outcome

-- the operation of a Commit's line, with what it claims
abbrev pub operation_at : (s : RunMoment) (w : World) (when : ℕ → ℕ) (tree : FileTree) (a : ℕ) (outcome : plans.Outcome) → IsOperation s w when tree a outcome → Commit
operation_at s w when tree a outcome op =
    operation_in w a (number_in s.core.setting op.f.line.under.line.number) (claimed_in (s.core.servers a).cache op.out.o.claims) (keys_of (sight_in s.core.setting (s.core.servers a) op.f.line.under).held)
    op.f.line.operation op.out.o

-- after it caches and writes in flight are those of the next moment, with covers and kinds as they are after the operation
pub record IsKept (s : RunMoment) (a : ℕ) (u : World) : Type 0 where
  pub cached : AreCached (next s (core.Commit a) Nothing).core.servers u
  pub flying : s.core.over ≡ false → AreFlying s.core.setting.segments s.core.now (next s (core.Commit a) Nothing).core.flights u

-- so it is where what it claims is cached clean, and the servers of writes in place of present mounts hold their covers alone
abbrev pub CommitsOfLinesKeepTies : Type 0
CommitsOfLinesKeepTies =
    (s : RunMoment) (w : World) (journal : ℕ → Journal) (when : ℕ → ℕ) (first_tree : FileTree) (numbers : List ℕ) (a : ℕ) (outcome : plans.Outcome) → IsOfARun s w journal when first_tree numbers →
    stage s.core a ≡ Some (Finishing outcome) → (op : IsOperation s w when (tree_now when first_tree w) a outcome) →
    let c = operation_at s w when (tree_now when first_tree w) a outcome op in
    LinesAreNumbered s w when first_tree numbers a → AreClaimedClean (s.core.servers a).cache c → WritesHoldTheirCovers w s.core.flights →
    IsKept s a (after (fetched_world w a (claimed_in (s.core.servers a).cache op.out.o.claims)) (Do c))

-- what the core makes of a finished line is its operation: its record, the covers that it moves, the bytes that it sets and those that it frees
abbrev pub FinishedLinesAreDone : Type 0
FinishedLinesAreDone =
    (s : RunMoment) (w : World) (journal : ℕ → Journal) (when : ℕ → ℕ) (first_tree : FileTree) (numbers : List ℕ) (a : ℕ) (outcome : plans.Outcome) → IsOfARun s w journal when first_tree numbers →
    LinesAreNumbered s w when first_tree numbers a → (op : IsOperation s w when (tree_now when first_tree w) a outcome) →
    IsDoneAs outcome (operation_at s w when (tree_now when first_tree w) a outcome op) w
