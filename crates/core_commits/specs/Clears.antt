-- What a Clear of the core is: Clear of each of the eight sectors of a block that nobody has and that never was a directory's.
use Rattle.std.specs.Prelude.{◌≡◌, ◌<◌, ◌≤◌, ◌*◌, ◌/◌, ℕ, IsTrue, List, [], ◌∷◌, map, Some}
use Rattle.frang_base.specs.Functions.{put, put2}
use Rattle.frang_base.specs.declared.limits.TheConstants.{SEGMENT_BLOCKS}
use Rattle.frang_base.specs.declared.lock.LockId.TheVariants.{Segment}
use Rattle.frang_base.specs.declared.lock.Mode.TheVariants.{Sole}
use Rattle.sector_bytes.specs.Blocks.{Block, zero_block}
use Rattle.disk_definitions.specs.Store.Use.{Fresh}
use Rattle.tree_definitions.specs.Tree.{FileTree}
use Rattle.core_definitions.specs.Cores.{stage}
use Rattle.core_definitions.specs.Events as core
use Rattle.core_definitions.specs.Events.{Nothing}
use Rattle.core_definitions.specs.Lines.{Clearing}
use Rattle.core_definitions.specs.Rings.{is_all_reached}
use Rattle.core_definitions.specs.Runs.{State as RunMoment, next}
use Rattle.core_definitions.specs.Servers.{Server}
use Rattle.core_definitions.specs.Trees.{block_sectors}
use Rattle.sector_world.specs.Logged.{now_of}
use Rattle.sector_world.specs.Steps.{Run}
use Rattle.sector_world.specs.Steps.Event.{Clear}
use Rattle.sector_world.specs.World.{World, Page, DirtyPage, Up}
use Rattle.line_histories.specs.LinePlans.{store_on}
use Rattle.core_world.specs.Events.{LeadsUntold}
use Rattle.core_world.specs.Journals.{Journal}
use Rattle.core_world.specs.Steps.{IsWorldOf}
use Rattle.core_commits.specs.Standing.{StandsWhole}

-- the pages of a server with these sectors cleared, and what a read shows of them
abbrev pub cleared_pages : ℕ → (ℕ → ℕ → Page) → ℕ → List ℕ → ℕ → ℕ → Page
cleared_pages last page a [] = page
cleared_pages last page a (s ∷ sectors) = cleared_pages last (put2 page a s (DirtyPage zero_block last)) a sectors

abbrev pub cleared_truth : (ℕ → Block) → List ℕ → ℕ → Block
cleared_truth truth [] = truth
cleared_truth truth (s ∷ sectors) = cleared_truth (put truth s zero_block) sectors

-- the world with them
abbrev pub cleared_world : World → ℕ → List ℕ → World
cleared_world w a sectors = record w { page = cleared_pages (w.last a) w.page a sectors; truth = cleared_truth w.truth sectors }

-- a small block of the disk that nobody has and that never was a directory's, whose segment the server holds alone
pub record IsFreshBlock (segments : ℕ) (w : World) (a block : ℕ) : Type 0 where
  pub inside : block < SEGMENT_BLOCKS * segments
  pub fresh : (store_on segments (now_of w)).use_of block ≡ Fresh
  pub held : w.holds a (Segment (block / SEGMENT_BLOCKS)) ≡ Some Sole

-- its sectors are cleared one after another
abbrev pub BlocksAreCleared : Type 0
BlocksAreCleared =
    (segments : ℕ) (w : World) (tree : FileTree) (a block : ℕ) → StandsWhole segments w tree → IsFreshBlock segments w a block → w.phase a ≡ Up →
    Run w (map (Clear a) (block_sectors block)) (cleared_world w a (block_sectors block))

-- where all operations of the server are acknowledged, so is its whole log
abbrev pub IsReachedWithAll : (ℕ → Server) → World → ℕ → Type 0
IsReachedWithAll servers w a = w.last a ≤ w.acked a → IsTrue (is_all_reached (servers a).ring)

-- these events lead to the next moment with these journals, and of them there is nothing to tell
pub record LeadsByClears (w : World) (a block : ℕ) (v : RunMoment) (journal : ℕ → Journal) : Type 0 where
  pub untold : LeadsUntold w v journal
  pub by : untold.leads.events ≡ map (Clear a) (block_sectors block)

-- a Clear is these
abbrev pub ClearsAreEvents : Type 0
ClearsAreEvents =
    (s : RunMoment) (w : World) (journal : ℕ → Journal) (tree : FileTree) (a block : ℕ) → IsWorldOf s w journal → StandsWhole s.core.setting.segments w tree →
    stage s.core a ≡ Some (Clearing block) → IsFreshBlock s.core.setting.segments w a block → IsReachedWithAll s.core.servers w a → LeadsByClears w a block (next s (core.Clear a block) Nothing) journal
