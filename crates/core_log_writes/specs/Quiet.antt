-- Marks behind quiet events: what is dirty then was so before, with the same mark, so that marks lie where they did.
use Rattle.std.specs.Prelude.{◌≡◌, ◌≤◌, ℕ, IsTrue, List, Some}
use Rattle.sector_bytes.specs.Blocks.{Block}
use Rattle.sector_bytes.specs.SectorMaps.{value_at}
use Rattle.cache_definitions.specs.declared.dirt.Dirt.{Dirt}
use Rattle.cache_definitions.specs.Caches.{CachedSector}
use Rattle.core_definitions.specs.LineGuards.{is_server}
use Rattle.core_definitions.specs.Servers.{Server}
use Rattle.sector_world.specs.Histories.{settled}
use Rattle.sector_world.specs.Kinds.{Good}
use Rattle.sector_world.specs.Steps.{Event, Run}
use Rattle.sector_world.specs.World.{World, Dirty, DirtyPage}
use Rattle.core_world.specs.Beside.{AreEnds}
use Rattle.core_world.specs.Journals.{IsOwn, Journal}
use Rattle.core_world.specs.Quiet.{AllQuiet}

-- each dirty slot and page was dirty before, with the same block and mark, and no log is known less
pub record KeepsMarks (w u : World) : Type 0 where
  pub slots : (a s : ℕ) (block : Block) (m : ℕ) → u.slot a s ≡ Dirty block m → w.slot a s ≡ Dirty block m
  pub pages : (a s : ℕ) (block : Block) (m : ℕ) → u.page a s ≡ DirtyPage block m → w.page a s ≡ DirtyPage block m
  pub acked : (a : ℕ) → w.acked a ≤ u.acked a

-- so it is behind a quiet run
abbrev pub QuietRunsKeepMarks : Type 0
QuietRunsKeepMarks = (segments : ℕ) (w u : World) (events : List Event) → Run w events u → AllQuiet segments w events → Good w → KeepsMarks w u

-- A server's sector that is dirty with this mark was so before; its log isn't acknowledged less, its operations end where they did, and are settled still
pub record WasMarked (servers next : ℕ → Server) (w u : World) (journal further : ℕ → Journal) (a s mark : ℕ) : Type 0 where
  pub old : CachedSector
  pub was : value_at (servers a).cache s ≡ Some old
  pub dirt : Dirt
  pub is_dirty : old.dirt ≡ Some dirt
  pub mark_is : dirt.mark ≡ mark
  pub reached : (servers a).ring.reached ≤ (next a).ring.reached
  pub ends : (m : ℕ) → (further a).ends m ≡ (journal a).ends m
  pub own : (m : ℕ) → IsOwn a m (settled w.history) → IsOwn a m (settled u.history)

-- where so is each that is dirty, marks lie where operations end still
abbrev pub EndsGoOn : Type 0
EndsGoOn =
    (servers next : ℕ → Server) (w u : World) (journal further : ℕ → Journal) → KeepsMarks w u →
    ((a s : ℕ) (cached : CachedSector) (dirt : Dirt) → IsTrue (is_server a) → value_at (next a).cache s ≡ Some cached → cached.dirt ≡ Some dirt → WasMarked servers next w u journal further a s dirt.mark) →
    AreEnds servers w journal → AreEnds next u further
