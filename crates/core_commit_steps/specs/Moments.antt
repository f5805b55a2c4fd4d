-- All that stands beside a moment of a run and its world for the events of lines that do something, each of which keeps it.
use Rattle.std.specs.Prelude.{◌≡◌, ◌⊎◌, ℕ, IsTrue, List}
use Rattle.frang_base.specs.declared.limits.TheConstants.{SERVERS}
use Rattle.tree_definitions.specs.Tree.{FileTree}
use Rattle.core_definitions.specs.LineGuards.{is_server}
use Rattle.core_definitions.specs.Rings.{is_all_reached}
use Rattle.core_definitions.specs.Runs.{State as RunMoment}
use Rattle.core_definitions.specs.Servers.{Server, is_in_mount}
use Rattle.sector_world.specs.Histories.{Entry, settled}
use Rattle.sector_world.specs.Steps.{Event}
use Rattle.sector_world.specs.World.{World}
use Rattle.core_world.specs.Beside.{AreEnds, AreOpen, NoneInLogs}
use Rattle.core_world.specs.Journals.{IsOwn, Journal}
use Rattle.core_world.specs.Steps.{Leads}
use Rattle.core_lives.specs.Room.{HasRoom}
use Rattle.core_lives.specs.Steps.{HasEntries}
use Rattle.core_commits.specs.Moments.{IsOfARun}
use Rattle.core_line_steps.specs.Held.{WritesAreHeld}
use Rattle.core_line_steps.specs.Numbers.{AreNumbered, IsAskedWell}
use Rattle.core_line_steps.specs.Pending.{AreClearedSo}
use Rattle.core_writes.specs.Arrivals.{AreAcknowledged}

-- of each mounted server the last operation is one of what has settled; or nothing was appended since its mount, and the whole log is acknowledged
abbrev pub LastsAreSettled : (ℕ → Server) → World → Type 0
LastsAreSettled servers w =
    (a : ℕ) → IsTrue (is_server a) → IsTrue (is_in_mount (servers a).phase) → IsOwn a (w.last a) (settled w.history) ⊎ IsTrue (is_all_reached (servers a).ring)

-- a moment of a run of a script that may be asked, with its world of sixteen servers, whose history is of lines, and all ties beside
pub record StandsBeside (s : RunMoment) (w : World) (journal : ℕ → Journal) (when : ℕ → ℕ) (first_tree : FileTree) (numbers : List ℕ) : Type 0 where
  pub run : IsOfARun s w journal when first_tree numbers
  pub sixteen : w.servers ≡ SERVERS
  pub asked : IsAskedWell s.core.setting when first_tree numbers
  pub numbered : AreNumbered s.core.setting s.core.answered w
  pub cleared : AreClearedSo s.core.servers w
  pub held : WritesAreHeld s.core
  pub ends : AreEnds s.core.servers w journal
  pub open_ : AreOpen s.core.servers s.core.now s.disk journal
  pub none : NoneInLogs s.core.setting.segments w
  pub acknowledged : AreAcknowledged w
  pub lasts : LastsAreSettled s.core.servers w
  pub room : (a : ℕ) → IsTrue (is_server a) → HasRoom s a

-- events that may happen lead to a world of the next moment with these journals, these entries tell of them, both are as is told, and all of it stands beside that
pub record LineGoesOn (w : World) (v : RunMoment) (journal : ℕ → Journal) (when : ℕ → ℕ) (first_tree : FileTree) (numbers : List ℕ) (By : List Event → List Entry → Type 0) : Type 0 where
  pub leads : Leads w v journal
  pub entries : List Entry
  pub story : HasEntries w leads.world entries
  pub by : By leads.events entries
  pub beside : StandsBeside v leads.world journal when first_tree numbers
