-- What a stop leaves where the first disk stands for the fresh tree: nothing is asked of that disk but that it does, with versions left.
use Rattle.std.specs.Prelude.{◌≡◌, ◌≢◌, ℕ, None, List}
use Rattle.tree_definitions.specs.Removal.{tree_from}
use Rattle.tree_definitions.specs.Tree.{fresh}
use Rattle.sector_world.specs.Histories.{settled}
use Rattle.sector_world.specs.Claims.{replayed}
use Rattle.sector_world.specs.Kinds.{Good}
use Rattle.sector_world.specs.Planned.{IsLegal}
use Rattle.sector_world.specs.Trees.{Distinct}
use Rattle.sector_world.specs.World.{World}
use Rattle.sector_world.specs.World.Phase.{Off}
use Rattle.disk_definitions.specs.Standing.{StandsFor}
use Rattle.line_histories.specs.LinePlans.{sector_plan}
use Rattle.line_histories.specs.Standing.{StandsNumbered}
use Rattle.line_histories.specs.Trees.{AreTimes, MayNumber}
use Rattle.stop_laws.specs.FreshDisks.{fresh_home, fresh_logged}
use Rattle.stop_laws.specs.Happened.{Happening, on_sectors, on_tree, settle}
use Rattle.stop_laws.specs.Paired.{ArePaired, IsKeptBy}
use Rattle.stop_laws.specs.Settling.{stopped}
use Rattle.stop_laws.specs.Replies.{SaidWhereItHappened}
use Rattle.stop_laws.specs.Events.{IsInSight}
use Rattle.stop_laws.specs.Synced.{AllSaidAtOnce}

-- servers that began over a disk of the fresh tree: its covers and kinds are those of such a disk, and no bytes are known
pub record BeganFresh (segments : ℕ) (numbers : List ℕ) (w : World) : Type 0 where
  pub stands : StandsNumbered segments w.opening (record { tree = fresh segments; numbers = numbers })
  pub home : w.home ≡ fresh_home segments
  pub logged : w.logged ≡ fresh_logged segments w.opening
  pub first : w.first ≡ (λ (sector : ℕ). None)

-- then at each moment the replayed disk stands for the tree of their history
abbrev pub AFreshDiskStandsForTheHistory : Type 0
AFreshDiskStandsForTheHistory =
    (segments : ℕ) (when : ℕ → ℕ) (numbers : List ℕ) (w : World) (greatest : ℕ → ℕ) (h : List Happening) → AreTimes when → BeganFresh segments numbers w →
    IsLegal (sector_plan segments when) w → Distinct (MayNumber numbers) (fresh segments) (settled w.history) → Good w → on_sectors h ≡ w.history →
    ArePaired segments when w.opening (fresh segments) numbers h →
    ((server : ℕ) → w.phase server ≢ Off → IsKeptBy server (greatest server) (w.durable server) (settle (fresh segments) h)) →
    IsInSight w → SaidWhereItHappened segments when w.opening h → AllSaidAtOnce h →
    StandsFor (replayed w w.servers) (tree_from (fresh segments) (on_tree (stopped w greatest w.servers h)))
