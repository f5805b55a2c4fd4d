-- A moment of servers whose operations are lines, with the history of what happened told twice: what is asked of it for what it keeps, and for what is legal.
use Rattle.std.specs.Prelude.{◌≡◌, ◌≢◌, ℕ, List, []}
use Rattle.tree_definitions.specs.History.{Opening}
use Rattle.tree_definitions.specs.Tree.{FileTree}
use Rattle.sector_world.specs.Histories.{settled}
use Rattle.sector_world.specs.Kinds.{Good}
use Rattle.sector_world.specs.Planned.{IsLegal}
use Rattle.sector_world.specs.Trees.{Distinct}
use Rattle.sector_world.specs.World.{World}
use Rattle.sector_world.specs.World.Phase.{Off}
use Rattle.disk_definitions.specs.Meets.{directory_blocks_in}
use Rattle.line_histories.specs.LinePlans.{sector_plan}
use Rattle.line_histories.specs.Following.{Follows, store_after}
use Rattle.line_histories.specs.Standing.{StandsNumbered}
use Rattle.line_histories.specs.Trees.{AreTimes, MayNumber}
use Rattle.stop_laws.specs.Events.{IsInSight}
use Rattle.stop_laws.specs.Happened.{Happening, on_sectors, settle}
use Rattle.stop_laws.specs.Known.{KnowsCells}
use Rattle.stop_laws.specs.Paired.{ArePaired, IsKeptBy}
use Rattle.stop_laws.specs.Replies.{SaidWhereItHappened}
use Rattle.stop_laws.specs.Synced.{AllSaidAtOnce}

-- The world is good, in sight, and its history of legal lines with new numbers; the history told twice is the world's on the side of sectors, its lines are paired, and
-- the entries of its syncs and unmounts come once all is synced
pub record IsMoment (segments : ℕ) (when : ℕ → ℕ) (first_tree : FileTree) (numbers : List ℕ) (w : World) (h : List Happening) : Type 0 where
  pub times : AreTimes when
  pub stands : StandsNumbered segments w.opening (record { tree = first_tree; numbers = numbers })
  pub follows : Follows segments w.opening w.home w.logged w.first []
  pub legal : IsLegal (sector_plan segments when) w
  pub distinct : Distinct (MayNumber numbers) first_tree (settled w.history)
  pub good : Good w
  pub sight : IsInSight w
  pub told : on_sectors h ≡ w.history
  pub paired : ArePaired segments when w.opening first_tree numbers h
  pub synced : AllSaidAtOnce h

-- the logs of the servers that aren't off, by the greatest number of the records of each
abbrev pub LogsKeep : FileTree → World → (greatest : ℕ → ℕ) → List Happening → Type 0
LogsKeep first_tree w greatest h = (server : ℕ) → w.phase server ≢ Off → IsKeptBy server (greatest server) (w.durable server) (settle first_tree h)

-- each entry says what its operation showed; cells are known of the first disk, of whose blocks so many are or were a directory's as the opening counts
pub record IsShownFrom (segments : ℕ) (when : ℕ → ℕ) (opening : Opening) (w : World) (h : List Happening) : Type 0 where
  pub said : SaidWhereItHappened segments when w.opening h
  pub knows : KnowsCells segments w.opening w.logged w.first opening.tree []
  pub counted : directory_blocks_in (store_after segments w.opening []) segments ≡ opening.dir_blocks
