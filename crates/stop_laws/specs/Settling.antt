-- A history that is told twice settles alike on both sides: recovery by recovery, and at a stop of all servers.
use Rattle.std.specs.Prelude.{◌≡◌, ◌≢◌, ◌↔◌, ℕ, zero, suc, false, List, [], ◌∷◌}
use Rattle.tree_definitions.specs.declared.history.Entry.{Entry}
use Rattle.tree_definitions.specs.Removal.{is_recorded}
use Rattle.tree_definitions.specs.Removal as trees
use Rattle.tree_definitions.specs.Tree.{FileTree}
use Rattle.sector_bytes.specs.Blocks.{Block}
use Rattle.sector_world.specs.Histories.{Commit, settled}
use Rattle.sector_world.specs.Plans.{Legal}
use Rattle.sector_world.specs.Claims.{left}
use Rattle.sector_world.specs.Kinds.{Good}
use Rattle.sector_world.specs.Planned.{IsLegal}
use Rattle.sector_world.specs.Trees.{Distinct}
use Rattle.sector_world.specs.World.{World, Phase}
use Rattle.sector_world.specs.World.Phase.{Off, Up, Dead}
use Rattle.line_histories.specs.LinePlans.{sector_plan}
use Rattle.line_histories.specs.Standing.{StandsNumbered}
use Rattle.line_histories.specs.Trees.{AreTimes, MayNumber}
use Rattle.byte_trees.specs.Deeds.{Deed, Does, items, steps, tree_after}
use Rattle.stop_laws.specs.Along.{HasShape}
use Rattle.stop_laws.specs.Happened.{Happening, Recovers, on_sectors, on_tree, settle}
use Rattle.stop_laws.specs.Paired.{AreLines, ArePaired, IsKeptBy}

-- ---- lines of both sides, after a legal history with new numbers

-- the file tree has the shape that the operations gave it
abbrev pub ShapesFollow : Type 0
ShapesFollow =
    (segments : ℕ) (when : ℕ → ℕ) (opening : ℕ → Block) (first_tree : FileTree) (numbers : List ℕ) (deeds : List Deed) → AreTimes when →
    StandsNumbered segments opening (record { tree = first_tree; numbers = numbers }) → Legal (sector_plan segments when) opening (items deeds) →
    Distinct (MayNumber numbers) first_tree (items deeds) → AreLines when deeds → HasShape when first_tree deeds

-- an operation has a record exactly where its entry is one that a removal may lose
abbrev pub RecordsAreLosses : Type 0
RecordsAreLosses =
    (segments : ℕ) (when : ℕ → ℕ) (opening : ℕ → Block) (first_tree : FileTree) (numbers : List ℕ) → AreTimes when →
    StandsNumbered segments opening (record { tree = first_tree; numbers = numbers }) →
    (c : Commit) (e : Entry) (older : List Deed) → Legal (sector_plan segments when) opening (items (Does c e ∷ older)) →
    Distinct (MayNumber numbers) first_tree (items (Does c e ∷ older)) → AreLines when (Does c e ∷ older) → (c.changes ≡ []) ↔ (is_recorded (tree_after first_tree older) e ≡ false)

-- ---- recoveries

-- the deeds that are left are told on the side of sectors by what has settled there, and on the side of the tree by what has settled there
pub record SettlesAlike (first_tree : FileTree) (h : List Happening) : Type 0 where
  pub sectors : items (settle first_tree h) ≡ settled (on_sectors h)
  pub tree : steps (settle first_tree h) ≡ trees.settled first_tree (on_tree h)

-- so it is of each history whose lines are paired, whatever was recovered
abbrev pub HistoriesSettleAlike : Type 0
HistoriesSettleAlike =
    (segments : ℕ) (when : ℕ → ℕ) (opening : ℕ → Block) (first_tree : FileTree) (numbers : List ℕ) (h : List Happening) → AreTimes when →
    StandsNumbered segments opening (record { tree = first_tree; numbers = numbers }) → ArePaired segments when opening first_tree numbers h → SettlesAlike first_tree h

-- ---- a stop

-- a server that is off has nothing to recover
abbrev pub recovers_by : Phase → (server greatest durable : ℕ) → List Happening → List Happening
recovers_by Off server greatest durable h = h
recovers_by Up server greatest durable h = Recovers server greatest durable ∷ h
recovers_by Dead server greatest durable h = Recovers server greatest durable ∷ h

-- with the recoveries of the logs of the servers below a number, in their order, each by the greatest number of its records
abbrev pub stopped : World → (greatest : ℕ → ℕ) → ℕ → List Happening → List Happening
stopped w greatest zero h = h
stopped w greatest (suc n) h = recovers_by (w.phase n) n (greatest n) (w.durable n) (stopped w greatest n h)

-- at each moment of servers: the deeds that recoveries of all logs would leave are told on both sides by what these would leave there
pub record StopsAlike (first_tree : FileTree) (w : World) (greatest : ℕ → ℕ) (h : List Happening) : Type 0 where
  pub sectors : items (settle first_tree (stopped w greatest w.servers h)) ≡ left w w.servers
  pub tree : steps (settle first_tree (stopped w greatest w.servers h)) ≡ trees.settled first_tree (on_tree (stopped w greatest w.servers h))

abbrev pub StopsSettleAlike : Type 0
StopsSettleAlike =
    (segments : ℕ) (when : ℕ → ℕ) (first_tree : FileTree) (numbers : List ℕ) (w : World) (greatest : ℕ → ℕ) (h : List Happening) → AreTimes when →
    StandsNumbered segments w.opening (record { tree = first_tree; numbers = numbers }) → IsLegal (sector_plan segments when) w →
    Distinct (MayNumber numbers) first_tree (settled w.history) → Good w → on_sectors h ≡ w.history → ArePaired segments when w.opening first_tree numbers h →
    ((server : ℕ) → w.phase server ≢ Off → IsKeptBy server (greatest server) (w.durable server) (settle first_tree h)) → StopsAlike first_tree w greatest h
