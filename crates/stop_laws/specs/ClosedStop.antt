-- A stop while servers were closed, which are up by the lines said: a recovery more of each of them, which removes nothing, leaves a disk that stands for the tree of the history.
use Rattle.std.specs.Prelude.{◌≡◌, ◌<◌, ℕ, Bool, true, false, not, List, [], ◌∷◌, filter}
use Rattle.std.specs.List.{list_any}
use Rattle.frang_base.specs.declared.said.Said.{Said}
use Rattle.frang_base.specs.declared.script.Line.{Line}
use Rattle.tree_definitions.specs.declared.history.Item.{Item}
use Rattle.tree_definitions.specs.History.{Settled}
use Rattle.tree_definitions.specs.Live.{dropped_for, live_history}
use Rattle.tree_definitions.specs.Numbers.{below}
use Rattle.tree_definitions.specs.Removal.{left, recovered, settled, tree_from}
use Rattle.tree_definitions.specs.Transcript.{is_mounted_or_dead, is_node, left_history}
use Rattle.tree_definitions.specs.Tree.{FileTree}
use Rattle.tree_definitions.specs.WellFormed.{BirthsAscend}
use Rattle.sector_bytes.specs.Sectors.{Sectors}
use Rattle.sector_world.specs.World.{World}
use Rattle.disk_definitions.specs.Standing.{StandsFor}
use Rattle.stop_laws.specs.Happened.{Happening, on_tree}
use Rattle.stop_laws.specs.LinesStop.{is_on}
use Rattle.stop_laws.specs.Settling.{stopped}

-- the servers that weren't closed
abbrev pub still_open : (ℕ → Bool) → List ℕ → List ℕ
still_open closed servers = filter (λ server. not (closed server)) servers

-- the recoveries of these servers, in their order, remove nothing of what a closed one did
abbrev pub ClosedKeepAll : FileTree → (ℕ → Bool) → (ℕ → ℕ) → List ℕ → List Settled → Type 0
ClosedKeepAll first_tree closed greatest [] list = Unit {0}
ClosedKeepAll first_tree closed greatest (server ∷ servers) list =
    (closed server ≡ true → left server (greatest server) first_tree list ≡ list) × ClosedKeepAll first_tree closed greatest servers (recovered first_tree server (greatest server) list)

-- then a disk that stands for the tree of the history with the recoveries of the others stands for that with the recoveries of all
abbrev pub ClosedServersStand : Type 0
ClosedServersStand =
    (disk : Sectors) (first_tree : FileTree) (history : List Item) (closed : ℕ → Bool) (greatest : ℕ → ℕ) (servers : List ℕ) → BirthsAscend first_tree →
    ClosedKeepAll first_tree closed greatest servers (settled first_tree history) → StandsFor disk (tree_from first_tree (dropped_for history (still_open closed servers) greatest)) →
    StandsFor disk (tree_from first_tree (dropped_for history servers greatest))

-- a server that is off in the world
abbrev pub is_closed : World → ℕ → Bool
is_closed w server = not (is_on (w.phase server))

-- so where each server that isn't off in the world is up, stalled or dead by the lines said, and no line of the tree was said: a disk that stands for the tree of the history with the
-- recoveries of all logs stands for that of the history which a stop leaves by the lines
abbrev pub StopsStandForWhatLinesTell : Type 0
StopsStandForWhatLinesTell =
    (script : List Line) (run : ℕ) (saids : List Said) (w : World) (greatest : ℕ → ℕ) (h : List Happening) (first_tree : FileTree) (disk : Sectors) → w.servers ≡ 16 →
    list_any is_node saids ≡ false → ((server : ℕ) → server < w.servers → is_on (w.phase server) ≡ true → is_mounted_or_dead script saids server ≡ true) →
    on_tree h ≡ live_history script run saids → BirthsAscend first_tree →
    ClosedKeepAll first_tree (is_closed w) greatest (filter (is_mounted_or_dead script saids) (below 16)) (settled first_tree (live_history script run saids)) →
    StandsFor disk (tree_from first_tree (on_tree (stopped w greatest w.servers h))) → StandsFor disk (tree_from first_tree (left_history script run saids greatest))
