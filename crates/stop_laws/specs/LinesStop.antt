-- What a stop leaves by the lines said is what it leaves by the world of the theorem on sectors.
use Rattle.std.specs.Prelude.{◌≡◌, ◌<◌, ℕ, Bool, true, false, List}
use Rattle.std.specs.List.{list_any}
use Rattle.frang_base.specs.declared.said.Said.{Said}
use Rattle.frang_base.specs.declared.script.Line.{Line}
use Rattle.tree_definitions.specs.Live.{live_history}
use Rattle.tree_definitions.specs.Transcript.{is_mounted_or_dead, is_node, left_history}
use Rattle.sector_world.specs.World.{World, Phase}
use Rattle.sector_world.specs.World.Phase.{Off, Up, Dead}
use Rattle.stop_laws.specs.Happened.{Happening, on_tree}
use Rattle.stop_laws.specs.Settling.{stopped}

-- a server that isn't off
abbrev pub is_on : Phase → Bool
is_on Off = false
is_on Up = true
is_on Dead = true

-- Of its sixteen servers the lines said tell as much as the world: each is up, stalled or dead by them exactly where it isn't off in the world; and from the first
-- line of the tree on all are off there.
pub record AreToldOf (script : List Line) (saids : List Said) (w : World) : Type 0 where
  pub count : w.servers ≡ 16
  pub phases : list_any is_node saids ≡ false → (server : ℕ) → server < w.servers → is_mounted_or_dead script saids server ≡ is_on (w.phase server)
  pub closed : list_any is_node saids ≡ true → (server : ℕ) → server < w.servers → w.phase server ≡ Off

-- then the history with the recoveries of all logs is the one that a stop leaves by the lines said
abbrev pub StopsLeaveWhatLinesTell : Type 0
StopsLeaveWhatLinesTell =
    (script : List Line) (run : ℕ) (saids : List Said) (w : World) (greatest : ℕ → ℕ) (h : List Happening) → AreToldOf script saids w →
    on_tree h ≡ live_history script run saids → on_tree (stopped w greatest w.servers h) ≡ left_history script run saids greatest
