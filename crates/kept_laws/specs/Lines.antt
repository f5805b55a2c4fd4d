-- What the lines said tell keeps what must be kept, and is legal: the live history, and the one that a stop leaves by the lines.
use Rattle.std.specs.Prelude.{◌≡◌, ℕ, List}
use Rattle.frang_base.specs.declared.said.Said.{Said}
use Rattle.frang_base.specs.declared.script.Line.{Line}
use Rattle.tree_definitions.specs.History.{Opening}
use Rattle.tree_definitions.specs.Live.{live_history}
use Rattle.tree_definitions.specs.Removal as trees
use Rattle.tree_definitions.specs.Transcript.{left_history}
use Rattle.sector_world.specs.World.{World}
use Rattle.stop_laws.specs.Happened.{Happening, on_tree}
use Rattle.stop_laws.specs.LinesStop.{AreToldOf}
use Rattle.kept_laws.specs.Moments.{IsMoment, IsShownFrom, LogsKeep}

-- the two histories that the lines tell
pub record LinesKeep (script : List Line) (run : ℕ) (saids : List Said) (opening : Opening) (greatest : ℕ → ℕ) : Type 0 where
  pub live_kept : trees.Keeps opening (live_history script run saids)
  pub live_legal : trees.IsLegal opening (live_history script run saids)
  pub left_kept : trees.Keeps opening (left_history script run saids greatest)
  pub left_legal : trees.IsLegal opening (left_history script run saids greatest)

-- where the lines said tell the history on the tree's side, and of each server whether it is off as the world does
abbrev pub WhatLinesTellIsKept : Type 0
WhatLinesTellIsKept =
    (segments : ℕ) (when : ℕ → ℕ) (opening : Opening) (numbers : List ℕ) (w : World) (greatest : ℕ → ℕ) (h : List Happening) (script : List Line) (run : ℕ) (saids : List Said) →
    IsMoment segments when opening.tree numbers w h → IsShownFrom segments when opening w h → LogsKeep opening.tree w greatest h → AreToldOf script saids w →
    on_tree h ≡ live_history script run saids → LinesKeep script run saids opening greatest
