-- Histories are legal by the rules: each entry is the tree's answer in what is left. So is the history as it is at each moment, and that with the recoveries of all logs.
use Rattle.std.specs.Prelude.{ℕ, List}
use Rattle.tree_definitions.specs.History.{Opening}
use Rattle.tree_definitions.specs.Removal as trees
use Rattle.sector_world.specs.World.{World}
use Rattle.stop_laws.specs.Happened.{Happening, on_tree}
use Rattle.stop_laws.specs.Settling.{stopped}
use Rattle.kept_laws.specs.Moments.{IsMoment, IsShownFrom, LogsKeep}

-- at each moment
abbrev pub MomentsAreLegal : Type 0
MomentsAreLegal =
    (segments : ℕ) (when : ℕ → ℕ) (opening : Opening) (numbers : List ℕ) (w : World) (h : List Happening) → IsMoment segments when opening.tree numbers w h →
    IsShownFrom segments when opening w h → trees.IsLegal opening (on_tree h)

-- and of what a stop leaves
abbrev pub StopsAreLegal : Type 0
StopsAreLegal =
    (segments : ℕ) (when : ℕ → ℕ) (opening : Opening) (numbers : List ℕ) (w : World) (greatest : ℕ → ℕ) (h : List Happening) →
    IsMoment segments when opening.tree numbers w h → IsShownFrom segments when opening w h → LogsKeep opening.tree w greatest h →
    trees.IsLegal opening (on_tree (stopped w greatest w.servers h))
