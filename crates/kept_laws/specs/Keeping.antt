-- No recovery removes an entry that is seen or synced: of a history that is told twice, of the history as it is at each moment, and of that with the recoveries of all logs.
use Rattle.std.specs.Prelude.{ℕ, List, []}
use Rattle.tree_definitions.specs.History.{Opening}
use Rattle.tree_definitions.specs.Removal.{Keeps}
use Rattle.sector_world.specs.World.{World}
use Rattle.line_histories.specs.Following.{Follows}
use Rattle.line_histories.specs.Standing.{StandsNumbered}
use Rattle.line_histories.specs.Trees.{AreTimes}
use Rattle.stop_laws.specs.AskedStop.{IsAsked}
use Rattle.stop_laws.specs.Happened.{Happening, on_tree}
use Rattle.stop_laws.specs.Settling.{stopped}
use Rattle.stop_laws.specs.Synced.{AllSaidAtOnce}
use Rattle.kept_laws.specs.Moments.{IsMoment, LogsKeep}

-- where no recovery removed what was seen, met or synced on the side of sectors, none removed what was seen or synced on that of the tree
abbrev pub HistoriesKeepWhatIsKnown : Type 0
HistoriesKeepWhatIsKnown =
    (segments : ℕ) (when : ℕ → ℕ) (opening : Opening) (numbers : List ℕ) (w : World) (h : List Happening) → AreTimes when →
    StandsNumbered segments w.opening (record { tree = opening.tree; numbers = numbers }) → Follows segments w.opening w.home w.logged w.first [] →
    IsAsked segments when opening.tree numbers w h → AllSaidAtOnce h → Keeps opening (on_tree h)

-- so it is at each moment
abbrev pub MomentsKeepWhatIsKnown : Type 0
MomentsKeepWhatIsKnown =
    (segments : ℕ) (when : ℕ → ℕ) (opening : Opening) (numbers : List ℕ) (w : World) (h : List Happening) → IsMoment segments when opening.tree numbers w h →
    Keeps opening (on_tree h)

-- and of what a stop leaves
abbrev pub StopsKeepWhatIsKnown : Type 0
StopsKeepWhatIsKnown =
    (segments : ℕ) (when : ℕ → ℕ) (opening : Opening) (numbers : List ℕ) (w : World) (greatest : ℕ → ℕ) (h : List Happening) →
    IsMoment segments when opening.tree numbers w h → LogsKeep opening.tree w greatest h → Keeps opening (on_tree (stopped w greatest w.servers h))
