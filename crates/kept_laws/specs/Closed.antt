-- Closed servers, which are up by the lines said: a recovery more of each of them, which removes nothing, leaves a history that keeps what must be kept, and a legal one.
use Rattle.std.specs.Prelude.{ℕ, Bool, List}
use Rattle.tree_definitions.specs.declared.history.Item.{Item}
use Rattle.tree_definitions.specs.History.{Opening}
use Rattle.tree_definitions.specs.Live.{dropped_for}
use Rattle.tree_definitions.specs.Removal.{IsLegal, Keeps, settled}
use Rattle.tree_definitions.specs.WellFormed.{BirthsAscend}
use Rattle.stop_laws.specs.ClosedStop.{ClosedKeepAll, still_open}

-- where the history with the recoveries of the others keeps what must be kept, that with the recoveries of all does
abbrev pub ClosedServersKeep : Type 0
ClosedServersKeep =
    (opening : Opening) (history : List Item) (closed : ℕ → Bool) (greatest : ℕ → ℕ) (servers : List ℕ) → BirthsAscend opening.tree →
    ClosedKeepAll opening.tree closed greatest servers (settled opening.tree history) → Keeps opening (dropped_for history (still_open closed servers) greatest) →
    Keeps opening (dropped_for history servers greatest)

-- and where it is legal that is
abbrev pub ClosedServersAreLegal : Type 0
ClosedServersAreLegal =
    (opening : Opening) (history : List Item) (closed : ℕ → Bool) (greatest : ℕ → ℕ) (servers : List ℕ) → BirthsAscend opening.tree →
    ClosedKeepAll opening.tree closed greatest servers (settled opening.tree history) → IsLegal opening (dropped_for history (still_open closed servers) greatest) →
    IsLegal opening (dropped_for history servers greatest)
