-- The rule of a board: the words are the writer's last figures, which never went back, and each list of a reader is zeros and published figures in their order.
use Rattle.std.specs.Prelude.{◌≡◌, ℕ, List, [], ◌∷◌, ◌++◌, true, false}
use Rattle.std.specs.List.{AllByRecursion}
use mathlib.Core.Option.{some}
use lib.ListN.{get_elem?}
use Rattle.frang_board.specs.declared.figures.Figures.{Figures}
use Rattle.frang_board.specs.declared.rule.View.{View}
use Rattle.frang_board.specs.Figures.{zeros, last_of, NoneAbove, Climbs, Reads}

-- the writer's view: what it published, and the lists of the reader that it took in
abbrev pub writing : List Figures → List (List Figures) → View
writing list joined = record { writes = true; list = list; joined = joined }

-- a reader's view: what it has read, and the lists of the readers that it took in
abbrev pub reading : List Figures → List (List Figures) → View
reading list joined = record { writes = false; list = list; joined = joined }

-- the view of a reader that has read nothing, which a pass that was taken in keeps
abbrev pub spent : View
spent = reading [] []

-- the writer has one seat, and its list is what was published; the lists of readers are in order
abbrev pub Follows : ℕ → List Figures → ℕ → View → Type 0
Follows seat published by v =
    (v.writes ≡ true → (by ≡ seat) × (v.list ≡ published)) × (v.writes ≡ false → Reads published v.list) × AllByRecursion (Reads published) v.joined

-- the rule
abbrev pub Shows : Figures → List View → Type 0
Shows shown views =
    (seat : ℕ) × (published : List Figures) × (shown ≡ last_of published) × Climbs zeros published
    × ((by : ℕ) (v : View) → get_elem? views by ≡ some v → Follows seat published by v)

-- the writer adds what it writes
abbrev pub Published : View → Figures → Figures → View → Type 0
Published v before after w = w ≡ record { writes = v.writes; list = v.list ++ after ∷ []; joined = v.joined }

-- a reader adds what it reads, which none of its lists is above
abbrev pub HasRead : View → Figures → Figures → View → Type 0
HasRead v before after w =
    (w ≡ record { writes = v.writes; list = v.list ++ after ∷ []; joined = v.joined }) × NoneAbove after v.list × AllByRecursion (NoneAbove after) v.joined

-- the writer compares the lists that it took in with its own
abbrev pub Closes : View → Figures → Figures → View → Type 0
Closes v before after w = (w ≡ v) × AllByRecursion (Reads v.list) v.joined

-- a pass with the lists of another
abbrev pub taken_in : View → View → View
taken_in v w = record { writes = v.writes; list = v.list; joined = v.joined ++ w.list ∷ w.joined }
