-- Whole histories, with their recoveries.
use Rattle.std.specs.Prelude.{◌≡◌, ℕ, true, List, [], ◌∷◌, ◌++◌, map, nat_eq}
use Rattle.std.specs.List.{AllByRecursion, IsDistinct}
use Rattle.frang_base.specs.declared.sector.OpNo.{OpNo}
use Rattle.frang_base.specs.declared.sector.ServerId.{ServerId}
use Rattle.tree_definitions.specs.declared.history.Item.{Item}
use Rattle.tree_definitions.specs.declared.history.Item.TheVariants.{Did, Recovered}
use Rattle.tree_definitions.specs.Tree.{FileTree}
use Rattle.tree_definitions.specs.History.{Opening, Settled, Stays, InDoubt}
use Rattle.tree_definitions.specs.Removal.{settled, keeps, is_legal, tree_of}
use Rattle.tree_definitions.specs.WellFormed.{IsWellFormed, IsNew, AreNew}
use Rattle.tree_laws.specs.Settling.{entries_of, entries_left}
use Rattle.tree_laws.specs.Removing.{room_left}

-- the operation numbers of a history, also of entries that a recovery removes
abbrev pub all_numbers : List Item → List ℕ
all_numbers history = map (λ e. e.number.0) (entries_of history)

-- the entries of a history have numbers that no node of the tree has, each its own
pub record AreAllNew (tree : FileTree) (history : List Item) : Type 0 where
  pub absent : AllByRecursion (IsNew tree) (all_numbers history)
  pub distinct : IsDistinct nat_eq (all_numbers history)

-- no cell comes into doubt
abbrev pub HasNoDoubt : List Settled → Type 0
HasNoDoubt [] = Unit {0}
HasNoDoubt (Stays e ∷ list) = HasNoDoubt list
HasNoDoubt (InDoubt [] ∷ list) = HasNoDoubt list
HasNoDoubt (InDoubt (run ∷ runs) ∷ list) = ⊥

-- what settles of a history with new numbers has new numbers
abbrev pub SettledNumbersAreNew : Type 0
SettledNumbersAreNew = (tree : FileTree) (history : List Item) → AreAllNew tree history → AreNew tree (settled tree history)

-- the tree of a history with new numbers is well formed
abbrev pub HistoriesStayWellFormed : Type 0
HistoriesStayWellFormed = (opening : Opening) (history : List Item) → IsWellFormed opening.tree → AreAllNew opening.tree history → IsWellFormed (tree_of opening history)

-- a legal history stays legal by one recovery more, where that removes nothing seen or synced, and there is room for the rest
abbrev pub RecoveryIsLegal : Type 0
RecoveryIsLegal = (opening : Opening) (history : List Item) (server : ServerId) (kept : OpNo) → IsWellFormed opening.tree → AreAllNew opening.tree history → is_legal opening history ≡ true
    → keeps opening (history ++ Recovered server kept ∷ []) ≡ true → room_left server.0 kept.0 opening.tree (settled opening.tree history) ≡ true → is_legal opening (history ++ Recovered server kept ∷ []) ≡ true

-- where no cell came into doubt, a history is legal where the entries that are left are, as a history without recoveries
abbrev pub LegalIsOfWhatIsLeft : Type 0
LegalIsOfWhatIsLeft = (opening : Opening) (history : List Item) → HasNoDoubt (settled opening.tree history) → is_legal opening (map (λ e. Did e) (entries_left (settled opening.tree history))) ≡ is_legal opening history
