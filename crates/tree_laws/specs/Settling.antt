-- What settles of a history is of the history.
use Rattle.std.specs.Prelude.{◌≡◌, ◌⊎◌, ℕ, true, false, not, List, [], ◌∷◌, ◌++◌, map, filter}
use Rattle.std.specs.List.{list_any}
use Rattle.tree_definitions.specs.declared.history.Entry.{Entry}
use Rattle.tree_definitions.specs.declared.history.Item.{Item}
use Rattle.tree_definitions.specs.declared.history.Item.TheVariants.{Did, Recovered}
use Rattle.tree_definitions.specs.Tree.{FileTree}
use Rattle.tree_definitions.specs.History.{Settled, Stays, InDoubt, after_all}
use Rattle.tree_definitions.specs.Removal.{settled, left, is_lost, is_of, mounts}

-- the entries of a history, recovered or not
abbrev pub entries_of : List Item → List Entry
entries_of [] = []
entries_of (Did e ∷ history) = e ∷ entries_of history
entries_of (Recovered server keeps ∷ history) = entries_of history

-- the entries of a settled list
abbrev pub entries_left : List Settled → List Entry
entries_left [] = []
entries_left (Stays e ∷ list) = e ∷ entries_left list
entries_left (InDoubt runs ∷ list) = entries_left list

-- some of the others, in their order
abbrev pub IsSublist : List Entry → List Entry → Type 0
IsSublist [] ys = Unit {0}
IsSublist (x ∷ xs) [] = ⊥
IsSublist (x ∷ xs) (y ∷ ys) = ((x ≡ y) × IsSublist xs ys) ⊎ IsSublist (x ∷ xs) ys

-- a history without recoveries
abbrev pub HasNoRecovery : List Item → Type 0
HasNoRecovery [] = Unit {0}
HasNoRecovery (Did e ∷ history) = HasNoRecovery history
HasNoRecovery (Recovered server keeps ∷ history) = ⊥

-- every lost entry of a list is followed by a mount of its server, there or in what comes after
abbrev pub LostBeforeMounts : ℕ → ℕ → FileTree → List Settled → List Settled → Type 0
LostBeforeMounts server keeps tree list more = (front : List Settled) (s : Settled) (back : List Settled) → list ≡ front ++ s ∷ back → is_lost server keeps (after_all tree front) s ≡ true → list_any (mounts server) (back ++ more) ≡ true

-- a recovery finds nothing to remove
pub record RemovesNothing (server keeps : ℕ) (tree : FileTree) (list : List Settled) : Type 0 where
  pub none : LostBeforeMounts server keeps tree list []
  pub leaves : left server keeps tree list ≡ list

-- a recovery removes the first lost entry after the server's last mount, and all later entries of the server, and no others
pub record RemovesFrom (server keeps : ℕ) (tree : FileTree) (list : List Settled) : Type 0 where
  pub before : List Settled
  pub first : Settled
  pub rest : List Settled
  pub splits : list ≡ before ++ first ∷ rest
  pub earlier : LostBeforeMounts server keeps tree before (first ∷ rest)
  pub lost : is_lost server keeps (after_all tree before) first ≡ true
  pub present : list_any (mounts server) rest ≡ false
  pub leaves : left server keeps tree list ≡ before ++ filter (λ s. not (is_of server s)) rest

-- the entries of a settled history are entries of the history, in their order
abbrev pub SettledIsOfHistory : Type 0
SettledIsOfHistory = (opening : FileTree) (history : List Item) → IsSublist (entries_left (settled opening history)) (entries_of history)

-- a history without recoveries settles to its entries
abbrev pub SettlesToItself : Type 0
SettlesToItself = (opening : FileTree) (history : List Item) → HasNoRecovery history → settled opening history ≡ map (λ e. Stays e) (entries_of history)

-- what a recovery removes
abbrev pub RecoveryRemovesASuffix : Type 0
RecoveryRemovesASuffix = (server keeps : ℕ) (tree : FileTree) (list : List Settled) → RemovesNothing server keeps tree list ⊎ RemovesFrom server keeps tree list

-- a lost entry is the server's
abbrev pub LostIsOfTheServer : Type 0
LostIsOfTheServer = (server keeps : ℕ) (tree : FileTree) (s : Settled) → is_lost server keeps tree s ≡ true → is_of server s ≡ true
