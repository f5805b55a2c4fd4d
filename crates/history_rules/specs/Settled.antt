-- A history so far, as the code has it.
use Rattle.std.specs.Prelude.{◌≡◌, ℕ, Bool, true, false, List, [], ◌∷◌, ◌++◌}
use Rattle.tree_definitions.specs.Tree.{FileTree}
use Rattle.tree_definitions.specs.History.{Settled, legal_from}
use Rattle.history_rules.specs.Standing.{StandsAt}

-- legal: at each item so far; kept: what must be kept was kept
pub record SoFar : Type 0 where
  pub opening : FileTree
  pub steps : List Settled
  pub legal : Bool
  pub kept : Bool

-- while it is legal, a tree and a kept number of blocks are where the steps lead
abbrev pub StandsWhile : FileTree → List Settled → FileTree → ℕ → Bool → Type 0
StandsWhile opening steps tree kept legal = legal ≡ true → StandsAt opening steps tree kept

-- legal stays what was where the longer list is, and illegal stays so
pub record IsLegalStep (old new : SoFar) : Type 0 where
  pub goes : old.legal ≡ true → new.legal ≡ legal_from new.opening 0 new.steps
  pub stays : old.legal ≡ false → new.legal ≡ false

-- whether a list with a step more is legal, where it was so without it or not; and where it is, a tree and a kept number of blocks are where it leads
pub record IsWith (opening : FileTree) (steps : List Settled) (step : Settled) (tree : FileTree) (kept : ℕ) (was it : Bool) : Type 0 where
  pub goes : was ≡ true → it ≡ legal_from opening 0 (steps ++ step ∷ [])
  pub stays : was ≡ false → it ≡ false
  pub stands : it ≡ true → StandsAt opening (steps ++ step ∷ []) tree kept
