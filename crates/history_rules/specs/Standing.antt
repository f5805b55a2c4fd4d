-- Where the steps of a settled list lead, and what one step more makes of it.
use Rattle.std.specs.Prelude.{◌≡◌, ℕ, ◌-◌, ◌^◌, true, min, List}
use Rattle.tree_definitions.specs.Tree.{FileTree}
use Rattle.tree_definitions.specs.History.{Settled, after_all, legal_from}
use Rattle.tree_laws.specs.Histories.{ever_after}

-- a number of blocks as it is kept: at most the greatest that can be said
abbrev pub capped : ℕ → ℕ
capped n = min n (2 ^ 32 - 1)

-- a tree and a kept number of blocks are where a legal list leads
pub record StandsAt (opening : FileTree) (steps : List Settled) (tree : FileTree) (kept : ℕ) : Type 0 where
  pub is_tree : tree ≡ after_all opening steps
  pub is_ever : kept ≡ capped (ever_after opening 0 steps)
  pub legal : legal_from opening 0 steps ≡ true

-- from a tree and a kept number of blocks the rest of a list leads where the whole list does from the opening
pub record LeadsOn (opening : FileTree) (steps : List Settled) (tree : FileTree) (kept : ℕ) (rest : List Settled) : Type 0 where
  pub ever : ℕ
  pub is_kept : kept ≡ capped ever
  pub is_tree : after_all tree rest ≡ after_all opening steps
  pub is_ever : ever_after tree ever rest ≡ ever_after opening 0 steps
  pub is_legal : legal_from tree ever rest ≡ legal_from opening 0 steps
