-- A history that is told twice is legal by the rules, where it tells numbers of directories' blocks as it may.
use Rattle.std.specs.Prelude.{◌≡◌, ℕ, true, Bool, Option, List, [], ◌∷◌}
use Rattle.frang_base.specs.declared.lock.LockId.{LockId}
use Rattle.tree_definitions.specs.History.{legal_from, may_tell}
use Rattle.tree_definitions.specs.Tree.{FileTree}
use Rattle.tree_laws.specs.Histories.{ever_after}
use Rattle.sector_bytes.specs.Blocks.{Block}
use Rattle.byte_trees.specs.Deeds.{Deed, Does, Says, Doubts, steps, tree_after}
use Rattle.stop_laws.specs.Known.{IsToldTwice}
use Rattle.stop_laws.specs.Paired.{AreLines}

-- a number that an entry tells is at least that of the tree's directories, and at most that of the blocks that were ever a directory's
abbrev pub AllMayTell : FileTree → ℕ → List Deed → Type 0
AllMayTell first_tree ever [] = Unit {0}
AllMayTell first_tree ever (Does c e ∷ older) =
    (may_tell (tree_after first_tree older) (ever_after first_tree ever (steps older)) e.reply ≡ true) × AllMayTell first_tree ever older
AllMayTell first_tree ever (Says e ∷ older) = AllMayTell first_tree ever older
AllMayTell first_tree ever (Doubts marked runs ∷ older) = AllMayTell first_tree ever older

abbrev pub ToldHistoriesAreLegal : Type 0
ToldHistoriesAreLegal =
    (segments : ℕ) (when : ℕ → ℕ) (opening : ℕ → Block) (first_tree : FileTree) (numbers : List ℕ) (home : ℕ → LockId) (logged : ℕ → Bool) (first : ℕ → Option Block)
    (server number ever : ℕ) (deeds : List Deed) → IsToldTwice segments when opening first_tree numbers home logged first server number deeds → AreLines when deeds →
    AllMayTell first_tree ever deeds → legal_from first_tree ever (steps deeds) ≡ true
