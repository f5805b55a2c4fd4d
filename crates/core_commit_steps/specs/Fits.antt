-- The records of finished lines may stand in a log.
use Rattle.std.specs.Prelude.{◌≡◌, ℕ, IsTrue, List, Some}
use Rattle.frang_base.specs.declared.change.Redo.{Redo}
use Rattle.tree_definitions.specs.Tree.{FileTree}
use Rattle.ring_definitions.specs.Rings.{is_record}
use Rattle.core_definitions.specs.Cores.{stage}
use Rattle.core_definitions.specs.Lines.{Finishing}
use Rattle.core_definitions.specs.Plans.{Outcome}
use Rattle.core_definitions.specs.Runs.{State as RunMoment}
use Rattle.sector_world.specs.World.{World}
use Rattle.core_world.specs.Journals.{Journal}
use Rattle.core_commits.specs.Moments.{IsOfARun, LinesAreNumbered}

-- of a line that is numbered, at a moment of a run of lines: its plan over the one disk makes a record, or changes nothing
abbrev pub RecordsOfLinesFit : Type 0
RecordsOfLinesFit =
    (s : RunMoment) (w : World) (journal : ℕ → Journal) (when : ℕ → ℕ) (first_tree : FileTree) (numbers : List ℕ) (a : ℕ) (outcome : Outcome) (redo : Redo) → IsOfARun s w journal when first_tree numbers →
    LinesAreNumbered s w when first_tree numbers a → stage s.core a ≡ Some (Finishing outcome) → outcome.redo ≡ Some redo → IsTrue (is_record redo)
