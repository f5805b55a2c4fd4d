-- There is a record exactly where something changes.
use Rattle.std.proofs.Common.{◌≡◌, ℕ, Option, Some, None, List, [], ◌∷◌, arith, length, refl}
use Rattle.frang_base.specs.declared.change.Change.{Change}
use Rattle.frang_base.specs.declared.change.Redo.{Redo}
use Rattle.core_definitions.specs.Plans.{record_of}

pub no_record : (number : ℕ) (changes : List Change) → length changes ≡ 0 → None ≡ record_of number changes
no_record number [] none = refl
no_record number (change ∷ changes) none = absurd (omega arith)

pub a_record : (number : ℕ) (changes : List Change) → (length changes ≡ 0 → ⊥) → Some (record { op = record { 0 = number }; changes = changes }) ≡ record_of number changes
a_record number [] some = absurd (some refl)
a_record number (change ∷ changes) some = refl
