-- What records make of a sector: each change where the sector is older.
use Rattle.std.specs.Prelude.{ℕ, List, [], ◌∷◌, Option, Some, None, nat_eq, nat_lt, nat_le, if◌then◌else◌}
use Rattle.frang_base.specs.declared.change.Change.{Change}
use Rattle.frang_base.specs.declared.change.Redo.{Redo}
use Rattle.frang_base.specs.Functions.{keep_if}
use Rattle.sector_bytes.specs.Blocks.{Block}
use Rattle.sector_bytes.specs.Changes.{changed, applied}

-- the change of this sector, if it is among them
abbrev pub change_at : List Change → ℕ → Option Change
change_at [] s = None
change_at (x ∷ xs) s = if nat_eq x.sector.0 s then Some x else change_at xs s

-- the sector after the change, whatever its version
abbrev pub forced : Option Change → Block → Block
forced None block = block
forced (Some x) block = changed block x

-- the sector after a replay of the change
abbrev pub redone : Option Change → Block → Block
redone None block = block
redone (Some x) block = applied block x

-- the sector after a replay of these records, the newest first in the list
abbrev pub redo_all : List Redo → ℕ → Block → Block
redo_all [] s block = block
redo_all (r ∷ rs) s block = redone (change_at r.changes s) (redo_all rs s block)

-- the records up to an operation number
abbrev pub up_to : ℕ → List Redo → List Redo
up_to k [] = []
up_to k (r ∷ rs) = keep_if (nat_le r.op.0 k) r (up_to k rs)

-- the records above an operation number
abbrev pub above : ℕ → List Redo → List Redo
above k [] = []
above k (r ∷ rs) = keep_if (nat_lt k r.op.0) r (above k rs)
