-- The edits of a plan of looks or of file bytes may be made on the disk.
use Rattle.std.specs.Prelude.{ℕ, List}
use Rattle.frang_base.specs.declared.op.Op.TheVariants as op
use Rattle.disk_definitions.specs.FitPlans.{HasFitPlan}

abbrev pub WriteFits : Type 0
WriteFits = (path : List (List ℕ)) (off : ℕ) (bytes : List ℕ) → HasFitPlan (op.Write path off bytes)

abbrev pub FillFits : Type 0
FillFits = (path : List (List ℕ)) (off len byte : ℕ) → HasFitPlan (op.Fill path off len byte)

abbrev pub TruncateFits : Type 0
TruncateFits = (path : List (List ℕ)) (len : ℕ) → HasFitPlan (op.Truncate path len)

abbrev pub ReadFits : Type 0
ReadFits = (path : List (List ℕ)) (off len : ℕ) → HasFitPlan (op.Read path off len)

abbrev pub StatFits : Type 0
StatFits = (path : List (List ℕ)) → HasFitPlan (op.Stat path)

abbrev pub ListFits : Type 0
ListFits = (path : List (List ℕ)) → HasFitPlan (op.List path)

abbrev pub ReadlinkFits : Type 0
ReadlinkFits = (path : List (List ℕ)) → HasFitPlan (op.Readlink path)

abbrev pub TimeFits : Type 0
TimeFits = (path : List (List ℕ)) → HasFitPlan (op.Time path)
