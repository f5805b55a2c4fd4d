-- The plans of the operations on names are fit for the disk over which they are made.
use Rattle.std.specs.Prelude.{ℕ, List}
use Rattle.frang_base.specs.declared.op.Op.TheVariants as op
use Rattle.disk_definitions.specs.FitPlans.{HasFitPlan}

-- of create
abbrev pub CreateIsFit : Type 0
CreateIsFit = (path : List (List ℕ)) → HasFitPlan (op.Create path)

-- of mkdir
abbrev pub MkdirIsFit : Type 0
MkdirIsFit = (path : List (List ℕ)) → HasFitPlan (op.Mkdir path)

-- of symlink
abbrev pub SymlinkIsFit : Type 0
SymlinkIsFit = (path : List (List ℕ)) (target : List ℕ) → HasFitPlan (op.Symlink path target)

-- of link
abbrev pub LinkIsFit : Type 0
LinkIsFit = (path to : List (List ℕ)) → HasFitPlan (op.Link path to)

-- of unlink
abbrev pub UnlinkIsFit : Type 0
UnlinkIsFit = (path : List (List ℕ)) → HasFitPlan (op.Unlink path)

-- of rmdir
abbrev pub RmdirIsFit : Type 0
RmdirIsFit = (path : List (List ℕ)) → HasFitPlan (op.Rmdir path)

-- of rename
abbrev pub RenameIsFit : Type 0
RenameIsFit = (path to : List (List ℕ)) → HasFitPlan (op.Rename path to)
