-- The records of plans are small.
use Rattle.frang_base.specs.declared.op.Op.{Op}
use Rattle.disk_definitions.specs.SmallRecords.{HasSmallPlan}

-- whatever the operation, the changes of its plan are few enough for a record, and of few enough bytes
abbrev pub PlansMakeSmallRecords : Type 0
PlansMakeSmallRecords = (o : Op) → HasSmallPlan o
