-- The changes of a plan are few enough for a record, and of few enough bytes.
use Rattle.std.specs.Prelude.{◌≤◌, ℕ, List, length}
use Rattle.frang_base.specs.declared.limits.TheConstants.{RECORD_BYTES_MAX, RECORD_CHANGES_MAX}
use Rattle.frang_base.specs.declared.op.Op.{Op}
use Rattle.sector_bytes.specs.Sectors.{Sectors}
use Rattle.disk_definitions.specs.Store.{store_of}
use Rattle.disk_definitions.specs.Records.{record_bytes}
use Rattle.disk_definitions.specs.Edits.{Edit}
use Rattle.disk_definitions.specs.Ask.{run}
use Rattle.disk_definitions.specs.Plans.{Hand, Plan}
use Rattle.disk_definitions.specs.Plans.Plan.{Lacks, Clears, Finishes}
use Rattle.disk_definitions.specs.PlanOf.{plan_of}
use Rattle.disk_definitions.specs.Written.{changes_of}
use Rattle.disk_definitions.specs.Ready.{IsReady}
use Rattle.disk_definitions.specs.FitPlans.{IsFitStore}

-- at most so many changes and bytes as a record's
pub record IsSmall (sectors : Sectors) (edits : List Edit) : Type 0 where
  pub few : length (changes_of sectors edits) ≤ RECORD_CHANGES_MAX
  pub short : length (record_bytes (changes_of sectors edits)) ≤ RECORD_BYTES_MAX

abbrev pub PlanIsSmall : ℕ → ℕ → Sectors → Plan → Type 0
PlanIsSmall most segments sectors Lacks = Unit {0}
PlanIsSmall most segments sectors (Clears block locks) = Unit {0}
PlanIsSmall most segments sectors (Finishes finish) = IsReady most segments sectors finish.edits → IsSmall sectors finish.edits

-- so it is of the plan of an operation over whatever disk in its grammar on which its edits may be made
abbrev pub HasSmallPlan : Op → Type 0
HasSmallPlan operation =
    (hand : Hand) (most segments : ℕ) (sectors : Sectors) (birth when : ℕ) → IsFitStore segments (store_of segments sectors) →
    PlanIsSmall most segments sectors (run (plan_of hand birth when operation) (store_of segments sectors))
