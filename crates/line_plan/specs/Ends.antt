-- How the code's lines end, in the definitions of plans. Their locks are the definitions' alone.
use Rattle.std.specs.Prelude.{◌≡◌, ℕ, Result, Ok, Err, List}
use Rattle.frang_base.specs.declared.fault.NoMemory.{NoMemory}
use Rattle.tree_definitions.specs.Perform.{Goes, Resolved}
use Rattle.disk_definitions.specs.Plans.{Plan, Lock, Lacks as LacksSegments, Clears}
use Rattle.dir_lookup.specs.Reading.{Read, Lacks, Gives}
use Rattle.plan_steps.specs.Edits.{edits_of}
use Rattle.plan_steps.specs.Ends.{IsDone}
use Rattle.line_plan.specs.declared.ending.LineEnd.{LineEnd}
use Rattle.line_plan.specs.declared.ending.LineEnd.TheVariants as ends

-- it is done with this reply and these edits, or needs a sector, or more segments, or a block that is clear
abbrev pub Ends : Read Plan → LineEnd → Type 0
Ends p (ends.Done outcome) = IsDone outcome.reply (edits_of outcome.edits.items) p
Ends p (ends.Need s) = p ≡ Lacks s.0
Ends p ends.Segments = p ≡ Gives LacksSegments
Ends p (ends.Clear k operation) = (locks : List Lock) × (p ≡ Gives (Clears k locks))

abbrev pub Comes : Read Plan → Result LineEnd NoMemory → Type 0
Comes p (Ok end) = Ends p end
Comes p (Err e) = Unit {0}

-- where a block has to be cleared, the walks come to this operation
abbrev pub ClearsFor : Read Resolved → LineEnd → Type 0
ClearsFor walks (ends.Done outcome) = Unit {0}
ClearsFor walks (ends.Need s) = Unit {0}
ClearsFor walks ends.Segments = Unit {0}
ClearsFor walks (ends.Clear k operation) = (trail : List ℕ) × (walks ≡ Gives (record { step = Goes operation; trail = trail }))
