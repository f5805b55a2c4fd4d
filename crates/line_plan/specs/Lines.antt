-- What the code's lines are in the definitions of lines.
use Rattle.std.specs.Prelude.{◌≡◌, ◌≤◌, ℕ, length, Result, Ok, Err, List}
use Rattle.frang_base.specs.declared.limits.TheConstants.{TARGET_BYTES_MAX}
use Rattle.frang_base.specs.declared.op.Op.{Op}
use Rattle.frang_base.specs.declared.op.Op.TheVariants as op
use Rattle.frang_base.specs.declared.reply.Reply.{Reply}
use Rattle.tree_definitions.specs.Perform.{Step as TheStep, Goes as DoesGo, Stops as DoesStop, Resolved as TheResolved}
use Rattle.disk_definitions.specs.Resolving.{PathEnd}
use Rattle.disk_definitions.specs.Lines.{as_it_stands, over_path, over_paths, resolved, step_of}
use Rattle.file_tree.specs.Walks.{with_path, with_paths}
use Rattle.line_plan.specs.declared.walks.Walks.{Walks}
use Rattle.line_plan.specs.declared.walks.Walks.TheVariants as walks
use Rattle.dir_lookup.specs.Reading.{Read, Lacks, Gives}
use Rattle.line_plan.specs.declared.walks.Step.{Step}
use Rattle.line_plan.specs.declared.walks.Step.TheVariants as step
use Rattle.line_plan.specs.declared.walks.Resolved.{Resolved}
use Rattle.line_plan.specs.declared.walks.Line.{Line}
use Rattle.line_plan.specs.declared.walks.Line.TheVariants as line

-- what an operation comes to
abbrev pub step_by : Step → TheStep
step_by (step.Goes operation) = DoesGo operation
step_by (step.Stops reply) = DoesStop reply

abbrev pub resolved_by : Resolved → TheResolved
resolved_by resolved = record { step = step_by resolved.step; trail = resolved.trail.items }

-- what the walks of a line come to
abbrev pub line_as : Line → Read TheResolved
line_as (line.Need sector) = Lacks sector.0
line_as (line.Comes resolved) = Gives (resolved_by resolved)

-- an operation comes to what these walks lead to
abbrev pub AreWalks : Op → Walks → Type 0
AreWalks operation walks.Nothing = resolved operation ≡ as_it_stands operation
AreWalks operation (walks.One path last) = resolved operation ≡ over_path last path.now (λ p. with_path operation p)
AreWalks operation (walks.Two path to dirs) = resolved operation ≡ over_paths dirs path.now to.now (λ p q. with_paths operation p q)

-- an operation over the path to which a walk led, or its refusal
abbrev pub step_led : Result (List (List ℕ)) Reply → (List (List ℕ) → Op) → TheStep
step_led (Ok path) make = DoesGo (make path)
step_led (Err reply) make = DoesStop reply

-- the walk that ended so led to this path, or was refused with this reply
abbrev pub IsLed : PathEnd → Result (List (List ℕ)) Reply → Type 0
IsLed end led = (make : List (List ℕ) → Op) → step_led led make ≡ step_of end make

-- the target of a new link may stand in an inode
abbrev pub TargetFits : Op → Type 0
TargetFits (op.Symlink path target) = length target ≤ TARGET_BYTES_MAX
TargetFits _ = Unit {0}

abbrev pub StepFits : TheStep → Type 0
StepFits (DoesGo operation) = TargetFits operation
StepFits (DoesStop reply) = Unit {0}
