-- How a plan over cached sectors ends, as the code has it. Its locks are the definitions' alone.
use Rattle.std.specs.Prelude.{◌≡◌, Result, Ok, Err, List, []}
use Rattle.frang_base.specs.declared.reply.Reply.{Reply}
use Rattle.disk_definitions.specs.Edits.{Edit}
use Rattle.disk_definitions.specs.Plans.{Plan, Lock, Lacks as LacksSegments, Clears, Finishes}
use Rattle.dir_lookup.specs.Reading.{Read, Lacks, Gives}
use Rattle.plan_steps.specs.declared.edit.Outcome.{Outcome}
use Rattle.plan_steps.specs.declared.stop.Stop.{Stop}
use Rattle.plan_steps.specs.declared.stop.Stop.TheVariants as stop
use Rattle.plan_steps.specs.Edits.{edits_of}

-- it is done with this reply and these edits
abbrev pub IsDone : Reply → List Edit → Read Plan → Type 0
IsDone reply edits p = (locks : List Lock) × (p ≡ Gives (Finishes (record { reply = reply; edits = edits; locks = locks })))

-- it needs a sector, or more segments, or a block that is clear; or it answers and changes nothing
abbrev pub Stops : Read Plan → Stop → Type 0
Stops p (stop.Need s) = p ≡ Lacks s.0
Stops p stop.Segments = p ≡ Gives LacksSegments
Stops p (stop.Clear k) = (locks : List Lock) × (p ≡ Gives (Clears k locks))
Stops p (stop.Refused r) = IsDone r [] p
Stops p stop.NoMemory = Unit {0}

-- a plan that only answers
abbrev pub Says : Read Plan → Result Reply Stop → Type 0
Says p (Ok r) = IsDone r [] p
Says p (Err e) = Stops p e

-- a plan that may change something
abbrev pub Comes : Read Plan → Result Outcome Stop → Type 0
Comes p (Ok outcome) = IsDone outcome.reply (edits_of outcome.edits.items) p
Comes p (Err e) = Stops p e
