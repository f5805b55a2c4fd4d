-- What the parts of a look come to.
use Rattle.std.specs.Prelude.{◌≡◌, ℕ, Option, Some, None, Result, Ok, Err, List, []}
use Rattle.frang_base.specs.declared.op.Op.{Op}
use Rattle.frang_base.specs.declared.op.Op.TheVariants as op
use Rattle.frang_base.specs.declared.reply.Reply.{Reply}
use Rattle.frang_base.specs.declared.reply.Reply.TheVariants as reply
use Rattle.tree_definitions.specs.Entries.{Entries, with_entry}
use Rattle.disk_definitions.specs.Store.{StoredNode, StoredEntry}
use Rattle.meta_version.specs.declared.plan.Plan.{Plan as CodePlan}
use Rattle.meta_version.specs.declared.plan.Plan.TheVariants as plan
use Rattle.disk_definitions.specs.Held.{Segments}
use Rattle.disk_definitions.specs.Plans.{refuse}
use Rattle.disk_definitions.specs.LookPlans.{listing}
use Rattle.disk_definitions.specs.Written.{Cached}
use Rattle.dir_lookup.specs.Reading.{Lacks, Gives, reading}
use Rattle.plan_steps.specs.declared.stop.Stop.{Stop}
use Rattle.plan_steps.specs.declared.stop.Stop.TheVariants as stop

-- an operation that only looks
abbrev pub IsLook : Op → Type 0
IsLook (op.Stat path) = Unit {0}
IsLook (op.List path) = Unit {0}
IsLook (op.Readlink path) = Unit {0}
IsLook (op.Time path) = Unit {0}
IsLook _ = ⊥

-- a plan that only answers
abbrev pub says : Reply → CodePlan
says r = plan.Done r [] [] []

-- ---- the names in a directory

-- one name more, in its place
abbrev pub with_name : Entries → StoredEntry → Entries
with_name sorted e = with_entry sorted e.name 0

-- the name of a place's entry more, where it has one
abbrev pub with_place : Entries → Option StoredEntry → Entries
with_place sorted None = sorted
with_place sorted (Some e) = with_name sorted e

-- the plan that lists the directory says the names, or needs the sector
abbrev pub ListsNames : Cached → Segments → StoredNode → Result (List (List ℕ)) Stop → Type 0
ListsNames cached held x (Ok names) = (touched : List ℕ) → reading (listing touched x) cached held ≡ Gives (refuse (reply.Names names) touched)
ListsNames cached held x (Err (stop.Need s)) = (touched : List ℕ) → reading (listing touched x) cached held ≡ Lacks s.0
ListsNames cached held x (Err (stop.Refused r)) = ⊥
ListsNames cached held x (Err stop.Segments) = ⊥
ListsNames cached held x (Err (stop.Clear k)) = ⊥
ListsNames cached held x (Err stop.NoMemory) = Unit {0}
