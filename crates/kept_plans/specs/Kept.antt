-- What a kept plan is of the line under way, in the words of the core.
use Rattle.std.specs.Prelude.{◌≡◌, ℕ, Bool, IfSome, if◌then◌else◌, Option, Some, None, List, []}
use Rattle.frang_base.specs.declared.lock.LockId.{LockId}
use Rattle.frang_base.specs.declared.op.Op.{Op}
use Rattle.frang_base.specs.declared.script.Line.{Line}
use Rattle.tree_definitions.specs.Live.{number_of as operation_number}
use Rattle.cache_definitions.specs.Caches.{Cache}
use Rattle.disk_definitions.specs.Ask.{Sector, number_of}
use Rattle.disk_definitions.specs.Ask.Met.{Needs, Has}
use Rattle.disk_definitions.specs.Plans.{Finish, Lock, Lacks, Clears, Finishes}
use Rattle.set_definitions.specs.Seen.{Comparison, HasMoved, HasStopped, HasGoneThrough, compared, seen_more}
use Rattle.set_definitions.specs.Sets.{LockSet, joined_all}
use Rattle.core_definitions.specs.Lines.{Under, operation_of}
use Rattle.core_definitions.specs.Plans.{clear_needs, finish_needs, needed_cover, outcome_of}
use Rattle.core_definitions.specs.Servers.{Server}
use Rattle.core_definitions.specs.Settings.{Setting}
use Rattle.server_core.specs.declared.outcome.Outcome.{Outcome}
use Rattle.kept_plans.specs.declared.kept.KeptEnd.{KeptEnd}
use Rattle.kept_plans.specs.declared.kept.KeptEnd.TheVariants as ends
use Rattle.kept_plans.specs.declared.kept.KeptPlan.{KeptPlan}
use Rattle.kept_plans.specs.declared.kept.KeptPlan.TheVariants as kept
use Rattle.kept_plans.specs.declared.kept.PlannedLine.{PlannedLine}
use Rattle.kept_plans.specs.Bases.{Basis, basis_of, examined_on, nodes_on, plan_on, sight_on}
use Rattle.kept_plans.specs.Outcomes.{IsOutcomeOf}

-- ---- how it ends

-- a sector with this number is needed, under this cover
pub record NeedsAt (basis : Basis) (number : ℕ) (cover : LockId) : Type 0 where
  pub sector : Sector
  pub met : plan_on basis ≡ Needs sector
  pub numbered : number_of sector ≡ number
  pub covered : needed_cover basis.segments (nodes_on basis) (sight_on basis) sector ≡ cover

-- this block has to be cleared, and this is the set of the locks that the line finds
pub record ClearsWith (basis : Basis) (block : ℕ) (set : LockSet) : Type 0 where
  pub locks : List Lock
  pub met : plan_on basis ≡ Has (Clears block locks)
  pub found : set ≡ joined_all [] (clear_needs basis.operation (nodes_on basis) (sight_on basis) block)

-- the line is finished with the outcome that the core has of it, in each setting and for each line of which this is the basis, and this is the set of the locks that it finds
pub record FinishesWith (basis : Basis) (outcome : Outcome) (set : LockSet) : Type 0 where
  pub finish : Finish
  pub met : plan_on basis ≡ Has (Finishes finish)
  pub is : (setting : Setting) (line : Line) → setting.segments ≡ basis.segments → operation_number setting.run line.number ≡ basis.number
      → IsOutcomeOf outcome (outcome_of setting line (nodes_on basis) (sight_on basis) finish)
  pub found : set ≡ joined_all [] (finish_needs (nodes_on basis) (sight_on basis) finish)

abbrev pub EndsSo : Basis → KeptEnd → Type 0
EndsSo basis (ends.Need sector cover) = NeedsAt basis sector.0 cover
EndsSo basis ends.Segments = plan_on basis ≡ Has Lacks
EndsSo basis (ends.Clear block locks) = ClearsWith basis block locks
EndsSo basis (ends.Done done) = FinishesWith basis done.outcome done.locks

-- ---- the kept plan

-- how the comparison ended, where nothing has moved
abbrev pub unmoved : Bool → Comparison
unmoved through = if through then HasGoneThrough else HasStopped

-- nothing that was seen has moved, this is what is seen once the set has grown, and the plan ends so
pub record IsPlanned (basis : Basis) (plan : PlannedLine) : Type 0 where
  pub compares : compared basis.seen basis.cached ≡ unmoved plan.through
  pub sees : plan.seen ≡ seen_more basis.cached basis.seen (examined_on basis)
  pub ends : EndsSo basis plan.end

-- it is what the line comes to over this basis
abbrev pub IsPlanOn : Basis → KeptPlan → Type 0
IsPlanOn basis kept.Moved = compared basis.seen basis.cached ≡ HasMoved
IsPlanOn basis (kept.Planned plan) = IsPlanned basis plan

-- it is what this line under way, which asks this operation, comes to over a cache
abbrev pub IsPlanOf : Setting → Under → Op → Cache → KeptPlan → Type 0
IsPlanOf setting under operation cache plan = IsPlanOn (basis_of setting under operation cache) plan

-- ---- beside a server

abbrev pub IsPlanBy : Setting → Under → Option Op → Cache → KeptPlan → Type 0
IsPlanBy setting under None cache plan = Unit {0}
IsPlanBy setting under (Some operation) cache plan = IsPlanOf setting under operation cache plan

abbrev pub IsPlanUnder : Setting → Option Under → Cache → KeptPlan → Type 0
IsPlanUnder setting None cache plan = Unit {0}
IsPlanUnder setting (Some under) cache plan = IsPlanBy setting under (operation_of under.line.what) cache plan

-- a plan that is kept beside a server, where one is, is that of its line under way over what it has cached
abbrev pub IsKeptBeside : Setting → Server → Option KeptPlan → Type 0
IsKeptBeside setting server plan = IfSome plan (λ p. IsPlanUnder setting server.under server.cache p)
