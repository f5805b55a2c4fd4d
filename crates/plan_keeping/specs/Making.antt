-- What a line to be planned is planned over.
use Rattle.std.specs.Prelude.{◌≡◌}
use Rattle.cache_definitions.specs.Caches.{Cache}
use Rattle.disk_definitions.specs.Written.{Cached}
use Rattle.set_definitions.specs.Usable.{usable}
use Rattle.core_definitions.specs.Lines.{Under}
use Rattle.lock_sets.specs.Seen.{numbers}
use Rattle.planned_lines.specs.Ends.{EndsAs}
use Rattle.planned_lines.specs.declared.finished.PlanEnd.{PlanEnd}
use Rattle.planned_lines.specs.declared.finished.Planned.{Planned}
use Rattle.kept_plans.specs.Bases.{Basis, examined_on, nodes_on, program_on, sight_on}
use Rattle.plan_keeping.specs.declared.making.LineToPlan.{LineToPlan}

-- these sectors that it may use
abbrev pub basis_over : LineToPlan → Under → Cached → Basis
basis_over line under cached = record {
  segments = line.segments;
  number = line.number;
  when = line.when;
  operation = line.operation.now;
  set = under.set;
  seen = under.seen;
  cached = cached;
}

-- those of a cache
abbrev pub basis_by : LineToPlan → Under → Cache → Basis
basis_by line under cache = basis_over line under (usable under.set cache)

-- a plan in code ends so over a basis
abbrev pub EndsOn : Basis → PlanEnd → Type 0
EndsOn basis end = EndsAs basis.segments basis.number (nodes_on basis) basis.operation (sight_on basis) (program_on basis) end

-- and has examined these sectors
pub record PlansOn (basis : Basis) (plan : Planned) : Type 0 where
  pub examined : numbers plan.examined.items ≡ examined_on basis
  pub ends : EndsOn basis plan.end
