-- What the plan of a line is made over, and what it comes to there, in the words of the core.
use Rattle.std.specs.Prelude.{ℕ, List}
use Rattle.frang_base.specs.declared.op.Op.{Op}
use Rattle.tree_definitions.specs.Live.{number_of as operation_number, script_time, time_in}
use Rattle.cache_definitions.specs.Caches.{Cache}
use Rattle.disk_definitions.specs.Ask.{Ask, Met}
use Rattle.disk_definitions.specs.Lines.{plan_of_line}
use Rattle.disk_definitions.specs.Plans.{Plan}
use Rattle.disk_definitions.specs.Written.{Cached, hand_of}
use Rattle.set_definitions.specs.Seen.{SeenSectors}
use Rattle.set_definitions.specs.Sets.{LockSet}
use Rattle.set_definitions.specs.Usable.{usable}
use Rattle.core_definitions.specs.Lines.{Under}
use Rattle.core_definitions.specs.Plans.{Sight, examined_in, nodes_looked_at, planned, sight_over}
use Rattle.core_definitions.specs.Settings.{Setting}

-- all that a plan depends on: the size of the disk, the line's operation with its number and its time, its set, what it has seen, and the cached sectors that it may use
pub record Basis : Type 0 where
  pub segments : ℕ
  pub number : ℕ
  pub when : ℕ
  pub operation : Op
  pub set : LockSet
  pub seen : SeenSectors
  pub cached : Cached

-- that of a line under way, over a cache
abbrev pub basis_of : Setting → Under → Op → Cache → Basis
basis_of setting under operation cache = record {
  segments = setting.segments;
  number = operation_number setting.run under.line.number;
  when = time_in setting.run (script_time setting.script under.line.number);
  operation = operation;
  set = under.set;
  seen = under.seen;
  cached = usable under.set cache;
}

-- ---- what the line comes to over it

abbrev pub sight_on : Basis → Sight
sight_on basis = sight_over basis.segments basis.set basis.cached

abbrev pub program_on : Basis → Ask Plan
program_on basis = plan_of_line (hand_of (sight_on basis).cached (sight_on basis).held (sight_on basis).all) basis.number basis.when basis.operation

abbrev pub plan_on : Basis → Met Plan
plan_on basis = planned (program_on basis) (sight_on basis)

abbrev pub examined_on : Basis → List ℕ
examined_on basis = examined_in (program_on basis) (sight_on basis)

abbrev pub nodes_on : Basis → List ℕ
nodes_on basis = nodes_looked_at basis.segments (program_on basis) (sight_on basis)
