-- How a planned line ends, in the words of the core.
use Rattle.std.specs.Prelude.{◌≡◌, ℕ, Some, List, []}
use Rattle.std.specs.Option.{option_map}
use Rattle.frang_base.specs.declared.lock.LockId.{LockId}
use Rattle.frang_base.specs.declared.op.Op.{Op}
use Rattle.frang_base.specs.declared.script.Line.{Line}
use Rattle.tree_definitions.specs.Live.{number_of as operation_number}
use Rattle.disk_definitions.specs.Ask.{Ask, Sector, number_of}
use Rattle.disk_definitions.specs.Ask.Met.{Needs, Has}
use Rattle.disk_definitions.specs.Numbered.{sector_at}
use Rattle.disk_definitions.specs.Plans.{Finish, Lock, Plan, Lacks, Clears, Finishes}
use Rattle.set_definitions.specs.Sets.{LockSet, joined_all}
use Rattle.core_definitions.specs.Plans.{Sight, clear_needs, cover_of, finish_needs, outcome_of, planned}
use Rattle.core_definitions.specs.Settings.{Setting}
use Rattle.dir_lookup.specs.declared.hand.Hand.{Hand}
use Rattle.planned_lines.specs.declared.finished.Finished.{Finished}
use Rattle.planned_lines.specs.declared.finished.PlanEnd.{PlanEnd}
use Rattle.planned_lines.specs.declared.finished.PlanEnd.TheVariants as ends
use Rattle.planned_lines.specs.Outcomes.{outcome_as}

-- what a line in code is planned over
abbrev pub sight_by : Hand → Sight
sight_by hand = record { cached = hand.sectors.now.entries; held = hand.held.now; all = hand.all }

-- ---- the ends, where these nodes were looked at

-- the sector with this number is needed, and this is its cover
pub record IsNeeded (segments : ℕ) (nodes : List ℕ) (sight : Sight) (program : Ask Plan) (number : ℕ) (cover : LockId) : Type 0 where
  pub sector : Sector
  pub met : planned program sight ≡ Needs sector
  pub numbered : number_of sector ≡ number
  pub covered : option_map (cover_of nodes sight) (sector_at segments number) ≡ Some cover

-- this block has to be cleared, and this is the set of the locks that the line finds
pub record IsCleared (nodes : List ℕ) (operation : Op) (sight : Sight) (program : Ask Plan) (block : ℕ) (set : LockSet) : Type 0 where
  pub locks : List Lock
  pub met : planned program sight ≡ Has (Clears block locks)
  pub found : set ≡ joined_all [] (clear_needs operation nodes sight block)

-- the line is finished; its outcome is the core's in each setting of so many segments and for each line whose operation has this number, and this is the set of the
-- locks that it finds
pub record IsDone (segments number : ℕ) (nodes : List ℕ) (sight : Sight) (program : Ask Plan) (done : Finished) : Type 0 where
  pub finish : Finish
  pub met : planned program sight ≡ Has (Finishes finish)
  pub outcome : (setting : Setting) (line : Line) → setting.segments ≡ segments → operation_number setting.run line.number ≡ number → outcome_as segments done ≡ outcome_of setting line nodes sight finish
  pub found : done.locks ≡ joined_all [] (finish_needs nodes sight finish)

abbrev pub EndsAs : ℕ → ℕ → List ℕ → Op → Sight → Ask Plan → PlanEnd → Type 0
EndsAs segments number nodes operation sight program (ends.Need sector cover) = IsNeeded segments nodes sight program sector.0 cover
EndsAs segments number nodes operation sight program ends.Segments = planned program sight ≡ Has Lacks
EndsAs segments number nodes operation sight program (ends.Clear block locks) = IsCleared nodes operation sight program block locks
EndsAs segments number nodes operation sight program (ends.Done done) = IsDone segments number nodes sight program done
