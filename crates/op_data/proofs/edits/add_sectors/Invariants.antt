-- The plan adds the edits of the sectors that are left to those that are there.
use Rattle.std.proofs.Common.{◌≡◌, ◌+◌, ◌-◌, ◌/◌, ◌++◌, List}
use Rattle.disk_definitions.specs.Store.{stored}
use Rattle.disk_definitions.specs.Edits.{Edit}
use Rattle.disk_definitions.specs.Ask.{Ask}
use Rattle.disk_definitions.specs.Plans.{Plan}
use Rattle.disk_definitions.specs.FilePlans.{sectors_met, write_sectors}
use Rattle.dir_lookup.specs.Hands.{over}
use Rattle.plan_steps.specs.Edits.{edits_of}
use Rattle.op_data.specs.Writings.{write_behind, writing_of}
use Rattle.op_data.proofs.edits.add_sectors.Given as goal

abbrev pub invariant-loop-t : goal.invariant-loop-t
invariant-loop-t l = record {
  first : l.first ≡ l.writing.off / 512;
  end : l.t-end ≡ l.first + sectors_met (writing_of l.writing).off (writing_of l.writing).len;
  rest : (next : List Edit → Ask Plan) → over (write_sectors (writing_of l.writing) (stored l.old) (stored l.new) l.t (l.t-end - l.t) (λ more. next (edits_of l.edits.items ++ more))) l.hand
      ≡ over (write_behind (writing_of l.writing) (stored l.old) (stored l.new) (edits_of l.fn.edits.items) next) l.hand;
}
