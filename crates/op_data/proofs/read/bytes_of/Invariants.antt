-- The plan goes on with the bytes so far and those of the sectors that are left.
use Rattle.std.proofs.Common.{◌≡◌, ◌-◌, ◌*◌, ◌++◌, ◌≤◌, ℕ, List, length}
use Rattle.disk_definitions.specs.Store.{stored}
use Rattle.disk_definitions.specs.Ask.{Ask}
use Rattle.disk_definitions.specs.Plans.{Plan}
use Rattle.disk_definitions.specs.FilePlans.{read_sectors}
use Rattle.dir_lookup.specs.Hands.{over}
use Rattle.op_data.proofs.read.bytes_of.Given as goal

abbrev pub invariant-loop-t : goal.invariant-loop-t
invariant-loop-t l = record {
  within : l.t ≤ l.end;
  long : length l.bytes ≡ 512 * (l.t - l.first);
  rest : (next : List ℕ → Ask Plan) → over (read_sectors (stored l.inode) l.t (l.end - l.t) (λ more. next (l.bytes ++ more))) l.hand
      ≡ over (read_sectors (stored l.inode) l.first (l.end - l.first) next) l.hand;
}
