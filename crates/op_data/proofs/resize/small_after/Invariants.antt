-- The first blocks are set.
use Rattle.std.proofs.Common.{◌≡◌, length}
use Rattle.disk_definitions.specs.Store.{stored}
use Rattle.disk_definitions.specs.FilePlans.{small_after}
use Rattle.op_data.proofs.Setting.{SetBelow}
use Rattle.op_data.proofs.resize.small_after.Given as goal

abbrev pub invariant-loop-n : goal.invariant-loop-n
invariant-loop-n l = record { size : length l.small ≡ 16; set : SetBelow l.small (small_after (stored l.inode) l.picks l.blocks) (λ i. 0) l.n }
