-- The first bytes are set.
use Rattle.std.proofs.Common.{◌≡◌, length, ◌+◌, ◌*◌, slice_index}
use Rattle.disk_definitions.specs.FilePlans.{byte_over}
use Rattle.op_data.specs.Writings.{writing_of}
use Rattle.op_data.proofs.Setting.{SetBelow}
use Rattle.op_data.proofs.writing.Writing.mixed.Given as goal

abbrev pub invariant-loop-r : goal.invariant-loop-r
invariant-loop-r l = record { size : length l.block ≡ 512; set : SetBelow l.block (λ i. byte_over (writing_of l.self) (512 * l.t + i) (slice_index l.around i)) (slice_index l.around) l.r }
