use Rattle.std.proofs.Common.{◌≡◌, ◌<◌, ℕ, [], length}
use Rattle.std.specs.Prelude.{slice_index_or}
use Rattle.log_slots.specs.Reading.{read_slots}
use Rattle.log_slots.proofs.slots.Slots.blocks.Given as goal

abbrev pub invariant-loop-slot : goal.invariant-loop-slot
invariant-loop-slot l = record {
  count : length l.blocks.items ≡ l.slot;
  blocks : (slot : ℕ) → slot < l.slot → slice_index_or l.blocks.items slot [] ≡ read_slots l.self.entries slot;
}
