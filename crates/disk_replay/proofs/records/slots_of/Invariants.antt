use Rattle.std.proofs.Common.{◌≡◌, ◌<◌, ℕ, [], length}
use Rattle.std.specs.Prelude.{slice_index_or}
use Rattle.sector_bytes.specs.Sectors.{sectors_of}
use Rattle.disk_definitions.specs.Replay as replays
use Rattle.disk_replay.proofs.records.slots_of.Given as goal

abbrev pub invariant-loop-slot : goal.invariant-loop-slot
invariant-loop-slot l = record {
  count : length l.slots.items ≡ l.slot;
  blocks : (slot : ℕ) → slot < l.slot → slice_index_or l.slots.items slot [] ≡ replays.slots_of (sectors_of l.disk) l.server.0 slot;
}
