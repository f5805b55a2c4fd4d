use Rattle.std.proofs.Common.{◌≡◌, ◌≤◌, ◌-◌, ◌++◌, length}
use Rattle.std.specs.Option.{option_map}
use Rattle.disk_definitions.specs.Held.{state_in}
use Rattle.disk_definitions.specs.Picks.{picks, picked_many}
use Rattle.bitmap_alloc.proofs.Steps.{left}
use Rattle.bitmap_alloc.proofs.pick.pick_many.Given as goal

abbrev pub invariant-loop-block : goal.invariant-loop-block
invariant-loop-block l = record {
  below : l.from ≤ 65536;
  few : length l.picked.items ≤ l.count;
  rest : option_map (λ bs. l.picked.items ++ bs) (picks (left (state_in l.held) l.from) (l.count - length l.picked.items)) ≡ picked_many l.held l.count;
}

abbrev pub decreases-loop-block : goal.decreases-loop-block
decreases-loop-block l = l.count - length l.picked.items
