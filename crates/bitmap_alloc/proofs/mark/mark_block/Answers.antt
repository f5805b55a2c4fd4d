-- Bytes with the same states are the same.
use Rattle.std.proofs.Common.{rules, arith, ◌≡◌, ℕ, ◌<◌, length, get_or}
use Rattle.bitmap_block.specs.States.{state_number}
use Rattle.disk_definitions.specs.Taken.{with_state}
use Rattle.bitmap_alloc.proofs.Exact.{state_below, same_bitmap, same_states}
use Rattle.bitmap_alloc.proofs.mark.mark_block.Goals as goal

pub returns : goal.returns
returns c =
    let n : length c.args.bitmap.states ≡ 256 = omega arith in
    let m : length c.with_state.result.states ≡ 256 = omega arith in
    let old : (i : ℕ) → i < 256 → get_or c.args.bitmap.states i 0 < 256 = λ i l. search rules in
    let new : (i : ℕ) → i < 256 → get_or c.with_state.result.states i 0 < 256 = λ i l. search rules in
    let s = state_number c.args.state in
    same_bitmap c.with_state.result (with_state c.args.bitmap c.args.j s) c.with_state.ensures.others.0 c.with_state.ensures.others.1
    (same_states c.args.bitmap c.with_state.result c.args.j s n m old new (state_below c.args.state) c.requires c.with_state.ensures.states) c.with_state.ensures.others.2
