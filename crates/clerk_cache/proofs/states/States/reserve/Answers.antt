-- No order has less room than before.
use Rattle.std.proofs.Common.{◌-◌, ◌≤◌, [], ◌∷◌, length, sym, ap, ◌∙◌, subst, arith}
use Rattle.sector_bytes.specs.SectorMaps.{Ascend}
use Rattle.flush_order.specs.Marks.{mark_cmp}
use Rattle.clerk_cache.specs.Kept.{count_of, is_idle, is_idle_bytes, is_idle_staying, is_state_bytes, is_state_dirty, is_state_fresh, mark_key, state_mark}
use Rattle.clerk_cache.specs.Indexing.{most_of, most_of_all}
use Rattle.clerk_cache.specs.Keys.{keyed}
use Rattle.clerk_cache.specs.Covers.{cover_cmp, cover_key, is_any}
use Rattle.clerk_cache.specs.CoveredMarks.{covered_mark_cmp, covered_mark_key}
use Rattle.clerk_cache.proofs.OrderRooms.{fewest_grows, room_grown, spare_widened}
use Rattle.clerk_cache.proofs.states.States.reserve.Goals as goal

pub invariant_of-self : goal.invariant_of-self
invariant_of-self c =
    let states = c.self.inside.states.entries in
    let most = most_of_all c.self.inside.states c.self.inside.marks c.self.inside.idle c.self.inside.bytes c.self.inside.staying c.self.inside.fresh c.self.inside.covers c.self.inside.dirty c.self.inside.waiting in
    let new_most = most_of_all c.reserve.new.self c.reserve-2.new.keys c.reserve-3.new.keys c.reserve-4.new.keys c.reserve-5.new.keys c.reserve-6.new.keys c.reserve-7.new.keys c.reserve-8.new.keys c.reserve-9.new.keys in
    let grown : most ≤ new_most =
    fewest_grows (most_of c.self.inside.states) (most_of c.reserve.new.self) (most_of c.self.inside.marks ∷ most_of c.self.inside.idle ∷ most_of c.self.inside.bytes ∷ most_of c.self.inside.staying ∷ most_of c.self.inside.fresh ∷ most_of c.self.inside.covers ∷ most_of c.self.inside.dirty ∷ most_of c.self.inside.waiting ∷ [])
    (most_of c.reserve-2.new.keys ∷ most_of c.reserve-3.new.keys ∷ most_of c.reserve-4.new.keys ∷ most_of c.reserve-5.new.keys ∷ most_of c.reserve-6.new.keys ∷ most_of c.reserve-7.new.keys ∷ most_of c.reserve-8.new.keys ∷ most_of c.reserve-9.new.keys ∷ [])
    (omega (arith, c.reserve.ensures.spare, ap length c.reserve.ensures.entries)) (c.reserve-2.ensures.most, (c.reserve-3.ensures.most, (c.reserve-4.ensures.most, (c.reserve-5.ensures.most, (c.reserve-6.ensures.most, (c.reserve-7.ensures.most, (c.reserve-8.ensures.most, (c.reserve-9.ensures.most, tt)))))))) in
    record {
      ascend = subst Ascend (sym c.reserve.ensures.entries) c.self.invariant.ascend;
      room = room_grown most new_most (length states) (length c.reserve.new.self.entries) grown (ap length c.reserve.ensures.entries) c.self.invariant.room;
      marks = c.reserve-2.ensures.keys ∙ c.self.invariant.marks ∙ ap (keyed mark_cmp state_mark) (sym c.reserve.ensures.entries);
      idle = c.reserve-3.ensures.keys ∙ c.self.invariant.idle ∙ ap (keyed mark_cmp (mark_key is_idle)) (sym c.reserve.ensures.entries);
      bytes = c.reserve-4.ensures.keys ∙ c.self.invariant.bytes ∙ ap (keyed mark_cmp (mark_key is_idle_bytes)) (sym c.reserve.ensures.entries);
      staying = c.reserve-5.ensures.keys ∙ c.self.invariant.staying ∙ ap (keyed mark_cmp (mark_key is_idle_staying)) (sym c.reserve.ensures.entries);
      fresh = c.reserve-6.ensures.keys ∙ c.self.invariant.fresh ∙ ap (keyed mark_cmp (mark_key is_state_fresh)) (sym c.reserve.ensures.entries);
      covers = c.reserve-7.ensures.keys ∙ c.self.invariant.covers ∙ ap (keyed cover_cmp (cover_key is_any)) (sym c.reserve.ensures.entries);
      dirty = c.reserve-8.ensures.keys ∙ c.self.invariant.dirty ∙ ap (keyed cover_cmp (cover_key is_state_dirty)) (sym c.reserve.ensures.entries);
      waiting = c.reserve-9.ensures.keys ∙ c.self.invariant.waiting ∙ ap (keyed covered_mark_cmp (covered_mark_key is_idle)) (sym c.reserve.ensures.entries);
      counted = c.self.invariant.counted ∙ ap (count_of is_state_bytes) (sym c.reserve.ensures.entries);
    }

pub returns-clause-spare : goal.returns-clause-spare
returns-clause-spare c =
    let states = c.self.inside.states.entries in
    let most = most_of_all c.self.inside.states c.self.inside.marks c.self.inside.idle c.self.inside.bytes c.self.inside.staying c.self.inside.fresh c.self.inside.covers c.self.inside.dirty c.self.inside.waiting in
    let new_most = most_of_all c.reserve.new.self c.reserve-2.new.keys c.reserve-3.new.keys c.reserve-4.new.keys c.reserve-5.new.keys c.reserve-6.new.keys c.reserve-7.new.keys c.reserve-8.new.keys c.reserve-9.new.keys in
    let grown : most ≤ new_most =
    fewest_grows (most_of c.self.inside.states) (most_of c.reserve.new.self) (most_of c.self.inside.marks ∷ most_of c.self.inside.idle ∷ most_of c.self.inside.bytes ∷ most_of c.self.inside.staying ∷ most_of c.self.inside.fresh ∷ most_of c.self.inside.covers ∷ most_of c.self.inside.dirty ∷ most_of c.self.inside.waiting ∷ [])
    (most_of c.reserve-2.new.keys ∷ most_of c.reserve-3.new.keys ∷ most_of c.reserve-4.new.keys ∷ most_of c.reserve-5.new.keys ∷ most_of c.reserve-6.new.keys ∷ most_of c.reserve-7.new.keys ∷ most_of c.reserve-8.new.keys ∷ most_of c.reserve-9.new.keys ∷ [])
    (omega (arith, c.reserve.ensures.spare, ap length c.reserve.ensures.entries)) (c.reserve-2.ensures.most, (c.reserve-3.ensures.most, (c.reserve-4.ensures.most, (c.reserve-5.ensures.most, (c.reserve-6.ensures.most, (c.reserve-7.ensures.most, (c.reserve-8.ensures.most, (c.reserve-9.ensures.most, tt)))))))) in
    subst (λ map. map.spare ≤ new_most - length c.reserve.new.self.entries) c.self.view_is
    (spare_widened most new_most (length states) (length c.reserve.new.self.entries) grown (ap length c.reserve.ensures.entries))
