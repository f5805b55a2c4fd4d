-- The sector and its keys are out.
use Rattle.std.proofs.Common.{◌≡◌, ◌-◌, ◌≤◌, [], ◌∷◌, length, sym, ap, ◌∙◌, subst, arith}
use Rattle.sector_bytes.specs.SectorMaps.{Ascend, value_at, without}
use Rattle.sector_bytes.proofs.MapLaws.{ascend_without}
use Rattle.flush_order.specs.Marks.{mark_cmp}
use Rattle.flush_order.proofs.MarkOrder.{marks}
use Rattle.clerk_cache.specs.Kept.{count_of, is_idle, is_idle_bytes, is_idle_staying, is_state_bytes, is_state_dirty, is_state_fresh, mark_key, one_if, state_mark}
use Rattle.clerk_cache.specs.Indexing.{fewest, most_of_all}
use Rattle.clerk_cache.specs.Keys.{keyed}
use Rattle.clerk_cache.specs.Covers.{cover_cmp, cover_key, is_any}
use Rattle.clerk_cache.specs.CoveredMarks.{covered_mark_cmp, covered_mark_key}
use Rattle.clerk_cache.proofs.Counting.{count_within, count-without, there_counts}
use Rattle.clerk_cache.proofs.CoverOrder.{covers, other_marks, other_covers}
use Rattle.clerk_cache.proofs.CoveredMarkOrder.{covered_marks, other_keys, other_covered}
use Rattle.clerk_cache.proofs.Keying.{taken_keys, shorter}
use Rattle.clerk_cache.proofs.OrderRooms.{room_shrunk, spare_grown}
use Rattle.clerk_cache.proofs.states.States.remove.Goals as goal

pub recount-self-inside-requires-clause-old : goal.recount-self-inside-requires-clause-old
recount-self-inside-requires-clause-old c =
    let s = c.args.sector.0 in
    let states = c.self.inside.states.entries in
    omega (arith, c.self.invariant.counted, ap (one_if is_state_bytes) c.take_near-before.ensures.before, there_counts is_state_bytes s states)

pub recount-self-inside-requires-clause-fits : goal.recount-self-inside-requires-clause-fits
recount-self-inside-requires-clause-fits c =
    let s = c.args.sector.0 in
    let states = c.self.inside.states.entries in
    omega (
      arith,
      c.self.invariant.counted,
      ap (one_if is_state_bytes) c.take_near-before.ensures.before,
      count-without is_state_bytes s states,
      ap (count_of is_state_bytes) c.take_near-before.ensures.entries,
      count_within is_state_bytes c.take_near-before.new.self.entries,
      c.count-held.ensures.most,
    )

pub invariant_of-self : goal.invariant_of-self
invariant_of-self c =
    let s = c.args.sector.0 in
    let states = c.self.inside.states.entries in
    let most = most_of_all c.self.inside.states c.self.inside.marks c.self.inside.idle c.self.inside.bytes c.self.inside.staying c.self.inside.fresh c.self.inside.covers c.self.inside.dirty c.self.inside.waiting in
    let new_most = most_of_all c.take_near-before.new.self c.take_out.new.keys c.take_out-2.new.keys c.take_out-3.new.keys c.take_out-4.new.keys c.take_out-5.new.keys c.take_out-6.new.keys c.take_out-7.new.keys c.take_out-8.new.keys in
    let same : new_most ≡ most =
    λ i. fewest (c.take_near-before.ensures.all i) (c.take_out.ensures.most i ∷ c.take_out-2.ensures.most i ∷ c.take_out-3.ensures.most i ∷ c.take_out-4.ensures.most i ∷ c.take_out-5.ensures.most i ∷ c.take_out-6.ensures.most i ∷ c.take_out-7.ensures.most i ∷ c.take_out-8.ensures.most i ∷ []) in
    let fewer = subst (λ left. length left ≤ length states) (sym c.take_near-before.ensures.entries) (shorter s states) in
    let o = c.take_near-before.result in
    let there : value_at states s ≡ o = sym c.take_near-before.ensures.before in
    record {
      ascend = subst Ascend (sym c.take_near-before.ensures.entries) (ascend_without s states c.self.invariant.ascend);
      room = room_shrunk most new_most (length states) (length c.take_near-before.new.self.entries) same fewer c.self.invariant.room;
      marks = c.take_out.ensures.keys ∙ taken_keys marks state_mark s (λ state entry. other_marks s state entry) o states c.self.invariant.ascend there c.self.inside.marks.entries c.keys_of-old.result.mark c.self.invariant.marks c.keys_of-old.ensures.mark
          ∙ ap (keyed mark_cmp state_mark) (sym c.take_near-before.ensures.entries);
      idle = c.take_out-2.ensures.keys ∙ taken_keys marks (mark_key is_idle) s (λ state entry other. other_keys s state entry other is_idle) o states c.self.invariant.ascend there c.self.inside.idle.entries c.keys_of-old.result.idle c.self.invariant.idle c.keys_of-old.ensures.idle
          ∙ ap (keyed mark_cmp (mark_key is_idle)) (sym c.take_near-before.ensures.entries);
      bytes = c.take_out-3.ensures.keys ∙ taken_keys marks (mark_key is_idle_bytes) s (λ state entry other. other_keys s state entry other is_idle_bytes) o states c.self.invariant.ascend there c.self.inside.bytes.entries c.keys_of-old.result.bytes c.self.invariant.bytes c.keys_of-old.ensures.bytes
          ∙ ap (keyed mark_cmp (mark_key is_idle_bytes)) (sym c.take_near-before.ensures.entries);
      staying = c.take_out-4.ensures.keys ∙ taken_keys marks (mark_key is_idle_staying) s (λ state entry other. other_keys s state entry other is_idle_staying) o states c.self.invariant.ascend there c.self.inside.staying.entries c.keys_of-old.result.staying c.self.invariant.staying c.keys_of-old.ensures.staying
          ∙ ap (keyed mark_cmp (mark_key is_idle_staying)) (sym c.take_near-before.ensures.entries);
      fresh = c.take_out-5.ensures.keys ∙ taken_keys marks (mark_key is_state_fresh) s (λ state entry other. other_keys s state entry other is_state_fresh) o states c.self.invariant.ascend there c.self.inside.fresh.entries c.keys_of-old.result.fresh c.self.invariant.fresh c.keys_of-old.ensures.fresh
          ∙ ap (keyed mark_cmp (mark_key is_state_fresh)) (sym c.take_near-before.ensures.entries);
      covers = c.take_out-6.ensures.keys ∙ taken_keys covers (cover_key is_any) s (λ state entry other. other_covers s state entry other is_any) o states c.self.invariant.ascend there c.self.inside.covers.entries c.keys_of-old.result.cover c.self.invariant.covers c.keys_of-old.ensures.cover
          ∙ ap (keyed cover_cmp (cover_key is_any)) (sym c.take_near-before.ensures.entries);
      dirty = c.take_out-7.ensures.keys ∙ taken_keys covers (cover_key is_state_dirty) s (λ state entry other. other_covers s state entry other is_state_dirty) o states c.self.invariant.ascend there c.self.inside.dirty.entries c.keys_of-old.result.dirty c.self.invariant.dirty c.keys_of-old.ensures.dirty
          ∙ ap (keyed cover_cmp (cover_key is_state_dirty)) (sym c.take_near-before.ensures.entries);
      waiting = c.take_out-8.ensures.keys ∙ taken_keys covered_marks (covered_mark_key is_idle) s (λ state entry other. other_covered s state entry other is_idle) o states c.self.invariant.ascend there c.self.inside.waiting.entries c.keys_of-old.result.waiting c.self.invariant.waiting c.keys_of-old.ensures.waiting
          ∙ ap (keyed covered_mark_cmp (covered_mark_key is_idle)) (sym c.take_near-before.ensures.entries);
      counted = omega (
        arith,
        c.recount-self-inside.ensures,
        c.self.invariant.counted,
        ap (one_if is_state_bytes) c.take_near-before.ensures.before,
        count-without is_state_bytes s states,
        ap (count_of is_state_bytes) c.take_near-before.ensures.entries,
      );
    }

pub returns-clause-entries : goal.returns-clause-entries
returns-clause-entries c = c.take_near-before.ensures.entries ∙ ap (λ map. without map.entries c.args.sector.0) c.self.view_is

pub returns-clause-spare : goal.returns-clause-spare
returns-clause-spare c =
    let s = c.args.sector.0 in
    let states = c.self.inside.states.entries in
    let most = most_of_all c.self.inside.states c.self.inside.marks c.self.inside.idle c.self.inside.bytes c.self.inside.staying c.self.inside.fresh c.self.inside.covers c.self.inside.dirty c.self.inside.waiting in
    let new_most = most_of_all c.take_near-before.new.self c.take_out.new.keys c.take_out-2.new.keys c.take_out-3.new.keys c.take_out-4.new.keys c.take_out-5.new.keys c.take_out-6.new.keys c.take_out-7.new.keys c.take_out-8.new.keys in
    let same : new_most ≡ most =
    λ i. fewest (c.take_near-before.ensures.all i) (c.take_out.ensures.most i ∷ c.take_out-2.ensures.most i ∷ c.take_out-3.ensures.most i ∷ c.take_out-4.ensures.most i ∷ c.take_out-5.ensures.most i ∷ c.take_out-6.ensures.most i ∷ c.take_out-7.ensures.most i ∷ c.take_out-8.ensures.most i ∷ []) in
    let fewer = subst (λ left. length left ≤ length states) (sym c.take_near-before.ensures.entries) (shorter s states) in
    subst (λ map. map.spare ≤ new_most - length c.take_near-before.new.self.entries) c.self.view_is
    (spare_grown most new_most (length states) (length c.take_near-before.new.self.entries) same fewer)
