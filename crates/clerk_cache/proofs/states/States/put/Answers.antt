-- The sector's old keys are out before its new ones go in.
use Rattle.std.proofs.Common.{◌≡◌, ◌+◌, ◌-◌, ◌≤◌, [], ◌∷◌, length, sym, ap, ◌∙◌, subst, arith}
use Rattle.sector_bytes.specs.SectorMaps.{Ascend, value_at, with_value, without, room_for}
use Rattle.sector_bytes.proofs.MapLaws.{ascend_with}
use Rattle.flush_order.specs.Marks.{mark_cmp}
use Rattle.flush_order.proofs.MarkOrder.{marks}
use Rattle.clerk_cache.specs.Kept.{count_of, is_idle, is_idle_bytes, is_idle_staying, is_state_bytes, is_state_dirty, is_state_fresh, mark_key, one_if, state_mark}
use Rattle.clerk_cache.specs.Indexing.{fewest, most_of, most_of_all}
use Rattle.clerk_cache.specs.Keys.{keyed}
use Rattle.clerk_cache.specs.Covers.{cover_cmp, cover_key, is_any}
use Rattle.clerk_cache.specs.CoveredMarks.{covered_mark_cmp, covered_mark_key}
use Rattle.clerk_cache.proofs.Counting.{count_within, count-with, there_counts}
use Rattle.clerk_cache.proofs.CoverOrder.{covers, other_marks, other_covers}
use Rattle.clerk_cache.proofs.CoveredMarkOrder.{covered_marks, other_keys, other_covered}
use Rattle.clerk_cache.proofs.Keying.{exchanged_keys, taken_keys, room_for_key, length-with}
use Rattle.clerk_cache.proofs.OrderRooms.{fewest_below, key_fits, state_fits, room_kept, spare_left}
use Rattle.clerk_cache.proofs.states.States.put.Goals as goal

pub exchange-requires-clause-order : goal.exchange-requires-clause-order
exchange-requires-clause-order c = marks

pub exchange-requires-clause-room : goal.exchange-requires-clause-room
exchange-requires-clause-room c =
    let s = c.args.sector.0 in
    let states = c.self.inside.states.entries in
    let most = most_of_all c.self.inside.states c.self.inside.marks c.self.inside.idle c.self.inside.bytes c.self.inside.staying c.self.inside.fresh c.self.inside.covers c.self.inside.dirty c.self.inside.waiting in
    let free : room_for states s ≤ most - length states = subst (λ map. room_for map.entries s ≤ map.spare) (sym c.self.view_is) c.requires in
    let out = taken_keys marks state_mark s (λ state entry. other_marks s state entry) c.replace_near-before.result states c.self.invariant.ascend (sym c.replace_near-before.ensures.before)
    c.self.inside.marks.entries c.keys_of-old.result.mark c.self.invariant.marks c.keys_of-old.ensures.mark in
    let below = fewest_below (most_of c.self.inside.states)
    (most_of c.self.inside.marks ∷ most_of c.self.inside.idle ∷ most_of c.self.inside.bytes ∷ most_of c.self.inside.staying ∷ most_of c.self.inside.fresh ∷ most_of c.self.inside.covers ∷ most_of c.self.inside.dirty ∷ most_of c.self.inside.waiting ∷ []) in
    key_fits _ (length (keyed mark_cmp state_mark (without states s))) (length states) (room_for states s) most (most_of c.self.inside.marks) (ap length out) (room_for_key s mark_cmp state_mark states)
    c.self.invariant.room free below.1.0

pub exchange-requires-2-clause-order : goal.exchange-requires-2-clause-order
exchange-requires-2-clause-order c = marks

pub exchange-requires-2-clause-room : goal.exchange-requires-2-clause-room
exchange-requires-2-clause-room c =
    let s = c.args.sector.0 in
    let states = c.self.inside.states.entries in
    let most = most_of_all c.self.inside.states c.self.inside.marks c.self.inside.idle c.self.inside.bytes c.self.inside.staying c.self.inside.fresh c.self.inside.covers c.self.inside.dirty c.self.inside.waiting in
    let free : room_for states s ≤ most - length states = subst (λ map. room_for map.entries s ≤ map.spare) (sym c.self.view_is) c.requires in
    let out = taken_keys marks (mark_key is_idle) s (λ state entry other. other_keys s state entry other is_idle) c.replace_near-before.result states c.self.invariant.ascend (sym c.replace_near-before.ensures.before)
    c.self.inside.idle.entries c.keys_of-old.result.idle c.self.invariant.idle c.keys_of-old.ensures.idle in
    let below = fewest_below (most_of c.self.inside.states)
    (most_of c.self.inside.marks ∷ most_of c.self.inside.idle ∷ most_of c.self.inside.bytes ∷ most_of c.self.inside.staying ∷ most_of c.self.inside.fresh ∷ most_of c.self.inside.covers ∷ most_of c.self.inside.dirty ∷ most_of c.self.inside.waiting ∷ []) in
    key_fits _ (length (keyed mark_cmp (mark_key is_idle) (without states s))) (length states) (room_for states s) most (most_of c.self.inside.idle) (ap length out) (room_for_key s mark_cmp (mark_key is_idle) states)
    c.self.invariant.room free below.1.1.0

pub exchange-requires-3-clause-order : goal.exchange-requires-3-clause-order
exchange-requires-3-clause-order c = marks

pub exchange-requires-3-clause-room : goal.exchange-requires-3-clause-room
exchange-requires-3-clause-room c =
    let s = c.args.sector.0 in
    let states = c.self.inside.states.entries in
    let most = most_of_all c.self.inside.states c.self.inside.marks c.self.inside.idle c.self.inside.bytes c.self.inside.staying c.self.inside.fresh c.self.inside.covers c.self.inside.dirty c.self.inside.waiting in
    let free : room_for states s ≤ most - length states = subst (λ map. room_for map.entries s ≤ map.spare) (sym c.self.view_is) c.requires in
    let out = taken_keys marks (mark_key is_idle_bytes) s (λ state entry other. other_keys s state entry other is_idle_bytes) c.replace_near-before.result states c.self.invariant.ascend (sym c.replace_near-before.ensures.before)
    c.self.inside.bytes.entries c.keys_of-old.result.bytes c.self.invariant.bytes c.keys_of-old.ensures.bytes in
    let below = fewest_below (most_of c.self.inside.states)
    (most_of c.self.inside.marks ∷ most_of c.self.inside.idle ∷ most_of c.self.inside.bytes ∷ most_of c.self.inside.staying ∷ most_of c.self.inside.fresh ∷ most_of c.self.inside.covers ∷ most_of c.self.inside.dirty ∷ most_of c.self.inside.waiting ∷ []) in
    key_fits _ (length (keyed mark_cmp (mark_key is_idle_bytes) (without states s))) (length states) (room_for states s) most (most_of c.self.inside.bytes) (ap length out) (room_for_key s mark_cmp (mark_key is_idle_bytes) states)
    c.self.invariant.room free below.1.1.1.0

pub exchange-requires-4-clause-order : goal.exchange-requires-4-clause-order
exchange-requires-4-clause-order c = marks

pub exchange-requires-4-clause-room : goal.exchange-requires-4-clause-room
exchange-requires-4-clause-room c =
    let s = c.args.sector.0 in
    let states = c.self.inside.states.entries in
    let most = most_of_all c.self.inside.states c.self.inside.marks c.self.inside.idle c.self.inside.bytes c.self.inside.staying c.self.inside.fresh c.self.inside.covers c.self.inside.dirty c.self.inside.waiting in
    let free : room_for states s ≤ most - length states = subst (λ map. room_for map.entries s ≤ map.spare) (sym c.self.view_is) c.requires in
    let out = taken_keys marks (mark_key is_idle_staying) s (λ state entry other. other_keys s state entry other is_idle_staying) c.replace_near-before.result states c.self.invariant.ascend (sym c.replace_near-before.ensures.before)
    c.self.inside.staying.entries c.keys_of-old.result.staying c.self.invariant.staying c.keys_of-old.ensures.staying in
    let below = fewest_below (most_of c.self.inside.states)
    (most_of c.self.inside.marks ∷ most_of c.self.inside.idle ∷ most_of c.self.inside.bytes ∷ most_of c.self.inside.staying ∷ most_of c.self.inside.fresh ∷ most_of c.self.inside.covers ∷ most_of c.self.inside.dirty ∷ most_of c.self.inside.waiting ∷ []) in
    key_fits _ (length (keyed mark_cmp (mark_key is_idle_staying) (without states s))) (length states) (room_for states s) most (most_of c.self.inside.staying) (ap length out) (room_for_key s mark_cmp (mark_key is_idle_staying) states)
    c.self.invariant.room free below.1.1.1.1.0

pub exchange-requires-5-clause-order : goal.exchange-requires-5-clause-order
exchange-requires-5-clause-order c = marks

pub exchange-requires-5-clause-room : goal.exchange-requires-5-clause-room
exchange-requires-5-clause-room c =
    let s = c.args.sector.0 in
    let states = c.self.inside.states.entries in
    let most = most_of_all c.self.inside.states c.self.inside.marks c.self.inside.idle c.self.inside.bytes c.self.inside.staying c.self.inside.fresh c.self.inside.covers c.self.inside.dirty c.self.inside.waiting in
    let free : room_for states s ≤ most - length states = subst (λ map. room_for map.entries s ≤ map.spare) (sym c.self.view_is) c.requires in
    let out = taken_keys marks (mark_key is_state_fresh) s (λ state entry other. other_keys s state entry other is_state_fresh) c.replace_near-before.result states c.self.invariant.ascend (sym c.replace_near-before.ensures.before)
    c.self.inside.fresh.entries c.keys_of-old.result.fresh c.self.invariant.fresh c.keys_of-old.ensures.fresh in
    let below = fewest_below (most_of c.self.inside.states)
    (most_of c.self.inside.marks ∷ most_of c.self.inside.idle ∷ most_of c.self.inside.bytes ∷ most_of c.self.inside.staying ∷ most_of c.self.inside.fresh ∷ most_of c.self.inside.covers ∷ most_of c.self.inside.dirty ∷ most_of c.self.inside.waiting ∷ []) in
    key_fits _ (length (keyed mark_cmp (mark_key is_state_fresh) (without states s))) (length states) (room_for states s) most (most_of c.self.inside.fresh) (ap length out) (room_for_key s mark_cmp (mark_key is_state_fresh) states)
    c.self.invariant.room free below.1.1.1.1.1.0

pub exchange-requires-6-clause-order : goal.exchange-requires-6-clause-order
exchange-requires-6-clause-order c = covers

pub exchange-requires-6-clause-room : goal.exchange-requires-6-clause-room
exchange-requires-6-clause-room c =
    let s = c.args.sector.0 in
    let states = c.self.inside.states.entries in
    let most = most_of_all c.self.inside.states c.self.inside.marks c.self.inside.idle c.self.inside.bytes c.self.inside.staying c.self.inside.fresh c.self.inside.covers c.self.inside.dirty c.self.inside.waiting in
    let free : room_for states s ≤ most - length states = subst (λ map. room_for map.entries s ≤ map.spare) (sym c.self.view_is) c.requires in
    let out = taken_keys covers (cover_key is_any) s (λ state entry other. other_covers s state entry other is_any) c.replace_near-before.result states c.self.invariant.ascend (sym c.replace_near-before.ensures.before)
    c.self.inside.covers.entries c.keys_of-old.result.cover c.self.invariant.covers c.keys_of-old.ensures.cover in
    let below = fewest_below (most_of c.self.inside.states)
    (most_of c.self.inside.marks ∷ most_of c.self.inside.idle ∷ most_of c.self.inside.bytes ∷ most_of c.self.inside.staying ∷ most_of c.self.inside.fresh ∷ most_of c.self.inside.covers ∷ most_of c.self.inside.dirty ∷ most_of c.self.inside.waiting ∷ []) in
    key_fits _ (length (keyed cover_cmp (cover_key is_any) (without states s))) (length states) (room_for states s) most (most_of c.self.inside.covers) (ap length out) (room_for_key s cover_cmp (cover_key is_any) states)
    c.self.invariant.room free below.1.1.1.1.1.1.0

pub exchange-requires-7-clause-order : goal.exchange-requires-7-clause-order
exchange-requires-7-clause-order c = covers

pub exchange-requires-7-clause-room : goal.exchange-requires-7-clause-room
exchange-requires-7-clause-room c =
    let s = c.args.sector.0 in
    let states = c.self.inside.states.entries in
    let most = most_of_all c.self.inside.states c.self.inside.marks c.self.inside.idle c.self.inside.bytes c.self.inside.staying c.self.inside.fresh c.self.inside.covers c.self.inside.dirty c.self.inside.waiting in
    let free : room_for states s ≤ most - length states = subst (λ map. room_for map.entries s ≤ map.spare) (sym c.self.view_is) c.requires in
    let out = taken_keys covers (cover_key is_state_dirty) s (λ state entry other. other_covers s state entry other is_state_dirty) c.replace_near-before.result states c.self.invariant.ascend (sym c.replace_near-before.ensures.before)
    c.self.inside.dirty.entries c.keys_of-old.result.dirty c.self.invariant.dirty c.keys_of-old.ensures.dirty in
    let below = fewest_below (most_of c.self.inside.states)
    (most_of c.self.inside.marks ∷ most_of c.self.inside.idle ∷ most_of c.self.inside.bytes ∷ most_of c.self.inside.staying ∷ most_of c.self.inside.fresh ∷ most_of c.self.inside.covers ∷ most_of c.self.inside.dirty ∷ most_of c.self.inside.waiting ∷ []) in
    key_fits _ (length (keyed cover_cmp (cover_key is_state_dirty) (without states s))) (length states) (room_for states s) most (most_of c.self.inside.dirty) (ap length out) (room_for_key s cover_cmp (cover_key is_state_dirty) states)
    c.self.invariant.room free below.1.1.1.1.1.1.1.0

pub exchange-requires-8-clause-order : goal.exchange-requires-8-clause-order
exchange-requires-8-clause-order c = covered_marks

pub exchange-requires-8-clause-room : goal.exchange-requires-8-clause-room
exchange-requires-8-clause-room c =
    let s = c.args.sector.0 in
    let states = c.self.inside.states.entries in
    let most = most_of_all c.self.inside.states c.self.inside.marks c.self.inside.idle c.self.inside.bytes c.self.inside.staying c.self.inside.fresh c.self.inside.covers c.self.inside.dirty c.self.inside.waiting in
    let free : room_for states s ≤ most - length states = subst (λ map. room_for map.entries s ≤ map.spare) (sym c.self.view_is) c.requires in
    let out = taken_keys covered_marks (covered_mark_key is_idle) s (λ state entry other. other_covered s state entry other is_idle) c.replace_near-before.result states c.self.invariant.ascend (sym c.replace_near-before.ensures.before)
    c.self.inside.waiting.entries c.keys_of-old.result.waiting c.self.invariant.waiting c.keys_of-old.ensures.waiting in
    let below = fewest_below (most_of c.self.inside.states)
    (most_of c.self.inside.marks ∷ most_of c.self.inside.idle ∷ most_of c.self.inside.bytes ∷ most_of c.self.inside.staying ∷ most_of c.self.inside.fresh ∷ most_of c.self.inside.covers ∷ most_of c.self.inside.dirty ∷ most_of c.self.inside.waiting ∷ []) in
    key_fits _ (length (keyed covered_mark_cmp (covered_mark_key is_idle) (without states s))) (length states) (room_for states s) most (most_of c.self.inside.waiting) (ap length out) (room_for_key s covered_mark_cmp (covered_mark_key is_idle) states)
    c.self.invariant.room free below.1.1.1.1.1.1.1.1.0

pub replace_near-before-requires : goal.replace_near-before-requires
replace_near-before-requires c =
    let s = c.args.sector.0 in
    let states = c.self.inside.states.entries in
    let most = most_of_all c.self.inside.states c.self.inside.marks c.self.inside.idle c.self.inside.bytes c.self.inside.staying c.self.inside.fresh c.self.inside.covers c.self.inside.dirty c.self.inside.waiting in
    let free : room_for states s ≤ most - length states = subst (λ map. room_for map.entries s ≤ map.spare) (sym c.self.view_is) c.requires in
    let below = fewest_below (most_of c.self.inside.states)
    (most_of c.self.inside.marks ∷ most_of c.self.inside.idle ∷ most_of c.self.inside.bytes ∷ most_of c.self.inside.staying ∷ most_of c.self.inside.fresh ∷ most_of c.self.inside.covers ∷ most_of c.self.inside.dirty ∷ most_of c.self.inside.waiting ∷ []) in
    state_fits (length states) (room_for states s) most c.self.inside.states.spare c.self.invariant.room free below.0

pub recount-self-inside-requires-clause-old : goal.recount-self-inside-requires-clause-old
recount-self-inside-requires-clause-old c =
    let s = c.args.sector.0 in
    let states = c.self.inside.states.entries in
    omega (arith, c.self.invariant.counted, ap (one_if is_state_bytes) c.replace_near-before.ensures.before, there_counts is_state_bytes s states)

pub recount-self-inside-requires-clause-fits : goal.recount-self-inside-requires-clause-fits
recount-self-inside-requires-clause-fits c =
    let s = c.args.sector.0 in
    let states = c.self.inside.states.entries in
    omega (
      arith,
      c.self.invariant.counted,
      ap (one_if is_state_bytes) c.replace_near-before.ensures.before,
      count-with is_state_bytes s c.args.state states c.self.invariant.ascend,
      ap (count_of is_state_bytes) c.replace_near-before.ensures.entries,
      count_within is_state_bytes c.replace_near-before.new.self.entries,
      c.count-held.ensures.most,
    )

pub invariant_of-self : goal.invariant_of-self
invariant_of-self c =
    let s = c.args.sector.0 in
    let states = c.self.inside.states.entries in
    let most = most_of_all c.self.inside.states c.self.inside.marks c.self.inside.idle c.self.inside.bytes c.self.inside.staying c.self.inside.fresh c.self.inside.covers c.self.inside.dirty c.self.inside.waiting in
    let free : room_for states s ≤ most - length states = subst (λ map. room_for map.entries s ≤ map.spare) (sym c.self.view_is) c.requires in
    let new_most = most_of_all c.replace_near-before.new.self c.exchange.new.keys c.exchange-2.new.keys c.exchange-3.new.keys c.exchange-4.new.keys c.exchange-5.new.keys c.exchange-6.new.keys c.exchange-7.new.keys c.exchange-8.new.keys in
    let same : new_most ≡ most =
    λ i. fewest (c.replace_near-before.ensures.all i) (c.exchange.ensures.most i ∷ c.exchange-2.ensures.most i ∷ c.exchange-3.ensures.most i ∷ c.exchange-4.ensures.most i ∷ c.exchange-5.ensures.most i ∷ c.exchange-6.ensures.most i ∷ c.exchange-7.ensures.most i ∷ c.exchange-8.ensures.most i ∷ []) in
    let longer = ap length c.replace_near-before.ensures.entries ∙ length-with s c.args.state states c.self.invariant.ascend in
    let o = c.replace_near-before.result in
    let there : value_at states s ≡ o = sym c.replace_near-before.ensures.before in
    record {
      ascend = subst Ascend (sym c.replace_near-before.ensures.entries) (ascend_with s c.args.state states c.self.invariant.ascend);
      room = room_kept most new_most (length states) (length c.replace_near-before.new.self.entries) (room_for states s) same longer c.self.invariant.room free;
      marks = exchanged_keys marks state_mark s (λ state entry. other_marks s state entry) o states c.self.invariant.ascend there c.self.inside.marks.entries c.keys_of-old.result.mark c.self.invariant.marks c.keys_of-old.ensures.mark
          c.args.state c.keys_of-new.result.mark c.exchange.new.keys.entries c.keys_of-new.ensures.mark c.exchange.ensures.keys ∙ ap (keyed mark_cmp state_mark) (sym c.replace_near-before.ensures.entries);
      idle = exchanged_keys marks (mark_key is_idle) s (λ state entry other. other_keys s state entry other is_idle) o states c.self.invariant.ascend there c.self.inside.idle.entries c.keys_of-old.result.idle c.self.invariant.idle c.keys_of-old.ensures.idle
          c.args.state c.keys_of-new.result.idle c.exchange-2.new.keys.entries c.keys_of-new.ensures.idle c.exchange-2.ensures.keys ∙ ap (keyed mark_cmp (mark_key is_idle)) (sym c.replace_near-before.ensures.entries);
      bytes = exchanged_keys marks (mark_key is_idle_bytes) s (λ state entry other. other_keys s state entry other is_idle_bytes) o states c.self.invariant.ascend there c.self.inside.bytes.entries c.keys_of-old.result.bytes c.self.invariant.bytes c.keys_of-old.ensures.bytes
          c.args.state c.keys_of-new.result.bytes c.exchange-3.new.keys.entries c.keys_of-new.ensures.bytes c.exchange-3.ensures.keys ∙ ap (keyed mark_cmp (mark_key is_idle_bytes)) (sym c.replace_near-before.ensures.entries);
      staying = exchanged_keys marks (mark_key is_idle_staying) s (λ state entry other. other_keys s state entry other is_idle_staying) o states c.self.invariant.ascend there c.self.inside.staying.entries c.keys_of-old.result.staying c.self.invariant.staying c.keys_of-old.ensures.staying
          c.args.state c.keys_of-new.result.staying c.exchange-4.new.keys.entries c.keys_of-new.ensures.staying c.exchange-4.ensures.keys ∙ ap (keyed mark_cmp (mark_key is_idle_staying)) (sym c.replace_near-before.ensures.entries);
      fresh = exchanged_keys marks (mark_key is_state_fresh) s (λ state entry other. other_keys s state entry other is_state_fresh) o states c.self.invariant.ascend there c.self.inside.fresh.entries c.keys_of-old.result.fresh c.self.invariant.fresh c.keys_of-old.ensures.fresh
          c.args.state c.keys_of-new.result.fresh c.exchange-5.new.keys.entries c.keys_of-new.ensures.fresh c.exchange-5.ensures.keys ∙ ap (keyed mark_cmp (mark_key is_state_fresh)) (sym c.replace_near-before.ensures.entries);
      covers = exchanged_keys covers (cover_key is_any) s (λ state entry other. other_covers s state entry other is_any) o states c.self.invariant.ascend there c.self.inside.covers.entries c.keys_of-old.result.cover c.self.invariant.covers c.keys_of-old.ensures.cover
          c.args.state c.keys_of-new.result.cover c.exchange-6.new.keys.entries c.keys_of-new.ensures.cover c.exchange-6.ensures.keys ∙ ap (keyed cover_cmp (cover_key is_any)) (sym c.replace_near-before.ensures.entries);
      dirty = exchanged_keys covers (cover_key is_state_dirty) s (λ state entry other. other_covers s state entry other is_state_dirty) o states c.self.invariant.ascend there c.self.inside.dirty.entries c.keys_of-old.result.dirty c.self.invariant.dirty c.keys_of-old.ensures.dirty
          c.args.state c.keys_of-new.result.dirty c.exchange-7.new.keys.entries c.keys_of-new.ensures.dirty c.exchange-7.ensures.keys ∙ ap (keyed cover_cmp (cover_key is_state_dirty)) (sym c.replace_near-before.ensures.entries);
      waiting = exchanged_keys covered_marks (covered_mark_key is_idle) s (λ state entry other. other_covered s state entry other is_idle) o states c.self.invariant.ascend there c.self.inside.waiting.entries c.keys_of-old.result.waiting c.self.invariant.waiting c.keys_of-old.ensures.waiting
          c.args.state c.keys_of-new.result.waiting c.exchange-8.new.keys.entries c.keys_of-new.ensures.waiting c.exchange-8.ensures.keys ∙ ap (keyed covered_mark_cmp (covered_mark_key is_idle)) (sym c.replace_near-before.ensures.entries);
      counted = omega (
        arith,
        c.recount-self-inside.ensures,
        c.self.invariant.counted,
        ap (one_if is_state_bytes) c.replace_near-before.ensures.before,
        count-with is_state_bytes s c.args.state states c.self.invariant.ascend,
        ap (count_of is_state_bytes) c.replace_near-before.ensures.entries,
      );
    }

pub returns-clause-entries : goal.returns-clause-entries
returns-clause-entries c = c.replace_near-before.ensures.entries ∙ ap (λ map. with_value map.entries c.args.sector.0 c.args.state) c.self.view_is

pub returns-clause-spare : goal.returns-clause-spare
returns-clause-spare c =
    let s = c.args.sector.0 in
    let states = c.self.inside.states.entries in
    let most = most_of_all c.self.inside.states c.self.inside.marks c.self.inside.idle c.self.inside.bytes c.self.inside.staying c.self.inside.fresh c.self.inside.covers c.self.inside.dirty c.self.inside.waiting in
    let free : room_for states s ≤ most - length states = subst (λ map. room_for map.entries s ≤ map.spare) (sym c.self.view_is) c.requires in
    let new_most = most_of_all c.replace_near-before.new.self c.exchange.new.keys c.exchange-2.new.keys c.exchange-3.new.keys c.exchange-4.new.keys c.exchange-5.new.keys c.exchange-6.new.keys c.exchange-7.new.keys c.exchange-8.new.keys in
    let same : new_most ≡ most =
    λ i. fewest (c.replace_near-before.ensures.all i) (c.exchange.ensures.most i ∷ c.exchange-2.ensures.most i ∷ c.exchange-3.ensures.most i ∷ c.exchange-4.ensures.most i ∷ c.exchange-5.ensures.most i ∷ c.exchange-6.ensures.most i ∷ c.exchange-7.ensures.most i ∷ c.exchange-8.ensures.most i ∷ []) in
    let longer = ap length c.replace_near-before.ensures.entries ∙ length-with s c.args.state states c.self.invariant.ascend in
    subst (λ map. new_most - length c.replace_near-before.new.self.entries + room_for map.entries s ≡ map.spare) c.self.view_is
    (spare_left most new_most (length states) (length c.replace_near-before.new.self.entries) (room_for states s) same longer c.self.invariant.room free)
