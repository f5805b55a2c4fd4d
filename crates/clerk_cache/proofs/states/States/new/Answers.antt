-- Nothing has keys.
use Rattle.std.proofs.Common.{◌≡◌, ℕ, ◌≤◌, length, sym, ap, ◌∙◌, subst, arith}
use Rattle.sector_bytes.specs.SectorMaps.{Ascend}
use Rattle.meta_version.proofs.SectorPlaces.{ascend_none}
use Rattle.flush_order.specs.Marks.{mark_cmp}
use Rattle.clerk_cache.specs.declared.state.SectorState.{SectorState}
use Rattle.clerk_cache.specs.Kept.{count_of, is_idle, is_idle_bytes, is_idle_staying, is_state_bytes, is_state_dirty, is_state_fresh, mark_key, state_mark}
use Rattle.clerk_cache.specs.Keys.{keyed}
use Rattle.clerk_cache.specs.Covers.{cover_cmp, cover_key, is_any}
use Rattle.clerk_cache.specs.CoveredMarks.{covered_mark_cmp, covered_mark_key}
use Rattle.clerk_cache.proofs.states.States.new.Goals as goal

none : (held all : ℕ) → held ≡ 0 → held ≤ all
none held all is = omega arith

pub invariant_of-result : goal.invariant_of-result
invariant_of-result c = record {
  ascend = subst Ascend (sym c.new.ensures.entries) (ascend_none SectorState);
  room = none (length _) _ (ap length c.new.ensures.entries);
  marks = c.new-2.ensures.entries ∙ ap (keyed mark_cmp state_mark) (sym c.new.ensures.entries);
  idle = c.new-3.ensures.entries ∙ ap (keyed mark_cmp (mark_key is_idle)) (sym c.new.ensures.entries);
  bytes = c.new-4.ensures.entries ∙ ap (keyed mark_cmp (mark_key is_idle_bytes)) (sym c.new.ensures.entries);
  staying = c.new-5.ensures.entries ∙ ap (keyed mark_cmp (mark_key is_idle_staying)) (sym c.new.ensures.entries);
  fresh = c.new-6.ensures.entries ∙ ap (keyed mark_cmp (mark_key is_state_fresh)) (sym c.new.ensures.entries);
  covers = c.new-7.ensures.entries ∙ ap (keyed cover_cmp (cover_key is_any)) (sym c.new.ensures.entries);
  dirty = c.new-8.ensures.entries ∙ ap (keyed cover_cmp (cover_key is_state_dirty)) (sym c.new.ensures.entries);
  waiting = c.new-9.ensures.entries ∙ ap (keyed covered_mark_cmp (covered_mark_key is_idle)) (sym c.new.ensures.entries);
  counted = ap (count_of is_state_bytes) (sym c.new.ensures.entries);
}
