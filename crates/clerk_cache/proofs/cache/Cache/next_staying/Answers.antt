-- The least mark of the states that pass is that of the sectors.
use Rattle.std.proofs.Common.{not, ◌&&◌, ap, ◌∙◌}
use Rattle.flush_order.specs.Marks.{next_reached, sector_reached}
use Rattle.clerk_cache.specs.Kept.{flagged, is_idle_staying, is_state_flying, is_state_staying}
use Rattle.clerk_cache.specs.Marks.{idle_marks_of, is_one_staying}
use Rattle.clerk_cache.proofs.IdleMarks.{passing-joined, told}
use Rattle.clerk_cache.proofs.Joining.{states_ascend}
use Rattle.clerk_cache.proofs.cache.Cache.next_staying.Goals as goal

pub returns : goal.returns
returns c =
    let all = c.self.inside.states.entries in
    let sorted = states_ascend c.self.invariant in
    c.sector_reached.ensures ∙ ap (sector_reached c.args.reached) c.first_staying.ensures
    ∙ ap (λ marks. next_reached marks c.args.reached)
    (passing-joined all sorted is_idle_staying (is_one_staying (flagged is_state_staying all)) (λ sector block state is. (λ i. not (told all sorted is_state_flying sector state is i) && told all sorted is_state_staying sector state is i)) c.self.inside.sectors.entries c.self.invariant.alike)
    ∙ ap (λ cache. next_reached (idle_marks_of (is_one_staying cache.staying) cache) c.args.reached) c.self.view_is
