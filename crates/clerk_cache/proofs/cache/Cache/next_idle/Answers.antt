-- The least mark of the states that pass is that of the sectors.
use Rattle.std.proofs.Common.{not, ap, sym, ◌∙◌}
use mathlib.Core.Bool.{and-true}
use Rattle.flush_order.specs.Marks.{next_reached, sector_reached}
use Rattle.clerk_cache.specs.Kept.{is_idle, is_state_flying}
use Rattle.clerk_cache.specs.Marks.{idle_marks_of, is_one}
use Rattle.clerk_cache.proofs.IdleMarks.{passing-joined, told}
use Rattle.clerk_cache.proofs.Joining.{states_ascend}
use Rattle.clerk_cache.proofs.cache.Cache.next_idle.Goals as goal

pub returns : goal.returns
returns c =
    let all = c.self.inside.states.entries in
    let sorted = states_ascend c.self.invariant in
    c.sector_reached.ensures ∙ ap (sector_reached c.args.reached) c.first_idle.ensures
    ∙ ap (λ marks. next_reached marks c.args.reached)
    (passing-joined all sorted is_idle (is_one) (λ sector block state is. ap not (told all sorted is_state_flying sector state is) ∙ sym (and-true _)) c.self.inside.sectors.entries c.self.invariant.alike)
    ∙ ap (λ cache. next_reached (idle_marks_of is_one cache) c.args.reached) c.self.view_is
