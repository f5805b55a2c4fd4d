-- The least mark of the states that pass is that of the sectors.
use Rattle.std.proofs.Common.{not, ◌&&◌, ap, ◌∙◌}
use Rattle.flush_order.specs.Marks.{next_reached, sector_reached}
use Rattle.clerk_cache.specs.Kept.{is_idle_under, is_state_under, is_state_flying}
use Rattle.clerk_cache.specs.Marks.{idle_marks_of, is_one_under}
use Rattle.clerk_cache.proofs.IdleMarks.{passing-joined, told}
use Rattle.clerk_cache.proofs.Joining.{states_ascend}
use Rattle.clerk_cache.proofs.cache.Cache.next_under.Goals as goal

pub returns : goal.returns
returns c =
    let all = c.self.inside.states.entries in
    let sorted = states_ascend c.self.invariant in
    c.sector_reached.ensures ∙ ap (sector_reached c.args.reached) c.first_waiting.ensures
    ∙ ap (λ marks. next_reached marks c.args.reached)
    (passing-joined all sorted (is_idle_under c.args.lock) (is_one_under c.args.lock) (λ sector block state is. ap (λ f. not f && is_state_under c.args.lock state) (told all sorted is_state_flying sector state is)) c.self.inside.sectors.entries c.self.invariant.alike)
    ∙ ap (λ cache. next_reached (idle_marks_of (is_one_under c.args.lock) cache) c.args.reached) c.self.view_is
