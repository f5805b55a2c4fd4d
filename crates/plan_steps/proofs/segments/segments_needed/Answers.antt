-- A node that goes needs its segments.
use Rattle.std.proofs.Common.{◌≡◌, ℕ, true, false, [], cond, sym, ap, ◌∙◌}
use Rattle.disk_definitions.specs.Store.{stored}
use Rattle.disk_definitions.specs.Plans.{Finishes}
use Rattle.disk_definitions.specs.NamePlans as plans
use Rattle.dir_lookup.proofs.Looking.{adds_as, adds_none}
use Rattle.plan_steps.specs.Looking.{looked_over}
use Rattle.plan_steps.specs.Rooms.{needed}
use Rattle.plan_steps.proofs.Needed.{looks_over}
use Rattle.plan_steps.proofs.SegmentLooks.{over_looks}
use Rattle.plan_steps.proofs.segments.segments_needed.Goals as goal

pub returns-then-is_last-clause-over : goal.returns-then-is_last-clause-over
returns-then-is_last-clause-over c =
    let held = c.args.hand.now.held.now in
    let j : ℕ = c.args.node.now.number in
    let y = stored c.args.node.now.inode in
    let t : plans.is_last y ≡ true = sym c.is_last.ensures ∙ c.if-is_last.true in
    looks_over c.args.hand.now (plans.fewer_segments j y) c.segments_of_node.result
    (c.segments_of_node.ensures.needs ∙ ap (λ b. needed held (cond b (plans.segments_of j y) [])) (sym t))

pub returns-then-is_last-clause-looks : goal.returns-then-is_last-clause-looks
returns-then-is_last-clause-looks c finish =
    let cached = c.args.hand.now.sectors.now.entries in
    let held = c.args.hand.now.held.now in
    let j : ℕ = c.args.node.now.number in
    let y = stored c.args.node.now.inode in
    let t : plans.is_last y ≡ true = sym c.is_last.ensures ∙ c.if-is_last.true in
    adds_as _ _ _ _ (ap (λ b. looked_over held (cond b (plans.segments_of j y) [])) (sym t) ∙ sym (over_looks cached held (plans.fewer_segments j y) (Finishes finish))) c.segments_of_node.ensures.looks

pub returns-else-is_last-clause-looks : goal.returns-else-is_last-clause-looks
returns-else-is_last-clause-looks c finish =
    let cached = c.args.hand.now.sectors.now.entries in
    let held = c.args.hand.now.held.now in
    let j : ℕ = c.args.node.now.number in
    let y = stored c.args.node.now.inode in
    let t : plans.is_last y ≡ false = sym c.is_last.ensures ∙ c.if-is_last.false in
    adds_as _ _ [] _ (ap (λ b. looked_over held (cond b (plans.segments_of j y) [])) (sym t) ∙ sym (over_looks cached held (plans.fewer_segments j y) (Finishes finish))) (adds_none _)
