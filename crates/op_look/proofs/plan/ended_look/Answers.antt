-- The plan is handed out as the look ended.
use Rattle.std.proofs.Common.{subst, ◌∙◌}
use Rattle.disk_definitions.specs.PlanOf.{plan_of}
use Rattle.dir_lookup.specs.Reading.{reading}
use Rattle.plan_steps.specs.Ends.{Stops}
use Rattle.op_look.proofs.Answered.{clear_is, done_is, need_is, segments_is}
use Rattle.op_look.proofs.plan.ended_look.Goals as goal

pub returns-in-Ok : goal.returns-in-Ok
returns-in-Ok c h birth when held =
    let cached = c.args.sectors.now.entries in
    c.done.ensures ∙ done_is cached held (reading (plan_of h birth when c.args.op.now) cached held) c.in-Ok.reply (c.in-Ok.ensures h birth when held)

pub returns-in-Err-Refused : goal.returns-in-Err-Refused
returns-in-Err-Refused c h birth when held =
    let cached = c.args.sectors.now.entries in
    let p = reading (plan_of h birth when c.args.op.now) cached held in
    c.done-in-Err-Refused.ensures ∙ done_is cached held p c.in-Err-Refused.reply (subst (Stops p) c.in-Err-Refused.field-0-is (c.in-Err-Refused.ensures h birth when held))

pub returns-in-Err-Need : goal.returns-in-Err-Need
returns-in-Err-Need c h birth when held =
    let cached = c.args.sectors.now.entries in
    let p = reading (plan_of h birth when c.args.op.now) cached held in
    need_is cached held p c.in-Err-Need.sector (subst (Stops p) c.in-Err-Need.field-0-is (c.in-Err-Need.ensures h birth when held))

pub returns-in-Err-Segments : goal.returns-in-Err-Segments
returns-in-Err-Segments c h birth when held =
    let cached = c.args.sectors.now.entries in
    let p = reading (plan_of h birth when c.args.op.now) cached held in
    segments_is cached held p (subst (Stops p) c.in-Err-Segments.field-0-is (c.in-Err-Segments.ensures h birth when held))

pub returns-in-Err-Clear : goal.returns-in-Err-Clear
returns-in-Err-Clear c h birth when held =
    let cached = c.args.sectors.now.entries in
    let p = reading (plan_of h birth when c.args.op.now) cached held in
    clear_is cached held p c.in-Err-Clear.block (subst (Stops p) c.in-Err-Clear.field-0-is (c.in-Err-Clear.ensures h birth when held))
