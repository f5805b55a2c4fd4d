-- The small blocks, and then the large one.
use Rattle.std.proofs.Common.{◌≡◌, ◌/◌, Some, None, Err, map, sym, ap, ◌∙◌, rules}
use Rattle.disk_definitions.specs.FilePlans.{large_segment}
use Rattle.plan_steps.specs.Rooms.{missing_of, needed}
use Rattle.plan_steps.proofs.Needed.{first_needed, then_needed}
use Rattle.plan_steps.proofs.SegmentLooks.{over_first, over_then}
use Rattle.op_data.proofs.segments.all_held.Goals as goal

pub returns-in_err-small_held-clause-needs : goal.returns-in_err-small_held-clause-needs
returns-in_err-small_held-clause-needs c =
    let held = c.args.held.now in
    let small = map (λ k. k / 1024) c.args.blocks.now in
    let need = c.in_err-small_held.field-0.0 in
    let e : c.from_residual.result ≡ Err need = search rules in
    let s : Some need.0.0 ≡ needed held small = sym (ap missing_of c.in_err-small_held.was) ∙ c.small_held.ensures.needs in
    ap missing_of e ∙ first_needed held small (large_segment c.args.large) need.0.0 s

pub returns-clause-needs : goal.returns-clause-needs
returns-clause-needs c =
    let held = c.args.held.now in
    let small = map (λ k. k / 1024) c.args.blocks.now in
    let n : None ≡ needed held small = sym (ap missing_of c.in_ok-small_held.was) ∙ c.small_held.ensures.needs in
    then_needed held small (large_segment c.args.large) (missing_of c.large_held.result) n c.large_held.ensures.needs

pub returns-in_err-small_held-clause-looks : goal.returns-in_err-small_held-clause-looks
returns-in_err-small_held-clause-looks c =
    let held = c.args.held.now in
    let blocks = c.args.blocks.now in
    let small = map (λ k. k / 1024) blocks in
    let need = c.in_err-small_held.field-0.0 in
    let s : Some need.0.0 ≡ needed held small = sym (ap missing_of c.in_err-small_held.was) ∙ c.small_held.ensures.needs in
    over_first held _ _ small (large_segment c.args.large) need.0.0 s c.small_held.ensures.looks

pub returns-clause-looks : goal.returns-clause-looks
returns-clause-looks c =
    let held = c.args.held.now in
    let blocks = c.args.blocks.now in
    let small = map (λ k. k / 1024) blocks in
    let n : None ≡ needed held small = sym (ap missing_of c.in_ok-small_held.was) ∙ c.small_held.ensures.needs in
    over_then held _ _ _ small (large_segment c.args.large) n c.small_held.ensures.looks c.large_held.ensures.looks
