-- Block after block.
use Rattle.std.proofs.Common.{◌≡◌, ◌<◌, ◌/◌, ◌∷◌, [], Some, None, Err, map, length, slice_index, sym, ap, ◌∙◌, arith, rules, refl, ◌≤◌}
use Rattle.plan_steps.specs.Rooms.{missing_of, needed}
use Rattle.op_data.proofs.HeldSegments.{held_lacks, held_more, over_all, over_goes, over_none, over_stops}
use Rattle.op_data.proofs.segments.small_held.Goals as goal

pub returns-in_err-segment_held-clause-needs : goal.returns-in_err-segment_held-clause-needs
returns-in_err-segment_held-clause-needs c =
    let held = c.args.held.now in
    let blocks = c.args.blocks.now in
    let i = c.loop-block.block-index in
    let need = c.in_err-segment_held.field-0.0 in
    let l : i < length blocks = omega arith in
    let e : c.from_residual.result ≡ Err need = search rules in
    let s : Some need.0.0 ≡ needed held (slice_index blocks i / 1024 ∷ []) = sym (ap missing_of c.in_err-segment_held.was) ∙ c.segment_held.ensures.needs in
    ap missing_of e ∙ held_lacks held blocks i (needed held (map (λ k. k / 1024) blocks)) l c.loop-block.invariant.needs need.0.0 s

pub loop-block-preserved : goal.loop-block-preserved
loop-block-preserved c =
    let held = c.args.held.now in
    let blocks = c.args.blocks.now in
    let i = c.loop-block.block-index in
    let l : i < length blocks = omega arith in
    let n : None ≡ needed held (slice_index blocks i / 1024 ∷ []) = sym (ap missing_of c.in_ok-segment_held.was) ∙ c.segment_held.ensures.needs in
    record {
      needs = held_more held blocks i (needed held (map (λ k. k / 1024) blocks)) l c.loop-block.invariant.needs n;
      looks = over_goes held blocks i _ _ _ l c.loop-block.invariant.looks n c.segment_held.ensures.looks;
    }

pub loop-block-init : goal.loop-block-init
loop-block-init c = record { needs = refl; looks = over_none c.args.held.now c.args.blocks.now _ }

pub returns-in_err-segment_held-clause-looks : goal.returns-in_err-segment_held-clause-looks
returns-in_err-segment_held-clause-looks c =
    let held = c.args.held.now in
    let blocks = c.args.blocks.now in
    let i = c.loop-block.block-index in
    let l : i < length blocks = omega arith in
    let need = c.in_err-segment_held.field-0.0 in
    let s : Some need.0.0 ≡ needed held (slice_index blocks i / 1024 ∷ []) = sym (ap missing_of c.in_err-segment_held.was) ∙ c.segment_held.ensures.needs in
    over_stops held blocks i _ _ _ l c.loop-block.invariant.looks need.0.0 s c.segment_held.ensures.looks

pub returns-clause-looks : goal.returns-clause-looks
returns-clause-looks c =
    let held = c.args.held.now in
    let blocks = c.args.blocks.now in
    let i = c.loop-block.block-index in
    let l : length blocks ≤ i = omega arith in
    over_all held blocks i _ _ l c.loop-block.invariant.looks
