-- Block after block.
use Rattle.std.proofs.Common.{◌≡◌, ◌/◌, ◌<◌, ◌∷◌, [], ℕ, None, Some, Err, map, slice_index, refl, sym, ap, ◌∙◌, arith, rules}
use Rattle.tree_definitions.specs.Numbers.{below}
use Rattle.dir_lookup.proofs.Looking.{adds_as, adds_none}
use Rattle.plan_steps.specs.Looking.{looked_over}
use Rattle.plan_steps.specs.Rooms.{missing_of, needed}
use Rattle.plan_steps.proofs.Needed.{needed_below, needed_more}
use Rattle.plan_steps.proofs.SegmentLooks.{over_below, over_more}
use Rattle.plan_steps.proofs.segments.segments_of_blocks.Goals as goal

pub returns-in_err-segment_held-clause-needs : goal.returns-in_err-segment_held-clause-needs
returns-in_err-segment_held-clause-needs c =
    let f : ℕ → ℕ = λ n. slice_index c.args.inode.now.small n / 1024 in
    let need = c.in_err-segment_held.field-0.0 in
    let l : c.loop-n.n < c.args.inode.now.blocks = omega arith in
    let e : c.from_residual.result ≡ Err need = search rules in
    let g : Some need.0.0 ≡ needed c.args.held.now (f c.loop-n.n ∷ []) = sym (ap missing_of c.in_err-segment_held.was) ∙ c.segment_held.ensures.needs in
    ap missing_of e ∙ needed_below c.args.held.now f c.args.inode.now.blocks c.loop-n.n need.0.0 l c.loop-n.invariant.needs g

pub returns-in_err-segment_held-clause-looks : goal.returns-in_err-segment_held-clause-looks
returns-in_err-segment_held-clause-looks c =
    let f : ℕ → ℕ = λ n. slice_index c.args.inode.now.small n / 1024 in
    let need = c.in_err-segment_held.field-0.0 in
    let l : c.loop-n.n < c.args.inode.now.blocks = omega arith in
    let g : Some need.0.0 ≡ needed c.args.held.now (f c.loop-n.n ∷ []) = sym (ap missing_of c.in_err-segment_held.was) ∙ c.segment_held.ensures.needs in
    over_below c.args.held.now f c.args.inode.now.blocks c.loop-n.n need.0.0 _ _ l c.loop-n.invariant.needs g
    (over_more c.args.held.now f c.loop-n.n _ _ _ c.loop-n.invariant.needs c.loop-n.invariant.looks c.segment_held.ensures.looks)

pub loop-n-init : goal.loop-n-init
loop-n-init c = record { needs = refl; looks = adds_none _ }

pub loop-n-preserved : goal.loop-n-preserved
loop-n-preserved c =
    let f : ℕ → ℕ = λ n. slice_index c.args.inode.now.small n / 1024 in
    let g : None ≡ needed c.args.held.now (f c.loop-n.n ∷ []) = sym (ap missing_of c.in_ok-segment_held.was) ∙ c.segment_held.ensures.needs in
    record {
      needs = needed_more c.args.held.now f c.loop-n.n None c.loop-n.invariant.needs g;
      looks = over_more c.args.held.now f c.loop-n.n _ _ _ c.loop-n.invariant.needs c.loop-n.invariant.looks c.segment_held.ensures.looks;
    }

pub returns-clause-looks : goal.returns-clause-looks
returns-clause-looks c =
    let f : ℕ → ℕ = λ n. slice_index c.args.inode.now.small n / 1024 in
    let e : c.loop-n.n ≡ c.args.inode.now.blocks = omega arith in
    adds_as _ _ _ _ (ap (λ n. looked_over c.args.held.now (map f (below n))) e) c.loop-n.invariant.looks
