-- One part of the segments after another.
use Rattle.std.proofs.Common.{◌≡◌, ◌/◌, ◌-◌, ◌==◌, ◌∷◌, ◌++◌, [], ℕ, List, None, Some, Err, cond, map, slice_index, sym, ap, ◌∙◌, rules}
use Rattle.tree_definitions.specs.Numbers.{below}
use Rattle.plan_steps.specs.Rooms.{missing_of, needed}
use Rattle.plan_steps.proofs.Needed.{first_needed, then_needed}
use Rattle.plan_steps.proofs.SegmentLooks.{over_first, over_then}
use Rattle.plan_steps.proofs.segments.segments_of_node.Goals as goal

pub returns-in_err-segments_of_blocks-clause-needs : goal.returns-in_err-segments_of_blocks-clause-needs
returns-in_err-segments_of_blocks-clause-needs c =
    let held = c.args.held.now in
    let xs : List ℕ = map (λ n. slice_index c.args.node.now.inode.small n / 1024) (below c.args.node.now.inode.blocks) in
    let ys : List ℕ = cond (c.args.node.now.inode.large == 0) [] ((c.args.node.now.inode.large - 1) ∷ []) in
    let need = c.in_err-segments_of_blocks.field-0.0 in
    let e : c.from_residual-in_err-segments_of_blocks.result ≡ Err need = search rules in
    let f : None ≡ needed held (c.args.node.now.number / 64 ∷ []) = sym (ap missing_of c.in_ok-segment_held.was) ∙ c.segment_held.ensures.needs in
    let g : Some need.0.0 ≡ needed held xs = sym (ap missing_of c.in_err-segments_of_blocks.was) ∙ c.segments_of_blocks.ensures.needs in
    ap missing_of e ∙ then_needed held (c.args.node.now.number / 64 ∷ []) _ (Some need.0.0) f (first_needed held xs ys need.0.0 g)

pub returns-clause-needs : goal.returns-clause-needs
returns-clause-needs c =
    let held = c.args.held.now in
    let xs : List ℕ = map (λ n. slice_index c.args.node.now.inode.small n / 1024) (below c.args.node.now.inode.blocks) in
    let ys : List ℕ = cond (c.args.node.now.inode.large == 0) [] ((c.args.node.now.inode.large - 1) ∷ []) in
    let f : None ≡ needed held (c.args.node.now.number / 64 ∷ []) = sym (ap missing_of c.in_ok-segment_held.was) ∙ c.segment_held.ensures.needs in
    let g : None ≡ needed held xs = sym (ap missing_of c.in_ok-segments_of_blocks.was) ∙ c.segments_of_blocks.ensures.needs in
    then_needed held (c.args.node.now.number / 64 ∷ []) _ _ f (then_needed held xs ys _ g c.segment_of_large.ensures.needs)

pub returns-in_err-segment_held-clause-looks : goal.returns-in_err-segment_held-clause-looks
returns-in_err-segment_held-clause-looks c =
    let held = c.args.held.now in
    let xs : List ℕ = map (λ n. slice_index c.args.node.now.inode.small n / 1024) (below c.args.node.now.inode.blocks) in
    let ys : List ℕ = cond (c.args.node.now.inode.large == 0) [] ((c.args.node.now.inode.large - 1) ∷ []) in
    let z : List ℕ = c.args.node.now.number / 64 ∷ [] in
    let need = c.in_err-segment_held.field-0.0 in
    let f : Some need.0.0 ≡ needed held z = sym (ap missing_of c.in_err-segment_held.was) ∙ c.segment_held.ensures.needs in
    over_first held _ _ z (xs ++ ys) need.0.0 f c.segment_held.ensures.looks

pub returns-in_err-segments_of_blocks-clause-looks : goal.returns-in_err-segments_of_blocks-clause-looks
returns-in_err-segments_of_blocks-clause-looks c =
    let held = c.args.held.now in
    let xs : List ℕ = map (λ n. slice_index c.args.node.now.inode.small n / 1024) (below c.args.node.now.inode.blocks) in
    let ys : List ℕ = cond (c.args.node.now.inode.large == 0) [] ((c.args.node.now.inode.large - 1) ∷ []) in
    let z : List ℕ = c.args.node.now.number / 64 ∷ [] in
    let need = c.in_err-segments_of_blocks.field-0.0 in
    let f : None ≡ needed held z = sym (ap missing_of c.in_ok-segment_held.was) ∙ c.segment_held.ensures.needs in
    let g : Some need.0.0 ≡ needed held xs = sym (ap missing_of c.in_err-segments_of_blocks.was) ∙ c.segments_of_blocks.ensures.needs in
    over_then held _ _ _ z (xs ++ ys) f c.segment_held.ensures.looks (over_first held _ _ xs ys need.0.0 g c.segments_of_blocks.ensures.looks)

pub returns-clause-looks : goal.returns-clause-looks
returns-clause-looks c =
    let held = c.args.held.now in
    let xs : List ℕ = map (λ n. slice_index c.args.node.now.inode.small n / 1024) (below c.args.node.now.inode.blocks) in
    let ys : List ℕ = cond (c.args.node.now.inode.large == 0) [] ((c.args.node.now.inode.large - 1) ∷ []) in
    let z : List ℕ = c.args.node.now.number / 64 ∷ [] in
    let f : None ≡ needed held z = sym (ap missing_of c.in_ok-segment_held.was) ∙ c.segment_held.ensures.needs in
    let g : None ≡ needed held xs = sym (ap missing_of c.in_ok-segments_of_blocks.was) ∙ c.segments_of_blocks.ensures.needs in
    over_then held _ _ _ z (xs ++ ys) f c.segment_held.ensures.looks (over_then held _ _ _ xs ys g c.segments_of_blocks.ensures.looks c.segment_of_large.ensures.looks)
