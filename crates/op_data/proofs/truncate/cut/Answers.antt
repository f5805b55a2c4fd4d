-- A length past the end is refused, and once all segments are held the cut is done.
use Rattle.std.proofs.Common.{◌≡◌, ◌++◌, ◌/◌, map, Err, ap, sym, ◌∙◌, subst, arith, rules, []}
use Rattle.tree_definitions.specs.Tree.{small_blocks_of}
use Rattle.disk_definitions.specs.Store.{stored}
use Rattle.disk_definitions.specs.FilePlans.{blocks_between, cut_segments, cutting, large_segment}
use Rattle.dir_lookup.specs.Hands.{over}
use Rattle.plan_steps.specs.declared.stop.Stop.TheVariants as stop
use Rattle.plan_steps.specs.Edits.{edits_of}
use Rattle.plan_steps.specs.Ends.{Comes}
use Rattle.plan_steps.specs.Rooms.{LooksOver, needed}
use Rattle.plan_steps.proofs.Needed.{looks_over}
use Rattle.op_data.proofs.Cutting.{cut_done, cut_lacks, past_the_end}
use Rattle.dir_lookup.proofs.Looking.{adds_as, adds_none}
use Rattle.op_data.proofs.FileLooks.{cut_looks, no_cut_looks}
use Rattle.plan_steps.specs.Looking.{looked_over}
use Rattle.op_data.proofs.truncate.cut.Goals as goal

pub returns-then-from-file-clause-comes : goal.returns-then-from-file-clause-comes
returns-then-from-file-clause-comes c touched = past_the_end c.args.when c.args.len c.args.file.now.number touched (stored c.args.file.now.inode) c.args.hand.now (omega arith)

pub returns-in_err-all_held-clause-comes : goal.returns-in_err-all_held-clause-comes
returns-in_err-all_held-clause-comes c touched =
    let hand = c.args.hand.now in
    let x = stored c.args.file.now.inode in
    let len = c.args.len in
    let segments = map (λ k. k / 1024) c.blocks_past-blocks.result.now ++ large_segment c.large_past-large.result in
    let s : segments ≡ cut_segments x len =
    ap (λ blocks. map (λ k. k / 1024) blocks ++ large_segment c.large_past-large.result) c.blocks_past-blocks.ensures
    ∙ ap (λ large. map (λ k. k / 1024) (blocks_between x (small_blocks_of len) x.blocks) ++ large) c.large_past-large.ensures in
    let need = c.in_err-all_held.field-0.0 in
    let e : c.from_residual.result ≡ Err (stop.Need need.0) = search rules in
    let h = subst (LooksOver hand (cut_segments x len)) c.in_err-all_held.was (looks_over hand (cut_segments x len) c.all_held.result (c.all_held.ensures.needs ∙ ap (needed hand.held.now) s)) in
    subst (Comes (over (cutting c.args.when len c.args.file.now.number touched x) hand)) (sym e) (cut_lacks c.args.when len c.args.file.now.number touched x hand need.0.0 (omega arith) h)

pub returns-clause-comes : goal.returns-clause-comes
returns-clause-comes c touched =
    let hand = c.args.hand.now in
    let x = stored c.args.file.now.inode in
    let len = c.args.len in
    let segments = map (λ k. k / 1024) c.blocks_past-blocks.result.now ++ large_segment c.large_past-large.result in
    let s : segments ≡ cut_segments x len =
    ap (λ blocks. map (λ k. k / 1024) blocks ++ large_segment c.large_past-large.result) c.blocks_past-blocks.ensures
    ∙ ap (λ large. map (λ k. k / 1024) (blocks_between x (small_blocks_of len) x.blocks) ++ large) c.large_past-large.ensures in
    let h = subst (LooksOver hand (cut_segments x len)) c.in_ok-all_held.was (looks_over hand (cut_segments x len) c.all_held.result (c.all_held.ensures.needs ∙ ap (needed hand.held.now) s)) in
    cut_done c.args.when len c.args.file.now.number touched x hand (edits_of c.in_ok-edits.edits.items) (omega arith) h c.in_ok-edits.ensures

pub returns-then-from-file-clause-looks : goal.returns-then-from-file-clause-looks
returns-then-from-file-clause-looks c touched =
    let hand = c.args.hand.now in
    let x = stored c.args.file.now.inode in
    let len = c.args.len in
    adds_as _ _ [] _ (sym (no_cut_looks c.args.when len c.args.file.now.number touched x hand (omega arith))) (adds_none _)

pub returns-in_err-all_held-clause-looks : goal.returns-in_err-all_held-clause-looks
returns-in_err-all_held-clause-looks c touched =
    let hand = c.args.hand.now in
    let x = stored c.args.file.now.inode in
    let len = c.args.len in
    let segments = map (λ k. k / 1024) c.blocks_past-blocks.result.now ++ large_segment c.large_past-large.result in
    let s : segments ≡ cut_segments x len =
    ap (λ blocks. map (λ k. k / 1024) blocks ++ large_segment c.large_past-large.result) c.blocks_past-blocks.ensures
    ∙ ap (λ large. map (λ k. k / 1024) (blocks_between x (small_blocks_of len) x.blocks) ++ large) c.large_past-large.ensures in
    adds_as _ _ _ _ (ap (looked_over hand.held.now) s ∙ sym (cut_looks c.args.when len c.args.file.now.number touched x hand (omega arith))) c.all_held.ensures.looks

pub returns-in_err-edits-clause-looks : goal.returns-in_err-edits-clause-looks
returns-in_err-edits-clause-looks c touched =
    let hand = c.args.hand.now in
    let x = stored c.args.file.now.inode in
    let len = c.args.len in
    let segments = map (λ k. k / 1024) c.blocks_past-blocks.result.now ++ large_segment c.large_past-large.result in
    let s : segments ≡ cut_segments x len =
    ap (λ blocks. map (λ k. k / 1024) blocks ++ large_segment c.large_past-large.result) c.blocks_past-blocks.ensures
    ∙ ap (λ large. map (λ k. k / 1024) (blocks_between x (small_blocks_of len) x.blocks) ++ large) c.large_past-large.ensures in
    adds_as _ _ _ _ (ap (looked_over hand.held.now) s ∙ sym (cut_looks c.args.when len c.args.file.now.number touched x hand (omega arith))) c.all_held.ensures.looks

pub returns-clause-looks : goal.returns-clause-looks
returns-clause-looks c touched =
    let hand = c.args.hand.now in
    let x = stored c.args.file.now.inode in
    let len = c.args.len in
    let segments = map (λ k. k / 1024) c.blocks_past-blocks.result.now ++ large_segment c.large_past-large.result in
    let s : segments ≡ cut_segments x len =
    ap (λ blocks. map (λ k. k / 1024) blocks ++ large_segment c.large_past-large.result) c.blocks_past-blocks.ensures
    ∙ ap (λ large. map (λ k. k / 1024) (blocks_between x (small_blocks_of len) x.blocks) ++ large) c.large_past-large.ensures in
    adds_as _ _ _ _ (ap (looked_over hand.held.now) s ∙ sym (cut_looks c.args.when len c.args.file.now.number touched x hand (omega arith))) c.all_held.ensures.looks
