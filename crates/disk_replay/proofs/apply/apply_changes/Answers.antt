-- The first of what is left is laid in each turn.
use Rattle.std.proofs.Common.{◌≡◌, ◌+◌, [], ◌∷◌, drop, sym, ap, ◌∙◌, arith}
use Rattle.std.proofs.lemmas.List.{at_drop_more, drop_all}
use Rattle.sector_bytes.specs.Sectors.{sectors_of}
use Rattle.disk_replay.specs.Laid.{with_changes}
use Rattle.disk_replay.proofs.LaidChanges.{all_laid, laid_first}
use Rattle.disk_replay.proofs.apply.apply_changes.Goals as goal

pub loop-change-preserved : goal.loop-change-preserved
loop-change-preserved c =
    let changes = c.args.changes.now in
    let at = c.loop-change.change-index in
    let first = c.change-item.result in
    let rest = drop (at + 1) changes in
    let split : drop at changes ≡ first ∷ rest = at_drop_more (λ cs. cs) changes at first c.loop-change-test.true ∙ ap (λ x. x ∷ rest) (sym c.change-item.is) in
    laid_first c.args.segments (sectors_of c.loop-change.disk) (sectors_of c.apply_change.new.disk) (with_changes c.args.segments (sectors_of c.args.disk.now) changes) (first ∷ []) rest (drop at changes) split
    c.in_ok-apply_change.ensures c.loop-change.invariant

pub returns : goal.returns
returns c =
    let changes = c.args.changes.now in
    let left = drop c.loop-change.change-index changes in
    all_laid c.args.segments (sectors_of c.loop-change.disk) (with_changes c.args.segments (sectors_of c.args.disk.now) changes) left (drop_all c.loop-change.change-index changes (omega arith)) c.loop-change.invariant
