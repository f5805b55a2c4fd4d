-- Two neighbours with few entries are one chunk then, and else the chunk is close to both.
use Rattle.std.proofs.Common.{sym, ap, ◌∙◌, subst}
use Rattle.ordered_map.specs.Chunks.{joined, AreFilled, AreClose}
use Rattle.ordered_map.proofs.Close.{merged_next, merged_last, settled}
use Rattle.ordered_map.proofs.map.settle.Goals as goal

pub returns-then-is_few_with_next-clause-same : goal.returns-then-is_few_with_next-clause-same
returns-then-is_few_with_next-clause-same g c =
    let few = c.is_few_with_next.ensures.few c.if-is_few_with_next.true in
    ap joined c.merge.ensures.chunks ∙ (merged_next c.args.chunks.now.chunks c.args.chunk c.requires.filled c.requires.close few.0 few.1).same

pub returns-then-is_few_with_next-clause-filled : goal.returns-then-is_few_with_next-clause-filled
returns-then-is_few_with_next-clause-filled g c =
    let few = c.is_few_with_next.ensures.few c.if-is_few_with_next.true in
    subst AreFilled (sym c.merge.ensures.chunks) (merged_next c.args.chunks.now.chunks c.args.chunk c.requires.filled c.requires.close few.0 few.1).filled

pub returns-then-is_few_with_next-clause-close : goal.returns-then-is_few_with_next-clause-close
returns-then-is_few_with_next-clause-close g c =
    let few = c.is_few_with_next.ensures.few c.if-is_few_with_next.true in
    subst AreClose (sym c.merge.ensures.chunks) (merged_next c.args.chunks.now.chunks c.args.chunk c.requires.filled c.requires.close few.0 few.1).close

pub returns-then-is_few_with_last-clause-same : goal.returns-then-is_few_with_last-clause-same
returns-then-is_few_with_last-clause-same g c =
    let few = c.is_few_with_last.ensures.few c.if-is_few_with_last.true in
    ap joined c.merge_with_last.ensures.chunks ∙ (merged_last c.args.chunks.now.chunks c.args.chunk c.requires.filled c.requires.close c.requires.inside few.0 few.1).same

pub returns-then-is_few_with_last-clause-filled : goal.returns-then-is_few_with_last-clause-filled
returns-then-is_few_with_last-clause-filled g c =
    let few = c.is_few_with_last.ensures.few c.if-is_few_with_last.true in
    subst AreFilled (sym c.merge_with_last.ensures.chunks) (merged_last c.args.chunks.now.chunks c.args.chunk c.requires.filled c.requires.close c.requires.inside few.0 few.1).filled

pub returns-then-is_few_with_last-clause-close : goal.returns-then-is_few_with_last-clause-close
returns-then-is_few_with_last-clause-close g c =
    let few = c.is_few_with_last.ensures.few c.if-is_few_with_last.true in
    subst AreClose (sym c.merge_with_last.ensures.chunks) (merged_last c.args.chunks.now.chunks c.args.chunk c.requires.filled c.requires.close c.requires.inside few.0 few.1).close

pub returns-else-is_few_with_last-clause-close : goal.returns-else-is_few_with_last-clause-close
returns-else-is_few_with_last-clause-close g c =
    settled c.args.chunks.now.chunks c.args.chunk c.requires.close (c.is_few_with_next.ensures.many c.if-is_few_with_next.false) (c.is_few_with_last.ensures.many c.if-is_few_with_last.false)
