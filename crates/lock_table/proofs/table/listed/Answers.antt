-- One piece after the other.
use Rattle.std.proofs.Common.{◌+◌, ◌++◌, ◌∷◌, drop, ap, sym, ◌∙◌, append_assoc}
use Rattle.std.proofs.lemmas.List.{drop_more, drop_all, append-nil}
use Rattle.ordered_map.specs.Chunks.{joined}
use Rattle.lock_table.proofs.table.listed.Goals as goal

pub loop-piece-preserved : goal.loop-piece-preserved
loop-piece-preserved c =
    let pieces = c.args.pieces.now in
    let i = c.loop-piece.piece-index in
    let piece = c.piece-item.result in
    let next = drop_more pieces i piece c.loop-piece-test.true ∙ ap (λ x. x ∷ drop (i + 1) pieces) (sym c.piece-item.is) in
    (λ j. (c.in_ok-add_piece.ensures ∙ ap (λ es. c.loop-piece.asked.items ++ es) c.entries.ensures) j ++ joined (drop (i + 1) pieces))
    ∙ append_assoc c.loop-piece.asked.items piece (joined (drop (i + 1) pieces))
    ∙ ap (λ rest. c.loop-piece.asked.items ++ joined rest) (sym next)
    ∙ c.loop-piece.invariant

pub returns : goal.returns
returns c =
    sym (append-nil c.loop-piece.asked.items) ∙ ap (λ rest. c.loop-piece.asked.items ++ joined rest) (sym (drop_all c.loop-piece.piece-index c.args.pieces.now c.loop-piece-test.false)) ∙ c.loop-piece.invariant
