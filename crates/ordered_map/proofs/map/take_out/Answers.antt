-- A chunk's only entry goes with the chunk, and else the chunk may be merged with a neighbour.
use Rattle.std.proofs.Common.{◌≢◌, length, sym, ap, ◌∙◌, subst, arith}
use Rattle.std.specs.List.{remove}
use Rattle.std.proofs.lemmas.List.{length-set}
use Rattle.std.proofs.lemmas.List.Edits.{length-remove}
use Rattle.ordered_map.specs.Chunks.{joined, chunk_at, AreFilled, AreClose, IsCloseBut}
use Rattle.ordered_map.proofs.Flat.{remove_flat, discard_flat, filled_remove, remove_set}
use Rattle.ordered_map.proofs.Close.{close_discard, shrunk_filled, shrunk_close}
use Rattle.ordered_map.proofs.map.take_out.Goals as goal

pub discard-requires : goal.discard-requires
discard-requires g c = omega (arith, ap length c.take-value.ensures.chunks, length-set c.args.chunks.now.chunks c.args.chunk (remove (chunk_at c.args.chunks.now.chunks c.args.chunk) c.args.at), c.requires.inside)

pub settle-requires-clause-inside : goal.settle-requires-clause-inside
settle-requires-clause-inside g c = omega (arith, ap length c.take-value.ensures.chunks, length-set c.args.chunks.now.chunks c.args.chunk (remove (chunk_at c.args.chunks.now.chunks c.args.chunk) c.args.at), c.requires.inside)

pub settle-requires-clause-filled : goal.settle-requires-clause-filled
settle-requires-clause-filled g c =
    let more : length (chunk_at c.args.chunks.now.chunks c.args.chunk) ≢ 1 = λ one. c.if-count-eq1.false (c.count_in-count.ensures.count ∙ one) in
    subst AreFilled (sym c.take-value.ensures.chunks) (shrunk_filled c.args.chunks.now.chunks c.args.chunk c.args.at c.requires.inside c.requires.place more c.requires.filled)

pub settle-requires-clause-close : goal.settle-requires-clause-close
settle-requires-clause-close g c = subst (λ xs. IsCloseBut xs c.args.chunk) (sym c.take-value.ensures.chunks) (shrunk_close c.args.chunks.now.chunks c.args.chunk c.args.at c.requires.inside c.requires.place c.requires.close)

pub returns-then-count-eq1-clause-entries : goal.returns-then-count-eq1-clause-entries
returns-then-count-eq1-clause-entries g c =
    let xs = c.args.chunks.now.chunks in
    ap joined (c.discard.ensures.chunks ∙ ap (λ ys. remove ys c.args.chunk) c.take-value.ensures.chunks ∙ remove_set xs c.args.chunk (remove (chunk_at xs c.args.chunk) c.args.at))
    ∙ discard_flat xs c.args.chunk c.args.at c.requires.inside (sym c.count_in-count.ensures.count ∙ c.if-count-eq1.true) c.requires.place

pub returns-then-count-eq1-clause-filled : goal.returns-then-count-eq1-clause-filled
returns-then-count-eq1-clause-filled g c =
    let xs = c.args.chunks.now.chunks in
    subst AreFilled (sym (c.discard.ensures.chunks ∙ ap (λ ys. remove ys c.args.chunk) c.take-value.ensures.chunks ∙ remove_set xs c.args.chunk (remove (chunk_at xs c.args.chunk) c.args.at)))
    (filled_remove xs c.args.chunk c.requires.filled)

pub returns-then-count-eq1-clause-close : goal.returns-then-count-eq1-clause-close
returns-then-count-eq1-clause-close g c =
    let xs = c.args.chunks.now.chunks in
    subst AreClose (sym (c.discard.ensures.chunks ∙ ap (λ ys. remove ys c.args.chunk) c.take-value.ensures.chunks ∙ remove_set xs c.args.chunk (remove (chunk_at xs c.args.chunk) c.args.at)))
    (close_discard xs c.args.chunk c.requires.filled c.requires.close (sym c.count_in-count.ensures.count ∙ c.if-count-eq1.true))

pub returns-then-count-eq1-clause-all : goal.returns-then-count-eq1-clause-all
returns-then-count-eq1-clause-all g c =
    let xs = c.args.chunks.now.chunks in
    let less = ap length (c.discard.ensures.chunks ∙ ap (λ ys. remove ys c.args.chunk) c.take-value.ensures.chunks ∙ remove_set xs c.args.chunk (remove (chunk_at xs c.args.chunk) c.args.at)) in
    omega (arith, less, length-remove xs c.args.chunk c.requires.inside, c.discard.ensures.blank, c.take-value.ensures.blank)

pub returns-else-count-eq1-clause-entries : goal.returns-else-count-eq1-clause-entries
returns-else-count-eq1-clause-entries g c =
    c.settle.ensures.same ∙ ap joined c.take-value.ensures.chunks ∙ remove_flat c.args.chunks.now.chunks c.args.chunk c.args.at c.requires.inside c.requires.place
