-- The blocks from the first that is past the end on.
use Rattle.std.proofs.Common.{◌≡◌, ◌+◌, ◌-◌, ◌≤◌, length, map, slice_index, ap, sym, ◌∙◌, arith, rules}
use Rattle.tree_definitions.specs.Numbers.{below}
use Rattle.tree_definitions.specs.Tree.{small_blocks_of}
use Rattle.op_data.proofs.Cutting.{from_place}
use Rattle.op_data.proofs.shorter.blocks_past.Goals as goal

pub returns : goal.returns
returns c =
    let x = c.args.inode.now in
    let a : c.from-2.result ≡ small_blocks_of c.args.len = search rules in
    let b : c.from-3.result ≡ x.blocks = search rules in
    let n : length x.small ≡ 16 = search rules in
    let l : c.from-2.result + (c.from-3.result - c.from-2.result) ≤ length x.small = omega arith in
    sym (from_place x.small c.from-2.result (c.from-3.result - c.from-2.result) l)
    ∙ ap (λ k. map (λ i. slice_index x.small (k + i)) (below (c.from-3.result - k))) a
    ∙ ap (λ m. map (λ i. slice_index x.small (small_blocks_of c.args.len + i)) (below (m - small_blocks_of c.args.len))) b
