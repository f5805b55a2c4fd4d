use Rattle.std.proofs.Common.{◌+◌, ◌<◌, length, map, get_or, slice_set, sym, ◌∙◌, ap, arith}
use Rattle.std.proofs.lemmas.List.{get_or-map, length-map}
use Rattle.std.proofs.lemmas.List.Edits.{paste_more}
use Rattle.std.proofs.Math.Seq.{paste}
use Rattle.tree_definitions.specs.declared.cells.Cell.TheVariants.{Byte}
use Rattle.tree_definitions.proofs.cells.put_bytes.Goals as goal

pub loop-i-preserved : goal.loop-i-preserved
loop-i-preserved c =
    let bytes = map Byte c.args.bytes.now in
    let place = c.args.off + c.loop-i.i in
    let within : c.loop-i.i < length c.args.bytes.now = omega arith in
    let inside : c.loop-i.i < length bytes = simp length-map (omega arith) in
    let fits : place < length c.args.cells.now = omega arith in
    ap (λ cells. slice_set cells place (Byte (get_or c.args.bytes.now c.loop-i.i 0))) c.loop-i.invariant
    ∙ ap (λ cell. slice_set (paste c.args.cells.now c.args.off bytes c.loop-i.i) place cell) (sym (get_or-map Byte c.args.bytes.now c.loop-i.i 0 (Byte 0) within))
    ∙ paste_more c.args.cells.now c.args.off bytes c.loop-i.i (Byte 0) fits inside
