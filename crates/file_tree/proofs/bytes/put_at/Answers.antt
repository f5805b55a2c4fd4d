use Rattle.std.proofs.Common.{List, sym, ◌∙◌, ap}
use Rattle.tree_definitions.specs.declared.cells.Cell.{Cell}
use Rattle.tree_definitions.specs.Apply.{written, overwritten}
use Rattle.file_tree.specs.Replies.{gives}
use Rattle.frang_base.specs.declared.reply.Reply.TheVariants as reply
use Rattle.tree_edits.specs.Edits.{edited_by, with_cells}
use Rattle.tree_edits.specs.Written.{cells_of, size_of}
use Rattle.file_tree.proofs.bytes.put_at.Goals as goal

pub returns-in-Some-clause-ok : goal.returns-in-Some-clause-ok
returns-in-Some-clause-ok c =
    let put = λ (old : List Cell). overwritten old c.args.off (cells_of c.args.bytes.now) in
    let file = c.in-Ok.file in
    c.in-Ok.ensures.is (λ b cells links old. written c.args.tree.now c.args.m b cells links c.args.when c.args.off (size_of c.args.bytes.now) put)
    ∙ ap (λ len. written c.args.tree.now c.args.m file.birth file.cells.now file.links c.args.when c.args.off len put) (sym c.count_of.ensures.is)
    ∙ c.in-Some.ensures.is file.birth file.links c.args.when put

pub returns-clause-ok : goal.returns-clause-ok
returns-clause-ok c =
    let put = λ (old : List Cell). overwritten old c.args.off (cells_of c.args.bytes.now) in
    let file = c.in-Ok.file in
    c.in-Ok.ensures.is (λ b cells links old. written c.args.tree.now c.args.m b cells links c.args.when c.args.off (size_of c.args.bytes.now) put)
    ∙ ap (λ len. written c.args.tree.now c.args.m file.birth file.cells.now file.links c.args.when c.args.off len put) (sym c.count_of.ensures.is)
    ∙ c.in-None.ensures.is file.birth file.links c.args.when put
    ∙ ap (λ tree. gives tree reply.Ok) (ap (edited_by c.args.tree.now file.birth (with_cells c.args.when c.args.off (cells_of c.args.bytes.now))) (sym c.in-Ok.ensures.there) ∙ sym c.in_ok-put_bytes.ensures.ok)
