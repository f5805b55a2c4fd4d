-- Each answer is what the definition says of its operation.
use Rattle.std.specs.Prelude.{Result}
use Rattle.std.proofs.Common.{◌≡◌, ◌∙◌, ap, sym, subst, IfOk, length, map, replicate}
use Rattle.frang_base.specs.declared.reply.Reply.{Reply}
use Rattle.tree_definitions.specs.declared.cells.Cell.TheVariants.{Byte}
use Rattle.tree_definitions.specs.Tree.{FileTree}
use Rattle.tree_definitions.specs.Place.{place}
use Rattle.tree_definitions.specs.Apply.{Applied, apply, at_file, at_node, written, overwritten, truncated, shown, described, listed, target_of, says, time_of}
use Rattle.file_tree.specs.Replies.{gives}
use Rattle.file_tree.proofs.tree.Tree.apply_to_bytes.Goals as goal

-- what a reply gives, where two applications are the same
gives_so : {E : Type 0} (r : Result Reply E) (a b : Applied) (tree : FileTree) → a ≡ b → IfOk r (λ reply. b ≡ gives tree reply) → IfOk r (λ reply. a ≡ gives tree reply)
gives_so r a b tree same h = subst (λ x. IfOk r (λ reply. x ≡ gives tree reply)) (sym same) h

pub returns-in-Truncate-clause-ok : goal.returns-in-Truncate-clause-ok
returns-in-Truncate-clause-ok c = λ birth.
    ap (λ o. apply c.args.self.now o birth c.args.when c.args.m) c.in-Truncate.is
    ∙ ap (λ p. at_file c.args.self.now (place c.args.self.now p) (λ b cells links old. truncated c.args.self.now b cells links c.args.when c.in-Truncate.len)) (sym c.as_slice-in-Truncate.ensures)
    ∙ c.truncate.ensures.is

pub returns-in-Stat-clause-ok : goal.returns-in-Stat-clause-ok
returns-in-Stat-clause-ok c = λ birth.
    ap (λ o. apply c.args.self.now o birth c.args.when c.args.m) c.in-Stat.is
    ∙ ap (λ p. at_node c.args.self.now (place c.args.self.now p) (λ b node. described c.args.self.now node)) (sym c.as_slice-in-Stat.ensures)
    ∙ c.stat.ensures.is

pub returns-in-Time-clause-ok : goal.returns-in-Time-clause-ok
returns-in-Time-clause-ok c = λ birth.
    ap (λ o. apply c.args.self.now o birth c.args.when c.args.m) c.in-Time.is
    ∙ ap (λ p. at_file c.args.self.now (place c.args.self.now p) (λ b cells links at. says c.args.self.now (time_of at))) (sym c.as_slice-in-Time.ensures)
    ∙ c.time.ensures.is

pub returns-in-Read-clause-ok : goal.returns-in-Read-clause-ok
returns-in-Read-clause-ok c = λ birth. gives_so c.read.result _ _ c.args.self.now (
    ap (λ o. apply c.args.self.now o birth c.args.when c.args.m) c.in-Read.is
    ∙ ap (λ p. at_file c.args.self.now (place c.args.self.now p) (λ b cells links at. shown c.args.self.now cells c.in-Read.off c.in-Read.len)) (sym c.as_slice-in-Read.ensures)
    ) c.read.ensures.is

pub returns-in-List-clause-ok : goal.returns-in-List-clause-ok
returns-in-List-clause-ok c = λ birth. gives_so c.list.result _ _ c.args.self.now (
    ap (λ o. apply c.args.self.now o birth c.args.when c.args.m) c.in-List.is
    ∙ ap (λ p. at_node c.args.self.now (place c.args.self.now p) (λ b node. listed c.args.self.now node)) (sym c.as_slice-in-List.ensures)
    ) c.list.ensures.is

pub returns-in-Readlink-clause-ok : goal.returns-in-Readlink-clause-ok
returns-in-Readlink-clause-ok c = λ birth. gives_so c.readlink.result _ _ c.args.self.now (
    ap (λ o. apply c.args.self.now o birth c.args.when c.args.m) c.in-Readlink.is
    ∙ ap (λ p. at_node c.args.self.now (place c.args.self.now p) (λ b node. target_of c.args.self.now node)) (sym c.as_slice-in-Readlink.ensures)
    ) c.readlink.ensures.is

pub returns-in-Write-clause-ok : goal.returns-in-Write-clause-ok
returns-in-Write-clause-ok c = λ birth. gives_so c.write.result _ _ c.write.new.tree (
    ap (λ o. apply c.args.self.now o birth c.args.when c.args.m) c.in-Write.is
    ∙ ap (λ p. at_file c.args.self.now (place c.args.self.now p) (λ b cells links old. written c.args.self.now c.args.m b cells links c.args.when c.in-Write.off (length c.in-Write.bytes) (λ all. overwritten all c.in-Write.off (map Byte c.in-Write.bytes)))) (sym c.as_slice.ensures)
    ) c.write.ensures.ok

pub returns-in-Fill-clause-ok : goal.returns-in-Fill-clause-ok
returns-in-Fill-clause-ok c = λ birth. gives_so c.fill.result _ _ c.fill.new.tree (
    ap (λ o. apply c.args.self.now o birth c.args.when c.args.m) c.in-Fill.is
    ∙ ap (λ p. at_file c.args.self.now (place c.args.self.now p) (λ b cells links old. written c.args.self.now c.args.m b cells links c.args.when c.in-Fill.off c.in-Fill.len (λ all. overwritten all c.in-Fill.off (replicate c.in-Fill.len (Byte c.in-Fill.byte))))) (sym c.as_slice-in-Fill.ensures)
    ) c.fill.ensures.ok
