use Rattle.std.proofs.Common.{◌∙◌, subst, sym}
use Rattle.std.proofs.lemmas.Result.{on_ok_weaker}
use Rattle.image_file.specs.Entries.{EndsBy}
use Rattle.image_file.proofs.LastSector.{insert_last, ends_later}
use Rattle.image_file.proofs.read.add_last.Goals as goal

pub returns-clause-ok : goal.returns-clause-ok
returns-clause-ok c =
    on_ok_weaker c.set.result (λ e. e ∙ insert_last c.args.disk.now c.args._last c.args.entry.now.sector c.args.entry.now.block.now c.requires.ends c.requires.greater) c.set.ensures.ok

pub returns-clause-ends : goal.returns-clause-ends
returns-clause-ends c =
    on_ok_weaker c.set.result
    (λ e. subst (EndsBy c.args.entry.now.sector) (sym (e ∙ insert_last c.args.disk.now c.args._last c.args.entry.now.sector c.args.entry.now.block.now c.requires.ends c.requires.greater))
    (ends_later c.args.disk.now c.args._last c.args.entry.now.sector c.args.entry.now.block.now c.requires.ends c.requires.greater))
    c.set.ensures.ok
