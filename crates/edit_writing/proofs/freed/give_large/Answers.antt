-- By the bit, which is clear.
use Rattle.std.proofs.Common.{◌≡◌, OnOk, fold, subst, sym}
use Rattle.disk_definitions.specs.Edits.Edit.{SetLarge}
use Rattle.disk_definitions.specs.Written.{sectors_given_back, with_number}
use Rattle.edit_writing.proofs.freed.give_large.Goals as goal

pub returns : goal.returns
returns c =
    subst (λ used. OnOk c.add_large.result (c.add_large.new.freed.entries ≡ fold with_number c.args.freed.now.entries (sectors_given_back (SetLarge c.args.block used)))) (sym c.if-used.false) c.add_large.ensures
