-- By what is read of the inode.
use Rattle.std.proofs.Common.{Ok, Some, None, [], sym, ap, ◌∙◌}
use Rattle.std.specs.Option.{option_map}
use Rattle.disk_definitions.specs.Store.{stored}
use Rattle.dir_lookup.proofs.Steps.{said_ok, said_err}
use Rattle.disk_definitions.specs.CoversAtHand.{has_small}
use Rattle.edit_moves.proofs.AtHand.{read_is, lack_is}
use Rattle.edit_moves.proofs.owners.owns_small.Goals as goal

pub returns-in-Ok-Some : goal.returns-in-Ok-Some
returns-in-Ok-Some c =
    let read = said_ok (option_map stored) c.inode_at.result (Some c.in-Ok-Some.inode) _ (c.in-Ok-Some.is ∙ ap Ok c.in-Ok-Some.field-0-is) (c.inode_at.ensures.reads []) in
    c.has_small.ensures ∙ ap (has_small c.args.block) (sym (read_is c.args.sectors.now.entries [] c.args.number (Some (stored c.in-Ok-Some.inode)) read))

pub returns-in-Ok-None : goal.returns-in-Ok-None
returns-in-Ok-None c =
    let read = said_ok (option_map stored) c.inode_at.result None _ (c.in-Ok-None.is ∙ ap Ok c.in-Ok-None.field-0-is) (c.inode_at.ensures.reads []) in
    ap (has_small c.args.block) (sym (read_is c.args.sectors.now.entries [] c.args.number None read))

pub returns : goal.returns
returns c =
    let lack = said_err (option_map stored) c.inode_at.result c.in-Err.field-0 _ c.in-Err.is (c.inode_at.ensures.reads []) in
    ap (has_small c.args.block) (sym (lack_is c.args.sectors.now.entries [] c.args.number c.in-Err.field-0.0.0 lack))
