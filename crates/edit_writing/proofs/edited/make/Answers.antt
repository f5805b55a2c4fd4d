-- By the edit.
use Rattle.std.proofs.Common.{◌∙◌}
use Rattle.sector_bytes.specs.Bytes.{number_at}
use Rattle.edit_writing.proofs.Made.{bytes_made, state_made}
use Rattle.edit_writing.proofs.edited.make.Goals as goal

pub returns-in-Use : goal.returns-in-Use
returns-in-Use c =
    let block = c.args.block.now in
    state_made c.args.edit.now c.in-Use.b c.in-Use.state block c.set_state.new.block (number_at 8 0 block) c.in-Use.is c.set_state.ensures

pub returns-in-Bytes : goal.returns-in-Bytes
returns-in-Bytes c =
    c.copy_of.ensures.same ∙ bytes_made c.args.edit.now c.in-Bytes.bytes c.args.block.now (number_at 8 0 c.args.block.now) c.copy_of.ensures.long c.in-Bytes.is
