-- The sector's bytes, or zeros.
use Rattle.std.proofs.Common.{sym, ◌∙◌}
use Rattle.disk_definitions.specs.Store.{stored}
use Rattle.op_data.specs.Writings.{writing_of}
use Rattle.op_data.proofs.Around.{around_read, around_zeros}
use Rattle.op_data.proofs.edits.bytes_around.Goals as goal

pub returns-then-keeps_bytes : goal.returns-then-keeps_bytes
returns-then-keeps_bytes c =
    around_read c.args.hand.now (writing_of c.args.writing.now) (stored c.args.old.now) c.args.t (sym c.keeps_bytes.ensures ∙ c.if-keeps_bytes.true) c.sector_bytes.result c.sector_bytes.ensures

pub returns-else-keeps_bytes : goal.returns-else-keeps_bytes
returns-else-keeps_bytes c =
    around_zeros c.args.hand.now (writing_of c.args.writing.now) (stored c.args.old.now) c.args.t (sym c.keeps_bytes.ensures ∙ c.if-keeps_bytes.false) c.zero_block.result c.zero_block.ensures
