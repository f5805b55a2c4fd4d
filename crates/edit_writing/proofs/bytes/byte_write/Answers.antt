-- By the edit, which writes these bytes.
use Rattle.std.proofs.Common.{◌∙◌, ap, Some}
use Rattle.edit_writing.proofs.Made.{bytes_written}
use Rattle.edit_writing.proofs.bytes.byte_write.Goals as goal

pub returns-in-Bytes : goal.returns-in-Bytes
returns-in-Bytes c =
    ap (λ b. Some (c.sector_of_edit.result, b)) c.copy_of.ensures.same
    ∙ bytes_written c.args.edit.now c.sector_of_edit.result c.in-Bytes.bytes c.copy_of.ensures.long c.in-Bytes.is c.sector_of_edit.ensures
