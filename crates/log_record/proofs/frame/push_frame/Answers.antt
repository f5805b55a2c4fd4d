-- What is written is the head of the frame and then the record.
use Rattle.std.proofs.Common.{◌++◌, length, ap, ◌∙◌, append_assoc}
use Rattle.std.proofs.lemmas.Result.{on_ok_weaker}
use Rattle.byteorder.specs.Endian.{little_bytes}
use Rattle.disk_definitions.specs.Records.{record_bytes}
use Rattle.log_record.proofs.frame.push_frame.Goals as goal

pub returns-clause-bytes : goal.returns-clause-bytes
returns-clause-bytes c =
    let redo = c.args.redo.now in
    let body = record_bytes redo.changes in
    let before = c.args.bytes.now.items in
    let head = little_bytes 8 redo.op.0 ++ little_bytes 2 (length body) in
    let written = c.frame_head.ensures ∙ ap (λ n. little_bytes 8 redo.op.0 ++ little_bytes 2 n) c.record_length.ensures in
    let grown = c.in_ok-extend_from_slice.ensures.items ∙ ap (λ ys. before ++ ys) written in
    on_ok_weaker c.push_record.result (λ e. e ∙ ap (λ xs. xs ++ body) grown ∙ append_assoc before head body) c.push_record.ensures.bytes
