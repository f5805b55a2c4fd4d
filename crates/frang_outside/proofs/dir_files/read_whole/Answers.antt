-- What was read within the limit is the whole.
use Rattle.std.proofs.Common.{rules}
use Rattle.frang_outside.proofs.Reading.{reads_whole}
use Rattle.frang_outside.proofs.dir_files.read_whole.Goals as goal

pub returns : goal.returns
returns g c =
    reads_whole (g.I.Read.remaining c.args.input) c.take-input.result.limit c.args.limit c.args.faults.now c.answer_read.new.faults c.read_to_end-read.result c.read_to_end-read.new.buf.items c.answer_read.result
    (search (rules, c.read_to_end-read.ensures.bytes)) (λ low. search (rules, low)) c.answer_read.ensures
