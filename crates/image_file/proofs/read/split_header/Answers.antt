use Rattle.std.proofs.Common.{arith}
use Rattle.image_file.proofs.ReadingEntries.{header_split}
use Rattle.image_file.proofs.read.split_header.Goals as goal

pub returns : goal.returns
returns c =
    let m = c.in_ok-mark.ensures.cases in
    let n = c.in_ok-count.ensures.cases in
    header_split c.args.bytes.now c.in_ok-mark.mark.now c.in_ok-mark.behind.now c.in_ok-count.count.now c.in_ok-count.rest.now c.read_u64.result m.0 m.1 n.0 n.1 c.read_u64.ensures (omega arith)
