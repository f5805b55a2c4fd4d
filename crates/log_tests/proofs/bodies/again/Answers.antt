-- What is decoded may stand in a log.
use Rattle.std.proofs.Common.{sym, ◌∙◌, arith}
use Rattle.sector_bytes.specs.Bytes.{AreBytes}
use Rattle.log_record.proofs.RecordRead.{decoded_fits}
use Rattle.log_tests.proofs.bodies.again.Goals as goal

pub encode-requires : goal.encode-requires
encode-requires c =
    let small : AreBytes c.args.bytes.now = λ k. omega (arith, c.type_inv.bytes k) in
    decoded_fits c.args.bytes.now c.in-Some.redo small (sym c.in_ok-redo.ensures ∙ c.in-Some.is)
