-- The bytes of an image have a first sector with parameters.
use Rattle.std.proofs.Common.{arith}
use Rattle.sector_bytes.specs.Bytes.{AreBytes}
use Rattle.image_commands.proofs.Parameters.{has_parameters, runs_again}
use Rattle.image_commands.proofs.read.disk_of.Goals as goal

pub returns-in-Ok-clause-parameters : goal.returns-in-Ok-clause-parameters
returns-in-Ok-clause-parameters c =
    let small : AreBytes c.args.bytes.now = λ k. omega (arith, c.type_inv.bytes k) in
    has_parameters c.args.bytes.now c.in-Ok.disk small c.in-Ok.ensures

pub returns-in-Ok-clause-again : goal.returns-in-Ok-clause-again
returns-in-Ok-clause-again c =
    let small : AreBytes c.args.bytes.now = λ k. omega (arith, c.type_inv.bytes k) in
    runs_again c.args.bytes.now c.in-Ok.disk small c.in-Ok.ensures
