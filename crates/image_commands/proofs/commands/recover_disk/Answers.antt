-- By the recovery of the disk.
use Rattle.std.proofs.Common.{inl, inr, refl, subst}
use Rattle.sector_bytes.specs.Sectors.{sectors_of}
use Rattle.image_commands.specs.Lines.{EndsWithTree}
use Rattle.image_commands.specs.Recovered.{GivesRecovery}
use Rattle.image_commands.proofs.LineLaws.{tree_told}
use Rattle.image_commands.proofs.commands.recover_disk.Goals as goal

pub say_and_save-requires-clause-stands : goal.say_and_save-requires-clause-stands
say_and_save-requires-clause-stands g c = (subst (GivesRecovery c.args.disk) c.in-Some.is c.in-Ok.ensures).0.1

pub returns-in-Some : goal.returns-in-Some
returns-in-Some g c =
    let gives = subst (GivesRecovery c.args.disk) c.in-Some.is c.in-Ok.ensures in
    let said = c.say_and_save.ensures in
    let told = subst (λ before. EndsWithTree (sectors_of c.in-Some.recovery.disk) before said.0) gives.1 said.1 in
    inl (said.0, c.in-Some.recovery.disk, tree_told c.args.disk c.in-Some.recovery.disk _ gives.0.0 said.0 told, gives.0.0, said.2)

pub returns-in-None : goal.returns-in-None
returns-in-None g c = inr (c.requires.says, refl, inr (c.no_tree.ensures, subst (GivesRecovery c.args.disk) c.in-None.is c.in-Ok.ensures))

pub returns-in-Err : goal.returns-in-Err
returns-in-Err g c = inr (c.requires.says, refl, inl refl)
