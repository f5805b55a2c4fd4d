-- By the replay of the disk.
use Rattle.std.proofs.Common.{[], inl, inr, refl, subst}
use Rattle.image_commands.specs.Recovered.{GivesReplayed}
use Rattle.image_commands.proofs.LineLaws.{tree_told}
use Rattle.image_commands.proofs.commands.tell_disk.Goals as goal

pub say_tree-requires-clause-stands : goal.say_tree-requires-clause-stands
say_tree-requires-clause-stands g c = (subst (GivesReplayed c.args.disk) c.in-Some.is c.in-Ok.ensures).1

pub returns-in-Some : goal.returns-in-Some
returns-in-Some g c =
    let gives = subst (GivesReplayed c.args.disk) c.in-Some.is c.in-Ok.ensures in
    let said = c.say_tree.ensures in
    inl (said.0, tree_told c.args.disk c.in-Some.new [] gives.0 said.0 said.1, said.2)

pub returns-in-None : goal.returns-in-None
returns-in-None g c = inr (c.requires.says, inr (c.no_tree.ensures, subst (GivesReplayed c.args.disk) c.in-None.is c.in-Ok.ensures))

pub returns-in-Err : goal.returns-in-Err
returns-in-Err g c = inr (c.requires.says, inl refl)
