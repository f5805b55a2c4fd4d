-- By whether a name is given.
use Rattle.std.proofs.Common.{ap, subst}
use Rattle.std.specs.Option.{option_map}
use Rattle.sector_bytes.specs.Sectors.{sectors_of}
use Rattle.image_commands.specs.Steps.{SaysTree}
use Rattle.image_commands.proofs.EndLaws.{told_and_saved, told_only}
use Rattle.image_commands.proofs.commands.say_and_save.Goals as goal

pub returns-in-None : goal.returns-in-None
returns-in-None g c =
    let told = subst (λ before. SaysTree (g.O.Outside.state c.args.out.now) (g.O.Outside.state c.say_tree-said.new.out) (sectors_of c.args.recovery.now.disk) before c.say_tree-said.result) c.deref.ensures.value c.say_tree-said.ensures in
    told_only (g.F.Files.state c.args.files.now) (g.O.Outside.state c.args.out.now) (g.O.Outside.state c.say_tree-said.new.out) (sectors_of c.args.recovery.now.disk) c.args.recovery.now.before.items c.args.recovery.now.disk
    (option_map (λ s. s.now) c.args.save) c.say_tree-said.result (ap (option_map (λ s. s.now)) c.in-None.is) told

pub returns-in-Some : goal.returns-in-Some
returns-in-Some g c =
    let told = subst (λ before. SaysTree (g.O.Outside.state c.args.out.now) (g.O.Outside.state c.say_tree-said.new.out) (sectors_of c.args.recovery.now.disk) before c.say_tree-said.result) c.deref.ensures.value c.say_tree-said.ensures in
    told_and_saved (g.F.Files.state c.args.files.now) (g.F.Files.state c.save_after.new.files) (g.O.Outside.state c.args.out.now) (g.O.Outside.state c.say_tree-said.new.out) (sectors_of c.args.recovery.now.disk)
    c.args.recovery.now.before.items c.args.recovery.now.disk (option_map (λ s. s.now) c.args.save) c.in-Some.save.now c.say_tree-said.result c.save_after.result (ap (option_map (λ s. s.now)) c.in-Some.is)
    told c.save_after.ensures
