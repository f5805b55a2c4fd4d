-- By whether the replayed disk stands for a tree.
use Rattle.std.proofs.Common.{◌≡◌, ◌∙◌, Some, None, Err, ap, refl, rules, sym, subst}
use Rattle.disk_definitions.specs.Params.{param_in}
use Rattle.sector_bytes.specs.Sectors.{sectors_of}
use Rattle.image_commands.specs.Recovered.{GivesReplayed}
use Rattle.run_commands.specs.Steps.{GivesOpen}
use Rattle.run_commands.proofs.Opened.{no_tree_told, opens}
use Rattle.run_commands.proofs.images.replayed_disk.Goals as goal

pub returns-in-Ok-Some : goal.returns-in-Ok-Some
returns-in-Ok-Some g c =
    let is : param_in (sectors_of c.args.disk 0) ≡ Some c.in-Some.param = ap param_in (sym c.get.ensures) ∙ sym c.decode.ensures ∙ c.in-Some.is in
    let some : c.in-Ok-Some.field-0 ≡ Some c.in-Ok-Some.disk = search rules in
    opens c.args.disk c.in-Some.param is c.in-Ok-Some.disk c.requires.again (subst (GivesReplayed c.args.disk) some c.in-Ok-Some.ensures) c.len-count.ensures.ascending c.len-count.ensures.blocks
    c.a_disk_that_stands_is_sound.ensures.sound c.a_sound_disk_stands_for_what_is_read.ensures.stands c.a_sound_disk_stands_for_what_is_read.ensures.doubt

pub returns-in-Ok-None : goal.returns-in-Ok-None
returns-in-Ok-None g c =
    let none : c.in-Ok-None.field-0 ≡ None = search rules in
    subst (λ e. GivesOpen c.args.disk (Err e)) (sym c.no_tree.ensures) (refl, refl, refl, no_tree_told c.args.disk (subst (GivesReplayed c.args.disk) none c.in-Ok-None.ensures))
