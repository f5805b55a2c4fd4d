-- The lines of the tree behind those that are said first.
use Rattle.std.proofs.Common.{◌∷◌, ◌++◌, [], refl}
use Rattle.frang_base.specs.declared.said.Said.TheVariants as said
use Rattle.tree_definitions.specs.TreeLines.{tree_lines}
use Rattle.image_commands.proofs.SayLaws.{nothing_said}
use Rattle.image_commands.proofs.say.say_tree.Goals as goal

pub returns-in-Ok : goal.returns-in-Ok
returns-in-Ok g c = (c.args.before.now ++ c.in-Ok.lines ++ said.End ∷ [], (c.in-Ok.lines, c.in-Ok.ensures, refl), c.say_behind.ensures)

pub returns-in-Err : goal.returns-in-Err
returns-in-Err g c =
    let stands = c.requires.stands in
    let told = tree_lines stands.0 in (
      c.args.before.now ++ told ++ said.End ∷ [],
      (told, record { tree = stands.0; stands = stands.1; is = refl }, refl),
      nothing_said (g.O.Outside.state c.args.out.now) (g.O.Outside.state c.args.out.now) (c.args.before.now ++ told ++ said.End ∷ []) c.requires.says,
    )
