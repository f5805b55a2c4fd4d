-- Once the tree is read, its next line is made.
use Rattle.std.proofs.Common.{◌≡◌, is_some, sym, ap, ◌∙◌, rules}
use Rattle.std.specs.Option.{option_copied}
use Rattle.world_list.proofs.TreeEnds.{made_so, shown_then}
use Rattle.world_list.proofs.ends.may_show.Goals as goal

pub line-requires : goal.line-requires
line-requires c = (made_so c.args.world.now c.args.tree.now c.requires (sym c.is_tree_read.ensures ∙ c.if-is_tree_read.true)).made

pub returns-then-is_tree_read : goal.returns-then-is_tree_read
returns-then-is_tree_read c =
    let copied : c.is_some.result ≡ is_some (option_copied c.line.result) = search rules in
    copied ∙ ap is_some c.line.ensures ∙ shown_then c.args.world.now c.args.tree.now c.requires (sym c.is_tree_read.ensures ∙ c.if-is_tree_read.true)
