-- The further node that a link and a rename touch, by the reply.
use Rattle.std.proofs.Common.{ℕ, ◌≡◌, true, List, refl}
use Rattle.std.specs.List.{Contains}
use Rattle.frang_base.specs.declared.op.Op.TheVariants as op
use Rattle.frang_base.specs.declared.reply.Reply.{Reply}
use Rattle.frang_base.specs.declared.reply.Reply.TheVariants as reply
use Rattle.tree_definitions.specs.Tree.{FileTree}
use Rattle.tree_definitions.specs.Place.{place}
use Rattle.tree_definitions.specs.Touched.{reached, any_node, dir_node, further}
use Rattle.plan_laws.proofs.Covering.{not_in_none}
use Rattle.plan_laws.proofs.Telling.{has_linked, is_not_empty}

pub link_further : (tree : FileTree) (path to : List (List ℕ)) (r : Reply) (b : ℕ) → Contains (further tree (op.Link path to) r) b → (has_linked r ≡ true) × Contains (reached tree any_node (place tree path)) b
link_further tree path to reply.MLink b c = (refl, c)
link_further tree path to reply.DirFull b c = (refl, c)
link_further tree path to reply.NoDirBlock b c = (refl, c)
link_further tree path to _ b c = absurd (not_in_none b c)

pub rename_further : (tree : FileTree) (path to : List (List ℕ)) (r : Reply) (b : ℕ) → Contains (further tree (op.Rename path to) r) b → (is_not_empty r ≡ true) × Contains (reached tree dir_node (place tree to)) b
rename_further tree path to reply.NotEmpty b c = (refl, c)
rename_further tree path to _ b c = absurd (not_in_none b c)
