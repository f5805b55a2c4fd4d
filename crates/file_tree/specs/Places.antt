-- What the code's places and refusals mean.
use Rattle.std.specs.Prelude.{◌≡◌, Some, None}
use Rattle.frang_base.specs.declared.reply.Reply.{Reply}
use Rattle.frang_base.specs.declared.reply.Reply.TheVariants as reply
use Rattle.tree_definitions.specs.declared.node.Node.TheVariants.{Dir}
use Rattle.tree_definitions.specs.Entries.{entry_at}
use Rattle.tree_definitions.specs.Tree.{FileTree, node_at}
use Rattle.tree_definitions.specs.Place.{Place as Spot, Root as AtRoot, Taken as IsTaken, Free as IsFree, Nowhere as IsNowhere}
use Rattle.file_tree.specs.declared.place.Place.{Place}
use Rattle.file_tree.specs.declared.place.Place.TheVariants.{Root, Taken, Free, Nowhere}
use Rattle.file_tree.specs.declared.place.Refusal.{Refusal}
use Rattle.file_tree.specs.declared.place.Refusal.TheVariants as refusal

abbrev pub reply_of : Refusal → Reply
reply_of refusal.NoEnt = reply.NoEnt
reply_of refusal.NotDir = reply.NotDir
reply_of refusal.IsDir = reply.IsDir
reply_of refusal.Inval = reply.Inval
reply_of refusal.Loop = reply.Loop

-- the place that a place of the code is
abbrev pub spot_of : Place → Spot
spot_of Root = AtRoot
spot_of (Taken dir entries blocks name birth) = IsTaken dir entries.now blocks name.now birth
spot_of (Free dir entries blocks name) = IsFree dir entries.now blocks name.now
spot_of (Nowhere refusal) = IsNowhere (reply_of refusal)

-- the directory of a place is in the tree, and it has the name or hasn't
abbrev pub IsThere : FileTree → Place → Type 0
IsThere tree (Taken dir entries blocks name birth) = (node_at tree dir ≡ Some (Dir entries.now blocks)) × (entry_at entries.now name.now ≡ Some birth)
IsThere tree (Free dir entries blocks name) = (node_at tree dir ≡ Some (Dir entries.now blocks)) × (entry_at entries.now name.now ≡ None)
IsThere tree _ = Unit {0}
