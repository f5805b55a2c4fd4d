-- The nodes that come, and what the code has to know of the inodes that it changes.
use Rattle.std.specs.Prelude.{◌≡◌, ◌≤◌, []}
use Rattle.frang_base.specs.declared.limits.TheConstants.{FILE_BYTES_MAX, INODE_BLOCKS_MAX, KIND_DIRECTORY}
use Rattle.disk_definitions.specs.declared.inode.Inode.{Inode}
use Rattle.tree_definitions.specs.declared.node.Node.{Node}
use Rattle.tree_definitions.specs.declared.node.Node.TheVariants.{Dir, File, Link}
use Rattle.plan_steps.specs.declared.nodes.NewNode.{NewNode}
use Rattle.plan_steps.specs.declared.nodes.NewNode.TheVariants as new

-- an empty file, an empty directory, or a link
abbrev pub node_of : NewNode → Node
node_of new.File = File [] 1 0
node_of new.Directory = Dir [] 0
node_of (new.Link target) = Link target 1

-- the inode of a directory, and the bounds of its fields
pub record IsDirectory (x : Inode) : Type 0 where
  pub kind : x.kind ≡ KIND_DIRECTORY
  pub blocks : x.blocks ≤ INODE_BLOCKS_MAX
  pub size : x.size ≤ FILE_BYTES_MAX
