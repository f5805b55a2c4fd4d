-- The parts one after the other.
use Rattle.std.proofs.Common.{List, ◌++◌, ◌∷◌, []}
use Rattle.std.specs.Prelude.{None, false}
use Rattle.disk_definitions.specs.Store.{stored}
use Rattle.disk_definitions.specs.Edits.{Edit, SetInode, SetBit}
use Rattle.disk_definitions.specs.Changes.{freed, large_gone, uses_to}
use Rattle.plan_steps.specs.Edits.{edits_of}
use Rattle.plan_steps.proofs.Editing.{on_ok, pieces}
use Rattle.plan_steps.proofs.nodes.drop_node.Goals as goal

pub returns : goal.returns
returns c =
    let i = c.args.node.now.number in
    let x = stored c.args.node.now.inode in
    let first : List Edit = edits_of c.args.edits.now.items in
    let second : List Edit = edits_of c.drop_blocks.new.edits.items in
    let third : List Edit = edits_of c.drop_large.new.edits.items in
    let last : List Edit = edits_of c.drop_inode.new.edits.items in
    let blocks : List Edit = uses_to x.small (freed x.kind) x.blocks in
    let large : List Edit = large_gone x.large in
    let inode : List Edit = SetInode i None false ∷ SetBit i false ∷ [] in
    record {
      ok =
          on_ok c.drop_inode.result _ _
          (λ p. pieces first second last blocks (large ++ inode) c.in_ok-drop_blocks.ensures.ok (pieces second third last large inode c.in_ok-drop_large.ensures.ok p))
          c.drop_inode.ensures.ok;
    }
