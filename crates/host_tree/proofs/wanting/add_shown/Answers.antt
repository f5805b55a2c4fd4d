-- Inodes and parts of small blocks show sectors, and no others do.
use Rattle.std.proofs.Common.{Some, sym, subst}
use Rattle.core_definitions.specs.Trees.{shown_by}
use Rattle.host_tree.specs.Wanting.{Adds}
use Rattle.host_tree.proofs.AddedSectors.{added_none}
use Rattle.host_tree.proofs.wanting.add_shown.Goals as goal

pub returns-in-Inode : goal.returns-in-Inode
returns-in-Inode c = subst (λ r. Adds c.args.read.now.entries (shown_by (Some r) c.args.block.now) c.args.wanted.now.entries c.add_directory.new.wanted.entries) (sym c.in-Inode.is) c.add_directory.ensures

pub returns-in-Small : goal.returns-in-Small
returns-in-Small c = subst (λ r. Adds c.args.read.now.entries (shown_by (Some r) c.args.block.now) c.args.wanted.now.entries c.add_entries.new.wanted.entries) (sym c.in-Small.is) c.add_entries.ensures

pub returns-in-Param : goal.returns-in-Param
returns-in-Param c = subst (λ r. Adds c.args.read.now.entries (shown_by (Some r) c.args.block.now) c.args.wanted.now.entries c.args.wanted.now.entries) (sym c.in-Param.is) (added_none c.args.read.now.entries c.args.wanted.now.entries)

pub returns-in-Log : goal.returns-in-Log
returns-in-Log c = subst (λ r. Adds c.args.read.now.entries (shown_by (Some r) c.args.block.now) c.args.wanted.now.entries c.args.wanted.now.entries) (sym c.in-Log.is) (added_none c.args.read.now.entries c.args.wanted.now.entries)

pub returns-in-Segment : goal.returns-in-Segment
returns-in-Segment c = subst (λ r. Adds c.args.read.now.entries (shown_by (Some r) c.args.block.now) c.args.wanted.now.entries c.args.wanted.now.entries) (sym c.in-Segment.is) (added_none c.args.read.now.entries c.args.wanted.now.entries)

pub returns-in-Large : goal.returns-in-Large
returns-in-Large c = subst (λ r. Adds c.args.read.now.entries (shown_by (Some r) c.args.block.now) c.args.wanted.now.entries c.args.wanted.now.entries) (sym c.in-Large.is) (added_none c.args.read.now.entries c.args.wanted.now.entries)
