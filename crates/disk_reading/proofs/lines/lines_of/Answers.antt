-- From the root on, by what each inode shows, as many levels deep as there are nodes.
use Rattle.std.proofs.Common.{◌≡◌, ◌*◌, ◌∙◌, [], length, sym, ap₂}
use Rattle.tree_lines.specs.Shown.{lines_by}
use Rattle.sector_bytes.specs.Sectors.{sectors_of}
use Rattle.standing_laws.specs.ReadTree.{nodes_to}
use Rattle.disk_reading.specs.Lined.{shown_in}
use Rattle.disk_reading.specs.Seen.{store_in}
use Rattle.disk_reading.proofs.NodeLines.{same_lines}
use Rattle.disk_reading.proofs.lines.lines_of.Goals as goal

pub returns : goal.returns
unfolding store_in
returns c =
    let s = store_in c.args.segments c.args.disk in
    c.of-left.ensures (shown_in s) ∙ ap₂ (λ n b. lines_by (shown_in s) n [] b) c.count_nodes-depth.ensures c.from.ensures
    ∙ sym (same_lines c.args.segments (sectors_of c.args.disk) c.requires.agree (length (nodes_to s (64 * c.args.segments))) [] 0)
