-- One inode that doesn't agree.
use Rattle.std.proofs.Common.{◌≡◌, ◌*◌, ◌<◌, false, sym, ◌∙◌, rules}
use Rattle.standing_laws.specs.Soundness.{node_agrees}
use Rattle.disk_reading.specs.Seen.{store_in}
use Rattle.disk_reading.proofs.Marked.{not_all}
use Rattle.disk_reading.proofs.nodes.add_nodes.Goals as goal

pub returns-then-not-branch-clause-agree : goal.returns-then-not-branch-clause-agree
returns-then-not-branch-clause-agree c =
    let s = store_in c.args.segments c.args.disk.now in
    let l : c.loop-i.i < 64 * c.args.segments = search rules in
    let f : false ≡ node_agrees s (s.inode c.loop-i.i) = sym c.if-not-branch.true ∙ c.in_ok-add_inode.ensures.agrees in
    not_all c.loop-i.i (64 * c.args.segments) (λ i. node_agrees s (s.inode i)) l f
