-- The candidates that may be issued are the core's.
use Rattle.std.proofs.lemmas.Result.{on_ok_weaker}
use Rattle.world_list.proofs.IssuesListed.{issues_added}
use Rattle.world_list.proofs.issues.push_issues.Goals as goal

pub returns : goal.returns
returns c =
    on_ok_weaker c.push_pieces.result
    (issues_added c.args.world.now c.args.a.0 c.in_ok-sectors.sectors.entries c.in_ok-sectors.ensures c.writer.result c.writer.ensures c.chunks.result.now c.chunks.ensures c.args.list.now.items c.push_pieces.new.list.items)
    c.push_pieces.ensures
