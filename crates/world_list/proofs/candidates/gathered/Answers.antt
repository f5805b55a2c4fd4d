-- They ascend, and each sector that may be issued has joined.
use Rattle.world_list.proofs.WritesAmong.{issued_joined}
use Rattle.world_list.proofs.candidates.gathered.Goals as goal

pub returns : goal.returns
returns c = record {
  ordered = c.count-count.ensures.ordered;
  all = λ sector may. issued_joined c.args.world.now c.args.a.0 sector c.is_over-over.ensures.kept c.requires.going.going c.requires.party c.join_recovery.ensures.fits c.join_recovery.ensures.core may c.new-sectors.result.entries c.join_server.new.sectors.entries c.join_recovery.new.sectors.entries c.new-sectors.ensures.entries c.in_ok-join_server.ensures c.in_ok-join_recovery.ensures.joins;
}
