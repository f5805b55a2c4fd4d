-- Law by law.
use Rattle.stop_laws.proofs.Beginning.{fresh_follows, fresh_worlds_begin}
use Rattle.stop_laws.proofs.fresh.a_fresh_disk_begins_histories.Goals as goal

pub returns : goal.returns
returns c = record { follows = fresh_follows; begins = fresh_worlds_begin }
