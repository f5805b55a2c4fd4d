-- Step by step.
use Rattle.headline_histories.proofs.OffLogs.{leaving_have, off_keep, off_untouched}
use Rattle.headline_histories.proofs.logs_of_servers_that_are_off_go_on.Goals as goal

pub returns : goal.returns
returns c =
    let untouched = off_untouched c.leases_last.ensures.end c.writes_stand_once.ensures.sectors in record {
      untouched = untouched;
      keep = off_keep untouched;
      leave = leaving_have c.tellings_settle_and_stand.ensures.settles;
    }
