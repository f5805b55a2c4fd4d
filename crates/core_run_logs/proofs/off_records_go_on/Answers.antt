-- By what the step's history says of the server.
use Rattle.core_run_logs.proofs.Off.{off_go_on}
use Rattle.core_run_logs.proofs.off_records_go_on.Goals as goal

pub returns : goal.returns
returns c = record {
  go_on =
      off_go_on
      (record {
        keep = c.logs_of_servers_that_are_off_go_on.ensures.keep;
        leave = c.logs_of_servers_that_are_off_go_on.ensures.leave;
        kept = c.logs_keep_what_is_durable.ensures;
        standing = c.standing_is_durable.ensures;
      });
}
