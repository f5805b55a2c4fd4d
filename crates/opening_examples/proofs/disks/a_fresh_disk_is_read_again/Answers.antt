-- Its logs are zero.
use Rattle.opening_examples.proofs.Again.{may_open, read_again}
use Rattle.opening_examples.proofs.disks.a_fresh_disk_is_read_again.Goals as goal

pub returns : goal.returns
returns c =
    let put = c.the_opening_puts_the_disk.ensures in
    record {
      again = read_again put.fresh put.logs c.each_start_is_an_opening.ensures.fresh;
      image = may_open put.fresh put.logs c.each_start_is_an_opening.ensures.fresh c.runs_go_on_from_what_was_left.ensures.goes_on;
    }
