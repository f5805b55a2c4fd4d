-- What the lists of a table say is what it has.
use Rattle.known_locks.specs.Listed.{parties}
use Rattle.lock_rebuild.proofs.Listing.{lists_of_servers, lists_without_clash}
use Rattle.lock_rebuild.proofs.Same.{all_wait, same_table}
use Rattle.lock_rebuild.proofs.laws.rebuilt_tables_are_the_same.Goals as goal

pub returns : goal.returns
returns c = record {
  same = λ lost rebuilt are takers are_new is. same_table lost are takers rebuilt are_new is;
  wait = λ clerks rebuilt is. all_wait clerks rebuilt is;
  servers = λ lost are. lists_of_servers lost are parties;
  clash = λ lost are. lists_without_clash lost are parties;
}
