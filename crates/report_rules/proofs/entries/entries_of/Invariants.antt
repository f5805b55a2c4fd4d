use Rattle.std.proofs.Common.{◌≡◌, ◌≤◌, is_some}
use Rattle.std.specs.Option.{option_map}
use Rattle.disk_definitions.specs.Store.{stored}
use Rattle.disk_reading.specs.Seen.{store_in}
use Rattle.report_definitions.specs.View.{entry_in}
use Rattle.report_definitions.specs.Sums.{count_below}
use Rattle.report_rules.proofs.entries.entries_of.Given as goal

abbrev pub invariant-loop-q : goal.invariant-loop-q
invariant-loop-q l = record {
  counted : l.count ≡ count_below l.q (λ q. is_some (entry_in (store_in l.segments l.disk) (option_map stored l.inode) q));
  few : l.count ≤ l.q;
}
