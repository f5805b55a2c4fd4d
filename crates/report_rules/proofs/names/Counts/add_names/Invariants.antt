use Rattle.std.specs.Option.{option_map}
use Rattle.disk_definitions.specs.Store.{stored}
use Rattle.standing_laws.specs.Below.{holds}
use Rattle.disk_reading.specs.Seen.{store_in}
use Rattle.report_definitions.specs.View.{entry_in, named_by}
use Rattle.report_definitions.specs.Sums.{count_below}
use Rattle.report_rules.specs.Names.{HaveCounted}
use Rattle.report_rules.proofs.names.Counts.add_names.Given as goal

abbrev pub invariant-loop-q : goal.invariant-loop-q
invariant-loop-q l = HaveCounted (λ i. count_below l.q (λ q. holds (named_by (store_in l.segments l.disk) (entry_in (store_in l.segments l.disk) (option_map stored l.inode) q)) i)) l.initial.self l.self
