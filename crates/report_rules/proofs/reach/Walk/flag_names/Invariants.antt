use Rattle.std.specs.Option.{option_map}
use Rattle.disk_definitions.specs.Store.{stored}
use Rattle.standing_laws.specs.Below.{lists}
use Rattle.disk_reading.specs.Seen.{store_in}
use Rattle.report_definitions.specs.View.{entry_in, named_by}
use Rattle.report_rules.specs.Walks.{HasFlagged}
use Rattle.report_rules.proofs.reach.Walk.flag_names.Given as goal

abbrev pub invariant-loop-q : goal.invariant-loop-q
invariant-loop-q l = HasFlagged (lists (λ q. named_by (store_in l.segments l.disk) (entry_in (store_in l.segments l.disk) (option_map stored l.inode) q)) l.q) l.initial.self.reached l.initial.self.later.items l.self.reached l.self.later.items
