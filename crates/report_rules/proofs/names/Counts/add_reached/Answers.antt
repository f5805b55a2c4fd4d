-- The inode is reached, or it isn't.
use Rattle.std.proofs.Common.{if◌then◌else◌, Bool, ap, sym, ◌∙◌, subst}
use Rattle.disk_reading.specs.Marks.{flag_at}
use Rattle.disk_reading.specs.Seen.{store_in}
use Rattle.report_definitions.specs.Rules.{names_by}
use Rattle.report_rules.specs.Names.{HaveCounted}
use Rattle.report_rules.proofs.Counted.{counted_nothing}
use Rattle.report_rules.proofs.names.Counts.add_reached.Goals as goal

pub returns-then-has : goal.returns-then-has
returns-then-has c =
    subst (λ (b : Bool). HaveCounted (λ i. if b then names_by (store_in c.args.segments c.args.disk.now) c.args.d i else 0) c.args.self.now c.add_names.new.self)
    (sym (sym c.has.ensures ∙ c.if-has.true)) c.add_names.ensures

pub returns-else-has : goal.returns-else-has
returns-else-has c =
    counted_nothing (λ i. if flag_at c.args.reached.now c.args.d then names_by (store_in c.args.segments c.args.disk.now) c.args.d i else 0) c.args.self.now
    (λ i. ap (λ (b : Bool). if b then names_by (store_in c.args.segments c.args.disk.now) c.args.d i else 0) (sym c.has.ensures ∙ c.if-has.false))
