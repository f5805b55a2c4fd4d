-- An inode of a kind lies within the segments.
use Rattle.std.proofs.Common.{sym, ◌∙◌}
use Rattle.report_rules.proofs.Within.{kind_within}
use Rattle.report_rules.proofs.entries.named_by.Goals as goal

pub returns-then-has_kind-clause-below : goal.returns-then-has_kind-clause-below
returns-then-has_kind-clause-below c = kind_within c.args.segments c.args.disk.now c.in_ok-entry.entry.inode c.in_ok-entry.entry.kind (sym c.has_kind.ensures ∙ c.if-has_kind.true)
