-- One count more.
use Rattle.std.proofs.Common.{◌==◌, ◌≡◌, ◌+◌, ◌<◌, if◌then◌else◌, List, ℕ, min, length, set, get_or, subst, rules}
use Rattle.report_rules.specs.Names.{HaveCounted}
use Rattle.report_rules.proofs.Counted.{counted_read}
use Rattle.report_rules.proofs.names.Counts.add_one.Goals as goal

pub returns-then-at-len : goal.returns-then-at-len
returns-then-at-len c =
    let l : c.args.number < length c.args.self.now = search rules in
    let r : c.index.result.now ≡ get_or c.args.self.now c.args.number c.index.result.now = search rules in
    let v : c.saturating_add.result ≡ min (c.index.result.now + 1) 18446744073709551615 = search rules in
    let e : c.args.self.now ≡ c.self.inside.counts.items = search rules in
    subst (λ (items : List ℕ). HaveCounted (λ i. if c.args.number == i then 1 else 0) c.args.self.now (set items c.args.number c.saturating_add.result)) e
    (counted_read c.args.self.now c.args.number c.index.result.now c.saturating_add.result l r v)
