-- One place more, and all places.
use Rattle.std.proofs.Common.{◌≡◌, ℕ, if◌then◌else◌, refl, Option, ap, ◌∙◌, subst, rules}
use Rattle.std.specs.Option.{option_map}
use Rattle.disk_definitions.specs.Store.{StoredNode, stored}
use Rattle.standing_laws.specs.Below.{holds}
use Rattle.disk_reading.specs.Seen.{store_in}
use Rattle.report_definitions.specs.View.{entry_in, named_by}
use Rattle.report_definitions.specs.Sums.{count_below}
use Rattle.report_rules.specs.Names.{HaveCounted}
use Rattle.report_rules.proofs.Counted.{counted_nothing, sum_more}
use Rattle.report_rules.proofs.names.Counts.add_names.Goals as goal

pub loop-q-init : goal.loop-q-init
loop-q-init c = counted_nothing (λ i. 0) c.args.self.now (λ i. refl)

pub loop-q-preserved : goal.loop-q-preserved
loop-q-preserved c =
    let s = store_in c.args.segments c.args.disk.now in
    let o = option_map stored c.used_inode-inode.result in
    let r : c.named_by.result ≡ named_by s (entry_in s o c.loop-q.q) = c.named_by.ensures.is ∙ ap (named_by s) c.entry_of-entry.ensures in
    sum_more (λ q i. if holds (named_by s (entry_in s o q)) i then 1 else 0) c.loop-q.q c.args.self.now c.loop-q.self c.add.new.self c.loop-q.invariant
    (subst (λ (n : Option ℕ). HaveCounted (λ i. if holds n i then 1 else 0) c.loop-q.self c.add.new.self) r c.add.ensures)

pub returns : goal.returns
returns c =
    let s = store_in c.args.segments c.args.disk.now in
    let P : Option StoredNode → ℕ → Type 0 = λ o n. HaveCounted (λ i. count_below n (λ q. holds (named_by s (entry_in s o q)) i)) c.args.self.now c.loop-q.self in
    let e : c.loop-q.q ≡ 896 = search rules in
    subst (λ o. P o 896) c.used_inode-inode.ensures.is (subst (λ n. P (option_map stored c.used_inode-inode.result) n) e c.loop-q.invariant)
