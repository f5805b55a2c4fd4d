-- One place more, and all places.
use Rattle.std.proofs.Common.{◌≡◌, ℕ, Option, ap, ◌∙◌, subst, rules}
use Rattle.std.specs.Option.{option_map}
use Rattle.disk_definitions.specs.Store.{StoredNode, stored}
use Rattle.standing_laws.specs.Below.{holds, lists}
use Rattle.disk_reading.specs.Seen.{store_in}
use Rattle.report_definitions.specs.View.{entry_in, named_by}
use Rattle.report_rules.specs.Walks.{HasFlagged}
use Rattle.report_rules.proofs.Walking.{flagged_nothing, flagged_more}
use Rattle.report_rules.proofs.reach.Walk.flag_names.Goals as goal

pub loop-q-init : goal.loop-q-init
loop-q-init c = flagged_nothing c.args.self.now.reached c.args.self.now.later.items

pub loop-q-preserved : goal.loop-q-preserved
loop-q-preserved c =
    let s = store_in c.args.segments c.args.disk.now in
    let o = option_map stored c.used_inode-inode.result in
    let r : c.named_by.result ≡ named_by s (entry_in s o c.loop-q.q) = c.named_by.ensures.is ∙ ap (named_by s) c.entry_of-entry.ensures in
    flagged_more (λ q. named_by s (entry_in s o q)) c.loop-q.q c.args.self.now.reached c.args.self.now.later.items c.loop-q.self.reached c.loop-q.self.later.items c.flag_named.new.self.reached c.flag_named.new.self.later.items c.loop-q.invariant
    (subst (λ (n : Option ℕ). HasFlagged (holds n) c.loop-q.self.reached c.loop-q.self.later.items c.flag_named.new.self.reached c.flag_named.new.self.later.items) r c.in_ok-flag_named.ensures)

pub returns : goal.returns
returns c =
    let s = store_in c.args.segments c.args.disk.now in
    let P : Option StoredNode → ℕ → Type 0 = λ o n. HasFlagged (lists (λ q. named_by s (entry_in s o q)) n) c.args.self.now.reached c.args.self.now.later.items c.loop-q.self.reached c.loop-q.self.later.items in
    let e : c.loop-q.q ≡ 896 = search rules in
    subst (λ o. P o 896) c.used_inode-inode.ensures.is (subst (λ n. P (option_map stored c.used_inode-inode.result) n) e c.loop-q.invariant)
