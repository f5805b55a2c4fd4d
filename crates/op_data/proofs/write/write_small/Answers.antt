-- By what is picked.
use Rattle.std.proofs.Common.{◌≡◌, ◌-◌, ℕ, Some, None, max, subst, rules, arith}
use Rattle.frang_base.specs.declared.reply.Reply.TheVariants as reply
use Rattle.tree_definitions.specs.Tree.{small_blocks_of}
use Rattle.disk_definitions.specs.Picks.{picked_many}
use Rattle.disk_definitions.proofs.ManyLaws.{picks_the_least}
use Rattle.disk_definitions.specs.Store.{stored}
use Rattle.disk_definitions.specs.Plans.{none_left}
use Rattle.disk_definitions.specs.FilePlans.{directory_blocks, end_of, writing_small}
use Rattle.dir_lookup.specs.Hands.{over, seen}
use Rattle.plan_steps.specs.Ends.{Comes, Stops}
use Rattle.op_data.specs.Writings.{writing_of}
use Rattle.op_data.proofs.Choices.{none_wanted, some_wanted}
use Rattle.op_data.proofs.FileLooks.{none_wanted_looks, some_wanted_looks}
use Rattle.plan_steps.proofs.Looking.{none_more}
use Rattle.op_data.proofs.write.write_small.Goals as goal

pub returns-then-count-eq0-clause-comes : goal.returns-then-count-eq0-clause-comes
returns-then-count-eq0-clause-comes c touched =
    let hand = c.args.hand.now in
    let w = writing_of c.args.writing.now in
    let x = stored c.args.file.now.inode in
    let none : small_blocks_of (max x.size (end_of w)) - x.blocks ≡ 0 = search rules in
    subst (λ p. Comes p c.write_in.result) (none_wanted c.args.hand.now w c.args.file.now.number touched x c.args.large none) (c.write_in.ensures touched)

pub write_in-requires-in-Some-clause-picks : goal.write_in-requires-in-Some-clause-picks
write_in-requires-in-Some-clause-picks c =
    let m : ℕ = small_blocks_of (max c.args.file.now.inode.size (end_of (writing_of c.args.writing.now))) - c.args.file.now.inode.blocks in
    let n : c.from.result ≡ m = search rules in
    let p : picked_many c.args.hand.now.held.now m ≡ Some c.deref.result.now = search rules in
    omega (arith, (picks_the_least c.args.hand.now.held.now m c.deref.result.now p).0)

pub returns-in-Some-clause-comes : goal.returns-in-Some-clause-comes
returns-in-Some-clause-comes c touched =
    let hand = c.args.hand.now in
    let w = writing_of c.args.writing.now in
    let x = stored c.args.file.now.inode in
    let m : ℕ = small_blocks_of (max x.size (end_of w)) - x.blocks in
    let n : c.from.result ≡ m = search rules in
    let some : m ≡ 0 → ⊥ = search rules in
    let p : picked_many c.args.hand.now.held.now m ≡ Some c.deref.result.now = search rules in
    subst (λ p. Comes p c.write_in-in-Some.result) (some_wanted c.args.hand.now w c.args.file.now.number touched x c.args.large (Some c.deref.result.now) some p)
    (c.write_in-in-Some.ensures touched)

pub returns-in-None-clause-comes : goal.returns-in-None-clause-comes
returns-in-None-clause-comes c touched =
    let hand = c.args.hand.now in
    let w = writing_of c.args.writing.now in
    let x = stored c.args.file.now.inode in
    let m : ℕ = small_blocks_of (max x.size (end_of w)) - x.blocks in
    let n : c.from.result ≡ m = search rules in
    let some : m ≡ 0 → ⊥ = search rules in
    let p : picked_many c.args.hand.now.held.now m ≡ None = search rules in
    let q : Stops (over (none_left (seen c.args.hand.now) (reply.NoBlock (directory_blocks c.args.hand.now.held.now)) touched) c.args.hand.now) c.nothing_left.result =
    subst (λ n. Stops (over (none_left (seen c.args.hand.now) (reply.NoBlock n) touched) c.args.hand.now) c.nothing_left.result) c.directory_blocks-m.ensures (c.nothing_left.ensures touched) in
    subst (λ p. Stops p c.nothing_left.result) (some_wanted c.args.hand.now w c.args.file.now.number touched x c.args.large None some p) q

pub returns-then-count-eq0-clause-looks : goal.returns-then-count-eq0-clause-looks
returns-then-count-eq0-clause-looks c touched =
    let hand = c.args.hand.now in
    let w = writing_of c.args.writing.now in
    let x = stored c.args.file.now.inode in
    let j : ℕ = c.args.file.now.number in
    let none : small_blocks_of (max x.size (end_of w)) - x.blocks ≡ 0 = search rules in
    none_more hand.sectors.now.entries hand.held.now (writing_small (seen hand) w j touched x c.args.large) _ (none_wanted_looks hand w j touched x c.args.large none)

pub returns-in_err-picks-clause-looks : goal.returns-in_err-picks-clause-looks
returns-in_err-picks-clause-looks c touched =
    let hand = c.args.hand.now in
    let w = writing_of c.args.writing.now in
    let x = stored c.args.file.now.inode in
    let wants : ℕ = small_blocks_of (max x.size (end_of w)) - x.blocks in
    let n : c.from.result ≡ wants = search rules in
    let some : wants ≡ 0 → ⊥ = search rules in
    some_wanted_looks hand w c.args.file.now.number touched x c.args.large _ _ some c.look_at_held.ensures

pub returns-in-Some-clause-looks : goal.returns-in-Some-clause-looks
returns-in-Some-clause-looks c touched =
    let hand = c.args.hand.now in
    let w = writing_of c.args.writing.now in
    let x = stored c.args.file.now.inode in
    let wants : ℕ = small_blocks_of (max x.size (end_of w)) - x.blocks in
    let n : c.from.result ≡ wants = search rules in
    let some : wants ≡ 0 → ⊥ = search rules in
    some_wanted_looks hand w c.args.file.now.number touched x c.args.large _ _ some c.look_at_held.ensures

pub returns-in-None-clause-looks : goal.returns-in-None-clause-looks
returns-in-None-clause-looks c touched =
    let hand = c.args.hand.now in
    let w = writing_of c.args.writing.now in
    let x = stored c.args.file.now.inode in
    let wants : ℕ = small_blocks_of (max x.size (end_of w)) - x.blocks in
    let n : c.from.result ≡ wants = search rules in
    let some : wants ≡ 0 → ⊥ = search rules in
    some_wanted_looks hand w c.args.file.now.number touched x c.args.large _ _ some c.look_at_held.ensures
