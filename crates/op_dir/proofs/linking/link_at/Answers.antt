-- By where the first path leads, and by the kind of the node.
use Rattle.std.proofs.Common.{◌≡◌, ◌==◌, ◌++◌, ℕ, true, false, sym, ap, ◌∙◌, List, []}
use Rattle.frang_base.specs.declared.reply.Reply.TheVariants as reply
use Rattle.disk_definitions.specs.Ask.{bind, Ask}
use Rattle.disk_definitions.specs.Walks.{walk}
use Rattle.disk_definitions.specs.Plans.{Plan, refuse, refused}
use Rattle.disk_definitions.specs.NamePlans.{linking, linking_to}
use Rattle.dir_lookup.specs.Reading.{Read, Gives, reading}
use Rattle.dir_lookup.specs.declared.spot.Spot.{Spot}
use Rattle.dir_lookup.specs.Spots.{spot_of}
use Rattle.dir_lookup.specs.Hands.{seen}
use Rattle.plan_steps.proofs.Ending.{comes_as, refuses}
use Rattle.op_dir.proofs.Choosing.{if_not, if_so}
use Rattle.op_dir.proofs.Looking.{if_not_looks, if_so_looks}
use Rattle.dir_lookup.proofs.Looking.{adds_as, adds_none}
use Rattle.disk_definitions.specs.LookedAt.{examined}
use Rattle.op_dir.proofs.linking.link_at.Goals as goal

pub returns-then-is_directory-clause-comes : goal.returns-then-is_directory-clause-comes
returns-then-is_directory-clause-comes c dirs =
    let cached = c.args.hand.now.sectors.now.entries in
    let held = c.args.hand.now.held.now in
    let h = seen c.args.hand.now in
    let plan : Spot → Read Plan = λ s. reading (linking h c.args.to.now dirs (spot_of s)) cached held in
    let j : ℕ = c.in-AtName.found.entry.inode in
    let k : (c.in-AtName.found.entry.kind == 2) ≡ true = sym c.is_directory.ensures ∙ c.if-is_directory.true in
    refuses (plan c.args.spot.now) reply.IsDir dirs
    (ap plan c.in-AtName.is
    ∙ if_so (c.in-AtName.found.entry.kind == 2) (refused reply.IsDir dirs) (bind (walk c.args.to.now) (λ w. linking_to h j (dirs ++ w.dirs) w.spot)) cached held k)

pub returns-else-is_directory-clause-comes : goal.returns-else-is_directory-clause-comes
returns-else-is_directory-clause-comes c dirs =
    let cached = c.args.hand.now.sectors.now.entries in
    let held = c.args.hand.now.held.now in
    let h = seen c.args.hand.now in
    let plan : Spot → Read Plan = λ s. reading (linking h c.args.to.now dirs (spot_of s)) cached held in
    let j : ℕ = c.in-AtName.found.entry.inode in
    let k : (c.in-AtName.found.entry.kind == 2) ≡ false = sym c.is_directory.ensures ∙ c.if-is_directory.false in
    comes_as (plan c.args.spot.now) (reading (bind (walk c.args.to.now) (λ w. linking_to h j (dirs ++ w.dirs) w.spot)) cached held) c.link_inode.result
    (ap plan c.in-AtName.is
    ∙ if_not (c.in-AtName.found.entry.kind == 2) (refused reply.IsDir dirs) (bind (walk c.args.to.now) (λ w. linking_to h j (dirs ++ w.dirs) w.spot)) cached held k)
    (c.link_inode.ensures.comes dirs)

pub returns-in-AtRoot-clause-comes : goal.returns-in-AtRoot-clause-comes
returns-in-AtRoot-clause-comes c dirs =
    let cached = c.args.hand.now.sectors.now.entries in
    let held = c.args.hand.now.held.now in
    let plan : Spot → Read Plan = λ s. reading (linking (seen c.args.hand.now) c.args.to.now dirs (spot_of s)) cached held in
    refuses (plan c.args.spot.now) reply.IsDir dirs (ap plan c.in-AtRoot.is)

pub returns-in-AtGap-clause-comes : goal.returns-in-AtGap-clause-comes
returns-in-AtGap-clause-comes c dirs =
    let cached = c.args.hand.now.sectors.now.entries in
    let held = c.args.hand.now.held.now in
    let plan : Spot → Read Plan = λ s. reading (linking (seen c.args.hand.now) c.args.to.now dirs (spot_of s)) cached held in
    refuses (plan c.args.spot.now) reply.NoEnt dirs (ap plan c.in-AtGap.is)

pub returns-in-Lost-clause-comes : goal.returns-in-Lost-clause-comes
returns-in-Lost-clause-comes c dirs =
    let cached = c.args.hand.now.sectors.now.entries in
    let held = c.args.hand.now.held.now in
    let plan : Spot → Read Plan = λ s. reading (linking (seen c.args.hand.now) c.args.to.now dirs (spot_of s)) cached held in
    refuses (plan c.args.spot.now) c.reply.result dirs (ap plan c.in-Lost.is ∙ ap (λ r. Gives (refuse r dirs)) (sym c.reply.ensures))

pub returns-then-is_directory-clause-looks : goal.returns-then-is_directory-clause-looks
returns-then-is_directory-clause-looks c dirs m =
    let cached = c.args.hand.now.sectors.now.entries in
    let held = c.args.hand.now.held.now in
    let h = seen c.args.hand.now in
    let plan : Spot → List ℕ = λ s. examined (linking h c.args.to.now dirs (spot_of s)) cached held in
    let j : ℕ = c.in-AtName.found.entry.inode in
    let q : Ask Plan = bind (walk c.args.to.now) (λ w. linking_to h j (dirs ++ w.dirs) w.spot) in
    let k : (c.in-AtName.found.entry.kind == 2) ≡ true = sym c.is_directory.ensures ∙ c.if-is_directory.true in
    adds_as _ _ [] _ (sym (ap plan c.in-AtName.is ∙ if_so_looks cached held (c.in-AtName.found.entry.kind == 2) (refused reply.IsDir dirs) q k)) (adds_none _)

pub returns-else-is_directory-clause-looks : goal.returns-else-is_directory-clause-looks
returns-else-is_directory-clause-looks c dirs m =
    let cached = c.args.hand.now.sectors.now.entries in
    let held = c.args.hand.now.held.now in
    let h = seen c.args.hand.now in
    let plan : Spot → List ℕ = λ s. examined (linking h c.args.to.now dirs (spot_of s)) cached held in
    let j : ℕ = c.in-AtName.found.entry.inode in
    let q : Ask Plan = bind (walk c.args.to.now) (λ w. linking_to h j (dirs ++ w.dirs) w.spot) in
    let k : (c.in-AtName.found.entry.kind == 2) ≡ false = sym c.is_directory.ensures ∙ c.if-is_directory.false in
    adds_as _ _ _ _ (sym (ap plan c.in-AtName.is ∙ if_not_looks cached held (c.in-AtName.found.entry.kind == 2) (refused reply.IsDir dirs) q k)) (c.link_inode.ensures.looks dirs m)

pub returns-in-AtRoot-clause-looks : goal.returns-in-AtRoot-clause-looks
returns-in-AtRoot-clause-looks c dirs m =
    let cached = c.args.hand.now.sectors.now.entries in
    let held = c.args.hand.now.held.now in
    let h = seen c.args.hand.now in
    let plan : Spot → List ℕ = λ s. examined (linking h c.args.to.now dirs (spot_of s)) cached held in
    adds_as _ _ [] _ (sym (ap plan c.in-AtRoot.is)) (adds_none _)

pub returns-in-AtGap-clause-looks : goal.returns-in-AtGap-clause-looks
returns-in-AtGap-clause-looks c dirs m =
    let cached = c.args.hand.now.sectors.now.entries in
    let held = c.args.hand.now.held.now in
    let h = seen c.args.hand.now in
    let plan : Spot → List ℕ = λ s. examined (linking h c.args.to.now dirs (spot_of s)) cached held in
    adds_as _ _ [] _ (sym (ap plan c.in-AtGap.is)) (adds_none _)

pub returns-in-Lost-clause-looks : goal.returns-in-Lost-clause-looks
returns-in-Lost-clause-looks c dirs m =
    let cached = c.args.hand.now.sectors.now.entries in
    let held = c.args.hand.now.held.now in
    let h = seen c.args.hand.now in
    let plan : Spot → List ℕ = λ s. examined (linking h c.args.to.now dirs (spot_of s)) cached held in
    adds_as _ _ [] _ (sym (ap plan c.in-Lost.is)) (adds_none _)
