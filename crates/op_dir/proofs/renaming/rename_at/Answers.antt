-- By where the first path leads.
use Rattle.std.proofs.Common.{◌++◌, sym, ap, ◌∙◌, List, [], ℕ}
use Rattle.frang_base.specs.declared.reply.Reply.TheVariants as reply
use Rattle.disk_definitions.specs.Store.{stored, entered}
use Rattle.disk_definitions.specs.Ask.{bind}
use Rattle.disk_definitions.specs.Walks.{walk}
use Rattle.disk_definitions.specs.Plans.{Plan, refuse}
use Rattle.disk_definitions.specs.NamePlans.{Moving, renaming, renaming_to}
use Rattle.dir_lookup.specs.Reading.{Read, Gives, reading}
use Rattle.dir_lookup.specs.declared.spot.Spot.{Spot}
use Rattle.dir_lookup.specs.Spots.{spot_of}
use Rattle.dir_lookup.specs.Hands.{seen}
use Rattle.plan_steps.proofs.Ending.{comes_as, refuses}
use Rattle.dir_lookup.proofs.Looking.{adds_as, adds_none}
use Rattle.disk_definitions.specs.LookedAt.{examined}
use Rattle.op_dir.proofs.renaming.rename_at.Goals as goal

pub returns-in-AtName-clause-comes : goal.returns-in-AtName-clause-comes
returns-in-AtName-clause-comes c dirs =
    let cached = c.args.hand.now.sectors.now.entries in
    let held = c.args.hand.now.held.now in
    let h = seen c.args.hand.now in
    let plan : Spot → Read Plan = λ s. reading (renaming h c.args.to.now dirs (spot_of s)) cached held in
    let m : Moving = record { dir = c.in-AtName.directory.number; directory = stored c.in-AtName.directory.inode; slot = c.in-AtName.found.place; entry = entered c.in-AtName.found.entry } in
    comes_as (plan c.args.spot.now) (reading (bind (walk c.args.to.now) (λ w. renaming_to h m w.dirs (dirs ++ w.dirs) w.spot)) cached held) c.rename_named.result (ap plan c.in-AtName.is) (c.rename_named.ensures.comes dirs)

pub returns-in-AtRoot-clause-comes : goal.returns-in-AtRoot-clause-comes
returns-in-AtRoot-clause-comes c dirs =
    let cached = c.args.hand.now.sectors.now.entries in
    let held = c.args.hand.now.held.now in
    let plan : Spot → Read Plan = λ s. reading (renaming (seen c.args.hand.now) c.args.to.now dirs (spot_of s)) cached held in
    refuses (plan c.args.spot.now) reply.Inval dirs (ap plan c.in-AtRoot.is)

pub returns-in-AtGap-clause-comes : goal.returns-in-AtGap-clause-comes
returns-in-AtGap-clause-comes c dirs =
    let cached = c.args.hand.now.sectors.now.entries in
    let held = c.args.hand.now.held.now in
    let plan : Spot → Read Plan = λ s. reading (renaming (seen c.args.hand.now) c.args.to.now dirs (spot_of s)) cached held in
    refuses (plan c.args.spot.now) reply.NoEnt dirs (ap plan c.in-AtGap.is)

pub returns-in-Lost-clause-comes : goal.returns-in-Lost-clause-comes
returns-in-Lost-clause-comes c dirs =
    let cached = c.args.hand.now.sectors.now.entries in
    let held = c.args.hand.now.held.now in
    let plan : Spot → Read Plan = λ s. reading (renaming (seen c.args.hand.now) c.args.to.now dirs (spot_of s)) cached held in
    refuses (plan c.args.spot.now) c.reply.result dirs (ap plan c.in-Lost.is ∙ ap (λ r. Gives (refuse r dirs)) (sym c.reply.ensures))

pub returns-in-AtName-clause-looks : goal.returns-in-AtName-clause-looks
returns-in-AtName-clause-looks c dirs m =
    let cached = c.args.hand.now.sectors.now.entries in
    let held = c.args.hand.now.held.now in
    let h = seen c.args.hand.now in
    let plan : Spot → List ℕ = λ s. examined (renaming h c.args.to.now dirs (spot_of s)) cached held in
    adds_as _ _ _ _ (sym (ap plan c.in-AtName.is)) (c.rename_named.ensures.looks dirs m)

pub returns-in-AtRoot-clause-looks : goal.returns-in-AtRoot-clause-looks
returns-in-AtRoot-clause-looks c dirs m =
    let cached = c.args.hand.now.sectors.now.entries in
    let held = c.args.hand.now.held.now in
    let h = seen c.args.hand.now in
    let plan : Spot → List ℕ = λ s. examined (renaming h c.args.to.now dirs (spot_of s)) cached held in
    adds_as _ _ [] _ (sym (ap plan c.in-AtRoot.is)) (adds_none _)

pub returns-in-AtGap-clause-looks : goal.returns-in-AtGap-clause-looks
returns-in-AtGap-clause-looks c dirs m =
    let cached = c.args.hand.now.sectors.now.entries in
    let held = c.args.hand.now.held.now in
    let h = seen c.args.hand.now in
    let plan : Spot → List ℕ = λ s. examined (renaming h c.args.to.now dirs (spot_of s)) cached held in
    adds_as _ _ [] _ (sym (ap plan c.in-AtGap.is)) (adds_none _)

pub returns-in-Lost-clause-looks : goal.returns-in-Lost-clause-looks
returns-in-Lost-clause-looks c dirs m =
    let cached = c.args.hand.now.sectors.now.entries in
    let held = c.args.hand.now.held.now in
    let h = seen c.args.hand.now in
    let plan : Spot → List ℕ = λ s. examined (renaming h c.args.to.now dirs (spot_of s)) cached held in
    adds_as _ _ [] _ (sym (ap plan c.in-Lost.is)) (adds_none _)
