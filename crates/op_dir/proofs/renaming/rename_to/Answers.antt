-- By where the second path leads, and by whether its walk passed the moved directory.
use Rattle.std.proofs.Common.{◌≡◌, ℕ, List, true, false, sym, ap, ◌∙◌, []}
use Rattle.frang_base.specs.declared.reply.Reply.TheVariants as reply
use Rattle.disk_definitions.specs.Store.{stored, entered}
use Rattle.disk_definitions.specs.Plans.{Plan, refuse, refused}
use Rattle.disk_definitions.specs.NamePlans.{goes_through, moving_onto, moving_to, renaming_to}
use Rattle.dir_lookup.specs.Reading.{Read, Gives, reading}
use Rattle.dir_lookup.specs.declared.spot.Spot.{Spot}
use Rattle.dir_lookup.specs.Spots.{spot_of}
use Rattle.dir_lookup.specs.Hands.{seen}
use Rattle.plan_steps.proofs.Ending.{comes_as, refuses}
use Rattle.op_dir.specs.Moving.{moving_of}
use Rattle.op_dir.proofs.Choosing.{if_not, if_so}
use Rattle.op_dir.proofs.Looking.{if_not_looks, if_so_looks}
use Rattle.disk_definitions.specs.Ask.{Ask}
use Rattle.dir_lookup.proofs.Looking.{adds_as, adds_none}
use Rattle.disk_definitions.specs.LookedAt.{examined}
use Rattle.op_dir.proofs.renaming.rename_to.Goals as goal

pub returns-then-through-clause-comes : goal.returns-then-through-clause-comes
returns-then-through-clause-comes c to_dirs dirs through =
    let cached = c.args.hand.now.sectors.now.entries in
    let held = c.args.hand.now.held.now in
    let h = seen c.args.hand.now in
    let m = moving_of c.args.from.now in
    let plan : Spot → Read Plan = λ s. reading (renaming_to h m to_dirs dirs (spot_of s)) cached held in
    let g : goes_through m to_dirs ≡ true = sym through ∙ c.if-through.true in
    let e = entered c.in-AtName.found.entry in
    let name : List ℕ = c.in-AtName.name in
    refuses (plan c.args.spot.now) reply.Inval dirs
    (ap plan c.in-AtName.is
    ∙ if_so (goes_through m to_dirs) (refused reply.Inval dirs) (moving_onto m c.in-AtName.directory.number (stored c.in-AtName.directory.inode) name c.in-AtName.found.place e dirs) cached held g)

pub returns-else-through-clause-comes : goal.returns-else-through-clause-comes
returns-else-through-clause-comes c to_dirs dirs through =
    let cached = c.args.hand.now.sectors.now.entries in
    let held = c.args.hand.now.held.now in
    let h = seen c.args.hand.now in
    let m = moving_of c.args.from.now in
    let plan : Spot → Read Plan = λ s. reading (renaming_to h m to_dirs dirs (spot_of s)) cached held in
    let g : goes_through m to_dirs ≡ false = sym through ∙ c.if-through.false in
    let e = entered c.in-AtName.found.entry in
    let name : List ℕ = c.in-AtName.name in
    let p = moving_onto m c.in-AtName.directory.number (stored c.in-AtName.directory.inode) name c.in-AtName.found.place e dirs in
    comes_as (plan c.args.spot.now) (reading p cached held) c.move_onto.result
    (ap plan c.in-AtName.is ∙ if_not (goes_through m to_dirs) (refused reply.Inval dirs) p cached held g) (c.move_onto.ensures.comes dirs)

pub returns-then-through-2-clause-comes : goal.returns-then-through-2-clause-comes
returns-then-through-2-clause-comes c to_dirs dirs through =
    let cached = c.args.hand.now.sectors.now.entries in
    let held = c.args.hand.now.held.now in
    let h = seen c.args.hand.now in
    let m = moving_of c.args.from.now in
    let plan : Spot → Read Plan = λ s. reading (renaming_to h m to_dirs dirs (spot_of s)) cached held in
    let g : goes_through m to_dirs ≡ true = sym through ∙ c.if-through-2.true in
    let name : List ℕ = c.in-AtGap.name in
    refuses (plan c.args.spot.now) reply.Inval dirs
    (ap plan c.in-AtGap.is
    ∙ if_so (goes_through m to_dirs) (refused reply.Inval dirs) (moving_to h m c.in-AtGap.directory.number (stored c.in-AtGap.directory.inode) name dirs) cached held g)

pub returns-else-through-2-clause-comes : goal.returns-else-through-2-clause-comes
returns-else-through-2-clause-comes c to_dirs dirs through =
    let cached = c.args.hand.now.sectors.now.entries in
    let held = c.args.hand.now.held.now in
    let h = seen c.args.hand.now in
    let m = moving_of c.args.from.now in
    let plan : Spot → Read Plan = λ s. reading (renaming_to h m to_dirs dirs (spot_of s)) cached held in
    let g : goes_through m to_dirs ≡ false = sym through ∙ c.if-through-2.false in
    let name : List ℕ = c.in-AtGap.name in
    let p = moving_to h m c.in-AtGap.directory.number (stored c.in-AtGap.directory.inode) name dirs in
    comes_as (plan c.args.spot.now) (reading p cached held) c.move_to.result
    (ap plan c.in-AtGap.is ∙ if_not (goes_through m to_dirs) (refused reply.Inval dirs) p cached held g) (c.move_to.ensures.comes dirs)

pub returns-in-AtRoot-clause-comes : goal.returns-in-AtRoot-clause-comes
returns-in-AtRoot-clause-comes c to_dirs dirs through =
    let cached = c.args.hand.now.sectors.now.entries in
    let held = c.args.hand.now.held.now in
    let m = moving_of c.args.from.now in
    let plan : Spot → Read Plan = λ s. reading (renaming_to (seen c.args.hand.now) m to_dirs dirs (spot_of s)) cached held in
    refuses (plan c.args.spot.now) reply.Inval dirs (ap plan c.in-AtRoot.is)

pub returns-in-Lost-clause-comes : goal.returns-in-Lost-clause-comes
returns-in-Lost-clause-comes c to_dirs dirs through =
    let cached = c.args.hand.now.sectors.now.entries in
    let held = c.args.hand.now.held.now in
    let m = moving_of c.args.from.now in
    let plan : Spot → Read Plan = λ s. reading (renaming_to (seen c.args.hand.now) m to_dirs dirs (spot_of s)) cached held in
    refuses (plan c.args.spot.now) c.reply.result dirs (ap plan c.in-Lost.is ∙ ap (λ r. Gives (refuse r dirs)) (sym c.reply.ensures))

pub returns-then-through-clause-looks : goal.returns-then-through-clause-looks
returns-then-through-clause-looks c to_dirs dirs through m =
    let cached = c.args.hand.now.sectors.now.entries in
    let held = c.args.hand.now.held.now in
    let h = seen c.args.hand.now in
    let mv = moving_of c.args.from.now in
    let plan : Spot → List ℕ = λ s. examined (renaming_to h mv to_dirs dirs (spot_of s)) cached held in
    let q : Ask Plan = moving_onto mv c.in-AtName.directory.number (stored c.in-AtName.directory.inode) c.in-AtName.name c.in-AtName.found.place (entered c.in-AtName.found.entry) dirs in
    let g : goes_through mv to_dirs ≡ true = sym through ∙ c.if-through.true in
    adds_as _ _ [] _ (sym (ap plan c.in-AtName.is ∙ if_so_looks cached held (goes_through mv to_dirs) (refused reply.Inval dirs) q g)) (adds_none _)

pub returns-else-through-clause-looks : goal.returns-else-through-clause-looks
returns-else-through-clause-looks c to_dirs dirs through m =
    let cached = c.args.hand.now.sectors.now.entries in
    let held = c.args.hand.now.held.now in
    let h = seen c.args.hand.now in
    let mv = moving_of c.args.from.now in
    let plan : Spot → List ℕ = λ s. examined (renaming_to h mv to_dirs dirs (spot_of s)) cached held in
    let q : Ask Plan = moving_onto mv c.in-AtName.directory.number (stored c.in-AtName.directory.inode) c.in-AtName.name c.in-AtName.found.place (entered c.in-AtName.found.entry) dirs in
    let g : goes_through mv to_dirs ≡ false = sym through ∙ c.if-through.false in
    adds_as _ _ _ _ (sym (ap plan c.in-AtName.is ∙ if_not_looks cached held (goes_through mv to_dirs) (refused reply.Inval dirs) q g)) (c.move_onto.ensures.looks dirs m)

pub returns-then-through-2-clause-looks : goal.returns-then-through-2-clause-looks
returns-then-through-2-clause-looks c to_dirs dirs through m =
    let cached = c.args.hand.now.sectors.now.entries in
    let held = c.args.hand.now.held.now in
    let h = seen c.args.hand.now in
    let mv = moving_of c.args.from.now in
    let plan : Spot → List ℕ = λ s. examined (renaming_to h mv to_dirs dirs (spot_of s)) cached held in
    let q : Ask Plan = moving_to h mv c.in-AtGap.directory.number (stored c.in-AtGap.directory.inode) c.in-AtGap.name dirs in
    let g : goes_through mv to_dirs ≡ true = sym through ∙ c.if-through-2.true in
    adds_as _ _ [] _ (sym (ap plan c.in-AtGap.is ∙ if_so_looks cached held (goes_through mv to_dirs) (refused reply.Inval dirs) q g)) (adds_none _)

pub returns-else-through-2-clause-looks : goal.returns-else-through-2-clause-looks
returns-else-through-2-clause-looks c to_dirs dirs through m =
    let cached = c.args.hand.now.sectors.now.entries in
    let held = c.args.hand.now.held.now in
    let h = seen c.args.hand.now in
    let mv = moving_of c.args.from.now in
    let plan : Spot → List ℕ = λ s. examined (renaming_to h mv to_dirs dirs (spot_of s)) cached held in
    let q : Ask Plan = moving_to h mv c.in-AtGap.directory.number (stored c.in-AtGap.directory.inode) c.in-AtGap.name dirs in
    let g : goes_through mv to_dirs ≡ false = sym through ∙ c.if-through-2.false in
    adds_as _ _ _ _ (sym (ap plan c.in-AtGap.is ∙ if_not_looks cached held (goes_through mv to_dirs) (refused reply.Inval dirs) q g)) (c.move_to.ensures.looks dirs m)

pub returns-in-AtRoot-clause-looks : goal.returns-in-AtRoot-clause-looks
returns-in-AtRoot-clause-looks c to_dirs dirs through m =
    let cached = c.args.hand.now.sectors.now.entries in
    let held = c.args.hand.now.held.now in
    let h = seen c.args.hand.now in
    let mv = moving_of c.args.from.now in
    let plan : Spot → List ℕ = λ s. examined (renaming_to h mv to_dirs dirs (spot_of s)) cached held in
    adds_as _ _ [] _ (sym (ap plan c.in-AtRoot.is)) (adds_none _)

pub returns-in-Lost-clause-looks : goal.returns-in-Lost-clause-looks
returns-in-Lost-clause-looks c to_dirs dirs through m =
    let cached = c.args.hand.now.sectors.now.entries in
    let held = c.args.hand.now.held.now in
    let h = seen c.args.hand.now in
    let mv = moving_of c.args.from.now in
    let plan : Spot → List ℕ = λ s. examined (renaming_to h mv to_dirs dirs (spot_of s)) cached held in
    adds_as _ _ [] _ (sym (ap plan c.in-Lost.is)) (adds_none _)
