-- By where the path leads, by the kind of the node, and by whether the directory is empty.
use Rattle.std.proofs.Common.{◌≡◌, ◌∷◌, ◌++◌, [], ℕ, Err, subst, sym, ap, refl, ◌∙◌, rules, le-ltb, lt-ltb, nat_lt, List, Some, eq-eqb, ne_eqb, ◌==◌}
use Rattle.frang_base.specs.declared.reply.Reply.TheVariants as reply
use Rattle.disk_definitions.specs.Store.{stored}
use Rattle.disk_definitions.specs.Ask.{ReadInode, Ask}
use Rattle.disk_definitions.specs.Plans.{Plan, refuse, refused}
use Rattle.disk_definitions.specs.NamePlans.{fewer_segments, finish_over, removed_by, removing, removing_node}
use Rattle.dir_lookup.specs.Reading.{Read, Gives, reading}
use Rattle.dir_lookup.specs.declared.spot.Spot.{Spot}
use Rattle.dir_lookup.specs.Spots.{spot_of}
use Rattle.plan_steps.specs.Ends.{Comes}
use Rattle.plan_steps.proofs.Stopping.{of_another, of_kind}
use Rattle.plan_steps.proofs.Ending.{comes_as, node_read, node_stops, stops_as, refuses}
use Rattle.op_dir.proofs.Choosing.{if_not, if_so}
use Rattle.op_dir.proofs.Looking.{if_not_looks, if_so_looks}
use Rattle.dir_lookup.proofs.Looking.{adds_as, adds_none}
use Rattle.plan_steps.proofs.Looking.{looks_as, none_more, then_looks}
use Rattle.disk_definitions.specs.LookedAt.{examined}
use Rattle.op_dir.proofs.removing.remove_at.Goals as goal

pub returns-then-found-ne-KIND_DIRECTORY-clause-comes : goal.returns-then-found-ne-KIND_DIRECTORY-clause-comes
returns-then-found-ne-KIND_DIRECTORY-clause-comes c dirs =
    let cached = c.args.hand.now.sectors.now.entries in
    let held = c.args.hand.now.held.now in
    let plan : Spot → Read Plan = λ s. reading (removing dirs (spot_of s)) cached held in
    let j : ℕ = c.in-AtName.found.entry.inode in
    refuses (plan c.args.spot.now) reply.NotDir dirs
    (ap plan c.in-AtName.is
    ∙ of_another c.in-AtName.found.entry.kind 2 (ReadInode j (removing_node c.in-AtName.directory.number (stored c.in-AtName.directory.inode) c.in-AtName.found.place j dirs)) (refused reply.NotDir dirs) cached held c.if-found-ne-KIND_DIRECTORY.true)

pub returns-in_err-inode-in-AtName-clause-comes : goal.returns-in_err-inode-in-AtName-clause-comes
returns-in_err-inode-in-AtName-clause-comes c dirs =
    let cached = c.args.hand.now.sectors.now.entries in
    let held = c.args.hand.now.held.now in
    let plan : Spot → Read Plan = λ s. reading (removing dirs (spot_of s)) cached held in
    let j : ℕ = c.in-AtName.found.entry.inode in
    let f = removing_node c.in-AtName.directory.number (stored c.in-AtName.directory.inode) c.in-AtName.found.place j dirs in
    let stop = c.in_err-inode-in-AtName.field-0.0 in
    let e : c.from_residual.result ≡ Err stop = search rules in
    subst (Comes (plan c.args.spot.now)) (sym e)
    (stops_as (plan c.args.spot.now) (reading (ReadInode j f) cached held) stop
    (ap plan c.in-AtName.is ∙ of_kind c.in-AtName.found.entry.kind 2 (ReadInode j f) (refused reply.NotDir dirs) cached held c.if-found-ne-KIND_DIRECTORY.false)
    (node_stops cached held j dirs f refl stop (c.in_err-inode-in-AtName.ensures.finds held)))

pub returns-then-inode-gt0-clause-comes : goal.returns-then-inode-gt0-clause-comes
returns-then-inode-gt0-clause-comes c dirs =
    let cached = c.args.hand.now.sectors.now.entries in
    let held = c.args.hand.now.held.now in
    let plan : Spot → Read Plan = λ s. reading (removing dirs (spot_of s)) cached held in
    let j : ℕ = c.in-AtName.found.entry.inode in
    let i : ℕ = c.in-AtName.directory.number in
    let x = stored c.in-AtName.directory.inode in
    let q : ℕ = c.in-AtName.found.place in
    let y = stored c.in_ok-inode-in-AtName.inode in
    let f = removing_node i x q j dirs in
    refuses (plan c.args.spot.now) reply.NotEmpty (dirs ++ j ∷ [])
    (ap plan c.in-AtName.is
    ∙ of_kind c.in-AtName.found.entry.kind 2 (ReadInode j f) (refused reply.NotDir dirs) cached held c.if-found-ne-KIND_DIRECTORY.false
    ∙ node_read cached held j dirs f refl c.in_ok-inode-in-AtName.inode (c.in_ok-inode-in-AtName.ensures.finds held)
    ∙ if_so (nat_lt 0 y.size) (refused reply.NotEmpty (dirs ++ j ∷ [])) (finish_over (fewer_segments j y) (removed_by i x q j y dirs)) cached held (lt-ltb 0 y.size c.if-inode-gt0.true))

pub returns-else-inode-gt0-clause-comes : goal.returns-else-inode-gt0-clause-comes
returns-else-inode-gt0-clause-comes c dirs =
    let cached = c.args.hand.now.sectors.now.entries in
    let held = c.args.hand.now.held.now in
    let plan : Spot → Read Plan = λ s. reading (removing dirs (spot_of s)) cached held in
    let j : ℕ = c.in-AtName.found.entry.inode in
    let i : ℕ = c.in-AtName.directory.number in
    let x = stored c.in-AtName.directory.inode in
    let q : ℕ = c.in-AtName.found.place in
    let y = stored c.in_ok-inode-in-AtName.inode in
    let f = removing_node i x q j dirs in
    comes_as (plan c.args.spot.now) (reading (finish_over (fewer_segments j y) (removed_by i x q j y dirs)) cached held) c.remove.result
    (ap plan c.in-AtName.is
    ∙ of_kind c.in-AtName.found.entry.kind 2 (ReadInode j f) (refused reply.NotDir dirs) cached held c.if-found-ne-KIND_DIRECTORY.false
    ∙ node_read cached held j dirs f refl c.in_ok-inode-in-AtName.inode (c.in_ok-inode-in-AtName.ensures.finds held)
    ∙ if_not (nat_lt 0 y.size) (refused reply.NotEmpty (dirs ++ j ∷ [])) (finish_over (fewer_segments j y) (removed_by i x q j y dirs)) cached held (le-ltb 0 y.size c.if-inode-gt0.false))
    (c.remove.ensures.comes dirs)

pub returns-in-AtRoot-clause-comes : goal.returns-in-AtRoot-clause-comes
returns-in-AtRoot-clause-comes c dirs =
    let plan : Spot → Read Plan = λ s. reading (removing dirs (spot_of s)) c.args.hand.now.sectors.now.entries c.args.hand.now.held.now in
    refuses (plan c.args.spot.now) reply.Inval dirs (ap plan c.in-AtRoot.is)

pub returns-in-AtGap-clause-comes : goal.returns-in-AtGap-clause-comes
returns-in-AtGap-clause-comes c dirs =
    let plan : Spot → Read Plan = λ s. reading (removing dirs (spot_of s)) c.args.hand.now.sectors.now.entries c.args.hand.now.held.now in
    refuses (plan c.args.spot.now) reply.NoEnt dirs (ap plan c.in-AtGap.is)

pub returns-in-Lost-clause-comes : goal.returns-in-Lost-clause-comes
returns-in-Lost-clause-comes c dirs =
    let plan : Spot → Read Plan = λ s. reading (removing dirs (spot_of s)) c.args.hand.now.sectors.now.entries c.args.hand.now.held.now in
    refuses (plan c.args.spot.now) c.reply.result dirs (ap plan c.in-Lost.is ∙ ap (λ r. Gives (refuse r dirs)) (sym c.reply.ensures))

pub returns-then-found-ne-KIND_DIRECTORY-clause-looks : goal.returns-then-found-ne-KIND_DIRECTORY-clause-looks
returns-then-found-ne-KIND_DIRECTORY-clause-looks c dirs m =
    let cached = c.args.hand.now.sectors.now.entries in
    let held = c.args.hand.now.held.now in
    let plan : Spot → List ℕ = λ s. examined (removing dirs (spot_of s)) cached held in
    let j : ℕ = c.in-AtName.found.entry.inode in
    let i : ℕ = c.in-AtName.directory.number in
    let x = stored c.in-AtName.directory.inode in
    let q : ℕ = c.in-AtName.found.place in
    let f = removing_node i x q j dirs in
    adds_as _ _ [] _ (sym (ap plan c.in-AtName.is ∙ if_not_looks cached held (c.in-AtName.found.entry.kind == 2) (ReadInode j f) (refused reply.NotDir dirs) (ne_eqb c.in-AtName.found.entry.kind 2 c.if-found-ne-KIND_DIRECTORY.true))) (adds_none _)

pub returns-in_err-inode-in-AtName-clause-looks : goal.returns-in_err-inode-in-AtName-clause-looks
returns-in_err-inode-in-AtName-clause-looks c dirs m =
    let cached = c.args.hand.now.sectors.now.entries in
    let held = c.args.hand.now.held.now in
    let plan : Spot → List ℕ = λ s. examined (removing dirs (spot_of s)) cached held in
    let j : ℕ = c.in-AtName.found.entry.inode in
    let i : ℕ = c.in-AtName.directory.number in
    let x = stored c.in-AtName.directory.inode in
    let q : ℕ = c.in-AtName.found.place in
    let f = removing_node i x q j dirs in
    adds_as _ _ _ _ (sym (ap plan c.in-AtName.is ∙ if_so_looks cached held (c.in-AtName.found.entry.kind == 2) (ReadInode j f) (refused reply.NotDir dirs) (eq-eqb c.in-AtName.found.entry.kind 2 c.if-found-ne-KIND_DIRECTORY.false))) (c.in_err-inode-in-AtName.ensures.looks held f refl)

pub returns-then-inode-gt0-clause-looks : goal.returns-then-inode-gt0-clause-looks
returns-then-inode-gt0-clause-looks c dirs m =
    let cached = c.args.hand.now.sectors.now.entries in
    let held = c.args.hand.now.held.now in
    let plan : Spot → List ℕ = λ s. examined (removing dirs (spot_of s)) cached held in
    let j : ℕ = c.in-AtName.found.entry.inode in
    let i : ℕ = c.in-AtName.directory.number in
    let x = stored c.in-AtName.directory.inode in
    let q : ℕ = c.in-AtName.found.place in
    let f = removing_node i x q j dirs in
    let y = stored c.in_ok-inode-in-AtName.inode in
    let e : Ask Plan = refused reply.NotEmpty (dirs ++ j ∷ []) in
    let g : Ask Plan = finish_over (fewer_segments j y) (removed_by i x q j y dirs) in
    adds_as _ _ _ _ (sym (ap plan c.in-AtName.is ∙ if_so_looks cached held (c.in-AtName.found.entry.kind == 2) (ReadInode j f) (refused reply.NotDir dirs) (eq-eqb c.in-AtName.found.entry.kind 2 c.if-found-ne-KIND_DIRECTORY.false))) (then_looks cached held (ReadInode j f) (f (Some y)) _ _ _ (c.in_ok-inode-in-AtName.ensures.looks held f) (none_more cached held (f (Some y)) _ (if_so_looks cached held (nat_lt 0 y.size) e g (lt-ltb 0 y.size c.if-inode-gt0.true))))

pub returns-else-inode-gt0-clause-looks : goal.returns-else-inode-gt0-clause-looks
returns-else-inode-gt0-clause-looks c dirs m =
    let cached = c.args.hand.now.sectors.now.entries in
    let held = c.args.hand.now.held.now in
    let plan : Spot → List ℕ = λ s. examined (removing dirs (spot_of s)) cached held in
    let j : ℕ = c.in-AtName.found.entry.inode in
    let i : ℕ = c.in-AtName.directory.number in
    let x = stored c.in-AtName.directory.inode in
    let q : ℕ = c.in-AtName.found.place in
    let f = removing_node i x q j dirs in
    let y = stored c.in_ok-inode-in-AtName.inode in
    let e : Ask Plan = refused reply.NotEmpty (dirs ++ j ∷ []) in
    let g : Ask Plan = finish_over (fewer_segments j y) (removed_by i x q j y dirs) in
    adds_as _ _ _ _ (sym (ap plan c.in-AtName.is ∙ if_so_looks cached held (c.in-AtName.found.entry.kind == 2) (ReadInode j f) (refused reply.NotDir dirs) (eq-eqb c.in-AtName.found.entry.kind 2 c.if-found-ne-KIND_DIRECTORY.false))) (then_looks cached held (ReadInode j f) (f (Some y)) _ _ _ (c.in_ok-inode-in-AtName.ensures.looks held f) (looks_as cached held (f (Some y)) g _ _ (if_not_looks cached held (nat_lt 0 y.size) e g (le-ltb 0 y.size c.if-inode-gt0.false)) (c.remove.ensures.looks dirs m)))

pub returns-in-AtRoot-clause-looks : goal.returns-in-AtRoot-clause-looks
returns-in-AtRoot-clause-looks c dirs m =
    let cached = c.args.hand.now.sectors.now.entries in
    let held = c.args.hand.now.held.now in
    let plan : Spot → List ℕ = λ s. examined (removing dirs (spot_of s)) cached held in
    adds_as _ _ [] _ (sym (ap plan c.in-AtRoot.is)) (adds_none _)

pub returns-in-AtGap-clause-looks : goal.returns-in-AtGap-clause-looks
returns-in-AtGap-clause-looks c dirs m =
    let cached = c.args.hand.now.sectors.now.entries in
    let held = c.args.hand.now.held.now in
    let plan : Spot → List ℕ = λ s. examined (removing dirs (spot_of s)) cached held in
    adds_as _ _ [] _ (sym (ap plan c.in-AtGap.is)) (adds_none _)

pub returns-in-Lost-clause-looks : goal.returns-in-Lost-clause-looks
returns-in-Lost-clause-looks c dirs m =
    let cached = c.args.hand.now.sectors.now.entries in
    let held = c.args.hand.now.held.now in
    let plan : Spot → List ℕ = λ s. examined (removing dirs (spot_of s)) cached held in
    adds_as _ _ [] _ (sym (ap plan c.in-Lost.is)) (adds_none _)
