-- By whether the directory is full, and by what is picked.
use Rattle.std.proofs.Common.{◌≡◌, true, false, ℕ, Some, None, Err, subst, sym, ◌∙◌, rules, [], refl}
use Rattle.frang_base.specs.declared.reply.Reply.TheVariants as reply
use Rattle.disk_definitions.specs.Picks.{picked_inode}
use Rattle.disk_definitions.specs.Store.{stored}
use Rattle.disk_definitions.specs.Ask.{bind}
use Rattle.disk_definitions.specs.Walks.{AtGap}
use Rattle.disk_definitions.specs.Plans.{find_room, is_full, none_left, shared_nodes}
use Rattle.disk_definitions.specs.NamePlans.{making, making_in, making_with}
use Rattle.dir_lookup.specs.Reading.{reading}
use Rattle.dir_lookup.specs.Hands.{seen}
use Rattle.plan_steps.proofs.Ending.{stops_as}
use Rattle.op_dir.specs.Places.{FindsPlace}
use Rattle.op_dir.proofs.Placing.{full, picking}
use Rattle.op_dir.proofs.Looking.{making_full, making_picks}
use Rattle.dir_lookup.proofs.Looking.{adds_as, adds_none}
use Rattle.plan_steps.proofs.Looking.{none_more, then_looks}
use Rattle.op_dir.proofs.making.place_for.Goals as goal

pub returns-then-is_full-clause-finds : goal.returns-then-is_full-clause-finds
returns-then-is_full-clause-finds c i birth name node dirs =
    let x = stored c.args.directory.now in
    let f : is_full x ≡ true = sym c.is_full.ensures ∙ c.if-is_full.true in
    (shared_nodes dirs, full c.args.hand.now.sectors.now.entries c.args.hand.now.held.now c.args.hand.now.all x i birth name node dirs f)

pub returns-in_err-room-in-Some-clause-finds : goal.returns-in_err-room-in-Some-clause-finds
returns-in_err-room-in-Some-clause-finds c =
    let cached = c.args.hand.now.sectors.now.entries in
    let held = c.args.hand.now.held.now in
    let h = seen c.args.hand.now in
    let x = stored c.args.directory.now in
    let j : ℕ = c.in-Some.inode in
    let f : is_full x ≡ false = sym c.is_full.ensures ∙ c.if-is_full.false in
    let p : picked_inode held ≡ Some j = sym c.pick_inode.ensures ∙ c.in-Some.is in
    let stop = c.in_err-room-in-Some.field-0.0 in
    let e : c.from_residual.result ≡ Err stop = search rules in
    subst (FindsPlace c.args.hand.now x) (sym e)
    (λ i birth name node dirs. stops_as (reading (making h birth node dirs (AtGap i x name)) cached held) (reading (bind (find_room h x) (making_in h i x name birth node dirs j)) cached held) stop
    (picking cached held c.args.hand.now.all x i birth name node dirs (Some j) f p) (c.in_err-room-in-Some.ensures.finds i birth name node dirs))

pub returns-in_ok-room-in-Some-clause-finds : goal.returns-in_ok-room-in-Some-clause-finds
returns-in_ok-room-in-Some-clause-finds c i birth name node dirs =
    let held = c.args.hand.now.held.now in
    let x = stored c.args.directory.now in
    let j : ℕ = c.in-Some.inode in
    let f : is_full x ≡ false = sym c.is_full.ensures ∙ c.if-is_full.false in
    let p : picked_inode held ≡ Some j = sym c.pick_inode.ensures ∙ c.in-Some.is in
    picking c.args.hand.now.sectors.now.entries held c.args.hand.now.all x i birth name node dirs (Some j) f p ∙ c.in_ok-room-in-Some.ensures.finds i birth name node dirs

pub returns-in-None-clause-finds : goal.returns-in-None-clause-finds
returns-in-None-clause-finds c i birth name node dirs =
    let cached = c.args.hand.now.sectors.now.entries in
    let held = c.args.hand.now.held.now in
    let h = seen c.args.hand.now in
    let x = stored c.args.directory.now in
    let f : is_full x ≡ false = sym c.is_full.ensures ∙ c.if-is_full.false in
    let p : picked_inode held ≡ None = sym c.pick_inode.ensures ∙ c.in-None.is in
    stops_as (reading (making h birth node dirs (AtGap i x name)) cached held) (reading (none_left h reply.NoInode dirs) cached held) c.nothing_left.result
    (picking cached held c.args.hand.now.all x i birth name node dirs None f p) (c.nothing_left.ensures dirs)

pub returns-then-is_full-clause-looks : goal.returns-then-is_full-clause-looks
returns-then-is_full-clause-looks c i birth name node dirs =
    let cached = c.args.hand.now.sectors.now.entries in
    let held = c.args.hand.now.held.now in
    let h = seen c.args.hand.now in
    let x = stored c.args.directory.now in
    let f : is_full x ≡ true = sym c.is_full.ensures ∙ c.if-is_full.true in
    adds_as _ _ [] _ (sym (making_full cached held c.args.hand.now.all x i birth name node dirs f)) (adds_none _)

pub returns-in_err-room-in-Some-clause-looks : goal.returns-in_err-room-in-Some-clause-looks
returns-in_err-room-in-Some-clause-looks c i birth name node dirs =
    let cached = c.args.hand.now.sectors.now.entries in
    let held = c.args.hand.now.held.now in
    let h = seen c.args.hand.now in
    let x = stored c.args.directory.now in
    let j : ℕ = c.in-Some.inode in
    let f : is_full x ≡ false = sym c.is_full.ensures ∙ c.if-is_full.false in
    let p : picked_inode held ≡ Some j = sym c.pick_inode.ensures ∙ c.in-Some.is in
    then_looks cached held (making h birth node dirs (AtGap i x name)) (making_with h i x name birth node dirs (Some j)) _ _ _ (making_picks cached held c.args.hand.now.all x i birth name node dirs (Some j) _ _ f p c.look_at_held.ensures) (c.in_err-room-in-Some.ensures.looks i birth name node dirs)

pub returns-in_ok-room-in-Some-clause-looks : goal.returns-in_ok-room-in-Some-clause-looks
returns-in_ok-room-in-Some-clause-looks c i birth name node dirs =
    let cached = c.args.hand.now.sectors.now.entries in
    let held = c.args.hand.now.held.now in
    let h = seen c.args.hand.now in
    let x = stored c.args.directory.now in
    let j : ℕ = c.in-Some.inode in
    let f : is_full x ≡ false = sym c.is_full.ensures ∙ c.if-is_full.false in
    let p : picked_inode held ≡ Some j = sym c.pick_inode.ensures ∙ c.in-Some.is in
    then_looks cached held (making h birth node dirs (AtGap i x name)) (making_with h i x name birth node dirs (Some j)) _ _ _ (making_picks cached held c.args.hand.now.all x i birth name node dirs (Some j) _ _ f p c.look_at_held.ensures) (c.in_ok-room-in-Some.ensures.looks i birth name node dirs)

pub returns-in-None-clause-looks : goal.returns-in-None-clause-looks
returns-in-None-clause-looks c i birth name node dirs =
    let cached = c.args.hand.now.sectors.now.entries in
    let held = c.args.hand.now.held.now in
    let h = seen c.args.hand.now in
    let x = stored c.args.directory.now in
    let f : is_full x ≡ false = sym c.is_full.ensures ∙ c.if-is_full.false in
    let p : picked_inode held ≡ None = sym c.pick_inode.ensures ∙ c.in-None.is in
    then_looks cached held (making h birth node dirs (AtGap i x name)) (making_with h i x name birth node dirs None) _ _ _ (making_picks cached held c.args.hand.now.all x i birth name node dirs None _ _ f p c.look_at_held.ensures) (none_more cached held (making_with h i x name birth node dirs None) _ refl)
