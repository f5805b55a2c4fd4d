-- By where the second path leads.
use Rattle.std.proofs.Common.{◌≡◌, ◌==◌, ◌&&◌, ◌++◌, ℕ, List, Err, subst, sym, ap, ◌∙◌, rules}
use Rattle.disk_definitions.specs.Ask.{Ask, bind}
use Rattle.disk_definitions.specs.Walks.{Spot, walk}
use Rattle.disk_definitions.specs.Plans.{Plan}
use Rattle.disk_definitions.specs.NamePlans.{goes_through, renaming_to}
use Rattle.dir_lookup.specs.Reading.{reading}
use Rattle.dir_lookup.specs.Spots.{spot_of}
use Rattle.plan_steps.specs.declared.stop.Stop.TheVariants as stop
use Rattle.plan_steps.specs.Ends.{Comes}
use Rattle.dir_lookup.specs.Hands.{seen}
use Rattle.plan_steps.proofs.Ending.{comes_as}
use Rattle.op_dir.specs.Moving.{moving_of}
use Rattle.plan_steps.proofs.Looking.{then_looks}
use Rattle.op_dir.proofs.renaming.rename_named.Goals as goal

pub returns-in_err-spot-clause-comes : goal.returns-in_err-spot-clause-comes
returns-in_err-spot-clause-comes c dirs =
    let cached = c.args.hand.now.sectors.now.entries in
    let held = c.args.hand.now.held.now in
    let h = seen c.args.hand.now in
    let m = moving_of c.args.from.now in
    let next : List ℕ → Spot → Ask Plan = λ more s. renaming_to h m more (dirs ++ more) s in
    let need = c.in_err-spot.field-0.0 in
    let e : c.from_residual.result ≡ Err (stop.Need need.0) = search rules in
    subst (Comes (reading (bind (walk c.args.to.now) (λ w. next w.dirs w.spot)) cached held)) (sym e) (c.in_err-spot.ensures.finds held next)

pub returns-clause-comes : goal.returns-clause-comes
returns-clause-comes c dirs =
    let cached = c.args.hand.now.sectors.now.entries in
    let held = c.args.hand.now.held.now in
    let h = seen c.args.hand.now in
    let m = moving_of c.args.from.now in
    let next : List ℕ → Spot → Ask Plan = λ more s. renaming_to h m more (dirs ++ more) s in
    let f = c.in_ok-spot.ensures.finds held in
    let g : c.moves_through-through.result ≡ goes_through m f.0 = c.moves_through-through.ensures ∙ ap (λ b. (m.entry.kind == 2) && b) f.1 in
    comes_as (reading (bind (walk c.args.to.now) (λ w. next w.dirs w.spot)) cached held) (reading (next f.0 (spot_of c.in_ok-spot.spot)) cached held) c.rename_to.result
    (f.2 next) (c.rename_to.ensures.comes f.0 (dirs ++ f.0) g)

pub returns-in_err-spot-clause-looks : goal.returns-in_err-spot-clause-looks
returns-in_err-spot-clause-looks c dirs m =
    let cached = c.args.hand.now.sectors.now.entries in
    let held = c.args.hand.now.held.now in
    let h = seen c.args.hand.now in
    let mv = moving_of c.args.from.now in
    let next : List ℕ → Spot → Ask Plan = λ more s. renaming_to h mv more (dirs ++ more) s in
    c.in_err-spot.ensures.looks held next

pub returns-clause-looks : goal.returns-clause-looks
returns-clause-looks c dirs m =
    let cached = c.args.hand.now.sectors.now.entries in
    let held = c.args.hand.now.held.now in
    let h = seen c.args.hand.now in
    let mv = moving_of c.args.from.now in
    let next : List ℕ → Spot → Ask Plan = λ more s. renaming_to h mv more (dirs ++ more) s in
    let t = c.in_ok-spot.ensures.looks held in
    let g : c.moves_through-through.result ≡ goes_through mv t.0 = c.moves_through-through.ensures ∙ ap (λ b. (mv.entry.kind == 2) && b) t.1 in
    then_looks cached held (bind (walk c.args.to.now) (λ w. next w.dirs w.spot)) (next t.0 (spot_of c.in_ok-spot.spot)) _ _ _ (t.2 next) (c.rename_to.ensures.looks t.0 (dirs ++ t.0) g m)
