-- By whether it is held.
use Rattle.std.proofs.Common.{◌≡◌, ◌∷◌, [], true, false, cond, refl, sym, ap, ◌∙◌}
use Rattle.std.specs.Option.{option_copied}
use Rattle.disk_definitions.specs.Written.{is_held}
use Rattle.dir_lookup.proofs.Looking.{adds_as, adds_none}
use Rattle.plan_steps.specs.Looking.{segment_number}
use Rattle.plan_steps.proofs.AtHand.{held_by, not_held}
use Rattle.plan_steps.proofs.segments.segment_held.Goals as goal

pub returns-in-Some-clause-looks : goal.returns-in-Some-clause-looks
returns-in-Some-clause-looks c =
    let held = c.args.held.now in
    let t : is_held held c.args.k ≡ true = held_by held c.args.k _ (sym c.get.ensures ∙ ap option_copied c.in-Some.is) refl in
    adds_as _ _ _ _ (ap (λ s. s ∷ []) c.sector_of.ensures ∙ ap (λ b. cond b (segment_number c.args.k ∷ []) []) (sym t)) c.add.ensures

pub returns-in-None-clause-looks : goal.returns-in-None-clause-looks
returns-in-None-clause-looks c =
    let held = c.args.held.now in
    let t : is_held held c.args.k ≡ false = not_held held c.args.k (sym c.get.ensures ∙ ap option_copied c.in-None.is) in
    adds_as _ _ [] _ (ap (λ b. cond b (segment_number c.args.k ∷ []) []) (sym t)) (adds_none _)
