-- The first slot that isn't read.
use Rattle.std.proofs.Common.{ℕ, List, sym, ap, ◌∙◌, subst}
use Rattle.std.specs.List.{slice_get}
use Rattle.core_definitions.specs.Cores.{Core}
use Rattle.core_definitions.specs.EndGuards.{CanLoad}
use Rattle.world_next.specs.Over.{core_over}
use Rattle.world_next.specs.Picking.{PicksBeside}
use Rattle.world_state.proofs.Recovering.{unread_is}
use Rattle.world_next.proofs.Recovering.{loads_first, no_load, no_load_without}
use Rattle.world_next.proofs.recoveries.load_event.Goals as goal

pub returns-in_err-demon : goal.returns-in_err-demon
returns-in_err-demon c = λ tree.
    let core : Core = core_over c.args.world.now tree in
    subst (PicksBeside core (λ (d : Core). (slot : ℕ) → CanLoad d c.args.by.0 slot → ⊥)) (sym c.from_residual.ensures) (no_load_without core c.args.by.0 (sym c.in_err-demon.ensures.is))

pub returns-in_err-slot : goal.returns-in_err-slot
returns-in_err-slot c = λ tree.
    let r = c.in_ok-demon.demon.now.recovery in
    let core : Core = core_over c.args.world.now tree in
    subst (PicksBeside core (λ (d : Core). (slot : ℕ) → CanLoad d c.args.by.0 slot → ⊥)) (sym c.from_residual-in_err-slot.ensures)
    (no_load core c.args.by.0 r (sym c.in_ok-demon.ensures.is) (ap (λ (xs : List ℕ). slice_get xs 0) (sym (unread_is r.slots)) ∙ sym c.in_err-slot.ensures))

pub returns : goal.returns
returns c = λ tree.
    let r = c.in_ok-demon.demon.now.recovery in
    loads_first (core_over c.args.world.now tree) c.args.by.0 r (sym c.in_ok-demon.ensures.is) c.in_ok-slot.slot (ap (λ (xs : List ℕ). slice_get xs 0) (sym (unread_is r.slots)) ∙ sym c.in_ok-slot.ensures)
