-- The first sector that isn't looked at.
use Rattle.std.proofs.Common.{◌≡◌, ℕ, List, sym, ap, ◌∙◌, subst}
use Rattle.std.specs.List.{slice_get}
use Rattle.core_definitions.specs.Cores.{Core}
use Rattle.core_definitions.specs.EndGuards.{CanLook}
use Rattle.core_definitions.specs.Recoveries.{to_look}
use Rattle.core_definitions.specs.Settings.{disk_logs}
use Rattle.recovery_demon.specs.Recovering.{looks_wanted}
use Rattle.world_next.specs.Over.{core_over}
use Rattle.world_next.specs.Picking.{PicksBeside}
use Rattle.world_state.proofs.Recovering.{looks_are}
use Rattle.world_next.proofs.Recovering.{looks_first, no_look, no_look_without}
use Rattle.world_next.proofs.recoveries.look_event.Goals as goal

pub first_look-requires : goal.first_look-requires
first_look-requires c = c.in_ok-demon.ensures.fresh c.requires

pub returns-in_err-demon : goal.returns-in_err-demon
returns-in_err-demon c = λ tree.
    let core : Core = core_over c.args.world.now tree in
    subst (PicksBeside core (λ (d : Core). (sector : ℕ) → CanLook d c.args.by.0 sector → ⊥)) (sym c.from_residual.ensures) (no_look_without core c.args.by.0 (sym c.in_err-demon.ensures.is))

pub returns-in_err-sector : goal.returns-in_err-sector
returns-in_err-sector c = λ tree.
    let s = c.args.world.now in
    let demon = c.in_ok-demon.demon.now in
    let same : to_look disk_logs s.parties.segments demon.recovery ≡ looks_wanted demon.segments demon.recovery =
    ap (λ (n : ℕ). to_look disk_logs n demon.recovery) (sym c.in_ok-demon.ensures.disk) ∙ sym (looks_are demon.segments demon.recovery) in
    let core : Core = core_over s tree in
    subst (PicksBeside core (λ (d : Core). (sector : ℕ) → CanLook d c.args.by.0 sector → ⊥)) (sym c.from_residual-in_err-sector.ensures)
    (no_look core c.args.by.0 demon.recovery (sym c.in_ok-demon.ensures.is) (ap (λ (xs : List ℕ). slice_get xs 0) same ∙ sym c.in_err-sector.ensures))

pub returns : goal.returns
returns c = λ tree.
    let s = c.args.world.now in
    let demon = c.in_ok-demon.demon.now in
    let same : to_look disk_logs s.parties.segments demon.recovery ≡ looks_wanted demon.segments demon.recovery =
    ap (λ (n : ℕ). to_look disk_logs n demon.recovery) (sym c.in_ok-demon.ensures.disk) ∙ sym (looks_are demon.segments demon.recovery) in
    looks_first (core_over s tree) c.args.by.0 demon.recovery (sym c.in_ok-demon.ensures.is) c.in_ok-sector.sector.0 (ap (λ (xs : List ℕ). slice_get xs 0) same ∙ sym c.in_ok-sector.ensures)
