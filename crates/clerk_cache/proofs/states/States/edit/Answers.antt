-- What is there is put again, edited.
use Rattle.std.proofs.Common.{ℕ, if◌then◌else◌, is_some, sym, ap, ◌∙◌, arith}
use Rattle.sector_bytes.specs.SectorMaps.{with_value}
use Rattle.sector_bytes.proofs.MapLaws.{adjusted_nothing, with_value_there}
use Rattle.clerk_cache.proofs.states.States.edit.Goals as goal

pub put-requires : goal.put-requires
put-requires g c = omega (arith, ap {B = ℕ} (λ o. if is_some o then 0 else 1) (sym c.in-Some.ensures.value))

pub returns-in-Some-clause-entries : goal.returns-in-Some-clause-entries
returns-in-Some-clause-entries g c =
    c.put.ensures.entries ∙ ap (with_value c.args.self.now.entries c.args.sector.0) c.edit.ensures
    ∙ with_value_there (g.E.Edit.edited c.args.edit.now) c.args.self.now.entries c.args.sector.0 c.in-Some.state c.in-Some.ensures.ordered (sym c.in-Some.ensures.value)

pub returns-in-Some-clause-spare : goal.returns-in-Some-clause-spare
returns-in-Some-clause-spare g c = omega (arith, c.put.ensures.spare, ap {B = ℕ} (λ o. if is_some o then 0 else 1) (sym c.in-Some.ensures.value))

pub returns-in-None-clause-entries : goal.returns-in-None-clause-entries
returns-in-None-clause-entries g c = sym (adjusted_nothing (g.E.Edit.edited c.args.edit.now) c.args.self.now.entries c.args.sector.0 (sym c.in-None.ensures.value))
