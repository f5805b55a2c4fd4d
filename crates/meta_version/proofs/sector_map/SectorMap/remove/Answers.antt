-- The entry at the sector's place is taken out, and where there is none nothing is.
use Rattle.std.proofs.Common.{sym, ap, ◌∙◌, subst, arith}
use Rattle.sector_bytes.specs.SectorMaps.{Ascend, without}
use Rattle.sector_bytes.proofs.MapLaws.{ascend_without, removed_nothing}
use Rattle.std.specs.Ordering.{nat_cmp}
use Rattle.sorted_entries.specs.Places.{place_of}
use Rattle.sorted_entries.proofs.Places.{place_found}
use Rattle.meta_version.proofs.SectorPlaces.{sectors}
use Rattle.meta_version.proofs.sector_map.SectorMap.remove.Goals as goal

pub remove-requires : goal.remove-requires
remove-requires g c = omega (arith, (place_found sectors c.args.sector.0 _ c.in-Ok.at (ap (λ map. place_of nat_cmp c.args.sector.0 map.entries) c.self.view_is ∙ sym c.in-Ok.ensures.place)).inside, c.self.inside.entries.ok.0)

pub invariant_of-self : goal.invariant_of-self
invariant_of-self g c =
    let place = place_found sectors c.args.sector.0 _ c.in-Ok.at (ap (λ map. place_of nat_cmp c.args.sector.0 map.entries) c.self.view_is ∙ sym c.in-Ok.ensures.place) in
    subst Ascend (sym (c.remove.ensures.items ∙ place.removes)) (ascend_without c.args.sector.0 _ c.self.invariant)

pub returns-in-Ok-clause-entries : goal.returns-in-Ok-clause-entries
returns-in-Ok-clause-entries g c =
    let place = place_found sectors c.args.sector.0 _ c.in-Ok.at (ap (λ map. place_of nat_cmp c.args.sector.0 map.entries) c.self.view_is ∙ sym c.in-Ok.ensures.place) in
    c.remove.ensures.items ∙ place.removes ∙ ap (λ map. without map.entries c.args.sector.0) c.self.view_is

pub returns-in_default-clause-entries : goal.returns-in_default-clause-entries
returns-in_default-clause-entries g c = sym (removed_nothing c.args.self.now.entries c.args.sector.0 c.in_default.ensures.missing)
