-- What is found at the sector's place is its value.
use Rattle.std.proofs.Common.{get_or, sym, ap, ◌∙◌, Some, arith}
use Rattle.std.specs.Ordering.{nat_cmp}
use Rattle.sorted_entries.specs.Places.{place_of}
use Rattle.sorted_entries.proofs.Places.{place_found}
use Rattle.meta_version.proofs.SectorPlaces.{sectors}
use Rattle.meta_version.proofs.sector_map.SectorMap.get.Goals as goal

pub index-requires : goal.index-requires
index-requires g c = omega (arith, (place_found sectors c.args.sector.0 _ c.in-Ok.at (ap (λ map. place_of nat_cmp c.args.sector.0 map.entries) c.self.view_is ∙ sym c.in-Ok.ensures.place)).inside, c.self.inside.entries.ok.0)

pub returns-in-Ok : goal.returns-in-Ok
returns-in-Ok g c =
    let place = place_found sectors c.args.sector.0 c.args.self.now.entries c.in-Ok.at (sym c.in-Ok.ensures.place) in
    let d = c.index.result.now in
    ap (λ entry. Some entry.1) c.index.ensures ∙ ap (λ map. Some (get_or map.entries c.in-Ok.at d).1) c.self.view_is ∙ sym (place.value d)
