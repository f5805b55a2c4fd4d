-- The value is written at the sector's place, or goes into the gap.
use Rattle.std.proofs.Common.{sym, ap, ◌∙◌, subst, arith}
use Rattle.sector_bytes.specs.SectorMaps.{Ascend, with_value}
use Rattle.sector_bytes.proofs.MapLaws.{ascend_with}
use Rattle.std.specs.Ordering.{nat_cmp}
use Rattle.sorted_entries.specs.Places.{place_of}
use Rattle.sorted_entries.proofs.Places.{place_found}
use Rattle.sorted_entries.proofs.Spots.{place_missed}
use Rattle.meta_version.proofs.SectorPlaces.{sectors, room_there}
use Rattle.meta_version.proofs.sector_map.SectorMap.put.Goals as goal

pub index_mut-requires : goal.index_mut-requires
index_mut-requires g c = omega (arith, (place_found sectors c.args.sector.0 _ c.in-Ok.at (ap (λ map. place_of nat_cmp c.args.sector.0 map.entries) c.self.view_is ∙ sym c.in-Ok.ensures.place)).inside, c.self.inside.entries.ok.0)

pub invariant_of-self : goal.invariant_of-self
invariant_of-self g c =
    let place = place_found sectors c.args.sector.0 _ c.in-Ok.at (ap (λ map. place_of nat_cmp c.args.sector.0 map.entries) c.self.view_is ∙ sym c.in-Ok.ensures.place) in
    subst Ascend (sym (place.writes c.args.value)) (ascend_with c.args.sector.0 c.args.value _ c.self.invariant)

pub insert-requires : goal.insert-requires
insert-requires g c = omega (arith, (place_missed sectors.total c.args.sector.0 _ c.in-Err.at (ap (λ map. place_of nat_cmp c.args.sector.0 map.entries) c.self.view_is ∙ sym c.in-Err.ensures.place)).inside, c.self.inside.entries.ok.0)

pub invariant_of-self-in-Ok-insert : goal.invariant_of-self-in-Ok-insert
invariant_of-self-in-Ok-insert g c =
    let gap = place_missed sectors.total c.args.sector.0 _ c.in-Err.at (ap (λ map. place_of nat_cmp c.args.sector.0 map.entries) c.self.view_is ∙ sym c.in-Err.ensures.place) in
    subst Ascend (sym (c.in-Ok-insert.ensures.items ∙ gap.writes c.args.value)) (ascend_with c.args.sector.0 c.args.value _ c.self.invariant)

pub returns-in-Ok-clause-entries : goal.returns-in-Ok-clause-entries
returns-in-Ok-clause-entries g c =
    let place = place_found sectors c.args.sector.0 _ c.in-Ok.at (ap (λ map. place_of nat_cmp c.args.sector.0 map.entries) c.self.view_is ∙ sym c.in-Ok.ensures.place) in
    place.writes c.args.value ∙ ap (λ map. with_value map.entries c.args.sector.0 c.args.value) c.self.view_is

pub returns-in-Ok-clause-spare : goal.returns-in-Ok-clause-spare
returns-in-Ok-clause-spare g c =
    let place = place_found sectors c.args.sector.0 c.args.self.now.entries c.in-Ok.at (sym c.in-Ok.ensures.place) in
    let none = room_there c.args.sector.0 c.args.self.now.entries c.in-Ok.at (c.args.sector.0, c.args.value) place in
    let spare = ap (λ map. map.spare) c.self.view_is in
    omega (arith, none, spare)

pub returns-in-Ok-insert-clause-entries : goal.returns-in-Ok-insert-clause-entries
returns-in-Ok-insert-clause-entries g c =
    let gap = place_missed sectors.total c.args.sector.0 _ c.in-Err.at (ap (λ map. place_of nat_cmp c.args.sector.0 map.entries) c.self.view_is ∙ sym c.in-Err.ensures.place) in
    c.in-Ok-insert.ensures.items ∙ gap.writes c.args.value ∙ ap (λ map. with_value map.entries c.args.sector.0 c.args.value) c.self.view_is
