-- The closure compares an entry's sector, and the slice is the map's entries.
use Rattle.std.proofs.Common.{rules, sym, subst, ap, ◌∙◌}
use Rattle.std.proofs.lemmas.Fn.{always_returns_same}
use Rattle.std.specs.Ordering.{nat_cmp}
use Rattle.sector_bytes.specs.SectorMaps.{Ascend}
use Rattle.sorted_entries.specs.Places.{place_of}
use Rattle.sorted_entries.proofs.Spots.{searched, missing}
use Rattle.meta_version.proofs.SectorPlaces.{sectors}
use Rattle.meta_version.proofs.sector_map.SectorMap.place.Goals as goal

pub returns-clause-place : goal.returns-clause-place
returns-clause-place g c =
    let facts = c.binary_search_by.ensures in
    let by_key = facts.position (λ entry. nat_cmp entry.0 c.args.sector.0) (always_returns_same _ _ _ (λ a r f called. search rules)) in
    searched sectors.total c.args.sector.0 c.deref.result.now (subst Ascend (sym c.deref.ensures.value) c.self.invariant) _ facts.bound by_key
    ∙ ap (place_of nat_cmp c.args.sector.0) c.deref.ensures.value ∙ ap (λ map. place_of nat_cmp c.args.sector.0 map.entries) c.self.view_is

pub returns-clause-missing : goal.returns-clause-missing
returns-clause-missing g c =
    let place = returns-clause-place g c in
    missing sectors.total c.args.sector.0 c.args.self.now.entries (subst (λ map. Ascend map.entries) c.self.view_is c.self.invariant) _ place
