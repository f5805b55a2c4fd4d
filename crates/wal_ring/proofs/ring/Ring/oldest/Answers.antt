-- What holds of each sector listed holds of each that is named.
use Rattle.std.proofs.Common.{◌≡◌, nat_le, [], fold, sym, ap, ◌∙◌}
use Rattle.std.specs.List.{filter}
use Rattle.std.proofs.lemmas.List.Folds.{list_all-map}
use Rattle.ring_definitions.specs.Rings.{oldest, oldest_end, oldest_versions, with_named}
use Rattle.wal_ring.proofs.NamedSectors.{all_listed, if_ok, listed_are_named}
use Rattle.wal_ring.proofs.ring.Ring.oldest.Goals as goal

pub returns-clause-named : goal.returns-clause-named
returns-clause-named c =
    let ring = c.args.self.now.ring in
    let versions : c.in_ok-versions.versions.entries ≡ oldest_versions ring =
    c.in_ok-versions.ensures ∙ (λ i. fold with_named [] (filter (λ x. nat_le x.first (c.oldest_end.ensures i)) (c.deref.ensures.value i)))
    ∙ ap (λ r. fold with_named [] (filter (λ x. nat_le x.first (oldest_end ring)) r.ring.named)) c.self.view_is in
    if_ok c.listed.result _ _
    (λ list are test. sym (list_all-map (λ entry. test entry.0) (λ entry. (entry.0.0, entry.1)) list.items) ∙ ap (all_listed test) (are ∙ versions) ∙ listed_are_named test (oldest ring))
    c.listed.ensures
