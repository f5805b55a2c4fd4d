-- A row over all parties is that of the servers, one after the other, and then that of the host.
use Rattle.std.proofs.Common.{◌≡◌, ℕ, List, [], ◌∷◌, ◌++◌, ap, ◌∙◌}
use Rattle.std.specs.List.{flat_map}
use Rattle.std.proofs.lemmas.Grind.{flat_map-append}
use Rattle.std.proofs.lemmas.List.{append-nil}
use Rattle.std.proofs.lemmas.List.Folds.{flat_map-map}
use Rattle.tree_definitions.specs.Numbers.{below}
use Rattle.core_definitions.specs.Cores.{Core, parties}
use Rattle.core_definitions.specs.Enabled.{Party, all_parties, party_of}
use Rattle.core_definitions.specs.Events.{Event}
use Rattle.core_definitions.specs.Scripts.{host_party}

pub over_parties : (f : ℕ → List Event) → flat_map f parties ≡ flat_map f (below 16) ++ f host_party
over_parties f = flat_map-append f (below 16) (host_party ∷ []) ∙ ap (λ es. flat_map f (below 16) ++ es) (append-nil (f host_party))

pub over_all : (c : Core) (f : Party → List Event) → flat_map f (all_parties c) ≡ flat_map (λ a. f (party_of c a)) (below 16) ++ f (party_of c host_party)
over_all c f = flat_map-map f (party_of c) parties ∙ over_parties (λ a. f (party_of c a))
