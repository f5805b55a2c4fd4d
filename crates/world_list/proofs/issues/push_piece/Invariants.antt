-- What is listed, and then those left.
use Rattle.std.proofs.Common.{◌≡◌, ◌++◌, drop}
use Rattle.std.specs.List.{flat_map}
use Rattle.std.specs.Map.{keys_of}
use Rattle.core_definitions.specs.Enabled.{only}
use Rattle.core_definitions.specs.Events.{Issue}
use Rattle.world_list.specs.Issuing.{may_write}
use Rattle.world_list.specs.Listing.{events_of}
use Rattle.world_list.proofs.issues.push_piece.Given as goal

abbrev pub invariant-loop-number : goal.invariant-loop-number
invariant-loop-number l =
    events_of l.list.items ++ flat_map (λ sector. only (may_write l.world l.asking sector) (Issue l.a.0 sector)) (keys_of (drop l.number-index l.piece))
    ≡ events_of l.fn.list.items ++ flat_map (λ sector. only (may_write l.world l.asking sector) (Issue l.a.0 sector)) (keys_of l.piece)
