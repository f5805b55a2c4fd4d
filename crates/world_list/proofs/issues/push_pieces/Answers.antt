-- Those of one piece more.
use Rattle.std.proofs.Common.{◌++◌, ap, ◌∙◌}
use Rattle.std.specs.List.{flat_map}
use Rattle.std.specs.Map.{keys_of}
use Rattle.core_definitions.specs.Enabled.{only}
use Rattle.core_definitions.specs.Events.{Issue}
use Rattle.world_list.specs.Issuing.{may_write}
use Rattle.world_list.specs.Listing.{events_of}
use Rattle.world_list.specs.Wanting.{SectorSet}
use Rattle.world_list.proofs.IssuesListed.{piece_added}
use Rattle.world_list.proofs.issues.push_pieces.Goals as goal

pub loop-piece-preserved : goal.loop-piece-preserved
loop-piece-preserved c =
    piece_added (λ sector. only (may_write c.args.world.now c.args.asking.now sector) (Issue c.args.a.0 sector)) c.args.pieces.now c.loop-piece.piece-index c.piece-item.result c.loop-piece-test.true c.piece-item.is
    c.args.list.now.items c.loop-piece.list.items c.push_piece.new.list.items c.loop-piece.invariant
    (c.in_ok-push_piece.ensures
    ∙ ap (λ (p : SectorSet). events_of c.loop-piece.list.items ++ flat_map (λ sector. only (may_write c.args.world.now c.args.asking.now sector) (Issue c.args.a.0 sector)) (keys_of p)) c.entries.ensures)
