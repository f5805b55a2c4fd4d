-- What the lines said tell is what is kept and legal on the tree's side.
use Rattle.std.proofs.Common.{subst}
use Rattle.tree_definitions.specs.Removal as trees
use Rattle.stop_laws.proofs.LinesStop.{stops_leave_what_lines_tell}
use Rattle.kept_laws.specs.Lines.{WhatLinesTellIsKept}
use Rattle.kept_laws.proofs.Along.{moments_keep, stops_keep}
use Rattle.kept_laws.proofs.Legal.{moments_legal, stops_legal}

pub lines_keep : WhatLinesTellIsKept
lines_keep segments when opening numbers w greatest h script run saids m shown logs are told =
    let left = stops_leave_what_lines_tell script run saids w greatest h are told in
    record {
      live_kept = subst (trees.Keeps opening) told (moments_keep segments when opening numbers w h m);
      live_legal = subst (trees.IsLegal opening) told (moments_legal segments when opening numbers w h m shown);
      left_kept = subst (trees.Keeps opening) left (stops_keep segments when opening numbers w greatest h m logs);
      left_legal = subst (trees.IsLegal opening) left (stops_legal segments when opening numbers w greatest h m shown logs);
    }
