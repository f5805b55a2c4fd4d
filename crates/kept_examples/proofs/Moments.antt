-- The run that meets what the laws on stops ask meets what these ask too.
use Rattle.std.proofs.Common.{refl}
use Rattle.tree_definitions.specs.Tree.{fresh}
use Rattle.stop_laws.specs.TwoServers.{at_zero}
use Rattle.stop_examples.specs.Looks.{happened, none_recorded, numbers}
use Rattle.stop_examples.proofs.Meets.{a_run_meets_all}
use Rattle.kept_laws.specs.Moments.{IsMoment, IsShownFrom}
use Rattle.kept_laws.proofs.Along.{moments_keep, stops_keep}
use Rattle.kept_laws.proofs.Legal.{moments_legal, stops_legal}
use Rattle.kept_examples.specs.Moments.{AMomentMeetsAll, opening_on}

pub a_moment_meets : AMomentMeetsAll
a_moment_meets =
    let w = a_run_meets_all.0 in
    let meets = a_run_meets_all.1.meets in
    let moment : IsMoment 1 at_zero (fresh 1) numbers w happened = record {
      times = meets.times;
      stands = meets.stands;
      follows = meets.follows;
      legal = meets.legal;
      distinct = meets.distinct;
      good = meets.good;
      sight = meets.sight;
      told = meets.told;
      paired = meets.paired;
      synced = meets.synced;
    } in
    let shown : IsShownFrom 1 at_zero (opening_on w) w happened = record { said = meets.said; knows = meets.knows; counted = refl } in (
      w,
      record {
        moment = moment;
        shown = shown;
        logs = meets.logs;
        keeps = moments_keep 1 at_zero (opening_on w) numbers w happened moment;
        legal = moments_legal 1 at_zero (opening_on w) numbers w happened moment shown;
        keeps_left = stops_keep 1 at_zero (opening_on w) numbers w none_recorded happened moment meets.logs;
        legal_left = stops_legal 1 at_zero (opening_on w) numbers w none_recorded happened moment shown meets.logs;
      },
    )
