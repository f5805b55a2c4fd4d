-- A stop of all servers leaves the tree of the history with the recoveries of all logs, where cells are known.
use Rattle.std.proofs.Common.{◌+◌, List, sym, ◌∙◌, ap, subst}
use Rattle.std.specs.List.Sorted.{IsStrictlySortedBy}
use Rattle.std.specs.Ordering.{nat_cmp}
use Rattle.tree_definitions.specs.History.{after_all}
use Rattle.tree_definitions.specs.Touched.{shape_of, shaped}
use Rattle.tree_definitions.specs.Tree.{FileTree}
use Rattle.tree_definitions.specs.WellFormed.{IsWellFormed, names_in, one_at}
use Rattle.tree_laws.proofs.Changes.{same_dir, same_links}
use Rattle.tree_laws.proofs.ShapeKeeping.{well_shape, names_stay}
use Rattle.tree_laws.proofs.ShapeNodes.{count_stays, found, keys_stay}
use Rattle.sector_world.specs.Plans.{Legal}
use Rattle.sector_world.specs.Claims.{replayed}
use Rattle.sector_world.specs.Trees.{Distinct, tree_of}
use Rattle.disk_definitions.specs.Standing.{StandsFor}
use Rattle.line_histories.specs.LinePlans.{sector_plan}
use Rattle.line_histories.specs.Trees.{MayNumber, performed}
use Rattle.line_histories.proofs.Runs.{histories_of_one_tree}
use Rattle.byte_trees.specs.Deeds.{Deed, items, tree_after}
use Rattle.stop_laws.specs.Along.{HasShape}
use Rattle.stop_laws.proofs.Stops.{stop_known}
use Rattle.stop_laws.specs.Happened.{settle}
use Rattle.stop_laws.specs.Settling.{stopped}
use Rattle.stop_laws.specs.SettledStop.{StopsLeaveTheTree}
use Rattle.stop_laws.proofs.Lines.{shapes_follow}
use Rattle.stop_laws.proofs.Stopping.{IsStopped, stopped_alike}

well_by_shape : (t : FileTree) → IsWellFormed (shape_of t) → IsWellFormed t
well_by_shape t well = record {
  births = subst (IsStrictlySortedBy nat_cmp) (keys_stay t) well.births;
  names = λ dir entries blocks is. well.names dir entries blocks (found t dir ∙ ap shaped is);
  rooted = sym (same_dir t 0) ∙ well.rooted;
  links = λ b. sym (ap (λ k. k + one_at 0 b) (count_stays (names_in b) t (names_stay b))) ∙ well.links b ∙ same_links t b;
}

pub stops_leave_the_tree : StopsLeaveTheTree
stops_leave_the_tree segments when first numbers w greatest h times begins legal distinct good follows parameters told paired logs knows =
    subst (StandsFor (replayed w w.servers)) (ap (after_all first) end.alike.tree)
    (stop_known segments when first numbers w deeds times begins legal distinct good follows parameters end.alike.sectors well shape knows)
  where
    end : IsStopped when first numbers w greatest h
    end = stopped_alike segments when times first numbers w greatest h begins legal distinct good told paired logs

    deeds : List Deed
    deeds = settle first (stopped w greatest w.servers h)

    legal_then : Legal (sector_plan segments when) w.opening (items deeds)
    legal_then = subst (Legal (sector_plan segments when) w.opening) (sym end.alike.sectors) legal.left

    distinct_then : Distinct (MayNumber numbers) first (items deeds)
    distinct_then = subst (Distinct (MayNumber numbers) first) (sym end.alike.sectors) end.distinct

    shape : HasShape when first deeds
    shape = shapes_follow segments when w.opening first numbers deeds times begins legal_then distinct_then end.lines

    well : IsWellFormed (tree_after first deeds)
    well =
        well_by_shape (tree_after first deeds)
        (subst IsWellFormed (sym shape)
        (well_shape (tree_of (performed when) first (items deeds)) (histories_of_one_tree segments when w.opening first numbers (items deeds) times begins legal_then distinct_then).stands.well_formed))
