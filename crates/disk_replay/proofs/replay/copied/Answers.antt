-- Sector by sector, in their order.
use Rattle.std.proofs.Common.{◌≡◌, sym, ap, ◌∙◌, subst}
use Rattle.std.specs.BTreeMap.{insert_entry}
use Rattle.std.specs.List.Sorted.{IsStrictlySortedBy}
use Rattle.std.specs.Map.{keys_of}
use Rattle.std.specs.Ordering.{nat_cmp}
use Rattle.disk_replay.proofs.Copied.{IsCopying, all_copied, none_copied, one_copied}
use Rattle.disk_replay.proofs.replay.copied.Goals as goal

pub loop-sector-init : goal.loop-sector-init
loop-sector-init c =
    let entries = c.into_iter-sector-iterator.ensures.into_iter_gives in
    record {
      can = tt;
      ends = tt;
      copying = none_copied c.args.disk.now c.into_iter-sector-iterator.result c.new-copy.result (entries.0 ∙ c.as_map-sector-items.ensures) c.new-copy.ensures
          (subst (λ es. IsStrictlySortedBy nat_cmp (keys_of es)) c.as_map-sector-items.ensures entries.5);
    }

pub loop-sector-preserved : goal.loop-sector-preserved
loop-sector-preserved c =
    let k = c.in-Some.sector.now in
    let block = c.in-Some.block.now in
    let h = subst (λ left. IsCopying c.args.disk.now left c.loop-sector.copy) c.in-Some.ensures.steps c.loop-sector.invariant.copying in
    let set : c.set.new.self ≡ insert_entry nat_cmp c.loop-sector.copy k block = c.in_ok-set.ensures.ok ∙ ap (insert_entry nat_cmp c.loop-sector.copy k) c.get.ensures in
    record {
      can = tt;
      ends = tt;
      copying = subst (IsCopying c.args.disk.now c.next.new.self) (sym set) (one_copied c.args.disk.now c.next.new.self c.loop-sector.copy k block h);
    }

pub returns : goal.returns
returns c = all_copied c.args.disk.now c.loop-sector.copy (subst (λ left. IsCopying c.args.disk.now left c.loop-sector.copy) c.in-None.ensures.steps.0 c.loop-sector.invariant.copying)
