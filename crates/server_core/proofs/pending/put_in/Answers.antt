-- Each sector is put among them in turn.
use Rattle.std.proofs.Common.{◌+◌, drop, get_or, sym, ap, ◌∙◌, arith}
use Rattle.std.proofs.lemmas.List.{drop_all, drop_more}
use Rattle.std.specs.Map.{keys_of}
use Rattle.clerk_cache.specs.Dropping.{numbers_of}
use Rattle.server_core.proofs.Kept.{room_most}
use Rattle.server_core.proofs.PendingSectors.{all_put, more_pending}
use Rattle.server_core.proofs.pending.put_in.Goals as goal

pub loop-sector-preserved : goal.loop-sector-preserved
loop-sector-preserved c =
    let i = c.loop-sector.sector-index in
    let sectors = c.args.sectors.now in
    let one = drop_more sectors i (record { 0 = 0 }) c.loop-sector-test.true in
    record {
      left = ap (λ entries. all_put entries (numbers_of (drop (i + 1) sectors))) c.put.ensures.entries
          ∙ sym (ap (λ rest. all_put c.loop-sector.pending.entries (numbers_of rest)) one) ∙ c.loop-sector.invariant.left;
      spare = omega (arith, c.put.ensures.spare, room_most c.loop-sector.pending.entries (get_or sectors i (record { 0 = 0 })).0, c.loop-sector.invariant.spare);
    }

pub returns-clause-sectors : goal.returns-clause-sectors
returns-clause-sectors c =
    ap (λ rest. keys_of (all_put c.loop-sector.pending.entries (numbers_of rest))) (sym (drop_all c.loop-sector.sector-index c.args.sectors.now (omega arith)))
    ∙ ap keys_of c.loop-sector.invariant.left ∙ more_pending c.args.pending.now.entries (numbers_of c.args.sectors.now) c.count-count.ensures.ordered
