-- Put behind put, those that aren't the opening's passed over.
use Rattle.std.proofs.Common.{◌≡◌, ◌∙◌, [], ◌∷◌, true, ap, sym, subst}
use Rattle.std.specs.Prelude.{filter}
use Rattle.std.proofs.lemmas.Result.{err_from_is_err_and}
use Rattle.core_definitions.specs.Opening.{is_put}
use Rattle.opening.specs.Puts.{HasPut, PutSoFar, StopsAt}
use Rattle.opening.proofs.Putting.{none_so_far, one_more_put, one_refused}
use Rattle.opening.proofs.image.put_sectors.Goals as goal

pub loop-sector-init : goal.loop-sector-init
loop-sector-init g c =
    let before = g.O.Outside.state c.args.out.now in
    record {
      can = tt;
      ends = tt;
      so_far = subst (λ left. PutSoFar before before (filter is_put c.args.disk.now) (filter is_put left)) (sym (c.into_iter-sector-iterator.ensures.into_iter_gives.0 ∙ c.as_map-sector-items.ensures))
          (none_so_far before (filter is_put c.args.disk.now));
    }

pub loop-sector-preserved-in-Continue-1 : goal.loop-sector-preserved-in-Continue-1
loop-sector-preserved-in-Continue-1 g c =
    let before = g.O.Outside.state c.args.out.now in
    let now = g.O.Outside.state c.loop-sector.out in
    let after = g.O.Outside.state c.put_sector.new.out in
    let sector = c.in-Some.sector.now in
    let block = c.in-Some.block.now in
    let is : is_put (sector, block) ≡ true = ap (λ b. is_put (sector, b)) (sym c.get.ensures) ∙ sym c.is_put.ensures ∙ c.if-is_put.true in
    let has : HasPut now after ((sector, block) ∷ []) = subst (λ b. HasPut now after ((sector, b) ∷ [])) c.get-then-is_put.ensures c.in_ok-put_sector.ensures in
    record {
      can = tt;
      ends = tt;
      so_far =
          one_more_put before now (filter is_put c.args.disk.now) c.loop-sector.sector-iterator c.next.new.self sector block c.in-Some.ensures.steps c.loop-sector.invariant.so_far after is has;
    }

pub returns-in_err-put_sector : goal.returns-in_err-put_sector
returns-in_err-put_sector g c =
    let before = g.O.Outside.state c.args.out.now in
    let now = g.O.Outside.state c.loop-sector.out in
    let after = g.O.Outside.state c.put_sector.new.out in
    let sector = c.in-Some.sector.now in
    let block = c.in-Some.block.now in
    let is : is_put (sector, block) ≡ true = ap (λ b. is_put (sector, b)) (sym c.get.ensures) ∙ sym c.is_put.ensures ∙ c.if-is_put.true in
    let stops = subst (λ b. StopsAt now after ((sector, b) ∷ []) c.in_err-put_sector.field-0.0) c.get-then-is_put.ensures c.in_err-put_sector.ensures in
    let p = err_from_is_err_and c.from_residual.result c.from_residual.ensures.1 in
    rw (p.1, p.2)
    (one_refused before now (filter is_put c.args.disk.now) c.loop-sector.sector-iterator c.next.new.self sector block c.in-Some.ensures.steps c.loop-sector.invariant.so_far after
    c.in_err-put_sector.field-0.0 is stops)
