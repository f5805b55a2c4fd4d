-- Each of the numbers stands, or one doesn't.
use Rattle.std.proofs.Common.{◌≡◌, ◌+◌, ◌-◌, sym, ap, ◌∙◌, arith}
use Rattle.std.specs.List.{list_all}
use Rattle.std.specs.Option.{is_some}
use Rattle.log_reading.specs.Decoded.{sector_with}
use Rattle.log_reading.proofs.Steps.{not_there}
use Rattle.log_reading.proofs.Windows.{full, low, not_full, numbers_from}
use Rattle.log_reading.proofs.end.is_full.Goals as goal

pub returns-then-end : goal.returns-then-end
returns-then-end c = low c.args.sectors.now c.args.end (omega (arith, c.if-end.true))

pub returns-then-is_none : goal.returns-then-is_none
returns-then-is_none c =
    let lacks = not_there c.args.sectors.now (c.args.end - 191 + c.loop-k.k) c.sector_numbered.result c.is_none.result c.sector_numbered.ensures c.is_none.ensures c.if-is_none.true in
    not_full c.args.sectors.now c.args.end c.loop-k.k (omega (arith, c.if-end.false)) c.loop-k-test.true lacks

pub returns : goal.returns
returns c =
    let sectors = c.args.sectors.now in
    let end = c.args.end in
    let all : c.loop-k.k ≡ 192 = omega (arith, c.loop-k-test.false, c.loop-k.auto.k-end) in
    full sectors end (omega (arith, c.if-end.false)) (ap (λ n. list_all (λ m. is_some (sector_with sectors m)) (numbers_from end n)) (sym all) ∙ c.loop-k.invariant)
