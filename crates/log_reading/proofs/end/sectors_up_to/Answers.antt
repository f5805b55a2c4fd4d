-- The sectors of the numbers so far, and of all.
use Rattle.std.proofs.Common.{◌≡◌, ◌+◌, ◌-◌, sym, ap, ◌∙◌, arith}
use Rattle.std.specs.List.{filter_map}
use Rattle.log_reading.specs.Decoded.{sector_with, sectors_up_to}
use Rattle.log_reading.proofs.Steps.{none_more, one_read}
use Rattle.log_reading.proofs.Windows.{all_read, none_read, numbers_from}
use Rattle.log_reading.proofs.end.sectors_up_to.Goals as goal
use Rattle.log_reading.proofs.end.sectors_up_to.Goals.{in-Some+in_ok-push, in_default}

pub returns-then-end-eq0 : goal.returns-then-end-eq0
returns-then-end-eq0 c = c.new-read.ensures.items ∙ none_read c.args.sectors.now ∙ ap (sectors_up_to c.args.sectors.now) (sym c.if-end-eq0.true)

pub loop-k-preserved : goal.loop-k-preserved
loop-k-preserved c =
    let sectors = c.args.sectors.now in
    let n = c.loop-k.k in
    let number = c.saturating_sub.result + n in
    let is : number ≡ c.args.end - 191 + n = omega (arith, c.saturating_sub.ensures) in
    elim c.match-sector_numbered.branch [
      | in-Some+in_ok-push w ↦
          one_read sectors c.args.end n number c.sector_numbered.result w.in-Some.sector c.loop-k.read.items c.match-sector_numbered.read.items is c.sector_numbered.ensures c.loop-k.invariant w.in-Some.is (ap (λ v. v.items) w.read-is ∙ w.in_ok-push.ensures.items)
      | in_default w ↦ ap (λ v. v.items) w.read-is ∙ none_more sectors c.args.end n number c.sector_numbered.result c.loop-k.read.items is c.sector_numbered.ensures c.loop-k.invariant w.in_default.is
    ]

pub returns : goal.returns
returns c =
    let sectors = c.args.sectors.now in
    let end = c.args.end in
    let all : c.loop-k.k ≡ 192 = omega (arith, c.loop-k-test.false, c.loop-k.auto.k-end) in
    c.loop-k.invariant ∙ ap (λ n. filter_map (sector_with sectors) (numbers_from end n)) all ∙ all_read sectors end (omega (arith, c.if-end-eq0.false))
