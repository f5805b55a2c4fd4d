-- The writes go in from the last number on.
use Rattle.std.proofs.Common.{◌≡◌, ℕ, ◌+◌, ◌-◌, sym, ap, ◌∙◌, subst, arith}
use Rattle.sector_bytes.specs.SectorMaps.{value_at}
use Rattle.recovery_demon.specs.Rules.{later_from}
use Rattle.recovery_demon.proofs.SealWrites.{later_is, later_none, later_put}
use Rattle.recovery_demon.proofs.seals.later_seals.Goals as goal

pub loop-left-init : goal.loop-left-init
loop-left-init c = record {
  few = omega arith;
  room = omega (arith, c.in_ok-reserve.ensures.ok);
  kept = λ sector. ap (λ es. value_at es sector) (c.in_ok-reserve.ensures.entries ∙ c.new-seals.ensures.entries) ∙ sym (ap (λ ws. value_at ws sector) (later_none 63 c.args.dead.0 c.args.end));
}

pub loop-left-preserved : goal.loop-left-preserved
loop-left-preserved c =
    let left = c.loop-left.left in
    let es = c.loop-left.seals.entries in
    let same : left ≡ (left - 1) + 1 = omega arith in
    let kept = subst (λ (n : ℕ). (sector : ℕ) → value_at es sector ≡ value_at (later_from 63 n c.args.dead.0 c.args.end) sector) same c.loop-left.invariant.kept in
    record {
      few = omega arith;
      room = omega (arith, c.put_seal.ensures.spare);
      kept = λ sector. ap (λ new. value_at new sector) c.put_seal.ensures.entries ∙ later_put c.args.dead.0 c.args.end (left - 1) (c.args.end + 2 + (left - 1)) es (omega arith) (omega arith) kept sector;
    }

pub returns-clause-later : goal.returns-clause-later
returns-clause-later c =
    let none : c.loop-left.left ≡ 0 = omega arith in
    λ sector. c.loop-left.invariant.kept sector ∙ ap (λ n. value_at (later_from 63 n c.args.dead.0 c.args.end) sector) none ∙ ap (λ ws. value_at ws sector) (later_is c.args.dead.0 c.args.end)
