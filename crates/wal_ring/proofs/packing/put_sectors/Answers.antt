-- A sector more stands behind the others, and may wait.
use Rattle.std.proofs.Common.{◌≡◌, ℕ, ◌+◌, ◌-◌, ◌/◌, min, ◌≤◌, ◌++◌, inr, length, take, drop, refl, ap, ◌∙◌, arith}
use Rattle.std.specs.List.{list_all}
use Rattle.std.proofs.lemmas.Bool.Decides.{nat_tests}
use Rattle.std.proofs.lemmas.List.{length-drop}
use Rattle.ring_definitions.specs.Rings.{sectors_for, packed_sectors}
use Rattle.wal_ring.specs.Kept.{is_waiting}
use Rattle.wal_ring.proofs.WaitingSectors.{all_pushed, sectors_more}
use Rattle.wal_ring.proofs.packing.put_sectors.Goals as goal

count_more : (l b : ℕ) → 1 ≤ l → b ≡ l - min l 488 → (l + 487) / 488 ≡ 1 + (b + 487) / 488
count_more l b h e = omega arith

pub loop-rest-preserved : goal.loop-rest-preserved
loop-rest-preserved c =
    let before = c.loop-rest.waiting.items in
    let after = c.push_back.new.self.items in
    let x = c.packed_sector.result in
    let rest = c.loop-rest.rest.now in
    let piece = c.split_at.result.0.now in
    let behind = c.split_at.result.1.now in
    let some : 1 ≤ length rest = grind (arith, nat_tests, c.is_empty.ensures, c.loop-rest-test.true) in
    let first = c.split_at.ensures.front ∙ ap (λ n. take n rest) c.min.ensures in
    let second = c.split_at.ensures.back ∙ ap (λ n. drop n rest) c.min.ensures in
    let size : length behind ≡ length rest - min (length rest) 488 = ap length second ∙ length-drop (min (length rest) 488) rest in
    let count : sectors_for (length rest) ≡ 1 + sectors_for (length behind) = count_more (length rest) (length behind) some size in
    record {
      items = sectors_more c.loop-rest.number c.loop-rest.part rest piece behind before after (c.args.waiting.now.items ++ packed_sectors c.args.first c.args.part c.args.bytes.now) x some first second
          c.packed_sector.ensures.sector c.in-Ok.ensures.items c.loop-rest.invariant.items;
      fit = ap (list_all is_waiting) c.in-Ok.ensures.items ∙ all_pushed before x c.loop-rest.invariant.fit c.packed_sector.ensures.fits;
      len = omega (arith, count, c.in-Ok.ensures.len, c.loop-rest.invariant.len);
      numbers = omega (arith, count, c.loop-rest.invariant.numbers);
      low = omega (arith, c.loop-rest.invariant.low);
      part = inr refl;
      capacity = omega (arith, c.in-Ok.ensures.capacity, c.loop-rest.invariant.capacity);
    }
