-- One slot more in each turn, up to 256.
use Rattle.std.proofs.Common.{◌≡◌, [], ◌∷◌, ◌++◌, map, sym, ap, ◌∙◌, arith}
use Rattle.std.specs.Prelude.{slice_index_or}
use Rattle.tree_definitions.specs.Numbers.{below}
use Rattle.disk_definitions.specs.LogSectors.{log_sector_in}
use Rattle.log_reading.specs.Decoded.{decoded}
use Rattle.log_reading.proofs.Windows.{map_more}
use Rattle.log_reading.proofs.read.sectors_of.Goals as goal

pub loop-slot-preserved : goal.loop-slot-preserved
loop-slot-preserved c =
    let slots = c.args.slots.now in
    let n = c.loop-slot.slot in
    c.in_ok-push.ensures.items ∙ ap (λ o. c.loop-slot.sectors.items ++ o ∷ []) c.sector_read.ensures.value ∙ ap (λ os. os ++ log_sector_in n (slice_index_or slots n []) ∷ []) c.loop-slot.invariant
    ∙ sym (map_more (λ slot. log_sector_in slot (slice_index_or slots slot [])) n)

pub returns-clause-all : goal.returns-clause-all
unfolding decoded
returns-clause-all c =
    let slots = c.args.slots.now in
    let all : c.loop-slot.slot ≡ 256 = omega (arith, c.loop-slot-test.false, c.loop-slot.auto.slot-end) in
    c.loop-slot.invariant ∙ ap (λ n. map (λ slot. log_sector_in slot (slice_index_or slots slot [])) (below n)) all
