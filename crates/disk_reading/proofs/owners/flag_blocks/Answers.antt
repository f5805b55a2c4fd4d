-- A number that has its flag was listed before.
use Rattle.std.proofs.Common.{◌≡◌, ◌*◌, ◌<◌, true, false, length, sym, ◌∙◌, ap, subst, rules}
use Rattle.std.proofs.lemmas.Bool.{not-false}
use Rattle.standing_laws.specs.Soundness.{block_at}
use Rattle.disk_reading.specs.Marks.{has_flag, IsBelow}
use Rattle.disk_reading.specs.Seen.{store_in}
use Rattle.disk_reading.proofs.Flags.{flags_met}
use Rattle.disk_reading.proofs.owners.flag_blocks.Goals as goal

pub returns-then-not-flag-clause-no : goal.returns-then-not-flag-clause-no
returns-then-not-flag-clause-no c =
    let f = block_at (store_in c.args.segments c.args.disk.now) in
    let t = c.loop-t.t in
    let l : t < 1024 * c.args.segments = search rules in
    let r : c.flag.result ≡ false = search rules in
    let b : IsBelow (length c.loop-t.flags) (f t) = subst (λ m. IsBelow m (f t)) (sym c.loop-t.invariant.long) (c.requires.below t l) in
    let h : has_flag c.loop-t.flags (f t) ≡ true = ap (has_flag c.loop-t.flags) (sym c.block_at.ensures) ∙ not-false (has_flag c.loop-t.flags c.block_at.result) (sym c.flag.ensures.new ∙ r) in
    λ e. flags_met f t (1024 * c.args.segments) c.loop-t.flags c.loop-t.invariant.are b l h
