-- A number that has its flag was listed before.
use Rattle.std.proofs.Common.{◌≡◌, ◌*◌, ◌<◌, true, false, length, sym, ◌∙◌, ap, subst, rules}
use Rattle.std.proofs.lemmas.Bool.{not-false}
use Rattle.standing_laws.specs.Soundness.{large_at}
use Rattle.disk_reading.specs.Marks.{has_flag, IsBelow}
use Rattle.disk_reading.specs.Seen.{store_in}
use Rattle.disk_reading.proofs.Flags.{flags_met}
use Rattle.disk_reading.proofs.owners.flag_larges.Goals as goal

pub returns-then-not-flag-clause-no : goal.returns-then-not-flag-clause-no
returns-then-not-flag-clause-no c =
    let f = large_at (store_in c.args.segments c.args.disk.now) in
    let i = c.loop-i.i in
    let l : i < 64 * c.args.segments = search rules in
    let r : c.flag.result ≡ false = search rules in
    let b : IsBelow (length c.loop-i.flags) (f i) = subst (λ m. IsBelow m (f i)) (sym c.loop-i.invariant.long) (c.requires.below i l) in
    let h : has_flag c.loop-i.flags (f i) ≡ true = ap (has_flag c.loop-i.flags) (sym c.large_at.ensures) ∙ not-false (has_flag c.loop-i.flags c.large_at.result) (sym c.flag.ensures.new ∙ r) in
    λ e. flags_met f i (64 * c.args.segments) c.loop-i.flags c.loop-i.invariant.are b l h
