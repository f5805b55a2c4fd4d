use Rattle.std.proofs.Common.{◌+◌, ◌-◌, sym, ap, ◌∙◌, arith}
use Rattle.image_file.specs.Images.{Blocks, entries_in}
use Rattle.image_file.specs.Entries.{behind, entry_of}
use Rattle.image_file.proofs.ReadingEntries.{flaw_turn, next_turn, shorter}
use Rattle.image_file.proofs.read.read_entries.Goals as goal

pub returns-in-Some-entry_flaw : goal.returns-in-Some-entry_flaw
returns-in-Some-entry_flaw c =
    rw c.refusal-in-Some-entry_flaw.ensures
    (flaw_turn c.loop-left.disk c.args.segments c.loop-left.last c.loop-left.at c.loop-left.left c.loop-left.rest.now (entry_of c.in-Some.entry) c.in-Some.after.now c.in-Some-entry_flaw.flaw _
    c.loop-left.invariant.read (omega arith) (sym c.in-Some.ensures) (sym c.in-Some-entry_flaw.ensures))

pub loop-left-preserved : goal.loop-left-preserved
loop-left-preserved c = record {
  read = ap (λ (xs : Blocks). behind xs (entries_in c.args.segments c.in-Some.entry.sector (c.loop-left.at + 520) (c.loop-left.left - 1) c.in-Some.after.now)) c.in_ok-add_last.ensures.ok
      ∙ next_turn c.loop-left.disk c.args.segments c.loop-left.last c.loop-left.at c.loop-left.left c.loop-left.rest.now (entry_of c.in-Some.entry) c.in-Some.after.now _
      c.loop-left.invariant.read (omega arith) (sym c.in-Some.ensures) (sym c.in_default-entry_flaw.ensures);
  ends = c.in_ok-add_last.ensures.ends;
  fits = let n = shorter c.loop-left.rest.now (entry_of c.in-Some.entry) c.in-Some.after.now (sym c.in-Some.ensures) in omega (arith, c.loop-left.invariant.fits);
}

pub loop-left-smaller : goal.loop-left-smaller
loop-left-smaller c =
    let n = shorter c.loop-left.rest.now (entry_of c.in-Some.entry) c.in-Some.after.now (sym c.in-Some.ensures) in omega arith
