-- Each byte is the first of those that are left.
use Rattle.std.proofs.Common.{◌+◌, drop, ◌∙◌, subst, sym}
use Rattle.std.proofs.lemmas.List.{at_drop_more}
use Rattle.said_files.specs.Reading.{Fails, behind, saids_from}
use Rattle.said_files.proofs.reading.read_saids.Goals as goal

pub returns-in-Err : goal.returns-in-Err
returns-in-Err c =
    let bytes = c.args.bytes.now in
    let i = c.loop-byte.byte-index in
    let rest = at_drop_more (λ bs. behind c.loop-byte.saids.items (saids_from c.loop-byte.line c.loop-byte.text.items bs)) bytes i 0 c.loop-byte-test.true in
    subst (λ given. Fails given c.in-Err.fault) (sym rest ∙ c.loop-byte.invariant.rest) (c.in-Err.ensures.takes (drop (i + 1) bytes))
