-- The marks of the lines that have passed stay as many.
use Rattle.std.proofs.Common.{length, true, ap, ◌∙◌}
use Rattle.std.proofs.lemmas.List.{length-set}
use Rattle.script_places.proofs.places.Places.pass.Goals as goal

pub invariant_of-self : goal.invariant_of-self
invariant_of-self c =
    let was = c.self.invariant.0 in (
      record {
        ascending = was.ascending;
        marked = was.marked;
        passing = ap length c.mark.ensures ∙ length-set c.self.inside.passed.items c.args.number true ∙ was.passing;
        long = was.long;
        each = was.each;
        start = was.start;
      },
      c.self.invariant.1,
    )
