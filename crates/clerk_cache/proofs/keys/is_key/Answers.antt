-- A key that is equal is the same.
use Rattle.std.proofs.Common.{Some, sym, ap, ◌∙◌}
use Rattle.std.specs.Ordering.{is_eq}
use Rattle.clerk_cache.proofs.keys.is_key.Goals as goal

pub returns-in-Some : goal.returns-in-Some
returns-in-Some g c = λ equal. c.in-Some.is ∙ ap Some (c.requires.exact c.args.a c.in-Some.b (sym (c.is_eq.ensures ∙ ap is_eq c.cmp.ensures) ∙ equal))
