-- A line is kept behind the puts that are answered.
use Rattle.std.proofs.Common.{rules, ◌≡◌, [], ◌∷◌, ◌++◌}
use Rattle.quiet_outside.proofs.Passing.{line_keeps, line_over}
use Rattle.quiet_outside.proofs.quiet.QuietOutside.say.Goals as goal

pub invariant_of-self-2 : goal.invariant_of-self-2
invariant_of-self-2 g c =
    let lines : c.push_reserved.new.self.items ≡ c.self.inside.lines.items ++ c.args.line.now ∷ [] = search rules in
    let befores : c.push_reserved-2.new.self.items ≡ c.self.inside.befores.items ++ c.self.inside.puts ∷ [] = search rules in
    rw (lines, befores)
    (line_keeps (g.O.Outside.state c.self.inside.out) c.self.inside.befores.items c.self.inside.lines.items c.self.inside.puts c.self.inside.fail_at c.self.inside.failed c.args.line.now c.self.invariant)

pub returns-clause-outcome : goal.returns-clause-outcome
returns-clause-outcome g c =
    let lines : c.push_reserved.new.self.items ≡ c.self.inside.lines.items ++ c.args.line.now ∷ [] = search rules in
    let befores : c.push_reserved-2.new.self.items ≡ c.self.inside.befores.items ++ c.self.inside.puts ∷ [] = search rules in
    rw (← c.self.view_is, lines, befores)
    (line_over (g.O.Outside.state c.self.inside.out) c.self.inside.befores.items c.self.inside.lines.items c.self.inside.puts c.self.inside.fail_at c.self.inside.failed c.args.line.now tt c.self.invariant)
