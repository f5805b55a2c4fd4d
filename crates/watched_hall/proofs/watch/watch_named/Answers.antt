-- What was read is of the record that the desk kept, and the last behind the close.
use Rattle.std.proofs.Common.{◌≡◌, ◌∙◌, ◌++◌, ◌∷◌, [], arith, ap, length, rules, sym, subst}
use Rattle.std.proofs.lemmas.Grind.{common_steps}
use Rattle.watched_hall.specs.Counting.{Counts}
use Rattle.watched_hall.specs.Desks.{IsDesk}
use Rattle.watched_hall.proofs.Finishes.{watched_over, watched_short}
use Rattle.watched_hall.proofs.watch.watch_named.Goals as goal

pub returns-in-Ok-what_came : goal.returns-in-Ok-what_came
returns-in-Ok-what_came g c =
    let hall = c.parts-hall.result.0 in
    let writer = c.parts-hall.result.1 in
    let reader = c.join-reader.result.1.0 in
    let last = c.close.result.0 in
    let desk = subst (λ p. IsDesk (Counts (g.M.Machine.stands p.0.world.machine) p.0.world.figures) g.N.Naming.outset p.0.over p.0.said (g.O.Outside.state p.0.out) p.1.figures) (sym c.parts-hall.ensures)
    c.shows.ensures.desk in
    let same : c.join-reader.result.1.1.items ≡ reader.figures = search rules in
    let count : length reader.figures ≡ c.args.reads = first_of (search rules, grind (arith, common_steps), cc) in
    watched_over (Counts (g.M.Machine.stands hall.world.machine) hall.world.figures) g.N.Naming.outset c.args.hall.over hall.over c.args.reads hall.said (g.O.Outside.state hall.out) writer.figures reader.figures
    c.push.new.self last c.in-Ok-what_came.finish desk c.close.ensures.own count (ap (λ p. p.0) c.close.ensures.last) (c.in-Ok.ensures.items ∙ ap (λ l. l ++ last ∷ []) same) c.in-Ok-what_came.ensures

pub returns-in-Err-what_came : goal.returns-in-Err-what_came
returns-in-Err-what_came g c =
    let hall = c.parts-hall.result.0 in
    let writer = c.parts-hall.result.1 in
    let desk = subst (λ p. IsDesk (Counts (g.M.Machine.stands p.0.world.machine) p.0.world.figures) g.N.Naming.outset p.0.over p.0.said (g.O.Outside.state p.0.out) p.1.figures) (sym c.parts-hall.ensures)
    c.shows.ensures.desk in
    watched_short (Counts (g.M.Machine.stands hall.world.machine) hall.world.figures) g.N.Naming.outset c.args.hall.over hall.over c.args.reads hall.said (g.O.Outside.state hall.out) writer.figures (record {}) desk
    c.in-Err-what_came.ensures
