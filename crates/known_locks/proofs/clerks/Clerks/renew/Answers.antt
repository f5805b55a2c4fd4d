-- One server's claims are made anew.
use Rattle.std.proofs.Common.{◌<◌, [], length, map, set, get_or, sym, ap, ◌∙◌, arith}
use Rattle.known_locks.specs.Beside.{again, renewed, claims_kept}
use Rattle.known_locks.proofs.ClerkLists.{claims_before, claims_after}
use Rattle.known_locks.proofs.clerks.Clerks.renew.Goals as goal

pub returns : goal.returns
returns c =
    let s = c.args.server.0 in
    let lists = c.self.inside.clerks in
    let inside : s < length lists = omega (arith, c.requires, c.self.invariant) in
    claims_after lists s inside c.renew.new.self
    ∙ ap (set (map claims_kept lists) s) (c.renew.ensures.claims ∙ ap (renewed (again c.args.table.now.locks s)) (sym (claims_before lists s inside c.index-self-server.result)))
    ∙ ap (λ kept. set kept.claims s (renewed (again c.args.table.now.locks s) (get_or kept.claims s []))) c.self.view_is
