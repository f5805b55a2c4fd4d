-- One server after the other is made anew.
use Rattle.std.proofs.Common.{length, sym, ap, ◌∙◌, arith}
use Rattle.std.proofs.lemmas.List.{length-map}
use Rattle.known_locks.specs.Beside.{again, renewed, claims_kept}
use Rattle.known_locks.proofs.ClerkLists.{made_all}
use Rattle.known_locks.proofs.clerks.Clerks.renew_all.Goals as goal

pub returns : goal.returns
returns c = made_all (λ t list. renewed (again c.args.table.now.locks t) list) c.args.self.now.claims _ c.loop-server.server
    (ap (λ kept. length kept.claims) (sym c.self.view_is) ∙ length-map c.self.inside.clerks claims_kept ∙ c.self.invariant) (omega arith) c.loop-server.invariant
