-- Where its line waits, the room is what the oldest records name.
use Rattle.std.proofs.Common.{◌≡◌, true, not, ◌&&◌, sym, ap, ◌∙◌}
use Rattle.std.specs.List.{list_all}
use Rattle.cache_definitions.specs.Caches.{is_dirty_at}
use Rattle.server_issues.specs.Issuing.{Issuing}
use Rattle.server_issues.proofs.Reclaiming.{of_sectors, reclaim_is}
use Rattle.server_issues.proofs.issuer.Issuer.may_reclaim.Goals as goal

pub returns-then-self : goal.returns-then-self
returns-then-self c = λ core is.
    let i = c.args.self.now in
    let waits : i.waits ≡ true = ap (λ (j : Issuing). j.waits) (sym c.self.view_is) ∙ c.if-self.true in
    c.are_clean.ensures ∙ of_sectors (λ s. not (is_dirty_at c.self.inside.server.now.server.cache s)) c.self.inside.room.now
    ∙ ap (λ (j : Issuing). list_all (λ s. not (is_dirty_at j.server.server.cache s)) j.room) c.self.view_is
    ∙ sym (ap (λ b. b && list_all (λ s. not (is_dirty_at i.server.server.cache s)) i.room) waits) ∙ reclaim_is core i is
