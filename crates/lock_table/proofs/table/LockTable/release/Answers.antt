-- What is left is the state of a lock table again, and nobody is asked for more.
use Rattle.std.proofs.Common.{◌≡◌, ℕ, IsSome, set, sym, ap, ◌∙◌, subst, arith}
use Rattle.std.proofs.lemmas.List.{get_or-set_same}
use Rattle.std.specs.Map.{lookup}
use Rattle.lock_definitions.specs.Order.{is_lock}
use Rattle.lock_definitions.specs.Locks.{no_claim, held, AreLocks}
use Rattle.lock_definitions.specs.Calls.{given_up, released}
use Rattle.lock_definitions.proofs.States.{AreLocks-released}
use Rattle.lock_table.specs.Asked.{asked_by, claim_by, growth}
use Rattle.lock_table.specs.Kept.{Entries}
use Rattle.lock_table.specs.Table.{locks_of, HasRoom}
use Rattle.lock_table.proofs.Claiming.{growth-given_up}
use Rattle.lock_table.proofs.Viewing.{held_place, changed_is, replaced_keeps}
use Rattle.lock_table.proofs.table.LockTable.release.Goals as goal

pub claimed-claimed-requires : goal.claimed-claimed-requires
claimed-claimed-requires c = (held_place c.self.inside.claims.entries c.self.invariant.ordered c.self.inside.logs c.args.server.0 c.args.lock (subst (λ table. IsSome (held table.locks c.args.server.0 c.args.lock)) (sym c.self.view_is) c.requires)).1

pub change-requires-clause-server : goal.change-requires-clause-server
change-requires-clause-server c = (held_place c.self.inside.claims.entries c.self.invariant.ordered c.self.inside.logs c.args.server.0 c.args.lock (subst (λ table. IsSome (held table.locks c.args.server.0 c.args.lock)) (sym c.self.view_is) c.requires)).0

-- nobody is asked for more
no_more : (c : goal.After-change-arg-2-1) (server : ℕ) → growth (asked_by server c.claimed-claimed.result) (asked_by server (set c.claimed-claimed.result c.args.server.0 c.given_up-claim.result)) ≡ 0
no_more c server =
    let place = held_place c.self.inside.claims.entries c.self.invariant.ordered c.self.inside.logs c.args.server.0 c.args.lock (subst (λ table. IsSome (held table.locks c.args.server.0 c.args.lock)) (sym c.self.view_is) c.requires) in
    let claim = c.given_up-claim.ensures ∙ ap given_up c.claim.ensures.claim in
    let own = get_or-set_same c.claimed-claimed.result c.args.server.0 (given_up (claim_by c.args.server.0 c.claimed-claimed.result)) no_claim (omega (arith, place.0, c.claimed-claimed.ensures.long)) in
    ap (λ made. growth (asked_by server c.claimed-claimed.result) (asked_by server (set c.claimed-claimed.result c.args.server.0 made))) claim ∙ growth-given_up c.args.server.0 c.claimed-claimed.result own server

pub change-requires-clause-room : goal.change-requires-clause-room
change-requires-clause-room c = λ server below. omega (arith, no_more c server)

no_more_after : (c : goal.After-change) (server : ℕ) → growth (asked_by server c.claimed-claimed.result) (asked_by server (set c.claimed-claimed.result c.args.server.0 c.given_up-claim.result)) ≡ 0
no_more_after c = no_more c.before

left : (c : goal.After-change) → locks_of c.change.new.self.entries c.self.inside.logs ≡ released (locks_of c.self.inside.claims.entries c.self.inside.logs) c.args.server.0 c.args.lock
left c =
    let place = held_place c.self.inside.claims.entries c.self.invariant.ordered c.self.inside.logs c.args.server.0 c.args.lock (subst (λ table. IsSome (held table.locks c.args.server.0 c.args.lock)) (sym c.self.view_is) c.requires) in
    ap (λ (entries : Entries). locks_of entries c.self.inside.logs) c.change.ensures.entries
    ∙ changed_is c.self.inside.claims.entries c.self.invariant.ordered c.self.inside.logs c.self.inside.reserved c.args.server.0 c.args.lock c.claimed-claimed.result c.given_up-claim.result given_up place.0 c.claimed-claimed.ensures.claims c.change.ensures.own
    (c.given_up-claim.ensures ∙ ap given_up c.claim.ensures.claim)

pub invariant_of-self : goal.invariant_of-self
invariant_of-self c = record {
  ordered = c.change.ensures.ordered;
  locks = subst AreLocks (sym (left c)) (AreLocks-released (locks_of c.self.inside.claims.entries c.self.inside.logs) c.self.invariant.locks c.args.server.0 c.args.lock);
  place = λ lock some. subst (λ (entries : Entries). IsSome (lookup (is_lock lock) entries)) (sym c.change.ensures.entries)
      (replaced_keeps c.self.inside.claims.entries c.self.invariant.ordered c.self.inside.reserved c.args.lock lock (set c.claimed-claimed.result c.args.server.0 c.given_up-claim.result) some (c.self.invariant.place lock some));
}

pub returns-clause-locks : goal.returns-clause-locks
returns-clause-locks c = left c ∙ ap (λ table. released table.locks c.args.server.0 c.args.lock) c.self.view_is

pub returns-clause-room : goal.returns-clause-room
returns-clause-room c = λ server lock had.
    let old = subst (λ table. HasRoom table server lock) (sym c.self.view_is) had in
    (old.0, λ t below. omega (arith, old.1 t below, c.change.ensures.room t, no_more_after c t))
