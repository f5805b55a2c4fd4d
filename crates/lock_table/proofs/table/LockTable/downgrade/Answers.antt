-- What is left is the state of a lock table again, and nobody is asked for more.
use Rattle.std.proofs.Common.{◌≡◌, ℕ, Some, IsSome, set, unwrap_or, refl, sym, ap, ◌∙◌, subst, arith}
use Rattle.std.proofs.lemmas.List.{get_or-set_same}
use Rattle.std.specs.Map.{lookup}
use Rattle.frang_base.specs.declared.lock.Mode.TheVariants.{Sole}
use Rattle.lock_definitions.specs.Order.{is_lock}
use Rattle.lock_definitions.specs.Locks.{no_claim, held, AreLocks}
use Rattle.lock_definitions.specs.Calls.{shared, downgraded}
use Rattle.lock_definitions.proofs.States.{AreLocks-downgraded}
use Rattle.lock_table.specs.Asked.{unclaimed, asked_by, claim_by, growth}
use Rattle.lock_table.specs.Kept.{Entries}
use Rattle.lock_table.specs.Table.{locks_of, HasRoom}
use Rattle.lock_table.proofs.Claiming.{growth-downgraded}
use Rattle.lock_table.proofs.Viewing.{claim_of_is, held_place, changed_is, replaced_keeps}
use Rattle.lock_table.proofs.table.LockTable.downgrade.Goals as goal

pub claimed-claimed-requires : goal.claimed-claimed-requires
claimed-claimed-requires c = (held_place c.self.inside.claims.entries c.self.invariant.ordered c.self.inside.logs c.args.server.0 c.args.lock (subst (λ table. IsSome (held table.locks c.args.server.0 c.args.lock)) (sym c.self.view_is) (subst IsSome (sym c.requires) refl))).1

pub change-requires-clause-server : goal.change-requires-clause-server
change-requires-clause-server c = (held_place c.self.inside.claims.entries c.self.invariant.ordered c.self.inside.logs c.args.server.0 c.args.lock (subst (λ table. IsSome (held table.locks c.args.server.0 c.args.lock)) (sym c.self.view_is) (subst IsSome (sym c.requires) refl))).0

-- nobody is asked for more
no_more : (c : goal.After-change-arg-2-1) (server : ℕ) → growth (asked_by server c.claimed-claimed.result) (asked_by server (set c.claimed-claimed.result c.args.server.0 c.shared-claim.result)) ≡ 0
no_more c server =
    let place = held_place c.self.inside.claims.entries c.self.invariant.ordered c.self.inside.logs c.args.server.0 c.args.lock (subst (λ table. IsSome (held table.locks c.args.server.0 c.args.lock)) (sym c.self.view_is) (subst IsSome (sym c.requires) refl)) in
    let claim = c.shared-claim.ensures ∙ ap shared c.claim.ensures.claim in
    let own = get_or-set_same c.claimed-claimed.result c.args.server.0 (shared (claim_by c.args.server.0 c.claimed-claimed.result)) no_claim (omega (arith, place.0, c.claimed-claimed.ensures.long)) in
    let sole : (claim_by c.args.server.0 c.claimed-claimed.result).held ≡ Some Sole
    = ap (λ o. (claim_by c.args.server.0 (unwrap_or o unclaimed)).held) (sym c.claimed-claimed.ensures.claims)
    ∙ ap (λ claim. claim.held) (sym (claim_of_is c.self.inside.claims.entries c.self.invariant.ordered c.self.inside.logs c.args.server.0 place.0 c.args.lock))
    ∙ ap (λ table. held table.locks c.args.server.0 c.args.lock) c.self.view_is ∙ c.requires in
    ap (λ made. growth (asked_by server c.claimed-claimed.result) (asked_by server (set c.claimed-claimed.result c.args.server.0 made))) claim ∙ growth-downgraded c.args.server.0 c.claimed-claimed.result sole own server

pub change-requires-clause-room : goal.change-requires-clause-room
change-requires-clause-room c = λ server below. omega (arith, no_more c server)

no_more_after : (c : goal.After-change) (server : ℕ) → growth (asked_by server c.claimed-claimed.result) (asked_by server (set c.claimed-claimed.result c.args.server.0 c.shared-claim.result)) ≡ 0
no_more_after c = no_more c.before

left : (c : goal.After-change) → locks_of c.change.new.self.entries c.self.inside.logs ≡ downgraded (locks_of c.self.inside.claims.entries c.self.inside.logs) c.args.server.0 c.args.lock
left c =
    let place = held_place c.self.inside.claims.entries c.self.invariant.ordered c.self.inside.logs c.args.server.0 c.args.lock (subst (λ table. IsSome (held table.locks c.args.server.0 c.args.lock)) (sym c.self.view_is) (subst IsSome (sym c.requires) refl)) in
    ap (λ (entries : Entries). locks_of entries c.self.inside.logs) c.change.ensures.entries
    ∙ changed_is c.self.inside.claims.entries c.self.invariant.ordered c.self.inside.logs c.self.inside.reserved c.args.server.0 c.args.lock c.claimed-claimed.result c.shared-claim.result shared place.0 c.claimed-claimed.ensures.claims c.change.ensures.own
    (c.shared-claim.ensures ∙ ap shared c.claim.ensures.claim)

pub invariant_of-self : goal.invariant_of-self
invariant_of-self c = record {
  ordered = c.change.ensures.ordered;
  locks = subst AreLocks (sym (left c)) (AreLocks-downgraded (locks_of c.self.inside.claims.entries c.self.inside.logs) c.self.invariant.locks c.args.server.0 c.args.lock);
  place = λ lock some. subst (λ (entries : Entries). IsSome (lookup (is_lock lock) entries)) (sym c.change.ensures.entries)
      (replaced_keeps c.self.inside.claims.entries c.self.invariant.ordered c.self.inside.reserved c.args.lock lock (set c.claimed-claimed.result c.args.server.0 c.shared-claim.result) some (c.self.invariant.place lock some));
}

pub returns-clause-locks : goal.returns-clause-locks
returns-clause-locks c = left c ∙ ap (λ table. downgraded table.locks c.args.server.0 c.args.lock) c.self.view_is

pub returns-clause-room : goal.returns-clause-room
returns-clause-room c = λ server lock had.
    let old = subst (λ table. HasRoom table server lock) (sym c.self.view_is) had in
    (old.0, λ t below. omega (arith, old.1 t below, c.change.ensures.room t, no_more_after c t))
