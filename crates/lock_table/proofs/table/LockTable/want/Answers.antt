-- What is left is the state of a lock table again.
use Rattle.std.proofs.Common.{◌≡◌, Some, IsSome, unwrap_or, set, sym, ap, ◌∙◌, subst}
use Rattle.std.specs.Map.{lookup}
use Rattle.lock_definitions.specs.Order.{is_lock}
use Rattle.lock_definitions.specs.Locks.{AreLocks}
use Rattle.lock_definitions.specs.Calls.{want_answer, answered, wanted}
use Rattle.lock_definitions.proofs.States.{AreLocks-wanted}
use Rattle.lock_table.specs.Asked.{unclaimed, holders_beside}
use Rattle.lock_table.specs.Kept.{Entries}
use Rattle.lock_table.specs.Table.{locks_of}
use Rattle.lock_table.proofs.Viewing.{placed_same, placed_keeps, holders_are, answer_is, changed_is, kept_reserved, inserted_keeps, unreserved_keeps}
use Rattle.lock_table.proofs.table.LockTable.want.Goals as goal

same : (c : goal.After-self-1) → locks_of c.place.new.self.entries c.self.inside.logs ≡ locks_of c.self.inside.claims.entries c.self.inside.logs
same c = ap (λ (entries : Entries). locks_of entries c.self.inside.logs) c.in_ok-claimed.ensures.entries ∙ placed_same c.self.inside.claims.entries c.self.invariant.ordered c.self.inside.logs c.args.lock

answer : (c : goal.After-self-1) → c.answer_to-answer.result ≡ want_answer (locks_of c.place.new.self.entries c.self.inside.logs) c.args.server.0 c.args.lock c.args.mode
answer c =
    let bits = c.holders.ensures ∙ ap (λ o. holders_beside c.args.server.0 c.args.mode (unwrap_or o unclaimed)) (sym c.in_ok-claimed.ensures.claimed)
    ∙ holders_are c.place.new.self.entries c.in_ok-claimed.ensures.ordered c.self.inside.logs c.args.server.0 c.args.lock c.args.mode in
    answer_is (locks_of c.place.new.self.entries c.self.inside.logs) c.args.server.0 c.args.lock c.args.mode c.holders.result c.answer_to-answer.result bits c.answer_to-answer.ensures.granted c.answer_to-answer.ensures.waits

left : (c : goal.After-self-1) → locks_of c.change.new.self.entries c.self.inside.logs ≡ wanted (locks_of c.self.inside.claims.entries c.self.inside.logs) c.args.server.0 c.args.lock c.args.mode
left c =
    let placed = locks_of c.place.new.self.entries c.self.inside.logs in
    ap (λ (entries : Entries). locks_of entries c.self.inside.logs) c.change.ensures.entries
    ∙ changed_is c.place.new.self.entries c.in_ok-claimed.ensures.ordered c.self.inside.logs (Some c.args.lock) c.args.server.0 c.args.lock c.in_ok-claimed.claimed c.answered-claim.result
    (answered (want_answer placed c.args.server.0 c.args.lock c.args.mode) c.args.mode) c.requires c.in_ok-claimed.ensures.claimed c.change.ensures.own
    (c.answered-claim.ensures ∙ (λ i. answered (answer c i) c.args.mode (c.claim.ensures.claim i)))
    ∙ ap (λ locks. wanted locks c.args.server.0 c.args.lock c.args.mode) (same c)

pub invariant_of-self-2 : goal.invariant_of-self-2
invariant_of-self-2 c = record {
  ordered = c.change.ensures.ordered;
  locks = subst AreLocks (sym (left c)) (AreLocks-wanted (locks_of c.self.inside.claims.entries c.self.inside.logs) c.self.invariant.locks c.args.server.0 c.args.lock c.args.mode);
  place = λ lock some.
      let had = c.self.invariant.place lock (unreserved_keeps c.self.inside.reserved c.args.lock lock (sym c.unreserved-self-inside.ensures ∙ some)) in
      let there = subst (λ (entries : Entries). IsSome (lookup (is_lock lock) entries)) (sym c.in_ok-claimed.ensures.entries) (placed_keeps c.self.inside.claims.entries c.self.invariant.ordered c.args.lock lock had) in
      let now = set c.in_ok-claimed.claimed c.args.server.0 c.answered-claim.result in
      subst (λ (entries : Entries). IsSome (lookup (is_lock lock) entries)) (sym (c.change.ensures.entries ∙ kept_reserved c.place.new.self.entries c.args.lock now))
      (inserted_keeps c.place.new.self.entries c.in_ok-claimed.ensures.ordered c.args.lock lock now there);
}

pub returns-clause-answer : goal.returns-clause-answer
returns-clause-answer c = answer c ∙ ap (λ locks. want_answer locks c.args.server.0 c.args.lock c.args.mode) (same c ∙ ap (λ table. table.locks) c.self.view_is)

pub returns-clause-ok : goal.returns-clause-ok
returns-clause-ok c = left c ∙ ap (λ table. wanted table.locks c.args.server.0 c.args.lock c.args.mode) c.self.view_is
