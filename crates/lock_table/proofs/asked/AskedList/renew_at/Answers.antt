-- There is an entry at the place, whose lock needs no room.
use Rattle.std.proofs.Common.{◌≡◌, ◌<◌, zero, suc, ℕ, List, [], ◌∷◌, length, None, ap, ◌∙◌, arith, add-one, if◌then◌else◌, is_some}
use Rattle.std.specs.List.{slice_get}
use Rattle.std.specs.Map.{lookup}
use Rattle.lock_definitions.specs.Order.{is_lock}
use Rattle.lock_table.proofs.Walking.{there, grown_none, walk}
use Rattle.lock_table.proofs.asked.AskedList.renew_at.Goals as goal

inside_some : {E : Type 0} (xs : List E) (i : ℕ) → i < length xs → None ≡ slice_get xs i → ⊥
inside_some [] i inside none = omega arith
inside_some (x ∷ xs) zero inside none = cc none
inside_some (x ∷ xs) (suc i) inside none = inside_some xs i (omega arith) none

pub put-requires : goal.put-requires
put-requires c =
    let at = c.in-Some.ensures ∙ ap (λ list. slice_get list.asked c.args.i) c.self.view_is in
    omega (arith, grown_none (lookup (is_lock c.in-Some.entry.now.0) c.args.self.now.asked) c.asked_in-asked.result (there c.args.self.now.asked c.args.i c.in-Some.entry.now at))

pub returns-clause-walked : goal.returns-clause-walked
returns-clause-walked c = λ all left walked.
    let at = c.in-Some.ensures ∙ ap (λ list. slice_get list.asked c.args.i) c.self.view_is in
    walk c.args.server.0 c.args.claims.now all c.args.self.now.asked c.put.new.self.asked c.args.i left c.next_place.result c.in-Some.entry.now c.asked_in-asked.result at c.asked_in-asked.ensures c.put.ensures.asked
    (c.next_place.ensures ∙ ap (λ n. if is_some c.asked_in-asked.result then n else c.args.i) (add-one c.args.i)) walked

pub returns-clause-room : goal.returns-clause-room
returns-clause-room c =
    let at = c.in-Some.ensures ∙ ap (λ list. slice_get list.asked c.args.i) c.self.view_is in
    omega (arith, c.put.ensures.room, grown_none (lookup (is_lock c.in-Some.entry.now.0) c.args.self.now.asked) c.asked_in-asked.result (there c.args.self.now.asked c.args.i c.in-Some.entry.now at))

pub unreachable-requires : goal.unreachable-requires
unreachable-requires c = inside_some c.args.self.now.asked c.args.i c.requires.inside (c.in-None.ensures ∙ ap (λ list. slice_get list.asked c.args.i) c.self.view_is)
