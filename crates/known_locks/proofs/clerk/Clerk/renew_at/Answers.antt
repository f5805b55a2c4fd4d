-- There is an entry at the place, whose lock needs no room.
use Rattle.std.proofs.Common.{◌≡◌, ◌<◌, zero, suc, ℕ, List, [], ◌∷◌, length, None, ap, ◌∙◌, arith}
use Rattle.std.specs.List.{slice_get}
use Rattle.std.specs.Map.{lookup}
use Rattle.lock_definitions.specs.Order.{is_lock}
use Rattle.lock_table.specs.Kept.{some_claim}
use Rattle.known_locks.specs.Beside.{again}
use Rattle.known_locks.proofs.Renewing.{room_of_known, put_is_made, behind_is_next}
use Rattle.known_locks.proofs.Walking.{there, walk}
use Rattle.known_locks.proofs.clerk.Clerk.renew_at.Goals as goal

inside_some : {E : Type 0} (xs : List E) (i : ℕ) → i < length xs → None ≡ slice_get xs i → ⊥
inside_some [] i inside none = omega arith
inside_some (x ∷ xs) zero inside none = cc none
inside_some (x ∷ xs) (suc i) inside none = inside_some xs i (omega arith) none

pub put-requires : goal.put-requires
put-requires c =
    let at = c.in-Some.ensures ∙ ap (λ list. slice_get list.claims c.args.i) c.self.view_is in
    omega (arith, room_of_known (lookup (is_lock c.in-Some.entry.now.0) c.args.self.now.claims) (there c.args.self.now.claims c.args.i c.in-Some.entry.now at))

pub returns-clause-walked : goal.returns-clause-walked
returns-clause-walked c = λ all left walked.
    let at = c.in-Some.ensures ∙ ap (λ list. slice_get list.claims c.args.i) c.self.view_is in
    let lock = c.in-Some.entry.now.0 in
    let claim = c.claim_of-claim.result in
    walk (again c.args.table.now.locks c.args.server.0) all c.args.self.now.claims c.put.new.self.claims c.args.i left c.place_behind.result c.in-Some.entry.now (some_claim claim) at (ap some_claim c.claim_of-claim.ensures)
    (c.put.ensures.claims ∙ put_is_made c.args.self.now.claims lock claim) (c.place_behind.ensures ∙ behind_is_next c.args.i claim) walked

pub returns-clause-room : goal.returns-clause-room
returns-clause-room c =
    let at = c.in-Some.ensures ∙ ap (λ list. slice_get list.claims c.args.i) c.self.view_is in
    omega (arith, c.put.ensures.room, room_of_known (lookup (is_lock c.in-Some.entry.now.0) c.args.self.now.claims) (there c.args.self.now.claims c.args.i c.in-Some.entry.now at))

pub unreachable-requires : goal.unreachable-requires
unreachable-requires c = inside_some c.args.self.now.claims c.args.i c.requires.inside (c.in-None.ensures ∙ ap (λ list. slice_get list.claims c.args.i) c.self.view_is)
