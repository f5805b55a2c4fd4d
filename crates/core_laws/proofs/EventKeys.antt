-- The order of events is total, and only the same event is equal in it.
use Rattle.std.proofs.Common.{◌≡◌, ℕ, true, ◌==◌, if◌then◌else◌, refl, sym, ◌∙◌}
use Rattle.std.proofs.lemmas.Cmp.{nat_cmp_total, on_total, then_total}
use Rattle.std.specs.BTreeMap.{is_at}
use Rattle.std.specs.Cmp.{IsTotalOrder}
use Rattle.std.specs.Ordering.{is_eq, nat_cmp, ordering_then}
use Rattle.frang_base.specs.declared.lock.LockId.{LockId}
use Rattle.frang_base.specs.declared.lock.Mode.TheVariants.{Shared, Sole}
use Rattle.frang_base.proofs.Tests.{both_equal}
use Rattle.lock_definitions.specs.Order.{lock_cmp}
use Rattle.lock_definitions.proofs.LockOrder.{found_lock, lock_total}
use Rattle.sector_bytes.proofs.MapLaws.{found}
use Rattle.sorted_entries.specs.Places.{IsKeyOrder}
use Rattle.core_definitions.specs.Events.{Event, Begin, Ask, Fetch, Again, Clear, Commit, Answer, Give, Issue, Doom, Resume, Arrive, Lose, Die, Renew, Tick, Recover, Load, Look, Finish, HostLine, Close, Read, Show, End}
use Rattle.core_laws.specs.EventOrder.{event_cmp, first_of, last_of, lock_of, row_of}

event_total : IsTotalOrder event_cmp
event_total = then_total (on_total row_of nat_cmp_total) (then_total (on_total first_of nat_cmp_total) (then_total (on_total lock_of lock_total) (on_total last_of nat_cmp_total)))

-- the event of a row, by what it is of
abbrev event_at : ℕ → ℕ → LockId → ℕ → Event
event_at row first lock last =
    if row == 0 then Begin first
    else (if row == 1 then Ask first lock (if last == 0 then Shared else Sole)
    else (if row == 2 then Fetch first last
    else (if row == 3 then Again first
    else (if row == 4 then Clear first last
    else (if row == 5 then Commit first
    else (if row == 6 then Answer first
    else (if row == 7 then Give first lock
    else (if row == 8 then Issue first last
    else (if row == 9 then Doom first
    else (if row == 10 then Resume first
    else (if row == 11 then Arrive first
    else (if row == 12 then Lose first
    else (if row == 13 then Die first
    else (if row == 14 then Renew first
    else (if row == 15 then Tick
    else (if row == 16 then Recover first last
    else (if row == 17 then Load first last
    else (if row == 18 then Look first last
    else (if row == 19 then Finish first
    else (if row == 20 then HostLine first
    else (if row == 21 then Close first
    else (if row == 22 then Read first
    else (if row == 23 then Show first
    else End)))))))))))))))))))))))

made_again : (event : Event) → event_at (row_of event) (first_of event) (lock_of event) (last_of event) ≡ event
made_again (Begin a) = refl
made_again (Ask a lock Shared) = refl
made_again (Ask a lock Sole) = refl
made_again (Fetch a sector) = refl
made_again (Again a) = refl
made_again (Clear a block) = refl
made_again (Commit a) = refl
made_again (Answer a) = refl
made_again (Give a lock) = refl
made_again (Issue a sector) = refl
made_again (Doom a) = refl
made_again (Resume a) = refl
made_again (Arrive ticket) = refl
made_again (Lose ticket) = refl
made_again (Die a) = refl
made_again (Renew a) = refl
made_again Tick = refl
made_again (Recover dead by) = refl
made_again (Load by slot) = refl
made_again (Look by sector) = refl
made_again (Finish by) = refl
made_again (HostLine number) = refl
made_again (Close a) = refl
made_again (Read sector) = refl
made_again (Show place) = refl
made_again End = refl

exact : (a b : Event) → is_at (event_cmp a) b ≡ true → b ≡ a
exact a b e = sym (made_again b) ∙ (λ i. event_at (row i) (first i) (lock i) (last i)) ∙ made_again a
  where
    rows : (is_eq (nat_cmp (row_of a) (row_of b)) ≡ true)
        × (is_eq (ordering_then (nat_cmp (first_of a) (first_of b)) (ordering_then (lock_cmp (lock_of a) (lock_of b)) (nat_cmp (last_of a) (last_of b)))) ≡ true)
    rows = both_equal (nat_cmp (row_of a) (row_of b)) _ e

    firsts : (is_eq (nat_cmp (first_of a) (first_of b)) ≡ true) × (is_eq (ordering_then (lock_cmp (lock_of a) (lock_of b)) (nat_cmp (last_of a) (last_of b))) ≡ true)
    firsts = both_equal (nat_cmp (first_of a) (first_of b)) _ rows.1

    locks : (is_eq (lock_cmp (lock_of a) (lock_of b)) ≡ true) × (is_eq (nat_cmp (last_of a) (last_of b)) ≡ true)
    locks = both_equal (lock_cmp (lock_of a) (lock_of b)) (nat_cmp (last_of a) (last_of b)) firsts.1

    row : row_of b ≡ row_of a
    row = found (row_of a) (row_of b) rows.0

    first : first_of b ≡ first_of a
    first = found (first_of a) (first_of b) firsts.0

    lock : lock_of b ≡ lock_of a
    lock = found_lock (lock_of a) (lock_of b) locks.0

    last : last_of b ≡ last_of a
    last = found (last_of a) (last_of b) locks.1

pub events : IsKeyOrder event_cmp
events = record { total = event_total; exact = exact }
