-- The list of enabled events has exactly those that may happen: row by row, and Tick by all others.
use Rattle.std.proofs.Common.{if◌then◌else◌, not, ◌≡◌, ◌⊎◌, inl, inr, ⊎_elim, Bool, true, false, List, [], ◌++◌, IsTrue, nat_lt, refl, ap, subst}
use Rattle.frang_base.specs.declared.limits.TheConstants.{LAST_TICK}
use Rattle.core_definitions.specs.Cores.{Core}
use Rattle.core_definitions.specs.Events.{Event, Begin, Ask, Fetch, Again, Clear, Commit, Answer, Give, Issue, Doom, Resume, Arrive, Lose, Die, Renew, Tick, Recover, Load, Look, Finish, HostLine, Close, Read, Show, End}
use Rattle.core_definitions.specs.Guards.{CanOther}
use Rattle.core_definitions.specs.Enabled.{all_parties, only}
use Rattle.core_laws.proofs.Membership.{into_only, FromOnly, from_only, into_rows, from_rows}
use Rattle.core_laws.proofs.Guarding.{Of3, all_3, of_3}
use Rattle.std.specs.List.{list_all}
use Rattle.disk_definitions.proofs.Listed.{Among, among_left, among_right, among_either, all_from, all_at}
use Rattle.core_definitions.specs.Enabled.{after_tick, before_tick, enabled, enabled_among, may_tick, rows_after, rows_before}
use Rattle.core_definitions.specs.Guards.{Can, CanGoing, CanTick, has_line_at_gate, is_stale}
use Rattle.core_laws.proofs.Listing.{begin_listed, begin_only, ask_listed, ask_only, fetch_listed, fetch_only, again_listed, again_only, clear_listed, clear_only, commit_listed, commit_only, answer_listed, answer_only, give_listed, give_only, issue_listed, issue_only, doom_listed, doom_only, resume_listed, resume_only, arrive_listed, arrive_only, lose_listed, lose_only, die_listed, die_only, renew_listed, renew_only, finish_listed, finish_only, close_listed, close_only}
use Rattle.core_laws.proofs.ListingEnds.{recover_listed, recover_only, load_listed, load_only, look_listed, look_only, host_listed, host_only, read_listed, read_only, show_listed, show_only, end_listed, end_only}

-- ---- the rows of a list of rows: each that has an event gives its guard

before_only : (c : Core) (e : Event) → Among e (before_tick c (all_parties c)) → CanOther c e
before_only c e i =
    from_rows (rows_before c (all_parties c)) e (CanOther c e) (
      begin_only c e,
      (
        ask_only c e,
        (
          fetch_only c e,
          (
            again_only c e,
            (
              clear_only c e,
              (
                commit_only c e,
                (
                  answer_only c e,
                  (
                    give_only c e,
                    (
                      issue_only c e,
                      (doom_only c e, (resume_only c e, (arrive_only c e, (lose_only c e, (die_only c e, (renew_only c e, tt)))))),
                    ),
                  ),
                ),
              ),
            ),
          ),
        ),
      ),
    )
    i

behind_only : (c : Core) (e : Event) → Among e (after_tick c (all_parties c)) → CanOther c e
behind_only c e i =
    from_rows (rows_after c (all_parties c)) e (CanOther c e) (
      recover_only c e,
      (
        load_only c e,
        (
          look_only c e,
          (
            finish_only c e,
            (
              host_only c e,
              (
                close_only c e,
                (
                  read_only c e,
                  (
                    show_only c e,
                    (
                      end_only c e,
                      tt,
                    ),
                  ),
                ),
              ),
            ),
          ),
        ),
      ),
    )
    i

-- an event that may happen stands before Tick's row or behind it
abbrev Listed : Core → Event → Type 0
Listed c e = Among e (before_tick c (all_parties c)) ⊎ Among e (after_tick c (all_parties c))

other_listed : (c : Core) (e : Event) → CanOther c e → Listed c e
other_listed c (Begin a) can = inl (into_rows 0 (rows_before c (all_parties c)) (Begin a) (begin_listed c a can))
other_listed c (Ask a lock mode) can = inl (into_rows 1 (rows_before c (all_parties c)) (Ask a lock mode) (ask_listed c a lock mode can))
other_listed c (Fetch a sector) can = inl (into_rows 2 (rows_before c (all_parties c)) (Fetch a sector) (fetch_listed c a sector can))
other_listed c (Again a) can = inl (into_rows 3 (rows_before c (all_parties c)) (Again a) (again_listed c a can))
other_listed c (Clear a block) can = inl (into_rows 4 (rows_before c (all_parties c)) (Clear a block) (clear_listed c a block can))
other_listed c (Commit a) can = inl (into_rows 5 (rows_before c (all_parties c)) (Commit a) (commit_listed c a can))
other_listed c (Answer a) can = inl (into_rows 6 (rows_before c (all_parties c)) (Answer a) (answer_listed c a can))
other_listed c (Give a lock) can = inl (into_rows 7 (rows_before c (all_parties c)) (Give a lock) (give_listed c a lock can))
other_listed c (Issue a sector) can = inl (into_rows 8 (rows_before c (all_parties c)) (Issue a sector) (issue_listed c a sector can))
other_listed c (Doom a) can = inl (into_rows 9 (rows_before c (all_parties c)) (Doom a) (doom_listed c a can))
other_listed c (Resume a) can = inl (into_rows 10 (rows_before c (all_parties c)) (Resume a) (resume_listed c a can))
other_listed c (Arrive ticket) can = inl (into_rows 11 (rows_before c (all_parties c)) (Arrive ticket) (arrive_listed c ticket can))
other_listed c (Lose ticket) can = inl (into_rows 12 (rows_before c (all_parties c)) (Lose ticket) (lose_listed c ticket can))
other_listed c (Die a) can = inl (into_rows 13 (rows_before c (all_parties c)) (Die a) (die_listed c a can))
other_listed c (Renew a) can = inl (into_rows 14 (rows_before c (all_parties c)) (Renew a) (renew_listed c a can))
other_listed c (Recover dead by) can = inr (into_rows 0 (rows_after c (all_parties c)) (Recover dead by) (recover_listed c dead by can))
other_listed c (Load by slot) can = inr (into_rows 1 (rows_after c (all_parties c)) (Load by slot) (load_listed c by slot can))
other_listed c (Look by sector) can = inr (into_rows 2 (rows_after c (all_parties c)) (Look by sector) (look_listed c by sector can))
other_listed c (Finish by) can = inr (into_rows 3 (rows_after c (all_parties c)) (Finish by) (finish_listed c by can))
other_listed c (HostLine number) can = inr (into_rows 4 (rows_after c (all_parties c)) (HostLine number) (host_listed c number can))
other_listed c (Close a) can = inr (into_rows 5 (rows_after c (all_parties c)) (Close a) (close_listed c a can))
other_listed c (Read sector) can = inr (into_rows 6 (rows_after c (all_parties c)) (Read sector) (read_listed c sector can))
other_listed c (Show place) can = inr (into_rows 7 (rows_after c (all_parties c)) (Show place) (show_listed c place can))
other_listed c End can = inr (into_rows 8 (rows_after c (all_parties c)) End (end_listed c can))
other_listed c Tick can = absurd can

others_only : (c : Core) (e : Event) → Among e (before_tick c (all_parties c) ++ after_tick c (all_parties c)) → CanOther c e
others_only c e i =
    ⊎_elim (λ x. before_only c e x) (λ y. behind_only c e y) (among_either e (before_tick c (all_parties c)) (after_tick c (all_parties c)) i)

others_listed : (c : Core) (e : Event) → CanOther c e → Among e (before_tick c (all_parties c) ++ after_tick c (all_parties c))
others_listed c e can =
    ⊎_elim
    (λ x. among_left e (before_tick c (all_parties c)) (after_tick c (all_parties c)) x)
    (λ y. among_right e (before_tick c (all_parties c)) (after_tick c (all_parties c)) y)
    (other_listed c e can)

-- ---- Tick

abbrev pub others : Core → List Event
others c = before_tick c (all_parties c) ++ after_tick c (all_parties c)

pub tick_may : (c : Core) → CanTick c → IsTrue (may_tick c (others c))
tick_may c can =
    all_3 (list_all (is_stale c) (others c)) (not (has_line_at_gate c)) (nat_lt c.now LAST_TICK)
    (all_from (is_stale c) (others c) (λ e i. can.quiet e (others_only c e i))) can.gate can.clock

tick_can : (c : Core) → IsTrue (may_tick c (others c)) → CanTick c
tick_can c may =
    let t : Of3 (list_all (is_stale c) (others c)) (not (has_line_at_gate c)) (nat_lt c.now LAST_TICK) =
    of_3 (list_all (is_stale c) (others c)) (not (has_line_at_gate c)) (nat_lt c.now LAST_TICK) may in
    record { quiet = λ e can. all_at (is_stale c) (others c) t.p0 e (others_listed c e can); gate = t.p1; clock = t.p2 }

-- ---- the whole

other_goes : (c : Core) (e : Event) → CanOther c e → CanGoing c e
other_goes c (Begin a) can = can
other_goes c (Ask a lock mode) can = can
other_goes c (Fetch a sector) can = can
other_goes c (Again a) can = can
other_goes c (Clear a block) can = can
other_goes c (Commit a) can = can
other_goes c (Answer a) can = can
other_goes c (Give a lock) can = can
other_goes c (Issue a sector) can = can
other_goes c (Doom a) can = can
other_goes c (Resume a) can = can
other_goes c (Arrive ticket) can = can
other_goes c (Lose ticket) can = can
other_goes c (Die a) can = can
other_goes c (Renew a) can = can
other_goes c (Recover dead by) can = can
other_goes c (Load by slot) can = can
other_goes c (Look by sector) can = can
other_goes c (Finish by) can = can
other_goes c (HostLine number) can = can
other_goes c (Close a) can = can
other_goes c (Read sector) can = can
other_goes c (Show place) can = can
other_goes c End can = can
other_goes c Tick can = absurd can

going_only : (c : Core) (e : Event) → Among e (enabled_among c (all_parties c)) → CanGoing c e
going_only c e i =
    ⊎_elim
    (λ y. ⊎_elim
    (λ x. other_goes c e (before_only c e x))
    (λ t. let o : FromOnly (may_tick c (others c)) Tick e = from_only (may_tick c (others c)) Tick e t in subst (CanGoing c) o.is (tick_can c o.passes))
    (among_either e (before_tick c (all_parties c)) (only (may_tick c (others c)) Tick) y))
    (λ z. other_goes c e (behind_only c e z))
    (among_either e (before_tick c (all_parties c) ++ only (may_tick c (others c)) Tick) (after_tick c (all_parties c)) i)

among : (c : Core) (e : Event) → Listed c e → Among e (enabled_among c (all_parties c))
among c e (inl x) =
    among_left e (before_tick c (all_parties c) ++ only (may_tick c (others c)) Tick) (after_tick c (all_parties c))
    (among_left e (before_tick c (all_parties c)) (only (may_tick c (others c)) Tick) x)
among c e (inr y) = among_right e (before_tick c (all_parties c) ++ only (may_tick c (others c)) Tick) (after_tick c (all_parties c)) y

going_listed : (c : Core) (e : Event) → CanGoing c e → Among e (enabled_among c (all_parties c))
going_listed c (Begin a) can = among c (Begin a) (other_listed c (Begin a) can)
going_listed c (Ask a lock mode) can = among c (Ask a lock mode) (other_listed c (Ask a lock mode) can)
going_listed c (Fetch a sector) can = among c (Fetch a sector) (other_listed c (Fetch a sector) can)
going_listed c (Again a) can = among c (Again a) (other_listed c (Again a) can)
going_listed c (Clear a block) can = among c (Clear a block) (other_listed c (Clear a block) can)
going_listed c (Commit a) can = among c (Commit a) (other_listed c (Commit a) can)
going_listed c (Answer a) can = among c (Answer a) (other_listed c (Answer a) can)
going_listed c (Give a lock) can = among c (Give a lock) (other_listed c (Give a lock) can)
going_listed c (Issue a sector) can = among c (Issue a sector) (other_listed c (Issue a sector) can)
going_listed c (Doom a) can = among c (Doom a) (other_listed c (Doom a) can)
going_listed c (Resume a) can = among c (Resume a) (other_listed c (Resume a) can)
going_listed c (Arrive ticket) can = among c (Arrive ticket) (other_listed c (Arrive ticket) can)
going_listed c (Lose ticket) can = among c (Lose ticket) (other_listed c (Lose ticket) can)
going_listed c (Die a) can = among c (Die a) (other_listed c (Die a) can)
going_listed c (Renew a) can = among c (Renew a) (other_listed c (Renew a) can)
going_listed c (Recover dead by) can = among c (Recover dead by) (other_listed c (Recover dead by) can)
going_listed c (Load by slot) can = among c (Load by slot) (other_listed c (Load by slot) can)
going_listed c (Look by sector) can = among c (Look by sector) (other_listed c (Look by sector) can)
going_listed c (Finish by) can = among c (Finish by) (other_listed c (Finish by) can)
going_listed c (HostLine number) can = among c (HostLine number) (other_listed c (HostLine number) can)
going_listed c (Close a) can = among c (Close a) (other_listed c (Close a) can)
going_listed c (Read sector) can = among c (Read sector) (other_listed c (Read sector) can)
going_listed c (Show place) can = among c (Show place) (other_listed c (Show place) can)
going_listed c End can = among c End (other_listed c End can)
going_listed c Tick can =
    among_left Tick (before_tick c (all_parties c) ++ only (may_tick c (others c)) Tick) (after_tick c (all_parties c))
    (among_right Tick (before_tick c (all_parties c)) (only (may_tick c (others c)) Tick) (into_only (may_tick c (others c)) Tick (tick_may c can)))

pub enabled_only : (c : Core) (e : Event) → Among e (enabled c) → Can c e
enabled_only c e i = go c.over refl i
  where
    go : (b : Bool) → c.over ≡ b → Among e (if b then [] else enabled_among c (all_parties c)) → Can c e
    go true o i = absurd i
    go false o i = record { going = ap not o; can = going_only c e i }

pub enabled_listed : (c : Core) (e : Event) → Can c e → Among e (enabled c)
enabled_listed c e can = go c.over refl can.going
  where
    go : (b : Bool) → c.over ≡ b → IsTrue (not b) → Among e (if b then [] else enabled_among c (all_parties c))
    go true o h = absurd (cc)
    go false o h = going_listed c e can.can
