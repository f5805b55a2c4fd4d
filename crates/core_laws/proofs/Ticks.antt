-- A Tick waits for the others, and is the last of the list.
use Rattle.std.proofs.Common.{◌≡◌, ◌<◌, ◌≤◌, ◌+◌, ◌⊎◌, inl, inr, ⊎_elim, Bool, true, false, not, if◌then◌else◌, List, [], ◌∷◌, ◌++◌, IsTrue, nat_lt, refl, sym, ap, ◌∙◌, arith}
use Rattle.std.proofs.lemmas.Bool.{false≢true}
use Rattle.std.specs.List.{AllByRecursion}
use Rattle.disk_definitions.proofs.Listed.{Among, among_right}
use Rattle.frang_base.specs.declared.limits.TheConstants.{LAST_TICK}
use Rattle.core_definitions.specs.Cores.{Core}
use Rattle.core_definitions.specs.Events.{Event, Begin, Ask, Fetch, Again, Clear, Commit, Answer, Give, Issue, Doom, Resume, Arrive, Lose, Die, Renew, Tick, Recover, Load, Look, Finish, HostLine, Close, Read, Show, End}
use Rattle.core_definitions.specs.Guards.{Can, CanGoing, CanOther, has_line_at_gate, is_stale}
use Rattle.core_definitions.specs.Enabled.{after_tick, all_parties, before_tick, enabled, enabled_among, may_tick, only, rows_after}
use Rattle.core_laws.proofs.Exact.{enabled_only, tick_may}
use Rattle.core_laws.specs.EventOrder.{row_of}
use Rattle.core_laws.proofs.Blocks.{rows_within}
use Rattle.core_laws.proofs.Rows.{rows_after_are}
use Rattle.core_laws.proofs.Sorting.{all_in}

-- ---- the guard

-- an event that may happen is a Tick, or may as another
tick_or_other : (c : Core) (event : Event) → CanGoing c event → (event ≡ Tick) ⊎ CanOther c event
tick_or_other c (Begin a) can = inr can
tick_or_other c (Ask a lock mode) can = inr can
tick_or_other c (Fetch a sector) can = inr can
tick_or_other c (Again a) can = inr can
tick_or_other c (Clear a block) can = inr can
tick_or_other c (Commit a) can = inr can
tick_or_other c (Answer a) can = inr can
tick_or_other c (Give a lock) can = inr can
tick_or_other c (Issue a sector) can = inr can
tick_or_other c (Doom a) can = inr can
tick_or_other c (Resume a) can = inr can
tick_or_other c (Arrive ticket) can = inr can
tick_or_other c (Lose ticket) can = inr can
tick_or_other c (Die a) can = inr can
tick_or_other c (Renew a) can = inr can
tick_or_other c Tick can = inl refl
tick_or_other c (Recover dead by) can = inr can
tick_or_other c (Load by slot) can = inr can
tick_or_other c (Look by sector) can = inr can
tick_or_other c (Finish by) can = inr can
tick_or_other c (HostLine number) can = inr can
tick_or_other c (Close a) can = inr can
tick_or_other c (Read sector) can = inr can
tick_or_other c (Show place) can = inr can
tick_or_other c End can = inr can

pub waits : (c : Core) (event : Event) → Can c Tick → Can c event → (event ≡ Tick) ⊎ IsTrue (is_stale c event)
waits c event tick can = ⊎_elim (λ e. inl e) (λ other. inr (tick.can.quiet event other)) (tick_or_other c event can.can)

-- what may happen as another isn't a Tick
other_can : (c : Core) (event : Event) → CanOther c event → CanGoing c event × (event ≡ Tick → ⊥)
other_can c (Begin a) can = (can, λ e. absurd (cc))
other_can c (Ask a lock mode) can = (can, λ e. absurd (cc))
other_can c (Fetch a sector) can = (can, λ e. absurd (cc))
other_can c (Again a) can = (can, λ e. absurd (cc))
other_can c (Clear a block) can = (can, λ e. absurd (cc))
other_can c (Commit a) can = (can, λ e. absurd (cc))
other_can c (Answer a) can = (can, λ e. absurd (cc))
other_can c (Give a lock) can = (can, λ e. absurd (cc))
other_can c (Issue a sector) can = (can, λ e. absurd (cc))
other_can c (Doom a) can = (can, λ e. absurd (cc))
other_can c (Resume a) can = (can, λ e. absurd (cc))
other_can c (Arrive ticket) can = (can, λ e. absurd (cc))
other_can c (Lose ticket) can = (can, λ e. absurd (cc))
other_can c (Die a) can = (can, λ e. absurd (cc))
other_can c (Renew a) can = (can, λ e. absurd (cc))
other_can c Tick can = absurd can
other_can c (Recover dead by) can = (can, λ e. absurd (cc))
other_can c (Load by slot) can = (can, λ e. absurd (cc))
other_can c (Look by sector) can = (can, λ e. absurd (cc))
other_can c (Finish by) can = (can, λ e. absurd (cc))
other_can c (HostLine number) can = (can, λ e. absurd (cc))
other_can c (Close a) can = (can, λ e. absurd (cc))
other_can c (Read sector) can = (can, λ e. absurd (cc))
other_can c (Show place) can = (can, λ e. absurd (cc))
other_can c End can = (can, λ e. absurd (cc))

pub comes : (c : Core) → ((event : Event) → Can c event → (event ≡ Tick) ⊎ IsTrue (is_stale c event)) → IsTrue (not c.over) →
    IsTrue (not (has_line_at_gate c)) → IsTrue (nat_lt c.now LAST_TICK) → Can c Tick
comes c quiet going gate clock = record { going = going; can = record { quiet = others; gate = gate; clock = clock } }
  where
    others : (event : Event) → CanOther c event → IsTrue (is_stale c event)
    others event other =
        let o : CanGoing c event × (event ≡ Tick → ⊥) = other_can c event other in
        ⊎_elim (λ e. absurd (o.1 e)) (λ stale. stale) (quiet event (record { going = going; can = o.0 }))

-- ---- the list

stale_early : (c : Core) (event : Event) → IsTrue (is_stale c event) → row_of event ≤ 12
stale_early c (Arrive ticket) h = omega arith
stale_early c (Lose ticket) h = omega arith
stale_early c event h = absurd (false≢true h)

none_of : (c : Core) (events : List Event) → ((event : Event) → Among event events → IsTrue (is_stale c event)) →
    AllByRecursion (λ e. (16 ≤ row_of e) × (row_of e < 16 + 9)) events → events ≡ []
none_of c [] stale late = refl
none_of c (e ∷ es) stale late = absurd (omega (arith, stale_early c e (stale e (inl refl)), late.0.0))

ends_so : (before : List Event) (behind : List Event) (test : Bool) → IsTrue test → behind ≡ [] → before ++ only test Tick ++ behind ≡ before ++ Tick ∷ []
ends_so before behind true t e = ap (λ es. (before ++ Tick ∷ []) ++ es) e ∙ append_none (before ++ Tick ∷ [])
  where
    append_none : (es : List Event) → es ++ [] ≡ es
    append_none [] = refl
    append_none (e ∷ es) = ap (λ xs. e ∷ xs) (append_none es)
ends_so before behind false t e = absurd (false≢true t)

pub is_last : (c : Core) → Can c Tick → (others : List Event) × (enabled c ≡ others ++ Tick ∷ [])
is_last c tick = (before_tick c (all_parties c), go c.over refl)
  where
    behind : List Event
    behind = after_tick c (all_parties c)

    late : AllByRecursion (λ e. (16 ≤ row_of e) × (row_of e < 16 + 9)) behind
    late = rows_within 16 (rows_after c (all_parties c)) (rows_after_are c)

    not_tick : (e : Event) → e ≡ Tick → 16 ≤ row_of e → ⊥
    not_tick e is h = absurd (omega (arith, ap row_of is, h))

    stale : (e : Event) → Among e behind → IsTrue (is_stale c e)
    stale e i = ⊎_elim (λ is. absurd (not_tick e is (all_in (λ e. (16 ≤ row_of e) × (row_of e < 16 + 9)) behind e late i).0)) (λ s. s) (waits c e tick (enabled_only c e (listed c.over refl)))
      where
        listed : (b : Bool) → c.over ≡ b → Among e (if b then [] else enabled_among c (all_parties c))
        listed true o = absurd (false≢true (sym (ap not o) ∙ tick.going))
        listed false o = among_right e (before_tick c (all_parties c) ++ only (may_tick c (before_tick c (all_parties c) ++ behind)) Tick) behind i

    go : (b : Bool) → c.over ≡ b → (if b then [] else enabled_among c (all_parties c)) ≡ before_tick c (all_parties c) ++ Tick ∷ []
    go true o = absurd (false≢true (sym (ap not o) ∙ tick.going))
    go false o = ends_so (before_tick c (all_parties c)) behind (may_tick c (before_tick c (all_parties c) ++ behind)) (tick_may c tick.can) (none_of c behind stale late)
