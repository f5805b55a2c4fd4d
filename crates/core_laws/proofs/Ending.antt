-- An empty list of events: by Tick, which only the others, the gate and the clock keep back.
use Rattle.std.proofs.Common.{◌≡◌, Bool, true, false, not, ◌&&◌, ◌||◌, if◌then◌else◌, IsTrue, List, [], ◌∷◌, ◌++◌, nat_lt, refl, sym, ap, ◌∙◌}
use Rattle.std.proofs.lemmas.Bool.{false≢true}
use Rattle.std.specs.List.{list_all}
use Rattle.frang_base.specs.declared.limits.TheConstants.{LAST_TICK}
use Rattle.core_definitions.specs.Cores.{Core}
use Rattle.core_definitions.specs.Events.{Event, Tick}
use Rattle.core_definitions.specs.Guards.{has_line_at_gate, is_stale}
use Rattle.core_definitions.specs.Enabled.{after_tick, all_parties, before_tick, enabled, enabled_among, may_tick, only, with_tick}

left_empty : {X : Type 0} (xs ys : List X) → xs ++ ys ≡ [] → xs ≡ []
left_empty [] ys e = refl
left_empty (x ∷ xs) ys e = cc

right_empty : {X : Type 0} (xs ys : List X) → xs ++ ys ≡ [] → ys ≡ []
right_empty [] ys e = e
right_empty (x ∷ xs) ys e = cc

both_empty : {X : Type 0} (xs ys : List X) → xs ≡ [] → ys ≡ [] → xs ++ ys ≡ []
both_empty xs ys e f = ap (λ zs. zs ++ ys) e ∙ f

not_only : (test : Bool) (event : Event) → only test event ≡ [] → test ≡ false
not_only true event e = cc
not_only false event e = refl

kept_back : (quiet gate clock : Bool) → quiet ≡ true → (quiet && not gate && clock) ≡ false → IsTrue (gate || not clock)
kept_back false gate clock q e = absurd (false≢true q)
kept_back true true clock q e = refl
kept_back true false true q e = absurd (false≢true (sym e))
kept_back true false false q e = refl

no_tick : (c : Core) (before behind : List Event) → with_tick c before behind ≡ [] → IsTrue (has_line_at_gate c || not (nat_lt c.now LAST_TICK))
no_tick c before behind e =
    let front : before ++ only (may_tick c (before ++ behind)) Tick ≡ [] = left_empty (before ++ only (may_tick c (before ++ behind)) Tick) behind e in
    let others : before ++ behind ≡ [] =
    both_empty before behind (left_empty before (only (may_tick c (before ++ behind)) Tick) front) (right_empty (before ++ only (may_tick c (before ++ behind)) Tick) behind e) in
    kept_back (list_all (is_stale c) (before ++ behind)) (has_line_at_gate c) (nat_lt c.now LAST_TICK) (ap (list_all (is_stale c)) others)
    (not_only (may_tick c (before ++ behind)) Tick (right_empty before (only (may_tick c (before ++ behind)) Tick) front))

pub nothing_left : (c : Core) → enabled c ≡ [] → IsTrue (c.over || has_line_at_gate c || not (nat_lt c.now LAST_TICK))
nothing_left c e = go c.over e
  where
    go : (over : Bool) → (if over then [] else enabled_among c (all_parties c)) ≡ [] → IsTrue (over || has_line_at_gate c || not (nat_lt c.now LAST_TICK))
    go true e = refl
    go false e = no_tick c (before_tick c (all_parties c)) (after_tick c (all_parties c)) e
