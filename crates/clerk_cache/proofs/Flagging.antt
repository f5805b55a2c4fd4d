-- The sectors whose states pass a test, as a list: who is in it, and what an edit of the states makes of it.
use Rattle.std.proofs.Common.{◌≡◌, ℕ, ◌==◌, Bool, true, false, not, if◌then◌else◌, List, [], ◌∷◌, filter, Some, None, nat_eq, refl, sym, ap, ◌∙◌, subst, arith}
use Rattle.std.proofs.lemmas.Bool.Decides.{nat_tests}
use Rattle.std.specs.List.Sorted.{IsStrictlySortedBy}
use Rattle.std.specs.BTreeMap.{is_at}
use Rattle.std.specs.Map.{keys_of}
use Rattle.std.specs.Option.{option_map, unwrap_or}
use Rattle.std.specs.Ordering.{nat_cmp, match_ordering, is_eq}
use Rattle.std.specs.declared.cmp.Ordering.TheVariants.{Less}
use Rattle.frang_base.specs.Functions.{member}
use Rattle.sector_bytes.specs.SectorMaps.{value_at, with_value, without, adjusted, Ascend}
use Rattle.sector_bytes.proofs.MapLaws.{AllAbove, by_answer, above_more, absent, found}
use Rattle.cache_definitions.specs.Flags.{but}
use Rattle.clerk_cache.specs.declared.state.SectorState.{SectorState}
use Rattle.clerk_cache.specs.Kept.{flagged}
use Rattle.clerk_cache.proofs.Joining.{States}

pub eq_at : (x s : ℕ) → nat_eq x s ≡ is_at (nat_cmp s) x
eq_at x s = grind (arith, nat_tests)

pub is_at_eq : (x s : ℕ) → (x == s) ≡ is_at (nat_cmp s) x
is_at_eq x s = grind (arith, nat_tests)

above_not_at : (low key : ℕ) → nat_cmp low key ≡ Less → is_at (nat_cmp low) key ≡ false
above_not_at low key is = ap is_eq is

-- ---- who is in it

pub member-cons : (s x : ℕ) (xs : List ℕ) → member s (x ∷ xs) ≡ (if is_at (nat_cmp s) x then true else member s xs)
member-cons s x xs = ap (λ t. if t then true else member s xs) (eq_at x s)

pub but-cons : (s x : ℕ) (xs : List ℕ) → but s (x ∷ xs) ≡ (if is_at (nat_cmp s) x then but s xs else x ∷ but s xs)
but-cons s x xs = ap (λ t. if not t then x ∷ but s xs else but s xs) (is_at_eq x s) ∙ go (is_at (nat_cmp s) x)
  where
    go : (t : Bool) → (if not t then x ∷ but s xs else but s xs) ≡ (if t then but s xs else x ∷ but s xs)
    go true = refl
    go false = refl

-- a sector that isn't in a list needn't be taken out
pub but_absent : (s : ℕ) (xs : List ℕ) → member s xs ≡ false → but s xs ≡ xs
but_absent s [] none = refl
but_absent s (x ∷ xs) none = go (is_at (nat_cmp s) x) refl (sym (member-cons s x xs) ∙ none) (but_absent s xs)
  where
    go : (t : Bool) → is_at (nat_cmp s) x ≡ t → (if t then true else member s xs) ≡ false → (member s xs ≡ false → but s xs ≡ xs) → but s (x ∷ xs) ≡ x ∷ xs
    go true at e rest = cc e
    go false at e rest = but-cons s x xs ∙ ap (λ t. if t then but s xs else x ∷ but s xs) at ∙ ap (λ xs. x ∷ xs) (rest e)

module _ (test : SectorState → Bool) (sector : ℕ) where
  none_flagged : (states : States) → AllAbove sector states → member sector (flagged test states) ≡ false
  none_flagged [] all = refl
  none_flagged (entry ∷ states) all = go (test entry.1) (none_flagged states all.1)
    where
      go : (t : Bool) → member sector (flagged test states) ≡ false → member sector (keys_of (if t then entry ∷ filter (λ e. test e.1) states else filter (λ e. test e.1) states)) ≡ false
      go true rest = member-cons sector entry.0 (flagged test states) ∙ ap (λ t. if t then true else member sector (flagged test states)) (above_not_at sector entry.0 all.0) ∙ rest
      go false rest = rest

  pub member_flagged : (states : States) → Ascend states → member sector (flagged test states) ≡ unwrap_or (option_map test (value_at states sector)) false
  unfolding IsStrictlySortedBy
  member_flagged [] sorted = refl
  member_flagged (entry ∷ states) sorted = go (test entry.1) refl (is_at (nat_cmp sector) entry.0) refl (member_flagged states sorted.1)
    where
      go : (t : Bool) → test entry.1 ≡ t → (u : Bool) → is_at (nat_cmp sector) entry.0 ≡ u → member sector (flagged test states) ≡ unwrap_or (option_map test (value_at states sector)) false
          → member sector (keys_of (if t then entry ∷ filter (λ e. test e.1) states else filter (λ e. test e.1) states)) ≡ unwrap_or (option_map test (if u then Some entry.1 else value_at states sector)) false
      go true is true at rest = member-cons sector entry.0 (flagged test states) ∙ ap (λ t. if t then true else member sector (flagged test states)) at ∙ sym is
      go true is false at rest = member-cons sector entry.0 (flagged test states) ∙ ap (λ t. if t then true else member sector (flagged test states)) at ∙ rest
      go false is true at rest = none_flagged states (subst (λ low. AllAbove low states) (found sector entry.0 at) sorted.0) ∙ sym is
      go false is false at rest = rest

  -- ---- what an edit makes of it

  but_above : (states : States) → AllAbove sector states → but sector (flagged test states) ≡ flagged test states
  but_above [] all = refl
  but_above (entry ∷ states) all = go (test entry.1) (but_above states all.1)
    where
      go : (t : Bool) → but sector (flagged test states) ≡ flagged test states → but sector (keys_of (if t then entry ∷ filter (λ e. test e.1) states else filter (λ e. test e.1) states)) ≡ keys_of (if t then entry ∷ filter (λ e. test e.1) states else filter (λ e. test e.1) states)
      go true rest = but-cons sector entry.0 (flagged test states) ∙ ap (λ t. if t then but sector (flagged test states) else entry.0 ∷ but sector (flagged test states)) (above_not_at sector entry.0 all.0) ∙ ap (λ xs. entry.0 ∷ xs) rest
      go false rest = rest

  -- the first is the sector: it is out
  out_at : (entry : ℕ × SectorState) (states : States) → is_at (nat_cmp sector) entry.0 ≡ true → AllAbove entry.0 states → flagged test states ≡ but sector (flagged test (entry ∷ states))
  out_at entry states at above = go (test entry.1)
    where
      left : but sector (flagged test states) ≡ flagged test states
      left = but_above states (subst (λ low. AllAbove low states) (found sector entry.0 at) above)

      go : (t : Bool) → flagged test states ≡ but sector (keys_of (if t then entry ∷ filter (λ e. test e.1) states else filter (λ e. test e.1) states))
      go true = sym (but-cons sector entry.0 (flagged test states) ∙ ap (λ t. if t then but sector (flagged test states) else entry.0 ∷ but sector (flagged test states)) at ∙ left)
      go false = sym left

  -- the first isn't: it stays
  past : (entry : ℕ × SectorState) (states left : States) → is_at (nat_cmp sector) entry.0 ≡ false → flagged test left ≡ but sector (flagged test states) → flagged test (entry ∷ left) ≡ but sector (flagged test (entry ∷ states))
  past entry states left at rest = go (test entry.1)
    where
      go : (t : Bool) → keys_of (if t then entry ∷ filter (λ e. test e.1) left else filter (λ e. test e.1) left) ≡ but sector (keys_of (if t then entry ∷ filter (λ e. test e.1) states else filter (λ e. test e.1) states))
      go true = ap (λ xs. entry.0 ∷ xs) rest ∙ sym (but-cons sector entry.0 (flagged test states) ∙ ap (λ t. if t then but sector (flagged test states) else entry.0 ∷ but sector (flagged test states)) at)
      go false = rest

  pub flagged-without : (states : States) → Ascend states → flagged test (without states sector) ≡ but sector (flagged test states)
  unfolding IsStrictlySortedBy
  flagged-without [] sorted = refl
  flagged-without (entry ∷ states) sorted = go (is_at (nat_cmp sector) entry.0) refl (flagged-without states sorted.1)
    where
      go : (t : Bool) → is_at (nat_cmp sector) entry.0 ≡ t → flagged test (without states sector) ≡ but sector (flagged test states) → flagged test (if t then states else entry ∷ without states sector) ≡ but sector (flagged test (entry ∷ states))
      go true at rest = out_at entry states at sorted.0
      go false at rest = past entry states (without states sector) at rest

  -- where the flag is taken, the sector is out
  pub flagged-off : (f : SectorState → SectorState) → ((state : SectorState) → test (f state) ≡ false) → (states : States) → Ascend states → flagged test (adjusted f states sector) ≡ but sector (flagged test states)
  unfolding IsStrictlySortedBy
  flagged-off f off [] sorted = refl
  flagged-off f off (entry ∷ states) sorted = go (is_at (nat_cmp sector) entry.0) refl (flagged-off f off states sorted.1)
    where
      go : (t : Bool) → is_at (nat_cmp sector) entry.0 ≡ t → flagged test (adjusted f states sector) ≡ but sector (flagged test states) → flagged test (if t then (entry.0, f entry.1) ∷ states else entry ∷ adjusted f states sector) ≡ but sector (flagged test (entry ∷ states))
      go true at rest = ap (λ t. keys_of (if t then (entry.0, f entry.1) ∷ filter (λ e. test e.1) states else filter (λ e. test e.1) states)) (off entry.1) ∙ out_at entry states at sorted.0
      go false at rest = past entry states (adjusted f states sector) at rest

  -- where it stays, so does the list
  pub flagged-same : (f : SectorState → SectorState) → ((state : SectorState) → test (f state) ≡ test state) → (states : States) → flagged test (adjusted f states sector) ≡ flagged test states
  flagged-same f same [] = refl
  flagged-same f same (entry ∷ states) = go (is_at (nat_cmp sector) entry.0) (flagged-same f same states)
    where
      go : (t : Bool) → flagged test (adjusted f states sector) ≡ flagged test states → flagged test (if t then (entry.0, f entry.1) ∷ states else entry ∷ adjusted f states sector) ≡ flagged test (entry ∷ states)
      go true rest = ap (λ t. keys_of (if t then (entry.0, f entry.1) ∷ filter (λ e. test e.1) states else filter (λ e. test e.1) states)) (same entry.1) ∙ here (test entry.1)
        where
          here : (t : Bool) → keys_of (if t then (entry.0, f entry.1) ∷ filter (λ e. test e.1) states else filter (λ e. test e.1) states) ≡ keys_of (if t then entry ∷ filter (λ e. test e.1) states else filter (λ e. test e.1) states)
          here true = refl
          here false = refl
      go false rest = here (test entry.1)
        where
          here : (t : Bool) → keys_of (if t then entry ∷ filter (λ e. test e.1) (adjusted f states sector) else filter (λ e. test e.1) (adjusted f states sector)) ≡ keys_of (if t then entry ∷ filter (λ e. test e.1) states else filter (λ e. test e.1) states)
          here true = ap (λ xs. entry.0 ∷ xs) rest
          here false = rest

  -- a sector that is set
  module _ (state : SectorState) where
    pub set-same : (states : States) → Ascend states → test state ≡ unwrap_or (option_map test (value_at states sector)) false → flagged test (with_value states sector state) ≡ flagged test states
    unfolding IsStrictlySortedBy
    set-same [] sorted is = ap (λ t. keys_of (if t then (sector, state) ∷ [] else [])) is
    set-same (entry ∷ states) sorted is = by_answer (nat_cmp sector entry.0)
        (λ e.
        let none : value_at (entry ∷ states) sector ≡ None = absent sector (entry ∷ states) (e, above_more sector entry.0 states e sorted.0) in
        ap (λ o. flagged test (match_ordering o ((sector, state) ∷ entry ∷ states) ((entry.0, state) ∷ states) (entry ∷ with_value states sector state))) e
        ∙ ap (λ t. keys_of (if t then (sector, state) ∷ filter (λ e. test e.1) (entry ∷ states) else filter (λ e. test e.1) (entry ∷ states))) (is ∙ ap (λ v. unwrap_or (option_map test v) false) none))
        (λ e.
        ap (λ o. flagged test (match_ordering o ((sector, state) ∷ entry ∷ states) ((entry.0, state) ∷ states) (entry ∷ with_value states sector state))) e
        ∙ ap (λ t. keys_of (if t then (entry.0, state) ∷ filter (λ e. test e.1) states else filter (λ e. test e.1) states)) (is ∙ ap (λ t. unwrap_or (option_map test (if t then Some entry.1 else value_at states sector)) false) (ap is_eq e))
        ∙ here (test entry.1))
        (λ e.
        ap (λ o. flagged test (match_ordering o ((sector, state) ∷ entry ∷ states) ((entry.0, state) ∷ states) (entry ∷ with_value states sector state))) e
        ∙ there (test entry.1) (set-same states sorted.1 (is ∙ ap (λ t. unwrap_or (option_map test (if t then Some entry.1 else value_at states sector)) false) (ap is_eq e))))
      where
        here : (t : Bool) → keys_of (if t then (entry.0, state) ∷ filter (λ e. test e.1) states else filter (λ e. test e.1) states) ≡ keys_of (if t then entry ∷ filter (λ e. test e.1) states else filter (λ e. test e.1) states)
        here true = refl
        here false = refl

        there : (t : Bool) → flagged test (with_value states sector state) ≡ flagged test states
            → keys_of (if t then entry ∷ filter (λ e. test e.1) (with_value states sector state) else filter (λ e. test e.1) (with_value states sector state)) ≡ keys_of (if t then entry ∷ filter (λ e. test e.1) states else filter (λ e. test e.1) states)
        there true rest = ap (λ xs. entry.0 ∷ xs) rest
        there false rest = rest

    pub set-off : (states : States) → Ascend states → test state ≡ false → flagged test (with_value states sector state) ≡ but sector (flagged test states)
    unfolding IsStrictlySortedBy
    set-off [] sorted is = ap (λ t. keys_of (if t then (sector, state) ∷ [] else [])) is
    set-off (entry ∷ states) sorted is = by_answer (nat_cmp sector entry.0)
        (λ e.
        ap (λ o. flagged test (match_ordering o ((sector, state) ∷ entry ∷ states) ((entry.0, state) ∷ states) (entry ∷ with_value states sector state))) e
        ∙ ap (λ t. keys_of (if t then (sector, state) ∷ filter (λ e. test e.1) (entry ∷ states) else filter (λ e. test e.1) (entry ∷ states))) is
        ∙ sym (but_above (entry ∷ states) (e, above_more sector entry.0 states e sorted.0)))
        (λ e.
        ap (λ o. flagged test (match_ordering o ((sector, state) ∷ entry ∷ states) ((entry.0, state) ∷ states) (entry ∷ with_value states sector state))) e
        ∙ ap (λ t. keys_of (if t then (entry.0, state) ∷ filter (λ e. test e.1) states else filter (λ e. test e.1) states)) is
        ∙ out_at entry states (ap is_eq e) sorted.0)
        (λ e.
        ap (λ o. flagged test (match_ordering o ((sector, state) ∷ entry ∷ states) ((entry.0, state) ∷ states) (entry ∷ with_value states sector state))) e
        ∙ past entry states (with_value states sector state) (ap is_eq e) (set-off states sorted.1 is))
