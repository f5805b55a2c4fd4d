-- One step of a search for the least number, and of the picks one after another.
use Rattle.std.proofs.Common.{ℕ, suc, ◌≡◌, ◌<◌, ◌≤◌, ◌+◌, ◌-◌, inl, inr, nat_lt, if◌then◌else◌, Bool, true, false, Option, Some, None, List, [], ◌∷◌, ◌++◌, refl, sym, ap, subst, ◌∙◌, arith, append_assoc, append-nil}
use Rattle.std.proofs.lemmas.Bool.{cases_eq, cases_lt}
use Rattle.std.proofs.lemmas.Bool.Decides.{nat_tests}
use Rattle.std.specs.Option.{option_map}
use Rattle.disk_definitions.proofs.Chosen.{chosen_same, chosen_other}
use Rattle.disk_definitions.specs.Least.{least_from}
use Rattle.disk_definitions.specs.Picks.{is_in_state, least_in_state, with_state_at, picks}
use Rattle.disk_definitions.proofs.LeastLaws.{from_some, from_nothing, found_at, passed_to, least_at, nothing_below}
use Rattle.disk_definitions.proofs.ManyLaws.{no_picks, more_found, more_missing, same_picks}

-- ---- segment after segment, each by the places in it
module _ (test : ℕ → Bool) (size base start end : ℕ) (want : Option ℕ) (within : base + size ≤ end) (low : start ≤ size)
    (rest : least_from test (base + start) (end - (base + start)) ≡ want) where
  by_place : (from to : ℕ) → to ≤ size → ((j : ℕ) → from ≤ j → j < to → test (base + j) ≡ false) → (q : ℕ) → base + from ≤ q → q < base + to → test q ≡ false
  by_place from to fits none q lo hi =
      let e : base + (q - base) ≡ q = omega arith in
      subst (λ x. test x ≡ false) e (none (q - base) (omega arith) (omega arith))

  pub segment_found : (j : ℕ) → least_from (λ j. test (base + j)) start (size - start) ≡ Some j → Some (base + j) ≡ want
  segment_found j e =
      let r = from_some (λ j. test (base + j)) start (size - start) j e in
      let lo : start ≤ j = r.1 in
      let hi : j < start + (size - start) = r.2 in
      sym (found_at test (base + start) (base + j) end (omega arith) (omega arith) r.0 (by_place start j (omega arith) r.3)) ∙ rest

  pub segment_passed : least_from (λ j. test (base + j)) start (size - start) ≡ None → least_from test (base + size) (end - (base + size)) ≡ want
  segment_passed e =
      sym (passed_to test (base + start) (base + size) end (omega arith) (omega arith) (by_place start size (omega arith) (λ j lo hi. from_nothing (λ j. test (base + j)) start (size - start) e j lo (omega arith)))) ∙ rest

-- ---- pick after pick: the states of the blocks from one on
abbrev pub left : (ℕ → Option ℕ) → ℕ → ℕ → Option ℕ
left states from c = if nat_lt c from then None else states c

below_left : (states : ℕ → Option ℕ) (from c : ℕ) → c < from → is_in_state 0 (left states from c) ≡ false
below_left states from c l = let t : nat_lt c from ≡ true = grind (arith, nat_tests) in ap (λ (b : Bool). is_in_state 0 (if b then None else states c)) t

above_left : (states : ℕ → Option ℕ) (from c : ℕ) → from ≤ c → left states from c ≡ states c
above_left states from c l = let t : nat_lt c from ≡ false = grind (arith, nat_tests) in ap (λ (b : Bool). if b then None else states c) t

pub all_left : (states : ℕ → Option ℕ) (n : ℕ) → picks (left states 0) n ≡ picks states n
all_left states n = same_picks (left states 0) states n (λ c l. ap (is_in_state 0) (above_left states 0 c (omega arith)))

left_least : (states : ℕ → Option ℕ) (from b : ℕ) → from ≤ 65536 → least_from (λ c. is_in_state 0 (states c)) from (65536 - from) ≡ Some b → least_in_state 0 (left states from) ≡ Some b
left_least states from b l e =
    let r = from_some (λ c. is_in_state 0 (states c)) from (65536 - from) b e in
    let lo : from ≤ b = r.1 in
    let hi : b < from + (65536 - from) = r.2 in
    least_at (λ c. is_in_state 0 (left states from c)) b 65536 (omega arith) (ap (is_in_state 0) (above_left states from b lo) ∙ r.0)
    (λ c m. elim (cases_lt c from) [ inl k ↦ below_left states from c k | inr k ↦ ap (is_in_state 0) (above_left states from c k) ∙ r.3 c k m ])

left_none : (states : ℕ → Option ℕ) (from : ℕ) → from ≤ 65536 → least_from (λ c. is_in_state 0 (states c)) from (65536 - from) ≡ None → least_in_state 0 (left states from) ≡ None
left_none states from l e = nothing_below (λ c. is_in_state 0 (left states from c)) 65536 (λ c m. elim (cases_lt c from) [
  | inl k ↦ below_left states from c k
  | inr k ↦ ap (is_in_state 0) (above_left states from c k) ∙ from_nothing (λ c. is_in_state 0 (states c)) from (65536 - from) e c k (omega arith)
])

-- the picks go on behind the block that was picked
left_taken : (states : ℕ → Option ℕ) (from b n : ℕ) → from ≤ b → ((c : ℕ) → from ≤ c → c < b → is_in_state 0 (states c) ≡ false) → picks (with_state_at (left states from) b 1) n ≡ picks (left states (b + 1)) n
left_taken states from b n lo none = same_picks (with_state_at (left states from) b 1) (left states (b + 1)) n (λ c l. each c)
  where
    early : (c : ℕ) → c < b → is_in_state 0 (left states from c) ≡ false
    early c m = elim (cases_lt c from) [ inl k ↦ below_left states from c k | inr k ↦ ap (is_in_state 0) (above_left states from c k) ∙ none c k m ]

    each : (c : ℕ) → is_in_state 0 (with_state_at (left states from) b 1 c) ≡ is_in_state 0 (left states (b + 1) c)
    each c = elim (cases_eq c b) [
      | inl i ↦ ap (is_in_state 0) (chosen_same c b (Some 1) (left states from c) i) ∙ sym (below_left states (b + 1) c (omega arith))
      | inr d ↦ ap (is_in_state 0) (chosen_other c b (Some 1) (left states from c) d) ∙ elim (cases_lt c b) [
        | inl m ↦ early c m ∙ sym (below_left states (b + 1) c (omega arith))
        | inr m ↦ let h : b + 1 ≤ c = grind arith in ap (is_in_state 0) (above_left states from c (omega arith) ∙ sym (above_left states (b + 1) c h))
      ]
    ]

pub pick_found : (states : ℕ → Option ℕ) (picked : List ℕ) (from b n : ℕ) (want : Option (List ℕ)) → from ≤ 65536 → least_from (λ c. is_in_state 0 (states c)) from (65536 - from) ≡ Some b
    → option_map (λ bs. picked ++ bs) (picks (left states from) (suc n)) ≡ want → (b < 65536) × (option_map (λ bs. (picked ++ b ∷ []) ++ bs) (picks (left states (b + 1)) n) ≡ want)
pick_found states picked from b n want l e h =
    let r = from_some (λ c. is_in_state 0 (states c)) from (65536 - from) b e in
    let lo : from ≤ b = r.1 in
    let hi : b < from + (65536 - from) = r.2 in
    let more : picks (left states from) (suc n) ≡ option_map (λ bs. b ∷ bs) (picks (left states (b + 1)) n) =
    more_found (left states from) n b (left_least states from b l e) ∙ ap (option_map (λ bs. b ∷ bs)) (left_taken states from b n lo r.3) in
    (omega arith, over (picks (left states (b + 1)) n) ∙ ap (option_map (λ bs. picked ++ bs)) (sym more) ∙ h)
  where
    over : (o : Option (List ℕ)) → option_map (λ bs. (picked ++ b ∷ []) ++ bs) o ≡ option_map (λ bs. picked ++ bs) (option_map (λ bs. b ∷ bs) o)
    over None = refl
    over (Some bs) = ap Some (append_assoc picked (b ∷ []) bs)

pub pick_missing : (states : ℕ → Option ℕ) (picked : List ℕ) (from n : ℕ) (want : Option (List ℕ)) → from ≤ 65536 → least_from (λ c. is_in_state 0 (states c)) from (65536 - from) ≡ None
    → option_map (λ bs. picked ++ bs) (picks (left states from) (suc n)) ≡ want → None ≡ want
pick_missing states picked from n want l e h = ap (option_map (λ bs. picked ++ bs)) (sym (more_missing (left states from) n (left_none states from l e))) ∙ h

pub picks_done : (states : ℕ → Option ℕ) (picked : List ℕ) (from : ℕ) (want : Option (List ℕ)) → option_map (λ bs. picked ++ bs) (picks (left states from) 0) ≡ want → Some picked ≡ want
picks_done states picked from want h = ap Some (sym (append-nil picked)) ∙ ap (option_map (λ bs. picked ++ bs)) (sym (no_picks (left states from))) ∙ h
