-- Picks one after another: the least blocks of state 0, each once, ascending, there exactly where there are so many.
use Rattle.std.proofs.Common.{ℕ, zero, suc, ◌≡◌, ◌≢◌, ◌<◌, ◌+◌, ◌/◌, ◌%◌, ◌⊎◌, inl, inr, ◌==◌, if◌then◌else◌, is_some, nat_le, Bool, true, false, Option, Some, None, List, [], ◌∷◌, length, refl, sym, ap, subst, ◌∙◌, arith}
use Rattle.std.proofs.lemmas.Bool.{cases_eq, cases_lt}
use Rattle.std.proofs.lemmas.Bool.Decides.{nat_tests}
use Rattle.std.proofs.lemmas.List.Elements.{All-nil, All-cons, All-weaker}
use Rattle.std.specs.List.{All, Contains}
use Rattle.std.specs.List.Sorted.{IsStrictlyIncreasing}
use Rattle.std.specs.Option.{option_map, option_and_then}
use Rattle.frang_base.specs.declared.bitmap.Bitmap.{Bitmap}
use Rattle.frang_base.proofs.Tests.{is_some-option_map}
use Rattle.disk_definitions.specs.Bitmaps.{block_state}
use Rattle.disk_definitions.proofs.Chosen.{chosen_same, chosen_other}
use Rattle.disk_definitions.specs.Least.{count}
use Rattle.disk_definitions.specs.Held.{Segments, bitmap_of, state_in}
use Rattle.disk_definitions.specs.Picks.{is_in_state, least_in_state, with_state_at, picks, picked_bytes, picked_many}
use Rattle.disk_definitions.specs.Taken.{taken_small}
use Rattle.disk_definitions.specs.PickLaws.{PicksTheLeast, PicksWhereThereAreEnough, PicksOneAfterAnother}
use Rattle.disk_definitions.proofs.LeastLaws.{least_some, least_nothing, least_same}
use Rattle.disk_definitions.proofs.PickCounts.{count_none, count_less_one}
use Rattle.disk_definitions.proofs.PickLaws.{state_is, not_state, held_there}
use Rattle.disk_definitions.proofs.TakenLaws.{small_is_changed}

pub no_picks : (states : ℕ → Option ℕ) → picks states 0 ≡ Some []
unfolding picks
no_picks states = refl

pub more_picks : (states : ℕ → Option ℕ) (n : ℕ) → picks states (suc n) ≡ option_and_then (λ b. option_map (λ bs. b ∷ bs) (picks (with_state_at states b 1) n)) (least_in_state 0 states)
unfolding picks
more_picks states n = refl

pub more_found : (states : ℕ → Option ℕ) (n b : ℕ) → least_in_state 0 states ≡ Some b → picks states (suc n) ≡ option_map (λ bs. b ∷ bs) (picks (with_state_at states b 1) n)
more_found states n b e = more_picks states n ∙ ap (option_and_then (λ b. option_map (λ bs. b ∷ bs) (picks (with_state_at states b 1) n))) e

pub more_missing : (states : ℕ → Option ℕ) (n : ℕ) → least_in_state 0 states ≡ None → picks states (suc n) ≡ None
more_missing states n e = more_picks states n ∙ ap (option_and_then (λ b. option_map (λ bs. b ∷ bs) (picks (with_state_at states b 1) n))) e

-- they go by which blocks have state 0
pub same_picks : (f g : ℕ → Option ℕ) (n : ℕ) → ((c : ℕ) → c < 65536 → is_in_state 0 (f c) ≡ is_in_state 0 (g c)) → picks f n ≡ picks g n
same_picks f g zero h = no_picks f ∙ sym (no_picks g)
same_picks f g (suc n) h =
    go (λ b. same_picks (with_state_at f b 1) (with_state_at g b 1) n (λ c l. one_by_one b c l)) (least_in_state 0 g) refl
  where
    one_by_one : (b c : ℕ) → c < 65536 → is_in_state 0 (with_state_at f b 1 c) ≡ is_in_state 0 (with_state_at g b 1 c)
    one_by_one b c l = over (c == b)
      where
        over : (t : Bool) → is_in_state 0 (if t then Some 1 else f c) ≡ is_in_state 0 (if t then Some 1 else g c)
        over true = refl
        over false = h c l

    go : ((b : ℕ) → picks (with_state_at f b 1) n ≡ picks (with_state_at g b 1) n) → (o : Option ℕ) → least_in_state 0 g ≡ o → picks f (suc n) ≡ picks g (suc n)
    go rest None e = more_missing f n (least_same (λ b. is_in_state 0 (f b)) (λ b. is_in_state 0 (g b)) 65536 h ∙ e) ∙ sym (more_missing g n e)
    go rest (Some b) e = more_found f n b (least_same (λ b. is_in_state 0 (f b)) (λ b. is_in_state 0 (g b)) 65536 h ∙ e) ∙ ap (option_map (λ bs. b ∷ bs)) (rest b) ∙ sym (more_found g n b e)

-- a block of state 0 once b is taken is another, and had it before
pub still_free : (states : ℕ → Option ℕ) (b c : ℕ) → with_state_at states b 1 c ≡ Some 0 → (c ≢ b) × (states c ≡ Some 0)
still_free states b c e = elim (cases_eq c b) [
  | inl i ↦ absurd (let z : Some 1 ≡ Some 0 = sym (chosen_same c b (Some 1) (states c) i) ∙ e in cc)
  | inr d ↦ (d, sym (chosen_other c b (Some 1) (states c) d) ∙ e)
]

-- a list with a lesser number before it still ascends
increasing_cons : (b : ℕ) (bs : List ℕ) → All (λ c. b < c) bs → IsStrictlyIncreasing bs → IsStrictlyIncreasing (b ∷ bs)
increasing_cons b bs above rises zero l = above 0 0 (omega arith)
increasing_cons b bs above rises (suc k) l =
    let e : suc k + 1 ≡ suc (k + 1) = omega arith in
    rw e (rises k (omega arith))

-- what is known of n picks of these states
abbrev AreTheLeast : (ℕ → Option ℕ) → ℕ → List ℕ → Type 0
AreTheLeast states n bs = (length bs ≡ n) × IsStrictlyIncreasing bs × All (λ b. (b < 65536) × (states b ≡ Some 0)) bs
    × ((c : ℕ) → c < 65536 → states c ≡ Some 0 → Contains bs c ⊎ All (λ b. b < c) bs)

contains_more : (b c : ℕ) (bs : List ℕ) → Contains bs c → Contains (b ∷ bs) c
contains_more b c bs h = (suc h.0, omega (arith, h.1), h.2)

-- a pick before others
pick_before : (states : ℕ → Option ℕ) (n b : ℕ) (bs : List ℕ) → least_in_state 0 states ≡ Some b → AreTheLeast (with_state_at states b 1) n bs → AreTheLeast states (suc n) (b ∷ bs)
pick_before states n b bs e h =
    let r = least_some (λ c. is_in_state 0 (states c)) 65536 b e in
    let above : All (λ c. b < c) bs = All-weaker (λ c. (c < 65536) × (with_state_at states b 1 c ≡ Some 0)) (λ c. b < c) (λ c p. higher r.2 c p.1) bs h.2 in (
      omega (arith, h.0),
      increasing_cons b bs above h.1,
      All-cons (λ c. (c < 65536) × (states c ≡ Some 0)) b bs (r.1, state_is 0 (states b) r.0)
          (All-weaker (λ c. (c < 65536) × (with_state_at states b 1 c ≡ Some 0)) (λ c. (c < 65536) × (states c ≡ Some 0)) (λ c p. (p.0, (still_free states b c p.1).1)) bs h.2),
      λ c l f. others r.2 c l f,
    )
  where
    higher : ((j : ℕ) → j < b → is_in_state 0 (states j) ≡ false) → (c : ℕ) → with_state_at states b 1 c ≡ Some 0 → b < c
    higher none c f = elim (cases_lt c b) [
      | inl low ↦ absurd (not_state 0 (states c) (none c low) (still_free states b c f).1)
      | inr high ↦ let d = (still_free states b c f).0 in grind arith
    ]

    others : ((j : ℕ) → j < b → is_in_state 0 (states j) ≡ false) → (c : ℕ) → c < 65536 → states c ≡ Some 0 → Contains (b ∷ bs) c ⊎ All (λ x. x < c) (b ∷ bs)
    others none c l f = elim (cases_eq c b) [
      | inl i ↦ inl (0, omega arith, sym i)
      | inr d ↦ elim (h.3 c l (chosen_other c b (Some 1) (states c) d ∙ f)) [
        | inl there ↦ inl (contains_more b c bs there)
        | inr below ↦ inr (All-cons (λ x. x < c) b bs (over none c d f) below)
      ]
    ]
      where
        over : ((j : ℕ) → j < b → is_in_state 0 (states j) ≡ false) → (c : ℕ) → c ≢ b → states c ≡ Some 0 → b < c
        over none c d f = elim (cases_lt c b) [
          | inl low ↦ absurd (not_state 0 (states c) (none c low) f)
          | inr high ↦ grind arith
        ]

pub are_the_least : (n : ℕ) (states : ℕ → Option ℕ) (bs : List ℕ) → picks states n ≡ Some bs → AreTheLeast states n bs
are_the_least zero states bs e =
    let i : ◌≡◌ {A = Option (List ℕ)} (Some []) (Some bs) = sym (no_picks states) ∙ e in
    let nil : [] ≡ bs = cc in
    subst (AreTheLeast states 0) nil (refl, λ k l. absurd (omega arith), All-nil (λ b. (b < 65536) × (states b ≡ Some 0)), λ c l f. inr (All-nil (λ b. b < c)))
are_the_least (suc n) states bs e = go (λ b cs. are_the_least n (with_state_at states b 1) cs) (least_in_state 0 states) refl
  where
    join : (b : ℕ) → least_in_state 0 states ≡ Some b → ((cs : List ℕ) → picks (with_state_at states b 1) n ≡ Some cs → AreTheLeast (with_state_at states b 1) n cs)
        → (o : Option (List ℕ)) → picks (with_state_at states b 1) n ≡ o → option_map (λ cs. b ∷ cs) o ≡ Some bs → AreTheLeast states (suc n) bs
    join b i rest None p q = absurd (cc)
    join b i rest (Some cs) p q = let s : b ∷ cs ≡ bs = cc in subst (AreTheLeast states (suc n)) s (pick_before states n b cs i (rest cs p))

    go : ((b : ℕ) (cs : List ℕ) → picks (with_state_at states b 1) n ≡ Some cs → AreTheLeast (with_state_at states b 1) n cs) → (o : Option ℕ) → least_in_state 0 states ≡ o → AreTheLeast states (suc n) bs
    go rest None i = absurd (let z : None ≡ Some bs = sym (more_missing states n i) ∙ e in cc)
    go rest (Some b) i = join b i (rest b) (picks (with_state_at states b 1) n) refl (sym (more_found states n b i) ∙ e)

pub picks_the_least : PicksTheLeast
picks_the_least held n bs e = are_the_least n (state_in held) bs e

-- how many blocks have state 0
abbrev free : (ℕ → Option ℕ) → ℕ
free states = count (λ b. is_in_state 0 (states b)) 65536

one_less : (states : ℕ → Option ℕ) (b : ℕ) → least_in_state 0 states ≡ Some b → free states ≡ free (with_state_at states b 1) + 1
one_less states b e =
    let r = least_some (λ c. is_in_state 0 (states c)) 65536 b e in
    count_less_one (λ c. is_in_state 0 (states c)) (λ c. is_in_state 0 (with_state_at states b 1 c)) 65536 b r.1 r.0
    (ap (is_in_state 0) (chosen_same b b (Some 1) (states b) refl))
    (λ q l d. ap (is_in_state 0) (chosen_other q b (Some 1) (states q) d))

one_more_each : (n m : ℕ) → nat_le (suc n) (m + 1) ≡ nat_le n m
one_more_each n m = grind (arith, nat_tests)

pub enough : (n : ℕ) (states : ℕ → Option ℕ) → is_some (picks states n) ≡ nat_le n (free states)
enough zero states = ap is_some (no_picks states) ∙ sym (none_needed (free states))
  where
    none_needed : (m : ℕ) → nat_le 0 m ≡ true
    none_needed m = grind (arith, nat_tests)
enough (suc n) states = go (λ b. enough n (with_state_at states b 1)) (least_in_state 0 states) refl
  where
    too_few : (m : ℕ) → m ≡ 0 → nat_le (suc n) m ≡ false
    too_few m e = grind (arith, nat_tests)

    go : ((b : ℕ) → is_some (picks (with_state_at states b 1) n) ≡ nat_le n (free (with_state_at states b 1))) → (o : Option ℕ) → least_in_state 0 states ≡ o → is_some (picks states (suc n)) ≡ nat_le (suc n) (free states)
    go rest None e =
        let none : free states ≡ 0 = count_none (λ b. is_in_state 0 (states b)) 65536 (least_nothing (λ b. is_in_state 0 (states b)) 65536 e) in
        ap is_some (more_missing states n e) ∙ sym (too_few (free states) none)
    go rest (Some b) e =
        ap is_some (more_found states n b e) ∙ is_some-option_map (λ bs. b ∷ bs) (picks (with_state_at states b 1) n) ∙ rest b
        ∙ sym (one_more_each n (free (with_state_at states b 1))) ∙ ap (nat_le (suc n)) (sym (one_less states b e))

pub where_there_are_enough : PicksWhereThereAreEnough
where_there_are_enough held n = enough n (state_in held)

-- a held segment is there where one of its blocks has a state
pub is_held : (held : Segments) (b state : ℕ) → state_in held b ≡ Some state → is_some (bitmap_of held (b / 1024)) ≡ true
is_held held b state e = ap is_some (held_there (λ (x : Bitmap). block_state x (b % 1024)) (bitmap_of held (b / 1024)) state e).1

pub one_after_another : PicksOneAfterAnother
one_after_another held n are = go (least_in_state 0 (state_in held)) refl
  where
    go : (o : Option ℕ) → least_in_state 0 (state_in held) ≡ o → picked_many held (suc n) ≡ option_and_then (λ b. option_map (λ bs. b ∷ bs) (picked_many (taken_small held b 1) n)) (picked_bytes held)
    go None e = more_missing (state_in held) n e ∙ sym (ap (option_and_then (λ b. option_map (λ bs. b ∷ bs) (picked_many (taken_small held b 1) n))) e)
    go (Some b) e =
        let r = least_some (λ c. is_in_state 0 (state_in held c)) 65536 b e in
        let there = is_held held b 0 (state_is 0 (state_in held b) r.0) in
        let taken = (small_is_changed held b 1 are (omega arith) there).0 in
        more_found (state_in held) n b e
        ∙ ap (option_map (λ bs. b ∷ bs)) (same_picks (with_state_at (state_in held) b 1) (state_in (taken_small held b 1)) n (λ c l. ap (is_in_state 0) (sym (taken c))))
        ∙ sym (ap (option_and_then (λ b. option_map (λ bs. b ∷ bs) (picked_many (taken_small held b 1) n))) e)
