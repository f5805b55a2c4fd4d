-- What the kept places say: what is answered before a number, and where the next lines are once one more is answered.
use Rattle.std.proofs.Common.{IfSome, ◌≡◌, ℕ, suc, ◌+◌, ◌<◌, ◌≤◌, ◌==◌, Bool, true, false, not, ◌&&◌, if◌then◌else◌, List, [], ◌∷◌, drop, filter, length, set, get_or, Option, Some, None, nat_le, nat_lt, refl, sym, ap, ◌∙◌, subst, add-zero, zero-add, arith, inl, inr, ◌⊎◌}
use Rattle.std.specs.Prelude.{find, is_none, IsSomeAnd}
use Rattle.std.specs.List.{AllByRecursion, list_all, position_or_len}
use Rattle.std.proofs.lemmas.Bool.{and_parts, cases_eq, false≢true}
use Rattle.std.proofs.lemmas.Bool.Decides.{nat_tests}
use Rattle.std.proofs.lemmas.List.{get_or-set_same, get_or-set_other, length-set}
use Rattle.std.proofs.lemmas.List.Sums.{prefix_len-le-length}
use Rattle.std.proofs.lemmas.Option.{same_Some}
use Rattle.frang_base.specs.declared.script.Line.{Line}
use Rattle.tree_definitions.specs.Transcript.{lines_before, lines_for}
use Rattle.core_definitions.specs.Scripts.{Marks, all_marked, next_line}
use Rattle.world_definitions.specs.Worlds.{marks_of}
use Rattle.script_places.specs.Placed.{all_above, ascends, is_next_of, is_unanswered, IsMarked, IsPlaced, Placed}
use Rattle.script_places.proofs.Marking.{found_marked}

clash : {P : Type 0} (b : Bool) → b ≡ true → b ≡ false → P
clash true t f = absurd (false≢true (sym f))
clash false t f = absurd (false≢true t)

-- ---- ascending lines

above-filter : (p : Line → Bool) (n : ℕ) (xs : List Line) → all_above n xs ≡ true → all_above n (filter p xs) ≡ true
above-filter p n [] all = refl
above-filter p n (x ∷ xs) all = go (p x) (and_parts (nat_lt n x.number) (all_above n xs) all).0 (above-filter p n xs (and_parts (nat_lt n x.number) (all_above n xs) all).1)
  where
    go : (b : Bool) → nat_lt n x.number ≡ true → all_above n (filter p xs) ≡ true → all_above n (if b then x ∷ filter p xs else filter p xs) ≡ true
    go true above rest = ap (λ b. b && all_above n (filter p xs)) above ∙ rest
    go false above rest = rest

ascends-filter : (p : Line → Bool) (xs : List Line) → ascends xs ≡ true → ascends (filter p xs) ≡ true
ascends-filter p [] up = refl
ascends-filter p (x ∷ xs) up = go (p x) (above-filter p x.number xs (and_parts (all_above x.number xs) (ascends xs) up).0) (ascends-filter p xs (and_parts (all_above x.number xs) (ascends xs) up).1)
  where
    go : (b : Bool) → all_above x.number (filter p xs) ≡ true → ascends (filter p xs) ≡ true → ascends (if b then x ∷ filter p xs else filter p xs) ≡ true
    go true above rest = ap (λ b. b && ascends (filter p xs)) above ∙ rest
    go false above rest = rest

-- the line that is found among lines above a number is above it
found_above : (p : Line → Bool) (n : ℕ) (xs : List Line) (x : Line) → all_above n xs ≡ true → find p xs ≡ Some x → nat_lt n x.number ≡ true
found_above p n [] x all e = cc
found_above p n (y ∷ ys) x all e = go (p y) (and_parts (nat_lt n y.number) (all_above n ys) all).0 (found_above p n ys x (and_parts (nat_lt n y.number) (all_above n ys) all).1) e
  where
    go : (b : Bool) → nat_lt n y.number ≡ true → (find p ys ≡ Some x → nat_lt n x.number ≡ true) → (if b then Some y else find p ys) ≡ Some x → nat_lt n x.number ≡ true
    go true above rest e = subst (λ z. nat_lt n z.number ≡ true) (same_Some y x e) above
    go false above rest e = rest e

find_filter : (p q : Line → Bool) (xs : List Line) → find q (filter p xs) ≡ find (λ x. p x && q x) xs
find_filter p q [] = refl
find_filter p q (y ∷ ys) = go (p y) (find_filter p q ys)
  where
    go : (a : Bool) → find q (filter p ys) ≡ find (λ x. p x && q x) ys → find q (if a then y ∷ filter p ys else filter p ys) ≡ (if a && q y then Some y else find (λ x. p x && q x) ys)
    go true rest = ap (λ r. if q y then Some y else r) rest
    go false rest = rest

-- ---- what is answered before a number

-- no line is left below the number
abbrev pub is_behind : Option Line → ℕ → Bool
is_behind None number = true
is_behind (Some line) number = nat_le number line.number

below_first : (a n k : ℕ) → nat_lt n a ≡ true → nat_le k n ≡ true → nat_lt a k ≡ false
below_first a n k above below = grind (arith, nat_tests, above, below)

le_is : (k n : ℕ) → nat_lt n k ≡ false → nat_le k n ≡ true
le_is k n e = grind (arith, nat_tests, e)

lt_is : (k n : ℕ) → nat_lt n k ≡ true → nat_le k n ≡ false
lt_is k n e = grind (arith, nat_tests, e)

module _ (m : Marks) where
  none_before : (n k : ℕ) (xs : List Line) → all_above n xs ≡ true → nat_le k n ≡ true → all_marked m (lines_before k xs) ≡ true
  none_before n k [] all below = refl
  none_before n k (x ∷ xs) all below =
      ap (λ b. all_marked m (if b then x ∷ lines_before k xs else lines_before k xs)) (below_first x.number n k (and_parts (nat_lt n x.number) (all_above n xs) all).0 below)
      ∙ none_before n k xs (and_parts (nat_lt n x.number) (all_above n xs) all).1 below

  -- all lines before a number have their marks exactly where the first without one isn't before it
  pub unmarked_first : (k : ℕ) (xs : List Line) → ascends xs ≡ true → is_behind (find (is_unanswered m) xs) k ≡ all_marked m (lines_before k xs)
  unmarked_first k [] up = refl
  unmarked_first k (x ∷ xs) up = go (m x.number) refl (nat_lt x.number k) refl (unmarked_first k xs (and_parts (all_above x.number xs) (ascends xs) up).1)
    where
      Rest : List Line
      Rest = lines_before k xs

      go : (b : Bool) → m x.number ≡ b → (c : Bool) → nat_lt x.number k ≡ c → is_behind (find (is_unanswered m) xs) k ≡ all_marked m Rest
          → is_behind (if not b then Some x else find (is_unanswered m) xs) k ≡ all_marked m (if c then x ∷ Rest else Rest)
      go true marked true before rest = rest ∙ sym (ap (λ b. b && all_marked m Rest) marked)
      go true marked false before rest = rest
      go false unmarked true before rest = lt_is k x.number before ∙ sym (ap (λ b. b && all_marked m Rest) unmarked)
      go false unmarked false before rest = le_is k x.number before ∙ sym (none_before x.number k xs (and_parts (all_above x.number xs) (ascends xs) up).0 (le_is k x.number before))

  -- the same of one party's lines
  pub next_first : (who k : ℕ) (xs : List Line) → ascends xs ≡ true → is_behind (next_line xs m who) k ≡ all_marked m (lines_before k (lines_for who xs))
  next_first who k xs up =
      ap (λ o. is_behind o k) (sym (find_filter (λ line. line.who.0 == who) (is_unanswered m) xs))
      ∙ unmarked_first k (lines_for who xs) (ascends-filter (λ line. line.who.0 == who) xs up)

  pub none_unmarked : (xs : List Line) → is_none (find (is_unanswered m) xs) ≡ all_marked m xs
  none_unmarked [] = refl
  none_unmarked (x ∷ xs) = go (m x.number) (none_unmarked xs)
    where
      go : (b : Bool) → is_none (find (is_unanswered m) xs) ≡ all_marked m xs → is_none (if not b then Some x else find (is_unanswered m) xs) ≡ (b && all_marked m xs)
      go true rest = rest
      go false rest = refl

-- ---- where the next lines are once one more is answered

one_plus : (n : ℕ) → 1 + n ≡ suc n
one_plus n = omega arith

-- what passes a narrower test is looked for from the first on that passes the wider one
pub position_on : (p q : Line → Bool) → ((x : Line) → q x ≡ true → p x ≡ true) → (xs : List Line) → position_or_len q xs ≡ position_or_len p xs + position_or_len q (drop (position_or_len p xs) xs)
position_on p q narrower [] = refl
position_on p q narrower (x ∷ xs) = go (p x) refl (position_on p q narrower xs)
  where
    failed : (b : Bool) → q x ≡ b → p x ≡ false → q x ≡ false
    failed false is fails = is
    failed true is fails = clash (p x) (narrower x is) fails

    shifted : (i n j : ℕ) → n ≡ i + j → 1 + n ≡ (1 + i) + j
    shifted i n j e = omega arith

    go : (b : Bool) → p x ≡ b → position_or_len q xs ≡ position_or_len p xs + position_or_len q (drop (position_or_len p xs) xs)
        → position_or_len q (x ∷ xs) ≡ (if not b then 1 + position_or_len p xs else 0) + position_or_len q (drop (if not b then 1 + position_or_len p xs else 0) (x ∷ xs))
    go true is rest = sym (zero-add (position_or_len q (x ∷ xs)))
    go false is rest = ap (λ b. if not b then 1 + position_or_len q xs else 0) (failed (q x) refl is)
        ∙ shifted (position_or_len p xs) (position_or_len q xs) (position_or_len q (drop (position_or_len p xs) xs)) rest
        ∙ ap (λ i. (1 + position_or_len p xs) + position_or_len q (drop i (x ∷ xs))) (sym (one_plus (position_or_len p xs)))

pub position_same : (p q : Line → Bool) (xs : List Line) → AllByRecursion (λ x. p x ≡ q x) xs → position_or_len p xs ≡ position_or_len q xs
position_same p q [] all = refl
position_same p q (x ∷ xs) all = λ i. if not (all.0 i) then 1 + position_same p q xs all.1 i else 0

same_number : (a b : ℕ) → nat_lt a b ≡ true → a ≡ b → ⊥
same_number a b below same = clash (nat_lt a b) below (not_below a b same)
  where
    not_below : (a b : ℕ) → a ≡ b → nat_lt a b ≡ false
    not_below a b e = grind (arith, nat_tests)

-- a line more has its mark
module _ (m after : Marks) (n : ℕ) (own : after n ≡ true) (others : (k : ℕ) → (k ≡ n → ⊥) → after k ≡ m k) where
  -- who isn't marked afterwards wasn't before
  pub was_unmarked : (k : ℕ) → after k ≡ false → m k ≡ false
  was_unmarked k e = sym (others k (λ same. clash (after n) own (ap after (sym same) ∙ e))) ∙ e

  same_above : (w : ℕ) (xs : List Line) → all_above n xs ≡ true → AllByRecursion (λ line. is_next_of after w line ≡ is_next_of m w line) xs
  same_above w [] all = tt
  same_above w (x ∷ xs) all = (
    ap (λ b. x.who.0 == w && not b) (others x.number (λ same. same_number n x.number (and_parts (nat_lt n x.number) (all_above n xs) all).0 (sym same))),
    same_above w xs (and_parts (nat_lt n x.number) (all_above n xs) all).1,
  )

  -- of another party than the one whose next line it is, no line is told otherwise
  pub others_same : (who w : ℕ) → (w ≡ who → ⊥) → (xs : List Line) (found : Line) → ascends xs ≡ true → next_line xs m who ≡ Some found → found.number ≡ n → AllByRecursion (λ line. is_next_of after w line ≡ is_next_of m w line) xs
  others_same who w apart [] found up e is = tt
  others_same who w apart (x ∷ xs) found up e is =
      go (is_next_of m who x) refl (and_parts (all_above x.number xs) (ascends xs) up).0 (others_same who w apart xs found (and_parts (all_above x.number xs) (ascends xs) up).1) e
    where
      unequal : (a : ℕ) → (a == who) ≡ true → (a == w) ≡ false
      unequal a same = unequal_by a who w same apart
        where
          unequal_by : (a b c : ℕ) → (a == b) ≡ true → (c ≡ b → ⊥) → (a == c) ≡ false
          unequal_by a b c same apart = grind (arith, nat_tests)

      go : (b : Bool) → is_next_of m who x ≡ b → all_above x.number xs ≡ true → (next_line xs m who ≡ Some found → found.number ≡ n → AllByRecursion (λ line. is_next_of after w line ≡ is_next_of m w line) xs)
          → (if b then Some x else next_line xs m who) ≡ Some found → (is_next_of after w x ≡ is_next_of m w x) × AllByRecursion (λ line. is_next_of after w line ≡ is_next_of m w line) xs
      go true passes above rest e =
          let other = unequal x.who.0 (and_parts (x.who.0 == who) (not (m x.number)) passes).0 in (
            ap (λ b. b && not (after x.number)) other ∙ sym (ap (λ b. b && not (m x.number)) other),
            same_above w xs (subst (λ k. all_above k xs ≡ true) (ap (λ line. line.number) (same_Some x found e) ∙ is) above),
          )
      go false fails above rest e =
          (ap (λ b. x.who.0 == w && not b) (others x.number (λ same. same_number x.number n (subst (λ k. nat_lt x.number k ≡ true) is (found_above (is_next_of m who) x.number xs found above e)) same)), rest e is)

-- ---- before anything is answered

module _ (m : Marks) (none : (k : ℕ) → m k ≡ false) where
  pub first_of_all : (xs : List Line) → position_or_len (is_unanswered m) xs ≡ 0
  first_of_all [] = refl
  first_of_all (x ∷ xs) = ap (λ b. if not (not b) then 1 + position_or_len (is_unanswered m) xs else 0) (none x.number)

  pub first_of_party : (who : ℕ) (xs : List Line) → position_or_len (λ line. line.who.0 == who) xs ≡ position_or_len (is_next_of m who) xs
  first_of_party who xs = position_same (λ line. line.who.0 == who) (is_next_of m who) xs (each xs)
    where
      plain : (b : Bool) → b ≡ (b && true)
      plain true = refl
      plain false = refl

      each : (xs : List Line) → AllByRecursion (λ line. (line.who.0 == who) ≡ is_next_of m who line) xs
      each [] = tt
      each (x ∷ xs) = (plain (x.who.0 == who) ∙ ap (λ b. x.who.0 == who && not b) (sym (none x.number)), each xs)

pub position_most : (p : Line → Bool) (xs : List Line) → position_or_len p xs ≤ length xs
position_most p xs = prefix_len-le-length (λ x. not (p x)) xs

-- ---- the places once one more is answered

pub some_and : {X : Type 0} (o : Option X) (P : X → Type 0) → IsSomeAnd o P → (x : X) × (o ≡ Some x) × P x
some_and None P h = absurd h
some_and (Some x) P h = (x, refl, h)

lt_of : (a b : ℕ) → nat_lt a b ≡ true → a < b
lt_of a b e = grind (arith, nat_tests, e)

pub placed_after : (script : List Line) (answered after passed : List Bool) (next : List ℕ) (first who number at start : ℕ) (found : Line) → IsPlaced script answered passed next first → who < 256
    → next_line script (marks_of answered) who ≡ Some found → found.number ≡ number → after ≡ set answered number true
    → at ≡ get_or next who 0 + position_or_len (is_next_of (marks_of after) who) (drop (get_or next who 0) script) → start ≡ first + position_or_len (is_unanswered (marks_of after)) (drop first script)
    → IsPlaced script after passed (set next who at) start
placed_after script answered after passed next first who number at start found placed party found_is number_is marked at_is start_is = record {
  ascending = placed.ascending;
  marked = subst (λ k. list_all (λ line. nat_lt line.number k) script ≡ true) (sym (ap length marked ∙ length-set answered number true)) placed.marked;
  passing = placed.passing ∙ sym (ap length marked ∙ length-set answered number true);
  long = length-set next who at ∙ placed.long;
  each = λ w inside. each w inside (cases_eq w who);
  start = start_is ∙ ap (λ i. i + position_or_len (is_unanswered new) (drop i script)) placed.start ∙ sym (position_on (is_unanswered old) (is_unanswered new) (λ x e. unmarked_before x.number e) script);
}
  where
    old : Marks
    old = marks_of answered

    new : Marks
    new = marks_of after

    below : number < length answered
    below = lt_of number (length answered) (subst (λ n. nat_lt n (length answered) ≡ true) number_is (found_marked (is_next_of old who) (length answered) script found placed.marked found_is))

    own : new number ≡ true
    own = ap (λ marks. get_or marks number false) marked ∙ get_or-set_same answered number true false below

    others : (k : ℕ) → (k ≡ number → ⊥) → new k ≡ old k
    others k apart = ap (λ marks. get_or marks k false) marked ∙ get_or-set_other answered number k true false apart

    unmarked_before : (k : ℕ) → not (new k) ≡ true → not (old k) ≡ true
    unmarked_before k e = ap not (was_unmarked old new number own others k (unset (new k) e))
      where
        unset : (b : Bool) → not b ≡ true → b ≡ false
        unset false e = refl
        unset true e = absurd (false≢true e)

    narrower : (x : Line) → is_next_of new who x ≡ true → is_next_of old who x ≡ true
    narrower x e =
        let parts = and_parts (x.who.0 == who) (not (new x.number)) e in
        ap (λ b. b && not (old x.number)) parts.0 ∙ unmarked_before x.number parts.1

    each : (w : ℕ) → w < 256 → (w ≡ who) ⊎ (w ≡ who → ⊥) → get_or (set next who at) w 0 ≡ position_or_len (is_next_of new w) script
    each w inside (inl same) = ap (λ s. get_or (set next who at) s 0) same ∙ get_or-set_same next who at 0 (omega (arith, placed.long)) ∙ at_is
        ∙ ap (λ i. i + position_or_len (is_next_of new who) (drop i script)) (placed.each who party) ∙ sym (position_on (is_next_of old who) (is_next_of new who) narrower script)
        ∙ ap (λ s. position_or_len (is_next_of new s) script) (sym same)
    each w inside (inr apart) = get_or-set_other next who w at 0 apart ∙ placed.each w inside
        ∙ sym (position_same (is_next_of new w) (is_next_of old w) script (others_same old new number own others who w apart script found placed.ascending found_is number_is))

-- a party's next line has both its marks
pub next_is_marked : (placed : Placed) (who : ℕ) (next : List ℕ) (first : ℕ) (line : Option Line) → IsPlaced placed.script placed.answered placed.passed next first
    → line ≡ next_line placed.script (marks_of placed.answered) who → IfSome line (IsMarked placed)
next_is_marked placed who next first None kept is = tt
next_is_marked placed who next first (Some line) kept is =
    let below : line.number < length placed.answered =
    lt_of line.number (length placed.answered) (found_marked (is_next_of (marks_of placed.answered) who) (length placed.answered) placed.script line kept.marked (sym is)) in
    record { answered = below; passed = subst (λ n. line.number < n) (sym kept.passing) below }

-- ---- the first lines of all parties

-- of the lines from a place on these are the first of the parties
abbrev pub AreFirst : List ℕ → ℕ → List Line → Type 0
AreFirst places at lines = (who : ℕ) → who < 256 → get_or places who 0 ≡ at + position_or_len (λ line. line.who.0 == who) (drop at lines)

-- of all lines
pub first_whole : (places : List ℕ) (at : ℕ) (lines : List Line) → at ≤ 0 → AreFirst places at lines → (who : ℕ) → who < 256 → get_or places who 0 ≡ position_or_len (λ line. line.who.0 == who) lines
first_whole places at lines none first who inside = first who inside ∙ ap (λ a. a + position_or_len (λ line. line.who.0 == who) (drop a lines)) (least at none) ∙ zero-add (position_or_len (λ line. line.who.0 == who) lines)
  where
    least : (a : ℕ) → a ≤ 0 → a ≡ 0
    least a e = omega arith

-- none is left behind the last line
pub first_past : (lines : List Line) (places : List ℕ) → ((who : ℕ) → who < 256 → get_or places who 0 ≡ length lines) → AreFirst places (length lines) lines
first_past lines places all who inside = all who inside ∙ sym (add-zero (length lines)) ∙ ap (λ xs. length lines + position_or_len (λ line. line.who.0 == who) xs) (sym (drop_all lines))
  where
    drop_all : (xs : List Line) → drop (length xs) xs ≡ []
    drop_all [] = refl
    drop_all (x ∷ xs) = drop_all xs

-- one line more to the front
pub first_before : (places : List ℕ) (at : ℕ) (lines : List Line) (line : Line) → length places ≡ 256 → line.who.0 < 256 → drop at lines ≡ line ∷ drop (at + 1) lines → AreFirst places (at + 1) lines → AreFirst (set places line.who.0 at) at lines
first_before places at lines line long party here first who inside =
    go (line.who.0 == who) refl ∙ ap (λ xs. at + position_or_len (λ line. line.who.0 == who) xs) (sym here)
  where
    Later : ℕ
    Later = position_or_len (λ line. line.who.0 == who) (drop (at + 1) lines)

    same_party : (a b : ℕ) → (a == b) ≡ true → b ≡ a
    same_party a b e = grind (arith, nat_tests, e)

    other_party : (a b : ℕ) → (a == b) ≡ false → b ≡ a → ⊥
    other_party a b e same = grind (arith, nat_tests, e)

    further : (a n : ℕ) → (a + 1) + n ≡ a + (1 + n)
    further a n = omega arith

    go : (b : Bool) → (line.who.0 == who) ≡ b → get_or (set places line.who.0 at) who 0 ≡ at + (if not (line.who.0 == who) then 1 + Later else 0)
    go true is = ap (λ w. get_or (set places line.who.0 at) w 0) (same_party line.who.0 who is) ∙ get_or-set_same places line.who.0 at 0 (omega (arith, long)) ∙ sym (add-zero at) ∙ ap (λ b. at + (if not b then 1 + Later else 0)) (sym is)
    go false is = get_or-set_other places line.who.0 who at 0 (other_party line.who.0 who is) ∙ first who inside ∙ further at Later ∙ ap (λ b. at + (if not b then 1 + Later else 0)) (sym is)
