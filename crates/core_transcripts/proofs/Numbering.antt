-- Lines whose numbers are their own: the next line of a party, by what is answered, is that by the count of its answers.
use Rattle.std.proofs.Common.{ℕ, zero, suc, ◌≡◌, inl, inr, Bool, true, false, not, ◌&&◌, ◌||◌, ◌==◌, if◌then◌else◌, IsTrue, List, [], ◌∷◌, Some, None, filter, find, nat_eq, refl, sym, ap, ◌∙◌, subst, arith}
use Rattle.std.proofs.lemmas.Bool.{false≢true, eqb-true, eq-eqb, or_from, or_parts, and_parts, not-true}
use Rattle.std.proofs.lemmas.Bool.Decides.{nat_tests}
use Rattle.std.specs.List.{list_any, slice_get}
use Rattle.std.proofs.lemmas.Option.{same_Some}
use Rattle.disk_definitions.proofs.Listed.{Among}
use Rattle.frang_base.specs.Functions.{put}
use Rattle.frang_base.specs.declared.script.Line.{Line}
use Rattle.tree_definitions.specs.Live.{line_of}
use Rattle.tree_definitions.specs.Transcript.{lines_for}
use Rattle.core_definitions.specs.Scripts.{Marks, all_answered, all_marked, next_line}
use Rattle.core_transcripts.specs.Transcripts.{are_apart}

-- ---- tests

pub clash : {P : Type 0} (b : Bool) → b ≡ true → b ≡ false → P
clash true t f = absurd (false≢true (sym f))
clash false t f = absurd (false≢true t)

pub numbers_turn : (m n : ℕ) → nat_eq m n ≡ false → nat_eq n m ≡ false
numbers_turn m n e = grind (arith, nat_tests, e)

-- ---- the first that passes

pub found_in : {X : Type 0} (test : X → Bool) (xs : List X) (x : X) → find test xs ≡ Some x → Among x xs × (test x ≡ true)
found_in test [] x e = absurd (cc)
found_in test (y ∷ ys) x e = go (test y) refl (λ f. found_in test ys x f) e
  where
    go : (b : Bool) → test y ≡ b → (find test ys ≡ Some x → Among x ys × (test x ≡ true)) → (if b then Some y else find test ys) ≡ Some x → Among x (y ∷ ys) × (test x ≡ true)
    go true t behind e = let same : y ≡ x = same_Some y x e in (inl (sym same), subst (λ z. test z ≡ true) same t)
    go false t behind e = let r : Among x ys × (test x ≡ true) = behind e in (inr r.0, r.1)

pub none_found : {X : Type 0} (test : X → Bool) (xs : List X) → ((x : X) → Among x xs → test x ≡ false) → find test xs ≡ None
none_found test [] each = refl
none_found test (y ∷ ys) each = ap (λ b. if b then Some y else find test ys) (each y (inl refl)) ∙ none_found test ys (λ x i. each x (inr i))

-- of those that pass a first test
pub find_filter : {X : Type 0} (p q : X → Bool) (xs : List X) → find q (filter p xs) ≡ find (λ x. p x && q x) xs
find_filter p q [] = refl
find_filter p q (y ∷ ys) = go (p y) (find_filter p q ys)
  where
    go : (a : Bool) → find q (filter p ys) ≡ find (λ x. p x && q x) ys → find q (if a then y ∷ filter p ys else filter p ys) ≡ (if a && q y then Some y else find (λ x. p x && q x) ys)
    go true rest = ap (λ r. if q y then Some y else r) rest
    go false rest = rest

-- ---- numbers

-- a line of this number is among them
abbrev pub has_number : ℕ → List Line → Bool
has_number n lines = list_any (λ other. other.number == n) lines

pub number_in : (lines : List Line) (l : Line) → Among l lines → has_number l.number lines ≡ true
number_in [] l i = absurd i
number_in (m ∷ ms) l (inl e) = ap (λ b. b || has_number l.number ms) (subst (λ z. nat_eq z.number l.number ≡ true) e (eq-eqb l.number l.number refl))
number_in (m ∷ ms) l (inr i) = go (nat_eq m.number l.number) (number_in ms l i)
  where
    go : (b : Bool) → has_number l.number ms ≡ true → (b || has_number l.number ms) ≡ true
    go true h = refl
    go false h = h

-- in lines that are apart a line behind another has another number
other_number : (m : Line) (ms : List Line) (l : Line) → IsTrue (are_apart (m ∷ ms)) → Among l ms → nat_eq l.number m.number ≡ false
other_number m ms l apart i = go (nat_eq l.number m.number) refl
  where
    none : has_number m.number ms ≡ false
    none = not-true (has_number m.number ms) (and_parts (not (has_number m.number ms)) (are_apart ms) apart).0

    go : (b : Bool) → nat_eq l.number m.number ≡ b → b ≡ false
    go true e = clash (has_number m.number ms) (subst (λ n. has_number n ms ≡ true) (eqb-true l.number m.number e) (number_in ms l i)) none
    go false e = refl

apart_behind : (m : Line) (ms : List Line) → IsTrue (are_apart (m ∷ ms)) → IsTrue (are_apart ms)
apart_behind m ms apart = (and_parts (not (has_number m.number ms)) (are_apart ms) apart).1

-- the line of its number is the line itself
pub line_is : (script : List Line) (l : Line) → IsTrue (are_apart script) → Among l script → line_of script l.number ≡ Some l
line_is [] l apart i = absurd i
line_is (m ∷ ms) l apart (inl e) =
    ap (λ b. if b then Some m else line_of ms l.number) (subst (λ z. nat_eq m.number z.number ≡ true) (sym e) (eq-eqb m.number m.number refl)) ∙ ap Some (sym e)
line_is (m ∷ ms) l apart (inr i) =
    ap (λ b. if b then Some m else line_of ms l.number) (numbers_turn l.number m.number (other_number m ms l apart i)) ∙ line_is ms l (apart_behind m ms apart) i

-- nor have the lines of a party more numbers than all
fewer_numbers : (who n : ℕ) (lines : List Line) → has_number n lines ≡ false → has_number n (lines_for who lines) ≡ false
fewer_numbers who n [] h = refl
fewer_numbers who n (m ∷ ms) h =
    let r : (nat_eq m.number n ≡ false) × (has_number n ms ≡ false) = or_parts (nat_eq m.number n) (has_number n ms) h in
    go (nat_eq m.who.0 who) r.0 (fewer_numbers who n ms r.1)
  where
    go : (b : Bool) → nat_eq m.number n ≡ false → has_number n (lines_for who ms) ≡ false → has_number n (if b then m ∷ lines_for who ms else lines_for who ms) ≡ false
    go true one rest = or_from (nat_eq m.number n) (has_number n (lines_for who ms)) one rest
    go false one rest = rest

-- another party has no line of its number
pub others_without : (script : List Line) (l : Line) (who : ℕ) → IsTrue (are_apart script) → Among l script → nat_eq l.who.0 who ≡ false → has_number l.number (lines_for who script) ≡ false
others_without [] l who apart i other = absurd i
others_without (m ∷ ms) l who apart (inl e) other =
    go (nat_eq m.who.0 who) (subst (λ z. nat_eq z.who.0 who ≡ false) e other)
  where
    alone : has_number m.number ms ≡ false
    alone = not-true (has_number m.number ms) (and_parts (not (has_number m.number ms)) (are_apart ms) apart).0

    go : (b : Bool) → b ≡ false → has_number l.number (if b then m ∷ lines_for who ms else lines_for who ms) ≡ false
    go true f = absurd (false≢true (sym f))
    go false f = fewer_numbers who l.number ms (subst (λ n. has_number n ms ≡ false) (ap (λ z. z.number) (sym e)) alone)
others_without (m ∷ ms) l who apart (inr i) other = go (nat_eq m.who.0 who) (others_without ms l who (apart_behind m ms apart) i other)
  where
    go : (b : Bool) → has_number l.number (lines_for who ms) ≡ false → has_number l.number (if b then m ∷ lines_for who ms else lines_for who ms) ≡ false
    go true rest =
        or_from (nat_eq m.number l.number) (has_number l.number (lines_for who ms)) (numbers_turn l.number m.number (other_number m ms l apart i)) rest
    go false rest = rest

-- ---- the first so many are answered, and no other

abbrev pub AreFirst : Marks → List Line → ℕ → Type 0
AreFirst marks [] zero = Unit {0}
AreFirst marks [] (suc k) = ⊥
AreFirst marks (l ∷ ls) zero = (marks l.number ≡ false) × AreFirst marks ls zero
AreFirst marks (l ∷ ls) (suc k) = (marks l.number ≡ true) × AreFirst marks ls k

pub next_first : (marks : Marks) (lines : List Line) (k : ℕ) → AreFirst marks lines k → slice_get lines k ≡ find (λ l. not (marks l.number)) lines
next_first marks [] zero f = refl
next_first marks [] (suc k) f = absurd f
next_first marks (l ∷ ls) zero f = ap (λ b. if not b then Some l else find (λ m. not (marks m.number)) ls) (sym f.0)
next_first marks (l ∷ ls) (suc k) f = next_first marks ls k f.1 ∙ ap (λ b. if not b then Some l else find (λ m. not (marks m.number)) ls) (sym f.0)

pub none_marked : (lines : List Line) (marks : Marks) → ((n : ℕ) → marks n ≡ false) → AreFirst marks lines zero
none_marked [] marks none = tt
none_marked (l ∷ ls) marks none = (none l.number, none_marked ls marks none)

-- a number of none of them is marked
pub mark_other : (lines : List Line) (marks : Marks) (k n : ℕ) → has_number n lines ≡ false → AreFirst marks lines k → AreFirst (put marks n true) lines k
mark_other [] marks k n without f = f
mark_other (l ∷ ls) marks zero n without f =
    let w : (nat_eq l.number n ≡ false) × (has_number n ls ≡ false) = or_parts (nat_eq l.number n) (has_number n ls) without in
    (ap (λ b. if b then true else marks l.number) w.0 ∙ f.0, mark_other ls marks zero n w.1 f.1)
mark_other (l ∷ ls) marks (suc k) n without f =
    let w : (nat_eq l.number n ≡ false) × (has_number n ls ≡ false) = or_parts (nat_eq l.number n) (has_number n ls) without in
    (ap (λ b. if b then true else marks l.number) w.0 ∙ f.0, mark_other ls marks k n w.1 f.1)

-- the next one is marked
pub mark_next : (lines : List Line) (marks : Marks) (k : ℕ) (l : Line) → IsTrue (are_apart lines) → AreFirst marks lines k → find (λ m. not (marks m.number)) lines ≡ Some l →
    AreFirst (put marks l.number true) lines (suc k)
mark_next [] marks zero l apart f e = absurd (cc)
mark_next [] marks (suc k) l apart f e = absurd f
mark_next (m ∷ ms) marks zero l apart f e =
    let same : m ≡ l = same_Some m l (sym (ap (λ b. if not b then Some m else find (λ n. not (marks n.number)) ms) f.0) ∙ e) in
    let here : nat_eq m.number l.number ≡ true = subst (λ z. nat_eq m.number z.number ≡ true) same (eq-eqb m.number m.number refl) in (
      ap (λ b. if b then true else marks m.number) here,
      mark_other ms marks zero l.number (subst (λ z. has_number z.number ms ≡ false) same (not-true (has_number m.number ms) (and_parts (not (has_number m.number ms)) (are_apart ms) apart).0)) f.1,
    )
mark_next (m ∷ ms) marks (suc k) l apart f e =
    (marked (nat_eq m.number l.number), mark_next ms marks k l (apart_behind m ms apart) f.1 (sym (ap (λ b. if not b then Some m else find (λ n. not (marks n.number)) ms) f.0) ∙ e))
  where
    marked : (b : Bool) → (if b then true else marks m.number) ≡ true
    marked true = refl
    marked false = f.0

-- a party's lines are apart as the script's are
pub apart_for : (script : List Line) (who : ℕ) → IsTrue (are_apart script) → IsTrue (are_apart (lines_for who script))
apart_for [] who apart = refl
apart_for (m ∷ ms) who apart = go (nat_eq m.who.0 who) (apart_for ms who (apart_behind m ms apart))
  where
    alone : has_number m.number (lines_for who ms) ≡ false
    alone = fewer_numbers who m.number ms (not-true (has_number m.number ms) (and_parts (not (has_number m.number ms)) (are_apart ms) apart).0)

    both : (b : Bool) → b ≡ false → IsTrue (are_apart (lines_for who ms)) → IsTrue (not b && are_apart (lines_for who ms))
    both true f h = absurd (false≢true (sym f))
    both false f h = h

    go : (b : Bool) → IsTrue (are_apart (lines_for who ms)) → IsTrue (are_apart (if b then m ∷ lines_for who ms else lines_for who ms))
    go true rest = both (has_number m.number (lines_for who ms)) alone rest
    go false rest = rest

-- ---- the next line

-- by the count of answers, where the first so many of its lines are answered
pub next_by_count : (script : List Line) (marks : Marks) (who k : ℕ) → AreFirst marks (lines_for who script) k → slice_get (lines_for who script) k ≡ next_line script marks who
next_by_count script marks who k f =
    next_first marks (lines_for who script) k f ∙ find_filter (λ l. l.who.0 == who) (λ l. not (marks l.number)) script

-- it is answered: its party has one more
pub answered_more : (script : List Line) (marks : Marks) (who k : ℕ) (l : Line) → IsTrue (are_apart script) → next_line script marks who ≡ Some l → AreFirst marks (lines_for who script) k →
    AreFirst (put marks l.number true) (lines_for who script) (suc k)
answered_more script marks who k l apart next f =
    mark_next (lines_for who script) marks k l (apart_for script who apart) f (find_filter (λ m. m.who.0 == who) (λ m. not (marks m.number)) script ∙ next)

pub record OfNext (script : List Line) (marks : Marks) (who : ℕ) (l : Line) : Type 0 where
  pub there : Among l script
  pub his : nat_eq l.who.0 who ≡ true
  pub open_ : marks l.number ≡ false

pub of_next : (script : List Line) (marks : Marks) (who : ℕ) (l : Line) → next_line script marks who ≡ Some l → OfNext script marks who l
of_next script marks who l e =
    let r : Among l script × (((l.who.0 == who) && not (marks l.number)) ≡ true) = found_in (λ m. m.who.0 == who && not (marks m.number)) script l e in
    record {
      there = r.0;
      his = (and_parts (l.who.0 == who) (not (marks l.number)) r.1).0;
      open_ = not-true (marks l.number) (and_parts (l.who.0 == who) (not (marks l.number)) r.1).1;
    }

-- the others have as many as before
pub answered_others : (script : List Line) (marks : Marks) (who other k : ℕ) (l : Line) → IsTrue (are_apart script) → next_line script marks who ≡ Some l → nat_eq who other ≡ false →
    AreFirst marks (lines_for other script) k → AreFirst (put marks l.number true) (lines_for other script) k
answered_others script marks who other k l apart next apart_whos f =
    let n : OfNext script marks who l = of_next script marks who l next in
    mark_other (lines_for other script) marks k l.number
    (others_without script l other apart n.there (subst (λ w. nat_eq w other ≡ false) (sym (eqb-true l.who.0 who n.his)) apart_whos)) f

-- ---- all are answered

marked_in : (marks : Marks) (lines : List Line) (l : Line) → IsTrue (all_marked marks lines) → Among l lines → marks l.number ≡ true
marked_in marks [] l all i = absurd i
marked_in marks (m ∷ ms) l all (inl e) = subst (λ z. marks z.number ≡ true) (sym e) (and_parts (marks m.number) (all_marked marks ms) all).0
marked_in marks (m ∷ ms) l all (inr i) = marked_in marks ms l (and_parts (marks m.number) (all_marked marks ms) all).1 i

pub all_is_none : (script : List Line) (marks : Marks) (who : ℕ) (l : Line) → IsTrue (all_answered script marks) → next_line script marks who ≡ Some l → ⊥
all_is_none script marks who l all e =
    let n : OfNext script marks who l = of_next script marks who l e in clash (marks l.number) (marked_in marks script l all n.there) n.open_

-- more marks
pub more_marked : (lines : List Line) (marks : Marks) (n : ℕ) → IsTrue (all_marked marks lines) → IsTrue (all_marked (put marks n true) lines)
more_marked [] marks n h = h
more_marked (l ∷ ls) marks n h =
    go (nat_eq l.number n) (and_parts (marks l.number) (all_marked marks ls) h).0 (more_marked ls marks n (and_parts (marks l.number) (all_marked marks ls) h).1)
  where
    go : (b : Bool) → IsTrue (marks l.number) → IsTrue (all_marked (put marks n true) ls) → IsTrue ((if b then true else marks l.number) && all_marked (put marks n true) ls)
    go true m r = r
    go false m r = subst (λ c. IsTrue (c && all_marked (put marks n true) ls)) (sym m) r
