-- The place of a server or of the host in a script: its lines that are answered, and those that aren't, of which the first is its next.
use Rattle.std.proofs.Common.{◌≡◌, ℕ, ◌⊎◌, inl, inr, Bool, true, false, not, ◌&&◌, ◌==◌, cond, if◌then◌else◌, List, [], ◌∷◌, ◌++◌, Option, Some, None, IsTrue, filter, find, nat_eq, nat_lt, refl, sym, ap, ◌∙◌, subst, arith}
use Rattle.std.proofs.lemmas.Bool.{false≢true, eqb-true, and_from, and_parts, eq-eqb}
use Rattle.std.proofs.lemmas.Bool.Decides.{nat_tests}
use Rattle.std.specs.List.{AllByRecursion}
use Rattle.disk_definitions.proofs.Listed.{Among, among_right, among_filtered}
use Rattle.frang_base.specs.Functions.{put}
use Rattle.frang_base.specs.declared.script.Line.{Line}
use Rattle.frang_base.proofs.Lists.{all_append}
use Rattle.tree_definitions.specs.Transcript.{lines_before, lines_for}
use Rattle.core_definitions.specs.Scripts.{Marks, all_marked, next_line}
use Rattle.core_laws.proofs.Flying.{Once, filtered_once}
use Rattle.core_laws.proofs.Membership.{into_map}
use Rattle.core_transcripts.specs.Answers.{answered_by, answered_lines, numbers_of}

-- ---- lists

-- what is so of each element, and follows of each that is there, is so of each
pub all_there : {X : Type 0} {P Q : X → Type 0} (xs : List X) → ((x : X) → Among x xs → P x → Q x) → AllByRecursion P xs → AllByRecursion Q xs
all_there [] f all = tt
all_there (x ∷ xs) f all = (f x (inl refl) all.0, all_there xs (λ y i. f y (inr i)) all.1)

later_once : (xs ys : List Line) → Once (numbers_of (xs ++ ys)) → Once (numbers_of ys)
later_once [] ys o = o
later_once (x ∷ xs) ys o = later_once xs ys o.1

-- ---- own numbers

-- two lines of one number are one
pub own_line : (script : List Line) → Once (numbers_of script) → (l m : Line) → Among l script → Among m script → l.number ≡ m.number → l ≡ m
own_line [] o l m i j e = absurd i
own_line (x ∷ xs) o l m (inl a) (inl b) e = a ∙ sym b
own_line (x ∷ xs) o l m (inl a) (inr j) e = absurd (o.0 (subst (λ n. Among n (numbers_of xs)) (sym e ∙ ap (λ y. y.number) a) (into_map (λ y. y.number) xs m j)))
own_line (x ∷ xs) o l m (inr i) (inl b) e = absurd (o.0 (subst (λ n. Among n (numbers_of xs)) (e ∙ ap (λ y. y.number) b) (into_map (λ y. y.number) xs l i)))
own_line (x ∷ xs) o l m (inr i) (inr j) e = own_line xs o.1 l m i j e

-- ---- marks

put_same : (marks : Marks) (n : ℕ) → put marks n true n ≡ true
put_same marks n = ap (λ b. if b then true else marks n) (eq-eqb n n refl)

pub put_more : (marks : Marks) (n m : ℕ) → marks m ≡ true → put marks n true m ≡ true
put_more marks n m e = go (nat_eq m n)
  where
    go : (b : Bool) → (if b then true else marks m) ≡ true
    go true = refl
    go false = e

pub put_other : (marks : Marks) (n m : ℕ) → (m ≡ n → ⊥) → put marks n true m ≡ marks m
put_other marks n m apart = go (nat_eq m n) refl
  where
    same : nat_eq m n ≡ true → m ≡ n
    same e = grind (arith, nat_tests, e)

    go : (b : Bool) → nat_eq m n ≡ b → (if b then true else marks m) ≡ marks m
    go true e = absurd (apart (same e))
    go false e = refl

-- a number that is marked then was marked, or is this one
pub put_cases : (marks : Marks) (n m : ℕ) → put marks n true m ≡ true → (m ≡ n) ⊎ (marks m ≡ true)
put_cases marks n m e = go (nat_eq m n) refl e
  where
    same : nat_eq m n ≡ true → m ≡ n
    same e = grind (arith, nat_tests, e)

    go : (b : Bool) → nat_eq m n ≡ b → (if b then true else marks m) ≡ true → (m ≡ n) ⊎ (marks m ≡ true)
    go true f e = inl (same f)
    go false f e = inr e

pub more_marked : (marks : Marks) (n : ℕ) (lines : List Line) → IsTrue (all_marked marks lines) → IsTrue (all_marked (put marks n true) lines)
more_marked marks n [] h = refl
more_marked marks n (l ∷ ls) h = and_from (put marks n true l.number) (all_marked (put marks n true) ls) (put_more marks n l.number (and_parts (marks l.number) (all_marked marks ls) h).0) (more_marked marks n ls (and_parts (marks l.number) (all_marked marks ls) h).1)

pub marked_there : (marks : Marks) (lines : List Line) (line : Line) → IsTrue (all_marked marks lines) → Among line lines → IsTrue (marks line.number)
marked_there marks [] line h i = absurd i
marked_there marks (l ∷ ls) line h i = go (marks l.number) refl (marked_there marks ls line) h i
  where
    go : (b : Bool) → marks l.number ≡ b → (IsTrue (all_marked marks ls) → Among line ls → IsTrue (marks line.number)) →
        IsTrue (b && all_marked marks ls) → Among line (l ∷ ls) → IsTrue (marks line.number)
    go true e rest h (inl same) = subst (λ x. IsTrue (marks x.number)) (sym same) e
    go true e rest h (inr j) = rest h j
    go false e rest h i = absurd (false≢true h)

-- where all lines before a number are marked, those of one party before it are
pub party_marked : (marks : Marks) (who number : ℕ) (script : List Line) → IsTrue (all_marked marks (lines_before number script)) →
    IsTrue (all_marked marks (lines_before number (lines_for who script)))
party_marked marks who number [] h = refl
party_marked marks who number (l ∷ ls) h = go (nat_lt l.number number) refl (l.who.0 == who) (party_marked marks who number ls) h
  where
    all : List Line
    all = lines_before number ls

    own : List Line
    own = lines_before number (lines_for who ls)

    go : (b : Bool) → nat_lt l.number number ≡ b → (w : Bool) → (IsTrue (all_marked marks all) → IsTrue (all_marked marks own)) →
        IsTrue (all_marked marks (cond b (l ∷ all) all)) →
        IsTrue (all_marked marks (lines_before number (cond w (l ∷ lines_for who ls) (lines_for who ls))))
    go true e false rest h = rest (and_parts (marks l.number) (all_marked marks all) h).1
    go false e false rest h = rest h
    go true e true rest h =
        subst (λ c. IsTrue (all_marked marks (cond c (l ∷ own) own))) (sym e)
        (and_from (marks l.number) (all_marked marks own) (and_parts (marks l.number) (all_marked marks all) h).0 (rest (and_parts (marks l.number) (all_marked marks all) h).1))
    go false e true rest h = subst (λ c. IsTrue (all_marked marks (cond c (l ∷ own) own))) (sym e) (rest h)

-- ---- the place of a party

abbrev pub first_line : List Line → Option Line
first_line [] = None
first_line (line ∷ lines) = Some line

-- its lines are those that are answered, whose numbers these are, and then those that aren't
pub record IsAt (script : List Line) (marks : Marks) (numbers : List ℕ) (who : ℕ) (rest : List Line) : Type 0 where
  pub done : List Line
  pub lines : lines_for who script ≡ done ++ rest
  pub numbers_are : numbers_of done ≡ numbers
  pub marked : AllByRecursion (λ line. marks line.number ≡ true) done
  pub open_ : AllByRecursion (λ line. marks line.number ≡ false) rest

-- at first nothing is answered
pub at_first : (script : List Line) (marks : Marks) (who : ℕ) → ((n : ℕ) → marks n ≡ false) → IsAt script marks [] who (lines_for who script)
at_first script marks who none = record { done = []; lines = refl; numbers_are = refl; marked = tt; open_ = each (lines_for who script) }
  where
    each : (lines : List Line) → AllByRecursion (λ line. marks line.number ≡ false) lines
    each [] = tt
    each (line ∷ lines) = (none line.number, each lines)

find_both : (p q : Line → Bool) (lines : List Line) → find (λ line. p line && q line) lines ≡ find q (filter p lines)
find_both p q [] = refl
find_both p q (l ∷ ls) = go (p l) (q l) refl (find_both p q ls)
  where
    go : (a b : Bool) → q l ≡ b → find (λ line. p line && q line) ls ≡ find q (filter p ls) →
        cond (a && b) (Some l) (find (λ line. p line && q line) ls) ≡ find q (cond a (l ∷ filter p ls) (filter p ls))
    go false b e rest = rest
    go true true e rest = ap (λ c. cond c (Some l) (find q (filter p ls))) (sym e)
    go true false e rest = rest ∙ ap (λ c. cond c (Some l) (find q (filter p ls))) (sym e)

find_open : (marks : Marks) (done rest : List Line) → AllByRecursion (λ line. marks line.number ≡ true) done →
    AllByRecursion (λ line. marks line.number ≡ false) rest →
    find (λ line. not (marks line.number)) (done ++ rest) ≡ first_line rest
find_open marks [] [] m o = refl
find_open marks [] (r ∷ rs) m o = ap (λ b. cond (not b) (Some r) (find (λ line. not (marks line.number)) rs)) o.0
find_open marks (d ∷ ds) rest m o = ap (λ b. cond (not b) (Some d) (find (λ line. not (marks line.number)) (ds ++ rest))) m.0 ∙ find_open marks ds rest m.1 o

-- its next line is the first of the rest
pub next_is : (script : List Line) (marks : Marks) (numbers : List ℕ) (who : ℕ) (rest : List Line) → IsAt script marks numbers who rest →
    next_line script marks who ≡ first_line rest
next_is script marks numbers who rest at =
    find_both (λ line. line.who.0 == who) (λ line. not (marks line.number)) script ∙ ap (find (λ line. not (marks line.number))) at.lines ∙ find_open marks at.done rest at.marked at.open_

-- a line of the rest is one of the script, and the party's
pub in_rest : (script : List Line) (marks : Marks) (numbers : List ℕ) (who : ℕ) (rest : List Line) → IsAt script marks numbers who rest →
    (line : Line) → Among line rest → Among line script × (line.who.0 ≡ who)
in_rest script marks numbers who rest at line i =
    let f : Among line script × IsTrue (line.who.0 == who) = among_filtered (λ l. l.who.0 == who) script line (subst (Among line) (sym at.lines) (among_right line at.done rest i)) in
    (f.0, eqb-true line.who.0 who f.1)

-- the next line is answered
pub own_answer : (script : List Line) → Once (numbers_of script) → (marks : Marks) (numbers : List ℕ) (who : ℕ) (line : Line) (rest : List Line) →
    IsAt script marks numbers who (line ∷ rest) →
    IsAt script (put marks line.number true) (numbers ++ line.number ∷ []) who rest
own_answer script once marks numbers who line rest at = record {
  done = at.done ++ line ∷ [];
  lines = at.lines ∙ regroup at.done;
  numbers_are = joined at.done ∙ ap (λ ns. ns ++ line.number ∷ []) at.numbers_are;
  marked = all_append (λ l. put marks line.number true l.number ≡ true) at.done (line ∷ []) (all_there at.done (λ l i e. put_more marks line.number l.number e) at.marked) (put_same marks line.number, tt);
  open_ = all_there rest (λ l i e. put_other marks line.number l.number (apart l i) ∙ e) at.open_.1;
}
  where
    regroup : (done : List Line) → done ++ line ∷ rest ≡ (done ++ line ∷ []) ++ rest
    regroup [] = refl
    regroup (d ∷ ds) = ap (λ xs. d ∷ xs) (regroup ds)

    joined : (done : List Line) → numbers_of (done ++ line ∷ []) ≡ numbers_of done ++ line.number ∷ []
    joined [] = refl
    joined (d ∷ ds) = ap (λ ns. d.number ∷ ns) (joined ds)

    apart : (l : Line) → Among l rest → l.number ≡ line.number → ⊥
    apart l i e =
        (later_once at.done (line ∷ rest) (subst (λ ls. Once (numbers_of ls)) at.lines (filtered_once (λ l. l.number) (λ l. l.who.0 == who) script once))).0
        (subst (λ n. Among n (numbers_of rest)) e (into_map (λ l. l.number) rest l i))

-- a line of another party is answered
pub other_answer : (script : List Line) → Once (numbers_of script) → (marks : Marks) (numbers : List ℕ) (who : ℕ) (rest : List Line) (line : Line) →
    Among line script → (line.who.0 ≡ who → ⊥) →
    IsAt script marks numbers who rest → IsAt script (put marks line.number true) numbers who rest
other_answer script once marks numbers who rest line there away at = record {
  done = at.done;
  lines = at.lines;
  numbers_are = at.numbers_are;
  marked = all_there at.done (λ l i e. put_more marks line.number l.number e) at.marked;
  open_ = all_there rest (λ l i e. put_other marks line.number l.number (apart l i) ∙ e) at.open_;
}
  where
    apart : (l : Line) → Among l rest → l.number ≡ line.number → ⊥
    apart l i e =
        let r : Among l script × (l.who.0 ≡ who) = in_rest script marks numbers who rest at l i in
        away (ap (λ x. x.who.0) (sym (own_line script once l line r.0 there e)) ∙ r.1)

-- ---- who answered

pub answers_joined : (who : ℕ) (answers : List (ℕ × ℕ)) (a number : ℕ) → a ≡ who →
    answered_by who (answers ++ (a, number) ∷ []) ≡ answered_by who answers ++ number ∷ []
answers_joined who [] a number e = ap (λ b. answered_lines (cond b ((a, number) ∷ []) [])) (same a e)
  where
    same : (a : ℕ) → a ≡ who → (a == who) ≡ true
    same a e = grind (arith, nat_tests, e)
answers_joined who (x ∷ xs) a number e = go (x.0 == who) (answers_joined who xs a number e)
  where
    go : (b : Bool) → answered_by who (xs ++ (a, number) ∷ []) ≡ answered_by who xs ++ number ∷ [] →
        answered_lines (cond b (x ∷ filter (λ answer. answer.0 == who) (xs ++ (a, number) ∷ [])) (filter (λ answer. answer.0 == who) (xs ++ (a, number) ∷ []))) ≡
        answered_lines (cond b (x ∷ filter (λ answer. answer.0 == who) xs) (filter (λ answer. answer.0 == who) xs)) ++ number ∷ []
    go true rest = ap (λ ns. x.1 ∷ ns) rest
    go false rest = rest

pub answers_other : (who : ℕ) (answers : List (ℕ × ℕ)) (a number : ℕ) → (a ≡ who → ⊥) → answered_by who (answers ++ (a, number) ∷ []) ≡ answered_by who answers
answers_other who [] a number away = ap (λ b. answered_lines (cond b ((a, number) ∷ []) [])) (differ a away)
  where
    differ : (a : ℕ) → (a ≡ who → ⊥) → (a == who) ≡ false
    differ a away = grind (arith, nat_tests, away)
answers_other who (x ∷ xs) a number away = go (x.0 == who) (answers_other who xs a number away)
  where
    go : (b : Bool) → answered_by who (xs ++ (a, number) ∷ []) ≡ answered_by who xs →
        answered_lines (cond b (x ∷ filter (λ answer. answer.0 == who) (xs ++ (a, number) ∷ [])) (filter (λ answer. answer.0 == who) (xs ++ (a, number) ∷ []))) ≡
        answered_lines (cond b (x ∷ filter (λ answer. answer.0 == who) xs) (filter (λ answer. answer.0 == who) xs))
    go true rest = ap (λ ns. x.1 ∷ ns) rest
    go false rest = rest
