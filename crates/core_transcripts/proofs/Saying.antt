-- What one more line that is said does to what the lines said tell.
use Rattle.std.proofs.Common.{ℕ, suc, ◌≡◌, ◌+◌, Bool, true, false, ◌&&◌, ◌||◌, if◌then◌else◌, List, [], ◌∷◌, ◌++◌, filter, length, refl, sym, ap, ◌∙◌, subst, arith}
use Rattle.std.proofs.lemmas.List.Folds.{list_any-append}
use Rattle.std.specs.List.{list_any}
use Rattle.frang_base.specs.declared.said.Said.{Said}
use Rattle.frang_base.specs.declared.script.Line.{Line}
use Rattle.tree_definitions.specs.Transcript.{Faults, ServerState, after_said, are_answered, answers, dirty_after, dirty_from, first_state, may_be_dirty, state_from, state_of}
use Rattle.core_definitions.specs.Scripts.{Marks, all_marked}
use Rattle.core_transcripts.specs.Transcripts.{EachMay}

one_later : (place n : ℕ) → place + suc n ≡ (place + 1) + n
one_later place n = omega arith

none_later : (place : ℕ) → place + 0 ≡ place
none_later place = omega arith

from_push : (script : List Line) (f : Faults) (a place : ℕ) (t : ServerState) (saids : List Said) (x : Said) →
    state_from script f a place t (saids ++ x ∷ []) ≡ after_said script a (f (place + length saids) a) (state_from script f a place t saids) x
from_push script f a place t [] x = ap (λ p. after_said script a (f p a) t x) (sym (none_later place))
from_push script f a place t (y ∷ ys) x =
    from_push script f a (place + 1) (after_said script a (f place a) t y) ys x
    ∙ ap (λ p. after_said script a (f p a) (state_from script f a (place + 1) (after_said script a (f place a) t y) ys) x) (sym (one_later place (length ys)))

from_first : (n : ℕ) → 0 + n ≡ n
from_first n = omega arith

-- a server, one line later
pub state_push : (script : List Line) (f : Faults) (a : ℕ) (saids : List Said) (x : Said) →
    state_of script f a (saids ++ x ∷ []) ≡ after_said script a (f (length saids) a) (state_of script f a saids) x
state_push script f a saids x =
    from_push script f a 0 first_state saids x ∙ ap (λ p. after_said script a (f p a) (state_of script f a saids) x) (from_first (length saids))

dirty_push_from : (script : List Line) (a : ℕ) (d : Bool) (saids : List Said) (x : Said) → dirty_from script a d (saids ++ x ∷ []) ≡ dirty_after script a (dirty_from script a d saids) x
dirty_push_from script a d [] x = refl
dirty_push_from script a d (y ∷ ys) x = dirty_push_from script a (dirty_after script a d y) ys x

pub dirty_push : (script : List Line) (a : ℕ) (saids : List Said) (x : Said) → may_be_dirty script a (saids ++ x ∷ []) ≡ dirty_after script a (may_be_dirty script a saids) x
dirty_push script a saids x = dirty_push_from script a false saids x

or_none : (b c : Bool) → (b || (c || false)) ≡ (b || c)
or_none true c = refl
or_none false true = refl
or_none false false = refl

-- whether some line passes
pub any_push : (test : Said → Bool) (saids : List Said) (x : Said) → list_any test (saids ++ x ∷ []) ≡ (list_any test saids || test x)
any_push test saids x = list_any-append test saids (x ∷ []) ∙ or_none (list_any test saids) (test x)

-- how many pass
pub count_push : (test : Said → Bool) (saids : List Said) (x : Said) → length (filter test (saids ++ x ∷ [])) ≡ (if test x then suc (length (filter test saids)) else length (filter test saids))
count_push test [] x = go (test x)
  where
    go : (b : Bool) → length (if b then x ∷ [] else []) ≡ (if b then suc 0 else 0)
    go true = refl
    go false = refl
count_push test (y ∷ ys) x = go (test y) (test x) (count_push test ys x)
  where
    go : (a b : Bool) → length (filter test (ys ++ x ∷ [])) ≡ (if b then suc (length (filter test ys)) else length (filter test ys)) →
        length (if a then y ∷ filter test (ys ++ x ∷ []) else filter test (ys ++ x ∷ [])) ≡ (if b then suc (length (if a then y ∷ filter test ys else filter test ys)) else length (if a then y ∷ filter test ys else filter test ys))
    go true true e = ap suc e
    go true false e = ap suc e
    go false b e = e

pub length_push : {X : Type 0} (xs : List X) (x : X) → length (xs ++ x ∷ []) ≡ suc (length xs)
length_push [] x = refl
length_push (y ∷ ys) x = ap suc (length_push ys x)

append_right : {X : Type 0} (xs ys zs : List X) → (xs ++ ys) ++ zs ≡ xs ++ (ys ++ zs)
append_right [] ys zs = refl
append_right (x ∷ xs) ys zs = ap (λ l. x ∷ l) (append_right xs ys zs)

-- each line may be said, one later too
pub each_push : (rule : List Said → Said → Type 0) (before saids : List Said) (x : Said) → EachMay rule before saids → rule (before ++ saids) x → EachMay rule before (saids ++ x ∷ [])
each_push rule before [] x each may = (subst (λ b. rule b x) (nil_right before) may, tt)
  where
    nil_right : (xs : List Said) → xs ++ [] ≡ xs
    nil_right [] = refl
    nil_right (y ∷ ys) = ap (λ l. y ∷ l) (nil_right ys)
each_push rule before (y ∷ ys) x each may = (each.0, each_push rule (before ++ y ∷ []) ys x each.1 (subst (λ b. rule b x) (sym (append_right before (y ∷ []) ys)) may))

-- lines are answered where their numbers are marked
pub are_marked : (marks : Marks) (saids : List Said) (lines : List Line) → ((n : ℕ) → list_any (answers n) saids ≡ marks n) → are_answered lines saids ≡ all_marked marks lines
are_marked marks saids [] same = refl
are_marked marks saids (l ∷ ls) same = go (list_any (answers l.number) saids) (marks l.number) (same l.number) (are_marked marks saids ls same)
  where
    go : (a b : Bool) → a ≡ b → are_answered ls saids ≡ all_marked marks ls → (a && are_answered ls saids) ≡ (b && all_marked marks ls)
    go a b e rest = ap (λ c. c && are_answered ls saids) e ∙ ap (λ r. b && r) rest
