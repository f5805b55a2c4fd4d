-- Whole histories, with their recoveries.
use Rattle.std.proofs.Common.{ℕ, ◌≡◌, ◌+◌, ◌-◌, true, false, ◌&&◌, List, [], ◌∷◌, ◌++◌, map, refl, sym, ◌∙◌, ap, subst, inl, inr, nat_eq, arith}
use Rattle.std.specs.List.{AllByRecursion, IsDistinct}
use Rattle.std.proofs.lemmas.Bool.{and_parts}
use Rattle.frang_base.specs.declared.sector.OpNo.{OpNo}
use Rattle.frang_base.specs.declared.sector.ServerId.{ServerId}
use Rattle.tree_definitions.specs.declared.history.Entry.{Entry}
use Rattle.tree_definitions.specs.declared.history.Item.{Item}
use Rattle.tree_definitions.specs.declared.history.Item.TheVariants.{Did, Recovered}
use Rattle.tree_definitions.specs.Tree.{FileTree, count_of, dir_blocks}
use Rattle.tree_definitions.specs.History.{Opening, Settled, Stays, InDoubt, grows, may_stand, legal_from, tree_after}
use Rattle.tree_definitions.specs.Removal.{settled, keeps, keeps_known, kept_from, is_legal, tree_of}
use Rattle.tree_definitions.specs.WellFormed.{IsWellFormed, IsNew, AreNew, numbers_of}
use Rattle.tree_laws.specs.Settling.{entries_of, entries_left, IsSublist, HasNoRecovery}
use Rattle.tree_laws.specs.Removing.{room_left}
use Rattle.tree_laws.specs.Whole.{AreAllNew, HasNoDoubt}
use Rattle.tree_laws.proofs.SettlingLaws.{settled_is_of, settles}
use Rattle.tree_laws.proofs.StepsLaws.{after_all_keeps}
use Rattle.tree_laws.proofs.HistoryLaws.{settled-recovered, kept-recovered}
use Rattle.tree_laws.proofs.RemovingLaws.{recovery_leaves_legal}

abbrev number : Entry → ℕ
number e = e.number.0

numbers_are : (list : List Settled) → numbers_of list ≡ map number (entries_left list)
numbers_are [] = refl
numbers_are (Stays e ∷ list) = ap (λ l. e.number.0 ∷ l) (numbers_are list)
numbers_are (InDoubt runs ∷ list) = numbers_are list

-- what holds of all holds of some
sub_all : (P : ℕ → Type 0) (xs ys : List Entry) → IsSublist xs ys → AllByRecursion P (map number ys) → AllByRecursion P (map number xs)
sub_all P [] ys s a = tt
sub_all P (x ∷ xs) [] s a = absurd s
sub_all P (x ∷ xs) (y ∷ ys) (inl p) a = (subst (λ e. P (number e)) (sym p.0) a.0, sub_all P xs ys p.1 a.1)
sub_all P (x ∷ xs) (y ∷ ys) (inr s) a = sub_all P (x ∷ xs) ys s a.1

sub_distinct : (xs ys : List Entry) → IsSublist xs ys → IsDistinct nat_eq (map number ys) → IsDistinct nat_eq (map number xs)
unfolding IsDistinct
sub_distinct [] ys s d = tt
sub_distinct (x ∷ xs) [] s d = absurd s
sub_distinct (x ∷ xs) (y ∷ ys) (inl p) d = (subst (λ e. AllByRecursion (λ n. nat_eq (number e) n ≡ false) (map number xs)) (sym p.0) (sub_all (λ n. nat_eq (number y) n ≡ false) xs ys p.1 d.0), sub_distinct xs ys p.1 d.1)
sub_distinct (x ∷ xs) (y ∷ ys) (inr s) d = sub_distinct (x ∷ xs) ys s d.1

pub settled_new : (t : FileTree) (history : List Item) → AreAllNew t history → AreNew t (settled t history)
settled_new t history n =
    let s = settled_is_of t history in
    record {
      absent = subst (AllByRecursion (IsNew t)) (sym (numbers_are (settled t history))) (sub_all (IsNew t) (entries_left (settled t history)) (entries_of history) s n.absent);
      distinct = subst (IsDistinct nat_eq) (sym (numbers_are (settled t history))) (sub_distinct (entries_left (settled t history)) (entries_of history) s n.distinct);
    }

pub histories_stay : (opening : Opening) (history : List Item) → IsWellFormed opening.tree → AreAllNew opening.tree history → IsWellFormed (tree_of opening history)
histories_stay opening history w n = after_all_keeps opening.tree (settled opening.tree history) w (settled_new opening.tree history n)

pub recovery_is_legal : (opening : Opening) (history : List Item) (server : ServerId) (kept : OpNo) → IsWellFormed opening.tree → AreAllNew opening.tree history → is_legal opening history ≡ true
    → keeps opening (history ++ Recovered server kept ∷ []) ≡ true → room_left server.0 kept.0 opening.tree (settled opening.tree history) ≡ true → is_legal opening (history ++ Recovered server kept ∷ []) ≡ true
recovery_is_legal opening history server kept w n legal known room =
    let t = opening.tree in
    let k : keeps_known server.0 kept.0 false t (settled t history) ≡ true = (and_parts (kept_from t [] history) (keeps_known server.0 kept.0 false t (settled t history)) (sym (kept-recovered t [] history server kept) ∙ known)).1 in
    ap (legal_from t opening.dir_blocks) (settled-recovered t [] history server kept) ∙ recovery_leaves_legal server.0 kept.0 t opening.dir_blocks (settled t history) w (settled_new t history n) legal k room

-- marks of no cells do nothing
no_marks : (t : FileTree) (ever : ℕ) (list : List Settled) → HasNoDoubt list → legal_from t ever (map (λ e. Stays e) (entries_left list)) ≡ legal_from t ever list
no_marks t ever [] h = refl
no_marks t ever (Stays e ∷ list) h = ap (λ b. may_stand t ever (Stays e) && b) (no_marks (tree_after t e) (ever + grows t (Stays e)) list h)
no_marks t ever (InDoubt [] ∷ list) h = no_marks t ever list h ∙ ap (λ n. legal_from t n list) (let z : ever ≡ ever + grows t (InDoubt []) = nothing (count_of dir_blocks t) in z)
  where
    nothing : (n : ℕ) → ever ≡ ever + (n - n)
    nothing n = omega arith
no_marks t ever (InDoubt (run ∷ runs) ∷ list) h = absurd h

all_did : (es : List Entry) → HasNoRecovery (map (λ e. Did e) es)
all_did [] = tt
all_did (e ∷ es) = all_did es

entries_did : (es : List Entry) → entries_of (map (λ e. Did e) es) ≡ es
entries_did [] = refl
entries_did (e ∷ es) = ap (λ l. e ∷ l) (entries_did es)

pub legal_of_left : (opening : Opening) (history : List Item) → HasNoDoubt (settled opening.tree history) → is_legal opening (map (λ e. Did e) (entries_left (settled opening.tree history))) ≡ is_legal opening history
legal_of_left opening history h =
    let es = entries_left (settled opening.tree history) in
    ap (legal_from opening.tree opening.dir_blocks) (settles opening.tree (map (λ e. Did e) es) (all_did es) ∙ ap (map (λ e. Stays e)) (entries_did es))
    ∙ no_marks opening.tree opening.dir_blocks (settled opening.tree history) h
