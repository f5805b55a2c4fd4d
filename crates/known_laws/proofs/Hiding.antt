-- What a step shows of a list with one entry more: only of the entries from where the removal begins, and of none that is no answer.
use Rattle.std.proofs.Common.{ℕ, ◌≡◌, ◌==◌, Bool, true, false, not, ◌&&◌, ◌||◌, if◌then◌else◌, List, [], ◌∷◌, ◌++◌, filter, refl, ◌∙◌, ap}
use Rattle.std.specs.List.{list_any}
use Rattle.std.proofs.lemmas.Bool.{and_parts}
use mathlib.Core.Bool.{and-false, and-true, or-true}
use Rattle.tree_definitions.specs.declared.history.Entry.{Entry}
use Rattle.tree_definitions.specs.History.{Settled, Stays, after, after_all, applied, is_answer}
use Rattle.tree_definitions.specs.Removal.{begins_removal, mounts}
use Rattle.tree_definitions.specs.Touched.{births, changes, differs, other_room}
use Rattle.tree_definitions.specs.Tree.{FileTree, node_at}
use Rattle.known_laws.specs.Knowing.{are_hidden, are_hidden_from_cut, is_foreign, is_hidden, is_refused, removes_some, step_touches}
use Rattle.known_laws.proofs.Knowing.{begins_alike, begins_never}

-- ---- one entry more of the list

module _ (server keeps : ℕ) (last : FileTree) (s : Settled) where
  hidden_more : (t : FileTree) (list : List Settled) (x : Settled) → are_hidden server last s t list ≡ true → is_hidden server last s (after_all t list) x ≡ true →
      are_hidden server last s t (list ++ x ∷ []) ≡ true
  hidden_more t [] x all here = and-true (is_hidden server last s t x) ∙ here
  hidden_more t (y ∷ list) x all here =
      let p = and_parts (is_hidden server last s t y) (are_hidden server last s (after t y) list) all in
      ap (λ b. b && are_hidden server last s (after t y) (list ++ x ∷ [])) p.0 ∙ hidden_more (after t y) list x p.1 here

  alone : (t : FileTree) (x : Settled) → (begins_removal server keeps t x [] ≡ true → is_hidden server last s t x ≡ true) → are_hidden_from_cut server keeps last s t (x ∷ []) ≡ true
  alone t x here = go (begins_removal server keeps t x []) refl
    where
      go : (b : Bool) → begins_removal server keeps t x [] ≡ b → (if b then is_hidden server last s t x && true else true) ≡ true
      go true is = and-true (is_hidden server last s t x) ∙ here is
      go false is = refl

  -- behind a mount only it counts
  pub hidden_mounted : (t : FileTree) (list : List Settled) (x : Settled) → mounts server x ≡ true →
      (removes_some server keeps t (list ++ x ∷ []) ≡ true → is_hidden server last s (after_all t list) x ≡ true) → are_hidden_from_cut server keeps last s t (list ++ x ∷ []) ≡ true
  hidden_mounted t [] x is here = alone t x (λ b. here (ap (λ c. c || false) b))
  hidden_mounted t (y ∷ list) x is here =
      let never = begins_never server keeps t y list x is in
      ap (λ (b : Bool). if b then are_hidden server last s t (y ∷ (list ++ x ∷ [])) else are_hidden_from_cut server keeps last s (after t y) (list ++ x ∷ [])) never
      ∙ hidden_mounted (after t y) list x is (λ some. here (ap (λ b. b || removes_some server keeps (after t y) (list ++ x ∷ [])) never ∙ some))

  hidden_unmounted : (t : FileTree) (list : List Settled) (x : Settled) → mounts server x ≡ false → are_hidden_from_cut server keeps last s t list ≡ true →
      (removes_some server keeps t (list ++ x ∷ []) ≡ true → is_hidden server last s (after_all t list) x ≡ true) → are_hidden_from_cut server keeps last s t (list ++ x ∷ []) ≡ true
  hidden_unmounted t [] x none all here = alone t x (λ b. here (ap (λ c. c || false) b))
  hidden_unmounted t (y ∷ list) x none all here =
      ap (λ (b : Bool). if b then are_hidden server last s t (y ∷ (list ++ x ∷ [])) else are_hidden_from_cut server keeps last s (after t y) (list ++ x ∷ [])) same
      ∙ go (begins_removal server keeps t y list) refl all (λ a h. hidden_unmounted (after t y) list x none a h)
    where
      same : begins_removal server keeps t y (list ++ x ∷ []) ≡ begins_removal server keeps t y list
      same = begins_alike server keeps t y list x none

      go : (b : Bool) → begins_removal server keeps t y list ≡ b →
          (if b then are_hidden server last s t (y ∷ list) else are_hidden_from_cut server keeps last s (after t y) list) ≡ true →
          (are_hidden_from_cut server keeps last s (after t y) list ≡ true →
          (removes_some server keeps (after t y) (list ++ x ∷ []) ≡ true → is_hidden server last s (after_all (after t y) list) x ≡ true) →
          are_hidden_from_cut server keeps last s (after t y) (list ++ x ∷ []) ≡ true) →
          (if b then are_hidden server last s t (y ∷ (list ++ x ∷ [])) else are_hidden_from_cut server keeps last s (after t y) (list ++ x ∷ [])) ≡ true
      go true is a later = hidden_more t (y ∷ list) x a (here (ap (λ b. b || removes_some server keeps (after t y) (list ++ x ∷ [])) (same ∙ is)))
      go false is a later = later a (λ some. here (ap (λ b. b || removes_some server keeps (after t y) (list ++ x ∷ [])) (same ∙ is) ∙ some))

  pub from_cut_more : (t : FileTree) (list : List Settled) (x : Settled) → are_hidden_from_cut server keeps last s t list ≡ true →
      (removes_some server keeps t (list ++ x ∷ []) ≡ true → is_hidden server last s (after_all t list) x ≡ true) → are_hidden_from_cut server keeps last s t (list ++ x ∷ []) ≡ true
  from_cut_more t list x all here = go (mounts server x) refl
    where
      go : (b : Bool) → mounts server x ≡ b → are_hidden_from_cut server keeps last s t (list ++ x ∷ []) ≡ true
      go true is = hidden_mounted t list x is here
      go false is = hidden_unmounted t list x is all here

-- ---- an entry that is no answer is hidden

changed_none : (t : FileTree) (e : Entry) (births : List ℕ) → is_answer t e ≡ false → filter (changes t e) births ≡ []
changed_none t e [] none = refl
changed_none t e (b ∷ births) none =
    ap (λ (c : Bool). if c then b ∷ filter (changes t e) births else filter (changes t e) births) (ap (λ c. c && differs t (applied t e).tree b) none) ∙ changed_none t e births none

pub no_answer_hidden : (server : ℕ) (last : FileTree) (s : Settled) (t : FileTree) (e : Entry) → is_answer t e ≡ false → is_hidden server last s t (Stays e) ≡ true
no_answer_hidden server last s t e none =
    ap
    (λ (l : List ℕ). not (e.server.0 == server)
    || not (is_foreign server s && (list_any (step_touches last s) l || (list_any (λ b. other_room (node_at t b) (node_at (applied t e).tree b)) l && is_refused s))))
    (changed_none t e (births t (applied t e).tree) none)
    ∙ ap (λ b. not (e.server.0 == server) || not b) (and-false (is_foreign server s)) ∙ or-true (not (e.server.0 == server))
