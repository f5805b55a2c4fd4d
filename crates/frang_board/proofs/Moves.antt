-- Each kind of step keeps the rule of the board.
use Rattle.std.proofs.Common.{◌≡◌, ◌≢◌, ℕ, zero, suc, List, [], ◌∷◌, ◌++◌, set, Bool, true, false, true≢false, refl, sym, ap, ◌∙◌, subst, ⊎_elim}
use mathlib.Core.Option.{some, some-ne-none, some-injective}
use lib.ListN.{get_elem?}
use Rattle.std.specs.List.{AllByRecursion}
use Rattle.crossbeam_utils.specs.Register.{Turns, Forks, Merges}
use Rattle.atomic_table.proofs.Lists.{at_set, at_snoc}
use Rattle.frang_base.proofs.Lists.{all_append}
use Rattle.frang_board.specs.declared.figures.Figures.{Figures}
use Rattle.frang_board.specs.declared.rule.View.{View}
use Rattle.frang_board.specs.Figures.{zeros, last_of, AtMost, NoneAbove, Reads}
use Rattle.frang_board.specs.Rule.{writing, reading, spent, Follows, Shows, Published, HasRead, Closes, taken_in}
use Rattle.frang_board.proofs.Order.{last_push, climbs_push}
use Rattle.frang_board.proofs.Reading.{reads_none, reads_push, reads_more, each_more, reads_below, each_below}

off : false ≡ true → ⊥
off e = true≢false (sym e)

-- one view changes
follows_set : (seat : ℕ) (now : List Figures) (views : List View) (by : ℕ) (w : View) → ((j : ℕ) (u : View) → j ≢ by → get_elem? views j ≡ some u → Follows seat now j u) → Follows seat now by w → (j : ℕ) (u : View) → get_elem? (set views by w) j ≡ some u → Follows seat now j u
follows_set seat now views by w others mine j u e =
    ⊎_elim
    (λ (x : (j ≡ by) × (w ≡ u)). subst (λ (y : ℕ × View). Follows seat now y.0 y.1) (λ i. (sym x.0 i, x.1 i)) mine)
    (λ (x : (j ≢ by) × (get_elem? views j ≡ some u)). others j u x.0 x.1)
    (at_set views by j w u e)

-- one view comes
follows_snoc : (seat : ℕ) (now : List Figures) (views : List View) (new : View) → ((j : ℕ) (u : View) → get_elem? views j ≡ some u → Follows seat now j u) → ((j : ℕ) → Follows seat now j new) → (j : ℕ) (u : View) → get_elem? (views ++ new ∷ []) j ≡ some u → Follows seat now j u
follows_snoc seat now views new olds mine j u e =
    ⊎_elim (λ was. olds j u was) (λ (same : new ≡ u). subst (Follows seat now j) same (mine j)) (at_snoc views new u j e)

-- a reader follows anywhere
follows_reading : (seat : ℕ) (now list : List Figures) (joined : List (List Figures)) → Reads now list → AllByRecursion (Reads now) joined → (j : ℕ) → Follows seat now j (reading list joined)
follows_reading seat now list joined r each j = ((λ k. absurd (off k)), (λ _. r), each)

follows_spent : (seat : ℕ) (now : List Figures) (j : ℕ) → Follows seat now j spent
follows_spent seat now j = follows_reading seat now [] [] (reads_none now) tt j

follows_more : (seat : ℕ) (now more : List Figures) (by j : ℕ) (u : View) → by ≡ seat → j ≢ by → Follows seat now j u → Follows seat (now ++ more) j u
follows_more seat now more by j u mine apart f =
    ((λ k. absurd (apart ((f.0 k).0 ∙ sym mine))), (λ c. reads_more now more u.list (f.1 c)), each_more now more u.joined f.2)

pub begins : Shows zeros (writing [] [] ∷ [])
begins = (0, [], refl, tt, one)
  where
    one : (by : ℕ) (v : View) → get_elem? (writing [] [] ∷ []) by ≡ some v → Follows 0 [] by v
    one zero v e = subst (Follows 0 [] 0) (some-injective _ _ e) ((λ _. (refl, refl)), (λ c. absurd (true≢false c)), tt)
    one (suc by) v e = absurd (some-ne-none v (sym e))

publishes : (by : ℕ) (all : List Figures) (new : Figures) → AtMost (last_of all) new → Turns Shows by (writing all []) (λ _. new) Published
publishes by all new above x views h at =
    let mine = (h.4 by (writing all []) at).0 refl in
    let now = h.1 ++ new ∷ [] in
    let w = writing (all ++ new ∷ []) [] in (
      w,
      (
        h.0,
        now,
        sym (last_push zeros h.1 new),
        climbs_push zeros h.1 new h.3 (subst (λ ps. AtMost (last_of ps) new) mine.1 above),
        follows_set h.0 now views by w
            (λ j u apart e. follows_more h.0 h.1 (new ∷ []) by j u mine.0 apart (h.4 j u e))
            ((λ _. (mine.0, ap (λ l. l ++ new ∷ []) mine.1)), (λ c. absurd (true≢false c)), tt),
      ),
      refl,
    )

pub publishes_as : (by : ℕ) (v : View) (new : Figures) → v ≡ writing v.list [] → AtMost (last_of v.list) new → Turns Shows by v (λ _. new) Published
publishes_as by v new is above = subst (λ (u : View). Turns Shows by u (λ _. new) Published) (sym is) (publishes by v.list new above)

looks : (by : ℕ) (all : List Figures) (joined : List (List Figures)) → Turns Shows by (reading all joined) (λ x. x) HasRead
looks by all joined x views h at =
    let follows = h.4 by (reading all joined) at in
    let mine = follows.1 refl in
    let w = reading (all ++ x ∷ []) joined in (
      w,
      (h.0, h.1, h.2, h.3, follows_set h.0 h.1 views by w (λ j u apart e. h.4 j u e) (follows_reading h.0 h.1 (all ++ x ∷ []) joined (reads_push h.1 all x mine h.2) follows.2 by)),
      (
        refl,
        subst (λ f. NoneAbove f all) (sym h.2) (reads_below h.1 all h.3 mine),
        subst (λ f. AllByRecursion (NoneAbove f) joined) (sym h.2) (each_below h.1 joined h.3 follows.2),
      ),
    )

pub looks_as : (by : ℕ) (v : View) → v ≡ reading v.list v.joined → Turns Shows by v (λ x. x) HasRead
looks_as by v is = subst (λ (u : View). Turns Shows by u (λ x. x) HasRead) (sym is) (looks by v.list v.joined)

compares : (by : ℕ) (all : List Figures) (joined : List (List Figures)) → Turns Shows by (writing all joined) (λ x. x) Closes
compares by all joined x views h at =
    let v = writing all joined in
    let follows = h.4 by v at in
    let mine = follows.0 refl in
    (v, (h.0, h.1, h.2, h.3, follows_set h.0 h.1 views by v (λ j u apart e. h.4 j u e) follows), (refl, subst (λ ps. AllByRecursion (Reads ps) joined) (sym mine.1) follows.2))

pub compares_as : (by : ℕ) (v : View) (all : List Figures) (joined : List (List Figures)) → v ≡ writing all joined → Turns Shows by v (λ x. x) Closes
compares_as by v all joined is = subst (λ (u : View). Turns Shows by u (λ x. x) Closes) (sym is) (compares by all joined)

-- a pass stays as it is, and a reader comes that has read nothing
pub gives : (by : ℕ) (v : View) → Forks Shows by v v spent
gives by v x views h at =
    (h.0, h.1, h.2, h.3, follows_snoc h.0 h.1 (set views by v) spent (follows_set h.0 h.1 views by v (λ j u apart e. h.4 j u e) (h.4 by v at)) (follows_spent h.0 h.1))

copies : (by : ℕ) (list : List Figures) (joined : List (List Figures)) → Forks Shows by (reading list joined) (reading list joined) (reading list joined)
copies by list joined x views h at =
    let v = reading list joined in
    let follows = h.4 by v at in
    (h.0, h.1, h.2, h.3, follows_snoc h.0 h.1 (set views by v) v (follows_set h.0 h.1 views by v (λ j u apart e. h.4 j u e) follows) (follows_reading h.0 h.1 list joined (follows.1 refl) follows.2))

-- a reader comes that has read the same
pub copies_as : (by : ℕ) (v : View) → v ≡ reading v.list v.joined → Forks Shows by v v v
copies_as by v is = subst (λ (u : View). Forks Shows by u u u) (sym is) (copies by v.list v.joined)

moves_off : (by : ℕ) (list : List Figures) (joined : List (List Figures)) → Forks Shows by (reading list joined) spent (reading list joined)
moves_off by list joined x views h at =
    let follows = h.4 by (reading list joined) at in
    (h.0, h.1, h.2, h.3, follows_snoc h.0 h.1 (set views by spent) (reading list joined) (follows_set h.0 h.1 views by spent (λ j u apart e. h.4 j u e) (follows_spent h.0 h.1 by)) (follows_reading h.0 h.1 list joined (follows.1 refl) follows.2))

-- all that a reader knows goes to a new pass
pub moves_off_as : (by : ℕ) (v : View) → v ≡ reading v.list v.joined → Forks Shows by v spent v
moves_off_as by v is = subst (λ (u : View). Forks Shows by u spent u) (sym is) (moves_off by v.list v.joined)

follows_taken : (seat : ℕ) (now : List Figures) (by : ℕ) (v : View) (list : List Figures) (joined : List (List Figures)) → Follows seat now by v → Reads now list → AllByRecursion (Reads now) joined → Follows seat now by (taken_in v (reading list joined))
follows_taken seat now by v list joined f r each = (f.0, f.1, all_append (Reads now) v.joined (list ∷ joined) f.2 (r, each))

takes_in : (by : ℕ) (v : View) (other : ℕ) (list : List Figures) (joined : List (List Figures)) → Merges Shows by v other (reading list joined) (taken_in v (reading list joined)) spent
takes_in by v other list joined x views h at apart there =
    let u = reading list joined in
    let w = taken_in v u in
    let theirs : Follows h.0 h.1 other u = ⊎_elim (λ (t : (other ≡ by) × (w ≡ u)). absurd (apart t.0)) (λ (t : (other ≢ by) × (get_elem? views other ≡ some u)). h.4 other u t.1) (at_set views by other w u there) in (
      h.0,
      h.1,
      h.2,
      h.3,
      follows_set h.0 h.1 (set views by w) other spent
          (λ j y _ e. follows_set h.0 h.1 views by w (λ i z _ e'. h.4 i z e') (follows_taken h.0 h.1 by v list joined (h.4 by v at) (theirs.1 refl) theirs.2) j y e)
          (follows_spent h.0 h.1 other),
    )

-- a pass takes a reader's in
pub takes_in_as : (by : ℕ) (v : View) (other : ℕ) (u : View) → u ≡ reading u.list u.joined → Merges Shows by v other u (taken_in v u) spent
takes_in_as by v other u its = subst (λ (y : View). Merges Shows by v other y (taken_in v y) spent) (sym its) (takes_in by v other u.list u.joined)

abbrev pub view_of : Bool → List Figures → List (List Figures) → View
view_of writes list joined = record { writes = writes; list = list; joined = joined }

-- a reader that has read one more is a reader, and that is its last
pub still_reading : (v w : View) (x : Figures) → v ≡ reading v.list v.joined → w ≡ view_of v.writes (v.list ++ x ∷ []) v.joined → (w ≡ reading w.list w.joined) × (x ≡ last_of w.list)
still_reading v w x is e =
    let kind : v.writes ≡ false = ap (λ (u : View). u.writes) is in
    subst (λ (u : View). (u ≡ reading u.list u.joined) × (x ≡ last_of u.list)) (sym (e ∙ ap (λ b. view_of b (v.list ++ x ∷ []) v.joined) kind)) (refl, sym (last_push zeros v.list x))

-- a writer that has published one more is a writer, and that is its last
pub still_writing : (v w : View) (x : Figures) → v ≡ writing v.list [] → w ≡ view_of v.writes (v.list ++ x ∷ []) v.joined → (w ≡ writing w.list []) × (x ≡ last_of w.list)
still_writing v w x is e =
    let kind : v.writes ≡ true = ap (λ (u : View). u.writes) is in
    let none : v.joined ≡ [] = ap (λ (u : View). u.joined) is in
    subst (λ (u : View). (u ≡ writing u.list []) × (x ≡ last_of u.list)) (sym (e ∙ ap (λ b. view_of b (v.list ++ x ∷ []) v.joined) kind ∙ ap (λ j. view_of true (v.list ++ x ∷ []) j) none)) (refl, sym (last_push zeros v.list x))
