-- A rename on two trees that agree where it touches.
use Rattle.std.proofs.Common.{ℕ, ◌≡◌, ◌==◌, Bool, true, false, ◌&&◌, not, Option, Some, None, List, cond, refl, sym, ◌∙◌, ap, ap₂, subst, inl, inr, ◌⊎◌, is_some}
use Rattle.std.specs.List.{list_any}
use Rattle.frang_base.specs.declared.reply.Reply.TheVariants as reply
use Rattle.tree_definitions.specs.declared.node.Node.{Node}
use Rattle.tree_definitions.specs.declared.node.Node.TheVariants.{Dir, File, Link}
use Rattle.tree_definitions.specs.Entries.{Entries}
use Rattle.tree_definitions.specs.Tree.{FileTree, node_at, entries_full, lacks_block, grown}
use Rattle.tree_definitions.specs.Place.{Place, Root, Taken, Free, Nowhere, walked}
use Rattle.tree_definitions.specs.Apply.{Plain, Applied, says, is_dir, has_entries, one_link_fewer, moved, moved_onto, moved_to, room_made, goes_through, renamed_to}
use Rattle.tree_definitions.specs.WellFormed.{BirthsAscend, EntriesNameNodes}
use Rattle.tree_laws.specs.Touching.{SameKinds}
use Rattle.tree_laws.proofs.Places.{Stands}
use Rattle.tree_laws.proofs.Rooms.{same_lacks}
use Rattle.tree_laws.proofs.Likeness.{Likeness, Near, like_equal, like_entries}
use Rattle.tree_laws.proofs.Joint.{Matches, joint_none, joint_with, joint_fewer, joint_moved, both_do, both_say, both_if, if_known, if_room}
use Rattle.tree_laws.proofs.Acting.{moved_ascends, fewer_differs, some_one, dir_alike}

-- what is left where three tests fail
third : (p q r : Bool) (x y z w : Applied) → p ≡ false → q ≡ false → r ≡ false → cond p x (cond q y (cond r z w)) ≡ w
third false false false x y z w i j k = refl
third true q r x y z w i j k = absurd (cc)
third false true r x y z w i j k = absurd (cc)
third false false true x y z w i j k = absurd (cc)

entries_are_a_dir : (o : Option Node) → has_entries o ≡ true → is_dir o ≡ true
entries_are_a_dir (Some (Dir es n)) h = refl
entries_are_a_dir (Some (File cells links when)) h = cc
entries_are_a_dir (Some (Link target links)) h = cc
entries_are_a_dir None h = cc

module _ (L : Likeness) (one two : FileTree) (births_one : BirthsAscend one) (births_two : BirthsAscend two) (kinds : SameKinds one two) (alive_one : EntriesNameNodes one) (alive_two : EntriesNameNodes two) where
  module _ (from : ℕ) (es : Entries) (n : ℕ) (name : List ℕ) (b : ℕ) (s : Stands one (Taken from es n name b)) (t : Stands two (Taken from es n name b)) where
    from_same : Near L one two from
    from_same = like_equal L (node_at one from) (node_at two from) (s.0 ∙ sym t.0)

    b_dir : is_dir (node_at one b) ≡ is_dir (node_at two b)
    b_dir = dir_alike L one two kinds alive_one alive_two from es n name b s t

    module _ (to : ℕ) (fs : Entries) (m : ℕ) (new : List ℕ) (old : ℕ) (sq : Stands one (Taken to fs m new old)) (tq : Stands two (Taken to fs m new old)) where
      to_same : Near L one two to
      to_same = like_equal L (node_at one to) (node_at two to) (sq.0 ∙ sym tq.0)

      old_dir : is_dir (node_at one old) ≡ is_dir (node_at two old)
      old_dir = dir_alike L one two kinds alive_one alive_two to fs m new old sq tq

      abbrev last : FileTree → Option Node → Applied
      last tree o = cond (has_entries o) (says tree reply.NotEmpty) (says (one_link_fewer (moved tree from name to new b) old o) reply.Ok)

      -- the node that gave way is touched
      old_same : (o : Option Node) → node_at one old ≡ o → is_some o ≡ true → (h : Bool) → has_entries o ≡ h
          → ((cond {A = Applied} h (says one reply.NotEmpty) (says (one_link_fewer (moved one from name to new b) old o) reply.Ok)).answer ≡ Plain reply.NotEmpty → is_dir (node_at one old) ≡ true → Near L one two old)
          → ((Near L one two old) ⊎ (node_at (cond {A = Applied} h (says one reply.NotEmpty) (says (one_link_fewer (moved one from name to new b) old o) reply.Ok)).tree old ≡ node_at one old))
          → Near L one two old
      old_same None i some h e ne l = absurd (cc)
      old_same (Some x) i some true e ne l = ne refl (entries_are_a_dir (node_at one old) (ap has_entries i ∙ e))
      old_same (Some x) i some false e ne (inl z) = z
      old_same (Some x) i some false e ne (inr z) = absurd (fewer_differs (moved one from name to new b) old x (moved_ascends one from name to new b births_one) (z ∙ i))

      last_matches : Near L one two old → Matches L one two (last one (node_at one old)) (last two (node_at two old))
      last_matches same =
          let j = joint_moved L one two one two (joint_none L one two) from name to new b from_same to_same in
          let u = moved one from name to new b in
          let v = moved two from name to new b in
          let k = joint_fewer L one two u v j (moved_ascends one from name to new b births_one) (moved_ascends two from name to new b births_two) old (node_at one old) (node_at two old) same same in
          subst (λ h. Matches L one two (last one (node_at one old)) (cond h (says two reply.NotEmpty) (says (one_link_fewer v old (node_at two old)) reply.Ok))) (like_entries L (node_at one old) (node_at two old) same)
          (both_if L one two (has_entries (node_at one old)) (says one reply.NotEmpty) _ (says two reply.NotEmpty) _ (both_say L one two reply.NotEmpty)
          (both_do L one two (one_link_fewer u old (node_at one old)) (one_link_fewer v old (node_at two old)) reply.Ok k))

      onto_matches : ((moved_onto one from name b to new old).answer ≡ Plain reply.NotEmpty → is_dir (node_at one old) ≡ true → Near L one two old)
          → ((Near L one two old) ⊎ (node_at (moved_onto one from name b to new old).tree old ≡ node_at one old))
          → Matches L one two (moved_onto one from name b to new old) (moved_onto two from name b to new old)
      onto_matches ne l =
          subst (λ d. Matches L one two (moved_onto one from name b to new old) (cond (old == b) (says two reply.Ok) (cond (d && not (is_dir (node_at two old))) (says two reply.NotDir) (cond (is_dir (node_at two old) && not d) (says two reply.IsDir) (last two (node_at two old)))))) b_dir
          (subst (λ d. Matches L one two (moved_onto one from name b to new old) (cond (old == b) (says two reply.Ok) (cond (is_dir (node_at one b) && not d) (says two reply.NotDir) (cond (d && not (is_dir (node_at one b))) (says two reply.IsDir) (last two (node_at two old)))))) old_dir
          (if_known L one two p (says one reply.Ok) _ (says two reply.Ok) _ (λ i. both_say L one two reply.Ok) (λ i.
          if_known L one two q (says one reply.NotDir) _ (says two reply.NotDir) _ (λ j. both_say L one two reply.NotDir) (λ j.
          if_known L one two r (says one reply.IsDir) _ (says two reply.IsDir) _ (λ k. both_say L one two reply.IsDir) (λ k.
          let w = third p q r (says one reply.Ok) (says one reply.NotDir) (says one reply.IsDir) (last one (node_at one old)) i j k in
          last_matches (old_same (node_at one old) refl (some_one L one two kinds alive_one alive_two to fs m new old sq tq) (has_entries (node_at one old)) refl
          (λ e. ne (ap (λ a. a.answer) w ∙ e)) (subst (λ a. (Near L one two old) ⊎ (node_at a.tree old ≡ node_at one old)) w l)))))))
        where
          p : Bool
          p = old == b

          q : Bool
          q = is_dir (node_at one b) && not (is_dir (node_at one old))

          r : Bool
          r = is_dir (node_at one old) && not (is_dir (node_at one b))

    -- to a name that isn't there
    moved_to_matches : (to : ℕ) (fs : Entries) (m : ℕ) (new : List ℕ) → Near L one two to → Matches L one two (moved_to one from name b to fs m new) (moved_to two from name b to fs m new)
    moved_to_matches to fs m new at =
        let j = joint_moved L one two one two (joint_none L one two) from name to new b from_same at in
        let room = joint_with L one two one two (joint_none L one two) to (Dir fs (grown fs m)) at in
        let k = joint_moved L one two (room_made one to fs m) (room_made two to fs m) room from name to new b from_same at in
        both_if L one two (from == to) (says (moved one from name to new b) reply.Ok) _ (says (moved two from name to new b) reply.Ok) _ (both_do L one two (moved one from name to new b) (moved two from name to new b) reply.Ok j)
        (both_if L one two (entries_full fs) (says one reply.DirFull) _ (says two reply.DirFull) _ (both_say L one two reply.DirFull)
        (if_room L one two (lacks_block one fs m) (lacks_block two fs m) reply.NoDirBlock reply.NoDirBlock _ _ refl refl (λ k. same_lacks one two k fs m) (λ k. refl)
        (both_do L one two (moved (room_made one to fs m) from name to new b) (moved (room_made two to fs m) from name to new b) reply.Ok k)))

    through_same : (path : List (List ℕ)) → walked two path ≡ walked one path → goes_through one path b ≡ goes_through two path b
    through_same path w = ap₂ (λ d l. d && list_any (λ c. c == b) l) b_dir (sym w)

    pub renamed_to_matches : (path : List (List ℕ)) → walked two path ≡ walked one path → (q : Place) → Stands one q → Stands two q
        → ((to : ℕ) (fs : Entries) (m : ℕ) (new : List ℕ) (old : ℕ) → q ≡ Taken to fs m new old → (renamed_to one from name b path q).answer ≡ Plain reply.NotEmpty → is_dir (node_at one old) ≡ true → Near L one two old)
        → ((c : ℕ) → (Near L one two c) ⊎ (node_at (renamed_to one from name b path q).tree c ≡ node_at one c))
        → Matches L one two (renamed_to one from name b path q) (renamed_to two from name b path q)
    renamed_to_matches path w Root sq tq ne l = both_say L one two reply.Inval
    renamed_to_matches path w (Nowhere r) sq tq ne l = both_say L one two r
    renamed_to_matches path w (Free to fs m new) sq tq ne l =
        subst (λ g. Matches L one two (renamed_to one from name b path (Free to fs m new)) (cond g (says two reply.Inval) (moved_to two from name b to fs m new))) (through_same path w)
        (both_if L one two (goes_through one path b) (says one reply.Inval) _ (says two reply.Inval) _ (both_say L one two reply.Inval) (moved_to_matches to fs m new (like_equal L (node_at one to) (node_at two to) (sq.0 ∙ sym tq.0))))
    renamed_to_matches path w (Taken to fs m new old) sq tq ne l =
        subst (λ g. Matches L one two (renamed_to one from name b path (Taken to fs m new old)) (cond g (says two reply.Inval) (moved_onto two from name b to new old))) (through_same path w)
        (if_known L one two (goes_through one path b) (says one reply.Inval) _ (says two reply.Inval) _ (λ i. both_say L one two reply.Inval)
        (λ i. let e = second (goes_through one path b) (says one reply.Inval) (moved_onto one from name b to new old) i in
        onto_matches to fs m new old sq tq (λ z. ne to fs m new old refl (ap (λ a. a.answer) e ∙ z)) (subst (λ a. (Near L one two old) ⊎ (node_at a.tree old ≡ node_at one old)) e (l old))))
      where
        second : (g : Bool) (x y : Applied) → g ≡ false → cond g x y ≡ y
        second false x y i = refl
        second true x y i = absurd (cc)
