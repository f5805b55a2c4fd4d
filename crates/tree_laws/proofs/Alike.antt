-- An entry in two trees that are alike where it touches.
use Rattle.std.proofs.Common.{ℕ, ◌≡◌, Bool, true, false, ◌&&◌, ◌||◌, not, Option, Some, None, List, ◌++◌, map, cond, refl, sym, ◌∙◌, ap, ap₂, subst, inl, inr, ◌⊎◌, ⊎_elim, is_some}
use Rattle.std.proofs.lemmas.Bool.{and_parts, and_from}
use Rattle.frang_base.specs.declared.op.Op.{Op}
use Rattle.frang_base.specs.declared.op.Op.TheVariants as op
use Rattle.frang_base.specs.declared.reply.Reply.{Reply}
use Rattle.frang_base.specs.declared.reply.Reply.TheVariants as reply
use Rattle.tree_definitions.specs.declared.cells.Cell.{Cell}
use Rattle.tree_definitions.specs.declared.cells.Cell.TheVariants.{Byte}
use Rattle.tree_definitions.specs.declared.history.Entry.{Entry}
use Rattle.tree_definitions.specs.declared.node.Node.{Node}
use Rattle.tree_definitions.specs.declared.node.Node.TheVariants.{Dir, File, Link}
use Rattle.tree_definitions.specs.Tree.{FileTree, node_at}
use Rattle.tree_definitions.specs.Place.{Place, Root, Taken, Free, Nowhere, place}
use Rattle.tree_definitions.specs.Apply.{apply, overwritten, is_path_op}
use Rattle.tree_definitions.specs.Perform.{Step, Goes, Stops, resolved, perform_step}
use Rattle.tree_definitions.specs.History.{applied, is_answer, agrees, told_blocks, leaves_tree, tree_after, after_read, after_step, with_shown, file_at, file_of}
use Rattle.tree_definitions.specs.Touched.{touches, changes, same_where, looked_in, further, visited, reached, file_node}
use Rattle.tree_definitions.specs.WellFormed.{IsNew, IsWalkable}
use Rattle.tree_laws.specs.Touching.{SameKinds, wants_room, AgreeWhereTouched, DoesAlike, OfDirectory, OfFile, OfLink}
use Rattle.tree_laws.proofs.Sameness.{differs_or_not, where_same}
use Rattle.tree_laws.proofs.Places.{is_in, Stands, place_stands}
use Rattle.tree_laws.proofs.Refusals.{looks_leave}
use Rattle.tree_laws.specs.Rooms.{SameRoom}
use Rattle.tree_laws.proofs.Rooms.{same_told}
use Rattle.tree_laws.proofs.Likeness.{Likeness, Like, Near, like_equal, overwritten_like, agrees_like, equal, equal_nodes, equal_answers}
use Rattle.tree_laws.proofs.Joint.{Both, Joint, Alike, joint_none, joint_put, joint_near, Matches, both_say}
use Rattle.tree_laws.proofs.Following.{resolved_same}
use Rattle.tree_laws.proofs.Asking.{Grounds}
use Rattle.tree_laws.proofs.Applying.{AgreeOn, walks, in_left, in_right, apply_matches}
use Rattle.tree_laws.proofs.Looking.{looked_same, further_same}
use Rattle.tree_laws.proofs.Untouched.{looked_is_touched, changed_is_touched, file_at_reached, untouched_stays}

-- neither answer wants room, or the trees take the same of the disk
abbrev pub Roomy : FileTree → FileTree → Entry → Type 0
Roomy one two e = ((wants_room (applied one e).answer ≡ false) × (wants_room (applied two e).answer ≡ false)) ⊎ SameRoom one two

module _ (L : Likeness) (one two : FileTree) (e : Entry) (walk_one : IsWalkable one) (walk_two : IsWalkable two) (kinds : SameKinds one two) (new_one : IsNew one e.number.0) (new_two : IsNew two e.number.0)
    (answered : is_answer one e ≡ true) (room : Roomy one two e) (near : (b : ℕ) → touches one e b ≡ true → Near L one two b) where
  pub grounds : Grounds one two
  grounds = record { births_one = walk_one.births; births_two = walk_two.births; alive_one = walk_one.entries; alive_two = walk_two.entries; root_one = walk_one.rooted; root_two = walk_two.rooted; kinds = kinds }

  trail_agrees : (b : ℕ) → is_in b (resolved one e.op).trail ≡ true → Near L one two b
  trail_agrees b i = near b (looked_is_touched one e b answered (in_left b (resolved one e.op).trail (visited one (resolved one e.op).step e.reply) i))

  visited_agrees : (b : ℕ) → is_in b (visited one (resolved one e.op).step e.reply) ≡ true → Near L one two b
  visited_agrees b i = near b (looked_is_touched one e b answered (in_right b (resolved one e.op).trail (visited one (resolved one e.op).step e.reply) i))

  -- the entry comes to the same operation in both trees
  pub same_way : resolved two e.op ≡ resolved one e.op
  same_way = resolved_same L one two grounds e.op trail_agrees

  left_or_near : (b : ℕ) → Near L one two b ⊎ (node_at (applied one e).tree b ≡ node_at one b)
  left_or_near b = ⊎_elim (λ d. inl (near b (changed_is_touched one e b answered d))) (λ s. inr (sym s)) (differs_or_not one (applied one e).tree b)

  pub agree_on : (o : Op) → (resolved one e.op).step ≡ Goes o → AgreeOn L one two o e.reply (apply one o e.number.0 e.when (told_blocks one e.reply))
  agree_on o i =
      let seen = λ (b : ℕ) (j : is_in b (visited one (Goes o) e.reply) ≡ true). visited_agrees b (subst (λ z. is_in b (visited one z e.reply) ≡ true) (sym i) j) in
      record {
        looked = λ b j. seen b (in_left b (looked_in one o) (further one o e.reply) j);
        further = λ b j. seen b (in_right b (looked_in one o) (further one o e.reply) j);
        left = subst (λ z. (b : ℕ) → Near L one two b ⊎ (node_at (perform_step one z e.number.0 e.when (told_blocks one e.reply)).tree b ≡ node_at one b)) i left_or_near;
        told = subst (λ z. agrees (perform_step one z e.number.0 e.when (told_blocks one e.reply)).answer e.reply ≡ true) i (and_parts (is_path_op e.op) (agrees (applied one e).answer e.reply) answered).1;
      }

  matched : (s : Step) → (resolved one e.op).step ≡ s → Matches L one two (perform_step one s e.number.0 e.when (told_blocks one e.reply)) (perform_step two s e.number.0 e.when (told_blocks two e.reply))
  matched (Goes o) i = apply_matches L one two grounds e.number.0 e.when new_one new_two (told_blocks one e.reply) (told_blocks two e.reply) (λ s. same_told one two s e.reply) e.reply o (agree_on o i)
  matched (Stops r) i = both_say L one two r

  by_room : Roomy one two e → Matches L one two (applied one e) (applied two e) → Alike L one two (applied one e) (applied two e)
  by_room (inl p) m = m.alike p.0 p.1
  by_room (inr s) m = m.roomy s

  pub alike : Alike L one two (applied one e) (applied two e)
  alike = by_room room (subst (λ z. Matches L one two (applied one e) (perform_step two z.step e.number.0 e.when (told_blocks two e.reply))) (sym same_way) (matched (resolved one e.op).step refl))

  pub answered_two : is_answer two e ≡ true
  answered_two = let p = and_parts (is_path_op e.op) (agrees (applied one e).answer e.reply) answered in and_from (is_path_op e.op) (agrees (applied two e).answer e.reply) p.0 (agrees_like L (applied one e).answer (applied two e).answer e.reply alike.answer p.1)

  -- the file that a read showed
  abbrev LikeFile : Option (ℕ × (List Cell × (ℕ × ℕ))) → Option (ℕ × (List Cell × (ℕ × ℕ))) → Type 0
  LikeFile None q = q ≡ None
  LikeFile (Some f) q = (others : List Cell) × (q ≡ Some (f.0, (others, f.1.1))) × L.like f.1.0 others

  file_of_like : (b : ℕ) (o q : Option Node) → node_at one b ≡ o → node_at two b ≡ q → is_some o ≡ true → is_some q ≡ true → ((f : ℕ × (List Cell × (ℕ × ℕ))) → file_of b o ≡ Some f → Near L one two b) → LikeFile (file_of b o) (file_of b q)
  file_of_like b (Some (File cells links when)) q i j s t same =
      let l = subst (λ z. Like L (Some (File cells links when)) z) j (subst (λ z. Like L z (node_at two b)) i (same (b, (cells, (links, when))) refl)) in
      (l.0, ap (file_of b) l.1, l.2)
  file_of_like b (Some (Dir es n)) (Some (Dir fs m)) i j s t same = refl
  file_of_like b (Some (Dir es n)) (Some (File fs m v)) i j s t same = absurd (let k : OfDirectory ≡ OfFile = kinds b (Dir es n) (File fs m v) i j in cc)
  file_of_like b (Some (Dir es n)) (Some (Link fs m)) i j s t same = refl
  file_of_like b (Some (Link es n)) (Some (Dir fs m)) i j s t same = refl
  file_of_like b (Some (Link es n)) (Some (File fs m v)) i j s t same = absurd (let k : OfLink ≡ OfFile = kinds b (Link es n) (File fs m v) i j in cc)
  file_of_like b (Some (Link es n)) (Some (Link fs m)) i j s t same = refl
  file_of_like b None q i j s t same = absurd (cc)
  file_of_like b (Some (Dir es n)) None i j s t same = absurd (cc)
  file_of_like b (Some (Link es n)) None i j s t same = absurd (cc)

  birth_of : (b : ℕ) (o : Option Node) (f : ℕ × (List Cell × (ℕ × ℕ))) → file_of b o ≡ Some f → f.0 ≡ b
  birth_of b (Some (File cells links when)) f h = sym (ap (λ o. elim o as (λ x. ℕ) [ None ↦ b | Some g ↦ g.0 ]) h)
  birth_of b (Some (Dir es n)) f h = cc
  birth_of b (Some (Link target links)) f h = cc
  birth_of b None f h = cc

  file_at_like : (p : Place) → Stands one p → Stands two p → ((b : ℕ) → is_in b (reached one file_node p) ≡ true → Near L one two b) → LikeFile (file_at one p) (file_at two p)
  file_at_like Root s t same = refl
  file_at_like (Taken dir es n name b) s t same = file_of_like b (node_at one b) (node_at two b) refl refl (walk_one.entries dir es n name b s.0 s.1) (walk_two.entries dir es n name b t.0 t.1)
      (λ f i. same b (subst (λ c. is_in c (reached one file_node (Taken dir es n name b)) ≡ true) (birth_of b (node_at one b) f i) (file_at_reached one (Taken dir es n name b) f i)))
  file_at_like (Free dir es n name) s t same = refl
  file_at_like (Nowhere r) s t same = refl

  with_shown_joint : (o q : Option (ℕ × (List Cell × (ℕ × ℕ)))) (off : ℕ) (bytes : List ℕ) → LikeFile o q → ((f : ℕ × (List Cell × (ℕ × ℕ))) → o ≡ Some f → Near L one two f.0) → Joint L one two (with_shown one o off bytes) (with_shown two q off bytes)
  with_shown_joint None q off bytes l same = subst (λ z. Joint L one two one (with_shown two z off bytes)) (sym l) (joint_none L one two)
  with_shown_joint (Some f) q off bytes l same =
      let new = map Byte bytes in
      subst (λ z. Joint L one two (with_shown one (Some f) off bytes) (with_shown two z off bytes)) (sym l.1)
      (joint_put L one two one two (joint_none L one two) f.0 (File (overwritten f.1.0 off new) f.1.1.0 f.1.1.1) (File (overwritten l.0 off new) f.1.1.0 f.1.1.1) (same f refl) (overwritten l.0 off new, refl, overwritten_like L f.1.0 l.0 off new l.2))

  read_joint : (o : Op) (r : Reply) → (resolved one e.op).step ≡ Goes o → e.reply ≡ r → Joint L one two (apply one o e.number.0 e.when (told_blocks one e.reply)).tree (apply two o e.number.0 e.when (told_blocks two e.reply)).tree
      → Joint L one two (after_read (apply one o e.number.0 e.when (told_blocks one e.reply)).tree o r) (after_read (apply two o e.number.0 e.when (told_blocks two e.reply)).tree o r)
  read_joint (op.Read path off len) (reply.Shown bytes) i j h =
      let look_one = looks_leave one (op.Read path off len) e.number.0 e.when (told_blocks one e.reply) refl in
      let look_two = looks_leave two (op.Read path off len) e.number.0 e.when (told_blocks two e.reply) refl in
      let on = agree_on (op.Read path off len) i in
      let found = on.further in
      let walk = walks L one two grounds path on.looked in
      let file : LikeFile (file_at one (place one path)) (file_at two (place two path)) = subst (λ p. LikeFile (file_at one (place one path)) (file_at two p)) (sym walk.place) (file_at_like (place one path) (place_stands one path) (subst (Stands two) walk.place (place_stands two path)) found) in
      subst (λ t. Joint L one two (with_shown t (file_at t (place t path)) off bytes) (after_read (apply two (op.Read path off len) e.number.0 e.when (told_blocks two e.reply)).tree (op.Read path off len) (reply.Shown bytes))) (sym look_one)
      (subst (λ t. Joint L one two (with_shown one (file_at one (place one path)) off bytes) (with_shown t (file_at t (place t path)) off bytes)) (sym look_two)
      (with_shown_joint (file_at one (place one path)) (file_at two (place two path)) off bytes file (λ f k. found f.0 (file_at_reached one (place one path) f k))))
  read_joint (op.Read path off len) _ i j h = h
  read_joint _ r i j h = h

  step_joint : (s : Step) → (resolved one e.op).step ≡ s → Joint L one two (perform_step one s e.number.0 e.when (told_blocks one e.reply)).tree (perform_step two s e.number.0 e.when (told_blocks two e.reply)).tree
      → Joint L one two (after_step (perform_step one s e.number.0 e.when (told_blocks one e.reply)).tree s e.reply) (after_step (perform_step two s e.number.0 e.when (told_blocks two e.reply)).tree s e.reply)
  step_joint (Goes o) i h = read_joint o e.reply i refl h
  step_joint (Stops r) i h = h

  shown_joint : Joint L one two (after_step (applied one e).tree (resolved one e.op).step e.reply) (after_step (applied two e).tree (resolved two e.op).step e.reply)
  shown_joint =
      let m = told_blocks two e.reply in
      subst (λ z. Joint L one two (after_step (applied one e).tree (resolved one e.op).step e.reply) (after_step (perform_step two z.step e.number.0 e.when m).tree z.step e.reply)) (sym same_way)
      (step_joint (resolved one e.op).step refl (subst (λ z. Joint L one two (applied one e).tree (perform_step two z.step e.number.0 e.when m).tree) same_way alike.nodes))

  pub after_joint : Joint L one two (tree_after one e) (tree_after two e)
  after_joint = go (leaves_tree e.op e.reply) (is_answer one e) (is_answer two e) answered answered_two
    where
      go : (l a c : Bool) → a ≡ true → c ≡ true → Joint L one two (cond l one (cond a (after_step (applied one e).tree (resolved one e.op).step e.reply) one)) (cond l two (cond c (after_step (applied two e).tree (resolved two e.op).step e.reply) two))
      go true a c i j = joint_none L one two
      go false true true i j = shown_joint
      go false true false i j = absurd (cc)
      go false false c i j = absurd (cc)

-- one node in two trees differs alike
differs_alike : (a b c d : Option Node) → Both equal a b c d → (same_where a a ≡ true) → (same_where b b ≡ true) → not (same_where a c) ≡ not (same_where b d)
differs_alike a b c d (inl p) s t = ap₂ (λ x y. not (same_where x y)) (equal_nodes a b p.0) (equal_nodes c d p.1)
differs_alike a b c d (inr p) s t = ap (λ x. not (same_where a x)) p.0 ∙ ap not s ∙ sym (ap (λ x. not (same_where b x)) p.1 ∙ ap not t)

module _ (one two : FileTree) (e : Entry) (walk_one : IsWalkable one) (walk_two : IsWalkable two) (kinds : SameKinds one two) (new_one : IsNew one e.number.0) (new_two : IsNew two e.number.0)
    (answered : is_answer one e ≡ true) (room : Roomy one two e) (agree : AgreeWhereTouched one two e) where
  near_by : (b : ℕ) → touches one e b ≡ true → Near equal one two b
  near_by b h = like_equal equal (node_at one b) (node_at two b) (agree b h)

  both : Alike equal one two (applied one e) (applied two e)
  both = alike equal one two e walk_one walk_two kinds new_one new_two answered room near_by

  agreed : (o : Op) → (resolved one e.op).step ≡ Goes o → AgreeOn equal one two o e.reply (apply one o e.number.0 e.when (told_blocks one e.reply))
  agreed = agree_on equal one two e walk_one walk_two kinds new_one new_two answered room near_by

  told_two : is_answer two e ≡ true
  told_two = answered_two equal one two e walk_one walk_two kinds new_one new_two answered room near_by

  afterwards : Joint equal one two (tree_after one e) (tree_after two e)
  afterwards = after_joint equal one two e walk_one walk_two kinds new_one new_two answered room near_by

  ground : Grounds one two
  ground = grounds equal one two e walk_one walk_two kinds new_one new_two answered room near_by

  changed_same : (b : ℕ) → changes one e b ≡ changes two e b
  changed_same b = ap₂ (λ x y. x && y) (answered ∙ sym told_two)
      (differs_alike (node_at one b) (node_at two b) (node_at (applied one e).tree b) (node_at (applied two e).tree b) (both.nodes.each b) (where_same (node_at one b)) (where_same (node_at two b)))

  way : resolved two e.op ≡ resolved one e.op
  way = same_way equal one two e walk_one walk_two kinds new_one new_two answered room near_by

  visited_same : (s : Step) → (resolved one e.op).step ≡ s → visited two s e.reply ≡ visited one s e.reply
  visited_same (Goes o) i =
      let a = agreed o i in
      ap₂ (λ w v. w ++ v) (looked_same equal one two ground e.reply (apply one o e.number.0 e.when (told_blocks one e.reply)) o a) (further_same equal one two ground o e.reply e.number.0 e.when (told_blocks one e.reply) a)
  visited_same (Stops r) i = refl

  touched_same : (b : ℕ) → touches one e b ≡ touches two e b
  touched_same b = ap₂ (λ x y. x && y) (answered ∙ sym told_two)
      (ap₂ (λ c l. c || is_in b l) (changed_same b) (ap (λ v. (resolved one e.op).trail ++ v) (sym (visited_same (resolved one e.op).step refl)) ∙ ap (λ z. z.trail ++ visited two z.step e.reply) (sym way)))

  stays_by : (b : ℕ) → Both equal (node_at one b) (node_at two b) (node_at (tree_after one e) b) (node_at (tree_after two e) b) → node_at (tree_after one e) b ≡ node_at one b → node_at (tree_after two e) b ≡ node_at two b
  stays_by b (inl p) s = sym (equal_nodes (node_at (tree_after one e) b) (node_at (tree_after two e) b) p.1) ∙ s ∙ equal_nodes (node_at one b) (node_at two b) p.0
  stays_by b (inr p) s = p.1

  pub does_alike : DoesAlike one two e
  does_alike = record {
    answer = equal_answers (applied one e).answer (applied two e).answer both.answer;
    answered = told_two;
    touched = touched_same;
    changed = changed_same;
    there = λ b t. equal_nodes (node_at (tree_after one e) b) (node_at (tree_after two e) b) (joint_near equal one two (tree_after one e) (tree_after two e) afterwards b (near_by b t));
    stays_in_one = λ b f. untouched_stays one e b f;
    stays_in_two = λ b f. stays_by b (afterwards.each b) (untouched_stays one e b f);
  }
