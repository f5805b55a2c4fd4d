-- An entry in two trees that are the same but for doubt where it touches: it touches the same nodes, and changes the same but for bytes that
-- were in doubt.
use Rattle.std.proofs.Common.{ℕ, ◌≡◌, Bool, true, false, ◌&&◌, ◌||◌, Option, Some, None, List, ◌++◌, cond, refl, sym, ◌∙◌, ap, ap₂, subst, inl, inr, ◌⊎◌, ⊎_elim}
use Rattle.std.proofs.lemmas.Bool.{and_parts, and_from, and_right, false_from_ne_true}
use Rattle.frang_base.specs.declared.op.Op.{Op}
use Rattle.frang_base.specs.declared.op.Op.TheVariants as op
use Rattle.frang_base.specs.declared.reply.Reply.{Reply}
use Rattle.frang_base.specs.declared.reply.Reply.TheVariants as reply
use Rattle.tree_definitions.specs.declared.cells.Cell.{Cell}
use Rattle.tree_definitions.specs.declared.history.Entry.{Entry}
use Rattle.tree_definitions.specs.declared.node.Node.{Node}
use Rattle.tree_definitions.specs.declared.node.Node.TheVariants.{Dir, File, Link}
use Rattle.tree_definitions.specs.Tree.{FileTree, node_at}
use Rattle.tree_definitions.specs.Apply.{Answer, Plain, Shows, apply, is_path_op}
use Rattle.tree_definitions.specs.Perform.{Step, Goes, Stops, resolved, perform_step}
use Rattle.tree_definitions.specs.History.{applied, is_answer, agrees, told_blocks, leaves_tree, tree_after, after_read, after_step}
use Rattle.tree_definitions.specs.Touched.{touches, changes, changes_shape, differs, looked_in, further, visited, is_nospace, is_ok}
use Rattle.tree_definitions.specs.Removal.{writes_file, is_recorded}
use Rattle.tree_laws.specs.Refusals.{says_ok}
use Rattle.tree_definitions.specs.WellFormed.{IsNew, IsWalkable}
use Rattle.tree_laws.specs.Touching.{SameKinds, wants_room}
use Rattle.tree_laws.proofs.Sameness.{alike_at, no_difference, differs_or_not}
use Rattle.tree_laws.proofs.Places.{is_in}
use Rattle.tree_laws.proofs.Replies.{wants_alike}
use Rattle.tree_laws.proofs.Resolving.{IsOf, performed_refusals_leave}
use Rattle.tree_laws.proofs.Likeness.{Like, Near}
use Rattle.tree_laws.specs.Alike.{Vaguer}
use Rattle.tree_laws.proofs.Vagueness.{vague}
use Rattle.tree_laws.proofs.Joint.{Both, Joint, joint_none}
use Rattle.tree_laws.proofs.Following.{resolved_same}
use Rattle.tree_laws.proofs.Asking.{Grounds}
use Rattle.tree_laws.proofs.Applying.{AgreeOn, in_left, in_right}
use Rattle.tree_laws.proofs.Looking.{looked_same, further_same}
use Rattle.tree_laws.proofs.Untouched.{looked_is_touched, changed_is_touched}
use Rattle.tree_laws.proofs.Alike.{Roomy, alike, after_joint}
use Rattle.tree_laws.proofs.Editing.{edited, hits, Edited, edit_stays, edits, resolved_writes}
use Rattle.tree_laws.proofs.SameShapes.{shape_changes_alike}

-- ---- one node in two trees, before and after
like_dir_back : (c : Option Node) (es : List (List ℕ × ℕ)) (n : ℕ) → Like vague c (Some (Dir es n)) → c ≡ Some (Dir es n)
like_dir_back (Some (Dir fs m)) es n l = sym l
like_dir_back (Some (File cells links when)) es n l = absurd (let e : Some (Dir es n) ≡ Some (File l.0 links when) = l.1 in cc)
like_dir_back (Some (Link target links)) es n l = absurd (cc)
like_dir_back None es n l = absurd (cc)

like_link_back : (c : Option Node) (target : List ℕ) (n : ℕ) → Like vague c (Some (Link target n)) → c ≡ Some (Link target n)
like_link_back (Some (Dir fs m)) target n l = absurd (cc)
like_link_back (Some (File cells links when)) target n l = absurd (let e : Some (Link target n) ≡ Some (File l.0 links when) = l.1 in cc)
like_link_back (Some (Link text links)) target n l = sym l
like_link_back None target n l = absurd (cc)

like_none_back : (c : Option Node) → Like vague c None → c ≡ None
like_none_back (Some (Dir fs m)) l = absurd (cc)
like_none_back (Some (File cells links when)) l = absurd (let e : None ≡ Some (File l.0 links when) = l.1 in cc)
like_none_back (Some (Link text links)) l = absurd (cc)
like_none_back None l = refl

-- a file by the parts of another
abbrev FileLike : Option Node → List Cell → ℕ → ℕ → Type 0
FileLike c ys l w = (xs : List Cell) × (c ≡ Some (File xs l w)) × Vaguer xs ys

like_file_back : (c : Option Node) (ys : List Cell) (l w : ℕ) → Like vague c (Some (File ys l w)) → FileLike c ys l w
like_file_back (Some (Dir fs m)) ys l w h = absurd (cc)
like_file_back (Some (Link text links)) ys l w h = absurd (cc)
like_file_back None ys l w h = absurd (cc)
like_file_back (Some (File cells links when)) ys l w h =
    let e : Some (File ys l w) ≡ Some (File h.0 links when) = h.1 in
    let i : h.0 ≡ ys = cc in
    (cells, cc, subst (Vaguer cells) i h.2)

module _ (hit : Bool) (edit : List Cell → List Cell) (stays : (xs ys : List Cell) → Vaguer xs ys → edit ys ≡ ys → edit xs ≡ xs) where
  edit_if : (h : Bool) (xs ys : List Cell) → Vaguer xs ys → ys ≡ cond h (edit ys) ys → cond h (edit xs) xs ≡ xs
  edit_if true xs ys v e = stays xs ys v (sym e)
  edit_if false xs ys v e = refl

  -- what stays in the second stays in the first
  less : (a b c d : Option Node) → Both vague a b c d → Edited hit edit a c → Edited hit edit b d → b ≡ d → a ≡ c
  less a b c d (inr p) f g e = sym p.0
  less (Some (Dir es n)) b c d (inl p) f g e = sym (like_dir_back c es n (subst (Like vague c) (sym e ∙ p.0) p.1))
  less (Some (Link target n)) b c d (inl p) f g e = sym (like_link_back c target n (subst (Like vague c) (sym e ∙ p.0) p.1))
  less None b c d (inl p) f g e = sym (like_none_back c (subst (Like vague c) (sym e ∙ p.0) p.1))
  less (Some (File xs l w)) b c d (inl p) f g e =
      let i = p.0.1 in
      let now = like_file_back c p.0.0 l w (subst (Like vague c) (sym e ∙ i) p.1) in
      let same : cond hit (edit xs) xs ≡ xs = edit_if hit xs p.0.0 p.0.2 (g p.0.0 l w p.0.0 l w i (sym e ∙ i)) in
      ap (λ cells. Some (File cells l w)) (sym (f xs l w now.0 l w refl now.1 ∙ same)) ∙ sym now.1

  -- what is the same in both and stays in the first stays in the second
  more : (a b c d : Option Node) → Both vague a b c d → Edited hit edit a c → Edited hit edit b d → a ≡ b → a ≡ c → b ≡ d
  more a b c d (inr p) f g i e = sym p.1
  more (Some (Dir es n)) b c d (inl p) f g i e = sym i ∙ sym (subst (λ z. Like vague z d) (sym e) p.1)
  more (Some (Link target n)) b c d (inl p) f g i e = sym i ∙ sym (subst (λ z. Like vague z d) (sym e) p.1)
  more None b c d (inl p) f g i e = sym i ∙ sym (subst (λ z. Like vague z d) (sym e) p.1)
  more (Some (File xs l w)) b c d (inl p) f g i e =
      let now = subst (λ z. Like vague z d) (sym e) p.1 in
      sym i ∙ ap (λ cells. Some (File cells l w)) (f xs l w xs l w refl (sym e) ∙ sym (g xs l w now.0 l w (sym i) now.1)) ∙ sym now.1

  -- and what isn't hit and stays in the first does
  unhit : (a b c d : Option Node) → Both vague a b c d → Edited hit edit b d → hit ≡ false → a ≡ c → b ≡ d
  unhit a b c d (inr p) g h e = sym p.1
  unhit (Some (Dir es n)) b c d (inl p) g h e = p.0 ∙ sym (subst (λ z. Like vague z d) (sym e) p.1)
  unhit (Some (Link target n)) b c d (inl p) g h e = p.0 ∙ sym (subst (λ z. Like vague z d) (sym e) p.1)
  unhit None b c d (inl p) g h e = p.0 ∙ sym (subst (λ z. Like vague z d) (sym e) p.1)
  unhit (Some (File xs l w)) b c d (inl p) g h e =
      let now = subst (λ z. Like vague z d) (sym e) p.1 in
      let same : now.0 ≡ p.0.0 = g p.0.0 l w now.0 l w p.0.1 now.1 ∙ ap (λ k. cond k (edit p.0.0) p.0.0) h in
      p.0.1 ∙ ap (λ cells. Some (File cells l w)) (sym same) ∙ sym now.1

-- an answer for want of room is no `ok`
wants_no_ok : (a : Answer) → wants_room a ≡ true → says_ok a ≡ false
wants_no_ok (Plain reply.Ok) h = cc
wants_no_ok (Plain _) h = refl
wants_no_ok (Shows cells) h = refl

-- it leaves the tree
quiet_read : (t : FileTree) (o : Op) (r : Reply) → is_nospace r ≡ true → after_read t o r ≡ t
quiet_read t (op.Read path off len) (reply.Shown bytes) h = cc
quiet_read t (op.Read path off len) _ h = refl
quiet_read t _ r h = refl

quiet_step : (t : FileTree) (s : Step) (r : Reply) → is_nospace r ≡ true → after_step t s r ≡ t
quiet_step t (Goes o) r h = quiet_read t o r h
quiet_step t (Stops q) r h = refl

told_of : (t : FileTree) (e : Entry) → is_answer t e ≡ true → agrees (applied t e).answer e.reply ≡ true
told_of t e h = (and_parts (is_path_op e.op) (agrees (applied t e).answer e.reply) h).1

quiet_applied : (t : FileTree) (e : Entry) → is_answer t e ≡ true → is_nospace e.reply ≡ true → (applied t e).tree ≡ t
quiet_applied t e answered h =
    performed_refusals_leave t e.op e.number.0 e.when (told_blocks t e.reply)
    (wants_no_ok (applied t e).answer (wants_alike (applied t e).answer e.reply (told_of t e answered) ∙ h))

quiet_after : (t : FileTree) (e : Entry) → is_answer t e ≡ true → is_nospace e.reply ≡ true → tree_after t e ≡ t
quiet_after t e answered h = go (leaves_tree e.op e.reply) (is_answer t e) answered
  where
    go : (l a : Bool) → a ≡ true → cond l t (cond a (after_step (applied t e).tree (resolved t e.op).step e.reply) t) ≡ t
    go true a i = refl
    go false true i = ap (λ u. after_step u (resolved t e.op).step e.reply) (quiet_applied t e answered h) ∙ quiet_step t (resolved t e.op).step e.reply h
    go false false i = refl

module _ (one two : FileTree) (e : Entry) (walk_one : IsWalkable one) (walk_two : IsWalkable two) (kinds : SameKinds one two) (new_one : IsNew one e.number.0) (new_two : IsNew two e.number.0)
    (answered : is_answer one e ≡ true) (answered_two : is_answer two e ≡ true) (near : (b : ℕ) → touches one e b ≡ true → Near vague one two b) where
  grounds : Grounds one two
  grounds = record { births_one = walk_one.births; births_two = walk_two.births; alive_one = walk_one.entries; alive_two = walk_two.entries; root_one = walk_one.rooted; root_two = walk_two.rooted; kinds = kinds }

  way : resolved two e.op ≡ resolved one e.op
  way = resolved_same vague one two grounds e.op (λ b i. near b (looked_is_touched one e b answered (in_left b (resolved one e.op).trail (visited one (resolved one e.op).step e.reply) i)))

  visited_near : (b : ℕ) → is_in b (visited one (resolved one e.op).step e.reply) ≡ true → Near vague one two b
  visited_near b i = near b (looked_is_touched one e b answered (in_right b (resolved one e.op).trail (visited one (resolved one e.op).step e.reply) i))

  left_or_near : (b : ℕ) → Near vague one two b ⊎ (node_at (applied one e).tree b ≡ node_at one b)
  left_or_near b = ⊎_elim (λ d. inl (near b (changed_is_touched one e b answered d))) (λ s. inr (sym s)) (differs_or_not one (applied one e).tree b)

  agree_on : (o : Op) → (resolved one e.op).step ≡ Goes o → AgreeOn vague one two o e.reply (apply one o e.number.0 e.when (told_blocks one e.reply))
  agree_on o i =
      let seen = λ (b : ℕ) (j : is_in b (visited one (Goes o) e.reply) ≡ true). visited_near b (subst (λ z. is_in b (visited one z e.reply) ≡ true) (sym i) j) in
      record {
        looked = λ b j. seen b (in_left b (looked_in one o) (further one o e.reply) j);
        further = λ b j. seen b (in_right b (looked_in one o) (further one o e.reply) j);
        left = subst (λ z. (b : ℕ) → Near vague one two b ⊎ (node_at (perform_step one z e.number.0 e.when (told_blocks one e.reply)).tree b ≡ node_at one b)) i left_or_near;
        told = subst (λ z. agrees (perform_step one z e.number.0 e.when (told_blocks one e.reply)).answer e.reply ≡ true) i (told_of one e answered);
      }

  visited_same : (s : Step) → (resolved one e.op).step ≡ s → visited two s e.reply ≡ visited one s e.reply
  visited_same (Goes o) i =
      let a = agree_on o i in
      ap₂ (λ w v. w ++ v) (looked_same vague one two grounds e.reply (apply one o e.number.0 e.when (told_blocks one e.reply)) o a) (further_same vague one two grounds o e.reply e.number.0 e.when (told_blocks one e.reply) a)
  visited_same (Stops r) i = refl

  -- where an entry goes through, looks in and arrives
  abbrev passed : FileTree → List ℕ
  passed t = (resolved t e.op).trail ++ visited t (resolved t e.op).step e.reply

  passed_same : passed two ≡ passed one
  passed_same = ap (λ z. z.trail ++ visited two z.step e.reply) way ∙ ap (λ v. (resolved one e.op).trail ++ v) (visited_same (resolved one e.op).step refl)

  -- what is made of the files of both trees
  record Turns (b : ℕ) : Type 0 where
    pub hit : Bool
    pub edit : List Cell → List Cell
    pub stays : (xs ys : List Cell) → Vaguer xs ys → edit ys ≡ ys → edit xs ≡ xs
    pub first : Edited hit edit (node_at one b) (node_at (applied one e).tree b)
    pub second : Edited hit edit (node_at two b) (node_at (applied two e).tree b)
    pub passes : hit ≡ true → is_in b (passed one) ≡ true
    pub writes : hit ≡ true → writes_file e.op && is_ok e.reply ≡ true

  turned : (t : FileTree) → IsWalkable t → IsNew t e.number.0 → is_answer t e ≡ true → (o : Op) → (resolved t e.op).step ≡ Goes o → (b : ℕ) → Edited (hits t o e.reply b) (edited o) (node_at t b) (node_at (applied t e).tree b)
  turned t walk new told o i b =
      let m = told_blocks t e.reply in
      subst (λ z. Edited (hits t o e.reply b) (edited o) (node_at t b) (node_at (perform_step t z e.number.0 e.when m).tree b)) (sym i)
      (edits t walk.births e.number.0 e.when m new e.reply o (subst (λ z. agrees (perform_step t z e.number.0 e.when m).answer e.reply ≡ true) i (told_of t e told)) b)

  unturned : (t : FileTree) (r : Reply) → (resolved t e.op).step ≡ Stops r → (b : ℕ) → Edited false (λ xs. xs) (node_at t b) (node_at (applied t e).tree b)
  unturned t r i b = subst (λ z. Edited false (λ xs. xs) (node_at t b) (node_at (perform_step t z e.number.0 e.when (told_blocks t e.reply)).tree b)) (sym i) (λ xs l w ys k v p q. let z : Some (File xs l w) ≡ Some (File ys k v) = sym p ∙ q in cc)

  hits_same : (o : Op) → (resolved one e.op).step ≡ Goes o → (b : ℕ) → hits two o e.reply b ≡ hits one o e.reply b
  hits_same o i b = ap (λ l. writes_file o && (is_ok e.reply && is_in b l)) (further_same vague one two grounds o e.reply e.number.0 e.when (told_blocks one e.reply) (agree_on o i))

  hit_passed : (o : Op) → (resolved one e.op).step ≡ Goes o → (b : ℕ) → hits one o e.reply b ≡ true → is_in b (passed one) ≡ true
  hit_passed o i b h =
      let there = (and_parts (is_ok e.reply) (is_in b (further one o e.reply)) (and_parts (writes_file o) (is_ok e.reply && is_in b (further one o e.reply)) h).1).1 in
      in_right b (resolved one e.op).trail (visited one (resolved one e.op).step e.reply)
      (subst (λ z. is_in b (visited one z e.reply) ≡ true) (sym i) (in_right b (looked_in one o) (further one o e.reply) there))

  hit_writes : (o : Op) → (resolved one e.op).step ≡ Goes o → (b : ℕ) → hits one o e.reply b ≡ true → writes_file e.op && is_ok e.reply ≡ true
  hit_writes o i b h =
      let p = and_parts (writes_file o) (is_ok e.reply && is_in b (further one o e.reply)) h in
      let same : writes_file o ≡ writes_file e.op = subst (IsOf (λ q. writes_file q ≡ writes_file e.op)) i (resolved_writes one e.op) in
      and_from (writes_file e.op) (is_ok e.reply) (sym same ∙ p.0) (and_parts (is_ok e.reply) (is_in b (further one o e.reply)) p.1).0

  turns : (b : ℕ) → Turns b
  turns b = go (resolved one e.op).step refl
    where
      go : (s : Step) → (resolved one e.op).step ≡ s → Turns b
      go (Goes o) i = record {
        hit = hits one o e.reply b;
        edit = edited o;
        stays = edit_stays o;
        first = turned one walk_one new_one answered o i b;
        second = subst (λ h. Edited h (edited o) (node_at two b) (node_at (applied two e).tree b)) (hits_same o i b) (turned two walk_two new_two answered_two o (ap (λ z. z.step) way ∙ i) b);
        passes = hit_passed o i b;
        writes = hit_writes o i b;
      }
      go (Stops r) i = record {
        hit = false;
        edit = λ xs. xs;
        stays = λ xs ys v h. refl;
        first = unturned one r i b;
        second = unturned two r (ap (λ z. z.step) way ∙ i) b;
        passes = λ h. cc;
        writes = λ h. cc;
      }

  enough : is_nospace e.reply ≡ false → Roomy one two e
  enough h = inl (wants_alike (applied one e).answer e.reply (told_of one e answered) ∙ h, wants_alike (applied two e).answer e.reply (told_of two e answered_two) ∙ h)

  -- what is applied, and what comes after, in both
  joint : Joint vague one two (applied one e).tree (applied two e).tree
  joint = go (is_nospace e.reply) refl
    where
      go : (n : Bool) → is_nospace e.reply ≡ n → Joint vague one two (applied one e).tree (applied two e).tree
      go true h = subst (λ u. Joint vague one two u (applied two e).tree) (sym (quiet_applied one e answered h)) (subst (Joint vague one two one) (sym (quiet_applied two e answered_two h)) (joint_none vague one two))
      go false h = (alike vague one two e walk_one walk_two kinds new_one new_two answered (enough h) near).nodes

  pub afterwards : Joint vague one two (tree_after one e) (tree_after two e)
  afterwards = go (is_nospace e.reply) refl
    where
      go : (n : Bool) → is_nospace e.reply ≡ n → Joint vague one two (tree_after one e) (tree_after two e)
      go true h = subst (λ u. Joint vague one two u (tree_after two e)) (sym (quiet_after one e answered h)) (subst (Joint vague one two one) (sym (quiet_after two e answered_two h)) (joint_none vague one two))
      go false h = after_joint vague one two e walk_one walk_two kinds new_one new_two answered (enough h) near

  -- the shape
  shape_alike : changes_shape one e ≡ changes_shape two e
  shape_alike = ap₂ (λ a d. a && d) (answered ∙ sym answered_two) (shape_changes_alike one two (applied one e).tree (applied two e).tree joint)

  pub recorded_alike : is_recorded one e ≡ is_recorded two e
  recorded_alike = ap (λ c. c || (writes_file e.op && is_ok e.reply)) shape_alike

  -- what is changed
  stays_at : (t : FileTree) → is_answer t e ≡ true → (b : ℕ) → changes t e b ≡ false → node_at t b ≡ node_at (applied t e).tree b
  stays_at t told b h = alike_at t (applied t e).tree b (sym (ap (λ a. a && differs t (applied t e).tree b) told) ∙ h)

  unchanged : (t : FileTree) (b : ℕ) → node_at t b ≡ node_at (applied t e).tree b → changes t e b ≡ false
  unchanged t b h = and_right (is_answer t e) (differs t (applied t e).tree b) (no_difference t (applied t e).tree b h)

  fewer : (b : ℕ) → changes two e b ≡ false → changes one e b ≡ false
  fewer b h =
      let t = turns b in
      unchanged one b (less t.hit t.edit t.stays (node_at one b) (node_at two b) (node_at (applied one e).tree b) (node_at (applied two e).tree b) (joint.each b) t.first t.second (stays_at two answered_two b h))

  same_by : (b : ℕ) → (changes one e b ≡ false → changes two e b ≡ false) → changes one e b ≡ changes two e b
  same_by b back = go (changes one e b) (changes two e b) refl refl
    where
      go : (x y : Bool) → changes one e b ≡ x → changes two e b ≡ y → changes one e b ≡ changes two e b
      go true true i j = i ∙ sym j
      go false false i j = i ∙ sym j
      go true false i j = absurd (let z : changes one e b ≡ false = fewer b j in cc)
      go false true i j = absurd (let z : changes two e b ≡ false = back i in cc)

  pub changes_grow : (b : ℕ) → changes one e b ≡ true → changes two e b ≡ true
  changes_grow b h = go (changes two e b) refl
    where
      go : (y : Bool) → changes two e b ≡ y → changes two e b ≡ true
      go true j = j
      go false j = absurd (let z : changes one e b ≡ false = fewer b j in cc)

  pub changes_alike : (b : ℕ) → node_at one b ≡ node_at two b → changes one e b ≡ changes two e b
  changes_alike b s =
      let t = turns b in
      same_by b (λ h. unchanged two b (more t.hit t.edit t.stays (node_at one b) (node_at two b) (node_at (applied one e).tree b) (node_at (applied two e).tree b) (joint.each b) t.first t.second s (stays_at one answered b h)))

  -- what isn't hit is changed in both or in neither
  unhit_alike : (b : ℕ) → (turns b).hit ≡ false → changes one e b ≡ changes two e b
  unhit_alike b missed =
      let t = turns b in
      same_by b (λ h. unchanged two b (unhit t.hit t.edit t.stays (node_at one b) (node_at two b) (node_at (applied one e).tree b) (node_at (applied two e).tree b) (joint.each b) t.second missed (stays_at one answered b h)))

  unpassed : (b : ℕ) → is_in b (passed one) ≡ false → changes one e b ≡ changes two e b
  unpassed b away = unhit_alike b (false_from_ne_true (turns b).hit (λ h. let z : true ≡ false = sym ((turns b).passes h) ∙ away in cc))

  pub only_writes : (b : ℕ) → changes one e b ≡ false → changes two e b ≡ true → writes_file e.op && is_ok e.reply ≡ true
  only_writes b stays changed = go (turns b).hit refl
    where
      go : (h : Bool) → (turns b).hit ≡ h → writes_file e.op && is_ok e.reply ≡ true
      go true i = (turns b).writes i
      go false i = absurd (let z : changes one e b ≡ changes two e b = unhit_alike b i in cc)

  pub touches_same : (b : ℕ) → touches one e b ≡ touches two e b
  touches_same b = ap₂ (λ a c. a && c) (answered ∙ sym answered_two) (go (is_in b (passed one)) refl ∙ ap (λ l. changes two e b || is_in b l) (sym passed_same))
    where
      always : (x y : Bool) → x || true ≡ y || true
      always true true = refl
      always true false = refl
      always false true = refl
      always false false = refl

      go : (p : Bool) → is_in b (passed one) ≡ p → changes one e b || is_in b (passed one) ≡ changes two e b || is_in b (passed one)
      go true i = ap (λ p. changes one e b || p) i ∙ always (changes one e b) (changes two e b) ∙ ap (λ p. changes two e b || p) (sym i)
      go false i = ap (λ c. c || is_in b (passed one)) (unpassed b i)
