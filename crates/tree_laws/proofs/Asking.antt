-- What is asked of one node, in two trees that agree where it touches.
use Rattle.std.proofs.Common.{ℕ, ◌≡◌, ◌+◌, ◌-◌, ◌*◌, Bool, true, ◌&&◌, Option, Some, None, List, [], length, take, drop, max, cond, refl, sym, ◌∙◌, ap, subst, is_some, nat_lt}
use Rattle.frang_base.specs.declared.reply.Reply.TheVariants as reply
use Rattle.tree_definitions.specs.declared.cells.Cell.{Cell}
use Rattle.tree_definitions.specs.declared.node.Node.{Node}
use Rattle.tree_definitions.specs.declared.node.Node.TheVariants.{Dir, File, Link}
use Rattle.tree_definitions.specs.Tree.{FileTree, node_at, with_node, larges_full, large_blocks_of, small_blocks_of, count_of, file_blocks}
use Rattle.tree_definitions.specs.Place.{Place, Root, Taken, Free, Nowhere}
use Rattle.tree_definitions.specs.Apply.{Shows, Applied, says, at_node, if_file, at_file, written, truncated, shown, described, listed, target_of}
use Rattle.tree_definitions.specs.Touched.{dir_node, file_node, link_node, any_node, reached, reached_if}
use Rattle.tree_definitions.specs.WellFormed.{BirthsAscend, EntriesNameNodes, IsRooted}
use Rattle.tree_laws.specs.Touching.{SameKinds, OfDirectory, OfFile, OfLink}
use Rattle.tree_laws.proofs.Places.{Stands, is_in, head_is_in, dir_is_some}
use Rattle.tree_laws.specs.Rooms.{SameRoom}
use Rattle.tree_laws.proofs.Rooms.{same_larges, same_left}
use Rattle.tree_laws.proofs.Likeness.{Likeness, Like, Near}
use Rattle.tree_laws.proofs.Joint.{Matches, joint_none, joint_put, both_do, both_say, both_if, if_room}

-- what is known of the two trees
pub record Grounds (one two : FileTree) : Type 0 where
  pub births_one : BirthsAscend one
  pub births_two : BirthsAscend two
  pub alive_one : EntriesNameNodes one
  pub alive_two : EntriesNameNodes two
  pub root_one : IsRooted one
  pub root_two : IsRooted two
  pub kinds : SameKinds one two

-- the node that a place leads to
abbrev pub Reaches : Place → ℕ → Type 0
Reaches Root b = b ≡ 0
Reaches (Taken dir es n name c) b = b ≡ c
Reaches (Free dir es n name) b = ⊥
Reaches (Nowhere r) b = ⊥

reached_some : (wanted : Node → Bool) (c : ℕ) (o : Option Node) (x : Node) → o ≡ Some x → wanted x ≡ true → is_in c (reached_if wanted c o) ≡ true
reached_some wanted c o x e w = rw (e, w) (head_is_in c [])

pub reached_is_in : (tree : FileTree) (wanted : Node → Bool) (p : Place) (b : ℕ) (x : Node) → Reaches p b → node_at tree b ≡ Some x → wanted x ≡ true → is_in b (reached tree wanted p) ≡ true
reached_is_in tree wanted Root b x r e w = subst (λ c. is_in c (reached_if wanted 0 (node_at tree 0)) ≡ true) (sym r) (reached_some wanted 0 (node_at tree 0) x (ap (node_at tree) (sym r) ∙ e) w)
reached_is_in tree wanted (Taken dir es n name c) b x r e w = subst (λ a. is_in a (reached_if wanted c (node_at tree c)) ≡ true) (sym r) (reached_some wanted c (node_at tree c) x (ap (node_at tree) (sym r) ∙ e) w)
reached_is_in tree wanted (Free dir es n name) b x r e w = absurd r
reached_is_in tree wanted (Nowhere t) b x r e w = absurd r

module _ (L : Likeness) (one two : FileTree) (g : Grounds one two) where
  node_matches : (first second : ℕ → Option Node → Applied) (p : Place) → Stands one p → Stands two p
      → ((b : ℕ) → Reaches p b → is_some (node_at one b) ≡ true → is_some (node_at two b) ≡ true → Matches L one two (first b (node_at one b)) (second b (node_at two b)))
      → Matches L one two (at_node one p first) (at_node two p second)
  node_matches first second Root s t each = each 0 refl (dir_is_some (node_at one 0) g.root_one) (dir_is_some (node_at two 0) g.root_two)
  node_matches first second (Taken dir es n name b) s t each = each b refl (g.alive_one dir es n name b s.0 s.1) (g.alive_two dir es n name b t.0 t.1)
  node_matches first second (Free dir es n name) s t each = both_say L one two reply.NoEnt
  node_matches first second (Nowhere r) s t each = both_say L one two r

  -- of a file
  module _ (first second : ℕ → List Cell → ℕ → ℕ → Applied) (each : (b : ℕ) (cells others : List Cell) (links when : ℕ) → Near L one two b → L.like cells others → Matches L one two (first b cells links when) (second b others links when)) where
    file_matches : (b : ℕ) (o q : Option Node) → node_at one b ≡ o → node_at two b ≡ q → is_some o ≡ true → is_some q ≡ true → ((x : Node) → o ≡ Some x → file_node x ≡ true → Near L one two b) → Matches L one two (if_file one first b o) (if_file two second b q)
    file_matches b (Some (File cells links when)) q i j s t same =
        let e = same (File cells links when) refl refl in
        let l = subst (λ z. Like L (Some (File cells links when)) z) j (subst (λ z. Like L z (node_at two b)) i e) in
        subst (λ z. Matches L one two (first b cells links when) (if_file two second b z)) (sym l.1) (each b cells l.0 links when e l.2)
    file_matches b (Some (Dir es n)) (Some (Dir fs m)) i j s t same = both_say L one two reply.IsDir
    file_matches b (Some (Dir es n)) (Some (File fs m v)) i j s t same = absurd (let k : OfDirectory ≡ OfFile = g.kinds b (Dir es n) (File fs m v) i j in cc)
    file_matches b (Some (Dir es n)) (Some (Link fs m)) i j s t same = absurd (let k : OfDirectory ≡ OfLink = g.kinds b (Dir es n) (Link fs m) i j in cc)
    file_matches b (Some (Link es n)) (Some (Dir fs m)) i j s t same = absurd (let k : OfLink ≡ OfDirectory = g.kinds b (Link es n) (Dir fs m) i j in cc)
    file_matches b (Some (Link es n)) (Some (File fs m v)) i j s t same = absurd (let k : OfLink ≡ OfFile = g.kinds b (Link es n) (File fs m v) i j in cc)
    file_matches b (Some (Link es n)) (Some (Link fs m)) i j s t same = both_say L one two reply.Inval
    file_matches b None q i j s t same = absurd (cc)
    file_matches b (Some (Dir es n)) None i j s t same = absurd (cc)
    file_matches b (Some (Link es n)) None i j s t same = absurd (cc)

    pub at_file_matches : (p : Place) → Stands one p → Stands two p → ((b : ℕ) → is_in b (reached one file_node p) ≡ true → Near L one two b) → Matches L one two (at_file one p first) (at_file two p second)
    at_file_matches p s t same = node_matches (λ b o. if_file one first b o) (λ b o. if_file two second b o) p s t
        (λ b r some_one some_two. file_matches b (node_at one b) (node_at two b) refl refl some_one some_two (λ x e w. same b (reached_is_in one file_node p b x r e w)))

  -- what a write answers, by the length of the file
  abbrev writing : FileTree → ℕ → ℕ → ℕ → ℕ → FileTree → Applied
  writing t m n off len u =
      let size = max n (off + len) in
      cond (nat_lt n off) (says t reply.BadOffset)
      (cond (nat_lt 1114112 (off + len)) (says t reply.TooBig)
      (cond (nat_lt (large_blocks_of n) (large_blocks_of size) && larges_full t) (says t reply.NoLarge)
      (cond (nat_lt (1024 * t.segments - m) (count_of file_blocks t + (small_blocks_of size - small_blocks_of n))) (says t (reply.NoBlock m)) (says u reply.Ok))))

  pub written_matches : (m k : ℕ) → (SameRoom one two → m ≡ k) → (b : ℕ) (cells others : List Cell) (links when off len : ℕ) (put : List Cell → List Cell) → Near L one two b → L.like cells others → L.like (put cells) (put others) → Matches L one two (written one m b cells links when off len put) (written two k b others links when off len put)
  written_matches m k told b cells others links when off len put same l p =
      let n = length cells in
      let size = max n (off + len) in
      let u = with_node one b (File (put cells) links when) in
      let v = with_node two b (File (put others) links when) in
      subst (λ i. Matches L one two (written one m b cells links when off len put) (writing two k i off len v)) (L.long cells others l)
      (both_if L one two (nat_lt n off) (says one reply.BadOffset) _ (says two reply.BadOffset) _ (both_say L one two reply.BadOffset)
      (both_if L one two (nat_lt 1114112 (off + len)) (says one reply.TooBig) _ (says two reply.TooBig) _ (both_say L one two reply.TooBig)
      (if_room L one two (nat_lt (large_blocks_of n) (large_blocks_of size) && larges_full one) (nat_lt (large_blocks_of n) (large_blocks_of size) && larges_full two) reply.NoLarge reply.NoLarge _ _ refl refl (λ r. ap (λ f. nat_lt (large_blocks_of n) (large_blocks_of size) && f) (same_larges one two r)) (λ r. refl)
      (if_room L one two (nat_lt (1024 * one.segments - m) (count_of file_blocks one + (small_blocks_of size - small_blocks_of n))) (nat_lt (1024 * two.segments - k) (count_of file_blocks two + (small_blocks_of size - small_blocks_of n))) (reply.NoBlock m) (reply.NoBlock k) _ _ refl refl (λ r. same_left one two m k (small_blocks_of size - small_blocks_of n) r (told r)) (λ r. ap (λ i. reply.NoBlock i) (told r))
      (both_do L one two u v reply.Ok (joint_put L one two one two (joint_none L one two) b (File (put cells) links when) (File (put others) links when) same (put others, refl, p)))))))

  pub truncated_matches : (b : ℕ) (cells others : List Cell) (links when len : ℕ) → Near L one two b → L.like cells others → Matches L one two (truncated one b cells links when len) (truncated two b others links when len)
  truncated_matches b cells others links when len same l =
      let v = with_node two b (File (take len others) links when) in
      subst (λ i. Matches L one two (truncated one b cells links when len) (cond (nat_lt i len) (says two reply.BadOffset) (says v reply.Ok))) (L.long cells others l)
      (both_if L one two (nat_lt (length cells) len) (says one reply.BadOffset) _ (says two reply.BadOffset) _ (both_say L one two reply.BadOffset)
      (both_do L one two (with_node one b (File (take len cells) links when)) v reply.Ok (joint_put L one two one two (joint_none L one two) b (File (take len cells) links when) (File (take len others) links when) same (take len others, refl, L.taken len cells others l))))

  shows_both : (cells others : List Cell) → L.like cells others → Matches L one two (record { answer = Shows cells; tree = one }) (record { answer = Shows others; tree = two })
  shows_both cells others l = record { alike = λ _ _. record { answer = (others, refl, l); nodes = joint_none L one two }; roomy = λ _. record { answer = (others, refl, l); nodes = joint_none L one two } }

  pub shown_matches : (cells others : List Cell) (off len : ℕ) → L.like cells others → Matches L one two (shown one cells off len) (shown two others off len)
  shown_matches cells others off len l =
      subst (λ i. Matches L one two (shown one cells off len) (cond (nat_lt i off) (says two reply.BadOffset) (record { answer = Shows (take len (drop off others)); tree = two }))) (L.long cells others l)
      (both_if L one two (nat_lt (length cells) off) (says one reply.BadOffset) _ (says two reply.BadOffset) _ (both_say L one two reply.BadOffset)
      (shows_both (take len (drop off cells)) (take len (drop off others)) (L.taken len (drop off cells) (drop off others) (L.dropped off cells others l))))

  -- of any node
  described_matches : (o q : Option Node) → Like L o q → Matches L one two (described one o) (described two q)
  described_matches (Some (File cells links when)) q l = subst (λ z. Matches L one two (described one (Some (File cells links when))) (described two z)) (sym l.1)
      (subst (λ n. Matches L one two (described one (Some (File cells links when))) (says two (reply.File n links))) (L.long cells l.0 l.2) (both_say L one two (reply.File (length cells) links)))
  described_matches (Some (Dir es n)) q l = subst (λ z. Matches L one two (described one (Some (Dir es n))) (described two z)) (sym l) (both_say L one two (reply.Dir (length es)))
  described_matches (Some (Link target links)) q l = subst (λ z. Matches L one two (described one (Some (Link target links))) (described two z)) (sym l) (both_say L one two (reply.Symlink (length target)))
  described_matches None q l = subst (λ z. Matches L one two (described one None) (described two z)) (sym l) (both_say L one two reply.NoEnt)

  pub stat_matches : (p : Place) → Stands one p → Stands two p → ((b : ℕ) → is_in b (reached one any_node p) ≡ true → Near L one two b) → Matches L one two (at_node one p (λ b o. described one o)) (at_node two p (λ b o. described two o))
  stat_matches p s t same = node_matches (λ b o. described one o) (λ b o. described two o) p s t (λ b r some_one some_two. go b r (node_at one b) refl some_one)
    where
      go : (b : ℕ) → Reaches p b → (o : Option Node) → node_at one b ≡ o → is_some o ≡ true → Matches L one two (described one (node_at one b)) (described two (node_at two b))
      go b r (Some x) e some = described_matches (node_at one b) (node_at two b) (same b (reached_is_in one any_node p b x r e refl))
      go b r None e some = absurd (cc)

  -- of a directory
  listed_matches : (b : ℕ) (o q : Option Node) → node_at one b ≡ o → node_at two b ≡ q → is_some o ≡ true → is_some q ≡ true → ((x : Node) → o ≡ Some x → dir_node x ≡ true → Near L one two b) → Matches L one two (listed one o) (listed two q)
  listed_matches b (Some (Dir es n)) q i j s t same = subst (λ z. Matches L one two (listed one (Some (Dir es n))) (listed two z)) (sym (subst (λ z. Like L (Some (Dir es n)) z) j (subst (λ z. Like L z (node_at two b)) i (same (Dir es n) refl refl)))) (both_say L one two _)
  listed_matches b (Some (File es n w)) (Some (Dir fs m)) i j s t same = absurd (let k : OfFile ≡ OfDirectory = g.kinds b (File es n w) (Dir fs m) i j in cc)
  listed_matches b (Some (File es n w)) (Some (File fs m v)) i j s t same = both_say L one two reply.NotDir
  listed_matches b (Some (File es n w)) (Some (Link fs m)) i j s t same = both_say L one two reply.NotDir
  listed_matches b (Some (Link es n)) (Some (Dir fs m)) i j s t same = absurd (let k : OfLink ≡ OfDirectory = g.kinds b (Link es n) (Dir fs m) i j in cc)
  listed_matches b (Some (Link es n)) (Some (File fs m v)) i j s t same = both_say L one two reply.NotDir
  listed_matches b (Some (Link es n)) (Some (Link fs m)) i j s t same = both_say L one two reply.NotDir
  listed_matches b None q i j s t same = absurd (cc)
  listed_matches b (Some (File es n w)) None i j s t same = absurd (cc)
  listed_matches b (Some (Link es n)) None i j s t same = absurd (cc)

  pub list_matches : (p : Place) → Stands one p → Stands two p → ((b : ℕ) → is_in b (reached one dir_node p) ≡ true → Near L one two b) → Matches L one two (at_node one p (λ b o. listed one o)) (at_node two p (λ b o. listed two o))
  list_matches p s t same = node_matches (λ b o. listed one o) (λ b o. listed two o) p s t
      (λ b r some_one some_two. listed_matches b (node_at one b) (node_at two b) refl refl some_one some_two (λ x e w. same b (reached_is_in one dir_node p b x r e w)))

  -- of a link
  target_matches : (b : ℕ) (o q : Option Node) → node_at one b ≡ o → node_at two b ≡ q → is_some o ≡ true → is_some q ≡ true → ((x : Node) → o ≡ Some x → link_node x ≡ true → Near L one two b) → Matches L one two (target_of one o) (target_of two q)
  target_matches b (Some (Link es n)) q i j s t same = subst (λ z. Matches L one two (target_of one (Some (Link es n))) (target_of two z)) (sym (subst (λ z. Like L (Some (Link es n)) z) j (subst (λ z. Like L z (node_at two b)) i (same (Link es n) refl refl)))) (both_say L one two _)
  target_matches b (Some (File es n w)) (Some (Link fs m)) i j s t same = absurd (let k : OfFile ≡ OfLink = g.kinds b (File es n w) (Link fs m) i j in cc)
  target_matches b (Some (File es n w)) (Some (File fs m v)) i j s t same = both_say L one two reply.Inval
  target_matches b (Some (File es n w)) (Some (Dir fs m)) i j s t same = both_say L one two reply.Inval
  target_matches b (Some (Dir es n)) (Some (Link fs m)) i j s t same = absurd (let k : OfDirectory ≡ OfLink = g.kinds b (Dir es n) (Link fs m) i j in cc)
  target_matches b (Some (Dir es n)) (Some (File fs m v)) i j s t same = both_say L one two reply.Inval
  target_matches b (Some (Dir es n)) (Some (Dir fs m)) i j s t same = both_say L one two reply.Inval
  target_matches b None q i j s t same = absurd (cc)
  target_matches b (Some (File es n w)) None i j s t same = absurd (cc)
  target_matches b (Some (Dir es n)) None i j s t same = absurd (cc)

  pub readlink_matches : (p : Place) → Stands one p → Stands two p → ((b : ℕ) → is_in b (reached one link_node p) ≡ true → Near L one two b) → Matches L one two (at_node one p (λ b o. target_of one o)) (at_node two p (λ b o. target_of two o))
  readlink_matches p s t same = node_matches (λ b o. target_of one o) (λ b o. target_of two o) p s t
      (λ b r some_one some_two. target_matches b (node_at one b) (node_at two b) refl refl some_one some_two (λ x e w. same b (reached_is_in one link_node p b x r e w)))
