-- An operation goes by the nodes that it touches.
use Rattle.std.proofs.Common.{ℕ, ◌≡◌, ◌==◌, true, false, not, Option, Some, None, List, [], ◌∷◌, ◌++◌, length, map, replicate, refl, sym, ◌∙◌, ap, subst, ◌⊎◌, is_some}
use Rattle.std.proofs.lemmas.Bool.{or_right}
use Rattle.frang_base.specs.declared.op.Op.{Op}
use Rattle.frang_base.specs.declared.op.Op.TheVariants as op
use Rattle.frang_base.specs.declared.reply.Reply.{Reply}
use Rattle.frang_base.specs.declared.reply.Reply.TheVariants as reply
use Rattle.frang_base.proofs.Tests.{or_more}
use Rattle.tree_definitions.specs.declared.cells.Cell.{Cell}
use Rattle.tree_definitions.specs.declared.cells.Cell.TheVariants.{Byte}
use Rattle.tree_definitions.specs.declared.node.Node.{Node}
use Rattle.tree_definitions.specs.declared.node.Node.TheVariants.{Dir, File, Link}
use Rattle.tree_definitions.specs.Tree.{FileTree, node_at}
use Rattle.tree_definitions.specs.Place.{Place, Root, Taken, Free, Nowhere, place, walked}
use Rattle.tree_definitions.specs.Apply.{Answer, Plain, Applied, apply, says, is_dir, linked, unlinked, dir_removed, renamed, renamed_from, renamed_to, overwritten, written, truncated, shown, made, at_file, at_node, described, listed, target_of, time_of}
use Rattle.tree_definitions.specs.History.{agrees}
use Rattle.tree_definitions.specs.Touched.{looked_in, further, reached, reached_if, then_walked, any_node, dir_node, file_node, link_node}
use Rattle.tree_definitions.specs.WellFormed.{IsNew}
use Rattle.tree_laws.specs.Rooms.{SameRoom}
use Rattle.tree_laws.proofs.Likeness.{Likeness, Near, overwritten_like}
use Rattle.tree_laws.proofs.Places.{Stands, SameWalk, same_walk, place_stands, is_in}
use Rattle.tree_laws.proofs.Replies.{told_mlink, told_dirfull, told_nodirblock, told_notempty}
use Rattle.tree_laws.proofs.Joint.{Matches, both_say}
use Rattle.tree_laws.proofs.Acting.{made_matches, link_taken, unlink_taken, rmdir_taken, some_one}
use Rattle.tree_laws.proofs.Renaming.{renamed_to_matches}
use Rattle.tree_laws.proofs.Asking.{Grounds, Reaches, reached_is_in, at_file_matches, written_matches, truncated_matches, shown_matches, stat_matches, list_matches, readlink_matches}

pub in_left : (b : ℕ) (xs ys : List ℕ) → is_in b xs ≡ true → is_in b (xs ++ ys) ≡ true
in_left b [] ys h = cc
in_left b (x ∷ xs) ys h = or_more (x == b) (is_in b xs) (is_in b (xs ++ ys)) (in_left b xs ys) h

pub in_right : (b : ℕ) (xs ys : List ℕ) → is_in b ys ≡ true → is_in b (xs ++ ys) ≡ true
in_right b [] ys h = h
in_right b (x ∷ xs) ys h = or_right (x == b) (is_in b (xs ++ ys)) (in_right b xs ys h)

-- a second walk is made
pub then_after_any : (tree : FileTree) (c : ℕ) (o : Option Node) (to : List (List ℕ)) → is_some o ≡ true → then_walked tree (reached_if any_node c o) to ≡ walked tree to
then_after_any tree c (Some x) to s = refl
then_after_any tree c None to s = cc

then_after_plain : (tree : FileTree) (c : ℕ) (o : Option Node) (to : List (List ℕ)) → is_some o ≡ true → is_dir o ≡ false → then_walked tree (reached_if (λ n. not (dir_node n)) c o) to ≡ walked tree to
then_after_plain tree c (Some (File cells links when)) to s f = refl
then_after_plain tree c (Some (Link target links)) to s f = refl
then_after_plain tree c (Some (Dir es n)) to s f = absurd (cc)
then_after_plain tree c None to s f = absurd (cc)

-- a node that is there is reached
any_is_in : (tree : FileTree) (p : Place) (b : ℕ) (o : Option Node) → node_at tree b ≡ o → is_some o ≡ true → Reaches p b → is_in b (reached tree any_node p) ≡ true
any_is_in tree p b (Some x) e s r = reached_is_in tree any_node p b x r e refl
any_is_in tree p b None e s r = absurd (cc)

dir_is_in : (tree : FileTree) (p : Place) (b : ℕ) (o : Option Node) → node_at tree b ≡ o → is_dir o ≡ true → Reaches p b → is_in b (reached tree dir_node p) ≡ true
dir_is_in tree p b (Some (Dir es n)) e s r = reached_is_in tree dir_node p b (Dir es n) r e refl
dir_is_in tree p b (Some (File cells links when)) e s r = absurd (cc)
dir_is_in tree p b (Some (Link target links)) e s r = absurd (cc)
dir_is_in tree p b None e s r = absurd (cc)

-- a file that is reached is a node that is reached
file_if_any : (c b : ℕ) (o : Option Node) → is_in b (reached_if file_node c o) ≡ true → is_in b (reached_if any_node c o) ≡ true
file_if_any c b (Some (File cells links when)) h = h
file_if_any c b (Some (Dir es n)) h = absurd (cc)
file_if_any c b (Some (Link target links)) h = absurd (cc)
file_if_any c b None h = h

file_is_any : (tree : FileTree) (p : Place) (b : ℕ) → is_in b (reached tree file_node p) ≡ true → is_in b (reached tree any_node p) ≡ true
file_is_any tree Root b h = file_if_any 0 b (node_at tree 0) h
file_is_any tree (Taken dir es n name c) b h = file_if_any c b (node_at tree c) h
file_is_any tree (Free dir es n name) b h = h
file_is_any tree (Nowhere r) b h = h

-- the two trees agree on what an operation looks in, on the further node of its reply, and on what it makes otherwise of the first
pub record AgreeOn (L : Likeness) (one two : FileTree) (o : Op) (r : Reply) (a : Applied) : Type 0 where
  pub looked : (b : ℕ) → is_in b (looked_in one o) ≡ true → Near L one two b
  pub further : (b : ℕ) → is_in b (further one o r) ≡ true → Near L one two b
  pub left : (b : ℕ) → (Near L one two b) ⊎ (node_at a.tree b ≡ node_at one b)
  pub told : agrees a.answer r ≡ true

module _ (L : Likeness) (one two : FileTree) (g : Grounds one two) where
  -- the walks of one path are the same
  pub walks : (path : List (List ℕ)) → ((b : ℕ) → is_in b (walked one path) ≡ true → Near L one two b) → SameWalk one two 0 path
  walks path same = same_walk L one two g.kinds g.alive_one g.alive_two g.root_one g.root_two path same

  -- what is done at a place is done at that of the second tree
  at_place : (f h : Place → Applied) (path : List (List ℕ)) → ((b : ℕ) → is_in b (walked one path) ≡ true → Near L one two b)
      → ((p : Place) → Stands one p → Stands two p → p ≡ place one path → Matches L one two (f p) (h p)) → Matches L one two (f (place one path)) (h (place two path))
  at_place f h path same each =
      let e = (walks path same).place in
      subst (λ q. Matches L one two (f (place one path)) (h q)) (sym e) (each (place one path) (place_stands one path) (subst (Stands two) e (place_stands two path)) refl)

  module _ (birth when : ℕ) (new_one : IsNew one birth) (new_two : IsNew two birth) (m k : ℕ) (told_same : SameRoom one two → m ≡ k) (r : Reply) where
    link_matches : (path to : List (List ℕ)) → AgreeOn L one two (op.Link path to) r (apply one (op.Link path to) birth when m) → Matches L one two (linked one (place one path) (place one to)) (linked two (place two path) (place two to))
    link_matches path to h = at_place (λ p. linked one p (place one to)) (λ p. linked two p (place two to)) path (λ b i. h.looked b (in_left b (walked one path) (then_walked one (reached one (λ n. not (dir_node n)) (place one path)) to) i)) go
      where
        go : (p : Place) → Stands one p → Stands two p → p ≡ place one path → Matches L one two (linked one p (place one to)) (linked two p (place two to))
        go Root s t e = both_say L one two reply.IsDir
        go (Nowhere q) s t e = both_say L one two q
        go (Free dir es n name) s t e = both_say L one two reply.NoEnt
        go (Taken dir es n name b) s t e =
            let there = some_one L one two g.kinds g.alive_one g.alive_two dir es n name b s t in
            let told_by = λ (w : Answer) (z : (linked one (Taken dir es n name b) (place one to)).answer ≡ w). subst (λ v. agrees v r ≡ true) (ap (λ p. (linked one p (place one to)).answer) (sym e) ∙ z) h.told in
            let reached_b : is_in b (reached one any_node (place one path)) ≡ true = subst (λ p. is_in b (reached one any_node p) ≡ true) e (any_is_in one (Taken dir es n name b) b (node_at one b) refl there refl) in
            link_taken L one two g.kinds g.alive_one g.alive_two dir es n name b s t (place one to) (place two to) (place_stands one to) (place_stands two to)
            (λ f. (walks to (λ d i. h.looked d (in_right d (walked one path) (then_walked one (reached one (λ n. not (dir_node n)) (place one path)) to)
            (subst (λ p. is_in d (then_walked one (reached one (λ n. not (dir_node n)) p) to) ≡ true) e (subst (λ l. is_in d l ≡ true) (sym (then_after_plain one b (node_at one b) to there f)) i))))).place)
            (λ z f. h.further b (subst (λ q. is_in b (further one (op.Link path to) q) ≡ true) (sym (told_mlink r (told_by (Plain reply.MLink) z))) reached_b))
            (λ z f. h.further b (subst (λ q. is_in b (further one (op.Link path to) q) ≡ true) (sym (told_dirfull r (told_by (Plain reply.DirFull) z))) reached_b))
            (λ z f. h.further b (subst (λ q. is_in b (further one (op.Link path to) q) ≡ true) (sym (told_nodirblock r (told_by (Plain reply.NoDirBlock) z))) reached_b))
            (subst (λ p. (Near L one two b) ⊎ (node_at (linked one p (place one to)).tree b ≡ node_at one b)) (sym e) (h.left b))

    unlink_matches : (path : List (List ℕ)) → AgreeOn L one two (op.Unlink path) r (apply one (op.Unlink path) birth when m) → Matches L one two (unlinked one (place one path)) (unlinked two (place two path))
    unlink_matches path h = at_place (unlinked one) (unlinked two) path h.looked go
      where
        go : (p : Place) → Stands one p → Stands two p → p ≡ place one path → Matches L one two (unlinked one p) (unlinked two p)
        go Root s t e = both_say L one two reply.IsDir
        go (Nowhere q) s t e = both_say L one two q
        go (Free dir es n name) s t e = both_say L one two reply.NoEnt
        go (Taken dir es n name b) s t e = unlink_taken L one two g.kinds g.alive_one g.alive_two dir es n name b s t g.births_one g.births_two
            (subst (λ p. (Near L one two b) ⊎ (node_at (unlinked one p).tree b ≡ node_at one b)) (sym e) (h.left b))

    rmdir_matches : (path : List (List ℕ)) → AgreeOn L one two (op.Rmdir path) r (apply one (op.Rmdir path) birth when m) → Matches L one two (dir_removed one (place one path)) (dir_removed two (place two path))
    rmdir_matches [] h = both_say L one two reply.Inval
    rmdir_matches (name ∷ names) h = at_place (dir_removed one) (dir_removed two) (name ∷ names) h.looked go
      where
        go : (p : Place) → Stands one p → Stands two p → p ≡ place one (name ∷ names) → Matches L one two (dir_removed one p) (dir_removed two p)
        go Root s t e = both_say L one two reply.Inval
        go (Nowhere q) s t e = both_say L one two q
        go (Free dir es n name) s t e = both_say L one two reply.NoEnt
        go (Taken dir es n nm b) s t e = rmdir_taken L one two g.kinds g.alive_one g.alive_two dir es n nm b s t g.births_one g.births_two
            (λ d. h.further b (subst (λ p. is_in b (reached one dir_node p) ≡ true) e (dir_is_in one (Taken dir es n nm b) b (node_at one b) refl d refl)))

    rename_matches : (path to : List (List ℕ)) → AgreeOn L one two (op.Rename path to) r (apply one (op.Rename path to) birth when m) → Matches L one two (renamed one path to) (renamed two path to)
    rename_matches [] to h = both_say L one two reply.Inval
    rename_matches (p ∷ ps) [] h = both_say L one two reply.Inval
    rename_matches (p ∷ ps) (q ∷ qs) h = at_place (λ z. renamed_from one z (q ∷ qs)) (λ z. renamed_from two z (q ∷ qs)) (p ∷ ps)
        (λ b i. h.looked b (in_left b (walked one (p ∷ ps)) (then_walked one (reached one any_node (place one (p ∷ ps))) (q ∷ qs)) i)) go
      where
        go : (z : Place) → Stands one z → Stands two z → z ≡ place one (p ∷ ps) → Matches L one two (renamed_from one z (q ∷ qs)) (renamed_from two z (q ∷ qs))
        go Root s t e = both_say L one two reply.Inval
        go (Nowhere w) s t e = both_say L one two w
        go (Free dir es n name) s t e = both_say L one two reply.NoEnt
        go (Taken dir es n name b) s t e =
            let there = some_one L one two g.kinds g.alive_one g.alive_two dir es n name b s t in
            let walk = walks (q ∷ qs) (λ d i. h.looked d (in_right d (walked one (p ∷ ps)) (then_walked one (reached one any_node (place one (p ∷ ps))) (q ∷ qs))
            (subst (λ z. is_in d (then_walked one (reached one any_node z) (q ∷ qs)) ≡ true) e (subst (λ l. is_in d l ≡ true) (sym (then_after_any one b (node_at one b) (q ∷ qs) there)) i)))) in
            let outcome : renamed one (p ∷ ps) (q ∷ qs) ≡ renamed_to one dir name b (q ∷ qs) (place one (q ∷ qs)) = ap (λ z. renamed_from one z (q ∷ qs)) (sym e) in
            subst (λ z. Matches L one two (renamed_to one dir name b (q ∷ qs) (place one (q ∷ qs))) (renamed_to two dir name b (q ∷ qs) z)) (sym walk.place)
            (renamed_to_matches L one two g.births_one g.births_two g.kinds g.alive_one g.alive_two dir es n name b s t (q ∷ qs) walk.walked (place one (q ∷ qs)) (place_stands one (q ∷ qs)) (subst (Stands two) walk.place (place_stands two (q ∷ qs)))
            (λ to fs m new old at z d. h.further old (subst (λ w. is_in old (further one (op.Rename (p ∷ ps) (q ∷ qs)) w) ≡ true) (sym (told_notempty r (subst (λ v. agrees v r ≡ true) (ap (λ a. a.answer) outcome ∙ z) h.told)))
            (dir_is_in one (place one (q ∷ qs)) old (node_at one old) refl d (subst (λ w. Reaches w old) (sym at) refl))))
            (λ c. subst (λ a. (Near L one two c) ⊎ (node_at a.tree c ≡ node_at one c)) outcome (h.left c)))

    pub apply_matches : (o : Op) → AgreeOn L one two o r (apply one o birth when m) → Matches L one two (apply one o birth when m) (apply two o birth when k)
    apply_matches (op.Create path) h = at_place (made one birth (File [] 1 0)) (made two birth (File [] 1 0)) path h.looked (λ p s t e. made_matches L one two birth (File [] 1 0) new_one new_two p s t)
    apply_matches (op.Mkdir path) h = at_place (made one birth (Dir [] 0)) (made two birth (Dir [] 0)) path h.looked (λ p s t e. made_matches L one two birth (Dir [] 0) new_one new_two p s t)
    apply_matches (op.Symlink path target) h = at_place (made one birth (Link target 1)) (made two birth (Link target 1)) path h.looked (λ p s t e. made_matches L one two birth (Link target 1) new_one new_two p s t)
    apply_matches (op.Link path to) h = link_matches path to h
    apply_matches (op.Unlink path) h = unlink_matches path h
    apply_matches (op.Rmdir path) h = rmdir_matches path h
    apply_matches (op.Rename path to) h = rename_matches path to h
    apply_matches (op.Write path off bytes) h =
        let f = λ (t : FileTree) (i : ℕ) (b : ℕ) (cells : List Cell) (links old : ℕ). written t i b cells links when off (length bytes) (λ all. overwritten all off (map Byte bytes)) in
        at_place (λ p. at_file one p (f one m)) (λ p. at_file two p (f two k)) path h.looked
        (λ p s t e. at_file_matches L one two g (f one m) (f two k) (λ b cells others links old same l. written_matches L one two g m k told_same b cells others links when off (length bytes) (λ all. overwritten all off (map Byte bytes)) same l (overwritten_like L cells others off (map Byte bytes) l)) p s t
        (λ b i. h.further b (subst (λ p. is_in b (reached one file_node p) ≡ true) e i)))
    apply_matches (op.Fill path off len byte) h =
        let f = λ (t : FileTree) (i : ℕ) (b : ℕ) (cells : List Cell) (links old : ℕ). written t i b cells links when off len (λ all. overwritten all off (replicate len (Byte byte))) in
        at_place (λ p. at_file one p (f one m)) (λ p. at_file two p (f two k)) path h.looked
        (λ p s t e. at_file_matches L one two g (f one m) (f two k) (λ b cells others links old same l. written_matches L one two g m k told_same b cells others links when off len (λ all. overwritten all off (replicate len (Byte byte))) same l (overwritten_like L cells others off (replicate len (Byte byte)) l)) p s t
        (λ b i. h.further b (subst (λ p. is_in b (reached one file_node p) ≡ true) e i)))
    apply_matches (op.Truncate path len) h =
        at_place (λ p. at_file one p (λ b cells links old. truncated one b cells links when len)) (λ p. at_file two p (λ b cells links old. truncated two b cells links when len)) path h.looked
        (λ p s t e. at_file_matches L one two g (λ b cells links old. truncated one b cells links when len) (λ b cells links old. truncated two b cells links when len) (λ b cells others links old same l. truncated_matches L one two g b cells others links when len same l) p s t
        (λ b i. h.further b (subst (λ p. is_in b (reached one file_node p) ≡ true) e i)))
    apply_matches (op.Read path off len) h =
        at_place (λ p. at_file one p (λ b cells links when. shown one cells off len)) (λ p. at_file two p (λ b cells links when. shown two cells off len)) path h.looked
        (λ p s t e. at_file_matches L one two g (λ b cells links when. shown one cells off len) (λ b cells links when. shown two cells off len) (λ b cells others links when same l. shown_matches L one two g cells others off len l) p s t
        (λ b i. h.further b (subst (λ p. is_in b (reached one file_node p) ≡ true) e i)))
    apply_matches (op.Stat path) h = at_place (λ p. at_node one p (λ b o. described one o)) (λ p. at_node two p (λ b o. described two o)) path h.looked
        (λ p s t e. stat_matches L one two g p s t (λ b i. h.further b (subst (λ p. is_in b (reached one any_node p) ≡ true) e i)))
    apply_matches (op.List path) h = at_place (λ p. at_node one p (λ b o. listed one o)) (λ p. at_node two p (λ b o. listed two o)) path h.looked
        (λ p s t e. list_matches L one two g p s t (λ b i. h.further b (subst (λ p. is_in b (reached one dir_node p) ≡ true) e i)))
    apply_matches (op.Readlink path) h = at_place (λ p. at_node one p (λ b o. target_of one o)) (λ p. at_node two p (λ b o. target_of two o)) path h.looked
        (λ p s t e. readlink_matches L one two g p s t (λ b i. h.further b (subst (λ p. is_in b (reached one link_node p) ≡ true) e i)))
    apply_matches (op.Time path) h =
        at_place (λ p. at_file one p (λ b cells links at. says one (time_of at))) (λ p. at_file two p (λ b cells links at. says two (time_of at))) path h.looked
        (λ p s t e. at_file_matches L one two g (λ b cells links at. says one (time_of at)) (λ b cells links at. says two (time_of at)) (λ b cells others links at same l. both_say L one two (time_of at)) p s t
        (λ b i. h.further b (subst (λ p. is_in b (reached one any_node p) ≡ true) e (file_is_any one p b i))))
    apply_matches op.Sync h = both_say L one two reply.Ok
    apply_matches op.Mount h = both_say L one two reply.Ok
    apply_matches op.Unmount h = both_say L one two reply.Ok
    apply_matches op.Crash h = both_say L one two reply.Ok
    apply_matches (op.CrashAt n) h = both_say L one two reply.Ok
    apply_matches (op.CutAt n) h = both_say L one two reply.Ok
    apply_matches op.Stall h = both_say L one two reply.Ok
