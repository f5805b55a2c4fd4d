-- What nobody saw can go.
use Rattle.std.proofs.Common.{◌≤◌, ◌-◌, arith, le_refl, leb-true, le-leb, nat_le, inl, inr, ◌⊎◌, ℕ, ◌≡◌, ◌+◌, ◌==◌, Bool, true, false, not, ◌&&◌, ◌||◌, Option, Some, None, List, [], ◌∷◌, ◌++◌, length, map, take, drop, cond, refl, sym, ◌∙◌, ap, subst, nat_eq, eqb-true, nat_lt}
use Rattle.std.specs.List.{list_any}
use Rattle.std.proofs.lemmas.Bool.{and_parts, and_from, or_parts, not-true, or_from}
use Rattle.std.proofs.lemmas.Map.Keys.{IsDistinct-tail}
use mathlib.Core.Bool.{and-false, or-true, and-true}
use Rattle.frang_base.specs.declared.op.Op.{Op}
use Rattle.frang_base.specs.declared.op.Op.TheVariants as op
use Rattle.frang_base.specs.declared.reply.Reply.{Reply}
use Rattle.frang_base.specs.declared.reply.Reply.TheVariants as reply
use Rattle.tree_definitions.specs.declared.cells.Cell.{Cell}
use Rattle.tree_definitions.specs.declared.cells.Cell.TheVariants.{Byte}
use Rattle.tree_definitions.specs.declared.history.Entry.{Entry}
use Rattle.tree_definitions.specs.declared.node.Node.{Node}
use Rattle.tree_definitions.specs.declared.node.Node.TheVariants.{Dir, File, Link}
use Rattle.tree_definitions.specs.Tree.{FileTree, node_at, with_node, count_of, dir_blocks}
use Rattle.tree_definitions.specs.Place.{Place, Root, Taken, Free, Nowhere, place}
use Rattle.tree_definitions.specs.Apply.{Plain, Shows, Applied, says, apply, at_file, if_file, shown, overwritten, is_path_op}
use Rattle.tree_definitions.specs.Perform.{Step, Goes, Stops, resolved, perform_step}
use Rattle.tree_definitions.specs.History.{applied, is_answer, agrees, told_blocks, may_tell, leaves_tree, fits, tree_after, after_read, after_step, with_shown, file_at, file_of, Settled, Stays, InDoubt, CellRun, doubted, after, grows, may_stand, legal_from}
use Rattle.tree_definitions.specs.Touched.{touches, changes, changed, births, is_nospace, touched_later, refused_later, other_room, changes_room, is_seen, is_synced, stalled_after}
use Rattle.tree_definitions.specs.Removal.{begins_removal, left, keeps_known, none_known, recovered, doubtful, is_lost, mounts}
use Rattle.tree_definitions.specs.WellFormed.{IsWellFormed, AreNew, numbers_of}
use Rattle.tree_laws.specs.Touching.{Kind, HasKinds, wants_room}
use Rattle.tree_laws.specs.Kinds.{MakeToldKinds, kinds_along}
use Rattle.tree_laws.specs.Removing.{without, none_seen, has_room, room_left}
use Rattle.tree_definitions.proofs.Births.{each_but}
use Rattle.tree_laws.proofs.Nodes.{with_same, with_other}
use Rattle.tree_laws.proofs.Places.{is_in}
use Rattle.tree_laws.proofs.Likeness.{Like, Near, like_same, like_equal}
use Rattle.tree_laws.specs.Alike.{Vaguer}
use Rattle.tree_laws.proofs.Vagueness.{vague, vague_nodes_trans, shown_is_sharper, doubted_near}
use Rattle.tree_laws.proofs.Replies.{wants_alike}
use Rattle.tree_laws.proofs.Refusals.{looks_leave}
use Rattle.tree_laws.proofs.Joint.{Joint, joint_near}
use Rattle.tree_laws.proofs.Applying.{in_left}
use Rattle.tree_laws.specs.Rooms.{SameRoom}
use Rattle.tree_laws.proofs.RoomLaws.{RoomAlike, room_of, room_same, like_room, joint_room, doubted_room, room_stays, grows_same}
use Rattle.tree_laws.proofs.OrderLaws.{segments_after}
use Rattle.tree_laws.proofs.Alike.{Roomy, answered_two, after_joint}
use Rattle.tree_laws.proofs.FreshLaws.{walkable}
use Rattle.tree_laws.proofs.StepsLaws.{file_at_is, after_keeps, are_new_after}
use Rattle.tree_laws.proofs.KindsLaws.{kinds_agree, perform_keeps_kinds, after_keeps_kinds, kinds_can_be_told}
use Rattle.tree_laws.proofs.SettlingLaws.{lost_is_of}
use Rattle.tree_laws.proofs.HistoryLaws.{legal-push}
use Rattle.tree_laws.proofs.Untouched.{not_in_right}
use Rattle.tree_laws.proofs.Sharper.{sharper_after}
use Rattle.tree_laws.proofs.Changed.{any_in, changed_in}

-- ---- what an entry changes is in its list of changed births

by_contrast : (t u : Bool) → (t ≡ true → u ≡ true) → u ≡ false → t ≡ false
by_contrast true u f h = sym (f refl) ∙ h
by_contrast false u f h = refl

-- ---- an entry that is removed: what it doesn't change is sharper at most
within_file : (t : FileTree) (cells : List Cell) (off len : ℕ) (bytes : List ℕ) → agrees (shown t cells off len).answer (reply.Shown bytes) ≡ true → Vaguer (overwritten cells off (map Byte bytes)) cells
within_file t cells off len bytes h = go (nat_lt (length cells) off) h
  where
    not_shown : (bytes : List ℕ) → agrees (Plain reply.BadOffset) (reply.Shown bytes) ≡ true → ⊥
    not_shown [] h = cc
    not_shown (b ∷ bytes) h = cc

    go : (b : Bool) → agrees (cond {A = Applied} b (says t reply.BadOffset) (record { answer = Shows (take len (drop off cells)); tree = t })).answer (reply.Shown bytes) ≡ true → Vaguer (overwritten cells off (map Byte bytes)) cells
    go true h = absurd (not_shown bytes h)
    go false h = shown_is_sharper cells off len bytes h

file_sharper : (t : FileTree) (b : ℕ) (o : Option Node) (off len : ℕ) (bytes : List ℕ) (f : ℕ × (List Cell × (ℕ × ℕ))) → file_of b o ≡ Some f → agrees (if_file t (λ b cells links when. shown t cells off len) b o).answer (reply.Shown bytes) ≡ true → Vaguer (overwritten f.1.0 off (map Byte bytes)) f.1.0
file_sharper t b (Some (File cells links when)) off len bytes f e h = subst (λ c. Vaguer (overwritten c off (map Byte bytes)) c) (ap (λ o. elim o as (λ x. List Cell) [ None ↦ cells | Some g ↦ g.1.0 ]) e) (within_file t cells off len bytes h)
file_sharper t b (Some (Dir es n)) off len bytes f e h = cc
file_sharper t b (Some (Link target links)) off len bytes f e h = cc
file_sharper t b None off len bytes f e h = cc

place_sharper : (t : FileTree) (p : Place) (off len : ℕ) (bytes : List ℕ) (f : ℕ × (List Cell × (ℕ × ℕ))) → file_at t p ≡ Some f → agrees (at_file t p (λ b cells links when. shown t cells off len)).answer (reply.Shown bytes) ≡ true → Vaguer (overwritten f.1.0 off (map Byte bytes)) f.1.0
place_sharper t Root off len bytes f e h = cc
place_sharper t (Taken d es n name b) off len bytes f e h = file_sharper t b (node_at t b) off len bytes f e h
place_sharper t (Free d es n name) off len bytes f e h = cc
place_sharper t (Nowhere r) off len bytes f e h = cc

shown_sharper : (t : FileTree) (o : Option (ℕ × (List Cell × (ℕ × ℕ)))) (off : ℕ) (bytes : List ℕ) → ((f : ℕ × (List Cell × (ℕ × ℕ))) → o ≡ Some f → (node_at t f.0 ≡ Some (File f.1.0 f.1.1.0 f.1.1.1)) × Vaguer (overwritten f.1.0 off (map Byte bytes)) f.1.0) → (b : ℕ) → Like vague (node_at (with_shown t o off bytes) b) (node_at t b)
shown_sharper t None off bytes h b = like_same vague (node_at t b)
shown_sharper t (Some f) off bytes h b =
    let new = File (overwritten f.1.0 off (map Byte bytes)) f.1.1.0 f.1.1.1 in
    let g = h f refl in
    each_but (λ c. Like vague (node_at (with_node t f.0 new) c) (node_at t c)) f.0
    (subst (λ z. Like vague z (node_at t f.0)) (sym (with_same t f.0 new)) (f.1.0, g.0, g.1))
    (λ c far. like_equal vague (node_at (with_node t f.0 new) c) (node_at t c) (with_other t f.0 new c far)) b

read_sharper : (t : FileTree) (o : Op) (r : Reply) (n when m b : ℕ) → agrees (apply t o n when m).answer r ≡ true → Like vague (node_at (after_read (apply t o n when m).tree o r) b) (node_at (apply t o n when m).tree b)
read_sharper t (op.Read path off len) (reply.Shown bytes) n when m b told =
    subst (λ u. Like vague (node_at (with_shown u (file_at u (place u path)) off bytes) b) (node_at u b)) (sym (looks_leave t (op.Read path off len) n when m refl))
    (shown_sharper t (file_at t (place t path)) off bytes (λ f e. (file_at_is t (place t path) f e, place_sharper t (place t path) off len bytes f e told)) b)
read_sharper t (op.Read path off len) _ n when m b told = like_same vague (node_at (apply t (op.Read path off len) n when m).tree b)
read_sharper t o r n when m b told = like_same vague (node_at (apply t o n when m).tree b)

step_sharper : (t : FileTree) (s : Step) (r : Reply) (n when m b : ℕ) → agrees (perform_step t s n when m).answer r ≡ true → Like vague (node_at (after_step (perform_step t s n when m).tree s r) b) (node_at (perform_step t s n when m).tree b)
step_sharper t (Goes o) r n when m b told = read_sharper t o r n when m b told
step_sharper t (Stops q) r n when m b told = like_same vague (node_at t b)

-- ---- tests along a list
not_in_left : (b : ℕ) (xs ys : List ℕ) → is_in b (xs ++ ys) ≡ false → is_in b xs ≡ false
not_in_left b xs ys h = by_contrast (is_in b xs) (is_in b (xs ++ ys)) (in_left b xs ys) h

any_append : (test : ℕ → Bool) (xs ys : List ℕ) → list_any test xs ≡ false → list_any test ys ≡ false → list_any test (xs ++ ys) ≡ false
any_append test [] ys h g = g
any_append test (x ∷ xs) ys h g = let p = or_parts (test x) (list_any test xs) h in or_from (test x) (list_any test (xs ++ ys)) p.0 (any_append test xs ys p.1 g)

touched_append : (server : ℕ) (xs ys : List ℕ) (t : FileTree) (list : List Settled) → touched_later server xs t list ≡ false → touched_later server ys t list ≡ false → touched_later server (xs ++ ys) t list ≡ false
touched_append server xs ys t [] h g = refl
touched_append server xs ys t (InDoubt runs ∷ rest) h g = touched_append server xs ys (after t (InDoubt runs)) rest h g
touched_append server xs ys t (Stays e ∷ rest) h g =
    let p = or_parts (not (e.server.0 == server) && list_any (touches t e) xs) (touched_later server xs (after t (Stays e)) rest) h in
    let q = or_parts (not (e.server.0 == server) && list_any (touches t e) ys) (touched_later server ys (after t (Stays e)) rest) g in
    or_from (not (e.server.0 == server) && list_any (touches t e) (xs ++ ys)) (touched_later server (xs ++ ys) (after t (Stays e)) rest)
    (go (not (e.server.0 == server)) p.0 q.0) (touched_append server xs ys (after t (Stays e)) rest p.1 q.1)
  where
    go : (c : Bool) → c && list_any (touches t e) xs ≡ false → c && list_any (touches t e) ys ≡ false → c && list_any (touches t e) (xs ++ ys) ≡ false
    go true h g = any_append (touches t e) xs ys h g
    go false h g = refl

tells_room : (t : FileTree) (n : ℕ) (r : Reply) → is_nospace r ≡ false → may_tell t n r ≡ true
tells_room t n (reply.NoBlock m) h = cc
tells_room t n _ h = refl

tells_same : (t u : FileTree) (ever more : ℕ) (r : Reply) → count_of dir_blocks t ≡ count_of dir_blocks u → ever ≤ more → may_tell t ever r ≡ true → may_tell u more r ≡ true
tells_same t u ever more (reply.NoBlock m) e le h = within (count_of dir_blocks t) (count_of dir_blocks u) m ever more e le h
  where
    within : (c d m ever more : ℕ) → c ≡ d → ever ≤ more → nat_le c m && nat_le m ever ≡ true → nat_le d m && nat_le m more ≡ true
    within c d m ever more e le h =
        let p = and_parts (nat_le c m) (nat_le m ever) h in
        let i : c ≤ m = leb-true c m p.0 in
        let j : m ≤ ever = leb-true m ever p.1 in
        and_from (nat_le d m) (nat_le m more) (le-leb d m (omega arith)) (le-leb m more (omega arith))
tells_same t u ever more _ e le h = refl

-- ---- the induction
module _ (server : ℕ) (kinds : ℕ → Kind) where
  -- the list that is left, where the trees are alike off the nodes that were changed
  record Apart (t u : FileTree) (nodes : List ℕ) (list : List Settled) : Type 0 where
    pub well_t : IsWellFormed t
    pub well_u : IsWellFormed u
    pub new_t : AreNew t list
    pub new_u : AreNew u list
    pub kinds_t : HasKinds kinds t
    pub kinds_u : HasKinds kinds u
    pub told : MakeToldKinds kinds list
    pub near : (b : ℕ) → is_in b nodes ≡ false → Near vague t u b
    pub untouched : touched_later server nodes t list ≡ false

  -- the trees take the same of the disk, or no later entry of another server was answered for want of room
  abbrev Room : FileTree → FileTree → ℕ → ℕ → List Settled → Type 0
  Room t u ever more list = ((t.segments ≡ u.segments) × RoomAlike t u × (ever ≤ more)) ⊎ (refused_later server list ≡ false)

  room_is : (t u : FileTree) (nodes : List ℕ) (list : List Settled) → Apart t u nodes list → t.segments ≡ u.segments → RoomAlike t u → SameRoom t u
  room_is t u nodes list a seg same = room_same t u a.well_t.births a.well_u.births seg same

  doubt_apart : (t u : FileTree) (nodes : List ℕ) (runs : List CellRun) (rest : List Settled) → Apart t u nodes (InDoubt runs ∷ rest) → Apart (doubted t runs) (doubted u runs) nodes rest
  doubt_apart t u nodes runs rest a = record {
    well_t = after_keeps t (InDoubt runs) rest a.well_t a.new_t;
    well_u = after_keeps u (InDoubt runs) rest a.well_u a.new_u;
    new_t = are_new_after t (InDoubt runs) rest a.well_t a.new_t;
    new_u = are_new_after u (InDoubt runs) rest a.well_u a.new_u;
    kinds_t = after_keeps_kinds kinds t (InDoubt runs) rest a.well_t a.new_t a.kinds_t a.told;
    kinds_u = after_keeps_kinds kinds u (InDoubt runs) rest a.well_u a.new_u a.kinds_u a.told;
    told = a.told;
    near = λ b h. doubted_near t u runs b (a.near b h);
    untouched = a.untouched;
  }

  doubt_room : (t u : FileTree) (nodes : List ℕ) (runs : List CellRun) (rest : List Settled) (ever more : ℕ) → Apart t u nodes (InDoubt runs ∷ rest) → Room t u ever more (InDoubt runs ∷ rest) → Room (doubted t runs) (doubted u runs) (ever + grows t (InDoubt runs)) (more + grows u (InDoubt runs)) rest
  doubt_room t u nodes runs rest ever more a (inr r) = inr r
  doubt_room t u nodes runs rest ever more a (inl r) =
      let b = doubt_apart t u nodes runs rest a in
      let seg = segments_after t (InDoubt runs) a.well_t.births ∙ r.0 ∙ sym (segments_after u (InDoubt runs) a.well_u.births) in
      let same = λ (c : ℕ). doubted_room t runs c ∙ r.1 c ∙ sym (doubted_room u runs c) in
      let g : grows t (InDoubt runs) ≡ grows u (InDoubt runs) = grows_same t u (doubted t runs) (doubted u runs) (room_is t u nodes (InDoubt runs ∷ rest) a r.0 r.1) (room_is (doubted t runs) (doubted u runs) nodes rest b seg same) in
      inl (seg, same, grown_le ever more (grows t (InDoubt runs)) (grows u (InDoubt runs)) r.2 g)
    where
      grown_le : (a b c d : ℕ) → a ≤ b → c ≡ d → a + c ≤ b + d
      grown_le a b c d l e = omega arith

  module _ (t u : FileTree) (nodes : List ℕ) (e : Entry) (rest : List Settled) (a : Apart t u nodes (Stays e ∷ rest)) where
    -- the entry goes
    removed_apart : e.server.0 == server ≡ true → is_seen t e rest ≡ false → Apart (tree_after t e) u (nodes ++ changed t e) rest
    removed_apart own unseen = record {
      well_t = after_keeps t (Stays e) rest a.well_t a.new_t;
      well_u = a.well_u;
      new_t = are_new_after t (Stays e) rest a.well_t a.new_t;
      new_u = record { absent = a.new_u.absent.1; distinct = IsDistinct-tail nat_eq e.number.0 (numbers_of rest) a.new_u.distinct };
      kinds_t = after_keeps_kinds kinds t (Stays e) rest a.well_t a.new_t a.kinds_t a.told;
      kinds_u = a.kinds_u;
      told = a.told.1;
      near = λ b h. vague_nodes_trans (node_at (tree_after t e) b) (node_at t b) (node_at u b)
          (sharper_after t e b (by_contrast (changes t e b) (is_in b (changed t e)) (changed_in t e b) (not_in_right b nodes (changed t e) h))) (a.near b (not_in_left b nodes (changed t e) h));
      untouched = touched_append server nodes (changed t e) (tree_after t e) rest
          (or_parts (not (e.server.0 == server) && list_any (touches t e) nodes) (touched_later server nodes (after t (Stays e)) rest) a.untouched).1
          (subst (λ s. touched_later s (changed t e) (tree_after t e) rest ≡ false) (eqb-true e.server.0 server own)
          (or_parts (touched_later e.server.0 (changed t e) (after t (Stays e)) rest) (changes_room t e && refused_later e.server.0 rest) unseen).0);
    }

    -- a removed entry that changes no node's room leaves the room
    removed_room : changes_room t e ≡ false → (b : ℕ) → room_of (node_at (tree_after t e) b) ≡ room_of (node_at t b)
    removed_room h b = go (changes t e b) refl
      where
        kinds_new : HasKinds kinds (applied t e).tree
        kinds_new = perform_keeps_kinds kinds t e.op e.number.0 e.when (told_blocks t e.reply) a.well_t a.new_t.absent.0 a.kinds_t a.told.0

        acted : other_room (node_at t b) (node_at (applied t e).tree b) ≡ false → room_of (node_at (applied t e).tree b) ≡ room_of (node_at t b)
        acted h = sym (room_stays (node_at t b) (node_at (applied t e).tree b) (kinds_agree kinds t (applied t e).tree a.kinds_t kinds_new b) h)

        by_steps : (l c : Bool) → is_answer t e ≡ c → room_of (node_at (applied t e).tree b) ≡ room_of (node_at t b) → room_of (node_at (cond l t (cond c (after_step (applied t e).tree (resolved t e.op).step e.reply) t)) b) ≡ room_of (node_at t b)
        by_steps true c i r = refl
        by_steps false false i r = refl
        by_steps false true i r = like_room (node_at (after_step (applied t e).tree (resolved t e.op).step e.reply) b) (node_at (applied t e).tree b)
            (step_sharper t (resolved t e.op).step e.reply e.number.0 e.when (told_blocks t e.reply) b (and_parts (is_path_op e.op) (agrees (applied t e).answer e.reply) i).1) ∙ r

        go : (c : Bool) → changes t e b ≡ c → room_of (node_at (tree_after t e) b) ≡ room_of (node_at t b)
        go false i = like_room (node_at (tree_after t e) b) (node_at t b) (sharper_after t e b i)
        go true i = by_steps (leaves_tree e.op e.reply) (is_answer t e) refl
            (acted (by_contrast (other_room (node_at t b) (node_at (applied t e).tree b)) (changes_room t e) (λ o. any_in (λ c. other_room (node_at t c) (node_at (applied t e).tree c)) b (changed t e) (changed_in t e b i) o) h))

    gone_room : (ever more : ℕ) → e.server.0 == server ≡ true → is_seen t e rest ≡ false → Room t u ever more (Stays e ∷ rest) → Room (tree_after t e) u (ever + grows t (Stays e)) more rest
    gone_room ever more own unseen (inr r) = inr (or_parts (not (e.server.0 == server) && is_nospace e.reply) (refused_later server rest) r).1
    gone_room ever more own unseen (inl r) = go (changes_room t e) refl (or_parts (touched_later e.server.0 (changed t e) (after t (Stays e)) rest) (changes_room t e && refused_later e.server.0 rest) unseen).1
      where
        no_more : (x y n : ℕ) → x ≡ y → ever + (x - y) ≤ more
        no_more x y n i = let l : ever ≤ more = r.2 in omega arith

        go : (c : Bool) → changes_room t e ≡ c → c && refused_later e.server.0 rest ≡ false → Room (tree_after t e) u (ever + grows t (Stays e)) more rest
        go true i h = inr (subst (λ s. refused_later s rest ≡ false) (eqb-true e.server.0 server own) h)
        go false i h =
            let seg = segments_after t (Stays e) a.well_t.births in
            let s = room_same (tree_after t e) t (after_keeps t (Stays e) rest a.well_t a.new_t).births a.well_t.births seg (removed_room i) in
            inl (seg ∙ r.0, λ b. removed_room i b ∙ r.1 b, no_more (count_of dir_blocks (tree_after t e)) (count_of dir_blocks t) 0 s.dirs)

    -- the entry stays, and acts
    module _ (other : e.server.0 == server ≡ false) (answered : is_answer t e ≡ true) (enough : Roomy t u e) where
      near_touched : (b : ℕ) → touches t e b ≡ true → Near vague t u b
      near_touched b h = a.near b (by_contrast (is_in b nodes) (list_any (touches t e) nodes) (λ i. any_in (touches t e) b nodes i h) none)
        where
          first : (c d : Bool) → c ≡ false → not c && d ≡ false → d ≡ false
          first true d i h = absurd (cc)
          first false d i h = h

          none : list_any (touches t e) nodes ≡ false
          none = first (e.server.0 == server) (list_any (touches t e) nodes) other (or_parts (not (e.server.0 == server) && list_any (touches t e) nodes) (touched_later server nodes (after t (Stays e)) rest) a.untouched).0

      stays_answered : is_answer u e ≡ true
      stays_answered = answered_two vague t u e (walkable t a.well_t) (walkable u a.well_u) (kinds_agree kinds t u a.kinds_t a.kinds_u) a.new_t.absent.0 a.new_u.absent.0 answered enough near_touched

      stays_joint : Joint vague t u (tree_after t e) (tree_after u e)
      stays_joint = after_joint vague t u e (walkable t a.well_t) (walkable u a.well_u) (kinds_agree kinds t u a.kinds_t a.kinds_u) a.new_t.absent.0 a.new_u.absent.0 answered enough near_touched

    -- the trees after an entry that stays
    kept_apart : ((b : ℕ) → is_in b nodes ≡ false → Near vague (tree_after t e) (tree_after u e) b) → Apart (tree_after t e) (tree_after u e) nodes rest
    kept_apart near = record {
      well_t = after_keeps t (Stays e) rest a.well_t a.new_t;
      well_u = after_keeps u (Stays e) rest a.well_u a.new_u;
      new_t = are_new_after t (Stays e) rest a.well_t a.new_t;
      new_u = are_new_after u (Stays e) rest a.well_u a.new_u;
      kinds_t = after_keeps_kinds kinds t (Stays e) rest a.well_t a.new_t a.kinds_t a.told;
      kinds_u = after_keeps_kinds kinds u (Stays e) rest a.well_u a.new_u a.kinds_u a.told;
      told = a.told.1;
      near = near;
      untouched = (or_parts (not (e.server.0 == server) && list_any (touches t e) nodes) (touched_later server nodes (after t (Stays e)) rest) a.untouched).1;
    }

    -- what an entry that stays makes of both trees: nothing, or the same
    record Kept (more : ℕ) : Type 0 where
      pub fits_on : fits u more e ≡ true
      pub near_on : (b : ℕ) → is_in b nodes ≡ false → Near vague (tree_after t e) (tree_after u e) b
      pub room_on : RoomAlike t u → RoomAlike (tree_after t e) (tree_after u e)

    only : (x : Bool) → x || false ≡ true → x ≡ true
    only true h = refl
    only false h = h

    in_first : (x y l : Bool) → x ≡ true → y ≡ true → (x && y) || l ≡ true
    in_first true true l i j = refl
    in_first true false l i j = cc
    in_first false y l i j = cc

    -- one that leaves the tree
    kept_still : (more : ℕ) → leaves_tree e.op e.reply ≡ true → Kept more
    kept_still more i =
        let still = λ (z : FileTree). ap (λ l. cond l z (cond (is_answer z e) (after_step (applied z e).tree (resolved z e.op).step e.reply) z)) i in
        record {
          fits_on = ap (λ l. (is_answer u e && may_tell u more e.reply) || l) i ∙ or-true (is_answer u e && may_tell u more e.reply);
          near_on = λ b h. subst (λ z. Near vague z (tree_after u e) b) (sym (still t)) (subst (λ z. Near vague t z b) (sym (still u)) (a.near b h));
          room_on = λ r b. ap (λ z. room_of (node_at z b)) (still t) ∙ r b ∙ ap (λ z. room_of (node_at z b)) (sym (still u));
        }

    -- one that acts
    kept_acts : (more : ℕ) → e.server.0 == server ≡ false → is_answer t e ≡ true → Roomy t u e → may_tell u more e.reply ≡ true → Kept more
    kept_acts more other answered enough tells = record {
      fits_on = in_first (is_answer u e) (may_tell u more e.reply) (leaves_tree e.op e.reply) (stays_answered other answered enough) tells;
      near_on = λ b h. joint_near vague t u (tree_after t e) (tree_after u e) (stays_joint other answered enough) b (a.near b h);
      room_on = λ r. joint_room t u (tree_after t e) (tree_after u e) (stays_joint other answered enough) r;
    }

    kept : (ever more : ℕ) → e.server.0 == server ≡ false → fits t ever e ≡ true → Room t u ever more (Stays e ∷ rest) → leaves_tree e.op e.reply || (is_nospace e.reply || not (wants_room (applied u e).answer)) ≡ true → Kept more
    kept ever more other fit room fitting = go (leaves_tree e.op e.reply) refl fit fitting
      where
        unrefused : (c n : Bool) → c ≡ false → not c && n ≡ false → n ≡ false
        unrefused true n i h = absurd (cc)
        unrefused false n i h = h

        by_room : is_answer t e ≡ true → may_tell t ever e.reply ≡ true → Room t u ever more (Stays e ∷ rest) → is_nospace e.reply || not (wants_room (applied u e).answer) ≡ true → Kept more
        by_room answered tells (inl r) f =
            let s = room_is t u nodes (Stays e ∷ rest) a r.0 r.1 in
            kept_acts more other answered (inr s) (tells_same t u ever more e.reply s.dirs r.2 tells)
        by_room answered tells (inr r) f =
            let n : is_nospace e.reply ≡ false = unrefused (e.server.0 == server) (is_nospace e.reply) other (or_parts (not (e.server.0 == server) && is_nospace e.reply) (refused_later server rest) r).0 in
            let told : wants_room (applied t e).answer ≡ false = wants_alike (applied t e).answer e.reply (and_parts (is_path_op e.op) (agrees (applied t e).answer e.reply) answered).1 ∙ n in
            let now : wants_room (applied u e).answer ≡ false = not-true (wants_room (applied u e).answer) (sym (ap (λ b. b || not (wants_room (applied u e).answer)) n) ∙ f) in
            kept_acts more other answered (inl (told, now)) (tells_room u more e.reply n)

        go : (l : Bool) → leaves_tree e.op e.reply ≡ l → (is_answer t e && may_tell t ever e.reply) || l ≡ true → l || (is_nospace e.reply || not (wants_room (applied u e).answer)) ≡ true → Kept more
        go true i fit fitting = kept_still more i
        go false i fit fitting =
            let p = and_parts (is_answer t e) (may_tell t ever e.reply) (only (is_answer t e && may_tell t ever e.reply) fit) in
            by_room p.0 p.1 room fitting

    kept_room : (ever more : ℕ) → Kept more → Room t u ever more (Stays e ∷ rest) → Room (tree_after t e) (tree_after u e) (ever + grows t (Stays e)) (more + grows u (Stays e)) rest
    kept_room ever more k (inr r) = inr (or_parts (not (e.server.0 == server) && is_nospace e.reply) (refused_later server rest) r).1
    kept_room ever more k (inl r) =
        let b = kept_apart k.near_on in
        let seg = segments_after t (Stays e) a.well_t.births ∙ r.0 ∙ sym (segments_after u (Stays e) a.well_u.births) in
        let same = k.room_on r.1 in
        let g : grows t (Stays e) ≡ grows u (Stays e) = grows_same t u (tree_after t e) (tree_after u e) (room_is t u nodes (Stays e ∷ rest) a r.0 r.1) (room_is (tree_after t e) (tree_after u e) nodes rest b seg same) in
        inl (seg, same, grown_le ever more (grows t (Stays e)) (grows u (Stays e)) r.2 g)
      where
        grown_le : (a b c d : ℕ) → a ≤ b → c ≡ d → a + c ≤ b + d
        grown_le a b c d l e = omega arith

  keeps_legal : (list : List Settled) (t u : FileTree) (nodes : List ℕ) (ever more : ℕ) → Apart t u nodes list → Room t u ever more list → legal_from t ever list ≡ true → none_seen server t list ≡ true → has_room u (without server list) ≡ true → legal_from u more (without server list) ≡ true
  keeps_legal [] t u nodes ever more a r legal unseen room = refl
  keeps_legal (InDoubt runs ∷ rest) t u nodes ever more a r legal unseen room =
      keeps_legal rest (doubted t runs) (doubted u runs) nodes (ever + grows t (InDoubt runs)) (more + grows u (InDoubt runs)) (doubt_apart t u nodes runs rest a) (doubt_room t u nodes runs rest ever more a r) legal unseen room
  keeps_legal (Stays e ∷ rest) t u nodes ever more a r legal unseen room =
      let l = and_parts (fits t ever e) (legal_from (tree_after t e) (ever + grows t (Stays e)) rest) legal in
      let s = and_parts (not (e.server.0 == server) || not (is_seen t e rest)) (none_seen server (tree_after t e) rest) unseen in
      go (e.server.0 == server) refl l.0 s.0 room
      (λ b q i. keeps_legal rest (tree_after t e) u (nodes ++ changed t e) (ever + grows t (Stays e)) more b q l.1 s.1 i)
      (λ b q i. keeps_legal rest (tree_after t e) (tree_after u e) nodes (ever + grows t (Stays e)) (more + grows u (Stays e)) b q l.1 s.1 i)
    where
      go : (c : Bool) → e.server.0 == server ≡ c → fits t ever e ≡ true → not c || not (is_seen t e rest) ≡ true
          → has_room u (cond (not c) (Stays e ∷ without server rest) (without server rest)) ≡ true
          → (Apart (tree_after t e) u (nodes ++ changed t e) rest → Room (tree_after t e) u (ever + grows t (Stays e)) more rest → has_room u (without server rest) ≡ true → legal_from u more (without server rest) ≡ true)
          → (Apart (tree_after t e) (tree_after u e) nodes rest → Room (tree_after t e) (tree_after u e) (ever + grows t (Stays e)) (more + grows u (Stays e)) rest → has_room (tree_after u e) (without server rest) ≡ true → legal_from (tree_after u e) (more + grows u (Stays e)) (without server rest) ≡ true)
          → legal_from u more (cond (not c) (Stays e ∷ without server rest) (without server rest)) ≡ true
      go true i fit seen room gone stays =
          let unseen = not-true (is_seen t e rest) seen in
          gone (removed_apart t u nodes e rest a i unseen) (gone_room t u nodes e rest a ever more i unseen r) room
      go false i fit seen room gone stays =
          let p = and_parts (leaves_tree e.op e.reply || (is_nospace e.reply || not (wants_room (applied u e).answer))) (has_room (tree_after u e) (without server rest)) room in
          let k = kept t u nodes e rest a ever more i fit r p.0 in
          and_from (fits u more e) (legal_from (tree_after u e) (more + grows u (Stays e)) (without server rest)) k.fits_on (stays (kept_apart t u nodes e rest a k.near_on) (kept_room t u nodes e rest a ever more k r) p.1)

nothing_touches : (server : ℕ) (t : FileTree) (list : List Settled) → touched_later server [] t list ≡ false
nothing_touches server t [] = refl
nothing_touches server t (InDoubt runs ∷ rest) = nothing_touches server (after t (InDoubt runs)) rest
nothing_touches server t (Stays e ∷ rest) = or_from (not (e.server.0 == server) && false) (touched_later server [] (after t (Stays e)) rest) (and-false (not (e.server.0 == server))) (nothing_touches server (after t (Stays e)) rest)

pub unseen_can_go : (server : ℕ) (t : FileTree) (ever : ℕ) (list : List Settled) → IsWellFormed t → AreNew t list → legal_from t ever list ≡ true → none_seen server t list ≡ true → has_room t (without server list) ≡ true → legal_from t ever (without server list) ≡ true
unseen_can_go server t ever list w new legal unseen room =
    let k = kinds_can_be_told t list new in
    keeps_legal server (kinds_along t list) list t t [] ever ever
    (record { well_t = w; well_u = w; new_t = new; new_u = new; kinds_t = k.0; kinds_u = k.0; told = k.1; near = λ b h. like_same vague (node_at t b); untouched = nothing_touches server t list })
    (inl (refl, λ b. refl, le_refl ever)) legal unseen room

-- ---- a recovery
pub unseen_if_unknown : (server : ℕ) (stalled : Bool) (t : FileTree) (list : List Settled) → none_known server stalled t list ≡ true → none_seen server t list ≡ true
unseen_if_unknown server stalled t [] h = refl
unseen_if_unknown server stalled t (InDoubt runs ∷ rest) h = unseen_if_unknown server stalled (after t (InDoubt runs)) rest h
unseen_if_unknown server stalled t (Stays e ∷ rest) h =
    let now = stalled_after server stalled (Stays e) in
    let p = and_parts (not (e.server.0 == server) || (not (is_seen t e rest) && not (is_synced server now rest))) (none_known server now (after t (Stays e)) rest) h in
    and_from (not (e.server.0 == server) || not (is_seen t e rest)) (none_seen server (after t (Stays e)) rest)
    (weaker (not (e.server.0 == server)) (not (is_seen t e rest)) (not (is_synced server now rest)) p.0) (unseen_if_unknown server now (after t (Stays e)) rest p.1)
  where
    weaker : (a b c : Bool) → a || (b && c) ≡ true → a || b ≡ true
    weaker true b c h = refl
    weaker false true c h = refl
    weaker false false c h = h

recovery_legal : (server keeps : ℕ) (stalled : Bool) (t : FileTree) (ever : ℕ) (list : List Settled) → IsWellFormed t → AreNew t list → legal_from t ever list ≡ true → keeps_known server keeps stalled t list ≡ true → room_left server keeps t list ≡ true → legal_from t ever (left server keeps t list) ≡ true
recovery_legal server keeps stalled t ever [] w new legal known room = refl
recovery_legal server keeps stalled t ever (s ∷ rest) w new legal known room =
    let l = and_parts (may_stand t ever s) (legal_from (after t s) (ever + grows t s) rest) legal in
    go (begins_removal server keeps t s rest) refl known room l.0
    (λ k r. recovery_legal server keeps (stalled_after server stalled s) (after t s) (ever + grows t s) rest (after_keeps t s rest w new) (are_new_after t s rest w new) l.1 k r)
  where
    own : begins_removal server keeps t s rest ≡ true → without server (s ∷ rest) ≡ without server rest
    own e = ap (λ b. cond (not b) (s ∷ without server rest) (without server rest)) (lost_is_of server keeps t s (and_parts (is_lost server keeps t s) (not (list_any (mounts server) rest)) e).0)

    go : (b : Bool) → begins_removal server keeps t s rest ≡ b → cond b (none_known server stalled t (s ∷ rest)) (keeps_known server keeps (stalled_after server stalled s) (after t s) rest) ≡ true
        → cond b (has_room t (without server (s ∷ rest))) (room_left server keeps (after t s) rest) ≡ true → may_stand t ever s ≡ true
        → (keeps_known server keeps (stalled_after server stalled s) (after t s) rest ≡ true → room_left server keeps (after t s) rest ≡ true → legal_from (after t s) (ever + grows t s) (left server keeps (after t s) rest) ≡ true)
        → legal_from t ever (cond b (without server rest) (s ∷ left server keeps (after t s) rest)) ≡ true
    go true e known room stands later = subst (λ l. legal_from t ever l ≡ true) (own e) (unseen_can_go server t ever (s ∷ rest) w new legal (unseen_if_unknown server stalled t (s ∷ rest) known) room)
    go false e known room stands later = and_from (may_stand t ever s) (legal_from (after t s) (ever + grows t s) (left server keeps (after t s) rest)) stands (later known room)

pub recovery_leaves_legal : (server keeps : ℕ) (opening : FileTree) (ever : ℕ) (list : List Settled) → IsWellFormed opening → AreNew opening list → legal_from opening ever list ≡ true → keeps_known server keeps false opening list ≡ true → room_left server keeps opening list ≡ true → legal_from opening ever (recovered opening server keeps list) ≡ true
recovery_leaves_legal server keeps opening ever list w new legal known room =
    let rest = left server keeps opening list in
    legal-push opening ever rest (InDoubt (doubtful server opening rest)) ∙ and-true (legal_from opening ever rest) ∙ recovery_legal server keeps false opening ever list w new legal known room
