-- What leads to the file that a path names, and what plans of files examine by their tests.
use Rattle.std.proofs.Common.{◌≡◌, ◌==◌, ◌&&◌, ◌<◌, ◌≤◌, ◌-◌, ◌/◌, ℕ, Bool, true, false, cond, nat_lt, max, min, map, Option, Some, None, Ok, Err, List, [], ◌∷◌, ◌++◌, append-nil, refl, sym, ap, ◌∙◌, eq-eqb, ne_eqb, lt-ltb}
use Rattle.std.specs.Map.{keys_of}
use Rattle.std.proofs.lemmas.Bool.{le-ltb}
use Rattle.frang_base.specs.declared.reply.Reply.TheVariants as reply
use Rattle.disk_definitions.specs.declared.inode.Inode.{Inode}
use Rattle.tree_definitions.specs.Tree.{small_blocks_of}
use Rattle.disk_definitions.specs.Store.{StoredNode, stored}
use Rattle.disk_definitions.specs.Picks.{picked_large, picked_many}
use Rattle.disk_definitions.specs.Ask.{Ask, Got, ReadInode}
use Rattle.disk_definitions.specs.Plans.{Plan, Finishes, read_held, refused}
use Rattle.disk_definitions.specs.NamePlans.{finish_over}
use Rattle.disk_definitions.specs.FilePlans.{Writing, at_file, cut_by, cut_segments, cutting, end_of, plan_of_file, read_sectors, resized, sectors_met, showing, with_file, writing, writing_in, writing_large, writing_picked, writing_small, written_by}
use Rattle.dir_lookup.specs.Hands.{seen}
use Rattle.dir_lookup.specs.Looked.{Adds}
use Rattle.dir_lookup.specs.declared.hand.Hand.{Hand}
use Rattle.dir_lookup.proofs.Looking.{adds_as}
use Rattle.disk_definitions.specs.LookedAt.{examined}
use Rattle.plan_steps.specs.Looking.{Looks, LooksAtInode, LooksAtTarget, LooksTo, looked_over, segment_number}
use Rattle.plan_steps.specs.Targets.{node_of}
use Rattle.plan_steps.specs.declared.stop.Stop.{Stop}
use Rattle.plan_steps.specs.declared.target.Target.{Target as Found}
use Rattle.plan_steps.proofs.AtHand.{held_looked}
use Rattle.plan_steps.proofs.Looking.{none_more, then_looks, then_to, to_as}
use Rattle.plan_steps.proofs.SegmentLooks.{over_looks}
use Rattle.op_data.specs.Looking.{LooksAtFile}
use Rattle.op_data.proofs.ByteLooks.{reads_none, writes_none}
use Rattle.op_data.proofs.Shown.{shows}

module _ (hand : Hand) (path : List (List ℕ)) (old mid : Option (List ℕ)) (u : Found) (t : LooksAtTarget hand.sectors.now.entries hand.held.now old mid path (Ok u)) where
  abbrev touched : List ℕ
  touched = t.0 ++ u.inode ∷ []

  abbrev with_next : (ℕ → List ℕ → StoredNode → Ask Plan) → Option StoredNode → Ask Plan
  with_next next = with_file (next u.inode touched) touched

  abbrev at_it : (ℕ → List ℕ → StoredNode → Ask Plan) → Ask Plan
  at_it next = at_file next (record (node_of u) { dirs = t.0 })

  abbrev unless_file : (ℕ → List ℕ → StoredNode → Ask Plan) → Ask Plan
  unless_file next = cond (u.kind == 1) (ReadInode u.inode (with_next next)) (refused reply.Inval t.0)

  tests : Ask Plan → Ask Plan → Bool → List ℕ
  tests p q b = examined (cond b p q) hand.sectors.now.entries hand.held.now

  pub directory_looks : u.kind ≡ 2 → (next : ℕ → List ℕ → StoredNode → Ask Plan) → Looks hand.sectors.now.entries hand.held.now old mid (plan_of_file path next)
  unfolding tests
  directory_looks k next =
      then_looks hand.sectors.now.entries hand.held.now (plan_of_file path next) (at_it next) old mid mid (t.1 (at_file next))
      (none_more hand.sectors.now.entries hand.held.now (at_it next) mid (ap (tests (refused reply.IsDir t.0) (unless_file next)) (eq-eqb u.kind 2 k)))

  pub no_file_looks : (u.kind ≡ 2 → ⊥) → (u.kind ≡ 1 → ⊥) → (next : ℕ → List ℕ → StoredNode → Ask Plan) → Looks hand.sectors.now.entries hand.held.now old mid (plan_of_file path next)
  unfolding tests
  no_file_looks n m next =
      then_looks hand.sectors.now.entries hand.held.now (plan_of_file path next) (at_it next) old mid mid (t.1 (at_file next))
      (none_more hand.sectors.now.entries hand.held.now (at_it next) mid
      (ap (tests (refused reply.IsDir t.0) (unless_file next)) (ne_eqb u.kind 2 n) ∙ ap (tests (ReadInode u.inode (with_next next)) (refused reply.Inval t.0)) (ne_eqb u.kind 1 m)))

  to_inode : (u.kind ≡ 2 → ⊥) → u.kind ≡ 1 → (next : ℕ → List ℕ → StoredNode → Ask Plan)
      → LooksTo hand.sectors.now.entries hand.held.now old mid (plan_of_file path next) (ReadInode u.inode (with_next next))
  unfolding tests
  to_inode n k next =
      to_as hand.sectors.now.entries hand.held.now (plan_of_file path next) (at_it next) (ReadInode u.inode (with_next next)) old mid (t.1 (at_file next))
      (ap (tests (refused reply.IsDir t.0) (unless_file next)) (ne_eqb u.kind 2 n) ∙ ap (tests (ReadInode u.inode (with_next next)) (refused reply.Inval t.0)) (eq-eqb u.kind 1 k))

  pub inode_stops_looks : (u.kind ≡ 2 → ⊥) → u.kind ≡ 1 → (new : Option (List ℕ)) (e : Stop) → LooksAtInode hand.sectors.now.entries hand.held.now mid new u.inode (Err e)
      → (next : ℕ → List ℕ → StoredNode → Ask Plan) → Looks hand.sectors.now.entries hand.held.now old new (plan_of_file path next)
  inode_stops_looks n k new e f next =
      then_looks hand.sectors.now.entries hand.held.now (plan_of_file path next) (ReadInode u.inode (with_next next)) old mid new (to_inode n k next) (f (with_next next) refl)

  pub another_looks : (u.kind ≡ 2 → ⊥) → u.kind ≡ 1 → (new : Option (List ℕ)) (x : Inode) → (x.kind ≡ 1 → ⊥) → LooksAtInode hand.sectors.now.entries hand.held.now mid new u.inode (Ok x)
      → (next : ℕ → List ℕ → StoredNode → Ask Plan) → Looks hand.sectors.now.entries hand.held.now old new (plan_of_file path next)
  unfolding tests
  another_looks n k new x e f next =
      then_looks hand.sectors.now.entries hand.held.now (plan_of_file path next) (ReadInode u.inode (with_next next)) old mid new (to_inode n k next)
      (then_looks hand.sectors.now.entries hand.held.now (ReadInode u.inode (with_next next)) (with_next next (Some (stored x))) mid new new (f (with_next next))
      (none_more hand.sectors.now.entries hand.held.now (with_next next (Some (stored x))) new (ap (tests (next u.inode touched (stored x)) (refused reply.Inval touched)) (ne_eqb x.kind 1 e))))

  pub file_looks : (u.kind ≡ 2 → ⊥) → u.kind ≡ 1 → (new : Option (List ℕ)) (x : Inode) → x.kind ≡ 1 → LooksAtInode hand.sectors.now.entries hand.held.now mid new u.inode (Ok x)
      → LooksAtFile hand old new path (Ok (record { number = u.inode; inode = x }))
  unfolding tests
  file_looks n k new x e f = (
    touched,
    λ next. then_to hand.sectors.now.entries hand.held.now (plan_of_file path next) (ReadInode u.inode (with_next next)) (next u.inode touched (stored x)) old mid new (to_inode n k next)
        (to_as hand.sectors.now.entries hand.held.now (ReadInode u.inode (with_next next)) (with_next next (Some (stored x))) (next u.inode touched (stored x)) mid new (f (with_next next))
        (ap (tests (next u.inode touched (stored x)) (refused reply.Inval touched)) (eq-eqb x.kind 1 e))),
  )

-- ---- read
module _ (off len i : ℕ) (touched : List ℕ) (x : StoredNode) (hand : Hand) where
  pub shown_looks : examined (showing off len i touched x) hand.sectors.now.entries hand.held.now ≡ []
  shown_looks = by_size (nat_lt x.size off)
    where
      by_size : (b : Bool) → examined (cond b (refused reply.BadOffset touched) (read_sectors x (off / 512) (sectors_met off (min len (x.size - off))) (shows off len i touched x hand (min len (x.size - off))))) hand.sectors.now.entries hand.held.now ≡ []
      by_size true = refl
      by_size false =
          reads_none hand.sectors.now.entries hand.held.now x (sectors_met off (min len (x.size - off))) (off / 512) (shows off len i touched x hand (min len (x.size - off))) (λ bytes. refl)

-- ---- truncate
module _ (when len i : ℕ) (touched : List ℕ) (x : StoredNode) (hand : Hand) where
  cut_as : Bool → List ℕ
  cut_as b = examined (cond b (refused reply.BadOffset touched) (finish_over (cut_segments x len) (cut_by when i touched x len))) hand.sectors.now.entries hand.held.now

  pub no_cut_looks : x.size < len → examined (cutting when len i touched x) hand.sectors.now.entries hand.held.now ≡ []
  unfolding cut_as
  no_cut_looks l = ap cut_as (lt-ltb x.size len l)

  pub cut_looks : len ≤ x.size → examined (cutting when len i touched x) hand.sectors.now.entries hand.held.now ≡ looked_over hand.held.now (cut_segments x len)
  unfolding cut_as
  cut_looks l = ap cut_as (le-ltb x.size len l) ∙ over_looks hand.sectors.now.entries hand.held.now (cut_segments x len) (Finishes (cut_by when i touched x len))

-- ---- write and fill
module _ (hand : Hand) (w : Writing) (i : ℕ) (touched : List ℕ) (x : StoredNode) where
  abbrev pub wanted : ℕ
  wanted = small_blocks_of (max x.size (end_of w)) - x.blocks

  small_as : Option ℕ → Bool → List ℕ
  small_as large b = examined (cond b (writing_in w i touched x [] large) (read_held (seen hand) (writing_picked (seen hand) w i touched x large (picked_many hand.held.now wanted)))) hand.sectors.now.entries hand.held.now

  in_looks : (picks : List ℕ) (large : Option ℕ) → examined (writing_in w i touched x picks large) hand.sectors.now.entries hand.held.now ≡ []
  in_looks picks large =
      let new = resized x w.when (max x.size (end_of w)) picks large in
      writes_none hand.sectors.now.entries hand.held.now w x new (sectors_met w.off w.len) (w.off / 512) (λ bytes. Got (Finishes (written_by i new picks large touched bytes))) (λ bytes. refl)

  picked_looks : (large : Option ℕ) (o : Option (List ℕ)) → examined (writing_picked (seen hand) w i touched x large o) hand.sectors.now.entries hand.held.now ≡ []
  picked_looks large None = refl
  picked_looks large (Some picks) = in_looks picks large

  pub none_wanted_looks : (large : Option ℕ) → wanted ≡ 0 → examined (writing_small (seen hand) w i touched x large) hand.sectors.now.entries hand.held.now ≡ []
  unfolding small_as
  none_wanted_looks large e = ap (small_as large) (eq-eqb wanted 0 e) ∙ in_looks [] large

  pub some_wanted_looks : (large : Option ℕ) (old new : Option (List ℕ)) → (wanted ≡ 0 → ⊥) → Adds old new (map segment_number (keys_of hand.held.now))
      → Looks hand.sectors.now.entries hand.held.now old new (writing_small (seen hand) w i touched x large)
  unfolding small_as
  some_wanted_looks large old new e l =
      let all = map segment_number (keys_of hand.held.now) in
      let picked : Ask Plan = writing_picked (seen hand) w i touched x large (picked_many hand.held.now wanted) in
      adds_as old new all (examined (writing_small (seen hand) w i touched x large) hand.sectors.now.entries hand.held.now)
      (sym (ap (small_as large) (ne_eqb wanted 0 e)
      ∙ held_looked (seen hand) hand.sectors.now.entries picked
      ∙ ap (λ l. all ++ l) (picked_looks large (picked_many hand.held.now wanted))
      ∙ append-nil all)) l

  by_tests : Bool → Bool → Bool → List ℕ
  by_tests a b c =
      examined (cond a (refused reply.BadOffset touched)
      (cond b (refused reply.TooBig touched) (cond c (read_held (seen hand) (writing_large (seen hand) w i touched x (picked_large hand.held.now))) (writing_small (seen hand) w i touched x None))))
      hand.sectors.now.entries hand.held.now

  as_tested : (a b c : Bool) → nat_lt x.size w.off ≡ a → nat_lt 1114112 (end_of w) ≡ b → (nat_lt 65536 (end_of w) && x.large == 0) ≡ c
      → examined (writing (seen hand) w i touched x) hand.sectors.now.entries hand.held.now ≡ by_tests a b c
  unfolding by_tests
  as_tested a b c ea eb ec =
      ap (λ a. by_tests a (nat_lt 1114112 (end_of w)) (nat_lt 65536 (end_of w) && x.large == 0)) ea
      ∙ ap (λ b. by_tests a b (nat_lt 65536 (end_of w) && x.large == 0)) eb ∙ ap (λ c. by_tests a b c) ec

  pub bad_offset_looks : x.size < w.off → examined (writing (seen hand) w i touched x) hand.sectors.now.entries hand.held.now ≡ []
  unfolding by_tests
  bad_offset_looks l = as_tested true (nat_lt 1114112 (end_of w)) (nat_lt 65536 (end_of w) && x.large == 0) (lt-ltb x.size w.off l) refl refl

  pub too_big_looks : w.off ≤ x.size → 1114112 < end_of w → examined (writing (seen hand) w i touched x) hand.sectors.now.entries hand.held.now ≡ []
  unfolding by_tests
  too_big_looks o l = as_tested false true (nat_lt 65536 (end_of w) && x.large == 0) (le-ltb x.size w.off o) (lt-ltb 1114112 (end_of w) l) refl

  pub has_large_looks : w.off ≤ x.size → end_of w ≤ 1114112 → (nat_lt 65536 (end_of w) && x.large == 0) ≡ false
      → examined (writing (seen hand) w i touched x) hand.sectors.now.entries hand.held.now ≡ examined (writing_small (seen hand) w i touched x None) hand.sectors.now.entries hand.held.now
  unfolding by_tests
  has_large_looks o l n = as_tested false false false (le-ltb x.size w.off o) (le-ltb 1114112 (end_of w) l) n

  pub large_wanted_looks : w.off ≤ x.size → end_of w ≤ 1114112 → (nat_lt 65536 (end_of w) && x.large == 0) ≡ true → (g : Option ℕ) (old new : Option (List ℕ)) → picked_large hand.held.now ≡ g
      → Adds old new (map segment_number (keys_of hand.held.now)) → LooksTo hand.sectors.now.entries hand.held.now old new (writing (seen hand) w i touched x) (writing_large (seen hand) w i touched x g)
  unfolding by_tests
  large_wanted_looks o l n g old new p f = (
    map segment_number (keys_of hand.held.now),
    f,
    as_tested false false true (le-ltb x.size w.off o) (le-ltb 1114112 (end_of w) l) n
        ∙ held_looked (seen hand) hand.sectors.now.entries (writing_large (seen hand) w i touched x (picked_large hand.held.now))
        ∙ ap (λ g. map segment_number (keys_of hand.held.now) ++ examined (writing_large (seen hand) w i touched x g) hand.sectors.now.entries hand.held.now) p,
  )
