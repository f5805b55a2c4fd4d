-- The plans of write and fill answer as the tree has it.
use Rattle.std.proofs.Common.{ℕ, zero, suc, ◌≡◌, ◌<◌, ◌≤◌, ◌+◌, ◌-◌, ◌==◌, ◌&&◌, not, Bool, true, false, nat_lt, nat_eq, max, if◌then◌else◌, Option, Some, None, List, [], ◌∷◌, length, map, replicate, slice_index, refl, sym, ◌∙◌, ap, subst, arith}
use Rattle.std.proofs.lemmas.Bool.Decides.{nat_tests}
use Rattle.std.proofs.lemmas.List.{length-map, length-replicate}
use Rattle.std.specs.List.{slice_get}
use Rattle.std.specs.Map.{keys_of}
use Rattle.frang_base.specs.declared.op.Op.TheVariants as op
use Rattle.frang_base.specs.declared.reply.Reply.TheVariants as reply
use Rattle.tree_definitions.specs.declared.cells.Cell.{Cell}
use Rattle.tree_definitions.specs.declared.cells.Cell.TheVariants as cell
use Rattle.tree_definitions.specs.declared.node.Node.TheVariants.{File}
use Rattle.tree_definitions.specs.Tree.{FileTree, node_at, with_node, small_blocks_of, large_blocks_of, larges_full}
use Rattle.tree_definitions.specs.Apply.{Applied, says, overwritten, written}
use Rattle.tree_laws.proofs.StepsLaws.{apply_keeps}
use Rattle.disk_definitions.specs.Store.{Store, StoredNode}
use Rattle.disk_definitions.specs.Naming.{Naming}
use Rattle.disk_definitions.specs.Picks.{picked_many, picked_large}
use Rattle.disk_definitions.specs.Ask.{Ask, run}
use Rattle.disk_definitions.specs.Plans.{Hand, Plan, refused, none_left, read_held}
use Rattle.disk_definitions.specs.FilePlans.{Writing, end_of, directory_blocks, writing_in, writing_picked, writing_small, writing_large, writing}
use Rattle.disk_definitions.specs.Meets.{IsOfTree, IsHandOf}
use Rattle.plan_laws.specs.Keeping.{PlanKeeps}
use Rattle.plan_laws.proofs.Asking.{run-segments}
use Rattle.plan_laws.proofs.Cases.{inode_by}
use Rattle.plan_laws.proofs.Refusing.{Meets, passes, refuse_meets, none_meets}
use Rattle.plan_laws.specs.FilesPlanned.{HasFiles, WriteIsPlanned, FillIsPlanned}
use Rattle.plan_laws.proofs.Aiming.{file_meets}
use Rattle.plan_laws.proofs.Taking.{ArePicked, large_some, large_none, directories_all, lacks, none_picked, none_lacking, small_none, small_some}
use Rattle.plan_laws.proofs.Placing.{new_size, TakesLarge, writing_in_meets}

-- whether a large block is needed, as the plan and as the tree has it
pub plan_needs : (had ends : Bool) (own : ℕ) → (ends && ((if had then own + 1 else 0) == 0)) ≡ (ends && not had)
plan_needs true ends own = let e : nat_eq (own + 1) 0 ≡ false = grind (arith, nat_tests) in ap (λ v. ends && v) e
plan_needs false ends own = refl

pub tree_needs : (old end : ℕ) → nat_lt (large_blocks_of old) (large_blocks_of (max old end)) ≡ (nat_lt 65536 end && not (nat_lt 65536 old))
tree_needs old end = go (nat_lt 65536 old) refl (nat_lt 65536 end) refl (nat_lt 65536 (max old end)) refl
  where
    go : (a : Bool) → nat_lt 65536 old ≡ a → (b : Bool) → nat_lt 65536 end ≡ b → (c : Bool) → nat_lt 65536 (max old end) ≡ c → nat_lt (if a then 1 else 0) (if c then 1 else 0) ≡ (b && not a)
    go true p true q true r = refl
    go true p true q false r = refl
    go true p false q true r = refl
    go true p false q false r = refl
    go false p true q true r = refl
    go false p true q false r = absurd (let l : 65536 < end = grind (arith, nat_tests) in let m : max old end ≤ 65536 = grind (arith, nat_tests) in omega arith)
    go false p false q true r = absurd (let l : end ≤ 65536 = grind (arith, nat_tests) in let k : old ≤ 65536 = grind (arith, nat_tests) in let m : 65536 < max old end = grind (arith, nat_tests) in omega arith)
    go false p false q false r = refl

get_index : {X : Type 0} (f : ℕ → X) (xs : List ℕ) (i : ℕ) → i < length xs → slice_get (map f xs) i ≡ Some (f (slice_index xs i))
get_index f [] i l = absurd (omega arith)
get_index f (x ∷ xs) zero l = refl
get_index f (x ∷ xs) (suc i) l = get_index f xs i (omega arith)

get_replicate : {X : Type 0} (c : X) (n i : ℕ) → i < n → slice_get (replicate n c) i ≡ Some c
get_replicate c zero i l = absurd (omega arith)
get_replicate c (suc n) zero l = refl
get_replicate c (suc n) (suc i) l = get_replicate c n i (omega arith)

module _ (h : Hand) (s : Store) (tree : FileTree) (n : Naming) (of : IsOfTree s tree n) (hand : IsHandOf h s tree.segments) (m : ℕ) (files : HasFiles s tree m) (touched : List ℕ) (b links since : ℕ) (old fresh : List Cell) (is : node_at tree b ≡ Some (File old links since))
    (w : Writing) (size : length fresh ≡ w.len) (cells : (i : ℕ) → i < w.len → slice_get fresh i ≡ Some (cell.Byte (w.byte (w.off + i)))) where
  abbrev x : StoredNode
  x = inode_by n b (File old links since)

  abbrev more : ℕ
  more = small_blocks_of (max (length old) (end_of w)) - small_blocks_of (length old)

  abbrev done : Applied
  done = says (with_node tree b (File (overwritten old w.off fresh) links w.when)) reply.Ok

  abbrev with_blocks : Applied
  with_blocks = if lacks h s tree n of hand m more then says tree (reply.NoBlock m) else done

  module _ (inside : w.off ≤ length old) where
    abbrev Takes : Option ℕ → Type 0
    Takes o = TakesLarge h s tree n of hand files.fit touched b links since old fresh is w inside size cells o

    in_place : (o : Option ℕ) → Takes o → (picks : List ℕ) → ArePicked h s tree n of hand picks more → Meets h s tree n done (run (writing_in w (n.inode b) touched x picks o) s)
    in_place o takes picks picked well =
        let e : max (length old) (end_of w) ≡ length (overwritten old w.off fresh) = sym (new_size h s tree n of hand files.fit touched b links since old fresh is w inside size cells) in
        writing_in_meets h s tree n of hand files.fit touched b links since old fresh is w inside size cells picks o (subst (λ k. ArePicked h s tree n of hand picks (small_blocks_of k - small_blocks_of (length old))) e picked) takes well

    none_found : picked_many h.held more ≡ None → PlanKeeps h s tree n with_blocks (run (none_left h (reply.NoBlock (directory_blocks h.held)) touched) s)
    none_found e = go h.all refl
      where
        go : (c : Bool) → h.all ≡ c → PlanKeeps h s tree n with_blocks (run (none_left h (reply.NoBlock (directory_blocks h.held)) touched) s)
        go true all =
            let k : directory_blocks h.held ≡ m = directories_all h s tree n of hand all ∙ sym files.directories in
            subst (λ j. PlanKeeps h s tree n with_blocks (run (none_left h (reply.NoBlock j) touched) s)) (sym k)
            (none_meets h s tree n of (reply.NoBlock m) touched (lacks h s tree n of hand m more) done (λ a. small_none h s tree n of hand m more files.directories e a))
        go false all = rw all refl

    picked_meets : (o : Option ℕ) → Takes o → (p : Option (List ℕ)) → picked_many h.held more ≡ p → Meets h s tree n with_blocks (run (writing_picked h w (n.inode b) touched x o p) s)
    picked_meets o takes None e = λ well. none_found e
    picked_meets o takes (Some picks) e =
        let r = small_some h s tree n of hand m more picks files.directories e in
        passes h s tree n (lacks h s tree n of hand m more) (says tree (reply.NoBlock m)) done (run (writing_in w (n.inode b) touched x picks o) s) r.1 (in_place o takes picks r.0)

    small_meets : (o : Option ℕ) → Takes o → Meets h s tree n with_blocks (run (writing_small h w (n.inode b) touched x o) s)
    small_meets o takes = go (more == 0) refl
      where
        go : (c : Bool) → more == 0 ≡ c → Meets h s tree n with_blocks (run (if c then writing_in w (n.inode b) touched x [] o else read_held h (writing_picked h w (n.inode b) touched x o (picked_many h.held more))) s)
        go true e =
            let z : more ≡ 0 = grind (arith, nat_tests) in
            passes h s tree n (lacks h s tree n of hand m more) (says tree (reply.NoBlock m)) done (run (writing_in w (n.inode b) touched x [] o) s) (subst (λ k. lacks h s tree n of hand m k ≡ false) (sym z) (none_lacking h s tree n of hand m files.directories))
            (in_place o takes [] (subst (ArePicked h s tree n of hand []) (sym z) (none_picked h s tree n of hand)))
        go false e = rw (run-segments (keys_of h.held) (writing_picked h w (n.inode b) touched x o (picked_many h.held more)) s) (picked_meets o takes (picked_many h.held more) refl)

    -- ---- the large block
    abbrev needs : Bool
    needs = nat_lt 65536 (end_of w) && not (nat_lt 65536 (length old))

    needs_one : needs ≡ true → (length old ≤ 65536) × (65536 < end_of w)
    needs_one e = go (nat_lt 65536 (end_of w)) refl (nat_lt 65536 (length old)) refl e
      where
        go : (p : Bool) → nat_lt 65536 (end_of w) ≡ p → (q : Bool) → nat_lt 65536 (length old) ≡ q → (p && not q) ≡ true → (length old ≤ 65536) × (65536 < end_of w)
        go true p false q e = (grind (arith, nat_tests), grind (arith, nat_tests))
        go true p true q e = absurd (cc)
        go false p true q e = absurd (cc)
        go false p false q e = absurd (cc)

    new_is : length (overwritten old w.off fresh) ≡ max (length old) (end_of w)
    new_is = new_size h s tree n of hand files.fit touched b links since old fresh is w inside size cells

    needs_none : needs ≡ false → Takes None
    needs_none e l = go (nat_lt 65536 (end_of w)) refl (nat_lt 65536 (length old)) refl e
      where
        go : (p : Bool) → nat_lt 65536 (end_of w) ≡ p → (q : Bool) → nat_lt 65536 (length old) ≡ q → (p && not q) ≡ false → 65536 < length old
        go p i true q e = grind (arith, nat_tests)
        go true i false q e = absurd (cc)
        go false i false q e = absurd (let a : end_of w ≤ 65536 = grind (arith, nat_tests) in let c : length old ≤ 65536 = grind (arith, nat_tests) in let d : length (overwritten old w.off fresh) ≡ max (length old) (end_of w) = new_is in omega arith)

    large_meets : needs ≡ true → (p : Option ℕ) → picked_large h.held ≡ p → Meets h s tree n (if larges_full tree then says tree reply.NoLarge else with_blocks) (run (writing_large h w (n.inode b) touched x p) s)
    large_meets e None i = λ well. none_meets h s tree n of reply.NoLarge touched (larges_full tree) with_blocks (λ all. large_none h s tree n of hand i all)
    large_meets e (Some g) i =
        let r = large_some h s tree n of hand g i in
        let q = needs_one e in
        let longer : 65536 < length (overwritten old w.off fresh) = (let d : length (overwritten old w.off fresh) ≡ max (length old) (end_of w) = new_is in omega (arith, q.1)) in
        passes h s tree n (larges_full tree) (says tree reply.NoLarge) with_blocks (run (writing_small h w (n.inode b) touched x (Some g)) s) r.2 (small_meets (Some g) (q.0, longer, r.0, r.1))

    by_need : (c : Bool) → needs ≡ c → Meets h s tree n (if c && larges_full tree then says tree reply.NoLarge else with_blocks)
        (run (if c then read_held h (writing_large h w (n.inode b) touched x (picked_large h.held)) else writing_small h w (n.inode b) touched x None) s)
    by_need true e = rw (run-segments (keys_of h.held) (writing_large h w (n.inode b) touched x (picked_large h.held)) s) (large_meets e (picked_large h.held) refl)
    by_need false e = small_meets None (needs_none e)

    abbrev Goal : Bool → Bool → Type 0
    Goal p q = Meets h s tree n (if p && larges_full tree then says tree reply.NoLarge else with_blocks)
        (run (if q then read_held h (writing_large h w (n.inode b) touched x (picked_large h.held)) else writing_small h w (n.inode b) touched x None) s)

    pub sized_meets : Goal (nat_lt (large_blocks_of (length old)) (large_blocks_of (max (length old) (end_of w)))) (nat_lt 65536 (end_of w) && x.large == 0)
    sized_meets =
        subst (λ p. Goal p (nat_lt 65536 (end_of w) && x.large == 0)) (sym (tree_needs (length old) (end_of w)))
        (subst (Goal needs) (sym (plan_needs (nat_lt 65536 (length old)) (nat_lt 65536 (end_of w)) (n.large b))) (by_need needs refl))

  abbrev tree_then : Applied
  tree_then = if nat_lt (large_blocks_of (length old)) (large_blocks_of (max (length old) (end_of w))) && larges_full tree then says tree reply.NoLarge else with_blocks

  abbrev plan_then : Ask Plan
  plan_then = if nat_lt 65536 (end_of w) && x.large == 0 then read_held h (writing_large h w (n.inode b) touched x (picked_large h.held)) else writing_small h w (n.inode b) touched x None

  pub writing_meets : Meets h s tree n (written tree m b old links w.when w.off w.len (λ all. overwritten all w.off fresh)) (run (writing h w (n.inode b) touched x) s)
  writing_meets = go (nat_lt (length old) w.off) refl (nat_lt 1114112 (end_of w))
    where
      go : (c : Bool) → nat_lt (length old) w.off ≡ c → (d : Bool) → Meets h s tree n (if c then says tree reply.BadOffset else (if d then says tree reply.TooBig else tree_then))
          (run (if c then refused reply.BadOffset touched else (if d then refused reply.TooBig touched else plan_then)) s)
      go true e d = λ well. refuse_meets h s tree n of reply.BadOffset touched
      go false e true = λ well. refuse_meets h s tree n of reply.TooBig touched
      go false e false = sized_meets (grind (arith, nat_tests))

pub write_planned : WriteIsPlanned
write_planned path off bytes h s tree n birth when m of hand new files =
    let w : Writing = record { off = off; len = length bytes; when = when; byte = λ j. slice_index bytes (j - off) } in
    file_meets h s tree n of (writing h w) (λ b cells links old. written tree m b cells links when off (length bytes) (λ all. overwritten all off (map cell.Byte bytes)))
    (λ touched b links since cells is. writing_meets h s tree n of hand m files touched b links since cells (map cell.Byte bytes) is w (length-map bytes cell.Byte)
    (λ i l. let e : off + i - off ≡ i = omega arith in get_index cell.Byte bytes i l ∙ ap (λ k. Some (cell.Byte (slice_index bytes k))) (sym e)))
    path (apply_keeps tree (op.Write path off bytes) birth when m of.well_formed new)

pub fill_planned : FillIsPlanned
fill_planned path off len byte h s tree n birth when m of hand new files =
    let w : Writing = record { off = off; len = len; when = when; byte = λ j. byte } in
    file_meets h s tree n of (writing h w) (λ b cells links old. written tree m b cells links when off len (λ all. overwritten all off (replicate len (cell.Byte byte))))
    (λ touched b links since cells is. writing_meets h s tree n of hand m files touched b links since cells (replicate len (cell.Byte byte)) is w (length-replicate len (cell.Byte byte)) (λ i l. get_replicate (cell.Byte byte) len i l))
    path (apply_keeps tree (op.Fill path off len byte) birth when m of.well_formed new)
