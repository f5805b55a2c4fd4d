-- The plan of read shows bytes that the cells allow.
use Rattle.std.proofs.Common.{ℕ, ◌≡◌, ◌<◌, ◌+◌, ◌-◌, ◌*◌, ◌/◌, ◌%◌, ◌==◌, Bool, true, false, nat_lt, min, if◌then◌else◌, Some, List, length, take, drop, refl, sym, ◌∙◌, ap, subst, arith}
use Rattle.std.proofs.lemmas.Bool.Decides.{nat_tests}
use Rattle.std.proofs.lemmas.List.{length-take, length-drop}
use Rattle.std.proofs.lemmas.Option.{slice_get_within}
use Rattle.std.specs.List.{slice_get}
use Rattle.frang_base.specs.declared.op.Op.TheVariants as op
use Rattle.frang_base.specs.declared.reply.Reply.TheVariants as reply
use Rattle.frang_base.proofs.Lists.{get_drop}
use Rattle.tree_definitions.specs.declared.cells.Cell.{Cell}
use Rattle.tree_definitions.specs.declared.node.Node.TheVariants.{File}
use Rattle.tree_definitions.specs.Tree.{FileTree, node_at}
use Rattle.tree_definitions.specs.Apply.{says, shown}
use Rattle.tree_definitions.specs.Apply.Answer.{Shows}
use Rattle.tree_laws.proofs.StepsLaws.{apply_keeps}
use Rattle.disk_definitions.specs.Store.{Store, StoredNode}
use Rattle.disk_definitions.specs.Naming.{Naming, Allows}
use Rattle.disk_definitions.specs.Ask.{run}
use Rattle.disk_definitions.specs.Plans.{Hand, refused, refuse}
use Rattle.disk_definitions.specs.FilePlans.{sectors_met, read_sectors, showing}
use Rattle.disk_definitions.specs.Meets.{IsOfTree, AllAllow}
use Rattle.plan_laws.specs.Keeping.{PlanKeeps}
use Rattle.plan_laws.proofs.Cases.{inode_by}
use Rattle.plan_laws.proofs.Refusing.{Meets, refuse_meets}
use Rattle.plan_laws.specs.FilesPlanned.{ReadIsPlanned}
use Rattle.plan_laws.proofs.Aiming.{file_meets}
use Rattle.plan_laws.proofs.Bytes.{values, values_drop, values_take, all_allow, stored_byte, run-sectors}
use Rattle.plan_laws.proofs.Cells.{get_take}
use Rattle.plan_laws.proofs.Stored.{stored_is}

-- the bytes of these sectors from the offset on
cut_out : (f : ℕ → ℕ) (off len : ℕ) → take len (drop (off % 512) (values f (512 * (off / 512)) (512 * sectors_met off len))) ≡ values f off len
cut_out f off len = go (len == 0) refl
  where
    go : (b : Bool) → len == 0 ≡ b → take len (drop (off % 512) (values f (512 * (off / 512)) (512 * sectors_met off len))) ≡ values f off len
    go true e = let z : len ≡ 0 = grind (arith, nat_tests) in rw z refl
    go false e =
        let some : 0 < len = grind (arith, nat_tests) in
        let met : sectors_met off len ≡ (off + len - 1) / 512 + 1 - off / 512 = rw e refl in
        let left = 512 * sectors_met off len - off % 512 - len in
        let a : 512 * sectors_met off len ≡ off % 512 + (len + left) = omega arith in
        let b : 512 * (off / 512) + off % 512 ≡ off = omega arith in
        ap (λ k. take len (drop (off % 512) (values f (512 * (off / 512)) k))) a
        ∙ ap (take len) (values_drop f (off % 512) (512 * (off / 512)) (len + left) ∙ ap (λ k. values f k (len + left)) b)
        ∙ values_take f len off left

module _ (h : Hand) (s : Store) (tree : FileTree) (n : Naming) (of : IsOfTree s tree n) (off len : ℕ) (touched : List ℕ) (b links when : ℕ) (cells : List Cell) (is : node_at tree b ≡ Some (File cells links when)) where
  abbrev x : StoredNode
  x = inode_by n b (File cells links when)

  allowed : (j : ℕ) (c : Cell) → slice_get (take len (drop off cells)) j ≡ Some c → Allows c (stored_byte s x (off + j))
  allowed j c e =
      let d : slice_get (drop off cells) j ≡ Some c = get_take len (drop off cells) j c e in
      let i : slice_get cells (off + j) ≡ Some c = sym (get_drop off cells j) ∙ d in
      let l : off + j < length cells = slice_get_within cells (off + j) c i in
      subst (Allows c) (sym (stored_is s (n.stamp b) links when (n.large b) (n.block b) cells (off + j) l)) (of.pictures.bytes b (off + j) c (rw is i))

  shown_allowed : AllAllow (take len (drop off cells)) (values (stored_byte s x) off (min len (length cells - off)))
  shown_allowed =
      let size : length (take len (drop off cells)) ≡ min len (length cells - off) = length-take len (drop off cells) ∙ ap (min len) (length-drop off cells) in
      subst (λ k. AllAllow (take len (drop off cells)) (values (stored_byte s x) off k)) size (all_allow (stored_byte s x) (take len (drop off cells)) off allowed)

  pub showing_meets : Meets h s tree n (shown tree cells off len) (run (showing off len (n.inode b) touched x) s)
  showing_meets = go (nat_lt (length cells) off)
    where
      k : ℕ
      k = min len (length cells - off)

      bytes_are : PlanKeeps h s tree n (record { answer = Shows (take len (drop off cells)); tree = tree })
          (run (read_sectors x (off / 512) (sectors_met off k) (λ bytes. refused (reply.Shown (take k (drop (off % 512) bytes))) touched)) s)
      bytes_are =
          let e : run (read_sectors x (off / 512) (sectors_met off k) (λ bytes. refused (reply.Shown (take k (drop (off % 512) bytes))) touched)) s ≡ refuse (reply.Shown (values (stored_byte s x) off k)) touched =
          run-sectors s x (off / 512) (sectors_met off k) (λ bytes. refused (reply.Shown (take k (drop (off % 512) bytes))) touched) ∙ ap (λ l. refuse (reply.Shown l) touched) (cut_out (stored_byte s x) off k) in
          subst (PlanKeeps h s tree n (record { answer = Shows (take len (drop off cells)); tree = tree })) (sym e) (record { meets = record { answer = shown_allowed; naming = n; tree = of }; inodes = λ c there stays. refl })

      go : (c : Bool) → Meets h s tree n (if c then says tree reply.BadOffset else record { answer = Shows (take len (drop off cells)); tree = tree })
          (run (if c then refused reply.BadOffset touched else (let k = min len (length cells - off) in read_sectors x (off / 512) (sectors_met off k) (λ bytes. refused (reply.Shown (take k (drop (off % 512) bytes))) touched))) s)
      go true well = refuse_meets h s tree n of reply.BadOffset touched
      go false well = bytes_are

pub read_planned : ReadIsPlanned
read_planned path off len h s tree n birth when m of hand new =
    file_meets h s tree n of (showing off len) (λ b cells links when. shown tree cells off len) (λ touched b links when cells is. showing_meets h s tree n of off len touched b links when cells is) path (apply_keeps tree (op.Read path off len) birth when m of.well_formed new)
