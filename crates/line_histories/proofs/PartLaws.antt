-- The laws of the parts of files, by the edits of a line and by the inodes that nodes keep.
use Rattle.std.proofs.Common.{ℕ, ◌≡◌, ◌<◌, ◌+◌, ◌*◌, ◌⊎◌, inl, inr, ⊎_elim, true, max, Option, Some, None, is_some, refl, sym, ◌∙◌, ap, subst, arith}
use Rattle.frang_base.specs.declared.op.Op.{Op}
use Rattle.frang_base.specs.declared.reply.Reply.TheVariants as reply
use Rattle.tree_definitions.specs.declared.node.Node.{Node}
use Rattle.tree_definitions.specs.Perform.{Goes, perform, resolved}
use Rattle.tree_definitions.specs.Removal.{meets, step_writes}
use Rattle.tree_definitions.specs.Tree.{FileTree, node_at}
use Rattle.disk_definitions.specs.Store.{Store, StoredNode}
use Rattle.disk_definitions.specs.Naming.{Naming}
use Rattle.disk_definitions.specs.Edits.{edited_all}
use Rattle.disk_definitions.specs.Ask.{Sector}
use Rattle.disk_definitions.specs.FilePlans.{end_of, mixed}
use Rattle.disk_definitions.specs.Plans.{Hand, Finish}
use Rattle.plan_laws.proofs.Standing.{node_of}
use Rattle.plan_laws.specs.Looked.{edited_at}
use Rattle.line_laws.proofs.NodeLaws.{line_nodes_keep, line_nodes_free}
use Rattle.line_histories.specs.Files.{file_sector, IsWritten}
use Rattle.line_histories.specs.Sectors.{bytes_kept}
use Rattle.line_histories.proofs.Files.{set_at}
use Rattle.line_histories.proofs.Laws.{lines_keep_or_write, lines_write_pieces}
use Rattle.line_histories.specs.Parts.{LiesIn, IsFinished, LinesKeepParts, LinesWriteWhatTheyMeet}
use Rattle.line_histories.proofs.Owners.{same_part}
use Rattle.line_histories.proofs.PartsMeeting.{begins_below, reaches, asked_meets}

module _ (o : Op) (h : Hand) (s : Store) (tree : FileTree) (n after : Naming) (birth when m : ℕ) (f : Finish) (g : IsFinished o h s tree n after birth when m f) where
  abbrev to : FileTree
  to = (perform tree o birth when m).tree

  abbrev end : Store
  end = edited_all s f.edits

  -- a node whose inode held something before is an old one, which had it
  linked : (b i : ℕ) (x : StoredNode) → is_some (node_at to b) ≡ true → after.inode b ≡ i → s.inode i ≡ Some x → (is_some (node_at tree b) ≡ true) × (n.inode b ≡ i)
  linked b i x some e is = go (node_at tree b) refl
    where
      go : (was : Option Node) → node_at tree b ≡ was → (is_some (node_at tree b) ≡ true) × (n.inode b ≡ i)
      go (Some node) there =
          let old : is_some (node_at tree b) ≡ true = ap is_some there in
          (old, sym (line_nodes_keep o h s tree n after birth when m f g.of g.reached g.at_hand g.new g.files g.comes g.leads b old some) ∙ e)
      go None none =
          let r = node_of s (node_at tree) n g.of.pictures i x is in
          let had : n.birth i ≡ Some r.birth = ap n.birth (sym r.number) ∙ g.of.pictures.numbered r.birth (ap is_some r.is) in
          let free = line_nodes_free o h s tree n after birth when m f g.of g.reached g.at_hand g.new g.files g.comes g.leads b none some in
          let lost : None ≡ Some r.birth = sym free.0 ∙ ap n.birth e ∙ had in
          absurd (cc)

  kept : (b t : ℕ) (x : Sector) → LiesIn end to after b t x → IsWritten f.edits x ⊎ (LiesIn s tree n b t x × (n.inode b ≡ after.inode b))
  kept b t x lies = ⊎_elim (λ w. inl (subst (IsWritten f.edits) lies.here w))
      (λ st. let r = linked b (after.inode b) st.before lies.there refl st.is in
      inr (record { there = r.0; stored = st.before; is = ap s.inode r.1 ∙ st.is; kind = st.kind; below = st.below; here = st.here ∙ lies.here }, r.1))
      (lines_keep_or_write o h s tree n birth when f g.of g.at_hand g.comes (after.inode b) t lies.stored lies.is lies.kind lies.below)

  met : (b t : ℕ) (x : Sector) → LiesIn end to after b t x → IsWritten f.edits x → step_writes tree (resolved tree o).step f.reply b t ≡ true
  met b t x lies w =
      let q = lines_write_pieces o h s tree n birth when f g.of g.at_hand g.comes w.edit w.among w.bytes in
      let p = q.piece in
      let sector : file_sector p.after p.index ≡ file_sector lies.stored t = sym (set_at p.after p.index (mixed p.asked.piece p.index (bytes_kept p.asked.piece s p.before p.index))).1 ∙ sym (ap edited_at p.sets) ∙ w.here ∙ sym lies.here in
      let below : 512 * p.index < p.asked.piece.off + p.asked.piece.len = begins_below p.asked.piece.off p.asked.piece.len p.index p.from p.to in
      let inside : 512 * p.index < p.after.size = subst (λ z. 512 * p.index < z) (sym p.size) (longer (512 * p.index) p.before.size (end_of p.asked.piece) below) in
      let one = same_part end (node_at to) after g.leads.pictures p.inode (after.inode b) p.after lies.stored p.index t p.written lies.is p.file lies.kind inside lies.below sector in
      let r = linked b p.inode p.before lies.there (sym one.0) p.is in
      let reached : meets t p.asked.piece.off (end_of p.asked.piece) ≡ true = subst (λ u. meets u p.asked.piece.off (end_of p.asked.piece) ≡ true) one.1 (reaches p.asked.piece.off p.asked.piece.len p.index p.from p.to) in
      let answered : step_writes tree (Goes q.step) reply.Ok b t ≡ true = asked_meets s tree n g.of b r.0 p.before (ap s.inode r.1 ∙ p.is) p.kind t when q.step p.asked p.is_asked (p.leads ∙ ap (λ i. Some i) (sym r.1)) reached in
      subst (λ st. step_writes tree st f.reply b t ≡ true) (sym q.comes) (subst (λ r. step_writes tree (Goes q.step) r b t ≡ true) (sym p.reply) answered)
    where
      longer : (v old new : ℕ) → v < new → v < max old new
      longer v old new l = omega arith

pub lines_keep_parts : LinesKeepParts
lines_keep_parts o h s tree n after birth when m f g = kept o h s tree n after birth when m f g

pub lines_meet_parts : LinesWriteWhatTheyMeet
lines_meet_parts o h s tree n after birth when m f g = met o h s tree n after birth when m f g
