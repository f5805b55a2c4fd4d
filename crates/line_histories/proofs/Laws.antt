-- Where the sectors of files lie after a finished line, and what it writes into them, by the edits of each plan; a refusal edits nothing.
use Rattle.std.proofs.Common.{ℕ, ◌≡◌, ◌++◌, ◌⊎◌, inl, inr, ⊎_elim, Bool, false, Some, List, [], ◌∷◌, map, refl, sym, ◌∙◌, ap, ap₂, subst}
use Rattle.std.specs.List.{Contains}
use Rattle.std.proofs.lemmas.Bool.{cases_eq}
use Rattle.frang_base.specs.declared.op.Op.{Op}
use Rattle.frang_base.specs.Functions.{put}
use Rattle.frang_base.proofs.Basics.{put_same, put_other}
use Rattle.tree_definitions.specs.Perform.{Step, Goes, resolved}
use Rattle.tree_definitions.specs.Tree.{FileTree}
use Rattle.disk_definitions.specs.Store.{Store, StoredNode, Use}
use Rattle.disk_definitions.specs.Naming.{Naming}
use Rattle.disk_definitions.specs.Edits.{Edit, edited, edited_all}
use Rattle.disk_definitions.specs.Edits.Edit.{SetInode, SetBit, SetUse, SetPlace, SetLarge, SetBytes, SetLargeBytes}
use Rattle.disk_definitions.specs.Ask.{run}
use Rattle.disk_definitions.specs.Meets.{IsOfTree, IsHandOf}
use Rattle.disk_definitions.specs.PlanOf.{plan_of}
use Rattle.disk_definitions.specs.Plans.{Hand, Lock, Finish, shared_nodes}
use Rattle.disk_definitions.specs.Plans.Plan.{Finishes}
use Rattle.disk_definitions.specs.Written.{is_metadata}
use Rattle.plan_laws.proofs.Covering.{has_head, has_more, not_in_none, all_has}
use Rattle.plan_laws.specs.Plans.{OfEachFinish}
use Rattle.line_laws.proofs.Covered.{by_finish}
use Rattle.line_laws.proofs.Running.{run_performed}
use Rattle.line_laws.proofs.Lifting.{lifted}
use Rattle.line_histories.specs.Sectors.{KeepsOrWrites, LinesKeepOrWrite, IsPiece, LinesWritePieces}
use Rattle.line_histories.proofs.Fine.{Fine}
use Rattle.line_histories.proofs.Names.{IsFinePlan}
use Rattle.line_histories.proofs.Each.{plan_fine}

-- what stands in an inode after edits stood there before, or is written by one of them
inode_from : (es : List Edit) (s : Store) (i : ℕ) (y : StoredNode) → (edited_all s es).inode i ≡ Some y → (s.inode i ≡ Some y) ⊎ ((d : Bool) × Contains es (SetInode i (Some y) d))
inode_from [] s i y e = inl e
inode_from (d ∷ es) s i y e = ⊎_elim (λ q. one d q) (λ r. inr (r.0, has_more d (SetInode i (Some y) r.0) es r.1)) (inode_from es (edited s d) i y e)
  where
    one : (d : Edit) → (edited s d).inode i ≡ Some y → (s.inode i ≡ Some y) ⊎ ((b : Bool) × Contains (d ∷ es) (SetInode i (Some y) b))
    one (SetInode j x b) q = ⊎_elim
        (λ same. let here : x ≡ Some y = sym (put_same s.inode j x) ∙ ap (put s.inode j x) (sym same) ∙ q in
        inr (b, subst (Contains (SetInode j x b ∷ es)) (ap₂ (λ a z. SetInode a z b) (sym same) here) (has_head (SetInode j x b) es)))
        (λ far. inl (sym (put_other s.inode j x i far) ∙ q)) (cases_eq i j)
    one (SetBit j b) q = inl q
    one (SetUse k u) q = inl q
    one (SetPlace k p x) q = inl q
    one (SetLarge g b) q = inl q
    one (SetBytes k part bytes) q = inl q
    one (SetLargeBytes g part bytes) q = inl q

-- ---- a plan over a path without links

piece_at : (P : Edit → Type 0) (s : Store) (es : List Edit) (state : Use) (d : Edit) → Fine P s es state d → is_metadata d ≡ false → P d
piece_at P s es state (SetBytes k part bytes) f e = f
piece_at P s es state (SetLargeBytes g part bytes) f e = f
piece_at P s es state (SetInode i x dated) f e = absurd (cc)
piece_at P s es state (SetBit i b) f e = absurd (cc)
piece_at P s es state (SetUse k u) f e = absurd (cc)
piece_at P s es state (SetPlace k p x) f e = absurd (cc)
piece_at P s es state (SetLarge g b) f e = absurd (cc)

module _ (o : Op) (h : Hand) (s : Store) (tree : FileTree) (n : Naming) (birth when : ℕ) (f : Finish) (of : IsOfTree s tree n) (hand : IsHandOf h s tree.segments) (e : run (plan_of h birth when o) s ≡ Finishes f) where
  pub fine : IsFinePlan (IsPiece when o s) s (Finishes f)
  fine = subst (IsFinePlan (IsPiece when o s) s) e (plan_fine h s tree n of hand o birth when)

  pub one_fine : (d : Edit) → Contains f.edits d → Fine (IsPiece when o s f) s f.edits fine.0 d
  one_fine d c = all_has (Fine (IsPiece when o s f) s f.edits fine.0) f.edits fine.1 d c

  keeps : KeepsOrWrites s n f
  keeps i t y is one l = ⊎_elim
      (λ same. inr (record { before = y; is = same; kind = one; below = l; here = refl }))
      (λ w. one_fine (SetInode i (Some y) w.0) w.1 one t l)
      (inode_from f.edits s i y is)

  piece : (d : Edit) → Contains f.edits d → is_metadata d ≡ false → IsPiece when o s f d
  piece d c bytes = piece_at (IsPiece when o s f) s f.edits fine.0 d (one_fine d c) bytes

plans_keep_or_write : OfEachFinish plan_of KeepsOrWrites
plans_keep_or_write o h s tree n birth when f of hand e = keeps o h s tree n birth when f of hand e

-- ---- a line

-- further locks leave it so
behind : (when : ℕ) (p : Op) (s : Store) (g : Finish) (locks : List Lock) (d : Edit) → IsPiece when p s g d → IsPiece when p s (record g { locks = locks }) d
behind when p s g locks d q = record {
  reply = q.reply;
  asked = q.asked;
  is_asked = q.is_asked;
  inode = q.inode;
  leads = q.leads;
  before = q.before;
  is = q.is;
  kind = q.kind;
  begins = q.begins;
  after = q.after;
  written = q.written;
  file = q.file;
  size = q.size;
  index = q.index;
  from = q.from;
  to = q.to;
  sets = q.sets;
}

pub lines_keep_or_write : LinesKeepOrWrite
lines_keep_or_write =
    lifted KeepsOrWrites (λ s n trail f law. law) (λ s tree n r trail of i t y is one l. inr (record { before = y; is = is; kind = one; below = l; here = refl })) plans_keep_or_write

-- where an edit is a piece of the step
abbrev AreOfStep : ℕ → Store → Step → Finish → Type 0
AreOfStep when s step f = (d : Edit) → Contains f.edits d → is_metadata d ≡ false → (p : Op) × (step ≡ Goes p) × IsPiece when p s f d

pub lines_write_pieces : LinesWritePieces
lines_write_pieces o h s tree n birth when f of hand e d c bytes =
    let w = resolved tree o in
    let trail = map n.inode w.trail in
    let all : AreOfStep when s w.step f =
    by_finish h s birth when (AreOfStep when s) trail
    (λ p g is d c bytes. (p, refl, behind when p s g (shared_nodes trail ++ g.locks) d (piece p h s tree n birth when g of hand is d c bytes)))
    (λ r d c bytes. absurd (not_in_none d c))
    w.step f (sym (run_performed h s birth when tree n of o) ∙ e) in
    let r = all d c bytes in
    record { step = r.0; comes = r.1; piece = r.2 }
