-- A part of a file that lies in a sector in doubt after a removal of another server's operations lay there before it, with the same inode.
use Rattle.std.proofs.Common.{ℕ, ◌≡◌, ◌≢◌, ◌≤◌, ◌<◌, ◌*◌, ◌++◌, ⊎_elim, inl, Bool, true, false, is_some, if◌then◌else◌, nat_eq, nat_lt, Option, Some, None, List, [], ◌∷◌, map, refl, sym, ◌∙◌, ap, subst}
use Rattle.std.specs.List.{Contains}
use Rattle.std.proofs.lemmas.List.Elements.{Contains-append_left}
use Rattle.std.proofs.lemmas.Bool.{both_ways, eqb-true}
use Rattle.byte_trees.proofs.Lasting.{of_look, of_older, of_write}
use Rattle.frang_base.specs.Functions.{keep_if}
use Rattle.frang_base.specs.Locks.{has_lock}
use Rattle.frang_base.specs.declared.lock.LockId.{LockId}
use Rattle.frang_base.specs.declared.lock.LockId.TheVariants as lock
use Rattle.frang_base.specs.declared.lock.Mode.TheVariants.{Sole}
use Rattle.tree_definitions.specs.Perform.{perform}
use Rattle.tree_definitions.specs.Touched.{shape_of}
use Rattle.tree_definitions.specs.Tree.{FileTree, node_at}
use Rattle.tree_laws.proofs.ShapeNodes.{found}
use Rattle.sector_bytes.specs.Blocks.{Block}
use Rattle.disk_definitions.specs.Inodes.{inode_in}
use Rattle.sector_world.specs.Histories.{Changes, Commit, Each, Item, OpsRise, doubt_step, in_doubt, logical, survives}
use Rattle.sector_world.specs.Histories.Item.{Done, Doubt}
use Rattle.sector_world.specs.Plans.{IsByPlan, Legal, Outcome, outcome_of}
use Rattle.sector_world.specs.Seen as seen
use Rattle.sector_world.specs.Seen.{IsLost, Unmet, Unseen}
use Rattle.sector_world.proofs.HistoryLaws.{each_map, kept_logical}
use Rattle.sector_world.specs.Trees.{Distinct, tree_of}
use Rattle.disk_definitions.specs.Naming.{Naming}
use Rattle.disk_definitions.specs.Store.{Store, stored_node}
use Rattle.disk_definitions.specs.Edits.{edited_all}
use Rattle.disk_definitions.specs.Ask.{Sector, InodeAt, number_of}
use Rattle.disk_definitions.specs.Meets.{IsOfTree}
use Rattle.plan_laws.proofs.Covering.{map_has}
use Rattle.disk_definitions.specs.Covers.{cover_of, inode_cover}
use Rattle.line_laws.proofs.Covered.{line_edits_covered}
use Rattle.line_laws.proofs.Shaping.{some_shaped}
use Rattle.line_histories.specs.LinePlans.{fill_by, hand_on, lock_in, sector_plan, segment_lock, store_on}
use Rattle.line_histories.specs.Outcomes.{fill_shape}
use Rattle.line_histories.proofs.LinesSound.{lines_are_sound}
use Rattle.line_histories.proofs.Outcomes.{makes_of_edits}
use Rattle.disk_definitions.specs.Lines.{plan_of_line}
use Rattle.line_histories.specs.Following.{CoversFollow, store_after}
use Rattle.line_histories.specs.Standing.{StandsNumbered}
use Rattle.line_histories.specs.Trees.{AreTimes, MayTake, NumberedTree, performed_numbered}
use Rattle.line_histories.proofs.Filled.{IsInUse, file_in_use, written_value}
use Rattle.line_histories.specs.Parts.{LiesIn}
use Rattle.line_histories.proofs.PartLaws.{lines_keep_parts}
use Rattle.stop_laws.proofs.BytesAlong as along
use Rattle.stop_laws.proofs.BytesCovered.{history_cover, is_used, part_cover}
use Rattle.stop_laws.proofs.Written.{has_fill, some_shape}
use Rattle.stop_laws.specs.Sight.{AllSee}
use Rattle.stop_laws.proofs.Births as births
use Rattle.stop_laws.proofs.Births.{births_stay, named, stands_at}
use Rattle.stop_laws.proofs.Guarded.{inode_here}
use Rattle.stop_laws.proofs.Removing.{AllGuarded, AllOwn, apart_before, cover_back, lost, none_touches, not_lost, survives_if}
use Rattle.stop_laws.proofs.Removing as removing

module _ (segments : ℕ) (when : ℕ → ℕ) (times : AreTimes when) (opening : ℕ → Block) (start : NumberedTree) (begins : StandsNumbered segments opening start) where
  -- after the history the part of the file of this birth lies in the sector with this number
  pub record LiesOn (birth part number : ℕ) (h : List Item) : Type 0 where
    pub naming : Naming
    pub of : births.IsOf segments when times opening start begins h naming
    pub sector : Sector
    pub lies : LiesIn (store_after segments opening h) (shape_of (tree_of (performed_numbered when) start h).tree) naming birth part sector
    pub here : number ≡ number_of sector

  -- of a file of this size
  pub record LiesSized (birth part number size : ℕ) (h : List Item) : Type 0 where
    pub on : LiesOn birth part number h
    pub same : on.lies.stored.size ≡ size

  -- ---- one operation more

  module _ (c : Commit) (h : List Item) (l : Legal (sector_plan segments when) opening (Done c ∷ h)) (d : Distinct MayTake start (Done c ∷ h)) (by : IsByPlan c)
      (birth part number : ℕ) (on : LiesOn birth part number (Done c ∷ h)) where
    abbrev next : Store
    next = store_on segments (along.next segments when times opening start begins c h l d by)

    abbrev to : FileTree
    to = shape_of (along.to segments when times opening start begins c h l d by)

    of_then : IsOfTree next to on.naming
    of_then = subst (λ s. IsOfTree s to on.naming) (along.store_is segments when times opening start begins c h l d by) on.of

    lies_then : LiesIn next to on.naming birth part on.sector
    lies_then = subst (λ s. LiesIn s to on.naming birth part on.sector) (along.store_is segments when times opening start begins c h l d by) on.lies

    -- by the edits alone
    edited : LiesIn
        (edited_all (store_on segments (logical opening h)) (along.edits segments when times opening start begins c h l d by))
        (perform (shape_of (tree_of (performed_numbered when) start h).tree) c.asked c.op (when c.op) (along.after segments when times opening start begins c h l d by).ever).tree
        (along.after segments when times opening start begins c h l d by).after birth part on.sector
    edited =
        let after = along.after segments when times opening start begins c h l d by in
        let end = (perform (shape_of (tree_of (performed_numbered when) start h).tree) c.asked c.op (when c.op) after.ever).tree in
        record {
          there = sym (some_shaped (node_at end birth)) ∙ ap is_some (sym (found end birth))
              ∙ ap (λ u. is_some (node_at u birth)) (along.shape_is segments when times opening start begins c h l d by) ∙ lies_then.there;
          stored = lies_then.stored;
          is = sym (after.inodes (after.after.inode birth))
              ∙ ap next.inode (sym (along.agree segments when times opening start begins c h l d by on.naming of_then birth part on.sector lies_then)) ∙ lies_then.is;
          kind = lies_then.kind;
          below = lies_then.below;
          here = lies_then.here;
        }

    -- where the operation writes nothing there, it lay there before
    pub lies_before : is_some (c.writes number) ≡ false → LiesOn birth part number h
    lies_before none =
        let naming = along.naming segments when times opening start begins c h l d by in
        let after = along.after segments when times opening start begins c h l d by in
        let fin = along.fin segments when times opening start begins c h l d by in
        let edits = along.edits segments when times opening start begins c h l d by in
        let here : is_some (c.writes (number_of on.sector)) ≡ false = subst (λ s. is_some (c.writes s) ≡ false) on.here none in
        let fills : is_some (c.writes (number_of on.sector)) ≡ is_some (fill_by edits (number_of on.sector)) =
        sym (some_shape (c.writes (number_of on.sector)))
        ∙ ap is_some (ap fill_shape (by.made (number_of on.sector))
        ∙ makes_of_edits plan_of_line lines_are_sound segments when c.hint c.op c.asked (logical opening h) (outcome_of c) fin (number_of on.sector) (c.shown (number_of on.sector)))
        ∙ some_shape (fill_by edits (number_of on.sector)) in
        let kept = lines_keep_parts c.asked (hand_on segments (logical opening h) c.hint) (store_on segments (logical opening h)) (shape_of (tree_of (performed_numbered when) start h).tree)
        naming after.after c.op (when c.op) after.ever (along.finish segments when times opening start begins c h l d by) after.done birth part on.sector
        edited in
        ⊎_elim
        (λ w. absurd (both_ways (is_some (c.writes (number_of on.sector))) here (fills ∙ has_fill edits (number_of on.sector) (written_value edits on.sector w))))
        (λ r. record { naming = naming; of = (along.step segments when times opening start begins c h l d by).of; sector = on.sector; lies = r.0; here = on.here })
        kept

    -- where it writes there, it uses the lock that covered the sector
    pub writer_uses : (home : ℕ → LockId) → CoversFollow segments opening home h → is_some (c.writes number) ≡ true → has_lock (seen.cover_of home h number) c.uses ≡ true
    writer_uses home follow some =
        let naming = along.naming segments when times opening start begins c h l d by in
        let after = along.after segments when times opening start begins c h l d by in
        let fin = along.fin segments when times opening start begins c h l d by in
        let finish = along.finish segments when times opening start begins c h l d by in
        let step = along.step segments when times opening start begins c h l d by in
        let tree = shape_of (tree_of (performed_numbered when) start h).tree in
        let w = along.fills_written segments when times opening start begins c h l d by on.naming of_then birth part on.sector lies_then (subst (λ s. is_some (c.writes s) ≡ true) on.here some) in
        let sole : Contains finish.locks (cover_of naming on.sector, Sole) =
        subst (λ y. Contains finish.locks (cover_of naming y, Sole)) w.here
        (line_edits_covered c.asked (hand_on segments (logical opening h) c.hint) (store_on segments (logical opening h)) tree naming c.op (when c.op) finish step.of after.done.at_hand fin.comes.is
        w.edit w.among) in
        let used : has_lock (cover_of naming on.sector) c.uses ≡ true =
        ap (λ (q : Outcome). has_lock (cover_of naming on.sector) q.uses) fin.comes.outcome
        ∙ is_used (map lock_in finish.locks ++ map segment_lock c.hint) (cover_of naming on.sector)
        (Contains-append_left (map lock_in finish.locks) (map segment_lock c.hint) (cover_of naming on.sector) (map_has lock_in finish.locks (cover_of naming on.sector, Sole) sole)) in
        ap (λ k. has_lock k c.uses)
        (ap (seen.cover_of home h) on.here
        ∙ history_cover segments (along.few segments when times opening start begins c h l d by) opening home h follow tree naming step.of next on.sector
        (along.in_use segments when times opening start begins c h l d by on.naming of_then birth part on.sector lies_then))
        ∙ used

  -- ---- a removal

  module _ (home : ℕ → LockId) (server durable : ℕ) (follow : (h : List Item) → Legal (sector_plan segments when) opening h → Distinct MayTake start h → Each IsByPlan h → CoversFollow segments opening home h) where
    module _ (other number : ℕ) (far : other ≢ server) (birth part sector : ℕ) (k : LockId) where
      -- where a sector is in doubt for another server, nothing that is removed had alone the lock that covers it afterwards
      abbrev IsApart : List Item → Type 0
      IsApart h = Legal (sector_plan segments when) opening (removing.stays home server durable h) → Distinct MayTake start (removing.stays home server durable h) →
          Each IsByPlan (removing.stays home server durable h) → in_doubt other number h sector ≡ true → LiesOn birth part sector (removing.stays home server durable h) →
          seen.cover_of home (removing.stays home server durable h) sector ≡ k → removing.Apart home server durable k h

      module _ (c : Commit) (h : List Item) (rises : OpsRise (Done c ∷ h)) (unmet : Unmet server durable (Done c ∷ h)) (g : AllGuarded home (Done c ∷ h)) (a : AllSee home (Done c ∷ h))
          (before : IsApart h) (doubt : in_doubt other number (Done c ∷ h) sector ≡ true) where
        -- the lock is one that the operation uses, if it moved the sector there
        moved_used : (new : LockId) → c.moves sector ≡ Some new → new ≡ k → has_lock k c.uses ≡ true
        moved_used new is same = g.0.uses k (subst (λ x. has_lock x c.alone ≡ true) same (g.0.to sector new is))

        stays_apart : survives server durable c ≡ true → Legal (sector_plan segments when) opening (Done c ∷ removing.stays home server durable h) →
            Distinct MayTake start (Done c ∷ removing.stays home server durable h) → Each IsByPlan (Done c ∷ removing.stays home server durable h) →
            LiesOn birth part sector (Done c ∷ removing.stays home server durable h) →
            seen.moved (c.moves sector) (seen.cover_of home (removing.stays home server durable h) sector) ≡ k → removing.Apart home server durable k (Done c ∷ h)
        stays_apart there l d by on e = ((λ x y. not_lost home server durable c there x), by_move (c.moves sector) refl e)
          where
            by_use : has_lock k c.uses ≡ true → removing.Apart home server durable k h
            by_use used = apart_before home server durable c h rises unmet there k used

            by_write : seen.cover_of home (removing.stays home server durable h) sector ≡ k → (w : Bool) → is_some (c.writes sector) ≡ w → removing.Apart home server durable k h
            by_write e true is =
                by_use (subst (λ x. has_lock x c.uses ≡ true) e
                (writer_uses c (removing.stays home server durable h) l d by.0 birth part sector on home (follow (removing.stays home server durable h) l.1 d.2 by.1) is))
            by_write e false is =
                before l.1 d.2 by.1
                (of_older (c.sees sector) (nat_eq c.by other) (nat_lt number c.op) (in_doubt other number h sector)
                (sym (ap (λ w. doubt_step w (c.sees sector) (nat_eq c.by other) (nat_lt number c.op) (in_doubt other number h sector)) is) ∙ doubt))
                (lies_before c (removing.stays home server durable h) l d by.0 birth part sector on is) e

            by_move : (o : Option LockId) → c.moves sector ≡ o → seen.moved o (seen.cover_of home (removing.stays home server durable h) sector) ≡ k → removing.Apart home server durable k h
            by_move None is e = by_write e (is_some (c.writes sector)) refl
            by_move (Some new) is e = by_use (moved_used new is e)

        goes_apart : survives server durable c ≡ false → Legal (sector_plan segments when) opening (removing.stays home server durable h) →
            Distinct MayTake start (removing.stays home server durable h) → Each IsByPlan (removing.stays home server durable h) →
            LiesOn birth part sector (removing.stays home server durable h) → seen.cover_of home (removing.stays home server durable h) sector ≡ k →
            removing.Apart home server durable k (Done c ∷ h)
        goes_apart goes l d by on e = by_write (is_some (c.writes sector)) refl
          where
            another : nat_eq c.by other ≡ true → ⊥
            another own = far (sym (eqb-true c.by other own) ∙ (lost home server durable c goes).of)

            here : removing.Apart home server durable k h → is_some (c.writes sector) ≡ false → IsLost server durable c → has_lock k c.alone ≡ true → ⊥
            here rest is x alone =
                let was : seen.cover_of home h sector ≡ k = cover_back home server durable k sector h g.1 rest e in
                let sees : c.sees sector ≡ true = a.0 sector (subst (λ x. has_lock x c.uses ≡ true) (sym was) (g.0.uses k alone)) in
                another (of_look (nat_eq c.by other) (nat_lt number c.op) (in_doubt other number h sector)
                (sym (ap (λ s. doubt_step false s (nat_eq c.by other) (nat_lt number c.op) (in_doubt other number h sector)) sees)
                ∙ sym (ap (λ w. doubt_step w (c.sees sector) (nat_eq c.by other) (nat_lt number c.op) (in_doubt other number h sector)) is) ∙ doubt))

            by_write : (w : Bool) → is_some (c.writes sector) ≡ w → removing.Apart home server durable k (Done c ∷ h)
            by_write true is =
                absurd (another (of_write (c.sees sector) (nat_eq c.by other) (nat_lt number c.op) (in_doubt other number h sector)
                (sym (ap (λ w. doubt_step w (c.sees sector) (nat_eq c.by other) (nat_lt number c.op) (in_doubt other number h sector)) is) ∙ doubt)))
            by_write false is =
                let rest = before l d by
                (of_older (c.sees sector) (nat_eq c.by other) (nat_lt number c.op) (in_doubt other number h sector)
                (sym (ap (λ w. doubt_step w (c.sees sector) (nat_eq c.by other) (nat_lt number c.op) (in_doubt other number h sector)) is) ∙ doubt)) on e in
                ((λ x alone. here rest is x alone), rest)

      apart_in_doubt : (h : List Item) → OpsRise h → Unmet server durable h → AllGuarded home h → AllSee home h → IsApart h
      apart_in_doubt [] rises unmet g a l d by doubt on e = tt
      apart_in_doubt (Doubt m ∷ h) rises unmet g a l d by doubt on e =
          apart_in_doubt h rises unmet g a l d by doubt (record { naming = on.naming; of = on.of; sector = on.sector; lies = on.lies; here = on.here }) e
      apart_in_doubt (Done c ∷ h) rises unmet g a l d by doubt on e = go (survives server durable c) refl (apart_in_doubt h rises.1 unmet.1 g.1 a.1) l d by on e
        where
          go : (b : Bool) → survives server durable c ≡ b → IsApart h → Legal (sector_plan segments when) opening (keep_if b (Done c) (removing.stays home server durable h)) →
              Distinct MayTake start (keep_if b (Done c) (removing.stays home server durable h)) → Each IsByPlan (keep_if b (Done c) (removing.stays home server durable h)) →
              LiesOn birth part sector (keep_if b (Done c) (removing.stays home server durable h)) →
              seen.cover_of home (keep_if b (Done c) (removing.stays home server durable h)) sector ≡ k → removing.Apart home server durable k (Done c ∷ h)
          go true is before l d by on e = stays_apart c h rises unmet g a before doubt is l d by on e
          go false is before l d by on e = goes_apart c h rises unmet g a before doubt is l d by on e

    -- ---- the part lay there before

    module _ (h : List Item) (rises : OpsRise h) (unseen : Unseen server durable h) (unmet : Unmet server durable h) (g : AllGuarded home h)
        (own : (i : ℕ) → i < 64 * segments → AllOwn home (number_of (InodeAt i)) h) (a : AllSee home h)
        (l : Legal (sector_plan segments when) opening h) (d : Distinct MayTake start h) (by : Each IsByPlan h)
        (l_left : Legal (sector_plan segments when) opening (removing.stays home server durable h)) (d_left : Distinct MayTake start (removing.stays home server durable h))
        (by_left : Each IsByPlan (removing.stays home server durable h))
        (other number : ℕ) (far : other ≢ server) (birth part sector : ℕ) (on : LiesOn birth part sector (removing.stays home server durable h))
        (doubt : in_doubt other number h sector ≡ true) where
      abbrev i : ℕ
      i = on.naming.inode birth

      abbrev tree : FileTree
      tree = shape_of (tree_of (performed_numbered when) start (removing.stays home server durable h)).tree

      as_many : tree.segments ≡ segments
      as_many = (stands_at segments when times opening start begins (removing.stays home server durable h) l_left d_left).as_many

      few : segments ≤ 64
      few = subst (λ k. k ≤ 64) as_many on.of.few

      in_use : IsInUse segments (store_after segments opening (removing.stays home server durable h)) on.sector
      in_use = file_in_use segments (logical opening (removing.stays home server durable h)) (tree_of (performed_numbered when) start (removing.stays home server durable h)).tree
          (stands_at segments when times opening start begins (removing.stays home server durable h) l_left d_left) on.sector
          (record { inode = i; node = on.lies.stored; is = on.lies.is; kind = on.lies.kind; index = part; below = on.lies.below; here = on.lies.here })

      cover_is : seen.cover_of home (removing.stays home server durable h) sector ≡ lock.Node i
      cover_is =
          ap (seen.cover_of home (removing.stays home server durable h)) on.here
          ∙ history_cover segments few opening home (removing.stays home server durable h) (follow (removing.stays home server durable h) l_left d_left by_left) tree on.naming on.of
          (store_after segments opening (removing.stays home server durable h)) on.sector in_use
          ∙ part_cover (store_after segments opening (removing.stays home server durable h)) tree on.naming on.of birth part on.sector on.lies

      apart : removing.Apart home server durable (lock.Node i) h
      apart = apart_in_doubt other number far birth part sector (lock.Node i) h rises unmet g a l_left d_left by_left doubt on cover_is

      owner : on.naming.birth i ≡ Some birth
      owner = on.of.pictures.numbered birth on.lies.there

      low : i < 64 * segments
      low = subst (λ k. i < 64 * k) as_many (on.of.inodes i (on.of.pictures.bits i ∙ ap is_some owner))

      inode_covers : seen.cover_of home (removing.stays home server durable h) (number_of (InodeAt i)) ≡ lock.Node i
      inode_covers =
          follow (removing.stays home server durable h) l_left d_left by_left tree on.naming on.of (number_of (InodeAt i)) (InodeAt i) (inode_here segments i few low) ∙ ap (inode_cover i) owner

      inode_stays : logical opening (removing.stays home server durable h) (number_of (InodeAt i)) ≡ logical opening h (number_of (InodeAt i))
      inode_stays =
          kept_logical opening (number_of (InodeAt i)) (survives server durable) h
          (each_map (λ e. IsLost server durable e → removing.Touches home server durable (number_of (InodeAt i)) e → ⊥) (λ e. Changes (number_of (InodeAt i)) e → survives server durable e ≡ true)
          (λ e none ch. survives_if home server durable e (λ x. none x (inl ch))) h
          (none_touches home server durable (lock.Node i) (number_of (InodeAt i)) h rises unseen g (own i low) apart
          (cover_back home server durable (lock.Node i) (number_of (InodeAt i)) h g apart inode_covers)))

      same_inode : (store_after segments opening h).inode i ≡ (store_after segments opening (removing.stays home server durable h)).inode i
      same_inode = ap (λ (x : Block). if nat_lt i (64 * segments) then stored_node (inode_in x) else None) (sym inode_stays)

      pub lay : LiesSized birth part sector on.lies.stored.size h
      lay =
          let n = named segments when times opening start begins h l d in
          let same : n.0.birth i ≡ Some birth =
          sym (births_stay segments when times opening start begins home few i low server durable follow h l d by g apart l_left d_left by_left n.0 on.naming n.1 on.of) ∙ owner in
          let there = n.1.pictures.whose i birth same in
          record {
            on = record {
              naming = n.0;
              of = n.1;
              sector = on.sector;
              lies = record {
                there = there.1;
                stored = on.lies.stored;
                is = ap (store_after segments opening h).inode there.0 ∙ same_inode ∙ on.lies.is;
                kind = on.lies.kind;
                below = on.lies.below;
                here = on.lies.here;
              };
              here = on.here;
            };
            same = refl;
          }
