-- How a walk of the code returns, as the definition says: from a name of a directory, whose own birth was pushed onto the trail.
use Rattle.std.proofs.Common.{ℕ, zero, suc, refl, Result, Ok, Err, IfOk, ◌≡◌, ◌-◌, ◌<◌, Bool, true, false, Option, Some, None, List, [], ◌∷◌, ◌++◌, length, arith, sym, ◌∙◌, ap, append-nil}
use Rattle.frang_base.specs.PathText.{path_of}
use Rattle.frang_base.specs.declared.limits.TheConstants.{LINKS_FOLLOWED_MAX}
use Rattle.frang_base.specs.declared.reply.Reply.{Reply}
use Rattle.frang_base.specs.declared.reply.Reply.TheVariants as reply
use Rattle.tree_definitions.specs.declared.node.Node.TheVariants.{Dir}
use Rattle.tree_definitions.specs.Entries.{Entries, entry_at}
use Rattle.tree_definitions.specs.Tree.{FileTree, node_at}
use Rattle.tree_definitions.specs.Resolve.{WalkEnd as TheEnd, At as LeadsTo, Refused as IsRefused, Resolution, ends_at, refused, is_absolute, target_text, resolve_from, resolve}
use Rattle.file_tree.specs.declared.resolve.WalkEnd.{WalkEnd}
use Rattle.file_tree.specs.Walks.{end_of, path_or_none, passes_all, went}
use Rattle.file_tree.proofs.Walking.{ComesTo, step_ends, step_stays, step_into, step_loops, step_no_path, step_from_root, step_from_here}

-- a walk that ends here adds nothing to the trail
ends_here : (end : TheEnd) (trail : List ℕ) → record { end = end; trail = trail } ≡ passes_all trail (record { end = end; trail = [] })
ends_here end trail = ap (λ l. record { end = end; trail = l }) (sym (append-nil trail))

-- where no name is left the walk is at its end
none_left : (left : ℕ) (tree : FileTree) (last : Bool) (dir : ℕ) (above : List (List ℕ)) → ends_at above (Some dir) ≡ resolve_from left tree last dir above []
none_left zero tree last dir above = refl
none_left (suc left) tree last dir above = refl

pub at_end : {E : Type 0} (left : ℕ) (tree : FileTree) (last : Bool) (dir : ℕ) (above names : List (List ℕ)) (trail : List ℕ) (r : Result WalkEnd E) → length names ≡ 0 → IfOk r (λ end. end_of end ≡ LeadsTo above (Some dir))
    → IfOk r (λ end. went end trail ≡ passes_all trail (resolve_from left tree last dir above names))
at_end left tree last dir above (name ∷ names) trail r none is = absurd (omega arith)
at_end left tree last dir above [] trail (Err e) none is = tt
at_end left tree last dir above [] trail (Ok end) none is =
    ap (λ e. record { end = e; trail = trail }) is
    ∙ ends_here (LeadsTo above (Some dir)) trail
    ∙ ap (passes_all trail) (none_left left tree last dir above)

module _ (left : ℕ) (tree : FileTree) (last : Bool) (dir : ℕ) (above : List (List ℕ)) (names : List (List ℕ)) (name : List ℕ) (rest : List (List ℕ)) (entries : Entries) (blocks : ℕ)
    (split : names ≡ name ∷ rest) (is : node_at tree dir ≡ Some (Dir entries blocks)) (trail new : List ℕ) (pushed : new ≡ trail ++ dir ∷ []) where
  from_names : (w : Resolution) → passes_all trail (resolve_from left tree last dir above (name ∷ rest)) ≡ w → w ≡ passes_all trail (resolve_from left tree last dir above names)
  from_names w h = sym (ap (λ ns. passes_all trail (resolve_from left tree last dir above ns)) split ∙ h)

  pub ends : (found : Option ℕ) (here : List (List ℕ)) → here ≡ above ++ name ∷ [] → ComesTo tree last rest (entry_at entries name) (λ follow into h. ends_at h found)
      → record { end = LeadsTo here found; trail = new } ≡ passes_all trail (resolve_from left tree last dir above names)
  ends found here same comes =
      ap (λ h. record { end = LeadsTo h found; trail = new }) same
      ∙ ends_here (LeadsTo (above ++ name ∷ []) found) new
      ∙ ap (λ l. passes_all l (ends_at (above ++ name ∷ []) found)) pushed
      ∙ from_names _ (step_ends left tree last dir above name rest entries blocks is trail found comes)

  pub stays : (r : Reply) → ComesTo tree last rest (entry_at entries name) (λ follow into h. refused r)
      → record { end = IsRefused r; trail = new } ≡ passes_all trail (resolve_from left tree last dir above names)
  stays r comes =
      ends_here (IsRefused r) new
      ∙ ap (λ l. passes_all l (refused r)) pushed
      ∙ from_names _ (step_stays left tree last dir above name rest entries blocks is trail r comes)

  pub into : (b : ℕ) (here : List (List ℕ)) → here ≡ above ++ name ∷ [] → ComesTo tree last rest (entry_at entries name) (λ follow into h. into b)
      → passes_all new (resolve_from left tree last b here rest) ≡ passes_all trail (resolve_from left tree last dir above names)
  into b here same comes =
      ap (λ l. passes_all l (resolve_from left tree last b here rest)) pushed
      ∙ ap (λ h. passes_all (trail ++ dir ∷ []) (resolve_from left tree last b h rest)) same
      ∙ from_names _ (step_into left tree last dir above name rest entries blocks is trail b comes)

  module _ (link : ℕ) (target : List ℕ) (comes : ComesTo tree last rest (entry_at entries name) (λ follow into h. follow link target)) where
    pub loops : left ≡ 0 → record { end = IsRefused reply.Loop; trail = new } ≡ passes_all trail (resolve_from left tree last dir above names)
    loops none =
        ends_here (IsRefused reply.Loop) new
        ∙ ap (λ l. passes_all l (refused reply.Loop)) pushed
        ∙ from_names _ (step_loops left tree last dir above name rest entries blocks is trail link target comes none)

    module _ (longer : List ℕ) (through : longer ≡ new ++ link ∷ []) (some : 0 < left) where
      both : longer ≡ (trail ++ dir ∷ []) ++ link ∷ []
      both = through ∙ ap (λ l. l ++ link ∷ []) pushed

      pub no_path : path_or_none (path_of (target_text target)) ≡ None → record { end = IsRefused reply.NoEnt; trail = longer } ≡ passes_all trail (resolve_from left tree last dir above names)
      no_path none =
          ends_here (IsRefused reply.NoEnt) longer
          ∙ ap (λ l. passes_all l (refused reply.NoEnt)) both
          ∙ from_names _ (step_no_path left tree last dir above name rest entries blocks is trail link target comes some none)

      pub from_root : (inner way root : List (List ℕ)) → path_or_none (path_of (target_text target)) ≡ Some inner → way ≡ inner ++ rest → root ≡ [] → is_absolute target ≡ true
          → passes_all longer (resolve_from (left - 1) tree last 0 root way) ≡ passes_all trail (resolve_from left tree last dir above names)
      from_root inner way root leads same top absolute =
          ap (λ l. passes_all l (resolve_from (left - 1) tree last 0 root way)) both
          ∙ ap (λ w. passes_all ((trail ++ dir ∷ []) ++ link ∷ []) (resolve_from (left - 1) tree last 0 root w)) same
          ∙ ap (λ r. passes_all ((trail ++ dir ∷ []) ++ link ∷ []) (resolve_from (left - 1) tree last 0 r (inner ++ rest))) top
          ∙ from_names _ (step_from_root left tree last dir above name rest entries blocks is trail link target comes inner some leads absolute)

      pub from_here : (inner way : List (List ℕ)) → path_or_none (path_of (target_text target)) ≡ Some inner → way ≡ inner ++ rest → is_absolute target ≡ false
          → passes_all longer (resolve_from (left - 1) tree last dir above way) ≡ passes_all trail (resolve_from left tree last dir above names)
      from_here inner way leads same relative =
          ap (λ l. passes_all l (resolve_from (left - 1) tree last dir above way)) both
          ∙ ap (λ w. passes_all ((trail ++ dir ∷ []) ++ link ∷ []) (resolve_from (left - 1) tree last dir above w)) same
          ∙ from_names _ (step_from_here left tree last dir above name rest entries blocks is trail link target comes inner some leads relative)

from_links : (n : ℕ) (tree : FileTree) (last : Bool) (root path : List (List ℕ)) (before : List ℕ) (walk : Resolution) → before ≡ [] → root ≡ [] → walk ≡ passes_all before (resolve_from n tree last 0 root path) → walk ≡ resolve_from n tree last 0 [] path
from_links n tree last root path before walk none top h =
    h ∙ ap (λ l. passes_all l (resolve_from n tree last 0 root path)) none ∙ ap (λ r. resolve_from n tree last 0 r path) top

-- a walk from the root with an empty trail is the walk of its path
pub from_start : (tree : FileTree) (last : Bool) (root path : List (List ℕ)) (before : List ℕ) (end : WalkEnd) (trail : List ℕ) → before ≡ [] → root ≡ []
    → went end trail ≡ passes_all before (resolve_from LINKS_FOLLOWED_MAX tree last 0 root path) → went end trail ≡ resolve tree last path
unfolding resolve
from_start tree last root path before end trail none top h = from_links LINKS_FOLLOWED_MAX tree last root path before (went end trail) none top h
