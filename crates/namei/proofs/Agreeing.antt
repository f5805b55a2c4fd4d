-- A walk through links over sectors of a disk leads where the tree's walk does.
use Rattle.std.proofs.Common.{◌≡◌, ℕ, Bool, Option, Some, None, Result, Ok, Err, IfOk, List, refl, sym, ap, subst, ◌∙◌}
use Rattle.frang_base.specs.declared.reply.Reply.{Reply}
use Rattle.frang_base.specs.declared.reply.Reply.TheVariants as reply
use Rattle.frang_base.specs.declared.sector.Sector.{Sector as CodeSector}
use Rattle.tree_definitions.specs.Place.{place}
use Rattle.tree_definitions.specs.Resolve.{WalkEnd, At, Refused}
use Rattle.tree_definitions.specs.Resolve as trees
use Rattle.tree_definitions.specs.Tree.{FileTree}
use Rattle.disk_definitions.specs.Store.{Store, store_of}
use Rattle.disk_definitions.specs.Naming.{Naming}
use Rattle.disk_definitions.specs.Held.{Segments}
use Rattle.disk_definitions.specs.Ask.{Sector, run, looks, meet, number_of}
use Rattle.disk_definitions.specs.Written.{Cached, at_hand}
use Rattle.disk_definitions.specs.Meets.{IsOfTree}
use Rattle.disk_definitions.specs.Missing.{first_missing, unless_missing}
use Rattle.plan_laws.proofs.Deciding.{meets_where}
use Rattle.line_laws.proofs.OfDisk.{of_tree}
use Rattle.line_laws.proofs.AtHand.{agrees}
use Rattle.disk_definitions.specs.Resolving.{resolve}
use Rattle.line_laws.specs.Places.{IsPlaceOf, IsRefusal, EndsAtAPlace}
use Rattle.line_laws.specs.Resolutions.{end_by, resolution_by}
use Rattle.line_laws.proofs.Inside.{resolve_inside}
use Rattle.line_laws.proofs.Links.{resolutions_lead}
use Rattle.line_laws.proofs.Ways.{resolved_places}
use Rattle.dir_lookup.specs.Reading.{reading, numbered}
use Rattle.namei.specs.declared.resolving.Resolved.{Resolved}
use Rattle.namei.specs.declared.resolving.Resolved.TheVariants as resolved
use Rattle.namei.specs.Resolutions.{end_as, resolved_as}
use Rattle.namei.specs.Resolves.{Resolves, ResolvesOverDisks}

module _ (tree : FileTree) (n : Naming) where
  -- a sector is missing
  needs : (end : WalkEnd) (x : Sector) → Resolves tree end (Some x) (resolved.Need (record { 0 = number_of x }))
  needs end x = record {
    need = λ sector. (λ e. let z : record { 0 = number_of x } ≡ sector = cc in ap (λ (t : CodeSector). Some t.0) z, λ e. let z : number_of x ≡ sector.0 = cc in ap (λ k. resolved.Need (record { 0 = k })) z);
    at = λ path. (λ e. absurd (cc), λ h. let z : Some x ≡ None = h.0 in absurd (cc));
    no_ent = (λ e. absurd (cc), λ h. let z : Some x ≡ None = h.0 in absurd (cc));
    not_dir = (λ e. absurd (cc), λ h. let z : Some x ≡ None = h.0 in absurd (cc));
    loop = (λ e. absurd (cc), λ h. let z : Some x ≡ None = h.0 in absurd (cc));
    placed = λ path e. absurd (cc);
  }

  -- the walk leads to a path
  leads : (path : List (List ℕ)) (found : Option ℕ) → IsPlaceOf found (place tree path) → Resolves tree (At path found) None (resolved.At path)
  leads path found is = record {
    need = λ sector. (λ e. absurd (cc), λ e. absurd (cc));
    at = λ way. (λ e. let z : path ≡ way = cc in (refl, z), λ h. ap resolved.At h.1);
    no_ent = (λ e. absurd (cc), λ h. let z : At path found ≡ Refused reply.NoEnt = h.1 in absurd (cc));
    not_dir = (λ e. absurd (cc), λ h. let z : At path found ≡ Refused reply.NotDir = h.1 in absurd (cc));
    loop = (λ e. absurd (cc), λ h. let z : At path found ≡ Refused reply.Loop = h.1 in absurd (cc));
    placed = λ way e. let z : path ≡ way = cc in (found, subst (λ p. IsPlaceOf found (place tree p)) z is);
  }

  -- it is refused
  refuses : (r : Reply) → IsRefusal r → Resolves tree (Refused r) None (end_as (end_by n (Refused r)))
  refuses reply.NoEnt h = record {
    need = λ sector. (λ e. absurd (cc), λ e. absurd (cc));
    at = λ way. (λ e. absurd (cc), λ h. absurd h.1);
    no_ent = (λ e. (refl, refl), λ h. refl);
    not_dir = (λ e. absurd (cc), λ h. let z : Refused reply.NoEnt ≡ Refused reply.NotDir = h.1 in absurd (cc));
    loop = (λ e. absurd (cc), λ h. let z : Refused reply.NoEnt ≡ Refused reply.Loop = h.1 in absurd (cc));
    placed = λ way e. absurd (cc);
  }
  refuses reply.NotDir h = record {
    need = λ sector. (λ e. absurd (cc), λ e. absurd (cc));
    at = λ way. (λ e. absurd (cc), λ h. absurd h.1);
    no_ent = (λ e. absurd (cc), λ h. let z : Refused reply.NotDir ≡ Refused reply.NoEnt = h.1 in absurd (cc));
    not_dir = (λ e. (refl, refl), λ h. refl);
    loop = (λ e. absurd (cc), λ h. let z : Refused reply.NotDir ≡ Refused reply.Loop = h.1 in absurd (cc));
    placed = λ way e. absurd (cc);
  }
  refuses reply.Loop h = record {
    need = λ sector. (λ e. absurd (cc), λ e. absurd (cc));
    at = λ way. (λ e. absurd (cc), λ h. absurd h.1);
    no_ent = (λ e. absurd (cc), λ h. let z : Refused reply.Loop ≡ Refused reply.NoEnt = h.1 in absurd (cc));
    not_dir = (λ e. absurd (cc), λ h. let z : Refused reply.Loop ≡ Refused reply.NotDir = h.1 in absurd (cc));
    loop = (λ e. (refl, refl), λ h. refl);
    placed = λ way e. absurd (cc);
  }
  refuses _ h = absurd h

  ends : (end : WalkEnd) → EndsAtAPlace tree end → Resolves tree end None (end_as (end_by n end))
  ends (At path found) is = leads path found is
  ends (Refused r) is = refuses r is

  by_missing : (walk : trees.Resolution) → EndsAtAPlace tree walk.end → (missing : Option Sector) → Resolves tree walk.end missing (resolved_as (numbered (unless_missing missing (resolution_by n walk))))
  by_missing walk is None = ends walk.end is
  by_missing walk is (Some x) = needs walk.end x

resolves_over : (last : Bool) (path : List (List ℕ)) (cached : Cached) (answer : Resolved) → ((held : Segments) → answer ≡ resolved_as (reading (resolve last path) cached held)) → ResolvesOverDisks last path cached answer
resolves_over last path cached answer is held all disk tree of below =
    let s : Store = store_of tree.segments disk in
    let n : Naming = below.stands.naming in
    let tree_is : IsOfTree s tree n = of_tree disk tree below in
    let walk : trees.Resolution = trees.resolve tree last path in
    let missing : Option Sector = first_missing (at_hand cached held) (looks (resolve last path) s) in
    let met : meet (resolve last path) (at_hand cached held) ≡ unless_missing missing (run (resolve last path) s) =
    meets_where (resolve last path) (at_hand cached held) s (agrees cached held tree.segments disk of.as_cached below.whole (looks (resolve last path) s) (resolve_inside s tree n tree_is last path)) in
    subst (Resolves tree walk.end missing) (sym (is held ∙ ap (λ m. resolved_as (numbered m)) (met ∙ ap (unless_missing missing) (resolutions_lead s tree n last path tree_is))))
    (by_missing tree n walk (resolved_places tree last path) missing)

-- of an answer, if memory is not short
pub answers_over : {E : Type 0} (last : Bool) (path : List (List ℕ)) (cached : Cached) (result : Result Resolved E) → ((held : Segments) → IfOk result (λ r. r ≡ resolved_as (reading (resolve last path) cached held))) → IfOk result (ResolvesOverDisks last path cached)
answers_over last path cached (Ok answer) is = resolves_over last path cached answer is
answers_over last path cached (Err e) is = tt
