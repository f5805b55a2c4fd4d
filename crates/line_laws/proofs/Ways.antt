-- A walk through links leads to a path whose place is what was found.
use Rattle.std.proofs.Common.{◌≡◌, ℕ, zero, suc, Bool, true, false, if◌then◌else◌, Option, Some, None, Result, Ok, Err, List, [], ◌∷◌, ◌++◌, refl, ◌∙◌, ap}
use Rattle.std.proofs.lemmas.List.{append_assoc}
use Rattle.frang_base.specs.PathText.{path_of}
use Rattle.frang_base.specs.declared.fault.PathFault.{PathFault}
use Rattle.frang_base.specs.declared.limits.TheConstants.{LINKS_FOLLOWED_MAX}
use Rattle.frang_base.specs.declared.reply.Reply.TheVariants as reply
use Rattle.tree_definitions.specs.declared.node.Node.{Node}
use Rattle.tree_definitions.specs.declared.node.Node.TheVariants.{Dir, File, Link}
use Rattle.tree_definitions.specs.Entries.{Entries, entry_at}
use Rattle.tree_definitions.specs.Place.{place_by, place_in, below, place_from, place}
use Rattle.tree_definitions.specs.Resolve.{Resolution, ends_at, refused, is_absolute, target_text, at_target, at_entry, at_name, below_node, resolve_names, resolve_from, resolve}
use Rattle.tree_definitions.specs.Tree.{FileTree, node_at}
use Rattle.line_laws.specs.Places.{IsPlaceOf, EndsAtAPlace, ResolvedPathsArePlaces}
use Rattle.line_laws.proofs.Names.{TreeFollow}
use Rattle.line_laws.proofs.Links.{tree_follow_in}

module _ (tree : FileTree) where
  -- a path without links leads to a directory
  record IsWay (above : List (List ℕ)) (dir : ℕ) : Type 0 where
    here : IsPlaceOf (Some dir) (place tree above)
    on : (name : List ℕ) (names : List (List ℕ)) → place_from tree 0 (above ++ name ∷ names) ≡ place_from tree dir (name ∷ names)

  root_way : IsWay [] 0
  root_way = record { here = refl; on = λ name names. refl }

  abbrev Ends : Resolution → Type 0
  Ends walk = EndsAtAPlace tree walk.end

  -- a name of a directory, by its entry
  module _ (above : List (List ℕ)) (dir blocks : ℕ) (entries : Entries) (name : List ℕ) (way : IsWay above dir) (is : node_at tree dir ≡ Some (Dir entries blocks)) (o : Option ℕ) (at : entry_at entries name ≡ o) where
    place_is : place_in (node_at tree dir) dir name ≡ place_by dir entries blocks name o
    place_is = ap (λ node. place_in node dir name) is ∙ ap (place_by dir entries blocks name) at

    name_place : place tree (above ++ name ∷ []) ≡ place_by dir entries blocks name o
    name_place = way.on name [] ∙ place_is

  gap_is : (above : List (List ℕ)) (dir blocks : ℕ) (entries : Entries) (name : List ℕ) → IsWay above dir → node_at tree dir ≡ Some (Dir entries blocks) → entry_at entries name ≡ None → IsPlaceOf None (place tree (above ++ name ∷ []))
  gap_is above dir blocks entries name way is at = rw (name_place above dir blocks entries name way is None at) tt

  name_is : (above : List (List ℕ)) (dir blocks : ℕ) (entries : Entries) (name : List ℕ) (b : ℕ) → IsWay above dir → node_at tree dir ≡ Some (Dir entries blocks) → entry_at entries name ≡ Some b → IsPlaceOf (Some b) (place tree (above ++ name ∷ []))
  name_is above dir blocks entries name b way is at = rw (name_place above dir blocks entries name way is (Some b) at) refl

  longer_way : (above : List (List ℕ)) (dir blocks : ℕ) (entries : Entries) (name : List ℕ) (b : ℕ) → IsWay above dir → node_at tree dir ≡ Some (Dir entries blocks) → entry_at entries name ≡ Some b → IsWay (above ++ name ∷ []) b
  longer_way above dir blocks entries name b way is at = record {
    here = name_is above dir blocks entries name b way is at;
    on = λ next names. ap (place_from tree 0) (append_assoc above (name ∷ []) (next ∷ names)) ∙ way.on name (next ∷ names)
        ∙ ap (λ p. below p (λ c. place_from tree c (next ∷ names))) (place_is above dir blocks entries name way is (Some b) at);
  }

  module _ (last : Bool) (f : TreeFollow) (each : (link : ℕ) (target : List ℕ) (dir : ℕ) (above names : List (List ℕ)) → IsWay above dir → Ends (f link target dir above names)) where
    entry_ends : (dir : ℕ) (above here names : List (List ℕ)) (b : ℕ) (into : Resolution) → IsWay above dir → IsPlaceOf (Some b) (place tree here) → Ends into → (o : Option Node) → Ends (at_entry last (λ target. f b target dir above names) into here b names o)
    entry_ends dir above here [] b into way is on (Some (Link target links)) = by_last last
      where
        by_last : (c : Bool) → Ends (if c then f b target dir above [] else ends_at here (Some b))
        by_last true = each b target dir above [] way
        by_last false = is
    entry_ends dir above here [] b into way is on (Some (Dir entries blocks)) = is
    entry_ends dir above here [] b into way is on (Some (File cells links when)) = is
    entry_ends dir above here [] b into way is on None = is
    entry_ends dir above here (x ∷ xs) b into way is on (Some (Link target links)) = each b target dir above (x ∷ xs) way
    entry_ends dir above here (x ∷ xs) b into way is on (Some (Dir entries blocks)) = on
    entry_ends dir above here (x ∷ xs) b into way is on (Some (File cells links when)) = tt
    entry_ends dir above here (x ∷ xs) b into way is on None = tt

    found_ends : (dir blocks : ℕ) (entries : Entries) (name : List ℕ) (above names : List (List ℕ)) (into : ℕ → Resolution) → IsWay above dir → node_at tree dir ≡ Some (Dir entries blocks) → ((b : ℕ) → IsWay (above ++ name ∷ []) b → Ends (into b)) →
        (o : Option ℕ) → entry_at entries name ≡ o → Ends (at_name tree last (λ link target. f link target dir above names) into (above ++ name ∷ []) names o)
    found_ends dir blocks entries name above names into way is on (Some b) at =
        entry_ends dir above (above ++ name ∷ []) names b (into b) way (name_is above dir blocks entries name b way is at) (on b (longer_way above dir blocks entries name b way is at)) (node_at tree b)
    found_ends dir blocks entries name above [] into way is on None at = gap_is above dir blocks entries name way is at
    found_ends dir blocks entries name above (x ∷ xs) into way is on None at = tt

    node_ends : (dir : ℕ) (name : List ℕ) (above names : List (List ℕ)) (into : ℕ → Resolution) → IsWay above dir → ((b : ℕ) → IsWay (above ++ name ∷ []) b → Ends (into b)) →
        (o : Option Node) → node_at tree dir ≡ o → Ends (below_node tree last (λ link target. f link target dir above names) into (above ++ name ∷ []) dir name names o)
    node_ends dir name above names into way on (Some (Dir entries blocks)) is = found_ends dir blocks entries name above names into way is on (entry_at entries name) refl
    node_ends dir name above names into way on (Some (File cells links when)) is = tt
    node_ends dir name above names into way on (Some (Link target links)) is = tt
    node_ends dir name above names into way on None is = tt

    names_end : (names : List (List ℕ)) (dir : ℕ) (above : List (List ℕ)) → IsWay above dir → Ends (resolve_names tree last f dir above names)
    names_end [] dir above way = way.here
    names_end (name ∷ names) dir above way =
        node_ends dir name above names (λ b. resolve_names tree last f b (above ++ name ∷ []) names) way (λ b longer. names_end names b (above ++ name ∷ []) longer) (node_at tree dir) refl

  target_ends : (next : ℕ → List (List ℕ) → List (List ℕ) → Resolution) → ((names : List (List ℕ)) (dir : ℕ) (above : List (List ℕ)) → IsWay above dir → Ends (next dir above names)) →
      (absolute : Bool) (target : Result (List (List ℕ)) PathFault) (dir : ℕ) (above names : List (List ℕ)) → IsWay above dir → Ends (at_target next absolute target dir above names)
  target_ends next on absolute (Err fault) dir above names way = tt
  target_ends next on true (Ok inner) dir above names way = on (inner ++ names) 0 [] root_way
  target_ends next on false (Ok inner) dir above names way = on (inner ++ names) dir above way

  from_ends : (left : ℕ) (last : Bool) (names : List (List ℕ)) (dir : ℕ) (above : List (List ℕ)) → IsWay above dir → Ends (resolve_from left tree last dir above names)
  from_ends zero last names dir above way = names_end last (λ link target holder over rest. refused reply.Loop) (λ link target d over rest way. tt) names dir above way
  from_ends (suc left) last names dir above way =
      names_end last (tree_follow_in left tree last)
      (λ link target d over rest way. target_ends (resolve_from left tree last) (from_ends left last) (is_absolute target) (path_of (target_text target)) d over rest way) names dir above way

pub resolved_places : ResolvedPathsArePlaces
unfolding resolve
resolved_places tree last path = from_ends tree LINKS_FOLLOWED_MAX last path 0 [] (root_way tree)
