-- How a walk goes on from a name, as the definition says.
use Rattle.std.proofs.Common.{ℕ, zero, suc, ◌≡◌, ◌-◌, ◌<◌, Bool, true, false, cond, Option, Some, None, Result, Ok, Err, List, [], ◌∷◌, ◌++◌, refl, sym, ◌∙◌, ap, arith, append_assoc, sub-one}
use Rattle.frang_base.specs.PathText.{path_of}
use Rattle.frang_base.specs.declared.fault.PathFault.{PathFault}
use Rattle.frang_base.specs.declared.reply.Reply.{Reply}
use Rattle.frang_base.specs.declared.reply.Reply.TheVariants as reply
use Rattle.tree_definitions.specs.declared.node.Node.TheVariants.{Dir}
use Rattle.tree_definitions.specs.Entries.{Entries, entry_at}
use Rattle.tree_definitions.specs.Tree.{FileTree, node_at}
use Rattle.tree_definitions.specs.Resolve.{Resolution, ends_at, refused, passes, is_absolute, target_text, at_target, at_name, below_node, resolve_from}
use Rattle.file_tree.specs.Walks.{path_or_none, passes_all}

-- a link is followed so, with so many links left
abbrev followed : ℕ → FileTree → Bool → List (List ℕ) → ℕ → List (List ℕ) → ℕ → List ℕ → Resolution
followed zero tree last rest dir above link target = refused reply.Loop
followed (suc left) tree last rest dir above link target = passes link (at_target (resolve_from left tree last) (is_absolute target) (path_of (target_text target)) dir above rest)

-- the walk from a directory, by what its name comes to
walk_steps : (left : ℕ) (tree : FileTree) (last : Bool) (dir : ℕ) (above : List (List ℕ)) (name : List ℕ) (rest : List (List ℕ)) (entries : Entries) (blocks : ℕ) → node_at tree dir ≡ Some (Dir entries blocks)
    → resolve_from left tree last dir above (name ∷ rest)
    ≡ passes dir (at_name tree last (followed left tree last rest dir above) (λ b. resolve_from left tree last b (above ++ name ∷ []) rest) (above ++ name ∷ []) rest (entry_at entries name))
walk_steps zero tree last dir above name rest entries blocks is =
    ap (below_node tree last (followed zero tree last rest dir above) (λ b. resolve_from zero tree last b (above ++ name ∷ []) rest) (above ++ name ∷ []) dir name rest) is
walk_steps (suc left) tree last dir above name rest entries blocks is =
    ap (below_node tree last (followed (suc left) tree last rest dir above) (λ b. resolve_from (suc left) tree last b (above ++ name ∷ []) rest) (above ++ name ∷ []) dir name rest) is

-- one node more is gone through
one_more : (trail : List ℕ) (b : ℕ) (walk : Resolution) → passes_all trail (passes b walk) ≡ passes_all (trail ++ b ∷ []) walk
one_more trail b walk = ap (λ l. record { end = walk.end; trail = l }) (sym (append_assoc trail (b ∷ []) walk.trail))

-- no target leads nowhere
no_target : (next : ℕ → List (List ℕ) → List (List ℕ) → Resolution) (absolute : Bool) (way : Result (List (List ℕ)) PathFault) (dir : ℕ) (above rest : List (List ℕ)) → path_or_none way ≡ None → at_target next absolute way dir above rest ≡ refused reply.NoEnt
no_target next absolute (Err fault) dir above rest h = refl
no_target next absolute (Ok inner) dir above rest h = cc

-- a target leads on from the root, or from the directory of the link
some_target : (next : ℕ → List (List ℕ) → List (List ℕ) → Resolution) (absolute : Bool) (way : Result (List (List ℕ)) PathFault) (dir : ℕ) (above rest inner : List (List ℕ)) → path_or_none way ≡ Some inner
    → at_target next absolute way dir above rest ≡ cond absolute (next 0 [] (inner ++ rest)) (next dir above (inner ++ rest))
some_target next absolute (Err fault) dir above rest inner h = cc
some_target next true (Ok names) dir above rest inner h = let e : names ≡ inner = cc in ap (λ w. next 0 [] (w ++ rest)) e
some_target next false (Ok names) dir above rest inner h = let e : names ≡ inner = cc in ap (λ w. next dir above (w ++ rest)) e

-- what the next name comes to, whatever is done where it goes into a directory or follows a link
abbrev pub ComesTo : FileTree → Bool → List (List ℕ) → Option ℕ → ((ℕ → List ℕ → Resolution) → (ℕ → Resolution) → List (List ℕ) → Resolution) → Type 0
ComesTo tree last rest entry outcome = (follow : ℕ → List ℕ → Resolution) (into : ℕ → Resolution) (here : List (List ℕ)) → at_name tree last follow into here rest entry ≡ outcome follow into here

module _ (left : ℕ) (tree : FileTree) (last : Bool) (dir : ℕ) (above : List (List ℕ)) (name : List ℕ) (rest : List (List ℕ)) (entries : Entries) (blocks : ℕ) (is : node_at tree dir ≡ Some (Dir entries blocks)) (trail : List ℕ) where
  by_step : (outcome : (ℕ → List ℕ → Resolution) → (ℕ → Resolution) → List (List ℕ) → Resolution) → ComesTo tree last rest (entry_at entries name) outcome
      → passes_all trail (resolve_from left tree last dir above (name ∷ rest)) ≡ passes_all (trail ++ dir ∷ []) (outcome (followed left tree last rest dir above) (λ b. resolve_from left tree last b (above ++ name ∷ []) rest) (above ++ name ∷ []))
  by_step outcome comes =
      ap (passes_all trail) (walk_steps left tree last dir above name rest entries blocks is)
      ∙ one_more trail dir (at_name tree last (followed left tree last rest dir above) (λ b. resolve_from left tree last b (above ++ name ∷ []) rest) (above ++ name ∷ []) rest (entry_at entries name))
      ∙ ap (passes_all (trail ++ dir ∷ [])) (comes (followed left tree last rest dir above) (λ b. resolve_from left tree last b (above ++ name ∷ []) rest) (above ++ name ∷ []))

  pub step_ends : (found : Option ℕ) → ComesTo tree last rest (entry_at entries name) (λ follow into h. ends_at h found) → passes_all trail (resolve_from left tree last dir above (name ∷ rest)) ≡ passes_all (trail ++ dir ∷ []) (ends_at (above ++ name ∷ []) found)
  step_ends found comes = by_step (λ follow into h. ends_at h found) comes

  pub step_stays : (r : Reply) → ComesTo tree last rest (entry_at entries name) (λ follow into h. refused r) → passes_all trail (resolve_from left tree last dir above (name ∷ rest)) ≡ passes_all (trail ++ dir ∷ []) (refused r)
  step_stays r comes = by_step (λ follow into h. refused r) comes

  pub step_into : (b : ℕ) → ComesTo tree last rest (entry_at entries name) (λ follow into h. into b) → passes_all trail (resolve_from left tree last dir above (name ∷ rest)) ≡ passes_all (trail ++ dir ∷ []) (resolve_from left tree last b (above ++ name ∷ []) rest)
  step_into b comes = by_step (λ follow into h. into b) comes

  pub step_follows : (link : ℕ) (target : List ℕ) → ComesTo tree last rest (entry_at entries name) (λ follow into h. follow link target) → passes_all trail (resolve_from left tree last dir above (name ∷ rest)) ≡ passes_all (trail ++ dir ∷ []) (followed left tree last rest dir above link target)
  step_follows link target comes = by_step (λ follow into h. follow link target) comes

-- where links are left, one is followed with one fewer
on_link : (left : ℕ) (tree : FileTree) (last : Bool) (rest : List (List ℕ)) (dir : ℕ) (above : List (List ℕ)) (link : ℕ) (target : List ℕ) → 0 < left
    → followed left tree last rest dir above link target ≡ passes link (at_target (resolve_from (left - 1) tree last) (is_absolute target) (path_of (target_text target)) dir above rest)
on_link zero tree last rest dir above link target h = absurd (omega arith)
on_link (suc left) tree last rest dir above link target h = rw sub-one refl

module _ (left : ℕ) (tree : FileTree) (last : Bool) (dir : ℕ) (above : List (List ℕ)) (name : List ℕ) (rest : List (List ℕ)) (entries : Entries) (blocks : ℕ) (is : node_at tree dir ≡ Some (Dir entries blocks)) (trail : List ℕ)
    (link : ℕ) (target : List ℕ) (comes : ComesTo tree last rest (entry_at entries name) (λ follow into h. follow link target)) where
  pub step_loops : left ≡ 0 → passes_all trail (resolve_from left tree last dir above (name ∷ rest)) ≡ passes_all (trail ++ dir ∷ []) (refused reply.Loop)
  step_loops none = step_follows left tree last dir above name rest entries blocks is trail link target comes ∙ ap (λ n. passes_all (trail ++ dir ∷ []) (followed n tree last rest dir above link target)) none

  follows_on : 0 < left → passes_all trail (resolve_from left tree last dir above (name ∷ rest)) ≡ passes_all ((trail ++ dir ∷ []) ++ link ∷ []) (at_target (resolve_from (left - 1) tree last) (is_absolute target) (path_of (target_text target)) dir above rest)
  follows_on some =
      step_follows left tree last dir above name rest entries blocks is trail link target comes
      ∙ ap (passes_all (trail ++ dir ∷ [])) (on_link left tree last rest dir above link target some)
      ∙ one_more (trail ++ dir ∷ []) link (at_target (resolve_from (left - 1) tree last) (is_absolute target) (path_of (target_text target)) dir above rest)

  pub step_no_path : 0 < left → path_or_none (path_of (target_text target)) ≡ None → passes_all trail (resolve_from left tree last dir above (name ∷ rest)) ≡ passes_all ((trail ++ dir ∷ []) ++ link ∷ []) (refused reply.NoEnt)
  step_no_path some none = follows_on some ∙ ap (passes_all ((trail ++ dir ∷ []) ++ link ∷ [])) (no_target (resolve_from (left - 1) tree last) (is_absolute target) (path_of (target_text target)) dir above rest none)

  step_target : (inner : List (List ℕ)) → 0 < left → path_or_none (path_of (target_text target)) ≡ Some inner
      → passes_all trail (resolve_from left tree last dir above (name ∷ rest)) ≡ passes_all ((trail ++ dir ∷ []) ++ link ∷ []) (cond (is_absolute target) (resolve_from (left - 1) tree last 0 [] (inner ++ rest)) (resolve_from (left - 1) tree last dir above (inner ++ rest)))
  step_target inner some way = follows_on some ∙ ap (passes_all ((trail ++ dir ∷ []) ++ link ∷ [])) (some_target (resolve_from (left - 1) tree last) (is_absolute target) (path_of (target_text target)) dir above rest inner way)

  pub step_from_root : (inner : List (List ℕ)) → 0 < left → path_or_none (path_of (target_text target)) ≡ Some inner → is_absolute target ≡ true
      → passes_all trail (resolve_from left tree last dir above (name ∷ rest)) ≡ passes_all ((trail ++ dir ∷ []) ++ link ∷ []) (resolve_from (left - 1) tree last 0 [] (inner ++ rest))
  step_from_root inner some way absolute = step_target inner some way ∙ ap (λ a. passes_all ((trail ++ dir ∷ []) ++ link ∷ []) (cond a (resolve_from (left - 1) tree last 0 [] (inner ++ rest)) (resolve_from (left - 1) tree last dir above (inner ++ rest)))) absolute

  pub step_from_here : (inner : List (List ℕ)) → 0 < left → path_or_none (path_of (target_text target)) ≡ Some inner → is_absolute target ≡ false
      → passes_all trail (resolve_from left tree last dir above (name ∷ rest)) ≡ passes_all ((trail ++ dir ∷ []) ++ link ∷ []) (resolve_from (left - 1) tree last dir above (inner ++ rest))
  step_from_here inner some way relative = step_target inner some way ∙ ap (λ a. passes_all ((trail ++ dir ∷ []) ++ link ∷ []) (cond a (resolve_from (left - 1) tree last 0 [] (inner ++ rest)) (resolve_from (left - 1) tree last dir above (inner ++ rest)))) relative
