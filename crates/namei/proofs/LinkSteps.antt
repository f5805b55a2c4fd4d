-- A walk through links over cached sectors, by what each name comes to, and a link that is followed by its target.
use Rattle.std.proofs.Common.{◌≡◌, ◌-◌, ◌<◌, ℕ, zero, suc, Bool, true, false, Option, Some, None, Result, Ok, Err, IfOk, List, [], ◌∷◌, ◌++◌, append-nil, refl, sym, ap, ◌∙◌, arith}
use Rattle.frang_base.specs.PathText.{path_of}
use Rattle.frang_base.specs.declared.fault.PathFault.{PathFault}
use Rattle.frang_base.specs.declared.limits.TheConstants.{LINKS_FOLLOWED_MAX}
use Rattle.frang_base.specs.declared.reply.Reply.TheVariants as reply
use Rattle.tree_definitions.specs.Resolve.{is_absolute, target_text}
use Rattle.disk_definitions.specs.Store.{StoredNode}
use Rattle.disk_definitions.specs.Held.{Segments}
use Rattle.disk_definitions.specs.Ask.{Ask, Got, ReadInode}
use Rattle.disk_definitions.specs.Written.{Cached}
use Rattle.disk_definitions.specs.Resolving.{Leads, Refused, Resolution, refused, passes, at_target, with_target, below_inode, resolve_from, resolve}
use Rattle.dir_lookup.specs.Reading.{Read, Lacks, Gives, reading, then_read}
use Rattle.dir_lookup.proofs.Searches.{goes_on}
use Rattle.namei.specs.declared.onward.Next.{Next}
use Rattle.namei.specs.declared.onward.Next.TheVariants as next
use Rattle.namei.specs.declared.targets.Way.{Way}
use Rattle.namei.specs.Walks.{after, next_as, way_as, way_from}
use Rattle.namei.proofs.NameSteps.{after_after, over, over_passes}

-- what is known of a value, and what follows
pub if_ok_then : {A E : Type 0} {P Q : A → Type 0} (r : Result A E) → IfOk r P → ((x : A) → P x → Q x) → IfOk r Q
if_ok_then (Ok x) h f = f x h
if_ok_then (Err e) h f = tt

-- the walk of a link's target, and on
abbrev pub by_target : (ℕ → List (List ℕ) → List (List ℕ) → Ask Resolution) → ℕ → List (List ℕ) → List (List ℕ) → List ℕ → Ask Resolution
by_target next dir above names target = at_target next (is_absolute target) (path_of (target_text target)) dir above names

-- a link is followed so, with so many links left
abbrev pub followed : ℕ → Bool → ℕ → List (List ℕ) → List (List ℕ) → ℕ → Ask Resolution
followed zero last dir above names link = refused reply.Loop
followed (suc left) last dir above names link = passes link (ReadInode link (with_target (by_target (resolve_from left last) dir above names)))

module _ (cached : Cached) (held : Segments) where
  abbrev pub by_next : ℕ → Bool → ℕ → List (List ℕ) → List ℕ → List (List ℕ) → Next → Read Resolution
  by_next left last dir above name rest n =
      next_as n dir (λ link. over cached held (followed left last dir above rest link)) (λ i. over cached held (resolve_from left last i (above ++ name ∷ []) rest)) (above ++ name ∷ [])

  -- what the next name comes to, whatever is done where it goes into a directory or follows a link
  abbrev pub ComesTo : Bool → ℕ → List ℕ → List (List ℕ) → Next → Type 0
  ComesTo last dir name rest n =
      (follow into : ℕ → Ask Resolution) (here : List (List ℕ)) → over cached held (ReadInode dir (below_inode last follow into here dir name rest)) ≡ next_as n dir (λ i. over cached held (follow i)) (λ i. over cached held (into i)) here

  step_is : (left : ℕ) (last : Bool) (dir : ℕ) (above : List (List ℕ)) (name : List ℕ) (rest : List (List ℕ)) (n : Next) → ComesTo last dir name rest n →
      over cached held (resolve_from left last dir above (name ∷ rest)) ≡ by_next left last dir above name rest n
  step_is zero last dir above name rest n comes = comes (followed zero last dir above rest) (λ i. resolve_from zero last i (above ++ name ∷ []) rest) (above ++ name ∷ [])
  step_is (suc left) last dir above name rest n comes = comes (followed (suc left) last dir above rest) (λ i. resolve_from (suc left) last i (above ++ name ∷ []) rest) (above ++ name ∷ [])

  -- no names are left
  pub at_end : (left : ℕ) (last : Bool) (dir : ℕ) (above names : List (List ℕ)) (trail : List ℕ) → names ≡ [] →
      Gives (record { end = Leads above (Some 2); trail = trail }) ≡ after trail (over cached held (resolve_from left last dir above names))
  at_end zero last dir above names trail none = rw none (ap (λ (t : List ℕ). Gives (record { end = Leads above (Some 2); trail = t })) (sym (append-nil trail)))
  at_end (suc left) last dir above names trail none = rw none (ap (λ (t : List ℕ). Gives (record { end = Leads above (Some 2); trail = t })) (sym (append-nil trail)))

  module _ (left : ℕ) (last : Bool) (dir : ℕ) (above names : List (List ℕ)) (name : List ℕ) (rest : List (List ℕ)) (split : names ≡ name ∷ rest) (n : Next) (comes : ComesTo last dir name rest n) where
    -- by what the name comes to
    pub goes : by_next left last dir above name rest n ≡ over cached held (resolve_from left last dir above names)
    goes = sym (ap (λ l. over cached held (resolve_from left last dir above l)) split ∙ step_is left last dir above name rest n comes)

  -- ---- targets

  -- by what is done from the root on, and from the directory of the link
  module _ (next : ℕ → List (List ℕ) → List (List ℕ) → Ask Resolution) (dir : ℕ) (above names : List (List ℕ)) where
    abbrev pub by_way : Way → Read Resolution
    by_way w = way_as w (λ names. over cached held (next 0 [] names)) (λ names. over cached held (next dir above names))

    target_step : (absolute : Bool) (target : Result (List (List ℕ)) PathFault) → over cached held (at_target next absolute target dir above names) ≡ by_way (way_from absolute target names)
    target_step absolute (Err fault) = refl
    target_step true (Ok inner) = refl
    target_step false (Ok inner) = refl

    -- by what is read of the link's inode
    abbrev read_way : Read (Option StoredNode) → Read Resolution
    read_way (Lacks sector) = Lacks sector
    read_way (Gives None) = Gives (record { end = Refused reply.NoEnt; trail = [] })
    read_way (Gives (Some node)) = by_way (way_from (is_absolute node.target) (path_of (target_text node.target)) names)

    read_target : (r : Read (Option StoredNode)) → then_read r (λ o. reading (with_target (by_target next dir above names) o) cached held) ≡ read_way r
    read_target (Lacks sector) = refl
    read_target (Gives None) = refl
    read_target (Gives (Some node)) = target_step (is_absolute node.target) (path_of (target_text node.target))

    pub link_step : (link : ℕ) (r : Read (Option StoredNode)) → r ≡ reading (ReadInode link Got) cached held → over cached held (ReadInode link (with_target (by_target next dir above names))) ≡ read_way r
    link_step link r e = sym (goes_on (ReadInode link Got) (with_target (by_target next dir above names)) cached held r e) ∙ read_target r

  -- ---- links

  -- where links are left, one is followed with one fewer
  on_link : (left : ℕ) (last : Bool) (dir : ℕ) (above rest : List (List ℕ)) (link : ℕ) → 0 < left →
      over cached held (followed left last dir above rest link) ≡ after (link ∷ []) (over cached held (ReadInode link (with_target (by_target (resolve_from (left - 1) last) dir above rest))))
  on_link zero last dir above rest link some = absurd (omega arith)
  on_link (suc left) last dir above rest link some =
      let less : suc left - 1 ≡ left = omega arith in
      over_passes cached held link (ReadInode link (with_target (by_target (resolve_from left last) dir above rest)))
      ∙ ap (λ l. after (link ∷ []) (over cached held (ReadInode link (with_target (by_target (resolve_from l last) dir above rest))))) (sym less)

  module _ (left : ℕ) (last : Bool) (dir : ℕ) (above names : List (List ℕ)) (name : List ℕ) (rest : List (List ℕ)) (split : names ≡ name ∷ rest) (link : ℕ) (comes : ComesTo last dir name rest (next.Follows link)) where
    pub loops : (trail holder : List ℕ) → left ≡ 0 → holder ≡ trail ++ dir ∷ [] → Gives (record { end = Refused reply.Loop; trail = holder }) ≡ after trail (over cached held (resolve_from left last dir above names))
    loops trail holder none at =
        ap (λ (t : List ℕ). Gives (record { end = Refused reply.Loop; trail = t })) at
        ∙ ap (λ l. after trail (after (dir ∷ []) (over cached held (followed l last dir above rest link)))) (sym none)
        ∙ ap (after trail) (goes left last dir above names name rest split (next.Follows link) comes)

    -- behind the trail, the directory and the link
    pub follows : (trail holder on : List ℕ) (way : Way) → 0 < left → holder ≡ trail ++ dir ∷ [] → on ≡ holder ++ link ∷ [] →
        over cached held (ReadInode link (with_target (by_target (resolve_from (left - 1) last) dir above rest))) ≡ by_way (resolve_from (left - 1) last) dir above rest way →
        after on (by_way (resolve_from (left - 1) last) dir above rest way) ≡ after trail (over cached held (resolve_from left last dir above names))
    follows trail holder on way some at further leads =
        let r : Read Resolution = by_way (resolve_from (left - 1) last) dir above rest way in
        ap (λ t. after t r) (further ∙ ap (λ t. t ++ link ∷ []) at)
        ∙ sym (after_after (trail ++ dir ∷ []) (link ∷ []) r)
        ∙ sym (after_after trail (dir ∷ []) (after (link ∷ []) r))
        ∙ ap (λ q. after trail (after (dir ∷ []) q)) (sym (on_link left last dir above rest link some ∙ ap (after (link ∷ [])) leads))
        ∙ ap (after trail) (goes left last dir above names name rest split (next.Follows link) comes)

  -- a whole path
  pub from_root : (last : Bool) (dir : ℕ) (above names path : List (List ℕ)) (trail : List ℕ) → dir ≡ 0 → above ≡ [] → names ≡ path → trail ≡ [] →
      after trail (over cached held (resolve_from LINKS_FOLLOWED_MAX last dir above names)) ≡ over cached held (resolve last path)
  unfolding resolve
  from_root last dir above names path trail root top same none = rw (root, top, same, none) (by_read (over cached held (resolve_from LINKS_FOLLOWED_MAX last 0 [] path)))
    where
      by_read : (r : Read Resolution) → after [] r ≡ r
      by_read (Lacks sector) = refl
      by_read (Gives walk) = refl
