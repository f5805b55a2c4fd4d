-- An entry that a walk finds leads to a node of its kind.
use Rattle.std.proofs.Common.{ℕ, ◌≡◌, ◌==◌, ◌*◌, Bool, true, if◌then◌else◌, nat_eq, Option, Some, None, List, [], ◌∷◌, ap, ◌∙◌, subst}
use Rattle.frang_base.specs.declared.reply.Reply.TheVariants as reply
use Rattle.disk_definitions.specs.Store.{Store, StoredNode}
use Rattle.disk_definitions.specs.Naming.{Naming}
use Rattle.disk_definitions.specs.Ask.{Ask, Got, ReadInode, run}
use Rattle.disk_definitions.specs.Plans.{Hand}
use Rattle.disk_definitions.specs.Walks.{Found, Walked, search, is_named, spot_by, look_up, in_inode}
use Rattle.disk_definitions.specs.Walks.Spot.{Lost}
use Rattle.plan_laws.proofs.Asking.{run-bind}
use Rattle.plan_laws.proofs.Standing.{HasKind, DiskStands}
use Rattle.plan_laws.proofs.WalksFine.{SpotStands, step_stands}
use Rattle.disk_definitions.specs.Resolving.{Resolution}

-- how a link is followed: with the directory that holds it, the path of this, and the names that are left
abbrev pub Follow : Type 0
Follow = ℕ → ℕ → List (List ℕ) → List (List ℕ) → Ask Resolution

abbrev pub FoundLeads : Store → Option Found → Type 0
FoundLeads s None = Unit {0}
FoundLeads s (Some (slot, None)) = Unit {0}
FoundLeads s (Some (slot, Some entry)) = HasKind s entry.inode entry.kind

module _ (h : Hand) (s : Store) (n : Naming) (disk : DiskStands h s n) where
  module _ (dir : ℕ) (x : StoredNode) (name : List ℕ) (is : s.inode dir ≡ Some x) (two : x.kind ≡ 2) where
    abbrev look : Ask (Option Found)
    look = search x.small (is_named name) 0 (8 * x.blocks)

    by_spot : (dirs : List ℕ) (found : Option Found) → SpotStands h s n disk dirs (spot_by dir x name found) → FoundLeads s found
    by_spot dirs None t = tt
    by_spot dirs (Some (slot, None)) t = tt
    by_spot dirs (Some (slot, Some entry)) t = t.2

    run_step : run (ReadInode dir (in_inode [] dir name)) s ≡ record { spot = spot_by dir x name (run look s); dirs = dir ∷ [] }
    run_step =
        let kind : (x.kind == 2) ≡ true = ap (λ k. nat_eq k 2) two in
        ap (λ o. run (in_inode [] dir name o) s) is
        ∙ ap (λ b. run (if b then look_up [] dir x name else Got (record { spot = Lost reply.NotDir; dirs = [] })) s) kind
        ∙ run-bind {B = Walked} look (λ found. Got (record { spot = spot_by dir x name found; dirs = dir ∷ [] })) s

    pub found_leads : FoundLeads s (run look s)
    found_leads = by_spot (dir ∷ []) (run look s) (subst (λ (w : Walked). SpotStands h s n disk w.dirs w.spot) run_step (step_stands h s n disk [] dir x name is two).spot)
