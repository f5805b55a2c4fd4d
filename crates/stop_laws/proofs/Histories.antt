-- A history that is told twice settles alike on both sides.
use Rattle.std.proofs.Common.{ℕ, ◌≡◌, ◌≤◌, ◌&&◌, ◌||◌, ◌==◌, not, Bool, true, false, List, [], ◌∷◌, ◌++◌, refl, sym, ◌∙◌, ap, ap₂, subst, arith}
use Rattle.std.specs.List.{list_any}
use mathlib.Core.Bool.{and-false}
use Rattle.frang_base.specs.Functions.{keep_if}
use Rattle.frang_base.specs.declared.reply.Reply.{Reply}
use Rattle.frang_base.specs.declared.reply.Reply.TheVariants as reply
use Rattle.frang_base.specs.declared.op.Op.{Op}
use Rattle.frang_base.specs.declared.op.Op.TheVariants as op
use Rattle.tree_definitions.specs.declared.history.Entry.{Entry}
use Rattle.tree_definitions.specs.History.{InDoubt, Stays, applied, is_answer, leaves_tree, may_be_ok}
use Rattle.tree_definitions.specs.Removal.{doubtful, is_recorded, recovered, writes_file}
use Rattle.tree_definitions.specs.Removal.{left}
use Rattle.tree_definitions.specs.Touched.{births, differs, is_mounted, is_ok, shape_of}
use Rattle.tree_definitions.specs.Tree.{FileTree}
use Rattle.tree_laws.proofs.HistoryLaws.{settled-push, settled-recovered}
use Rattle.tree_laws.proofs.OwnReplies.{answers_are_own}
use Rattle.sector_bytes.specs.Blocks.{Block}
use Rattle.sector_world.specs.Histories.{Each, OpsRise, in_doubt, kept, settled, survives, synced_of}
use Rattle.sector_world.specs.Histories as sectors
use Rattle.sector_world.specs.Histories.Item.{Done, Doubt}
use Rattle.sector_world.specs.Plans.{Legal}
use Rattle.sector_world.specs.Seen.{Unsynced}
use Rattle.sector_world.proofs.HistoryLaws.{each_kept, each_map}
use Rattle.sector_world.specs.Trees.{Distinct}
use Rattle.line_histories.specs.LinePlans.{sector_plan}
use Rattle.line_histories.specs.Standing.{StandsNumbered}
use Rattle.line_histories.specs.Trees.{AreTimes, MayNumber}
use Rattle.line_histories.proofs.Runs.{numbered}
use Rattle.byte_trees.specs.Deeds.{Deed, Does, Says, Doubts, items, steps, tree_after}
use Rattle.stop_laws.specs.Happened.{Happening, Acts, Speaks, Mounts, Covers, Recovers, has_lost, on_sectors, on_tree, settle, what_stays}
use Rattle.stop_laws.specs.Paired.{AreLines, ArePaired, MayRecover}
use Rattle.stop_laws.specs.Settling.{HistoriesSettleAlike, SettlesAlike}
use Rattle.stop_laws.proofs.Lines.{records_are_losses}
use Rattle.stop_laws.proofs.Staying.{AllAsked, items_stay, stay_alike}

-- ---- entries alone

no_write : (o : Op) → may_be_ok o ≡ true → writes_file o ≡ false
no_write op.Sync e = refl
no_write op.Unmount e = refl
no_write op.Crash e = refl
no_write (op.CrashAt k) e = refl
no_write (op.CutAt k) e = refl
no_write op.Stall e = refl
no_write _ e = absurd (cc)

no_file : (o : Op) (r : Reply) → leaves_tree o r ≡ true → writes_file o && is_ok r ≡ false
no_file o reply.Ok leaves = ap (λ b. b && true) (no_write o leaves)
no_file o r leaves = and-false (writes_file o)

-- the reply of a mount leaves the tree
mounted_leaves : (o : Op) (r : Reply) → is_mounted r ≡ true → leaves_tree o r ≡ true
mounted_leaves o reply.Mounted mounted = refl
mounted_leaves o _ mounted = absurd (cc)

-- one that leaves the tree is no answer, and has no record
pub no_record : (t : FileTree) (e : Entry) → leaves_tree e.op e.reply ≡ true → is_recorded t e ≡ false
no_record t e leaves =
    ap₂ (λ a b. (a && list_any (differs (shape_of t) (shape_of (applied t e).tree)) (births t (applied t e).tree)) || b) (go (is_answer t e) refl) (no_file e.op e.reply leaves)
  where
    go : (b : Bool) → is_answer t e ≡ b → is_answer t e ≡ false
    go false is = is
    go true is = let z : true ≡ false = sym leaves ∙ answers_are_own t e is in absurd (cc)

module _ (segments : ℕ) (when : ℕ → ℕ) (times : AreTimes when) (opening : ℕ → Block) (first : FileTree) (numbers : List ℕ)
    (begins : StandsNumbered segments opening (numbered first numbers)) where
  -- ---- what the deeds that are left keep of their lines

  -- wherever a mount of a server covers its operations up to a number that isn't synced, so does this one
  abbrev Covered : List sectors.Entry → ℕ → ℕ → Type 0
  Covered h server number = (durable : ℕ) → Unsynced server durable h → number ≤ durable

  -- a mount of a server comes after none of its operations above a number up to which it covers them
  abbrev IsMount : List sectors.Entry → Entry → List Deed → Type 0
  IsMount h e older = is_mounted e.reply ≡ true → (number : ℕ) × Covered h e.server.0 number × Each (λ c. c.by ≡ e.server.0 → c.op ≤ number) (items older)

  abbrev AllMount : List sectors.Entry → List Deed → Type 0
  AllMount h [] = Unit {0}
  AllMount h (Does c e ∷ older) = AllMount h older
  AllMount h (Says e ∷ older) = IsMount h e older × AllMount h older
  AllMount h (Doubts marked runs ∷ older) = AllMount h older

  mounts_later : (h more : List sectors.Entry) → ((server number : ℕ) → Covered h server number → Covered more server number) → (deeds : List Deed) → AllMount h deeds →
      AllMount more deeds
  mounts_later h more later [] all = tt
  mounts_later h more later (Does c e ∷ older) all = mounts_later h more later older all
  mounts_later h more later (Says e ∷ older) all = (here, mounts_later h more later older all.1)
    where
      here : IsMount more e older
      here is = let m = all.0 is in (m.0, later e.server.0 m.0 m.1, m.2)
  mounts_later h more later (Doubts marked runs ∷ older) all = mounts_later h more later older all

  -- ---- what stays keeps it

  lines_keep : (b : Bool) (deed : Deed) (rest : List Deed) → AreLines when (deed ∷ []) → AreLines when rest → AreLines when (keep_if b deed rest)
  lines_keep true (Does c e) rest one all = (one.0, all)
  lines_keep true (Says e) rest one all = (one.0, all)
  lines_keep true (Doubts marked runs) rest one all = all
  lines_keep false deed rest one all = all

  lines_stay : (server durable : ℕ) (deeds : List Deed) → AreLines when deeds → AreLines when (what_stays server durable deeds)
  lines_stay server durable [] all = tt
  lines_stay server durable (Does c e ∷ older) all =
      lines_keep (survives server durable c) (Does c e) (what_stays server durable older) (all.0, tt) (lines_stay server durable older all.1)
  lines_stay server durable (Says e ∷ older) all =
      lines_keep (not (e.server.0 == server && has_lost server durable older)) (Says e) (what_stays server durable older) (all.0, tt) (lines_stay server durable older all.1)
  lines_stay server durable (Doubts marked runs ∷ older) all = lines_stay server durable older all

  mount_kept : (h : List sectors.Entry) (b : Bool) (deed : Deed) (rest : List Deed) → (AllMount h rest → AllMount h (deed ∷ rest)) → AllMount h rest → AllMount h (keep_if b deed rest)
  mount_kept h true deed rest more all = more all
  mount_kept h false deed rest more all = all

  mounts_stay : (h : List sectors.Entry) (server durable : ℕ) (deeds : List Deed) → AllMount h deeds → AllMount h (what_stays server durable deeds)
  mounts_stay h server durable [] all = tt
  mounts_stay h server durable (Does c e ∷ older) all =
      mount_kept h (survives server durable c) (Does c e) (what_stays server durable older) (λ rest. rest) (mounts_stay h server durable older all)
  mounts_stay h server durable (Says e ∷ older) all =
      mount_kept h (not (e.server.0 == server && has_lost server durable older)) (Says e) (what_stays server durable older) (λ rest. (here, rest))
      (mounts_stay h server durable older all.1)
    where
      here : IsMount h e (what_stays server durable older)
      here is =
          let m = all.0 is in (
            m.0,
            m.1,
            subst (Each (λ c. c.by ≡ e.server.0 → c.op ≤ m.0)) (sym (items_stay server durable older))
                (each_kept (λ c. c.by ≡ e.server.0 → c.op ≤ m.0) (survives server durable) (items older) m.2),
          )
  mounts_stay h server durable (Doubts marked runs ∷ older) all = mounts_stay h server durable older all

  -- ---- what is asked at a recovery, of each deed at its place

  all_asked : (h : List sectors.Entry) (server greatest durable : ℕ) → Unsynced server durable h → (deeds : List Deed) → AreLines when deeds → AllMount h deeds →
      Legal (sector_plan segments when) opening (items deeds) → Distinct (MayNumber numbers) first (items deeds) → AllAsked server greatest durable first deeds
  all_asked h server greatest durable unsynced [] lines mounts legal distinct = tt
  all_asked h server greatest durable unsynced (Does c e ∷ older) lines mounts legal distinct = (
    lines.0.by,
    lines.0.number,
    lines.0.no_mount,
    records_are_losses segments when opening first numbers times begins c e older legal distinct lines,
    all_asked h server greatest durable unsynced older lines.1 mounts legal.1 distinct.2,
  )
  all_asked h server greatest durable unsynced (Says e ∷ older) lines mounts legal distinct =
      (no_record (tree_after first older) e lines.0, covers, all_asked h server greatest durable unsynced older lines.1 mounts.1 legal distinct)
    where
      covers : is_mounted e.reply ≡ true → e.server.0 ≡ server → Each (λ c. c.by ≡ server → c.op ≤ durable) (items older)
      covers is same =
          let m = mounts.0 is in
          let most : m.0 ≤ durable = m.1 durable (subst (λ s. Unsynced s durable h) (sym same) unsynced) in
          each_map (λ c. c.by ≡ e.server.0 → c.op ≤ m.0) (λ c. c.by ≡ server → c.op ≤ durable) (λ c low by. let l : c.op ≤ m.0 = low (by ∙ sym same) in omega arith) (items older) m.2
  all_asked h server greatest durable unsynced (Doubts marked runs ∷ older) lines mounts legal distinct = all_asked h server greatest durable unsynced older lines mounts legal distinct

  -- ---- all of it

  record IsSettled (h : List Happening) : Type 0 where
    alike : SettlesAlike first h
    lines : AreLines when (settle first h)
    mounts : AllMount (on_sectors h) (settle first h)

  -- ---- a recovery more

  module _ (server greatest durable : ℕ) (older : List Happening) (may : MayRecover segments when opening first numbers server greatest durable older) (before : IsSettled older) where
    abbrev deeds : List Deed
    deeds = settle first older

    abbrev stays : List Deed
    stays = what_stays server durable (settle first older)

    abbrev synced : ℕ
    synced = synced_of server (on_sectors older)

    same : items deeds ≡ settled (on_sectors older)
    same = before.alike.sectors

    told : AllAsked server greatest durable first deeds
    told =
        all_asked (on_sectors older) server greatest durable may.unsynced deeds before.lines before.mounts (subst (Legal (sector_plan segments when) opening) (sym same) may.legal)
        (subst (Distinct (MayNumber numbers) first) (sym same) may.distinct)

    left_is : left server greatest first (steps deeds) ≡ steps stays
    left_is =
        (stay_alike server greatest durable first deeds told (subst OpsRise (sym same) may.rises) may.kept_by.within may.kept_by.records may.kept_by.begins).1

    items_are : items stays ≡ kept (survives server durable) (settled (on_sectors older))
    items_are = items_stay server durable deeds ∙ ap (kept (survives server durable)) same

    recovers : IsSettled (Recovers server greatest durable ∷ older)
    recovers = record {
      alike = record {
        sectors = ap (λ l. Doubt (in_doubt server synced l) ∷ l) items_are;
        tree =
            ap (λ l. l ++ InDoubt (doubtful server first l) ∷ []) (sym left_is) ∙ ap (recovered first server greatest) before.alike.tree
            ∙ sym (settled-recovered first [] (on_tree older) (record { 0 = server }) (record { 0 = greatest }));
      };
      lines = lines_stay server durable deeds before.lines;
      mounts = mounts_later (on_sectors older) (sectors.Recovered server durable ∷ on_sectors older) (λ s n covered k u. covered k u) stays
          (mounts_stay (on_sectors older) server durable deeds before.mounts);
    }

  -- ---- along a history

  settles : (h : List Happening) → ArePaired segments when opening first numbers h → IsSettled h
  settles [] paired = record { alike = record { sectors = refl; tree = refl }; lines = tt; mounts = tt }
  settles (Acts c e ∷ older) paired =
      let r = settles older paired.1 in
      record {
        alike = record { sectors = ap (λ l. Done c ∷ l) r.alike.sectors; tree = ap (λ l. l ++ Stays e ∷ []) r.alike.tree ∙ sym (settled-push first [] (on_tree older) e) };
        lines = (paired.0, r.lines);
        mounts = mounts_later (on_sectors older) (sectors.Did c ∷ on_sectors older) (λ s n covered k u. covered k u) (settle first older) r.mounts;
      }
  settles (Speaks e ∷ older) paired =
      let r = settles older paired.2 in
      record {
        alike = record { sectors = r.alike.sectors; tree = ap (λ l. l ++ Stays e ∷ []) r.alike.tree ∙ sym (settled-push first [] (on_tree older) e) };
        lines = (paired.0, r.lines);
        mounts = ((λ is. absurd (let z : true ≡ false = sym is ∙ paired.1 in cc)), r.mounts);
      }
  settles (Mounts number e ∷ older) paired =
      let r = settles older paired.2 in
      record {
        alike = record { sectors = r.alike.sectors; tree = ap (λ l. l ++ Stays e ∷ []) r.alike.tree ∙ sym (settled-push first [] (on_tree older) e) };
        lines = (mounted_leaves e.op e.reply paired.0, r.lines);
        mounts = (
          (λ is. (number, (λ k u. u.0 refl), subst (Each (λ c. c.by ≡ e.server.0 → c.op ≤ number)) (sym r.alike.sectors) paired.1)),
          mounts_later (on_sectors older) (sectors.Mounted e.server.0 number ∷ on_sectors older) (λ s n covered k u. covered k u.1) (settle first older) r.mounts,
        );
      }
  settles (Covers server number ∷ older) paired =
      let r = settles older paired in
      record {
        alike = record { sectors = r.alike.sectors; tree = r.alike.tree };
        lines = r.lines;
        mounts = mounts_later (on_sectors older) (sectors.Synced server number ∷ on_sectors older) (λ s n covered k u. covered k u.1) (settle first older) r.mounts;
      }
  settles (Recovers server greatest durable ∷ older) paired = recovers server greatest durable older paired.0 (settles older paired.1)

pub histories_settle_alike : HistoriesSettleAlike
histories_settle_alike segments when opening first numbers h times begins paired = (settles segments when times opening first numbers begins h paired).alike

-- the deeds that are left are of lines
pub lines_settle : (segments : ℕ) (when : ℕ → ℕ) (opening : ℕ → Block) (first : FileTree) (numbers : List ℕ) (h : List Happening) → AreTimes when →
    StandsNumbered segments opening (numbered first numbers) →
    ArePaired segments when opening first numbers h → AreLines when (settle first h)
lines_settle segments when opening first numbers h times begins paired = (settles segments when times opening first numbers begins h paired).lines
