-- The plans of looks change nothing.
use Rattle.std.proofs.Common.{ℕ, ◌-◌, ◌*◌, ◌/◌, ◌%◌, ◌==◌, Bool, true, false, nat_lt, min, if◌then◌else◌, Option, Some, None, List, [], ◌∷◌, ◌++◌, take, drop, sym, subst}
use Rattle.frang_base.specs.declared.reply.Reply.TheVariants as reply
use Rattle.disk_definitions.specs.Store.{Store, StoredNode}
use Rattle.disk_definitions.specs.Ask.{Ask, ReadInode}
use Rattle.disk_definitions.specs.Walks.{Target}
use Rattle.disk_definitions.specs.Plans.{Hand, Plan, refused}
use Rattle.disk_definitions.specs.FilePlans.{sectors_met, read_sectors, showing, at_file, with_file}
use Rattle.disk_definitions.specs.LookPlans.{with_inode, at_inode, described, timed, listing, sorted_names}
use Rattle.disk_definitions.specs.FitPlans.{PlanIsFit}
use Rattle.plan_laws.proofs.Bytes.{values, stored_byte, run-sectors}
use Rattle.plan_laws.proofs.Gathering.{gathered, run-entries}
use Rattle.plan_fit.specs.FitFiles.{StatFits, ListFits, ReadlinkFits, TimeFits, ReadFits}
use Rattle.plan_fit.proofs.Refused.{Fits, refuse_fits, by_kind, node_fits}

module _ (h : Hand) (segments : ℕ) (s : Store) where
  -- the inode of a target, whatever stands there
  inode_fits : (next : List ℕ → StoredNode → Ask Plan) → ((touched : List ℕ) (x : StoredNode) → Fits h segments s (next touched x)) → (t : Target) → Fits h segments s (at_inode next t)
  inode_fits next each t = go (s.inode t.inode)
    where
      go : (o : Option StoredNode) → Fits h segments s (with_inode next (t.dirs ++ t.inode ∷ []) o)
      go None = refuse_fits h segments s reply.NoEnt (t.dirs ++ t.inode ∷ [])
      go (Some x) = each (t.dirs ++ t.inode ∷ []) x

  listing_fits : (touched : List ℕ) (x : StoredNode) → Fits h segments s (listing touched x)
  listing_fits touched x =
      subst (PlanIsFit h segments s) (sym (run-entries s x.small 0 (8 * x.blocks) (λ entries. refused (reply.Names (sorted_names entries)) touched)))
      (refuse_fits h segments s (reply.Names (sorted_names (gathered s x.small 0 (8 * x.blocks)))) touched)

  showing_fits : (off len i : ℕ) (touched : List ℕ) (x : StoredNode) → Fits h segments s (showing off len i touched x)
  showing_fits off len i touched x = go (nat_lt x.size off)
    where
      k : ℕ
      k = min len (x.size - off)

      go : (b : Bool) → Fits h segments s (if b then refused reply.BadOffset touched else read_sectors x (off / 512) (sectors_met off k) (λ bytes. refused (reply.Shown (take k (drop (off % 512) bytes))) touched))
      go true = refuse_fits h segments s reply.BadOffset touched
      go false = subst (PlanIsFit h segments s) (sym (run-sectors s x (off / 512) (sectors_met off k) (λ bytes. refused (reply.Shown (take k (drop (off % 512) bytes))) touched)))
          (refuse_fits h segments s (reply.Shown (take k (drop (off % 512) (values (stored_byte s x) (512 * (off / 512)) (512 * sectors_met off k))))) touched)

  read_file_fits : (off len : ℕ) (t : Target) → Fits h segments s (at_file (showing off len) t)
  read_file_fits off len t = go (t.kind == 2) (t.kind == 1)
    where
      touched : List ℕ
      touched = t.dirs ++ t.inode ∷ []

      by_kind : (x : StoredNode) (c : Bool) → Fits h segments s (if c then showing off len t.inode touched x else refused reply.Inval touched)
      by_kind x true = showing_fits off len t.inode touched x
      by_kind x false = refuse_fits h segments s reply.Inval touched

      read : (o : Option StoredNode) → Fits h segments s (with_file (showing off len t.inode touched) touched o)
      read None = refuse_fits h segments s reply.NoEnt touched
      read (Some x) = by_kind x (x.kind == 1)

      go : (a b : Bool) → Fits h segments s (if a then refused reply.IsDir t.dirs else (if b then ReadInode t.inode (with_file (showing off len t.inode touched) touched) else refused reply.Inval t.dirs))
      go true b = refuse_fits h segments s reply.IsDir t.dirs
      go false true = read (s.inode t.inode)
      go false false = refuse_fits h segments s reply.Inval t.dirs

pub stat_fits : StatFits
stat_fits path h s tree n birth when of hand fit small late allowed =
    node_fits h tree.segments s (at_inode (λ touched x. refused (described x) touched)) (inode_fits h tree.segments s (λ touched x. refused (described x) touched) (λ touched x. refuse_fits h tree.segments s (described x) touched)) path

pub time_fits : TimeFits
time_fits path h s tree n birth when of hand fit small late allowed =
    node_fits h tree.segments s (at_inode (λ touched x. refused (timed x) touched)) (inode_fits h tree.segments s (λ touched x. refused (timed x) touched) (λ touched x. refuse_fits h tree.segments s (timed x) touched)) path

pub list_fits : ListFits
list_fits path h s tree n birth when of hand fit small late allowed =
    node_fits h tree.segments s (λ t. if t.kind == 2 then at_inode listing t else refused reply.NotDir t.dirs)
    (by_kind h tree.segments s (at_inode listing) 2 reply.NotDir (inode_fits h tree.segments s listing (listing_fits h tree.segments s))) path

pub readlink_fits : ReadlinkFits
readlink_fits path h s tree n birth when of hand fit small late allowed =
    node_fits h tree.segments s (λ t. if t.kind == 3 then at_inode (λ touched x. refused (reply.Target x.target) touched) t else refused reply.Inval t.dirs)
    (by_kind h tree.segments s (at_inode (λ touched x. refused (reply.Target x.target) touched)) 3 reply.Inval (inode_fits h tree.segments s (λ touched x. refused (reply.Target x.target) touched) (λ touched x. refuse_fits h tree.segments s (reply.Target x.target) touched))) path

pub read_fits : ReadFits
read_fits path off len h s tree n birth when of hand fit small late allowed = node_fits h tree.segments s (at_file (showing off len)) (read_file_fits h tree.segments s off len) path
