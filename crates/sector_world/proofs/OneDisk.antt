-- There is one disk, and writes come to it in order.
use Rattle.std.proofs.Common.{true, false, Bool, if◌then◌else◌, ⊎_elim, le_trans, ℕ, ◌<◌, ◌≤◌, ◌≡◌, None, refl, sym, ◌∙◌, ap, subst, arith}
use Rattle.std.proofs.lemmas.Bool.{cases_Bool, cases_eq, ne_eqb, eq-eqb}
use Rattle.sector_bytes.specs.Blocks.{Block, version_of, zero_block}
use Rattle.frang_base.specs.Functions.{put}
use Rattle.sector_world.specs.Histories.{Commit, settled, survives}
use Rattle.frang_base.proofs.Basics.{by_some}
use Rattle.sector_world.specs.World.{World, Flight, ByteFlight, Rescue, has_version, block_at}
use Rattle.sector_world.specs.Guards.{CanLand, CanLandBytes, CanDo, CanFinish}
use Rattle.sector_world.specs.Steps.{Event, Can, after}
use Rattle.sector_world.specs.Steps.Event.{Tick, Leave, Fail, Renew, Mount, Unmount, Take, Give, Lower, Do, Reach, Ack, Sync, Reclaim, Crash, Begin, Look, Finish, Fetch, Issue, Replay, Land, Fade, Break, BreakNew, FetchBytes, Clear, IssueBytes, LandBytes, FadeBytes, BreakBytes, BreakBytesNew, Settle}
use Rattle.sector_world.specs.Logged.{Logged, Pending, FlightOk}
use Rattle.sector_world.specs.Bytes.{ByteFlightOk, IsDiskPage}
use Rattle.sector_world.specs.Kinds.{Kinds, Good}
use Rattle.sector_world.specs.Claims.{IsOrdered, IsPlain, Orderly, came, or_else, IsOneDisk}
use Rattle.sector_world.proofs.Finishing.{logged_finish}
use Rattle.sector_world.proofs.Versioned.{plain_unchanged, plain_first, unchanged_place, logged_less, kinds_finish, landed_plain}

-- the sector of the disk that has no version is zeros on its other side
plain_zeros : (w : World) → Good w → (s : ℕ) → has_version w s ≡ false → w.disk s ≡ zero_block
plain_zeros w g s e =
    unchanged_place w.opening w.durable s (Pending w s) (w.disk s) (settled w.history) (plain_unchanged w.logged s (settled w.history) e (g.kinds.claimed s)) (g.logged.place s)
    ∙ g.kinds.zero s (plain_first w.logged s (settled w.history) e)

-- a write of a sector with a version that may still come in time is of one that has it
flight_versioned : (w : World) → Good w → (s : ℕ) (f : Flight) → CanLand w s f → has_version w s ≡ true
flight_versioned w g s f can =
    ⊎_elim (λ v. v)
    (λ e. let q : FlightOk w s f = g.logged.flights s f can.there can.early in
    let same : f.block ≡ w.opening s = unchanged_place w.opening w.durable s (Pending w s) f.block (settled w.history) (plain_unchanged w.logged s (settled w.history) e (g.kinds.claimed s)) q.place in
    let old : w.disk s ≡ w.opening s = unchanged_place w.opening w.durable s (Pending w s) (w.disk s) (settled w.history) (plain_unchanged w.logged s (settled w.history) e (g.kinds.claimed s)) (g.logged.place s) in
    let u : version_of (w.disk s) < version_of f.block = q.higher in let v : version_of (w.disk s) ≡ version_of f.block = ap version_of (old ∙ sym same) in absurd (omega arith))
    (cases_Bool (has_version w s))

-- no recovery of a server begins while its lease lasts
none_begun : (w : World) → Good w → (d : ℕ) → w.now ≤ w.expiry d → w.taker d ≡ None
none_begun w g d le = by_some (λ o. w.taker d ≡ o → o ≡ None) (w.taker d) (λ e i. refl) (λ b e i. let q : w.expiry d < w.now = (g.logged.begun d b e).1 in absurd (omega arith)) refl

ordered : (w : World) → Good w → (s : ℕ) (f : Flight) → CanLand w s f → IsOrdered w s f
ordered w g s f can =
    let q : FlightOk w s f = g.logged.flights s f can.there can.early in
    let v : has_version w s ≡ true = flight_versioned w g s f can in
    record {
      versioned = v;
      higher = rw v q.higher;
      named = q.named;
      leased = le_trans can.early q.lease;
      untaken = none_begun w g f.by (le_trans can.early q.lease);
      taken = λ n. ⊎_elim (λ o. absurd (n o.same)) (λ o. o.taker) q.source;
    }

plain : (w : World) → Good w → (s : ℕ) (f : ByteFlight) → CanLandBytes w s f → IsPlain w s f
plain w g s f can = let q : ByteFlightOk w s f = g.bytes.flights s f can.there can.in_time in record { plain = landed_plain w s f can g.kinds; leased = le_trans can.in_time q.lease; untaken = none_begun w g f.by (le_trans can.in_time q.lease) }

pub orderly_good : (w : World) → Good w → (e : Event) → Can w e → Orderly w e
orderly_good w g (Land s f) can = ordered w g s f can
orderly_good w g (BreakNew s f) can = ordered w g s f can
orderly_good w g (LandBytes s f) can = plain w g s f can
orderly_good w g (BreakBytesNew s f) can = plain w g s f can
orderly_good w g Tick can = tt
orderly_good w g Leave can = tt
orderly_good w g (Fail a) can = tt
orderly_good w g (Renew a) can = tt
orderly_good w g (Mount a) can = tt
orderly_good w g (Unmount a) can = tt
orderly_good w g (Take a l mode) can = tt
orderly_good w g (Give a l) can = tt
orderly_good w g (Lower a l) can = tt
orderly_good w g (Do c) can = tt
orderly_good w g (Reach d k) can = tt
orderly_good w g (Ack a k) can = tt
orderly_good w g (Sync a) can = tt
orderly_good w g (Reclaim a k) can = tt
orderly_good w g (Crash a) can = tt
orderly_good w g (Begin d b) can = tt
orderly_good w g (Look r s) can = tt
orderly_good w g (Finish r) can = tt
orderly_good w g (Fetch a s) can = tt
orderly_good w g (Issue a s block mark) can = tt
orderly_good w g (Replay r s block) can = tt
orderly_good w g (Fade s f) can = tt
orderly_good w g (Break s f) can = tt
orderly_good w g (FetchBytes a s) can = tt
orderly_good w g (Clear a s) can = tt
orderly_good w g (IssueBytes a s block mark) can = tt
orderly_good w g (FadeBytes s f) can = tt
orderly_good w g (BreakBytes s f) can = tt
orderly_good w g (Settle a s block mark) can = tt

-- the side that counts has what came
version_came : (v : Bool) (t s : ℕ) (new : Block) (disk bytes : ℕ → Block) → (t ≡ s → v ≡ true) → (if v then put disk t new s else bytes s) ≡ or_else (came t new s) (if v then disk s else bytes s)
version_came v t s new disk bytes f =
    ⊎_elim
    (λ e. rw (f e, eq-eqb t s e, eq-eqb s t (sym e)) refl)
    (λ n. rw (ne_eqb t s n, ne_eqb s t (λ e. n (sym e))) refl)
    (cases_eq t s)

bytes_came : (v : Bool) (t s : ℕ) (new : Block) (disk bytes : ℕ → Block) → (t ≡ s → v ≡ false) → (if v then disk s else put bytes t new s) ≡ or_else (came t new s) (if v then disk s else bytes s)
bytes_came v t s new disk bytes f =
    ⊎_elim
    (λ e. rw (f e, eq-eqb t s e, eq-eqb s t (sym e)) refl)
    (λ n. rw (ne_eqb t s n, ne_eqb s t (λ e. n (sym e))) refl)
    (cases_eq t s)

claimed_same : (b v : Bool) (disk bytes : Block) → (b ≡ true → v ≡ false) → (b ≡ true → disk ≡ bytes) → (if (if b then true else v) then disk else bytes) ≡ (if v then disk else bytes)
claimed_same true true disk bytes f g = let q = f refl in cc
claimed_same true false disk bytes f g = g refl
claimed_same false v disk bytes f g = refl

do_one : (w : World) → Good w → (c : Commit) → CanDo w c → (s : ℕ) → block_at (after w (Do c)) s ≡ block_at w s
do_one w g c can s =
    claimed_same (c.claims s) (has_version w s) (w.disk s) (w.bytes s) (λ e. (can.claims s e).fresh)
    (λ e. plain_zeros w g s (can.claims s e).fresh ∙ subst (λ x. IsDiskPage x (w.bytes s)) (can.claims s e).cleared (g.bytes.clean c.by s))

left_same : (v v' : Bool) (disk bytes : Block) → (v' ≡ true → v ≡ true) → (v ≡ true → v' ≡ false → disk ≡ bytes) → (if v' then disk else bytes) ≡ (if v then disk else bytes)
left_same true true disk bytes f g = refl
left_same true false disk bytes f g = sym (g refl refl)
left_same false true disk bytes f g = let q = f refl in cc
left_same false false disk bytes f g = refl

finish_one : (w : World) → Good w → (r : Rescue) → CanFinish w r → (s : ℕ) → block_at (after w (Finish r)) s ≡ block_at w s
finish_one w g r can s =
    left_same (has_version w s) (has_version (after w (Finish r)) s) (w.disk s) (w.bytes s)
    (λ v. logged_less w.logged s (survives r.dead (w.durable r.dead)) (settled w.history) v)
    (λ v n. let l : Logged (after w (Finish r)) = logged_finish w r can g.logged in
    let k : Kinds (after w (Finish r)) = kinds_finish w r g.logged g.kinds in
    let first : w.logged s ≡ false = plain_first w.logged s (settled (after w (Finish r)).history) n in
    unchanged_place w.opening w.durable s (Pending (after w (Finish r)) s) (w.disk s) (settled (after w (Finish r)).history) (plain_unchanged w.logged s (settled (after w (Finish r)).history) n (k.claimed s)) (l.place s)
    ∙ g.kinds.zero s first ∙ sym (g.kinds.cleared s v first).0)

pub one_disk_good : (w : World) → Good w → (e : Event) → Can w e → (s : ℕ) → IsOneDisk w e s
one_disk_good w g (Land t f) can s = version_came (has_version w s) t s f.block w.disk w.bytes (λ e. ap (has_version w) (sym e) ∙ flight_versioned w g t f can)
one_disk_good w g (BreakNew t f) can s = version_came (has_version w s) t s f.block w.disk w.bytes (λ e. ap (has_version w) (sym e) ∙ flight_versioned w g t f can)
one_disk_good w g (LandBytes t f) can s = bytes_came (has_version w s) t s f.block w.disk w.bytes (λ e. ap (has_version w) (sym e) ∙ landed_plain w t f can g.kinds)
one_disk_good w g (BreakBytesNew t f) can s = bytes_came (has_version w s) t s f.block w.disk w.bytes (λ e. ap (has_version w) (sym e) ∙ landed_plain w t f can g.kinds)
one_disk_good w g Tick can s = refl
one_disk_good w g Leave can s = refl
one_disk_good w g (Fail a) can s = refl
one_disk_good w g (Renew a) can s = refl
one_disk_good w g (Mount a) can s = refl
one_disk_good w g (Unmount a) can s = refl
one_disk_good w g (Take a l mode) can s = refl
one_disk_good w g (Give a l) can s = refl
one_disk_good w g (Lower a l) can s = refl
one_disk_good w g (Do c) can s = do_one w g c can s
one_disk_good w g (Reach d k) can s = refl
one_disk_good w g (Ack a k) can s = refl
one_disk_good w g (Sync a) can s = refl
one_disk_good w g (Reclaim a k) can s = refl
one_disk_good w g (Crash a) can s = refl
one_disk_good w g (Begin d b) can s = refl
one_disk_good w g (Look r t) can s = refl
one_disk_good w g (Finish r) can s = finish_one w g r can s
one_disk_good w g (Fetch a t) can s = refl
one_disk_good w g (Issue a t block mark) can s = refl
one_disk_good w g (Replay r t block) can s = refl
one_disk_good w g (Fade t f) can s = refl
one_disk_good w g (Break t f) can s = refl
one_disk_good w g (FetchBytes a t) can s = refl
one_disk_good w g (Clear a t) can s = refl
one_disk_good w g (IssueBytes a t block mark) can s = refl
one_disk_good w g (FadeBytes t f) can s = refl
one_disk_good w g (BreakBytes t f) can s = refl
one_disk_good w g (Settle a t block mark) can s = refl
