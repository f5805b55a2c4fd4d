-- How a world's last operations, what is durable and who is mounted go on along events that may happen: by the entries that its history gets.
use Rattle.std.proofs.Common.{◌≡◌, ◌≤◌, ◌+◌, ◌⊎◌, ℕ, suc, inl, inr, if◌then◌else◌, nat_eq, List, [], ◌∷◌, ◌++◌, length, le_refl, refl, sym, ap, ◌∙◌, subst, arith}
use Rattle.std.proofs.lemmas.Bool.{cases_eq}
use Rattle.std.proofs.lemmas.List.{length-append}
use Rattle.frang_base.specs.Functions.{put}
use Rattle.frang_base.proofs.Basics.{at_put, put_other}
use Rattle.sector_world.specs.Histories.{Entry}
use Rattle.sector_world.specs.Histories.Entry.{Did, Mounted, Recovered, Synced}
use Rattle.sector_world.specs.Steps.{Can, Event, Run, after}
use Rattle.sector_world.specs.Steps.Event.{Mount, Unmount, Do, Reach, Sync, Crash, Finish}
use Rattle.sector_world.specs.Steps.Run.{stays, goes}
use Rattle.sector_world.specs.World.{World, Phase}
use Rattle.sector_world.specs.World.Phase.{Off, Up, Dead}

-- the last operations behind these entries, the newest of which is first
abbrev pub last_by : List Entry → (ℕ → ℕ) → ℕ → ℕ
last_by [] last = last
last_by (Did c ∷ entries) last = put (last_by entries last) c.by c.op
last_by (Recovered d k ∷ entries) last = put (last_by entries last) d k
last_by (Synced d n ∷ entries) last = last_by entries last
last_by (Mounted d n ∷ entries) last = last_by entries last

-- they say that the server mounted
abbrev pub mounts_in : ℕ → List Entry → Type 0
mounts_in a [] = ⊥
mounts_in a (Mounted d n ∷ entries) = (a ≡ d) ⊎ mounts_in a entries
mounts_in a (Did c ∷ entries) = mounts_in a entries
mounts_in a (Recovered d k ∷ entries) = mounts_in a entries
mounts_in a (Synced d n ∷ entries) = mounts_in a entries

-- its log was recovered
abbrev pub recovers_in : ℕ → List Entry → Type 0
recovers_in a [] = ⊥
recovers_in a (Recovered d k ∷ entries) = (a ≡ d) ⊎ recovers_in a entries
recovers_in a (Did c ∷ entries) = recovers_in a entries
recovers_in a (Synced d n ∷ entries) = recovers_in a entries
recovers_in a (Mounted d n ∷ entries) = recovers_in a entries

-- it was, or its server says that all is synced, as it does where it leaves
abbrev pub leaves_in : ℕ → List Entry → Type 0
leaves_in a [] = ⊥
leaves_in a (Recovered d k ∷ entries) = (a ≡ d) ⊎ leaves_in a entries
leaves_in a (Synced d n ∷ entries) = (a ≡ d) ⊎ leaves_in a entries
leaves_in a (Did c ∷ entries) = leaves_in a entries
leaves_in a (Mounted d n ∷ entries) = leaves_in a entries

-- who is mounted then was so before, and who was off still is; who was recovered is off, and who is off was so, or leaves
pub record NoneMounts (ended left : Type 0) (before now : Phase) : Type 0 where
  pub up : now ≡ Up → before ≡ Up
  pub off : before ≡ Off → now ≡ Off
  pub gone : ended → now ≡ Off
  pub was : now ≡ Off → before ≡ Off ⊎ left

abbrev pub Phases : ℕ → List Entry → Phase → Phase → Type 0
Phases a entries before now = mounts_in a entries ⊎ NoneMounts (recovers_in a entries) (leaves_in a entries) before now

pub record GoesBy (w u : World) : Type 0 where
  pub entries : List Entry
  pub history : u.history ≡ entries ++ w.history
  pub last : (a : ℕ) → u.last a ≡ last_by entries w.last a
  pub durable : (a : ℕ) → w.durable a ≤ u.durable a
  pub phase : (a : ℕ) → Phases a entries (w.phase a) (u.phase a)

-- ---- one event

le_on : (n m k : ℕ) → n ≤ m → m ≤ k → n ≤ k
le_on n m k h i = omega (arith, h, i)

put_as : {X : Type 0} (f g : ℕ → X) (k a : ℕ) (x : X) → f a ≡ g a → put f k x a ≡ put g k x a
put_as f g k a x e = ap (λ y. if nat_eq a k then x else y) e

off_up : Off ≡ Up → ⊥
off_up e = cc

dead_up : Dead ≡ Up → ⊥
dead_up e = cc

dead_off : Dead ≡ Off → ⊥
dead_off e = cc

module _ (f : ℕ → Phase) (b a : ℕ) (before : Phase) (ended left : Type 0) (n : NoneMounts ended left before (f a)) where
  wider : a ≡ b ⊎ before ≡ Off ⊎ left → before ≡ Off ⊎ (a ≡ b) ⊎ left
  wider (inl e) = inr (inl e)
  wider (inr (inl o)) = inl o
  wider (inr (inr l)) = inr (inr l)

  -- one dies that was mounted
  dies : f b ≡ Up → NoneMounts ended left before (put f b Dead a)
  dies up = record {
    up = at_put (λ q. q ≡ Up → before ≡ Up) f b Dead a (λ e q. absurd (dead_up q)) (λ e. n.up);
    off = λ o. at_put (λ q. q ≡ Off) f b Dead a (λ e. absurd (here e (n.off o))) (λ e. n.off o);
    gone = λ l. at_put (λ q. q ≡ Off) f b Dead a (λ e. absurd (here e (n.gone l))) (λ e. n.gone l);
    was = at_put (λ q. q ≡ Off → before ≡ Off ⊎ left) f b Dead a (λ e q. absurd (dead_off q)) (λ e. n.was);
  }
    where
      here : a ≡ b → f a ≡ Off → ⊥
      here e o = off_up (sym o ∙ ap f e ∙ up)

  -- one goes off, of which an entry tells
  goes_off : NoneMounts ended ((a ≡ b) ⊎ left) before (put f b Off a)
  goes_off = record {
    up = at_put (λ q. q ≡ Up → before ≡ Up) f b Off a (λ e q. absurd (off_up q)) (λ e. n.up);
    off = λ o. at_put (λ q. q ≡ Off) f b Off a (λ e. refl) (λ e. n.off o);
    gone = λ l. at_put (λ q. q ≡ Off) f b Off a (λ e. refl) (λ e. n.gone l);
    was = at_put (λ q. q ≡ Off → before ≡ Off ⊎ (a ≡ b) ⊎ left) f b Off a (λ e q. inr (inl e)) (λ e q. wider (inr (n.was q)));
  }

  -- and one whose log is recovered
  recovered : NoneMounts ((a ≡ b) ⊎ ended) ((a ≡ b) ⊎ left) before (put f b Off a)
  recovered = record {
    up = goes_off.up;
    off = goes_off.off;
    gone = λ l. at_put (λ q. q ≡ Off) f b Off a (λ e. refl) (λ e. go e l);
    was = goes_off.was;
  }
    where
      go : (a ≡ b → ⊥) → (a ≡ b) ⊎ ended → f a ≡ Off
      go apart (inl e) = absurd (apart e)
      go apart (inr l) = n.gone l

  synced : NoneMounts ended ((a ≡ b) ⊎ left) before (f a)
  synced = record { up = n.up; off = n.off; gone = n.gone; was = λ q. wider (inr (n.was q)) }

module _ (w0 w : World) (x : GoesBy w0 w) where
  -- nothing is told, nobody is mounted or leaves
  abbrev quietly : (u : World) → u.history ≡ w.history → u.last ≡ w.last → u.durable ≡ w.durable → u.phase ≡ w.phase → GoesBy w0 u
  quietly u history last durable phase = record {
    entries = x.entries;
    history = history ∙ x.history;
    last = λ a. ap (λ f. f a) last ∙ x.last a;
    durable = λ a. subst (λ f. w0.durable a ≤ f a) (sym durable) (x.durable a);
    phase = λ a. subst (λ f. Phases a x.entries (w0.phase a) (f a)) (sym phase) (x.phase a);
  }

  died : (b a : ℕ) → w.phase b ≡ Up → Phases a x.entries (w0.phase a) (w.phase a) → Phases a x.entries (w0.phase a) (put w.phase b Dead a)
  died b a up (inl m) = inl m
  died b a up (inr n) = inr (dies w.phase b a (w0.phase a) (recovers_in a x.entries) (leaves_in a x.entries) n up)

  left : (b k a : ℕ) → Phases a x.entries (w0.phase a) (w.phase a) → Phases a (Synced b k ∷ x.entries) (w0.phase a) (put w.phase b Off a)
  left b k a (inl m) = inl m
  left b k a (inr n) = inr (goes_off w.phase b a (w0.phase a) (recovers_in a x.entries) (leaves_in a x.entries) n)

  told : (b k a : ℕ) → Phases a x.entries (w0.phase a) (w.phase a) → Phases a (Synced b k ∷ x.entries) (w0.phase a) (w.phase a)
  told b k a (inl m) = inl m
  told b k a (inr n) = inr (synced w.phase b a (w0.phase a) (recovers_in a x.entries) (leaves_in a x.entries) n)

  ended : (b k a : ℕ) → Phases a x.entries (w0.phase a) (w.phase a) → Phases a (Recovered b k ∷ x.entries) (w0.phase a) (put w.phase b Off a)
  ended b k a (inl m) = inl m
  ended b k a (inr n) = inr (recovered w.phase b a (w0.phase a) (recovers_in a x.entries) (leaves_in a x.entries) n)

  more : (d k a : ℕ) → w.durable d ≤ k → w0.durable a ≤ put w.durable d k a
  more d k a h = at_put (λ n. w0.durable a ≤ n) w.durable d k a (λ e. le_on (w0.durable a) (w.durable d) k (subst (λ n. w0.durable a ≤ w.durable n) e (x.durable a)) h) (λ e. x.durable a)

  mounted : (b k a : ℕ) → Phases a x.entries (w0.phase a) (w.phase a) → Phases a (Mounted b k ∷ x.entries) (w0.phase a) (put w.phase b Up a)
  mounted b k a (inl m) = inl (inr m)
  mounted b k a (inr n) = go (cases_eq a b)
    where
      go : (a ≡ b) ⊎ (a ≡ b → ⊥) → Phases a (Mounted b k ∷ x.entries) (w0.phase a) (put w.phase b Up a)
      go (inl e) = inl (inl e)
      go (inr apart) = inr (subst (λ q. NoneMounts (recovers_in a x.entries) (leaves_in a x.entries) (w0.phase a) q) (sym (put_other w.phase b Up a apart)) n)

  goes_on : (e : Event) → Can w e → GoesBy w0 (after w e)
  goes_on (Do c) can = record {
    entries = Did c ∷ x.entries;
    history = ap (λ h. Did c ∷ h) x.history;
    last = λ a. put_as w.last (last_by x.entries w0.last) c.by a c.op (x.last a);
    durable = x.durable;
    phase = x.phase;
  }
  goes_on (Finish r) can = record {
    entries = Recovered r.dead (w.durable r.dead) ∷ x.entries;
    history = ap (λ h. Recovered r.dead (w.durable r.dead) ∷ h) x.history;
    last = λ a. put_as w.last (last_by x.entries w0.last) r.dead a (w.durable r.dead) (x.last a);
    durable = x.durable;
    phase = λ a. ended r.dead (w.durable r.dead) a (x.phase a);
  }
  goes_on (Mount b) can = record {
    entries = Mounted b (w.last b) ∷ x.entries;
    history = ap (λ h. Mounted b (w.last b) ∷ h) x.history;
    last = x.last;
    durable = x.durable;
    phase = λ a. mounted b (w.last b) a (x.phase a);
  }
  goes_on (Unmount b) can = record {
    entries = Synced b (w.last b) ∷ x.entries;
    history = ap (λ h. Synced b (w.last b) ∷ h) x.history;
    last = x.last;
    durable = x.durable;
    phase = λ a. left b (w.last b) a (x.phase a);
  }
  goes_on (Sync b) can = record {
    entries = Synced b (w.last b) ∷ x.entries;
    history = ap (λ h. Synced b (w.last b) ∷ h) x.history;
    last = x.last;
    durable = x.durable;
    phase = λ a. told b (w.last b) a (x.phase a);
  }
  goes_on (Reach d k) can = record { entries = x.entries; history = x.history; last = x.last; durable = λ a. more d k a can.more; phase = x.phase }
  goes_on (Crash b) can = record { entries = x.entries; history = x.history; last = x.last; durable = x.durable; phase = λ a. died b a can (x.phase a) }
  goes_on e can = quietly (after w e) refl refl refl refl

-- ---- one behind the other

along : (w0 w u : World) (events : List Event) → Run w events u → GoesBy w0 w → GoesBy w0 u
along w0 w u [] stays x = x
along w0 w u (e ∷ events) (goes can run) x = along w0 (after w e) u events run (goes_on w0 w x e can)

pub goes_by : (w u : World) (events : List Event) → Run w events u → GoesBy w u
goes_by w u events run =
    along w w u events run
    (record { entries = []; history = refl; last = λ a. refl; durable = λ a. le_refl (w.durable a); phase = λ a. inr (record { up = λ e. e; off = λ e. e; gone = λ l. absurd l; was = λ o. inl o }) })

-- ---- by what the history is

longer : (e : Entry) (es h : List Entry) → e ∷ (es ++ h) ≡ h → ⊥
longer e es h same = short (length es) (length h) (length (es ++ h)) (length-append es h) (ap (λ (l : List Entry). length l) same)
  where
    short : (n m k : ℕ) → k ≡ n + m → suc k ≡ m → ⊥
    short n m k e f = omega (arith, e, f)

none_of : (entries h : List Entry) → h ≡ entries ++ h → entries ≡ []
none_of [] h same = refl
none_of (e ∷ es) h same = absurd (longer e es h (sym same))

rest_of : (e x : Entry) (es h : List Entry) → e ∷ h ≡ x ∷ es ++ h → (e ≡ x) × (h ≡ es ++ h)
rest_of e x es h same = (head_is same, tail_is same)
  where
    head_is : e ∷ h ≡ x ∷ es ++ h → e ≡ x
    head_is s = cc

    tail_is : e ∷ h ≡ x ∷ es ++ h → h ≡ es ++ h
    tail_is s = cc

one_of : (e : Entry) (entries h : List Entry) → e ∷ h ≡ entries ++ h → entries ≡ e ∷ []
one_of e [] h same = absurd (longer e [] h same)
one_of e (x ∷ es) h same = let r = rest_of e x es h same in ap (λ y. y ∷ es) (sym r.0) ∙ ap (λ l. e ∷ l) (none_of es h r.1)

pub without_entry : (w u : World) (x : GoesBy w u) → u.history ≡ w.history → x.entries ≡ []
without_entry w u x same = none_of x.entries w.history (sym same ∙ x.history)

pub with_entry : (w u : World) (x : GoesBy w u) (e : Entry) → u.history ≡ e ∷ w.history → x.entries ≡ e ∷ []
with_entry w u x e same = one_of e x.entries w.history (sym same ∙ x.history)
