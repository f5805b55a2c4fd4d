-- Each step that is shown here keeps the room of logs: what a log comes to is the same or ends with its ring, and a mount takes a line.
use Rattle.std.proofs.Common.{◌≡◌, ℕ, ◌+◌, ◌*◌, ◌^◌, ◌<◌, ◌≤◌, ◌==◌, Bool, true, false, not, ◌&&◌, if◌then◌else◌, List, [], ◌∷◌, filter, length, Some, refl, sym, ap, ◌∙◌, subst, inl, inr, arith, le_refl}
use Rattle.std.proofs.lemmas.Bool.{false≢true}
use Rattle.std.proofs.lemmas.Option.{none-some, same_Some}
use Rattle.frang_base.specs.Functions.{put}
use Rattle.frang_base.specs.declared.limits.TheConstants.{LOG_IN_FLIGHT_MAX}
use Rattle.frang_base.specs.declared.script.Line.{Line}
use Rattle.frang_base.proofs.Basics.{put_same}
use Rattle.disk_definitions.specs.Logs.{Slots, log_end}
use Rattle.disk_definitions.specs.Replay.{slots_of}
use Rattle.ring_definitions.specs.Rings.{last}
use Rattle.core_definitions.specs.Scripts.{Marks, next_line}
use Rattle.core_definitions.specs.Servers as life
use Rattle.core_definitions.specs.Servers.{Server, is_in_mount, is_off}
use Rattle.core_lives.proofs.Alike.{IsPhaseAs, IsServerAs}
use Rattle.core_lives.proofs.Idling.{MarksMore, one_more}
use Rattle.core_lives.specs.Room.{RoomIsEnough, is_open_line, lines_left, reach_of}

-- ---- lines

open_falls : (a : ℕ) (new old : Marks) → MarksMore new old → (line : Line) → is_open_line a old line ≡ false → is_open_line a new line ≡ false
open_falls a new old more line = go (line.who.0 == a) (old line.number) (new line.number) (more line.number)
  where
    go : (w o n : Bool) → (o ≡ true → n ≡ true) → w && not o ≡ false → w && not n ≡ false
    go false o n f e = refl
    go true true true f e = refl
    go true true false f e = absurd (false≢true (f refl))
    go true false n f e = absurd (false≢true (sym e))

pub left_falls : (script : List Line) (a : ℕ) (new old : Marks) → MarksMore new old → lines_left script new a ≤ lines_left script old a
left_falls [] a new old more = le_refl 0
left_falls (line ∷ lines) a new old more = go (is_open_line a new line) (is_open_line a old line) (open_falls a new old more line) (left_falls lines a new old more)
  where
    go : (n o : Bool) → (o ≡ false → n ≡ false) → lines_left lines new a ≤ lines_left lines old a →
        length (if n then line ∷ filter (is_open_line a new) lines else filter (is_open_line a new) lines) ≤
        length (if o then line ∷ filter (is_open_line a old) lines else filter (is_open_line a old) lines)
    go true true f l = omega arith
    go false true f l = omega arith
    go false false f l = l
    go true false f l = absurd (false≢true (sym (f refl)))

-- the next line, once it is answered, is one less
pub one_less : (script : List Line) (a : ℕ) (marks : Marks) (line : Line) → next_line script marks a ≡ Some line →
    lines_left script (put marks line.number true) a + 1 ≤ lines_left script marks a
one_less [] a marks line e = absurd (none-some line e)
one_less (x ∷ xs) a marks line e = go (is_open_line a marks x) refl e (one_less xs a marks line)
  where
    more : MarksMore (put marks line.number true) marks
    more = one_more marks line.number

    closed : x ≡ line → is_open_line a (put marks line.number true) x ≡ false
    closed i = subst (λ (l : Line). (l.who.0 == a && not (put marks line.number true l.number)) ≡ false) (sym i)
        (subst (λ b. (line.who.0 == a && not b) ≡ false) (sym (put_same marks line.number true)) (neither (line.who.0 == a)))
      where
        neither : (b : Bool) → b && false ≡ false
        neither true = refl
        neither false = refl

    less : (n : Bool) → n ≡ false → length (if n then x ∷ filter (is_open_line a (put marks line.number true)) xs else filter (is_open_line a (put marks line.number true)) xs) ≡
        lines_left xs (put marks line.number true) a
    less true i = absurd (false≢true (sym i))
    less false i = refl

    go : (o : Bool) → is_open_line a marks x ≡ o → (if o then Some x else next_line xs marks a) ≡ Some line →
        (next_line xs marks a ≡ Some line → lines_left xs (put marks line.number true) a + 1 ≤ lines_left xs marks a) →
        length (if is_open_line a (put marks line.number true) x then x ∷ filter (is_open_line a (put marks line.number true)) xs else filter
        (is_open_line a (put marks line.number true)) xs) + 1 ≤
        length (if o then x ∷ filter (is_open_line a marks) xs else filter (is_open_line a marks) xs)
    go true i f rest =
        let here : x ≡ line = same_Some x line f in
        let fewer : lines_left xs (put marks line.number true) a ≤ lines_left xs marks a = left_falls xs a (put marks line.number true) marks more in
        let is = less (is_open_line a (put marks line.number true) x) (closed here) in
        omega (arith, is, fewer)
    go false i f rest =
        let is = less (is_open_line a (put marks line.number true) x) (open_falls a (put marks line.number true) marks more x i) in
        let before = rest f in
        omega (arith, is, before)

-- ---- what a log comes to

pub record SameReach (new old : Server) : Type 0 where
  pub off : is_off new.phase ≡ is_off old.phase
  pub ring : new.ring ≡ old.ring

pub reach_is : (new old : Server) (slots : Slots) → SameReach new old → reach_of new slots ≡ reach_of old slots
reach_is new old slots x i = if x.off i then log_end slots else last (x.ring i) + LOG_IN_FLIGHT_MAX

pub mounted_on : (p : life.Phase) → is_in_mount p ≡ true → is_off p ≡ false
mounted_on life.Off e = absurd (false≢true e)
mounted_on life.Up e = refl
mounted_on life.Still e = refl
mounted_on (life.Doomed fate) e = refl
mounted_on life.Dead e = refl

pub as_reach : (new old : Server) → IsServerAs new old → SameReach new old
as_reach new old x = record { off = go x.phase; ring = x.ring }
  where
    go : IsPhaseAs new.phase old.phase → is_off new.phase ≡ is_off old.phase
    go (inl e) = ap is_off e
    go (inr m) = mounted_on new.phase m.0 ∙ sym (mounted_on old.phase m.1)

-- nothing is taken of the room
pub room_stays : (new old : Server) (slots : Slots) (less more : ℕ) → SameReach new old → less ≤ more → reach_of old slots + 100 * more ≤ 2 ^ 61 →
    reach_of new slots + 100 * less ≤ 2 ^ 61
room_stays new old slots less more same l h = go (reach_of new slots) (reach_of old slots) (reach_is new old slots same) h
  where
    go : (r q : ℕ) → r ≡ q → q + 100 * more ≤ 2 ^ 61 → r + 100 * less ≤ 2 ^ 61
    go r q e i = omega arith

pub enough : RoomIsEnough
enough s a room off = go (reach_of (s.core.servers a) (slots_of s.disk a)) (log_end (slots_of s.disk a)) (lines_left s.core.setting.script s.core.answered a)
    (ap (λ b. if b then log_end (slots_of s.disk a) else last (s.core.servers a).ring + LOG_IN_FLIGHT_MAX) off) room
  where
    go : (r e n : ℕ) → r ≡ e → r + 100 * n ≤ 2 ^ 61 → e < 2 ^ 62
    go r e n i h = omega arith
