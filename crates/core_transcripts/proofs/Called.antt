-- What calls for a death, by the lines said: it is the same whatever faults are told, and stays while nothing is said of its server.
use Rattle.std.proofs.Common.{ℕ, suc, ◌≡◌, ◌+◌, Bool, true, false, not, ◌&&◌, ◌||◌, if◌then◌else◌, IsTrue, List, [], ◌∷◌, ◌++◌, Option, Some, None, filter, length, nat_eq, refl, sym, ap, ◌∙◌, subst}
use Rattle.std.proofs.lemmas.Bool.{false≢true, or_left}
use Rattle.std.specs.List.{slice_get}
use Rattle.frang_base.specs.declared.op.Op.{Op}
use Rattle.frang_base.specs.declared.op.What.{What}
use Rattle.frang_base.specs.declared.op.What.TheVariants.{Server, Host}
use Rattle.frang_base.specs.declared.reply.Reply.{Reply}
use Rattle.frang_base.specs.declared.said.Said.{Said}
use Rattle.frang_base.specs.declared.said.Said.TheVariants as said
use Rattle.frang_base.specs.declared.script.Line.{Line}
use Rattle.tree_definitions.specs.Live.{line_of}
use Rattle.tree_definitions.specs.Touched.{is_mounted, is_ok}
use Rattle.tree_definitions.specs.Transcript.{Faults, ServerState, after_answer, after_asked, after_death, after_line, after_renewal, after_said, calls_death, dirty_after, first_state, is_answer_of, is_called_for, is_change_line, is_crash_line, is_io, is_io_of, is_stalled, is_unexplained, lines_for, may_be_dirty, may_die_now, next_line, no_faults, phase_after, state_from, state_of}
use Rattle.tree_definitions.specs.Transcript.Phase.{Off}
use Rattle.core_definitions.specs.Servers.{Phase, Off as OffNow, Up, Still, Doomed, Dead, is_doomed}
use Rattle.core_transcripts.proofs.Saying.{count_push, dirty_push, state_push}

-- ---- whatever faults are told

-- the same phase, and a death called for in both or in neither
pub record Alike (t u : ServerState) : Type 0 where
  pub phase : u.phase ≡ t.phase
  pub may_die : u.may_die ≡ t.may_die

answer_alike : (t u : ServerState) (o : Op) (r : Reply) → Alike t u → Alike (after_answer t o r) (after_answer u o r)
answer_alike t u o r a = record {
  phase = ap (λ p. phase_after p o r) a.phase;
  may_die = ap (λ d. not (is_mounted r) && (d || (calls_death o && is_ok r))) a.may_die;
}

asked_alike : (t u : ServerState) (w : What) (r : Reply) → Alike t u → Alike (after_asked t w r) (after_asked u w r)
asked_alike t u (Server o) r a = answer_alike t u o r a
asked_alike t u (Host h) r a = a

line_alike : (t u : ServerState) (l : Option Line) (r : Reply) → Alike t u → Alike (after_line t l r) (after_line u l r)
line_alike t u None r a = a
line_alike t u (Some l) r a = asked_alike t u l.what r a

if_alike : (b : Bool) (t u v w : ServerState) → Alike t u → Alike v w → Alike (if b then v else t) (if b then w else u)
if_alike true t u v w a b = b
if_alike false t u v w a b = a

said_alike : (script : List Line) (i : ℕ) (e f : Bool) (t u : ServerState) (x : Said) → Alike t u → Alike (after_said script i e t x) (after_said script i f u x)
said_alike script i e f t u (said.Answer s n r) a =
    if_alike (nat_eq s.0 i) t u (after_line t (line_of script n) r) (after_line u (line_of script n) r) a (line_alike t u (line_of script n) r a)
said_alike script i e f t u (said.Dead s) a = if_alike (nat_eq s.0 i) t u (after_death t e) (after_death u f) a (record { phase = refl; may_die = refl })
said_alike script i e f t u (said.Recovering s by) a =
    if_alike (nat_eq s.0 i) t u (record t { under_recovery = true }) (record u { under_recovery = true }) a (record { phase = a.phase; may_die = a.may_die })
said_alike script i e f t u (said.Recovered s kept) a =
    if_alike (nat_eq s.0 i) t u (record t { phase = Off }) (record u { phase = Off }) a (record { phase = refl; may_die = a.may_die })
said_alike script i e f t u (said.Renewed s) a = if_alike (nat_eq s.0 i) t u (after_renewal t) (after_renewal u) a (record { phase = refl; may_die = a.may_die })
said_alike script i e f t u x a = a

from_alike : (script : List Line) (f h : Faults) (i place : ℕ) (t u : ServerState) (saids : List Said) → Alike t u → Alike (state_from script f i place t saids) (state_from script h i place u saids)
from_alike script f h i place t u [] a = a
from_alike script f h i place t u (x ∷ xs) a =
    from_alike script f h i (place + 1) (after_said script i (f place i) t x) (after_said script i (h place i) u x) xs (said_alike script i (f place i) (h place i) t u x a)

pub state_alike : (script : List Line) (f h : Faults) (i : ℕ) (saids : List Said) → Alike (state_of script f i saids) (state_of script h i saids)
state_alike script f h i saids = from_alike script f h i 0 first_state first_state saids (record { phase = refl; may_die = refl })

pub called_alike : (t u : ServerState) (next : Option Line) (dirty : Bool) → Alike t u → is_called_for u next dirty ≡ is_called_for t next dirty
called_alike t u next dirty a =
    ap (λ m. m || is_crash_line next || (is_stalled u.phase && dirty)) a.may_die ∙ ap (λ p. t.may_die || is_crash_line next || (is_stalled p && dirty)) a.phase

-- ---- one line later

-- the lines said call for the death of this server
abbrev pub called : List Line → ℕ → List Said → Bool
called script i saids = is_called_for (state_of script no_faults i saids) (next_line i script saids) (may_be_dirty script i saids)

-- nothing is said of this server: neither an answer of it, nor of its life
abbrev pub IsAside : ℕ → Said → Type 0
IsAside i (said.Answer s n r) = nat_eq s.0 i ≡ false
IsAside i (said.Dead s) = nat_eq s.0 i ≡ false
IsAside i (said.Recovering s by) = nat_eq s.0 i ≡ false
IsAside i (said.Recovered s kept) = nat_eq s.0 i ≡ false
IsAside i (said.Renewed s) = nat_eq s.0 i ≡ false
IsAside i x = Unit {0}

aside_state : (script : List Line) (i : ℕ) (e : Bool) (t : ServerState) (x : Said) → IsAside i x → after_said script i e t x ≡ t
aside_state script i e t (said.Answer s n r) h = ap (λ b. if b then after_line t (line_of script n) r else t) h
aside_state script i e t (said.Dead s) h = ap (λ b. if b then after_death t e else t) h
aside_state script i e t (said.Recovering s by) h = ap (λ b. if b then record t { under_recovery = true } else t) h
aside_state script i e t (said.Recovered s kept) h = ap (λ b. if b then record t { phase = Off } else t) h
aside_state script i e t (said.Renewed s) h = ap (λ b. if b then after_renewal t else t) h
aside_state script i e t x h = refl

aside_answer : (i : ℕ) (x : Said) → IsAside i x → is_answer_of i x ≡ false
aside_answer i (said.Answer s n r) h = h
aside_answer i x h = refl

pub aside_io : (i : ℕ) (x : Said) → IsAside i x → is_io_of i x ≡ false
aside_io i (said.Answer s n r) h = ap (λ b. b && is_io r) h
aside_io i x h = refl

pub aside_explained : (script : List Line) (i : ℕ) (saids : List Said) (x : Said) → IsAside i x → is_unexplained script i saids x ≡ false
aside_explained script i saids (said.Dead s) h = ap (λ b. b && not (may_die_now script no_faults saids i)) h
aside_explained script i saids x h = refl

aside_dirty : (script : List Line) (i : ℕ) (d : Bool) (x : Said) → IsAside i x → IsTrue d → IsTrue (dirty_after script i d x)
aside_dirty script i d (said.Answer s n r) h t = subst (λ b. IsTrue (if b then not (is_mounted r) && (d || is_change_line (line_of script n)) else d)) (sym h) t
aside_dirty script i d (said.Recovering s by) h t = or_left d (nat_eq by.0 i) t
aside_dirty script i d x h t = t

more_dirt : (m c s d e : Bool) → (IsTrue d → IsTrue e) → IsTrue (m || c || (s && d)) → IsTrue (m || c || (s && e))
more_dirt true c s d e more h = refl
more_dirt false true s d e more h = refl
more_dirt false false true d e more h = more h
more_dirt false false false d e more h = h

pub called_more : (script : List Line) (i : ℕ) (saids : List Said) (x : Said) → IsAside i x → IsTrue (called script i saids) → IsTrue (called script i (saids ++ x ∷ []))
called_more script i saids x aside h =
    subst (λ t. IsTrue (is_called_for t (next_line i script (saids ++ x ∷ [])) (may_be_dirty script i (saids ++ x ∷ []))))
    (sym (state_push script no_faults i saids x ∙ aside_state script i false (state_of script no_faults i saids) x aside))
    (subst (λ n. IsTrue (is_called_for (state_of script no_faults i saids) n (may_be_dirty script i (saids ++ x ∷ [])))) (sym next_same)
    (subst (λ d. IsTrue (is_called_for (state_of script no_faults i saids) (next_line i script saids) d)) (sym (dirty_push script i saids x))
    (more_dirt (state_of script no_faults i saids).may_die (is_crash_line (next_line i script saids)) (is_stalled (state_of script no_faults i saids).phase) (may_be_dirty script i saids)
    (dirty_after script i (may_be_dirty script i saids) x) (aside_dirty script i (may_be_dirty script i saids) x aside) h)))
  where
    next_same : next_line i script (saids ++ x ∷ []) ≡ next_line i script saids
    next_same =
        ap (λ n. slice_get (lines_for i script) n)
        (count_push (is_answer_of i) saids x ∙ ap (λ b. if b then suc (length (filter (is_answer_of i) saids)) else length (filter (is_answer_of i) saids)) (aside_answer i x aside))

-- ---- at a server that is doomed

-- its death is called for, or a call of its mount failed
abbrev pub CallFits : Phase → Bool → Bool → Type 0
CallFits (Doomed fate) failed calls = IsTrue (calls || failed)
CallFits phase failed calls = Unit {0}

pub undoomed : (p : Phase) (failed calls : Bool) → is_doomed p ≡ false → CallFits p failed calls
undoomed OffNow failed calls h = tt
undoomed Up failed calls h = tt
undoomed Still failed calls h = tt
undoomed (Doomed fate) failed calls h = absurd (false≢true (sym h))
undoomed Dead failed calls h = tt

or_more : (a b c : Bool) → (IsTrue a → IsTrue c) → IsTrue (a || b) → IsTrue (c || b)
or_more true b c more h = or_left c b (more refl)
or_more false true true more h = refl
or_more false true false more h = refl
or_more false false c more h = absurd (false≢true h)

pub calls_more : (p : Phase) (failed c d : Bool) → (IsTrue c → IsTrue d) → CallFits p failed c → CallFits p failed d
calls_more OffNow failed c d more h = tt
calls_more Up failed c d more h = tt
calls_more Still failed c d more h = tt
calls_more (Doomed fate) failed c d more h = or_more c failed d more h
calls_more Dead failed c d more h = tt

fails_either : (c failed m : Bool) → IsTrue (c || failed) → IsTrue (c || (failed || m))
fails_either true failed m h = refl
fails_either false true m h = refl
fails_either false false m h = absurd (false≢true h)

pub fails_more : (p : Phase) (failed m c : Bool) → CallFits p failed c → CallFits p (failed || m) c
fails_more OffNow failed m c h = tt
fails_more Up failed m c h = tt
fails_more Still failed m c h = tt
fails_more (Doomed fate) failed m c h = fails_either c failed m h
fails_more Dead failed m c h = tt
