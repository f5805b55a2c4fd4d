-- Over every run the answers follow the script.
use Rattle.std.proofs.Common.{◌≡◌, ℕ, ◌<◌, inl, Bool, true, false, not, ◌&&◌, ◌==◌, if◌then◌else◌, find, List, [], ◌∷◌, ◌++◌, Some, None, IsTrue, filter, length, nat_lt, refl, sym, ap, ◌∙◌, subst}
use Rattle.std.proofs.lemmas.List.Elements.{filter_map-append}
use Rattle.std.specs.List.{Contains, cons_option, slice_get}
use Rattle.std.specs.Option.{option_map}
use Rattle.std.proofs.lemmas.Option.{same_Some}
use Rattle.std.proofs.lemmas.Bool.{eq-eqb, lt-ltb, and_parts}
use Rattle.disk_definitions.proofs.Listed.{Among, among_filter}
use Rattle.frang_base.specs.declared.said.Said.{Said}
use Rattle.frang_base.specs.declared.said.Said.TheVariants as said
use Rattle.frang_base.specs.declared.script.Line.{Line}
use Rattle.sector_bytes.specs.Sectors.{Sectors}
use Rattle.tree_definitions.specs.Transcript.{is_answer_of, lines_before, lines_for, next_line}
use Rattle.core_definitions.specs.Lines.{Under}
use Rattle.core_definitions.specs.Scripts.{host_party, next_line as next_by_marks}
use Rattle.core_definitions.specs.Cores.{next_of}
use Rattle.core_definitions.specs.Settings.{Setting}
use Rattle.core_definitions.specs.LineGuards.{is_server}
use Rattle.core_definitions.specs.Effects.{Says, deeds_of}
use Rattle.core_definitions.specs.Runs.{State, Step, Event_, Enter, Hold, Flush, Relock, Note, Peek, PeekFails, Run, first_state, goes_on, is_note, saids_of}
use Rattle.core_laws.specs.Laws.{AreOnce}
use Rattle.core_laws.proofs.Flying.{Once, as_words, once_of}
use Rattle.core_laws.proofs.Membership.{contains_in, in_contains}
use Rattle.core_laws.proofs.Along.{along}
use Rattle.core_transcripts.specs.Answers.{HaveOwnNumbers, answer_of, answer_said, answered_by, answered_lines, answers_in, numbers_of}
use Rattle.core_transcripts.proofs.LinesAnswering.{event_told, put_keeps, same, silent, wanting_keeps}
use Rattle.core_transcripts.proofs.Counting.{as_many, length_numbers, line_behind}
use Rattle.core_transcripts.proofs.Places.{IsAt, at_first, in_rest, marked_there, next_is, own_line}
use Rattle.core_transcripts.proofs.AnswersTelling.{IsUnderWay, Told, quiet}

note_mute : (line : Said) → IsTrue (is_note line) → answer_said line ≡ None
note_mute (said.Backup line) n = refl
note_mute (said.Locks line) n = refl
note_mute line n = absurd (cc)

-- the first that passes one test and not the other doesn't pass the other
open_one : (test marked : Line → Bool) (xs : List Line) (x : Line) → find (λ y. test y && not (marked y)) xs ≡ Some x → marked x ≡ false
open_one test marked [] x e = absurd (cc)
open_one test marked (y ∷ ys) x e = go (test y) (marked y) refl (λ f. open_one test marked ys x f) e
  where
    go : (t m : Bool) → marked y ≡ m → (find (λ y. test y && not (marked y)) ys ≡ Some x → marked x ≡ false) →
        (if t && not m then Some y else find (λ y. test y && not (marked y)) ys) ≡ Some x → marked x ≡ false
    go true false f behind e = ap marked (sym (same_Some y x e)) ∙ f
    go true true f behind e = behind e
    go false m f behind e = behind e

module _ (script : List Line) (own : Once (numbers_of script)) where
  step_told : (s v : State) → Step s v → Told script s.core (answers_in s.record_) → Told script v.core (answers_in v.record_)
  step_told s v (Event_ event heard makes) t =
      subst (Told script v.core) (sym (filter_map-append answer_of s.record_ (deeds_of s.core event heard))) (event_told script own s event heard (answers_in s.record_) makes t)
  step_told s v (Enter a line can) t = same script own s.core v.core (answers_in s.record_) refl refl refl t
  step_told s v (Hold a on may) t = same script own s.core v.core (answers_in s.record_) refl refl refl t
  step_told s v (Flush a may) t = quiet script s.core v.core (answers_in s.record_) refl refl (put_keeps s.core.servers a _ (wanting_keeps (s.core.servers a))) t
  step_told s v (Relock locks going good alike wait) t = same script own s.core v.core (answers_in s.record_) refl refl refl t
  step_told s v (Note line may) t =
      subst (Told script v.core) (sym (filter_map-append answer_of s.record_ (Says line ∷ [])))
      (silent script s.core (answers_in s.record_) (answers_in (Says line ∷ [])) (ap (λ o. cons_option o []) (note_mute line (and_parts (is_note line) (goes_on s.core) may).0)) t)
  step_told s v (Peek sector going) t = t
  step_told s v (PeekFails sector going) t = same script own s.core v.core (answers_in s.record_) refl refl refl t

first_told : (setting : Setting) (disk : Sectors) → Told setting.script (first_state setting disk).core []
first_told setting disk = record {
  script_is = refl;
  marks = record {
    places = λ who. (lines_for who setting.script, at_first setting.script (λ number. false) who (λ number. refl));
    known = λ number e. absurd (cc);
    marked = λ number i. absurd i;
    once = tt;
    after_hosts = λ number e. absurd (cc);
    host_last = λ line i w e. absurd (cc);
  };
  under = λ a server line e. absurd (cc);
}

module _ (setting : Setting) (disk : Sectors) (s : State) (own : HaveOwnNumbers setting.script) (run : Run (first_state setting disk) s) where
  told : Told setting.script s.core (answers_in s.record_)
  told =
      along setting disk (λ v. Told setting.script v.core (answers_in v.record_))
      (λ v w before step t. step_told setting.script (once_of (numbers_of setting.script) own) v w step t) (first_told setting disk) s run

  pub answered_once : AreOnce (answered_lines (answers_in s.record_))
  answered_once = as_words (answered_lines (answers_in s.record_)) told.marks.once

  pub in_order : (who : ℕ) → (rest : List ℕ) × (numbers_of (lines_for who setting.script) ≡ answered_by who (answers_in s.record_) ++ rest)
  in_order who = go (told.marks.places who).0 (told.marks.places who).1
    where
      joined : (xs ys : List Line) → numbers_of (xs ++ ys) ≡ numbers_of xs ++ numbers_of ys
      joined [] ys = refl
      joined (x ∷ xs) ys = ap (λ ns. x.number ∷ ns) (joined xs ys)

      go : (rest : List Line) → IsAt setting.script s.core.answered (answered_by who (answers_in s.record_)) who rest →
          (rest : List ℕ) × (numbers_of (lines_for who setting.script) ≡ answered_by who (answers_in s.record_) ++ rest)
      go rest at = (numbers_of rest, ap numbers_of at.lines ∙ joined at.done rest ∙ ap (λ ns. ns ++ numbers_of rest) at.numbers_are)

  pub next_by_record : (who : ℕ) → next_of s.core who ≡ next_line who setting.script (saids_of s.record_)
  next_by_record who = go (told.marks.places who).0 (told.marks.places who).1
    where
      go : (rest : List Line) → IsAt setting.script s.core.answered (answered_by who (answers_in s.record_)) who rest →
          next_of s.core who ≡ next_line who setting.script (saids_of s.record_)
      go rest at =
          ap (λ script. next_by_marks script s.core.answered who) told.script_is ∙ next_is setting.script s.core.answered (answered_by who (answers_in s.record_)) who rest at
          ∙ sym (line_behind at.done rest)
          ∙ (λ i. slice_get (sym at.lines i) (answers i))
        where
          answers : length at.done ≡ length (filter (is_answer_of who) (saids_of s.record_))
          answers = sym (length_numbers at.done) ∙ ap length at.numbers_are ∙ sym (as_many who s.record_)

  is_answered : (number : ℕ) → Contains (answered_lines (answers_in s.record_)) number → s.core.answered number ≡ true
  is_answered number h = told.marks.marked number (contains_in (answered_lines (answers_in s.record_)) number h)

  has_answer : (number : ℕ) → s.core.answered number ≡ true → Contains (answered_lines (answers_in s.record_)) number
  has_answer number e = in_contains (answered_lines (answers_in s.record_)) number (told.marks.known number e)

  pub behind_hosts : (number : ℕ) (host : Line) → Contains (answered_lines (answers_in s.record_)) number → Contains setting.script host →
      host.who.0 ≡ host_party → host.number < number →
      Contains (answered_lines (answers_in s.record_)) host.number
  behind_hosts number host h there who less_ =
      has_answer host.number
      (marked_there s.core.answered (lines_before number (lines_for host_party setting.script)) host (told.marks.after_hosts number (is_answered number h))
      (among_filter (λ l. nat_lt l.number number) (lines_for host_party setting.script) host
      (among_filter (λ l. l.who.0 == host_party) setting.script host (contains_in setting.script host there) (eq-eqb host.who.0 host_party who))
      (lt-ltb host.number number less_)))

  pub hosts_behind : (host line : Line) → Contains setting.script host → host.who.0 ≡ host_party →
      Contains (answered_lines (answers_in s.record_)) host.number → Contains setting.script line →
      line.number < host.number → Contains (answered_lines (answers_in s.record_)) line.number
  hosts_behind host line there who h place less_ =
      has_answer line.number
      (marked_there s.core.answered (lines_before host.number setting.script) line (told.marks.host_last host (contains_in setting.script host there) who (is_answered host.number h))
      (among_filter (λ l. nat_lt l.number host.number) setting.script line (contains_in setting.script line place) (lt-ltb line.number host.number less_)))

  -- a line under way is of its server
  of_server : (a : ℕ) (u : Under) → IsTrue (is_server a) → (s.core.servers a).under ≡ Some u → Among u.line setting.script × (u.line.who.0 ≡ a)
  of_server a u server e = go (told.marks.places a).0 (told.marks.places a).1
    where
      way : IsUnderWay setting.script s.core.answered a u.line
      way = told.under a server u.line (ap (option_map (λ x. x.line)) e)

      none_some : None ≡ Some u.line → ⊥
      none_some e = absurd (cc)

      go : (rest : List Line) → IsAt setting.script s.core.answered (answered_by a (answers_in s.record_)) a rest →
          Among u.line setting.script × (u.line.who.0 ≡ a)
      go [] at = absurd (none_some (sym (next_is setting.script s.core.answered (answered_by a (answers_in s.record_)) a [] at) ∙ way.next))
      go (l ∷ ls) at =
          in_rest setting.script s.core.answered (answered_by a (answers_in s.record_)) a (l ∷ ls) at u.line
          (inl (sym (same_Some l u.line (sym (next_is setting.script s.core.answered (answered_by a (answers_in s.record_)) a (l ∷ ls) at) ∙ way.next))))

  -- a line under way is its server's next, and so not answered
  pub under_way_next : (a : ℕ) (u : Under) → IsTrue (is_server a) → (s.core.servers a).under ≡ Some u → (next_of s.core a ≡ Some u.line) × (s.core.answered u.line.number ≡ false)
  under_way_next a u server e = (
    ap (λ script. next_by_marks script s.core.answered a) told.script_is ∙ way.next,
    open_one (λ line. line.who.0 == a) (λ line. s.core.answered line.number) setting.script u.line way.next,
  )
    where
      way : IsUnderWay setting.script s.core.answered a u.line
      way = told.under a server u.line (ap (option_map (λ x. x.line)) e)

  pub under_way_once : (a b : ℕ) (one other : Under) → IsTrue (is_server a) → IsTrue (is_server b) → (s.core.servers a).under ≡ Some one →
      (s.core.servers b).under ≡ Some other →
      one.line.number ≡ other.line.number → a ≡ b
  under_way_once a b one other sa sb e f n =
      let p : Among one.line setting.script × (one.line.who.0 ≡ a) = of_server a one sa e in
      let q : Among other.line setting.script × (other.line.who.0 ≡ b) = of_server b other sb f in
      sym p.1 ∙ ap (λ l. l.who.0) (own_line setting.script (once_of (numbers_of setting.script) own) one.line other.line p.0 q.0 n) ∙ q.1
