-- What the marks, the lines under way and the answers so far tell of the script, and what an answer makes of it.
use Rattle.std.proofs.Common.{◌≡◌, ℕ, ◌⊎◌, inl, inr, true, false, if◌then◌else◌, List, [], ◌∷◌, ◌++◌, Option, Some, None, IsTrue, is_some, refl, sym, ap, ◌∙◌, subst, arith}
use Rattle.std.proofs.lemmas.Bool.{false≢true, eq-eqb, cases_eq}
use Rattle.std.proofs.lemmas.Bool.Decides.{nat_tests}
use Rattle.std.specs.Option.{option_map}
use Rattle.std.proofs.lemmas.Option.{none-some, same_Some}
use Rattle.disk_definitions.proofs.Listed.{Among, among_either, among_left, among_right}
use Rattle.frang_base.specs.Functions.{put}
use Rattle.frang_base.specs.declared.script.Line.{Line}
use Rattle.tree_definitions.specs.Transcript.{lines_before, lines_for}
use Rattle.core_definitions.specs.Lines.{operation_of}
use Rattle.core_definitions.specs.Scripts.{Marks, earlier_answered, host_party, hosts_answered, next_line}
use Rattle.core_definitions.specs.Servers.{Server}
use Rattle.core_definitions.specs.Cores.{Core}
use Rattle.core_definitions.specs.LineGuards.{is_server}
use Rattle.core_laws.proofs.Flying.{Once}
use Rattle.core_transcripts.specs.Answers.{answered_by, answered_lines, numbers_of}
use Rattle.core_transcripts.proofs.Places.{IsAt, answers_joined, answers_other, in_rest, more_marked, next_is, other_answer, own_answer, own_line, put_cases, put_more}

-- the line under way at a server
abbrev pub line_of : Server → Option Line
line_of server = option_map (λ under. under.line) server.under

-- ---- the marks beside the answers

pub record AreMarks (script : List Line) (marks : Marks) (answers : List (ℕ × ℕ)) : Type 0 where
  pub places : (who : ℕ) → (rest : List Line) × IsAt script marks (answered_by who answers) who rest
  pub known : (number : ℕ) → marks number ≡ true → Among number (answered_lines answers)
  pub marked : (number : ℕ) → Among number (answered_lines answers) → marks number ≡ true
  pub once : Once (answered_lines answers)
  pub after_hosts : (number : ℕ) → marks number ≡ true → IsTrue (hosts_answered script marks number)
  pub host_last : (line : Line) → Among line script → line.who.0 ≡ host_party → marks line.number ≡ true → IsTrue (earlier_answered script marks line.number)

lines_joined : (answers : List (ℕ × ℕ)) (a number : ℕ) → answered_lines (answers ++ (a, number) ∷ []) ≡ answered_lines answers ++ number ∷ []
lines_joined [] a number = refl
lines_joined (x ∷ xs) a number = ap (λ ns. x.1 ∷ ns) (lines_joined xs a number)

pushed : (xs : List ℕ) (x : ℕ) → Once xs → (Among x xs → ⊥) → Once (xs ++ x ∷ [])
pushed [] x o n = ((λ i. absurd i), tt)
pushed (y ∷ ys) x o n = ((λ i. apart (among_either y ys (x ∷ []) i)), pushed ys x o.1 (λ i. n (inr i)))
  where
    apart : Among y ys ⊎ Among y (x ∷ []) → ⊥
    apart (inl i) = o.0 i
    apart (inr (inl e)) = n (inl (sym e))
    apart (inr (inr i)) = i

-- the next line of a party is answered
module _ (script : List Line) (own : Once (numbers_of script)) (marks : Marks) (answers : List (ℕ × ℕ)) (m : AreMarks script marks answers) (a : ℕ) (line : Line) (next : next_line script marks a ≡ Some line) where
  abbrev later : Marks
  later = put marks line.number true

  -- its place, with the line in front
  front : (rest : List Line) × IsAt script marks (answered_by a answers) a (line ∷ rest)
  front = go (m.places a).0 (m.places a).1
    where
      none_some : None ≡ Some line → ⊥
      none_some e = absurd (cc)

      go : (rest : List Line) → IsAt script marks (answered_by a answers) a rest →
          (rest : List Line) × IsAt script marks (answered_by a answers) a (line ∷ rest)
      go [] at = absurd (none_some (sym (next_is script marks (answered_by a answers) a [] at) ∙ next))
      go (l ∷ ls) at = (ls, subst (λ x. IsAt script marks (answered_by a answers) a (x ∷ ls)) (same_Some l line (sym (next_is script marks (answered_by a answers) a (l ∷ ls) at) ∙ next)) at)

  there : Among line script × (line.who.0 ≡ a)
  there = in_rest script marks (answered_by a answers) a (line ∷ front.0) front.1 line (inl refl)

  was_open : marks line.number ≡ false
  was_open = front.1.open_.0

  not_answered : Among line.number (answered_lines answers) → ⊥
  not_answered i = false≢true (sym was_open ∙ m.marked line.number i)

  place_other : (who : ℕ) → (a ≡ who → ⊥) → IsAt script later (answered_by who answers) who (m.places who).0
  place_other who away = other_answer script own marks (answered_by who answers) who (m.places who).0 line there.0 (λ e. away (sym there.1 ∙ e)) (m.places who).1

  -- another party's next line stays
  pub next_stays : (who : ℕ) → (a ≡ who → ⊥) → next_line script later who ≡ next_line script marks who
  next_stays who away =
      next_is script later (answered_by who answers) who (m.places who).0 (place_other who away) ∙ sym (next_is script marks (answered_by who answers) who (m.places who).0 (m.places who).1)

  place : (who : ℕ) → (a ≡ who) ⊎ (a ≡ who → ⊥) → (rest : List Line) × IsAt script later (answered_by who (answers ++ (a, line.number) ∷ [])) who rest
  place who (inl e) = (
    front.0,
    subst (λ ns. IsAt script later ns who front.0) (sym (answers_joined who answers a line.number e))
        (subst (λ w. IsAt script later (answered_by w answers ++ line.number ∷ []) w front.0) e (own_answer script own marks (answered_by a answers) a line front.0 front.1)),
  )
  place who (inr away) = ((m.places who).0, subst (λ ns. IsAt script later ns who (m.places who).0) (sym (answers_other who answers a line.number away)) (place_other who away))

  more_hosts : (number : ℕ) → IsTrue (hosts_answered script marks number) → IsTrue (hosts_answered script later number)
  more_hosts number h = more_marked marks line.number (lines_before number (lines_for host_party script)) h

  more_earlier : (number : ℕ) → IsTrue (earlier_answered script marks number) → IsTrue (earlier_answered script later number)
  more_earlier number h = more_marked marks line.number (lines_before number script) h

  pub marked_then : IsTrue (hosts_answered script marks line.number) → (a ≡ host_party → IsTrue (earlier_answered script marks line.number)) →
      AreMarks script later (answers ++ (a, line.number) ∷ [])
  marked_then hosts earlier = record {
    places = λ who. place who (cases_eq a who);
    known = λ number e. subst (Among number) (sym (lines_joined answers a line.number)) (known number (put_cases marks line.number number e));
    marked = λ number i. marked number (among_either number (answered_lines answers) (line.number ∷ []) (subst (Among number) (lines_joined answers a line.number) i));
    once = subst Once (sym (lines_joined answers a line.number)) (pushed (answered_lines answers) line.number m.once not_answered);
    after_hosts = λ number e. hosts_then number (put_cases marks line.number number e);
    host_last = λ l i w e. last_then l i w (put_cases marks line.number l.number e);
  }
    where
      known : (number : ℕ) → (number ≡ line.number) ⊎ (marks number ≡ true) → Among number (answered_lines answers ++ line.number ∷ [])
      known number (inl e) = among_right number (answered_lines answers) (line.number ∷ []) (inl e)
      known number (inr e) = among_left number (answered_lines answers) (line.number ∷ []) (m.known number e)

      is_marked : put marks line.number true line.number ≡ true
      is_marked = ap (λ b. if b then true else marks line.number) (eq-eqb line.number line.number refl)

      marked : (number : ℕ) → Among number (answered_lines answers) ⊎ Among number (line.number ∷ []) → later number ≡ true
      marked number (inl i) = put_more marks line.number number (m.marked number i)
      marked number (inr (inl e)) = subst (λ n. later n ≡ true) (sym e) is_marked
      marked number (inr (inr i)) = absurd i

      hosts_then : (number : ℕ) → (number ≡ line.number) ⊎ (marks number ≡ true) → IsTrue (hosts_answered script later number)
      hosts_then number (inl e) = subst (λ n. IsTrue (hosts_answered script later n)) (sym e) (more_hosts line.number hosts)
      hosts_then number (inr e) = more_hosts number (m.after_hosts number e)

      last_then : (l : Line) → Among l script → l.who.0 ≡ host_party → (l.number ≡ line.number) ⊎ (marks l.number ≡ true) →
          IsTrue (earlier_answered script later l.number)
      last_then l i w (inl e) =
          subst (λ n. IsTrue (earlier_answered script later n)) (sym e)
          (more_earlier line.number (earlier (sym there.1 ∙ ap (λ x. x.who.0) (sym (own_line script own l line i there.0 e)) ∙ w)))
      last_then l i w (inr e) = more_earlier l.number (m.host_last l i w e)

-- ---- the lines under way

pub record IsUnderWay (script : List Line) (marks : Marks) (a : ℕ) (line : Line) : Type 0 where
  pub next : next_line script marks a ≡ Some line
  pub asked : IsTrue (is_some (operation_of line.what))
  pub hosts : IsTrue (hosts_answered script marks line.number)

pub record Told (script : List Line) (c : Core) (answers : List (ℕ × ℕ)) : Type 0 where
  pub script_is : c.setting.script ≡ script
  pub marks : AreMarks script c.answered answers
  pub under : (a : ℕ) → IsTrue (is_server a) → (line : Line) → line_of (c.servers a) ≡ Some line → IsUnderWay script c.answered a line

-- the line under way stays, or none is
abbrev pub Keeps : Server → Server → Type 0
Keeps old new = (line_of new ≡ line_of old) ⊎ (line_of new ≡ None)

kept_line : (old new : Server) (line : Line) → Keeps old new → line_of new ≡ Some line → line_of old ≡ Some line
kept_line old new line (inl e) f = sym e ∙ f
kept_line old new line (inr e) f = absurd (none_some (sym e ∙ f))
  where
    none_some : None ≡ Some line → ⊥
    none_some e = absurd (cc)

-- the marks are as before, and so are the lines under way, but where none is
pub quiet : (script : List Line) (c d : Core) (answers : List (ℕ × ℕ)) → d.setting.script ≡ c.setting.script → d.answered ≡ c.answered →
    ((i : ℕ) → Keeps (c.servers i) (d.servers i)) →
    Told script c answers → Told script d answers
quiet script c d answers same marks keeps t = record {
  script_is = same ∙ t.script_is;
  marks = subst (λ m. AreMarks script m answers) (sym marks) t.marks;
  under = λ a server line e. subst (λ m. IsUnderWay script m a line) (sym marks) (t.under a server line (kept_line (c.servers a) (d.servers a) line (keeps a) e));
}

server_no_host : (a : ℕ) → IsTrue (is_server a) → a ≡ host_party → ⊥
server_no_host a h e = absurd (grind (arith, nat_tests, h, e))

-- what is under way stays so when the line of another party is answered
still_under_way : (script : List Line) → Once (numbers_of script) → (marks : Marks) (answers : List (ℕ × ℕ)) → AreMarks script marks answers →
    (a : ℕ) (line : Line) → next_line script marks a ≡ Some line →
    (b : ℕ) (other : Line) → (a ≡ b → ⊥) → IsUnderWay script marks b other → IsUnderWay script (put marks line.number true) b other
still_under_way script own marks answers m a line next b other away u = record {
  next = next_stays script own marks answers m a line next b away ∙ u.next;
  asked = u.asked;
  hosts = more_marked marks line.number (lines_before other.number (lines_for host_party script)) u.hosts;
}

-- a server answers its line under way
pub server_answers : (script : List Line) → Once (numbers_of script) → (c d : Core) (answers : List (ℕ × ℕ)) (a : ℕ) (line : Line) →
    IsTrue (is_server a) → line_of (c.servers a) ≡ Some line →
    d.setting.script ≡ c.setting.script → d.answered ≡ put c.answered line.number true → line_of (d.servers a) ≡ None → ((i : ℕ) → (a ≡ i → ⊥) → Keeps (c.servers i) (d.servers i)) →
    Told script c answers → Told script d (answers ++ (a, line.number) ∷ [])
server_answers script own c d answers a line server has same marks none keeps t = record {
  script_is = same ∙ t.script_is;
  marks = subst (λ m. AreMarks script m (answers ++ (a, line.number) ∷ [])) (sym marks)
      (marked_then script own c.answered answers t.marks a line u.next u.hosts (λ e. absurd (server_no_host a server e)));
  under = λ b other l e. subst (λ m. IsUnderWay script m b l) (sym marks) (at b other l e (cases_eq a b));
}
  where
    u : IsUnderWay script c.answered a line
    u = t.under a server line has

    at : (b : ℕ) → IsTrue (is_server b) → (l : Line) → line_of (d.servers b) ≡ Some l → (a ≡ b) ⊎ (a ≡ b → ⊥) →
        IsUnderWay script (put c.answered line.number true) b l
    at b other l e (inl same) = absurd (none-some l (sym none ∙ ap (λ i. line_of (d.servers i)) same ∙ e))
    at b other l e (inr away) =
        still_under_way script own c.answered answers t.marks a line u.next b l away (t.under b other l (kept_line (c.servers b) (d.servers b) l (keeps b away) e))

-- the host answers its next line
pub host_answers : (script : List Line) → Once (numbers_of script) → (c d : Core) (answers : List (ℕ × ℕ)) (line : Line) →
    next_line script c.answered host_party ≡ Some line →
    IsTrue (earlier_answered script c.answered line.number) → IsTrue (hosts_answered script c.answered line.number) → d.setting.script ≡ c.setting.script →
    d.answered ≡ put c.answered line.number true → ((i : ℕ) → Keeps (c.servers i) (d.servers i)) → Told script c answers → Told script d (answers ++ (host_party, line.number) ∷ [])
host_answers script own c d answers line next earlier hosts same marks keeps t = record {
  script_is = same ∙ t.script_is;
  marks = subst (λ m. AreMarks script m (answers ++ (host_party, line.number) ∷ [])) (sym marks) (marked_then script own c.answered answers t.marks host_party line next hosts (λ e. earlier));
  under = λ b server l e. subst (λ m. IsUnderWay script m b l) (sym marks)
      (still_under_way script own c.answered answers t.marks host_party line next b l (λ f. server_no_host b server (sym f)) (t.under b server l (kept_line (c.servers b) (d.servers b) l (keeps b) e)));
}

-- a server begins its next line
pub server_begins : (script : List Line) (c d : Core) (answers : List (ℕ × ℕ)) (a : ℕ) → d.setting.script ≡ c.setting.script → d.answered ≡ c.answered →
    ((line : Line) → line_of (d.servers a) ≡ Some line → (line_of (c.servers a) ≡ Some line) ⊎ IsUnderWay script c.answered a line) →
    ((i : ℕ) → (a ≡ i → ⊥) → Keeps (c.servers i) (d.servers i)) →
    Told script c answers → Told script d answers
server_begins script c d answers a same marks begins keeps t = record {
  script_is = same ∙ t.script_is;
  marks = subst (λ m. AreMarks script m answers) (sym marks) t.marks;
  under = λ b server line e. subst (λ m. IsUnderWay script m b line) (sym marks) (at b server line e (cases_eq a b));
}
  where
    begun : (line : Line) → IsTrue (is_server a) → (line_of (c.servers a) ≡ Some line) ⊎ IsUnderWay script c.answered a line →
        IsUnderWay script c.answered a line
    begun line server (inl e) = t.under a server line e
    begun line server (inr u) = u

    at : (b : ℕ) → IsTrue (is_server b) → (line : Line) → line_of (d.servers b) ≡ Some line → (a ≡ b) ⊎ (a ≡ b → ⊥) → IsUnderWay script c.answered b line
    at b server line e (inl f) =
        subst (λ i. IsUnderWay script c.answered i line) f
        (begun line (subst (λ i. IsTrue (is_server i)) (sym f) server) (begins line (ap (λ i. line_of (d.servers i)) f ∙ e)))
    at b server line e (inr away) = t.under b server line (kept_line (c.servers b) (d.servers b) line (keeps b away) e)
