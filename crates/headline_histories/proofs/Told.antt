-- By the lines of a transcript who isn't off was mounted, and not recovered since.
use Rattle.std.proofs.Common.{ℕ, ◌≡◌, ◌+◌, ◌==◌, ◌&&◌, ◌||◌, not, Bool, true, false, if◌then◌else◌, Option, Some, None, List, [], ◌∷◌, ◌++◌, length, refl, sym, ◌∙◌, ap, subst}
use Rattle.std.proofs.lemmas.Bool.{and_parts, eqb-true, false≢true}
use Rattle.std.proofs.lemmas.List.Concat.{flat_map-append}
use Rattle.frang_base.specs.declared.op.Op.{Op}
use Rattle.frang_base.specs.declared.op.What.{What}
use Rattle.frang_base.specs.declared.op.What.TheVariants.{Server, Host}
use Rattle.frang_base.specs.declared.reply.Reply.{Reply}
use Rattle.frang_base.specs.declared.said.Said.{Said}
use Rattle.frang_base.specs.declared.said.Said.TheVariants as said
use Rattle.frang_base.specs.declared.script.Line.{Line}
use Rattle.frang_base.specs.declared.sector.ServerId.{ServerId}
use Rattle.tree_definitions.specs.declared.history.Item.{Item}
use Rattle.tree_definitions.specs.declared.history.Item.TheVariants.{Did, Recovered}
use Rattle.tree_definitions.specs.History.{Opening}
use Rattle.tree_definitions.specs.Live.{item_of, item_of_line, item_of_what, line_of, live_history, script_time}
use Rattle.tree_definitions.specs.Touched.{is_mounted, is_ok, is_stall, is_unmount}
use Rattle.tree_definitions.specs.Transcript.{Faults, Phase, ServerState, after_asked, after_death, after_line, after_renewal, after_said, first_state, goes_on, is_called_for, is_in_mount, is_off, is_stalled, is_up, may_be_dirty, may_be_renewed, may_die_now, next_line, no_faults, phase_after, state_from, state_of}
use Rattle.core_transcripts.specs.Transcripts.{EachMay, MaySayButTree}
use Rattle.core_transcripts.proofs.Saying.{state_push}

-- ---- whatever faults are told, a server's phase is the same

module _ (script : List Line) (a : ℕ) where
  either : (own : Bool) (t u x y : ServerState) → u.phase ≡ t.phase → y.phase ≡ x.phase → (if own then y else u).phase ≡ (if own then x else t).phase
  either true t u x y same then_ = then_
  either false t u x y same then_ = same

  of_asked : (t u : ServerState) (w : What) (r : Reply) → u.phase ≡ t.phase → (after_asked u w r).phase ≡ (after_asked t w r).phase
  of_asked t u (Server o) r same = ap (λ p. phase_after p o r) same
  of_asked t u (Host h) r same = same

  of_answer : (t u : ServerState) (l : Option Line) (r : Reply) → u.phase ≡ t.phase → (after_line u l r).phase ≡ (after_line t l r).phase
  of_answer t u None r same = same
  of_answer t u (Some l) r same = of_asked t u l.what r same

  one_alike : (e f : Bool) (t u : ServerState) (x : Said) → u.phase ≡ t.phase → (after_said script a f u x).phase ≡ (after_said script a e t x).phase
  one_alike e f t u (said.Answer s n r) same = either (s.0 == a) t u (after_line t (line_of script n) r) (after_line u (line_of script n) r) same (of_answer t u (line_of script n) r same)
  one_alike e f t u (said.Dead s) same = either (s.0 == a) t u (after_death t e) (after_death u f) same refl
  one_alike e f t u (said.Recovering s by) same = either (s.0 == a) t u (record t { under_recovery = true }) (record u { under_recovery = true }) same same
  one_alike e f t u (said.Recovered s kept) same = either (s.0 == a) t u (record t { phase = Phase.Off }) (record u { phase = Phase.Off }) same refl
  one_alike e f t u (said.Renewed s) same = either (s.0 == a) t u (after_renewal t) (after_renewal u) same refl
  one_alike e f t u x same = same

  all_alike : (f g : Faults) (place : ℕ) (t u : ServerState) (saids : List Said) → u.phase ≡ t.phase → (state_from script g a place u saids).phase ≡ (state_from script f a place t saids).phase
  all_alike f g place t u [] same = same
  all_alike f g place t u (x ∷ saids) same =
      all_alike f g (place + 1) (after_said script a (f place a) t x) (after_said script a (g place a) u x) saids (one_alike (f place a) (g place a) t u x same)

  pub alike : (f : Faults) (saids : List Said) → (state_of script no_faults a saids).phase ≡ (state_of script f a saids).phase
  alike f saids = all_alike f no_faults 0 first_state first_state saids refl

-- ---- mounts and recoveries in a history, the oldest first

abbrev pub mounted_in : ℕ → Bool → List Item → Bool
mounted_in a before [] = before
mounted_in a before (Did e ∷ items) = mounted_in a ((e.server.0 == a && is_mounted e.reply) || before) items
mounted_in a before (Recovered server keeps ∷ items) = mounted_in a (not (server.0 == a) && before) items

pub in_both : (a : ℕ) (before : Bool) (xs ys : List Item) → mounted_in a before (xs ++ ys) ≡ mounted_in a (mounted_in a before xs) ys
in_both a before [] ys = refl
in_both a before (Did e ∷ xs) ys = in_both a ((e.server.0 == a && is_mounted e.reply) || before) xs ys
in_both a before (Recovered server keeps ∷ xs) ys = in_both a (not (server.0 == a) && before) xs ys

-- ---- along a transcript

module _ (script : List Line) (opening : Opening) (faults : Faults) (run a : ℕ) where
  abbrev state : List Said → ServerState
  state saids = state_of script faults a saids

  -- who isn't off was mounted
  abbrev Tells : List Said → Type 0
  Tells saids = is_off (state saids).phase ≡ false → mounted_in a false (live_history script run saids) ≡ true

  -- one line more, by what it makes of the server and which entries it adds
  pushed : (before : List Said) (x : Said) →
      (is_off (after_said script a (faults (length before) a) (state before) x).phase ≡ false → mounted_in a (mounted_in a false (live_history script run before)) (item_of script run x) ≡ true) → Tells (before ++ x ∷ [])
  pushed before x more on =
      ap (mounted_in a false) (flat_map-append (item_of script run) before (x ∷ []) ∙ ap (λ l. live_history script run before ++ l) (last (item_of script run x)))
      ∙ in_both a false (live_history script run before) (item_of script run x)
      ∙ more (ap (λ (t : ServerState). is_off t.phase) (sym (state_push script faults a before x)) ∙ on)
    where
      last : (l : List Item) → l ++ [] ≡ l
      last [] = refl
      last (i ∷ l) = ap (λ k. i ∷ k) (last l)

  module _ (before : List Said) (so : Tells before) where
    abbrev now : Bool
    now = mounted_in a false (live_history script run before)

    -- the server's own line, or another's
    own_or : (P : ServerState → Type 0) (t : Bool) (new old : ServerState) → (t ≡ true → P new) → (t ≡ false → P old) → P (if t then new else old)
    own_or P true new old mine others = mine refl
    own_or P false new old mine others = others refl

    abbrev Leads : List Item → ServerState → Type 0
    Leads items t = is_off t.phase ≡ false → mounted_in a now items ≡ true

    mounted_or : (s : ServerId) (r : Reply) → (is_mounted r ≡ false → now ≡ true) → (s.0 == a) ≡ true → ((s.0 == a && is_mounted r) || now) ≡ true
    mounted_or s r else_ own = ap (λ b. (b && is_mounted r) || now) own ∙ go (is_mounted r) else_
      where
        go : (b : Bool) → (b ≡ false → now ≡ true) → (b || now) ≡ true
        go true h = refl
        go false h = h refl

    other : (s : ServerId) (r : Reply) → (s.0 == a) ≡ false → ((s.0 == a && is_mounted r) || now) ≡ now
    other s r e = ap (λ b. (b && is_mounted r) || now) e

    was_on : (o : Op) (r : Reply) → is_mounted r ≡ false → is_off (phase_after (state before).phase o r) ≡ false → now ≡ true
    was_on o r none on = so (go (is_mounted r) (state before).phase (is_ok r) (is_stall o) (is_unmount o) none on)
      where
        go : (m : Bool) (p : Phase) (k x y : Bool) → m ≡ false → is_off (if m then Phase.Up else (if is_up p && k && x then Phase.Stalled else (if is_up p && k && y then Phase.Off else p))) ≡ false → is_off p ≡ false
        go true p k x y n e = absurd (false≢true (sym n))
        go false Phase.Off k x y n e = e
        go false Phase.Up k x y n e = refl
        go false Phase.Stalled k x y n e = refl
        go false Phase.Dead k x y n e = refl

    answers_what : (s : ServerId) (r : Reply) (number ticks : ℕ) (w : What) → (t : Bool) → (s.0 == a) ≡ t → Leads (item_of_what run s r number ticks w) (if t then after_asked (state before) w r else state before)
    answers_what s r number ticks (Server o) true e on = mounted_or s r (λ none. was_on o r none on) e
    answers_what s r number ticks (Server o) false e on = other s r e ∙ so on
    answers_what s r number ticks (Host h) true e on = so on
    answers_what s r number ticks (Host h) false e on = so on

    answers_line : (s : ServerId) (r : Reply) (number ticks : ℕ) (l : Option Line) (t : Bool) → (s.0 == a) ≡ t → Leads (item_of_line run s r number ticks l) (if t then after_line (state before) l r else state before)
    answers_line s r number ticks None true e on = so on
    answers_line s r number ticks None false e on = so on
    answers_line s r number ticks (Some l) t e on = answers_what s r number ticks l.what t e on

    in_mount_on : (p : Phase) → is_in_mount p ≡ true → is_off p ≡ false
    in_mount_on Phase.Off e = absurd (false≢true e)
    in_mount_on Phase.Up e = refl
    in_mount_on Phase.Stalled e = refl
    in_mount_on Phase.Dead e = absurd (false≢true e)

    stalled_on : (p : Phase) → is_stalled p ≡ true → is_off p ≡ false
    stalled_on Phase.Off e = absurd (false≢true e)
    stalled_on Phase.Up e = absurd (false≢true e)
    stalled_on Phase.Stalled e = refl
    stalled_on Phase.Dead e = absurd (false≢true e)

    one_more : (x : Said) → MaySayButTree script opening faults before x → Leads (item_of script run x) (after_said script a (faults (length before) a) (state before) x)
    one_more (said.Answer s n r) may = answers_line s r n (script_time script n) (line_of script n) (s.0 == a) refl
    one_more (said.Dead s) may = own_or (Leads []) (s.0 == a) (after_death (state before) (faults (length before) a)) (state before) (λ own on. so (died own)) (λ others. so)
      where
        died : (s.0 == a) ≡ true → is_off (state before).phase ≡ false
        died own =
            let may_die = (and_parts (goes_on script before) (may_die_now script faults before s.0) may).1 in
            let mine = subst (λ k. may_die_now script faults before k ≡ true) (eqb-true s.0 a own) may_die in
            in_mount_on (state before).phase
            (and_parts (is_in_mount (state before).phase) (is_called_for (state before) (next_line a script before) (may_be_dirty script a before) || faults (length before) a) mine).0
    one_more (said.Recovering s by) may = own_or (Leads []) (s.0 == a) (record (state before) { under_recovery = true }) (state before) (λ own. so) (λ others. so)
    one_more (said.Recovered s kept) may =
        own_or (Leads (item_of script run (said.Recovered s kept))) (s.0 == a) (record (state before) { phase = Phase.Off }) (state before) (λ own on. absurd (false≢true (sym on)))
        (λ others on. ap (λ b. not b && now) others ∙ so on)
    one_more (said.Renewed s) may = own_or (Leads []) (s.0 == a) (after_renewal (state before)) (state before) (λ own on. so (renewed own)) (λ others. so)
      where
        renewed : (s.0 == a) ≡ true → is_off (state before).phase ≡ false
        renewed own =
            stalled_on (state before).phase
            (subst (λ k. may_be_renewed script faults before k ≡ true) (eqb-true s.0 a own) (and_parts (goes_on script before) (may_be_renewed script faults before s.0) may).1)
    one_more (said.Node path kind size links) may = so
    one_more said.End may = so
    one_more (said.Redo number) may = so
    one_more (said.Backup line) may = so
    one_more (said.Locks line) may = so
    one_more (said.Shown text) may = so

  along_on : (before saids : List Said) → Tells before → EachMay (MaySayButTree script opening faults) before saids → Tells (before ++ saids)
  along_on before [] so each = subst Tells (sym (nothing before)) so
    where
      nothing : (l : List Said) → l ++ [] ≡ l
      nothing [] = refl
      nothing (x ∷ l) = ap (λ k. x ∷ k) (nothing l)
  along_on before (x ∷ saids) so each = subst Tells (moved before) (along_on (before ++ x ∷ []) saids (pushed before x (one_more before so x each.0)) each.1)
    where
      moved : (l : List Said) → (l ++ x ∷ []) ++ saids ≡ l ++ x ∷ saids
      moved [] = refl
      moved (y ∷ l) = ap (λ k. y ∷ k) (moved l)

  pub on_was_mounted : (saids : List Said) → EachMay (MaySayButTree script opening faults) [] saids → is_off (state_of script faults a saids).phase ≡ false →
      mounted_in a false (live_history script run saids) ≡ true
  on_was_mounted saids each = along_on [] saids (λ on. absurd (false≢true (sym on))) each
