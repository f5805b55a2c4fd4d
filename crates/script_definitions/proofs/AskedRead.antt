-- What words ask, and the words that ask it.
use Rattle.std.proofs.Common.{◌≡◌, ℕ, ◌≤◌, cond, ◌⊎◌, inl, inr, List, [], ◌∷◌, Option, Some, None, Result, Ok, Err, refl, sym, ◌∙◌, ap, subst, arith, codes}
use Rattle.std.specs.List.{list_all}
use Rattle.std.specs.Str.{bytes_eq}
use Rattle.std.specs.Fmt.{decimal}
use Rattle.std.proofs.lemmas.Option.{same_Some}
use Rattle.frang_base.specs.declared.op.Op.{Op}
use Rattle.frang_base.specs.declared.op.Op.TheVariants as op
use Rattle.frang_base.specs.declared.op.HostOp.{HostOp}
use Rattle.frang_base.specs.declared.op.HostOp.TheVariants as host
use Rattle.frang_base.specs.declared.op.What.{What}
use Rattle.frang_base.specs.declared.op.What.TheVariants.{Server, Host}
use Rattle.frang_base.specs.declared.sector.ServerId.{ServerId}
use Rattle.script_definitions.specs.Numerals.{is_digit, number_in}
use Rattle.script_definitions.specs.ScriptFaults.{◌>>=◌}
use Rattle.script_definitions.specs.ScriptWords.{no_words, one_word, two_words, three_words, four_words, or_fault, path_at, number_at, offset_at, text_at, byte_at, word_text, path_words, longer_words, bare_words, word_among, first_word, server_word, path_alone, paths, symlink_of, write_of, fill_of, truncate_of, read_of, writes_of, crash_of, op_with, op_of, host_op_of, server_of, server_line, host_line, asked_of}
use Rattle.script_definitions.specs.ScriptPrinted.{path_text, line_words}
use Rattle.script_definitions.specs.ScriptGrammar.{IsPath, IsProperOp, IsProperWhat, OpSpelled, WhatSpelled, AsksBy}
use Rattle.script_definitions.specs.declared.asked.Asked.{Asked}
use Rattle.script_definitions.specs.declared.fault.LineFault.{LineFault}
use Rattle.script_definitions.specs.declared.fault.LineFault.TheVariants as fault
use Rattle.script_definitions.specs.declared.word.ServerWord.{ServerWord}
use Rattle.script_definitions.specs.declared.word.ServerWord.TheVariants as word
use Rattle.script_definitions.proofs.NumeralLaws.{IsPlain-decimal, number_in-Some, number_in-decimal}
use Rattle.script_definitions.proofs.SaidRead.{chosen, word_is}
use Rattle.script_definitions.proofs.AskedLaws.{bind_ok, same_ok, or_ok, path_at_sound, path_at_complete, number_sound, number_complete, offset_sound, offset_complete, text_sound, text_complete, byte_sound}

-- tuples and records by their parts
abbrev pair : List ℕ → List ℕ → List ℕ × List ℕ
pair a b = (a, b)

abbrev triple : List ℕ → List ℕ → List ℕ → List ℕ × List ℕ × List ℕ
triple a b c = (a, b, c)

abbrev four : List ℕ → List ℕ → List ℕ → List ℕ → List ℕ × List ℕ × List ℕ × List ℕ
four a b c d = (a, b, c, d)

abbrev two_paths : List (List ℕ) → List (List ℕ) → List (List ℕ) × List (List ℕ)
two_paths p q = (p, q)

abbrev server_number : ℕ → ServerId
server_number n = record { 0 = n }

abbrev pub asked : ServerId → What → Asked
asked who what = record { who = who; what = what }

abbrev asked_server : ServerId → Op → Asked
asked_server who o = asked who (Server o)

abbrev asked_host : HostOp → Asked
asked_host h = asked (server_number 255) (Host h)

host_is : (g h : HostOp) (ws : List (List ℕ)) → ◌≡◌ {A = Result HostOp LineFault} (Ok g) (Ok h) → IsProperWhat 255 (Host g) × (ws ≡ line_words 255 (Host g)) → IsProperWhat 255 (Host h) × (ws ≡ line_words 255 (Host h))
host_is g h ws e k = subst (λ t. IsProperWhat 255 (Host t) × (ws ≡ line_words 255 (Host t))) (same_ok g h e) k

-- so many words
no_sound : (ws : List (List ℕ)) (u : Unit {0}) → no_words ws ≡ Ok u → ws ≡ []
no_sound [] u e = refl
no_sound (a ∷ ws) u e = cc

one_sound : (ws : List (List ℕ)) (a : List ℕ) → one_word ws ≡ Ok a → ws ≡ a ∷ []
one_sound [] a e = cc
one_sound (b ∷ []) a e = ap (λ t. t ∷ []) (same_ok b a e)
one_sound (b ∷ c ∷ ws) a e = cc

two_sound : (ws : List (List ℕ)) (p : List ℕ × List ℕ) → two_words ws ≡ Ok p → ws ≡ p.0 ∷ p.1 ∷ []
two_sound [] p e = cc
two_sound (a ∷ ws) p e =
    let b = bind_ok (one_word ws) (λ b. Ok (pair a b)) p e in
    ap (λ t. a ∷ t) (one_sound ws b.0 b.1) ∙ ap (λ q. q.0 ∷ q.1 ∷ []) (same_ok (pair a b.0) p b.2)

three_sound : (ws : List (List ℕ)) (p : List ℕ × List ℕ × List ℕ) → three_words ws ≡ Ok p → ws ≡ p.0 ∷ p.1 ∷ p.2 ∷ []
three_sound [] p e = cc
three_sound (a ∷ ws) p e =
    let b = bind_ok (two_words ws) (λ w. Ok (triple a w.0 w.1)) p e in
    ap (λ t. a ∷ t) (two_sound ws b.0 b.1) ∙ ap (λ q. q.0 ∷ q.1 ∷ q.2 ∷ []) (same_ok (triple a b.0.0 b.0.1) p b.2)

four_sound : (ws : List (List ℕ)) (p : List ℕ × List ℕ × List ℕ × List ℕ) → four_words ws ≡ Ok p → ws ≡ p.0 ∷ p.1 ∷ p.2 ∷ p.3 ∷ []
four_sound [] p e = cc
four_sound (a ∷ ws) p e =
    let b = bind_ok (three_words ws) (λ w. Ok (four a w.0 w.1 w.2)) p e in
    ap (λ t. a ∷ t) (three_sound ws b.0 b.1) ∙ ap (λ q. q.0 ∷ q.1 ∷ q.2 ∷ q.3 ∷ []) (same_ok (four a b.0.0 b.0.1 b.0.2) p b.2)

-- what is asked of a server, and its words
pub record IsOpRead (o : Op) (ws : List (List ℕ)) : Type 0 where
  pub proper : IsProperOp o
  pub spelled : OpSpelled ws o

as_op : (q o : Op) (ws : List (List ℕ)) → ◌≡◌ {A = Result Op LineFault} (Ok q) (Ok o) → IsOpRead q ws → IsOpRead o ws
as_op q o ws e h = subst (λ t. IsOpRead t ws) (same_ok q o e) h

alone_sound : (ws : List (List ℕ)) (path : List (List ℕ)) → path_alone ws ≡ Ok path → IsPath path × (ws ≡ path_text path ∷ [])
alone_sound ws path e =
    let b = bind_ok (one_word ws) path_at path e in
    let h = path_at_sound b.0 path b.2 in
    (h.0, one_sound ws b.0 b.1 ∙ ap (λ t. t ∷ []) h.1)

at_path : (make : List (List ℕ) → Op) (w : List ℕ) → ((p : List (List ℕ)) → IsPath p → IsProperOp (make p)) → ((p vs : List (List ℕ)) → vs ≡ w ∷ path_text p ∷ [] → OpSpelled vs (make p)) → (ws : List (List ℕ)) (o : Op) → (path_alone ws >>= λ path. Ok (make path)) ≡ Ok o → IsOpRead o (w ∷ ws)
at_path make w proper spelled ws o e =
    let b = bind_ok (path_alone ws) (λ path. Ok (make path)) o e in
    let h = alone_sound ws b.0 b.1 in
    as_op (make b.0) o (w ∷ ws) b.2 (record { proper = proper b.0 h.0; spelled = spelled b.0 (w ∷ ws) (ap (λ t. w ∷ t) h.1) })

paths_sound : (ws : List (List ℕ)) (p : List (List ℕ) × List (List ℕ)) → paths ws ≡ Ok p → IsPath p.0 × IsPath p.1 × (ws ≡ path_text p.0 ∷ path_text p.1 ∷ [])
paths_sound ws p e =
    let b = bind_ok (two_words ws) _ p e in
    let c = bind_ok (path_at b.0.0) _ p b.2 in
    let d = bind_ok (path_at b.0.1) _ p c.2 in
    let x = path_at_sound b.0.0 c.0 c.1 in
    let y = path_at_sound b.0.1 d.0 d.1 in
    let s : two_paths c.0 d.0 ≡ p = same_ok (two_paths c.0 d.0) p d.2 in
    (subst (λ q. IsPath q.0) s x.0, subst (λ q. IsPath q.1) s y.0, two_sound ws b.0 b.1 ∙ ap (λ t. t ∷ b.0.1 ∷ []) x.1 ∙ ap (λ t. path_text c.0 ∷ t ∷ []) y.1 ∙ ap (λ q. path_text q.0 ∷ path_text q.1 ∷ []) s)

symlink_sound : (ws : List (List ℕ)) (o : Op) → symlink_of ws ≡ Ok o → IsOpRead o (codes "symlink" ∷ ws)
unfolding symlink_of
symlink_sound ws o e =
    let b = bind_ok (two_words ws) _ o e in
    let c = bind_ok (path_at b.0.0) _ o b.2 in
    let d = bind_ok (text_at 384 b.0.1) _ o c.2 in
    let x = path_at_sound b.0.0 c.0 c.1 in
    let y = text_sound 384 b.0.1 d.0 d.1 in
    as_op (op.Symlink c.0 d.0) o (codes "symlink" ∷ ws) d.2 (record { proper = (x.0, y.0); spelled = ap (λ t. codes "symlink" ∷ t) (two_sound ws b.0 b.1 ∙ ap (λ t. t ∷ b.0.1 ∷ []) x.1 ∙ ap (λ t. path_text c.0 ∷ t ∷ []) y.1) })

write_sound : (ws : List (List ℕ)) (o : Op) → write_of ws ≡ Ok o → IsOpRead o (codes "write" ∷ ws)
unfolding write_of
write_sound ws o e =
    let b = bind_ok (three_words ws) _ o e in
    let c = bind_ok (path_at b.0.0) _ o b.2 in
    let d = bind_ok (offset_at b.0.1) _ o c.2 in
    let f = bind_ok (text_at 512 b.0.2) _ o d.2 in
    let x = path_at_sound b.0.0 c.0 c.1 in
    let y = offset_sound d.0 b.0.1 d.1 in
    let z = text_sound 512 b.0.2 f.0 f.1 in
    as_op (op.Write c.0 d.0 f.0) o (codes "write" ∷ ws) f.2 (record { proper = (x.0, y.0, z.0); spelled = ap (λ t. codes "write" ∷ t) (three_sound ws b.0 b.1 ∙ ap (λ t. t ∷ b.0.1 ∷ b.0.2 ∷ []) x.1 ∙ ap (λ t. path_text c.0 ∷ t ∷ b.0.2 ∷ []) y.1 ∙ ap (λ t. path_text c.0 ∷ decimal d.0 ∷ t ∷ []) z.1) })

fill_sound : (ws : List (List ℕ)) (o : Op) → fill_of ws ≡ Ok o → IsOpRead o (codes "fill" ∷ ws)
unfolding fill_of
fill_sound ws o e =
    let b = bind_ok (four_words ws) _ o e in
    let c = bind_ok (path_at b.0.0) _ o b.2 in
    let d = bind_ok (offset_at b.0.1) _ o c.2 in
    let f = bind_ok (number_at 1 1114112 b.0.2) _ o d.2 in
    let g = bind_ok (byte_at b.0.3) _ o f.2 in
    let x = path_at_sound b.0.0 c.0 c.1 in
    let y = offset_sound d.0 b.0.1 d.1 in
    let z = number_sound 1 1114112 f.0 b.0.2 (omega arith) f.1 in
    as_op (op.Fill c.0 d.0 f.0 g.0) o (codes "fill" ∷ ws) g.2 (record { proper = (x.0, y.0, z.low_in, z.high_in, byte_sound b.0.3 g.0 g.1); spelled = (b.0.3, g.1, ap (λ t. codes "fill" ∷ t) (four_sound ws b.0 b.1 ∙ ap (λ t. t ∷ b.0.1 ∷ b.0.2 ∷ b.0.3 ∷ []) x.1 ∙ ap (λ t. path_text c.0 ∷ t ∷ b.0.2 ∷ b.0.3 ∷ []) y.1 ∙ ap (λ t. path_text c.0 ∷ decimal d.0 ∷ t ∷ b.0.3 ∷ []) z.word_is)) })

truncate_sound : (ws : List (List ℕ)) (o : Op) → truncate_of ws ≡ Ok o → IsOpRead o (codes "truncate" ∷ ws)
unfolding truncate_of
truncate_sound ws o e =
    let b = bind_ok (two_words ws) _ o e in
    let c = bind_ok (path_at b.0.0) _ o b.2 in
    let d = bind_ok (offset_at b.0.1) _ o c.2 in
    let x = path_at_sound b.0.0 c.0 c.1 in
    let y = offset_sound d.0 b.0.1 d.1 in
    as_op (op.Truncate c.0 d.0) o (codes "truncate" ∷ ws) d.2 (record { proper = (x.0, y.0); spelled = ap (λ t. codes "truncate" ∷ t) (two_sound ws b.0 b.1 ∙ ap (λ t. t ∷ b.0.1 ∷ []) x.1 ∙ ap (λ t. path_text c.0 ∷ t ∷ []) y.1) })

read_sound : (ws : List (List ℕ)) (o : Op) → read_of ws ≡ Ok o → IsOpRead o (codes "read" ∷ ws)
unfolding read_of
read_sound ws o e =
    let b = bind_ok (three_words ws) _ o e in
    let c = bind_ok (path_at b.0.0) _ o b.2 in
    let d = bind_ok (offset_at b.0.1) _ o c.2 in
    let f = bind_ok (number_at 1 4096 b.0.2) _ o d.2 in
    let x = path_at_sound b.0.0 c.0 c.1 in
    let y = offset_sound d.0 b.0.1 d.1 in
    let z = number_sound 1 4096 f.0 b.0.2 (omega arith) f.1 in
    as_op (op.Read c.0 d.0 f.0) o (codes "read" ∷ ws) f.2 (record { proper = (x.0, y.0, z.low_in, z.high_in); spelled = ap (λ t. codes "read" ∷ t) (three_sound ws b.0 b.1 ∙ ap (λ t. t ∷ b.0.1 ∷ b.0.2 ∷ []) x.1 ∙ ap (λ t. path_text c.0 ∷ t ∷ b.0.2 ∷ []) y.1 ∙ ap (λ t. path_text c.0 ∷ decimal d.0 ∷ t ∷ []) z.word_is) })

writes_sound : (ws : List (List ℕ)) (k : ℕ) → writes_of ws ≡ Ok k → (1 ≤ k) × (k ≤ 1000000) × (ws ≡ decimal k ∷ [])
writes_sound ws k e =
    let b = bind_ok (one_word ws) (number_at 1 1000000) k e in
    let n = number_sound 1 1000000 k b.0 (omega arith) b.2 in
    (n.low_in, n.high_in, one_sound ws b.0 b.1 ∙ ap (λ t. t ∷ []) n.word_is)

crash_sound : (ws : List (List ℕ)) (o : Op) → crash_of ws ≡ Ok o → IsOpRead o (codes "crash" ∷ ws)
crash_sound [] o e = as_op op.Crash o (codes "crash" ∷ []) e (record { proper = tt; spelled = refl })
crash_sound (w ∷ ws) o e =
    let b = bind_ok (writes_of (w ∷ ws)) (λ n. Ok (op.CrashAt n)) o e in
    let h = writes_sound (w ∷ ws) b.0 b.1 in
    as_op (op.CrashAt b.0) o (codes "crash" ∷ w ∷ ws) b.2 (record { proper = (h.0, h.1); spelled = ap (λ t. codes "crash" ∷ t) h.2 })

bare_sound : (q : Op) (w : List ℕ) → IsProperOp q → OpSpelled (w ∷ []) q → (ws : List (List ℕ)) (o : Op) → (no_words ws >>= λ u. Ok q) ≡ Ok o → IsOpRead o (w ∷ ws)
bare_sound q w proper spelled ws o e =
    let b = bind_ok (no_words ws) (λ u. Ok q) o e in
    as_op q o (w ∷ ws) b.2 (record { proper = proper; spelled = subst (λ t. OpSpelled (w ∷ t) q) (sym (no_sound ws b.0 b.1)) spelled })

pub with_sound : (w : ServerWord) (ws : List (List ℕ)) (o : Op) → op_with w ws ≡ Ok o → IsOpRead o (word_text w ∷ ws)
with_sound word.Create ws o e = at_path op.Create (codes "create") (λ p h. h) (λ p vs s. s) ws o e
with_sound word.Mkdir ws o e = at_path op.Mkdir (codes "mkdir") (λ p h. h) (λ p vs s. s) ws o e
with_sound word.Unlink ws o e = at_path op.Unlink (codes "unlink") (λ p h. h) (λ p vs s. s) ws o e
with_sound word.Rmdir ws o e = at_path op.Rmdir (codes "rmdir") (λ p h. h) (λ p vs s. s) ws o e
with_sound word.Stat ws o e = at_path op.Stat (codes "stat") (λ p h. h) (λ p vs s. s) ws o e
with_sound word.List ws o e = at_path op.List (codes "list") (λ p h. h) (λ p vs s. s) ws o e
with_sound word.Readlink ws o e = at_path op.Readlink (codes "readlink") (λ p h. h) (λ p vs s. s) ws o e
with_sound word.Time ws o e = at_path op.Time (codes "time") (λ p h. h) (λ p vs s. s) ws o e
with_sound word.Link ws o e =
    let b = bind_ok (paths ws) (λ p. Ok (op.Link p.0 p.1)) o e in
    let h = paths_sound ws b.0 b.1 in
    as_op (op.Link b.0.0 b.0.1) o (codes "link" ∷ ws) b.2 (record { proper = (h.0, h.1); spelled = ap (λ t. codes "link" ∷ t) h.2 })
with_sound word.Rename ws o e =
    let b = bind_ok (paths ws) (λ p. Ok (op.Rename p.0 p.1)) o e in
    let h = paths_sound ws b.0 b.1 in
    as_op (op.Rename b.0.0 b.0.1) o (codes "rename" ∷ ws) b.2 (record { proper = (h.0, h.1); spelled = ap (λ t. codes "rename" ∷ t) h.2 })
with_sound word.Symlink ws o e = symlink_sound ws o e
with_sound word.Write ws o e = write_sound ws o e
with_sound word.Fill ws o e = fill_sound ws o e
with_sound word.Truncate ws o e = truncate_sound ws o e
with_sound word.Read ws o e = read_sound ws o e
with_sound word.Sync ws o e = bare_sound op.Sync (codes "sync") tt refl ws o e
with_sound word.Mount ws o e = bare_sound op.Mount (codes "mount") tt refl ws o e
with_sound word.Unmount ws o e = bare_sound op.Unmount (codes "unmount") tt refl ws o e
with_sound word.Crash ws o e = crash_sound ws o e
with_sound word.Cut ws o e =
    let b = bind_ok (writes_of ws) (λ k. Ok (op.CutAt k)) o e in
    let h = writes_sound ws b.0 b.1 in
    as_op (op.CutAt b.0) o (codes "cut" ∷ ws) b.2 (record { proper = (h.0, h.1); spelled = ap (λ t. codes "cut" ∷ t) h.2 })
with_sound word.Stall ws o e = bare_sound op.Stall (codes "stall") tt refl ws o e

-- the word that has a text
among_sound : (words : List ServerWord) (text : List ℕ) (w : ServerWord) → word_among words text ≡ Some w → text ≡ word_text w
among_sound [] text w e = cc
among_sound (v ∷ words) text w e =
    elim (chosen (bytes_eq text (word_text v)) (Some v) (word_among words text) (Some w) e) [
      | inl h ↦ word_is text (word_text v) h.0 ∙ ap word_text (same_Some v w h.1)
      | inr h ↦ among_sound words text w h.1
    ]

first_sound : (a b : Option ServerWord) (w : ServerWord) → first_word a b ≡ Some w → (a ≡ Some w) ⊎ (b ≡ Some w)
first_sound None b w e = inr e
first_sound (Some v) b w e = inl e

word_sound : (text : List ℕ) (w : ServerWord) → server_word text ≡ Some w → text ≡ word_text w
word_sound text w e =
    elim (first_sound (word_among path_words text) (first_word (word_among longer_words text) (word_among bare_words text)) w e) [
      | inl h ↦ among_sound path_words text w h
      | inr k ↦ elim (first_sound (word_among longer_words text) (word_among bare_words text) w k) [
        | inl h ↦ among_sound longer_words text w h
        | inr h ↦ among_sound bare_words text w h
      ]
    ]

pub op_sound : (ws : List (List ℕ)) (o : Op) → op_of ws ≡ Ok o → IsOpRead o ws
op_sound [] o e = cc
op_sound (text ∷ ws) o e =
    let b = bind_ok (or_fault fault.UnknownWord (server_word text)) (λ w. op_with w ws) o e in
    let t = word_sound text b.0 (or_ok fault.UnknownWord (server_word text) b.0 b.1) in
    subst (λ u. IsOpRead o (u ∷ ws)) (sym t) (with_sound b.0 ws o b.2)

-- lines
asked_is : (a b : Asked) (ws : List (List ℕ)) → ◌≡◌ {A = Result Asked LineFault} (Ok a) (Ok b) → AsksBy ws a → AsksBy ws b
asked_is a b ws e h = subst (λ t. AsksBy ws t) (same_ok a b e) h

server_sound : (text : List ℕ) (ws : List (List ℕ)) (a : Asked) → server_line text ws ≡ Ok a → AsksBy (text ∷ ws) a
server_sound text ws a e =
    let b = bind_ok (server_of text) _ a e in
    let c = bind_ok (op_of ws) _ a b.2 in
    let s = bind_ok (or_fault fault.BadServer (number_in 0 15 text)) _ b.0 b.1 in
    let n = number_in-Some 0 15 s.0 text (omega arith) (or_ok fault.BadServer (number_in 0 15 text) s.0 s.1) in
    let same : s.0 ≡ b.0.0 = ap (λ t. t.0) (same_ok (server_number s.0) b.0 s.2) in
    let o = op_sound ws c.0 c.1 in
    asked_is (asked_server b.0 c.0) a (text ∷ ws) c.2 ((subst (λ k. k ≤ 15) same n.high_in, o.proper), (ws, ap (λ t. t ∷ ws) (n.word_is ∙ ap decimal same), o.spelled))

host_read : (text : List ℕ) (ws : List (List ℕ)) (h : HostOp) → host_op_of text ws ≡ Ok h → IsProperWhat 255 (Host h) × (text ∷ ws ≡ line_words 255 (Host h))
host_read text ws h e =
    elim (chosen (bytes_eq text (codes "barrier")) (no_words ws >>= λ u. Ok host.Barrier) _ (Ok h) e) [
      | inl k ↦ (let b = bind_ok (no_words ws) (λ u. Ok host.Barrier) h k.1 in host_is host.Barrier h (text ∷ ws) b.2 (refl, ap (λ t. t ∷ ws) (word_is text (codes "barrier") k.0) ∙ ap (λ t. codes "barrier" ∷ t) (no_sound ws b.0 b.1)))
      | inr i ↦ elim (chosen (bytes_eq text (codes "halt")) (no_words ws >>= λ u. Ok host.Halt) _ (Ok h) i.1) [
        | inl k ↦ (let b = bind_ok (no_words ws) (λ u. Ok host.Halt) h k.1 in host_is host.Halt h (text ∷ ws) b.2 (refl, ap (λ t. t ∷ ws) (word_is text (codes "halt") k.0) ∙ ap (λ t. codes "halt" ∷ t) (no_sound ws b.0 b.1)))
        | inr j ↦ elim (chosen (bytes_eq text (codes "tick")) (one_word ws >>= number_at 1 10000 >>= λ n. Ok (host.Tick n)) (Err fault.UnknownWord) (Ok h) j.1) [
          | inl k ↦ (let b = bind_ok (one_word ws >>= number_at 1 10000) (λ n. Ok (host.Tick n)) h k.1 in let d = bind_ok (one_word ws) (number_at 1 10000) b.0 b.1 in let n = number_sound 1 10000 b.0 d.0 (omega arith) d.2 in
              host_is (host.Tick b.0) h (text ∷ ws) b.2 ((refl, n.low_in, n.high_in), ap (λ t. t ∷ ws) (word_is text (codes "tick") k.0) ∙ ap (λ t. codes "tick" ∷ t) (one_sound ws d.0 d.1 ∙ ap (λ t. t ∷ []) n.word_is)))
          | inr k ↦ absurd (let f : ◌≡◌ {A = Result HostOp LineFault} (Err fault.UnknownWord) (Ok h) = k.1 in cc)
        ]
      ]
    ]

host_sound : (text : List ℕ) (ws : List (List ℕ)) (a : Asked) → host_line text ws ≡ Ok a → AsksBy (text ∷ ws) a
host_sound text ws a e =
    let b = bind_ok (host_op_of text ws) _ a e in
    let h = host_read text ws b.0 b.1 in
    asked_is (asked_host b.0) a (text ∷ ws) b.2 h

pub asked_sound : (ws : List (List ℕ)) (a : Asked) → asked_of ws ≡ Ok a → AsksBy ws a
asked_sound [] a e = cc
asked_sound (text ∷ ws) a e =
    elim (chosen (list_all is_digit text) (server_line text ws) (host_line text ws) (Ok a) e) [
      | inl h ↦ server_sound text ws a h.1
      | inr h ↦ host_sound text ws a h.1
    ]

-- the other way round
alone_complete : (path : List (List ℕ)) → IsPath path → path_alone (path_text path ∷ []) ≡ Ok path
alone_complete path h = path_at_complete path h

paths_complete : (p q : List (List ℕ)) → IsPath p → IsPath q → paths (path_text p ∷ path_text q ∷ []) ≡ Ok (two_paths p q)
paths_complete p q h k =
    ap (λ r. r >>= λ path. (path_at (path_text q) >>= λ to. Ok (two_paths path to))) (path_at_complete p h)
    ∙ ap (λ r. r >>= λ to. Ok (two_paths p to)) (path_at_complete q k)

writes_complete : (k : ℕ) → 1 ≤ k → k ≤ 1000000 → writes_of (decimal k ∷ []) ≡ Ok k
writes_complete k l h = number_complete 1 1000000 k l h (omega arith)

pub op_complete : (o : Op) (ws : List (List ℕ)) → IsProperOp o → OpSpelled ws o → op_of ws ≡ Ok o
unfolding symlink_of write_of fill_of truncate_of read_of
op_complete (op.Create path) ws h e = ap op_of e ∙ ap (λ r. r >>= λ p. Ok (op.Create p)) (alone_complete path h)
op_complete (op.Mkdir path) ws h e = ap op_of e ∙ ap (λ r. r >>= λ p. Ok (op.Mkdir p)) (alone_complete path h)
op_complete (op.Link path to) ws h e = ap op_of e ∙ ap (λ r. r >>= λ p. Ok (op.Link p.0 p.1)) (paths_complete path to h.0 h.1)
op_complete (op.Symlink path target) ws h e =
    ap op_of e
    ∙ ap (λ r. r >>= λ p. (text_at 384 target >>= λ t. Ok (op.Symlink p t))) (path_at_complete path h.0)
    ∙ ap (λ r. r >>= λ t. Ok (op.Symlink path t)) (text_complete 384 target h.1)
op_complete (op.Unlink path) ws h e = ap op_of e ∙ ap (λ r. r >>= λ p. Ok (op.Unlink p)) (alone_complete path h)
op_complete (op.Rmdir path) ws h e = ap op_of e ∙ ap (λ r. r >>= λ p. Ok (op.Rmdir p)) (alone_complete path h)
op_complete (op.Rename path to) ws h e = ap op_of e ∙ ap (λ r. r >>= λ p. Ok (op.Rename p.0 p.1)) (paths_complete path to h.0 h.1)
op_complete (op.Write path off bytes) ws h e =
    ap op_of e
    ∙ ap (λ r. r >>= λ p. (offset_at (decimal off) >>= λ n. (text_at 512 bytes >>= λ t. Ok (op.Write p n t)))) (path_at_complete path h.0)
    ∙ ap (λ r. r >>= λ n. (text_at 512 bytes >>= λ t. Ok (op.Write path n t))) (offset_complete off h.1)
    ∙ ap (λ r. r >>= λ t. Ok (op.Write path off t)) (text_complete 512 bytes h.2)
op_complete (op.Fill path off len byte) ws h e =
    ap op_of e.2
    ∙ ap (λ r. r >>= λ p. (offset_at (decimal off) >>= λ n. (number_at 1 1114112 (decimal len) >>= λ l. (byte_at e.0 >>= λ b. Ok (op.Fill p n l b))))) (path_at_complete path h.0)
    ∙ ap (λ r. r >>= λ n. (number_at 1 1114112 (decimal len) >>= λ l. (byte_at e.0 >>= λ b. Ok (op.Fill path n l b)))) (offset_complete off h.1)
    ∙ ap (λ r. r >>= λ l. (byte_at e.0 >>= λ b. Ok (op.Fill path off l b))) (number_complete 1 1114112 len h.2 h.3 (omega arith))
    ∙ ap (λ r. r >>= λ b. Ok (op.Fill path off len b)) e.1
op_complete (op.Truncate path len) ws h e =
    ap op_of e
    ∙ ap (λ r. r >>= λ p. (offset_at (decimal len) >>= λ n. Ok (op.Truncate p n))) (path_at_complete path h.0)
    ∙ ap (λ r. r >>= λ n. Ok (op.Truncate path n)) (offset_complete len h.1)
op_complete (op.Read path off len) ws h e =
    ap op_of e
    ∙ ap (λ r. r >>= λ p. (offset_at (decimal off) >>= λ n. (number_at 1 4096 (decimal len) >>= λ l. Ok (op.Read p n l)))) (path_at_complete path h.0)
    ∙ ap (λ r. r >>= λ n. (number_at 1 4096 (decimal len) >>= λ l. Ok (op.Read path n l))) (offset_complete off h.1)
    ∙ ap (λ r. r >>= λ l. Ok (op.Read path off l)) (number_complete 1 4096 len h.2 h.3 (omega arith))
op_complete (op.Stat path) ws h e = ap op_of e ∙ ap (λ r. r >>= λ p. Ok (op.Stat p)) (alone_complete path h)
op_complete (op.List path) ws h e = ap op_of e ∙ ap (λ r. r >>= λ p. Ok (op.List p)) (alone_complete path h)
op_complete (op.Readlink path) ws h e = ap op_of e ∙ ap (λ r. r >>= λ p. Ok (op.Readlink p)) (alone_complete path h)
op_complete (op.Time path) ws h e = ap op_of e ∙ ap (λ r. r >>= λ p. Ok (op.Time p)) (alone_complete path h)
op_complete op.Sync ws h e = ap op_of e
op_complete op.Mount ws h e = ap op_of e
op_complete op.Unmount ws h e = ap op_of e
op_complete op.Crash ws h e = ap op_of e
op_complete (op.CrashAt k) ws h e = ap op_of e ∙ ap (λ r. r >>= λ n. Ok (op.CrashAt n)) (writes_complete k h.0 h.1)
op_complete (op.CutAt k) ws h e = ap op_of e ∙ ap (λ r. r >>= λ n. Ok (op.CutAt n)) (writes_complete k h.0 h.1)
op_complete op.Stall ws h e = ap op_of e

server_complete : (who : ServerId) (o : Op) (rest : List (List ℕ)) → who.0 ≤ 15 → IsProperOp o → OpSpelled rest o → asked_of (decimal who.0 ∷ rest) ≡ Ok (asked_server who o)
server_complete who o rest low h e =
    ap (λ b. cond b (server_line (decimal who.0) rest) (host_line (decimal who.0) rest)) (IsPlain-decimal who.0 (omega arith)).digits
    ∙ ap (λ r. (or_fault fault.BadServer r >>= λ s. Ok (server_number s)) >>= λ w. (op_of rest >>= λ q. Ok (asked_server w q))) (number_in-decimal 0 15 who.0 (omega arith) low (omega arith))
    ∙ ap (λ r. r >>= λ q. Ok (asked_server who q)) (op_complete o rest h e)

host_who : (who : ServerId) (h : HostOp) → who.0 ≡ 255 → asked_host h ≡ asked who (Host h)
host_who who h e = ap (λ n. asked (server_number n) (Host h)) (sym e)

pub asked_complete : (ws : List (List ℕ)) (who : ServerId) (what : What) → IsProperWhat who.0 what → WhatSpelled ws who.0 what → asked_of ws ≡ Ok (asked who what)
asked_complete ws who (Server o) h e = ap asked_of e.1 ∙ server_complete who o e.0 h.0 h.1 e.2
asked_complete ws who (Host host.Barrier) h e = ap asked_of e ∙ ap Ok (host_who who host.Barrier h)
asked_complete ws who (Host (host.Tick n)) h e = ap asked_of e ∙ ap (λ r. (r >>= λ k. Ok (host.Tick k)) >>= λ o. Ok (asked_host o)) (number_complete 1 10000 n h.1 h.2 (omega arith)) ∙ ap Ok (host_who who (host.Tick n) h.0)
asked_complete ws who (Host host.Halt) h e = ap asked_of e ∙ ap Ok (host_who who host.Halt h)
