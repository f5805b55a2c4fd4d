-- The bytes of said lines, and the lines of a tree.
use Rattle.std.proofs.Common.{◌≡◌, ℕ, List, [], ◌∷◌, ◌++◌, refl, codes, lit<}
use Rattle.std.specs.Fmt.{decimal}
use Rattle.std.proofs.lemmas.Fmt.{decimal-digits_of, decimal_digit}
use Rattle.frang_base.specs.declared.reply.Reply.TheVariants as reply
use Rattle.frang_base.specs.declared.said.Said.{Said}
use Rattle.frang_base.specs.declared.said.Said.TheVariants as said
use Rattle.frang_base.specs.declared.sector.ServerId.{ServerId}
use Rattle.tree_definitions.specs.SaidLines.{said_text, said_line, run_point, keeps_text}
use Rattle.tree_definitions.specs.TreeLines.{tree_lines}
use Rattle.tree_definitions.proofs.Sketch.{some}

-- numbers in decimal digits
zero : decimal 0 ≡ codes "0"
zero = decimal_digit 0 (lit< tt)

one : decimal 1 ≡ codes "1"
one = decimal-digits_of 1 (lit< tt) (lit< tt)

two : decimal 2 ≡ codes "2"
two = decimal-digits_of 2 (lit< tt) (lit< tt)

three : decimal 3 ≡ codes "3"
three = decimal-digits_of 3 (lit< tt) (lit< tt)

five : decimal 5 ≡ codes "5"
five = decimal-digits_of 5 (lit< tt) (lit< tt)

six : decimal 6 ≡ codes "6"
six = decimal-digits_of 6 (lit< tt) (lit< tt)

seven : decimal 7 ≡ codes "7"
seven = decimal-digits_of 7 (lit< tt) (lit< tt)

twelve : decimal 12 ≡ codes "12"
twelve = decimal-digits_of 12 (lit< tt) (lit< tt)

fifteen : decimal 15 ≡ codes "15"
fifteen = decimal-digits_of 15 (lit< tt) (lit< tt)

sixteen : decimal 16 ≡ codes "16"
sixteen = decimal-digits_of 16 (lit< tt) (lit< tt)

large : decimal 384 ≡ codes "384"
large = decimal-digits_of 384 (lit< tt) (lit< tt)

larger : decimal 1024 ≡ codes "1024"
larger = decimal-digits_of 1024 (lit< tt) (lit< tt)

abbrev server : ℕ → ServerId
server n = record { 0 = n }

abbrev Says : Said → List ℕ → Type 0
Says said text = said_text said ≡ text

mounted : Says (said.Answer (server 0) 1 reply.Mounted) (codes "1 0 mounted")
mounted = rw (one, zero) refl

of_the_host : Says (said.Answer (server 255) 3 reply.Ok) (codes "3 - ok")
of_the_host = rw (three) refl

a_file : Says (said.Answer (server 15) 12 (reply.File 1024 2)) (codes "12 15 file 1024 2")
a_file = rw (twelve, fifteen, larger, two) refl

bytes : Says (said.Answer (server 0) 6 (reply.Shown (65 ∷ 66 ∷ 175 ∷ []))) (codes "6 0 data 4142af")
bytes = rw (six, zero) refl

no_bytes : Says (said.Answer (server 0) 6 (reply.Shown [])) (codes "6 0 data")
no_bytes = rw (six, zero) refl

names : Says (said.Answer (server 1) 6 (reply.Names ((97 ∷ []) ∷ (98 ∷ 99 ∷ []) ∷ []))) (codes "6 1 names a bc")
names = rw (six, one) refl

no_names : Says (said.Answer (server 1) 6 (reply.Names [])) (codes "6 1 names")
no_names = rw (six, one) refl

no_block : Says (said.Answer (server 1) 6 (reply.NoBlock 16)) (codes "6 1 nospace data 16")
no_block = rw (six, one, sixteen) refl

a_time : Says (said.Answer (server 0) 5 (reply.Time 1 7)) (codes "5 0 time 1.7")
unfolding run_point
a_time = rw (five, zero, one, seven) refl

dead : Says (said.Dead (server 3)) (codes "! dead 3")
dead = rw (three) refl

recovering : Says (said.Recovering (server 0) (server 255)) (codes "! recovering 0 by -")
recovering = rw (zero) refl

recovered : Says (said.Recovered (server 0) (record { 0 = 4294967298 })) (codes "! recovered 0 keeps 1.2")
unfolding run_point keeps_text
recovered = rw (zero, one, two) refl

recovered_nothing : Says (said.Recovered (server 12) (record { 0 = 0 })) (codes "! recovered 12 keeps 0.0")
unfolding run_point keeps_text
recovered_nothing = rw (twelve, zero) refl

a_record : Says (said.Redo (record { 0 = 8589934595 })) (codes "# 2.3")
unfolding run_point
a_record = rw (two, three) refl

the_end : said_line said.End ≡ codes "! end" ++ 10 ∷ []
the_end = refl

-- each directory before its entries, entries in order of their bytes
a_tree : tree_lines some ≡
    said.Node (codes "/") 2 3 0 ∷ said.Node (codes "/a") 1 0 1 ∷ said.Node (codes "/d") 2 1 0 ∷ said.Node (codes "/d/e") 2 0 0 ∷ said.Node (codes "/l") 3 1 0 ∷ []
a_tree = refl

a_node : Says (said.Node (codes "/d/b") 1 5 1) (codes "= /d/b file 5 1")
a_node = rw (five, one) refl

a_directory : Says (said.Node (codes "/") 2 0 0) (codes "= / dir 0")
a_directory = rw (zero) refl

a_link : Says (said.Node (codes "/l") 3 384 0) (codes "= /l link 384")
a_link = rw (large) refl
