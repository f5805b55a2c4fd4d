-- The lines of a soak's script climb from number 1, and those of the host ask what a host is asked.
use Rattle.std.proofs.Common.{ℕ, ◌+◌, ◌%◌, IsTrue, [], ◌∷◌, ◌++◌, refl, arith}
use Rattle.std.specs.List.{list_all}
use Rattle.frang_base.specs.declared.op.HostOp.TheVariants as host
use Rattle.frang_base.specs.declared.op.Op.TheVariants as op
use Rattle.frang_soak.specs.Draws.{draw_at}
use Rattle.frang_soak.specs.Scripts.{closing_lines, directory, drawn_line, drawn_lines, drawn_op, host_line, lines_at, mkdir_line, mount_line, opening_lines, soak_script, unmount_line}
use Rattle.script_places.specs.Placed.{ascends}
use Rattle.core_transcripts.specs.Transcripts.{IsNumbered, is_hosted}
use Rattle.soak_laws.proofs.Climbing.{Climbs, apart, ascending}
use Rattle.soak_laws.proofs.Climbing as climbing
use Rattle.soak_laws.proofs.Hosting as hosting

-- ---- numbers

opening_climbs : Climbs 1 10 opening_lines
opening_climbs =
    climbing.joined 1 5 10 (lines_at mount_line 4) (lines_at mkdir_line 4 ++ host_line 9 host.Barrier ∷ []) (climbing.at_places mount_line 1 (λ server. refl) 4)
    (climbing.joined 5 9 10 (lines_at mkdir_line 4) (host_line 9 host.Barrier ∷ []) (climbing.at_places mkdir_line 5 (λ server. refl) 4) (climbing.one 9 (host_line 9 host.Barrier) refl))

closing_climbs : Climbs 4010 4015 closing_lines
closing_climbs =
    climbing.joined 4010 4011 4015 (host_line 4010 host.Barrier ∷ []) (lines_at unmount_line 4) (climbing.one 4010 (host_line 4010 host.Barrier) refl)
    (climbing.at_places unmount_line 4011 (λ server. refl) 4)

drawn_climb : (n : ℕ) → Climbs 10 4010 (drawn_lines n 4000)
drawn_climb n = climbing.at_places (drawn_line n) 10 (λ place. refl) 4000

script_climbs : (n : ℕ) → Climbs 1 4015 (soak_script n)
script_climbs n =
    climbing.joined 1 10 4015 opening_lines (drawn_lines n 4000 ++ closing_lines) opening_climbs
    (climbing.joined 10 4010 4015 (drawn_lines n 4000) closing_lines (drawn_climb n) closing_climbs)

pub script_ascends : (n : ℕ) → IsTrue (ascends (soak_script n))
script_ascends n = ascending 1 4015 (soak_script n) (script_climbs n)

-- ---- the host's lines

opening_hosted : IsTrue (list_all is_hosted opening_lines)
opening_hosted =
    hosting.joined (lines_at mount_line 4) (lines_at mkdir_line 4 ++ host_line 9 host.Barrier ∷ [])
    (hosting.at_places mount_line 4 (λ server below. hosting.of_server (1 + server) server op.Mount (omega (arith, below))))
    (hosting.joined (lines_at mkdir_line 4) (host_line 9 host.Barrier ∷ [])
    (hosting.at_places mkdir_line 4 (λ server below. hosting.of_server (5 + server) server (op.Mkdir (directory server)) (omega (arith, below)))) refl)

closing_hosted : IsTrue (list_all is_hosted closing_lines)
closing_hosted = hosting.at_places unmount_line 4 (λ server below. hosting.of_server (4011 + server) server op.Unmount (omega (arith, below)))

drawn_hosted : (n : ℕ) → IsTrue (list_all is_hosted (drawn_lines n 4000))
drawn_hosted n = hosting.at_places (drawn_line n) 4000 (λ place below. hosting.of_server (10 + place) (place % 4) (drawn_op (place % 4) (draw_at n place)) (omega arith))

script_hosted : (n : ℕ) → IsTrue (list_all is_hosted (soak_script n))
script_hosted n = hosting.joined opening_lines (drawn_lines n 4000 ++ closing_lines) opening_hosted (hosting.joined (drawn_lines n 4000) closing_lines (drawn_hosted n) closing_hosted)

pub script_numbered : (n : ℕ) → IsNumbered (soak_script n)
script_numbered n = record { apart = apart (soak_script n) (script_ascends n); hosted = script_hosted n }
