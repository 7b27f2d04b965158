-- Answers and their lines, by computation. Assumes nothing.
use mathlib.Core.Path.{◌≡◌, refl}
use mathlib.Core.Bool.{true, false}
use mathlib.Core.List.{[], ◌∷◌}
use lib.IntN.{pos, negsuc}
use Rattle.model.specs.Memory.{mem}
use Rattle.model.specs.Answers.{refused, absent, fresh, old, ahead, stored, deleted, evicted, started, listed, at_place, planned, move_made, entry_made}
use Rattle.replay_print.specs.Text.{bytes}
use Rattle.replay_print.specs.Print.{decimal_of, digits, hex_digit, hex_of, hexes, numbered, record_lines, signed_of, told}
use Rattle.judgement.specs.Verdict.{sound, broken}
use Rattle.replay_answers.specs.Text.{dump, judged, not_understood, poke_told, reason, text}

pub lines :
    (text (refused 10) ≡ bytes "refused 10\n")
    × (text absent ≡ bytes "absent\n")
    × (text (fresh 4294967295 (pos 0)) ≡ bytes "fresh 4294967295 0\n")
    × (text (fresh 1 (pos 10080)) ≡ bytes "fresh 1 10080\n")
    × (text (old (negsuc 0)) ≡ bytes "old -1\n")
    × (text (old (negsuc 4611686018427387903)) ≡ bytes "old -4611686018427387904\n")
    × (text ahead ≡ bytes "ahead\n")
    × (text (stored 682 4) ≡ bytes "stored 682 4\n")
    × (text deleted ≡ bytes "deleted\n")
    × (text (evicted 18446744073709551615 2048 1023) ≡ bytes "evicted 18446744073709551615 2048 1023\n")
    × (text started ≡ bytes "fresh\n")
    × (text (listed 1 (1 ∷ 0 ∷ 0 ∷ 0 ∷ 0 ∷ 0 ∷ 0 ∷ 0 ∷ 175 ∷ 0 ∷ 0 ∷ 0 ∷ 2 ∷ 0 ∷ 0 ∷ 0 ∷ 0 ∷ 0 ∷ 0 ∷ 16 ∷ []))
    ≡ bytes "listed 1\n0100000000000000af0000000200000000000010\n")
    × (text (at_place 4095) ≡ bytes "place 4095\n")
    × (text (planned [] 0 0) ≡ bytes "planned 0 0\n")
    × (text (planned (record { from = 8; tag = 225; to = 13 } ∷ record { from = 1; tag = 3; to = 8 } ∷ []) 4095 1) ≡ bytes "planned 4095 1 8 225 13 1 3 8\n")
    × (text move_made ≡ bytes "moved\n")
    × (text entry_made ≡ bytes "entered\n")
    × (not_understood 12 0 ≡ bytes "line 12: not understood: unknown word\n")
    × (not_understood 1 1 ≡ bytes "line 1: not understood: too few numbers\n")
    × (not_understood 1 2 ≡ bytes "line 1: not understood: too many numbers\n")
    × (not_understood 1 3 ≡ bytes "line 1: not understood: number too large\n")
    × (dump (mem (65536 ∷ 0 ∷ []) (2 ∷ []) (7 ∷ 5 ∷ 2 ∷ 1 ∷ [])) ≡ bytes "slots 65536 0\ncounters 2\nitems 7 5 2 1\n")
    × (poke_told true ≡ bytes "poked\n")
    × (poke_told false ≡ bytes "no such word\n")
    × (judged sound ≡ bytes "yes\n")
    × (judged (broken 5 4095) ≡ bytes "no 5 4095\n")
unfolding told numbered decimal_of signed_of digits record_lines hexes hex_of hex_digit reason
lines = (refl, refl, refl, refl, refl, refl, refl, refl, refl, refl, refl, refl, refl, refl, refl, refl, refl, refl, refl, refl, refl, refl, refl, refl, refl, refl)
