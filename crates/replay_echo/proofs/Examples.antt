-- Calls as they are shown, by computation. Assumes nothing.
use mathlib.Core.Path.{◌≡◌, refl}
use mathlib.Core.List.{[], ◌∷◌}
use Rattle.replay_print.specs.Text.{bytes}
use Rattle.replay_print.specs.Print.{decimal_of, digits}
use Rattle.replay_echo.specs.Echo.{behind, echo, filled_in, in_place}

pub shown :
    (echo 14 (bytes "serve N N N") (4711 ∷ 720 ∷ 821 ∷ 0 ∷ []) ≡ bytes "14: serve 4711 720 821 -> ")
    × (echo 2 (bytes "cut N set N P N N") (5 ∷ 1 ∷ 4294967295 ∷ 20 ∷ 30 ∷ []) ≡ bytes "2: cut 5 set 1 4294967295 20 30 -> ")
    × (echo 100 (bytes "list B") (81920 ∷ []) ≡ bytes "100: list 81920 -> ")
    × (echo 7 (bytes "evict") (0 ∷ []) ≡ bytes "7: evict -> ")
    × (echo 7 [] (0 ∷ []) ≡ [])
unfolding echo filled_in in_place behind decimal_of digits
shown = (refl, refl, refl, refl, refl)
