-- What is printed, by computation. Assumes nothing.
use mathlib.Core.Path.{◌≡◌, refl}
use Rattle.std.specs.Prelude.{Some, None}
use lib.IntN.{pos, negsuc}
use Rattle.replay_words.specs.Words.{all_digits, number, number_from, signed, value}
use Rattle.replay_print.specs.Text.{bytes}
use Rattle.replay_print.specs.Print.{decimal_of, digits, hex_digit, hex_of, signed_of}

pub printed :
    (decimal_of 0 ≡ bytes "0") × (decimal_of 10 ≡ bytes "10") × (decimal_of 18446744073709551615 ≡ bytes "18446744073709551615")
    × (hex_of 9 ≡ bytes "09") × (hex_of 175 ≡ bytes "af")
    × (signed_of (pos 0) ≡ bytes "0") × (signed_of (pos 10080) ≡ bytes "10080") × (signed_of (negsuc 0) ≡ bytes "-1")
    × (signed_of (negsuc 9223372036854775807) ≡ bytes "-9223372036854775808")
unfolding decimal_of signed_of digits hex_of hex_digit
printed = (refl, refl, refl, refl, refl, refl, refl, refl, refl)

-- and signed numbers as people write them; a size above the top, a sign without digits and a second sign are none
pub read_back :
    (signed 720 (bytes "-720") ≡ Some (negsuc 719)) × (signed 720 (bytes "720") ≡ Some (pos 720)) × (signed 720 (bytes "-007") ≡ Some (negsuc 6))
    × (signed 720 (bytes "-0") ≡ Some (pos 0)) × (signed 720 (bytes "-721") ≡ None) × (signed 720 (bytes "721") ≡ None) × (signed 720 (bytes "-") ≡ None)
    × (signed 720 (bytes "--7") ≡ None) × (signed 720 (bytes "+7") ≡ None) × (signed 720 (bytes "7-") ≡ None) × (signed 720 (bytes "") ≡ None)
unfolding signed number number_from all_digits value
read_back = (refl, refl, refl, refl, refl, refl, refl, refl, refl, refl, refl)
