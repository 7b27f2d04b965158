-- `looking::home_of` meets its contract: one law a way out. Assumes nothing.
use Rattle.looking.proofs.HomesLie.{places_fit}
use Rattle.looking.proofs.Looking.{home_busy, home_damaged, home_sound}
use Rattle.looking.proofs.home_of.Goals as goal

pub returns-then-is_odd : goal.returns-then-is_odd
returns-then-is_odd c = search home_busy

pub overflow_cast-m : goal.overflow_cast-m
overflow_cast-m c = record { fits = search places_fit }

pub returns-then-any_damaged : goal.returns-then-any_damaged
returns-then-any_damaged c = search home_damaged

pub returns : goal.returns
returns c = search home_sound
