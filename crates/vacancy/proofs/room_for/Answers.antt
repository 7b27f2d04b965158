-- `vacancy::room_for` meets its contract. Assumes nothing.
use native.Mathlib.Omega.{arith}
use Rattle.std.proofs.lemmas.Result.{err_from_is_err_and}
use Rattle.looking.proofs.HomesLie.{buckets_fit, places_fit}
use Rattle.vacancy.proofs.Looks.{places_are, asked_is, room_refused, room_there, vacant_fits}
use Rattle.vacancy.proofs.room_for.Goals as goal

pub overflow_cast-n : goal.overflow_cast-n
overflow_cast-n c = record { fits = search buckets_fit }

pub vacant_place-requires : goal.vacant_place-requires
vacant_place-requires c = search places_are

pub overflow_cast-m : goal.overflow_cast-m
overflow_cast-m c = record { fits = search places_fit }

pub search-requires : goal.search-requires
search-requires c = search asked_is

pub overflow_cast-result : goal.overflow_cast-result
overflow_cast-result c = record { fits = vacant_fits c.requires c.vacant_place.ensures c.in_ok-place.ensures.ok_part }

pub returns-in_err-found : goal.returns-in_err-found
returns-in_err-found c =
    let p = err_from_is_err_and c.from_residual-in_err-found.result c.from_residual-in_err-found.ensures.1 in
    rw (p.1, p.2) (room_refused _ _ c.args.g c.requires c.vacant_place.ensures c.in_ok-place.ensures.ok_part c.search.ensures c.in_err-found.was)

pub returns : goal.returns
returns c =
    room_there _ _ c.args.g c.requires c.vacant_place.ensures c.in_ok-place.ensures.ok_part (omega arith) (omega arith) c.search.ensures c.in_ok-found.was
