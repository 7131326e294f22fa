use Rattle.std.proofs.Common.{All, sym, ◌∙◌, subst}
use Rattle.std.proofs.lemmas.List.{with_items_is}
use Rattle.sessions.specs.TrialSeats.{IsFree}
use Rattle.sessions.proofs.engine_tests.sixteen_seats_make_their_calls_in_turn.Goals as goal

pub join_all-seat-requires : goal.join_all-seat-requires
join_all-seat-requires g c =
    let whole = with_items_is c.in_ok-seats.seats c.rounds.new.seats (c.rounds.auto.seats ∙ c.as_mut_slice.ensures.len) in
    record { seats = subst (All (IsFree c.in_ok-engine.engine)) (sym whole) c.rounds.ensures.seats }
