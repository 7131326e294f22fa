use Rattle.std.proofs.Common.{ℕ, ◌≡◌, vec_len}
use Rattle.fiber_store.specs.Stores.{IsSound, store_content}
use Rattle.sessions.specs.Holding.{listed, AreGood}
use Rattle.sessions.proofs.finishing.give_all.Given as goal

abbrev pub invariant-loop-hand : goal.invariant-loop-hand
invariant-loop-hand l = (s : ℕ) × (l.seat ≡ record l.initial.seat { held = listed s l.hands.items })
    × AreGood store_content IsSound l.initial.seat.config l.initial.seat.seen l.hands.items

abbrev pub decreases-loop-hand : goal.decreases-loop-hand
decreases-loop-hand l = vec_len l.hands
