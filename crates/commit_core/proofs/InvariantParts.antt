-- What a core keeps, in parts that are shown apart: what is made, whose turn it is, and who holds which latch.
use Rattle.std.proofs.Common.{◌≡◌, ℕ, ◌-◌, ◌<◌, ◌≤◌, true, length, arith, Some}
use Rattle.std.specs.Prelude.{◌&&◌, nat_le, slice_get, option_and_then, IsTrue}
use Rattle.std.proofs.lemmas.Bool.Decides.{nat_tests}
use Rattle.std.proofs.lemmas.List.Elements.{All-weaker}
use Rattle.std.proofs.lemmas.Option.{slice_get_within}
use Rattle.dt_model.specs.declared.calls.Call.{Call}
use Rattle.dt_model.specs.declared.replies.World.{World}
use Rattle.dt_model.specs.Worlds.{IsValid}
use Rattle.dt_model.specs.Verdicts.{call_is_valid}
use Rattle.dt_model.specs.Runs.{call_of, accepted_call, verdict_of_turn, IsOrder}
use Rattle.dt_model.specs.declared.limits.TheConstants.{MOST_CALLS}
use Rattle.dt_model.proofs.Booleans.{both_true}
use Rattle.commit_core.specs.Machine.{Reached}
use Rattle.commit_core.specs.Events.{Progress}
use Rattle.commit_core.specs.Invariant.{IsStepInvariant}
use Rattle.commit_core.proofs.ValidScripts.{all_at, and_then_some, if_some, call_is_valid_at}
use Rattle.commit_core.proofs.SessionTurns.{Turns}
use Rattle.commit_core.proofs.Holders.{Holds}
use Rattle.commit_core.proofs.MadeEntries.{Made}
use Rattle.commit_core.proofs.GoingOn.{goes_on}

-- what is made, whose turn it is, and who holds which latch
pub record InvariantParts (w : World) (p : Progress) : Type 0 where
  pub made : Made w p.machine.content p.machine.history p.replies
  pub turns : Turns w p.machine.history p.position p.lost
  pub holds : Holds w p.machine.holder p.position

-- what is kept has the parts
pub parts_of : (w : World) (p : Progress) → IsStepInvariant w p → InvariantParts w p
parts_of w p k = record {
  made = record {
    called = k.sound.order.called;
    rising = k.sound.order.legal.rising;
    contents = k.sound.contents;
    counted = k.counted;
    replies =
        k.sound.replies;
  };
  turns = record { entries = k.entries; quits = k.quits; now = k.made; once = k.sound.once; settled = k.sound.settled; standing = k.sound.standing };
  holds = record { within = k.within; held = k.held; first = k.sound.first; busy = k.busy };
}

-- sessions are counted from 1 to the World's last, numbers from 1 to 65,536
pub record TurnWithin (w : World) (s n : ℕ) : Type 0 where
  pub session : (1 ≤ s) × (s ≤ length w.scripts)
  pub number : (1 ≤ n) × (n ≤ MOST_CALLS)

le_of : (a b : ℕ) → nat_le a b ≡ true → a ≤ b
le_of a b e = grind (arith, nat_tests)

-- the turn of an accepted call is within the World's sessions and lines
turn_within : (w : World) (s n : ℕ) (call : Call) → IsValid w → call_of w s n ≡ Some call → TurnWithin w s n
turn_within w s n call valid e =
    let one = and_then_some accepted_call (verdict_of_turn w.scripts s n) call e in
    let two = if_some (nat_le 1 s && nat_le 1 n) (option_and_then (λ script. slice_get script (n - 1)) (slice_get w.scripts (s - 1))) one.0 one.1 in
    let three = and_then_some (λ script. slice_get script (n - 1)) (slice_get w.scripts (s - 1)) one.0 two.1 in
    let firsts = both_true (nat_le 1 s) (nat_le 1 n) two.0 in
    let s1 : 1 ≤ s = le_of 1 s firsts.0 in
    let n1 : 1 ≤ n = le_of 1 n firsts.1 in
    let s2 : s - 1 < length w.scripts = slice_get_within w.scripts (s - 1) three.0 three.1 in
    let n2 : n - 1 < length three.0 = slice_get_within three.0 (n - 1) one.0 three.2 in
    let short : length three.0 ≤ MOST_CALLS = le_of (length three.0) MOST_CALLS
    (all_at (λ x. nat_le (length x) MOST_CALLS) w.scripts (s - 1) three.0 valid.calls three.1) in
    record { session = (s1, omega arith); number = (n1, omega arith) }

-- what is made is an order of the World's accepted calls
order_of : (w : World) (p : Progress) → IsValid w → InvariantParts w p → IsOrder w p.machine.history
order_of w p valid k =
    let called = k.made.called in
    record {
      legal = record {
        sessions = All-weaker (λ e. call_of w e.turn.session e.turn.number ≡ Some e.call) (λ e. (1 ≤ e.turn.session)
            × (e.turn.session ≤ length w.scripts)) (λ e is. (turn_within w e.turn.session e.turn.number e.call valid is).session) p.machine.history called;
        numbers = All-weaker (λ e. call_of w e.turn.session e.turn.number ≡ Some e.call) (λ e. (1 ≤ e.turn.number)
            × (e.turn.number ≤ MOST_CALLS)) (λ e is. (turn_within w e.turn.session e.turn.number e.call valid is).number) p.machine.history called;
        calls = All-weaker (λ e. call_of w e.turn.session e.turn.number ≡ Some e.call) (λ e. IsTrue (call_is_valid w.decls e.call))
            (λ e is. call_is_valid_at w e.turn.session e.turn.number e.call valid is) p.machine.history called;
        rising = k.made.rising;
      };
      called = called;
    }

-- the parts of what the machine has reached make all that is kept
pub IsStepInvariant-parts : (w : World) (p : Progress) → IsValid w → Reached w p.machine → InvariantParts w p → IsStepInvariant w p
IsStepInvariant-parts w p valid reached k = record {
  valid = valid;
  sound = record {
    reached = reached;
    order = order_of w p valid k;
    contents = k.made.contents;
    replies = k.made.replies;
    once = k.turns.once;
    settled = k.turns.settled;
    standing = k.turns.standing;
    first = k.holds.first;
    goes_on = goes_on w p k.holds;
  };
  counted = k.made.counted;
  entries = k.turns.entries;
  quits = k.turns.quits;
  made = k.turns.now;
  within = k.holds.within;
  held = k.holds.held;
  busy = k.holds.busy;
}
