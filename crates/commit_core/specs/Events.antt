-- The core: the machine, and where each session stands; which events are possible, and what each does.
use Rattle.std.specs.Prelude.{ℕ, ◌+◌, Bool, true, false, not, List, [], ◌∷◌, ◌++◌, Option, Some, None, ◌==◌, ◌&&◌, ◌||◌, if◌then◌else◌, nat_le, fold, zero, suc}
use Rattle.dt_model.specs.declared.calls.Call.{Call}
use Rattle.dt_model.specs.declared.calls.Call.TheVariants.{Get, Batch, Query}
use Rattle.dt_model.specs.declared.calls.Turn.{Turn}
use Rattle.dt_model.specs.declared.declared_tensors.Decls.{Decls}
use Rattle.dt_model.specs.declared.replies.World.{World}
use Rattle.dt_model.specs.Contents.{Contents}
use Rattle.dt_model.specs.Latches.{latch_of_cell}
use Rattle.dt_model.specs.Runs.{call_of}
use Rattle.dt_model.specs.Functions.{with_value}
use Rattle.commit_core.specs.declared.events.Event.{Event}
use Rattle.commit_core.specs.declared.events.Event.TheVariants.{Take, Commit, Give, Quit}
use Rattle.commit_core.specs.declared.events.Position.{Position}
use Rattle.commit_core.specs.Machine.{Machine, opening, journal_latch, commit_needs, taken, committed, given}
use Rattle.commit_core.specs.Turns.{next_after}

-- the machine; of each session its current call's number, 0 where it has none, and whether that call is committed;
-- the turns that quit; and per entry the number that it read, if it is a get
pub record Progress : Type 0 where
  pub machine : Machine
  pub position : ℕ → Position
  pub lost : List Turn
  pub replies : List (Option ℕ)

-- session s goes to its first accepted call after line n
abbrev pub position_after : World → ℕ → ℕ → Position
position_after w s n = record { number = next_after w s n; committed = false }

-- the machine's opening, where each session is at its first accepted call
abbrev pub initial : World → Progress
initial w = record { machine = opening w; position = λ s. position_after w s 0; lost = []; replies = [] }

-- the current call of session s, if it has one
abbrev pub current_call : World → Progress → ℕ → Option Call
current_call w p s = call_of w s (p.position s).number

-- ---- what is possible

-- whether each number below n passes
abbrev pub all_under : (ℕ → Bool) → ℕ → Bool
all_under p zero = true
all_under p (suc n) = p n && all_under p n

-- whether session s holds each latch below n that the call and its commit need
abbrev pub holds_below : Decls → (ℕ → ℕ) → ℕ → Call → ℕ → Bool
holds_below d holder s call n = all_under (λ k. not (commit_needs d call k) || holder k == s) n

-- before the commit, the least needed latch that the session doesn't hold, where it is free
abbrev pub can_take : Decls → (ℕ → ℕ) → Position → ℕ → ℕ → Call → Bool
can_take d holder position s l call = not position.committed && nat_le l (journal_latch d) && commit_needs d call l && holder l == 0
    && holds_below d holder s call l

-- where all needed latches and the journal's are held
abbrev pub can_commit : Decls → (ℕ → ℕ) → Position → ℕ → Call → Bool
can_commit d holder position s call = not position.committed && holds_below d holder s call (journal_latch d + 1)

-- after the commit, any latch that is held
abbrev pub can_give : (ℕ → ℕ) → Position → ℕ → ℕ → Bool
can_give holder position s l = position.committed && holder l == s

-- whether the event is possible for its session, whose current call this is
abbrev pub is_possible_for : Decls → (ℕ → ℕ) → (ℕ → Position) → Event → Option Call → Bool
is_possible_for d holder position e None = false
is_possible_for d holder position (Take s l) (Some call) = can_take d holder (position s) s l call
is_possible_for d holder position (Commit s) (Some call) = can_commit d holder (position s) s call
is_possible_for d holder position (Give s l) (Some call) = can_give holder (position s) s l
is_possible_for d holder position (Quit s) (Some call) = not (position s).committed

-- the session whose event it is
abbrev pub session_in : Event → ℕ
session_in (Take s l) = s
session_in (Commit s) = s
session_in (Give s l) = s
session_in (Quit s) = s

-- whether the event may happen now: its session must have a current call
abbrev pub is_possible : World → Progress → Event → Bool
is_possible w p e = is_possible_for w.decls p.machine.holder p.position e (current_call w p (session_in e))

-- ---- what happens

-- session s holds nothing, and all other latches have their holders
abbrev pub without_session : (ℕ → ℕ) → ℕ → ℕ → ℕ
without_session f s = λ k. if f k == s then 0 else f k

-- whether session s holds none of the World's latches
abbrev pub holds_none : Decls → (ℕ → ℕ) → ℕ → Bool
holds_none d holder s = all_under (λ k. not (holder k == s)) (journal_latch d + 1)

-- what a get reads in the content of its latch
abbrev pub read_from_latches : Decls → (ℕ → Contents) → Call → Option ℕ
read_from_latches d content (Get cell) = Some (content (latch_of_cell d cell) cell.tensor cell.at)
read_from_latches d content (Batch updates) = None
read_from_latches d content (Query stmt) = None

-- the turn of session s's current call
abbrev pub turn_now : Progress → ℕ → Turn
turn_now p s = record { session = s; number = (p.position s).number }

-- session s takes latch l, and nothing else changes
abbrev pub after_take : Progress → ℕ → ℕ → Progress
after_take p s l = record { machine = taken p.machine s l; position = p.position; lost = p.lost; replies = p.replies }

-- the current call is entered with what it reads, its updates are made, and its session is committed
abbrev pub after_commit : Decls → Progress → ℕ → Option Call → Progress
after_commit d p s None = p
after_commit d p s (Some call) = record {
  machine = committed d p.machine (record { turn = turn_now p s; call = call });
  position = with_value p.position s (record { number = (p.position s).number; committed = true });
  lost = p.lost;
  replies = p.replies ++ read_from_latches d p.machine.content call ∷ [];
}

-- latch l is given back, and with the last give the session goes on to its next accepted call
abbrev pub after_give : World → Progress → ℕ → ℕ → Progress
after_give w p s l = record {
  machine = given p.machine l;
  position = if holds_none w.decls (given p.machine l).holder s then with_value p.position s (position_after w s (p.position s).number) else p.position;
  lost = p.lost;
  replies = p.replies;
}

-- every latch of the session is given back, its turn is lost, and it goes on to its next accepted call
abbrev pub after_quit : World → Progress → ℕ → Progress
after_quit w p s = record {
  machine = record { holder = without_session p.machine.holder s; content = p.machine.content; history = p.machine.history };
  position = with_value p.position s (position_after w s (p.position s).number);
  lost = p.lost ++ turn_now p s ∷ [];
  replies = p.replies;
}

-- what an event makes of the progress where it is possible
abbrev pub after_event : World → Progress → Event → Progress
after_event w p (Take s l) = after_take p s l
after_event w p (Commit s) = after_commit w.decls p s (current_call w p s)
after_event w p (Give s l) = after_give w p s l
after_event w p (Quit s) = after_quit w p s

-- the event, if it is possible; else nothing
abbrev pub after_if_possible : World → Progress → Event → Progress
after_if_possible w p e = if is_possible w p e then after_event w p e else p

-- from the opening all possible events in their turn
abbrev pub run_of : World → List Event → Progress
run_of w events = fold (after_if_possible w) (initial w) events
