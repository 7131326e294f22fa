-- Histories of a world's calls, and what one thread that makes them in this order answers.
use Rattle.std.specs.Prelude.{ℕ, ◌-◌, ◌≤◌, ◌<◌, ◌≡◌, Bool, true, List, [], ◌∷◌, fold, length, take}
use Rattle.std.specs.Prelude.{slice_get, Option, Some, None, ◌==◌, if◌then◌else◌, ◌&&◌, nat_le, IsTrue, option_and_then, AllPairs, All}
use Rattle.std.specs.List.{enumerate_from, list_any}
use Rattle.std.specs.Option.{option_map}
use Rattle.dt_model.specs.declared.calls.Call.{Call}
use Rattle.dt_model.specs.declared.calls.Call.TheVariants.{Get, Batch, Query}
use Rattle.dt_model.specs.declared.calls.Cell.{Cell}
use Rattle.dt_model.specs.declared.calls.Entry.{Entry}
use Rattle.dt_model.specs.declared.declared_tensors.Decls.{Decls}
use Rattle.dt_model.specs.declared.replies.Reply.{Reply}
use Rattle.dt_model.specs.declared.replies.Reply.TheVariants.{Done, Value, Result}
use Rattle.dt_model.specs.declared.replies.Verdict.{Verdict}
use Rattle.dt_model.specs.declared.replies.Verdict.TheVariants.{Accepted, Refused}
use Rattle.dt_model.specs.declared.replies.World.{World}
use Rattle.dt_model.specs.declared.limits.TheConstants.{MOST_CALLS}
use Rattle.dt_model.specs.Contents.{Contents, no_cells, with_more, with_updates}
use Rattle.dt_model.specs.Tensors.{latch_of}
use Rattle.dt_model.specs.Statements.{answer}
use Rattle.dt_model.specs.Verdicts.{call_is_valid}

-- ---- contents

-- the lines of tensor t, each added to its cell
abbrev pub with_lines : Contents → ℕ → List (List ℕ × ℕ) → Contents
with_lines m t lines = fold (λ n line. with_more n t line.0 line.1) m lines

-- the loaded lines of every tensor in their order
abbrev pub base_of : World → Contents
base_of w = fold (λ m p. with_lines m p.0 p.1) no_cells (enumerate_from 0 w.base)

-- the contents after a call: gets and queries change nothing
abbrev pub after_call : Contents → Call → Contents
after_call m (Get cell) = m
after_call m (Batch updates) = with_updates m updates
after_call m (Query stmt) = m

-- the contents after entries in their order
abbrev pub after_entries : Contents → List Entry → Contents
after_entries m entries = fold (λ n e. after_call n e.call) m entries

-- the contents after these entries: the base with the updates of each entry in their order
abbrev pub contents_after : World → List Entry → Contents
contents_after w entries = after_entries (base_of w) entries

-- the contents of the cells of latch w alone
abbrev pub restricted_to : Decls → Contents → ℕ → Contents
restricted_to d m w = λ t c. if latch_of d t c == w then m t c else 0

-- ---- orders

-- the verdict on a turn's line; session and number are counted from 1
abbrev pub verdict_of_turn : List (List Verdict) → ℕ → ℕ → Option Verdict
verdict_of_turn scripts s n = if nat_le 1 s && nat_le 1 n then option_and_then (λ script. slice_get script (n - 1)) (slice_get scripts (s - 1)) else None

-- the call of a verdict, if it is accepted
abbrev pub accepted_call : Verdict → Option Call
accepted_call (Accepted call) = Some call
accepted_call (Refused r) = None

-- the accepted call of a turn
abbrev pub call_of : World → ℕ → ℕ → Option Call
call_of w s n = option_and_then accepted_call (verdict_of_turn w.scripts s n)

-- of one session the earlier entry has the lower number
abbrev pub IsInScriptOrder : Entry → Entry → Type 0
IsInScriptOrder e f = e.turn.session ≡ f.turn.session → e.turn.number < f.turn.number

-- a history of valid calls by sessions 1 to k with numbers 1 to n, those of each session rising
pub record IsLegal (d : Decls) (k n : ℕ) (entries : List Entry) : Type 0 where
  pub sessions : All (λ e. (1 ≤ e.turn.session) × (e.turn.session ≤ k)) entries
  pub numbers : All (λ e. (1 ≤ e.turn.number) × (e.turn.number ≤ n)) entries
  pub calls : All (λ e. IsTrue (call_is_valid d e.call)) entries
  pub rising : AllPairs IsInScriptOrder entries

-- a legal history of the world's accepted calls
pub record IsOrder (w : World) (entries : List Entry) : Type 0 where
  pub legal : IsLegal w.decls (length w.scripts) MOST_CALLS entries
  pub called : All (λ e. call_of w e.turn.session e.turn.number ≡ Some e.call) entries

-- whether an entry is that of a turn
abbrev pub is_turn : ℕ → ℕ → Entry → Bool
is_turn s n e = (e.turn.session == s) && (e.turn.number == n)

-- whether a turn is among the entries
abbrev pub has_turn : List Entry → ℕ → ℕ → Bool
has_turn entries s n = list_any (is_turn s n) entries

-- each accepted get is among the entries
abbrev pub AllGets : World → List Entry → Type 0
AllGets w entries = (s n : ℕ) (cell : Cell) → call_of w s n ≡ Some (Get cell) → has_turn entries s n ≡ true

-- ---- replies

-- the reply to a call over these contents
abbrev pub reply_to : Decls → Contents → Call → Reply
reply_to d m (Get cell) = Value (m cell.tensor cell.at)
reply_to d m (Batch updates) = Done
reply_to d m (Query stmt) = Result (answer d m stmt)

-- the reply of the entry at index p, if there is one
abbrev pub reply_of_entry : World → List Entry → ℕ → Option Reply
reply_of_entry w entries p = option_map (λ e. reply_to w.decls (contents_after w (take p entries)) e.call) (slice_get entries p)

-- the reply of a turn among entries that are made in order from these contents, if it is there
abbrev pub reply_of_turn_from : Decls → Contents → List Entry → ℕ → ℕ → Option Reply
reply_of_turn_from d m [] s n = None
reply_of_turn_from d m (e ∷ es) s n = if is_turn s n e then Some (reply_to d m e.call) else reply_of_turn_from d (after_call m e.call) es s n

-- the reply of a turn in a history of the world's calls, if it is there
abbrev pub reply_of_turn : World → List Entry → ℕ → ℕ → Option Reply
reply_of_turn w entries s n = reply_of_turn_from w.decls (base_of w) entries s n
