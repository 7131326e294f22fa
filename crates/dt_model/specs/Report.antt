-- The report of a run as a text, and the history that is read from a text.
use Rattle.std.specs.Prelude.{ℕ, ◌≡◌, ◌+◌, List, [], ◌∷◌, ◌++◌, map, length, take, slice_get, Option, Some, None, if◌then◌else◌, codes, nat_eq, unwrap_or}
use Rattle.std.specs.List.{flat_map, filter_map, enumerate_from}
use Rattle.std.specs.Option.{option_map}
use Rattle.std.specs.Fmt.{decimal}
use Rattle.std.specs.Cmp.Lexicographic.{pointwise}
use Rattle.dt_model.specs.declared.calls.Entry.{Entry}
use Rattle.dt_model.specs.declared.declared_tensors.TensorDecl.{TensorDecl}
use Rattle.dt_model.specs.declared.replies.Refusal.{Refusal}
use Rattle.dt_model.specs.declared.replies.Refusal.TheVariants as because
use Rattle.dt_model.specs.declared.replies.Reply.{Reply}
use Rattle.dt_model.specs.declared.replies.Reply.TheVariants.{Done, Value, Result}
use Rattle.dt_model.specs.declared.replies.Verdict.{Verdict}
use Rattle.dt_model.specs.declared.replies.Verdict.TheVariants.{Accepted, Refused}
use Rattle.dt_model.specs.declared.replies.World.{World}
use Rattle.dt_model.specs.Tensors.{dims_of}
use Rattle.dt_model.specs.Statements.{all_below, nonzeros}
use Rattle.dt_model.specs.Runs.{contents_after, call_of, reply_of_turn, IsOrder, AllGets}
use Rattle.dt_model.specs.Texts.{text_of, rows_of, value_word, number_of}

-- the words of a refusal after `refused`
abbrev pub refusal_words : Refusal → List (List ℕ)
refusal_words (because.Form column) = codes "form" ∷ decimal column ∷ []
refusal_words (because.Limit column) = codes "limit" ∷ decimal column ∷ []
refusal_words (because.Name name) = codes "name" ∷ name ∷ []
refusal_words (because.Rank name given order) = codes "rank" ∷ name ∷ decimal given ∷ decimal order ∷ []
refusal_words (because.Range name mode dim) = codes "range" ∷ name ∷ decimal mode ∷ decimal dim ∷ []
refusal_words because.NotWhole = codes "number" ∷ codes "whole" ∷ []
refusal_words because.TooLarge = codes "number" ∷ codes "range" ∷ []
refusal_words (because.Dimension var first second) = codes "dimension" ∷ var ∷ decimal first ∷ decimal second ∷ []
refusal_words (because.Repeated var) = codes "repeated" ∷ var ∷ []
refusal_words (because.Access term) = codes "access" ∷ decimal term ∷ []
refusal_words (because.Uncovered term var) = codes "uncovered" ∷ decimal term ∷ var ∷ []

-- the row of a cell and its value; coordinates are counted from 1 in texts
abbrev pub pair_row : List ℕ × ℕ → List (List ℕ)
pair_row p = map (λ c. decimal (c + 1)) p.0 ++ value_word p.1 ∷ []

-- the rows of a reply to call n
abbrev pub reply_rows : ℕ → Reply → List (List (List ℕ))
reply_rows n Done = (decimal n ∷ codes "ok" ∷ []) ∷ []
reply_rows n (Value v) = (decimal n ∷ codes "value" ∷ value_word v ∷ []) ∷ []
reply_rows n (Result pairs) = (decimal n ∷ codes "result" ∷ decimal (length pairs) ∷ []) ∷ map pair_row pairs

-- the rows of call n, which was answered or ran out of memory
abbrev pub call_rows : ℕ → Option Reply → List (List (List ℕ))
call_rows n None = (decimal n ∷ codes "no" ∷ codes "memory" ∷ []) ∷ []
call_rows n (Some reply) = reply_rows n reply

-- the rows of line n: its refusal, or its call's answer
abbrev pub line_rows : ℕ → Verdict → Option Reply → List (List (List ℕ))
line_rows n (Refused r) reply = (decimal n ∷ codes "refused" ∷ refusal_words r) ∷ []
line_rows n (Accepted call) reply = call_rows n reply

-- the rows of a script's lines, the first of which has number n, where line k was answered r k
abbrev pub lines_rows : (ℕ → Option Reply) → ℕ → List Verdict → List (List (List ℕ))
lines_rows r n verdicts = flat_map (λ q. line_rows q.0 q.1 (r q.0)) (enumerate_from n verdicts)

-- the rows of a session, given its number and its verdicts
abbrev pub session_rows : World → List Entry → ℕ × List Verdict → List (List (List ℕ))
session_rows w entries p = (codes "session" ∷ decimal p.0 ∷ [])
    ∷ lines_rows (reply_of_turn w entries p.0) 1 p.1

-- the row of a turn: session and number
abbrev pub turn_row : Entry → List (List ℕ)
turn_row e = decimal e.turn.session ∷ decimal e.turn.number ∷ []

-- the row `history` with the count, then the turns
abbrev pub history_rows : List Entry → List (List (List ℕ))
history_rows entries = (codes "history" ∷ decimal (length entries) ∷ []) ∷ map turn_row entries

-- the name of a tensor, if there is one
abbrev pub name_in : Option TensorDecl → List ℕ
name_in None = []
name_in (Some t) = t.name

-- the rows of a printed tensor: its nonzeros after the entries, ascending by coordinates
abbrev pub tensor_rows : World → List Entry → ℕ → List (List (List ℕ))
tensor_rows w entries t = let pairs = nonzeros (contents_after w entries t) (all_below (dims_of w.decls t)) in
    (codes "tensor" ∷ name_in (slice_get w.decls.tensors t) ∷ decimal (length pairs) ∷ []) ∷ map pair_row pairs

-- the rows of a report: each session's, then the history, then the printed tensors
abbrev pub report_rows : World → List ℕ → List Entry → List (List (List ℕ))
report_rows w printed entries = flat_map (session_rows w entries) (enumerate_from 1 w.scripts)
    ++ history_rows entries ++ flat_map (tensor_rows w entries) printed

-- the report of entries that were made in this order
abbrev pub report : World → List ℕ → List Entry → List ℕ
report w printed entries = text_of (report_rows w printed entries)

-- ---- the history in a text

-- the entry of a session and number, if both are read and the world has the call
abbrev pub entry_from : World → Option ℕ → Option ℕ → Option Entry
entry_from w None n = None
entry_from w (Some s) None = None
entry_from w (Some s) (Some n) = option_map (λ call. record { turn = record { session = s; number = n }; call = call }) (call_of w s n)

-- the entry that a row names
abbrev pub entry_of : World → List (List ℕ) → Option Entry
entry_of w (s ∷ n ∷ []) = entry_from w (number_of s) (number_of n)
entry_of w row = None

-- the number in the first word, or 0
abbrev pub count_in : List (List ℕ) → ℕ
count_in [] = 0
count_in (n ∷ more) = unwrap_or (number_of n) 0

-- the rows of turns: as many as the first row says whose first word is `history`
abbrev pub turn_rows : List (List (List ℕ)) → List (List (List ℕ))
turn_rows [] = []
turn_rows ([] ∷ rows) = turn_rows rows
turn_rows ((word ∷ more) ∷ rows) = if pointwise nat_eq word (codes "history") then take (count_in more) rows else turn_rows rows

-- the history in a text: its turns, each with the world's call
abbrev pub history : World → List ℕ → List Entry
history w text = filter_map (entry_of w) (turn_rows (rows_of text))

-- ---- what a run prints

-- the bytes are the report of the history in them, which one thread could have made
pub record PrintsRun (w : World) (printed : List ℕ) (bytes : List ℕ) : Type 0 where
  pub reported : bytes ≡ report w printed (history w bytes)
  pub order : IsOrder w (history w bytes)
  pub gets : AllGets w (history w bytes)
