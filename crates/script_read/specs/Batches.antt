-- The updates of a `batch` line, each in a part of the line between semicolons.
use Rattle.std.specs.Prelude.{ℕ, ◌+◌, ◌-◌, ◌==◌, List, [], ◌∷◌, length, take, drop, Option, Some, None, Result, Ok, Err, nat_lt}
use Rattle.std.specs.List.{slice_split}
use Rattle.dt_model.specs.declared.limits.TheConstants.{MOST_UPDATES}
use Rattle.dt_model.specs.declared.replies.Refusal.{Refusal}
use Rattle.dt_model.specs.declared.replies.Refusal.TheVariants.{Form, Limit}
use Rattle.dt_model.specs.declared.written.UpdateKind.TheVariants as kind
use Rattle.dt_model.specs.declared.written.WrittenUpdate.{WrittenUpdate}
use Rattle.dt_model.specs.declared.written.WrittenCall.{WrittenCall}
use Rattle.dt_model.specs.declared.written.WrittenCall.TheVariants as written
use Rattle.dt_text.specs.Spans.{end_column}
use Rattle.script_read.specs.declared.batches.TheConstants.{SEMICOLON}
use Rattle.script_read.specs.declared.verbs.Verb.{Verb}
use Rattle.script_read.specs.declared.verbs.Verb.TheVariants as verb
use Rattle.script_read.specs.Readings.{◌>>=◌, check, each_after}
use Rattle.script_read.specs.Verbs.{verb_of}
use Rattle.script_read.specs.Words.{columned_words}
use Rattle.script_read.specs.Updates.{written_update}

-- ---- parts

-- parts of a line with a byte between two of them, each with the number of the line's bytes before it
abbrev pub parts_from : ℕ → List (List ℕ) → List (ℕ × List ℕ)
parts_from before [] = []
parts_from before (part ∷ parts) = (before, part) ∷ parts_from (before + length part + 1) parts

-- the parts of a text between semicolons, where so many bytes of the line are before the text
abbrev pub parts_of : ℕ → List ℕ → List (ℕ × List ℕ)
parts_of before text = parts_from before (slice_split (λ b. b == SEMICOLON) text)

-- a line without the blanks at its end
abbrev pub without_blank_end : List ℕ → List ℕ
without_blank_end line = take (end_column line - 1) line

-- ---- updates

-- the update of the verb at this column and of the words behind it, where a missing word would stand at the column `end`
abbrev pub update_of_verb : ℕ → ℕ → Option Verb → List (ℕ × List ℕ) → Result WrittenUpdate Refusal
update_of_verb column end (Some verb.Set) ws = written_update kind.Set end ws
update_of_verb column end (Some verb.Add) ws = written_update kind.Add end ws
update_of_verb column end (Some verb.Get) ws = Err (Form column)
update_of_verb column end (Some verb.Batch) ws = Err (Form column)
update_of_verb column end (Some verb.Query) ws = Err (Form column)
update_of_verb column end None ws = Err (Form column)

-- `set NAME C1 .. Cr VALUE` or `add NAME C1 .. Cr VALUE`
abbrev pub update_of_words : ℕ → List (ℕ × List ℕ) → Result WrittenUpdate Refusal
update_of_words end [] = Err (Form end)
update_of_words end (w ∷ ws) = update_of_verb w.0 end (verb_of w.1) ws

-- the update of a part; a missing word would stand behind the part: at its semicolon, or at the line's end
abbrev pub written_part : ℕ × List ℕ → Result WrittenUpdate Refusal
written_part part = update_of_words (part.0 + length part.1 + 1) (columned_words part.0 part.1)

-- the update of a part behind those before it; a 65th part isn't read, and the semicolon before it is past the limit
abbrev pub next_update : List WrittenUpdate → ℕ × List ℕ → Result WrittenUpdate Refusal
next_update before part = check (nat_lt (length before) MOST_UPDATES) (Limit part.0) >>= (λ _. written_part part)

-- the updates of parts, in order
abbrev pub written_updates : List (ℕ × List ℕ) → Result (List WrittenUpdate) Refusal
written_updates parts = each_after next_update [] parts

-- `U ; U ; ..` behind so many bytes of a line
abbrev pub written_batch : ℕ → List ℕ → Result WrittenCall Refusal
written_batch before line = written_updates (parts_of before (drop before (without_blank_end line))) >>= (λ us. Ok (written.Batch us))
