-- The rows of a report are words, and none before the history begins as it does.
use Rattle.std.proofs.Common.{◌≡◌, ℕ, ◌+◌, ◌<◌, ◌++◌, Bool, true, List, [], ◌∷◌, length, map, refl, arith, Option, Some, None, All}
use Rattle.std.specs.Prelude.{◌&&◌, codes, slice_get}
use Rattle.std.specs.List.{list_all, flat_map, enumerate_from}
use Rattle.std.specs.Fmt.{decimal}
use Rattle.std.proofs.lemmas.Bool.Decides.{nat_tests}
use Rattle.dt_model.specs.declared.calls.Entry.{Entry}
use Rattle.dt_model.specs.declared.declared_tensors.Decls.{Decls}
use Rattle.dt_model.specs.declared.replies.World.{World}
use Rattle.dt_model.specs.declared.replies.Refusal.{Refusal}
use Rattle.dt_model.specs.declared.replies.Refusal.TheVariants as because
use Rattle.dt_model.specs.declared.replies.Reply.{Reply}
use Rattle.dt_model.specs.declared.replies.Reply.TheVariants.{Done, Value, Result}
use Rattle.dt_model.specs.declared.replies.Verdict.{Verdict}
use Rattle.dt_model.specs.declared.replies.Verdict.TheVariants.{Accepted, Refused}
use Rattle.dt_model.specs.Names.{is_name, is_name_start, is_name_byte}
use Rattle.dt_model.specs.Texts.{is_word_byte, is_word, value_word}
use Rattle.dt_model.specs.Runs.{reply_of_turn, contents_after}
use Rattle.dt_model.specs.Statements.{nonzeros, all_below}
use Rattle.dt_model.specs.Tensors.{dims_of}
use Rattle.dt_model.specs.Worlds.{IsValid, verdict_is_valid, refusal_is_named}
use Rattle.dt_model.specs.Report.{pair_row, call_rows, line_rows, lines_rows, refusal_words, session_rows, name_in, tensor_rows}
use Rattle.dt_model.proofs.Booleans.{All-rest, both_true, true_both, list_all-weaker, list_all-append}
use Rattle.dt_model.proofs.WorldsLemmas.{name_at}
use Rattle.dt_model.proofs.NumberWords.{is_word-decimal, is_word-value_word, is_not_history-decimal, is_not_history-value_word}
use Rattle.dt_model.proofs.ReportHistories.{begins_no_history}

-- ---- names

name_byte_is_word : (b : ℕ) → is_name_byte b ≡ true → is_word_byte b ≡ true
name_byte_is_word b h = grind (arith, nat_tests)

name_start_is_word : (b : ℕ) → is_name_start b ≡ true → is_word_byte b ≡ true
name_start_is_word b h = grind (arith, nat_tests)

-- a name is a word
pub is_word-is_name : (name : List ℕ) → is_name name ≡ true → is_word name ≡ true
is_word-is_name [] h = h
is_word-is_name (b ∷ bs) h =
    let ends = both_true _ (list_all is_name_byte bs) h in
    let start = both_true (is_name_start b) _ ends.0 in
    true_both (is_word_byte b) (list_all is_word_byte bs) (name_start_is_word b start.0) (list_all-weaker is_name_byte is_word_byte bs name_byte_is_word ends.1)

-- ---- rows before the history

-- whether a row has words alone, and the first isn't `history`
abbrev pub is_plain_row : List (List ℕ) → Bool
is_plain_row row = list_all is_word row && begins_no_history row

pair_are_plain : (coords : List ℕ) (v : ℕ) → is_plain_row (map (λ c. decimal (c + 1)) coords ++ value_word v ∷ []) ≡ true
pair_are_plain [] v = rw (is_word-value_word v, is_not_history-value_word v) refl
pair_are_plain (c ∷ cs) v = true_both _ (begins_no_history (decimal (c + 1) ∷ [])) (words (c ∷ cs)) (is_not_history-decimal (c + 1))
  where
    words : (xs : List ℕ) → list_all is_word (map (λ x. decimal (x + 1)) xs ++ value_word v ∷ []) ≡ true
    words [] = rw (is_word-value_word v) refl
    words (x ∷ xs) = rw (is_word-decimal (x + 1)) (words xs)

-- the lines of nonzeros are words, and none begins with `history`
pub pairs_are_plain : (pairs : List (List ℕ × ℕ)) → list_all is_plain_row (map pair_row pairs) ≡ true
pairs_are_plain [] = refl
pairs_are_plain (p ∷ ps) = true_both (is_plain_row (pair_row p)) (list_all is_plain_row (map pair_row ps)) (pair_are_plain p.0 p.1) (pairs_are_plain ps)

call_rows_are_plain : (n : ℕ) (o : Option Reply) → list_all is_plain_row (call_rows n o) ≡ true
call_rows_are_plain n None = rw (is_word-decimal n, is_not_history-decimal n) refl
call_rows_are_plain n (Some Done) = rw (is_word-decimal n, is_not_history-decimal n) refl
call_rows_are_plain n (Some (Value v)) = rw (is_word-decimal n, is_word-value_word v, is_not_history-decimal n) refl
call_rows_are_plain n (Some (Result pairs)) = rw (is_word-decimal n, is_word-decimal (length pairs), is_not_history-decimal n) (pairs_are_plain pairs)

refusal_words_are_words : (r : Refusal) → refusal_is_named r ≡ true → list_all is_word (refusal_words r) ≡ true
refusal_words_are_words (because.Form column) h = rw (is_word-decimal column) refl
refusal_words_are_words (because.Limit column) h = rw (is_word-decimal column) refl
refusal_words_are_words (because.Name name) h = rw (is_word-is_name name h) refl
refusal_words_are_words (because.Rank name given order) h = rw (is_word-is_name name h, is_word-decimal given, is_word-decimal order) refl
refusal_words_are_words (because.Range name mode dim) h = rw (is_word-is_name name h, is_word-decimal mode, is_word-decimal dim) refl
refusal_words_are_words because.NotWhole h = refl
refusal_words_are_words because.TooLarge h = refl
refusal_words_are_words (because.Dimension var first second) h = rw (is_word-is_name var h, is_word-decimal first, is_word-decimal second) refl
refusal_words_are_words (because.Repeated var) h = rw (is_word-is_name var h) refl
refusal_words_are_words (because.Access term) h = rw (is_word-decimal term) refl
refusal_words_are_words (because.Uncovered term var) h = rw (is_word-decimal term, is_word-is_name var h) refl

line_rows_are_plain : (d : Decls) (n : ℕ) (v : Verdict) (o : Option Reply) → verdict_is_valid d v ≡ true → list_all is_plain_row (line_rows n v o) ≡ true
line_rows_are_plain d n (Accepted call) o h = call_rows_are_plain n o
line_rows_are_plain d n (Refused r) o h = rw (is_word-decimal n, refusal_words_are_words r h, is_not_history-decimal n) refl

lines_are_plain : (d : Decls) (r : ℕ → Option Reply) (n : ℕ) (vs : List Verdict) → list_all (verdict_is_valid d) vs ≡ true
    → list_all is_plain_row (lines_rows r n vs) ≡ true
lines_are_plain d r n [] h = refl
lines_are_plain d r n (v ∷ vs) h =
    let both = both_true (verdict_is_valid d v) (list_all (verdict_is_valid d) vs) h in
    list_all-append is_plain_row (line_rows n v (r n)) (lines_rows r (n + 1) vs) (line_rows_are_plain d n v (r n) both.0) (lines_are_plain d r (n
    + 1) vs both.1)

session_row_are_plain : (s : ℕ) → is_plain_row (codes "session" ∷ decimal s ∷ []) ≡ true
session_row_are_plain s = rw (is_word-decimal s) refl

-- the rows of sessions are words, and none begins with `history`
pub sessions_are_plain : (w : World) (es : List Entry) (s : ℕ) (scripts : List (List Verdict)) → list_all (list_all (verdict_is_valid w.decls)) scripts ≡ true
    → list_all is_plain_row (flat_map (session_rows w es) (enumerate_from s scripts)) ≡ true
sessions_are_plain w es s [] h = refl
sessions_are_plain w es s (vs ∷ scripts) h =
    let both = both_true (list_all (verdict_is_valid w.decls) vs) (list_all (list_all (verdict_is_valid w.decls)) scripts) h in
    list_all-append is_plain_row (session_rows w es (s, vs)) (flat_map (session_rows w es) (enumerate_from (s + 1) scripts))
    (true_both _ _ (session_row_are_plain s) (lines_are_plain w.decls (reply_of_turn w es s) 1 vs both.0))
    (sessions_are_plain w es (s + 1) scripts both.1)

-- a plain row has words alone
pub plain_words : (row : List (List ℕ)) → is_plain_row row ≡ true → list_all is_word row ≡ true
plain_words row h = (both_true (list_all is_word row) (begins_no_history row) h).0

-- a plain row does not begin with `history`
pub plain_no_history : (row : List (List ℕ)) → is_plain_row row ≡ true → begins_no_history row ≡ true
plain_no_history row h = (both_true (list_all is_word row) (begins_no_history row) h).1

-- ---- rows after the history

tensor_words : (w : World) (es : List Entry) (t : ℕ) → IsValid w → t < length w.decls.tensors → list_all (list_all is_word) (tensor_rows w es t) ≡ true
tensor_words w es t v l =
    let pairs = nonzeros (contents_after w es t) (all_below (dims_of w.decls t)) in
    rw (is_word-is_name (name_in (slice_get w.decls.tensors t)) (name_at w.decls t v.decls l), is_word-decimal (length pairs))
    (list_all-weaker is_plain_row (list_all is_word) (map pair_row pairs) plain_words (pairs_are_plain pairs))

-- the rows of printed tensors are words
pub tensors_words : (w : World) (es : List Entry) (printed : List ℕ) → IsValid w → All (λ t. t < length w.decls.tensors) printed
    → list_all (list_all is_word) (flat_map (tensor_rows w es) printed) ≡ true
tensors_words w es [] v h = refl
tensors_words w es (t ∷ ts) v h = list_all-append (list_all is_word) (tensor_rows w es t) (flat_map (tensor_rows w es) ts)
    (tensor_words w es t v (h 0 t (omega arith)))
    (tensors_words w es ts v (All-rest (λ x. x < length w.decls.tensors) t ts h))
