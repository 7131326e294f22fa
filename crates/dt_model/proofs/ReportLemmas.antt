-- A report has its history, and grows by rows.
use Rattle.std.proofs.Common.{◌≡◌, ℕ, ◌<◌, ◌^◌, ◌++◌, true, List, length, map, ap, sym, subst, ◌∙◌, append_assoc, arith, All, ◌+◌, ◌≤◌, [], ◌∷◌, refl, Option}
use Rattle.std.specs.List.{list_all, flat_map, filter_map, enumerate_from}
use Rattle.dt_model.specs.declared.calls.Entry.{Entry}
use Rattle.dt_model.specs.declared.replies.World.{World}
use Rattle.dt_model.specs.Texts.{is_word, rows_of}
use Rattle.dt_model.specs.Runs.{IsOrder, AllGets}
use Rattle.dt_model.specs.Worlds.{IsValid}
use Rattle.dt_model.specs.Report.{session_rows, turn_row, turn_rows, history_rows, tensor_rows, report, history, entry_of, PrintsRun, lines_rows, line_rows}
use Rattle.dt_model.proofs.Booleans.{list_all-weaker, list_all-append, append_none}
use Rattle.dt_model.proofs.TextsLemmas.{rows_of-text}
use Rattle.dt_model.proofs.ReportWords.{is_plain_row, sessions_are_plain, plain_words, plain_no_history, tensors_words}
use Rattle.dt_model.proofs.OrderLengths.{length-IsOrder}
use Rattle.dt_model.proofs.ReportHistories.{begins_no_history, AllInWorld-IsOrder, entries-turn_rows, turn_rows-skip, turn_rows-history, history_rows_are_words}
use Rattle.dt_model.specs.declared.replies.Reply.{Reply}
use Rattle.dt_model.specs.declared.replies.Verdict.{Verdict}

-- rows depend on the answers of their own lines alone
pub lines_rows-same : (r q : ℕ → Option Reply) (n : ℕ) (vs : List Verdict) → ((k : ℕ) → n ≤ k → k < n + length vs → r k ≡ q k)
    → lines_rows r n vs ≡ lines_rows q n vs
lines_rows-same r q n [] h = refl
lines_rows-same r q n (v ∷ vs) h =
    let here : r n ≡ q n = h n (omega arith) (omega arith) in
    rw (here, lines_rows-same r q (n + 1) vs (λ k low high. h k (omega arith) (omega arith))) refl

-- the rows of a line that follows come after those of the lines before it
pub lines_rows-push : (r : ℕ → Option Reply) (n : ℕ) (vs : List Verdict) (v : Verdict) (k : ℕ) → k ≡ n + length vs
    → lines_rows r n (vs ++ v ∷ []) ≡ lines_rows r n vs ++ line_rows k v (r k)
lines_rows-push r n [] v k e = let same : k ≡ n = omega arith in rw same (append_none (line_rows n v (r n)))
lines_rows-push r n (x ∷ vs) v k e =
    ap (λ rows. line_rows n x (r n) ++ rows) (lines_rows-push r (n + 1) vs v k (omega arith))
    ∙ sym (append_assoc (line_rows n x (r n)) (lines_rows r (n + 1) vs) (line_rows k v (r k)))

-- of each valid world and each order of it: the order is the history in the report, whichever declared tensors are printed
pub history-report : (w : World) (printed : List ℕ) (es : List Entry) → IsValid w → All (λ t. t < length w.decls.tensors) printed → IsOrder w es
    → history w (report w printed es) ≡ es
history-report w printed es valid declared order =
    let few = length-IsOrder w es valid order in
    let small : length es < 2 ^ 64 = omega (arith, few) in
    let front = flat_map (session_rows w es) (enumerate_from 1 w.scripts) in
    let back = flat_map (tensor_rows w es) printed in
    let good : list_all is_plain_row front ≡ true = sessions_are_plain w es 1 w.scripts valid.accepted in
    let words : list_all (list_all is_word) ((front ++ history_rows es) ++ back) ≡ true =
    list_all-append (list_all is_word) (front ++ history_rows es) back
    (list_all-append (list_all is_word) front (history_rows es) (list_all-weaker is_plain_row (list_all is_word) front plain_words good)
    (history_rows_are_words es))
    (tensors_words w es printed valid declared) in
    let read : rows_of (report w printed es) ≡ (front ++ history_rows es) ++ back = rows_of-text ((front ++ history_rows es) ++ back) words in
    let skip : turn_rows ((front ++ history_rows es) ++ back) ≡ map turn_row es =
    ap turn_rows (append_assoc front (history_rows es) back)
    ∙ turn_rows-skip front (history_rows es ++ back) (list_all-weaker is_plain_row begins_no_history front plain_no_history good)
    ∙ turn_rows-history es back small in
    ap (λ rows. filter_map (entry_of w) (turn_rows rows)) read ∙ ap (filter_map (entry_of w)) skip
    ∙ entries-turn_rows w es (AllInWorld-IsOrder w es valid order)

-- the report of an order that has every accepted get is what a run may print
pub PrintsRun-report : (w : World) (printed : List ℕ) (es : List Entry) → IsValid w → All (λ t. t < length w.decls.tensors) printed → IsOrder w es
    → AllGets w es → PrintsRun w printed (report w printed es)
PrintsRun-report w printed es valid declared order gets =
    let told = history-report w printed es valid declared order in
    record {
      reported = ap (report w printed) (sym told);
      order = subst (IsOrder w) (sym told) order;
      gets = subst (AllGets w) (sym told) gets;
    }
