-- The text of a finished run is its report.
use Rattle.std.proofs.Common.{◌≡◌, ℕ, ◌+◌, ◌++◌, List, [], ◌∷◌, length, take, ap, sym, ◌∙◌, subst, Some}
use Rattle.std.specs.Prelude.{slice_get, codes, map}
use Rattle.std.specs.List.{flat_map, enumerate_from}
use Rattle.std.specs.Fmt.{decimal}
use Rattle.std.proofs.lemmas.Grind.{flat_map-append}
use Rattle.dt_model.specs.declared.calls.Entry.{Entry}
use Rattle.dt_model.specs.declared.declared_tensors.TensorDecl.{TensorDecl}
use Rattle.dt_model.specs.declared.replies.World.{World}
use Rattle.dt_model.specs.Texts.{text_of}
use Rattle.dt_model.specs.Runs.{contents_after}
use Rattle.dt_model.specs.Report.{history_rows, session_rows, tensor_rows, pair_row, name_in, report, history, PrintsRun}
use Rattle.dt_model.specs.Statements.{all_below, nonzeros}
use Rattle.dt_model.specs.Tensors.{dims_of}
use Rattle.dt_model.proofs.TextsLemmas.{text_of-append}
use Rattle.dt_model.proofs.ReportLemmas.{PrintsRun-report, history-report}
use Rattle.dt_model.proofs.Booleans.{append_none}
use Rattle.fiber_latch.specs.declared.closing.Closed.{Closed}
use Rattle.fiber_store.specs.Stores.{StoreState}
use Rattle.dyntensor.specs.Finished.{IsFinished}
use Rattle.dyntensor.specs.Gathering.{IsRunnable}
use Rattle.dyntensor.specs.Leaving.{IsLeftBy}
use Rattle.dyntensor.proofs.NumberedLemmas.{text_more}
use Rattle.dyntensor.proofs.RunLemmas.{IsLeftBy-finished}
use Rattle.dyntensor.proofs.WorkloadLemmas.{take_one_more}

-- a text with the rows of a printed tensor more
pub tensors_text : (w : World) (es : List Entry) (printed : List ℕ) (i t : ℕ) (old before text : List ℕ) → slice_get printed i ≡ Some t
    → before ≡ old ++ text_of (flat_map (tensor_rows w es) (take i printed)) → text ≡ before ++ text_of (tensor_rows w es t)
    → text ≡ old ++ text_of (flat_map (tensor_rows w es) (take (i + 1) printed))
tensors_text w es printed i t old before text at so_far more =
    text_more old before text (flat_map (tensor_rows w es) (take i printed)) (tensor_rows w es t) (flat_map (tensor_rows w es) (take (i + 1) printed))
    so_far more
    (ap (flat_map (tensor_rows w es)) (take_one_more printed i t at)
    ∙ flat_map-append (tensor_rows w es) (take i printed) (t ∷ [])
    ∙ ap (λ rows. flat_map (tensor_rows w es) (take i printed) ++ rows) (append_none (tensor_rows w es t)))

-- the rows of a tensor, by its name and its nonzeros
pub tensor_rows-of : (w : World) (es : List Entry) (t : ℕ) (tensor : TensorDecl) (pairs : List (List ℕ × ℕ)) → slice_get w.decls.tensors t ≡ Some tensor
    → pairs ≡ nonzeros (contents_after w es t) (all_below (dims_of w.decls t))
    → (codes "tensor" ∷ tensor.name ∷ decimal (length pairs) ∷ []) ∷ map pair_row pairs ≡ tensor_rows w es t
tensor_rows-of w es t tensor pairs at is =
    ap (λ ps. (codes "tensor" ∷ tensor.name ∷ decimal (length ps) ∷ []) ∷ map pair_row ps) is
    ∙ ap (λ o. (codes "tensor" ∷ name_in o ∷ decimal (length (nonzeros (contents_after w es t) (all_below (dims_of w.decls t)))) ∷ [])
    ∷ map pair_row (nonzeros (contents_after w es t) (all_below (dims_of w.decls t)))) (sym at)

-- the whole text is the report
pub report_text : (w : World) (printed : List ℕ) (es : List Entry) (sessions turns text : List ℕ)
    → sessions ≡ [] ++ text_of (flat_map (session_rows w es) (enumerate_from 1 w.scripts))
    → turns ≡ sessions ++ text_of (history_rows es)
    → text ≡ turns ++ text_of (flat_map (tensor_rows w es) printed) → text ≡ report w printed es
report_text w printed es sessions turns text a b c =
    let s = flat_map (session_rows w es) (enumerate_from 1 w.scripts) in
    let t = flat_map (tensor_rows w es) printed in
    c ∙ ap (λ x. x ++ text_of t) (b ∙ ap (λ x. x ++ text_of (history_rows es)) a ∙ sym (text_of-append s (history_rows es)))
    ∙ sym (text_of-append (s ++ history_rows es) t)

-- a finished run prints its report
pub PrintsRun-finished : (w : World) (printed text : List ℕ) (closed : Closed StoreState) → IsRunnable w printed → IsFinished w closed
    → text ≡ report w printed closed.journal.entries → PrintsRun w printed text
PrintsRun-finished w printed text closed can done is =
    subst (PrintsRun w printed) (sym is) (PrintsRun-report w printed closed.journal.entries can.valid can.are_declared done.order done.gets)

-- its table is left by the history in the report
pub IsLeftBy-history : (w : World) (printed text : List ℕ) (closed : Closed StoreState) → IsRunnable w printed → IsFinished w closed
    → text ≡ report w printed closed.journal.entries → IsLeftBy w (history w text) closed
IsLeftBy-history w printed text closed can done is =
    IsLeftBy-finished w (history w text) closed done
    (ap (history w) is ∙ history-report w printed closed.journal.entries can.valid can.are_declared done.order)
