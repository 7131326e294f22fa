-- A script that was read while more updates were left is the same where they are enough.
use Rattle.std.proofs.Common.{◌≡◌, ◌≤◌, ◌+◌, ◌-◌, ◌++◌, ◌∷◌, [], ℕ, true, List, length, refl, sym, ap, ◌∙◌, subst, arith, Result, Ok, Err}
use Rattle.std.specs.Prelude.{sum_by, nat_le, nat_lt, ◌&&◌}
use Rattle.std.proofs.lemmas.Bool.Decides.{nat_tests}
use Rattle.std.proofs.lemmas.List.Sums.{sum_by_push}
use Rattle.dt_model.proofs.Booleans.{both_true}
use Rattle.dt_model.specs.declared.declared_tensors.Decls.{Decls}
use Rattle.dt_model.specs.declared.limits.TheConstants.{FILE_LIMIT, MOST_CALLS, MOST_LINES}
use Rattle.dt_model.specs.declared.replies.Verdict.{Verdict}
use Rattle.dt_model.specs.Worlds.{updates_in}
use Rattle.dt_text.specs.Content.{content_lines, is_within_limit}
use Rattle.tns_io.specs.declared.faults.FileCause.{FileCause}
use Rattle.tns_io.specs.declared.faults.FileCause.TheVariants as because
use Rattle.script_read.specs.Readings.{◌>>=◌, check, at_line, each_after}
use Rattle.script_read.specs.Scripts.{line_verdict, verdict_behind, numbered_verdict, script_of}
use Rattle.script_read.proofs.ReadingsLemmas.{check-Ok, Ok-same, each_after-keeps}
use Rattle.script_read.proofs.ScriptsLemmas.{IsSoundScript-script_of}
use Rattle.dyntensor.specs.Gathering.{has_room}
use Rattle.dyntensor.specs.Workload.{Gathered, decls_of, lines_left, located, too_large, with_script, with_text}
use Rattle.dyntensor.proofs.Bindings.{bind-Ok, bind-of}

-- a numbered reading gives what the reading gives
unnumbered : (n : ℕ) (r : Result Verdict FileCause) (v : Verdict) → at_line n r ≡ Ok v → r ≡ Ok v
unnumbered n (Ok w) v e = ap Ok (Ok-same w v e)
unnumbered n (Err c) v e = absurd (let no : ⊥ = cc in no)

-- a verdict behind lines is one where other updates are left, if they are enough
verdict_behind-other : (d : Decls) (calls left other : ℕ) (line : List ℕ) (v : Verdict) → verdict_behind d calls left line ≡ Ok v → updates_in v ≤ other
    → verdict_behind d calls other line ≡ Ok v
verdict_behind-other d calls left other line v e enough =
    let a = check-Ok (is_within_limit line && nat_lt calls MOST_CALLS) because.Limit
    (λ _. check (nat_le (updates_in (line_verdict d line)) left) because.Limit >>= (λ _. Ok (line_verdict d line))) v e in
    let c = check-Ok (nat_le (updates_in (line_verdict d line)) left) because.Limit (λ _. Ok (line_verdict d line)) v a.1 in
    let same : line_verdict d line ≡ v = Ok-same (line_verdict d line) v c.1 in
    let few : updates_in (line_verdict d line) ≤ other = subst (λ w. updates_in w ≤ other) (sym same) enough in
    let test : nat_le (updates_in (line_verdict d line)) other ≡ true = grind (arith, nat_tests) in
    rw (a.0, test, same) refl

-- the same of a numbered line
numbered_verdict-other : (d : Decls) (most other : ℕ) (before : List Verdict) (line : ℕ × List ℕ) (v : Verdict) → numbered_verdict d most before line ≡ Ok v
    → updates_in v ≤ other - sum_by updates_in before → numbered_verdict d other before line ≡ Ok v
numbered_verdict-other d most other before line v e enough =
    ap (at_line line.0) (verdict_behind-other d (length before) (most - sum_by updates_in before) (other - sum_by updates_in before) line.1 v
    (unnumbered line.0 (verdict_behind d (length before) (most - sum_by updates_in before) line.1) v e) enough)

-- the updates of verdicts are no more than those of all that are read behind them
updates_before : (d : Decls) (most : ℕ) (before : List Verdict) (lines : List (ℕ × List ℕ)) (vs : List Verdict)
    → each_after (numbered_verdict d most) before lines ≡ Ok vs → sum_by updates_in before ≤ sum_by updates_in vs
updates_before d most before lines vs e =
    each_after-keeps (λ ws. sum_by updates_in before ≤ sum_by updates_in ws) (numbered_verdict d most)
    (λ ws x v low is. let more : sum_by updates_in (ws ++ v ∷ []) ≡ sum_by updates_in ws + updates_in v = sum_by_push updates_in ws v in omega arith)
    before lines vs (omega arith) e

-- lines that were read
each_after-other : (d : Decls) (most other : ℕ) (before : List Verdict) (lines : List (ℕ × List ℕ)) (vs : List Verdict)
    → each_after (numbered_verdict d most) before lines ≡ Ok vs → sum_by updates_in vs ≤ other
    → each_after (numbered_verdict d other) before lines ≡ Ok vs
each_after-other d most other before [] vs e few = e
each_after-other d most other before (x ∷ xs) vs e few =
    let a = bind-Ok (numbered_verdict d most before x) (λ v. each_after (numbered_verdict d most) (before ++ v ∷ []) xs) vs e in
    let more : sum_by updates_in (before ++ a.0 ∷ []) ≡ sum_by updates_in before + updates_in a.0 = sum_by_push updates_in before a.0 in
    let low : sum_by updates_in (before ++ a.0 ∷ []) ≤ sum_by updates_in vs = updates_before d most (before ++ a.0 ∷ []) xs vs a.2 in
    let enough : updates_in a.0 ≤ other - sum_by updates_in before = omega arith in
    bind-of (numbered_verdict d other before x) (λ v. each_after (numbered_verdict d other) (before ++ v ∷ []) xs) a.0
    (numbered_verdict-other d most other before x a.0 a.1 enough)
    ∙ each_after-other d most other (before ++ a.0 ∷ []) xs vs a.2 few

-- a script that was read where `most` updates were left is read where its own are
pub script_of-other : (d : Decls) (most other : ℕ) (text : List ℕ) (script : List Verdict) → script_of d most text ≡ Ok script
    → sum_by updates_in script ≤ other → script_of d other text ≡ Ok script
script_of-other d most other text script e few = each_after-other d most other [] (content_lines text) script e few

-- its updates are within the limit of a workload
pub script_of-few : (d : Decls) (text : List ℕ) (script : List Verdict) → ((most : ℕ) × (most ≤ MOST_LINES) × (script_of d most text ≡ Ok script))
    → sum_by updates_in script ≤ MOST_LINES
script_of-few d text script h = let low = (IsSoundScript-script_of d h.0 text script h.2).updates in let high = h.1 in omega arith

-- it is added where there is room
pub with_text-read : (g : Gathered) (file text : List ℕ) (script : List Verdict)
    → ((most : ℕ) × (most ≤ MOST_LINES) × (script_of (decls_of g) most text ≡ Ok script)) → has_room g (length text) script ≡ true
    → with_text g file text ≡ Ok (with_script g (length text) script)
with_text-read g file text script h room =
    let both = both_true (nat_le (g.script_bytes + length text) FILE_LIMIT) (nat_le (sum_by updates_in script) (lines_left g)) room in
    let few : sum_by updates_in script ≤ lines_left g = let t = both.1 in grind (arith, nat_tests) in
    let read : script_of (decls_of g) (lines_left g) text ≡ Ok script = script_of-other (decls_of g) h.0 (lines_left g) text script h.2 few in
    ap (λ b. check b (too_large file) >>= (λ _. located file (script_of (decls_of g) (lines_left g) text) >>= (λ s. Ok (with_script g (length text) s)))) both.0
    ∙ ap (λ r. located file r >>= (λ s. Ok (with_script g (length text) s))) read
