-- The verdicts of a script's lines are valid and within the limits.
use Rattle.std.proofs.Common.{◌≡◌, ◌<◌, ◌≤◌, ◌+◌, ◌-◌, ◌++◌, ◌∷◌, [], ℕ, true, false, Bool, List, map, length, Option, Some, None, Result, Ok, Err, refl, sym, ap, subst, arith, length-append}
use Rattle.std.specs.Prelude.{MatchOption, MatchResult, not, sum_by, is_none, unwrap_or, if◌then◌else◌, nat_le, nat_lt, nat_eq, ◌==◌, ◌&&◌}
use Rattle.std.specs.List.{list_all, position, position_or_len}
use Rattle.std.specs.Cmp.Lexicographic.{pointwise}
use Rattle.std.proofs.lemmas.Bool.Decides.{nat_tests}
use Rattle.std.proofs.lemmas.List.{length-map}
use Rattle.std.proofs.lemmas.Option.{none-some}
use Rattle.std.proofs.lemmas.List.Sums.{sum_by-append}
use Rattle.dt_model.proofs.Booleans.{both_true, true_both, list_all-append}
use Rattle.dt_model.specs.declared.calls.Call.{Call}
use Rattle.dt_model.specs.declared.calls.Call.TheVariants as calls
use Rattle.dt_model.specs.declared.declared_tensors.Decls.{Decls}
use Rattle.dt_model.specs.declared.calls.Cell.{Cell}
use Rattle.dt_model.specs.declared.limits.TheConstants.{MOST_UPDATES, MOST_CALLS}
use Rattle.dt_model.specs.declared.replies.Refusal.{Refusal}
use Rattle.dt_model.specs.declared.replies.Refusal.TheVariants as because
use Rattle.dt_model.specs.declared.replies.Verdict.{Verdict}
use Rattle.dt_model.specs.declared.statements.Stmt.{Stmt}
use Rattle.dt_model.specs.declared.written.UpdateKind.{UpdateKind}
use Rattle.dt_model.specs.declared.written.UpdateKind.TheVariants as kind
use Rattle.dt_model.specs.declared.written.WrittenCall.{WrittenCall}
use Rattle.dt_model.specs.declared.written.WrittenCall.TheVariants as written
use Rattle.dt_model.specs.declared.written.WrittenCoordinate.{WrittenCoordinate}
use Rattle.dt_model.specs.declared.written.WrittenCoordinate.TheVariants.{Number, Huge}
use Rattle.dt_model.specs.declared.written.WrittenNumber.{WrittenNumber}
use Rattle.dt_model.specs.declared.written.WrittenNumber.TheVariants as number
use Rattle.dt_model.specs.declared.written.WrittenUpdate.{WrittenUpdate}
use Rattle.dt_model.specs.Names.{is_name}
use Rattle.dt_model.specs.Tensors.{tensor_named, dims_of}
use Rattle.dt_model.specs.Refusals.{or_else, when, first_of_all, is_in_dimension, range_fault, cell_fault, cell_fault_in, number_fault, update_fault, statement_fault}
use Rattle.dt_model.specs.Verdicts.{from_zero, cell_of, written_value, update_of_kind, update_of, unless_refused, verdict, all_in_range, cell_is_valid, update_cell, is_small, call_is_valid}
use Rattle.dt_model.specs.Worlds.{updates_in, verdict_is_valid}
use Rattle.dt_text.specs.Content.{content_lines, is_within_limit}
use Rattle.dt_text.specs.Spans.{end_column}
use Rattle.tns_io.specs.declared.faults.FileCause.{FileCause}
use Rattle.tns_io.specs.declared.faults.FileCause.TheVariants as cause
use Rattle.script_read.specs.Readings.{◌>>=◌, check, at_line}
use Rattle.script_read.specs.Words.{columned_words}
use Rattle.script_read.specs.Calls.{written_call}
use Rattle.script_read.specs.Scripts.{verdict_on, line_verdict, verdict_behind, numbered_verdict, script_of}
use Rattle.script_read.specs.Sound.{IsSoundScript}
use Rattle.script_read.proofs.ReadingsLemmas.{check-Ok, Ok-same, each_after-keeps}
use Rattle.index_read.proofs.NamedStatements.{IsNamedStmt}
use Rattle.script_read.proofs.StatementNames.{IsNamedFault, statement_fault-named}
use Rattle.script_read.proofs.UpdatesLemmas.{IsNamedRefusal}
use Rattle.script_read.proofs.CallsLemmas.{IsNamedCall, call_of_words-named}

-- ---- cells

-- a coordinate in a dimension, counted from 0
below : (d : ℕ) (c : WrittenCoordinate) → is_in_dimension d c ≡ true → nat_lt (from_zero c) d ≡ true
below d (Number n) h =
    let both = both_true (nat_le 1 n) (nat_le n d) h in
    let low : 1 ≤ n = let a = both.0 in grind (arith, nat_tests) in
    let high : n ≤ d = let a = both.1 in grind (arith, nat_tests) in
    let less : n - 1 < d = omega arith in
    grind (arith, nat_tests)
below d Huge h = absurd (let no : ◌≡◌ {A = Bool} false true = h in cc)

-- a fact with one more in front
in_front : (o : Option Refusal) (b c : Bool) → b ≡ true → MatchOption o (c ≡ true) IsNamedRefusal → MatchOption o ((b && c) ≡ true) IsNamedRefusal
in_front None b c h k = true_both b c h k
in_front (Some r) b c h k = k

-- the coordinates are in range, or the refusal names the tensor
range_valid : (n : List ℕ) (mode : ℕ) (ds : List ℕ) (cs : List WrittenCoordinate) → is_name n ≡ true → length cs ≡ length ds
    → MatchOption (range_fault n mode ds cs) (all_in_range ds (map from_zero cs) ≡ true) IsNamedRefusal
range_valid n mode [] [] named e = refl
range_valid n mode [] (c ∷ cs) named e = absurd (omega (arith, e))
range_valid n mode (d ∷ ds) [] named e = absurd (omega (arith, e))
range_valid n mode (d ∷ ds) (c ∷ cs) named e = elim (is_in_dimension d c) as (λ b. is_in_dimension d c ≡ b
    → MatchOption (or_else (when (not b) (because.Range n mode d)) (range_fault n (mode + 1) ds cs))
    ((nat_lt (from_zero c) d && all_in_range ds (map from_zero cs)) ≡ true) IsNamedRefusal) [
      | true ↦ λ h. in_front (range_fault n (mode + 1) ds cs) (nat_lt (from_zero c) d) (all_in_range ds (map from_zero cs)) (below d c h)
          (range_valid n (mode + 1) ds cs named (omega (arith, e)))
      | false ↦ λ h. named
    ] refl

-- a cell of the tensor with this number is valid, or the refusal names the tensor
cell_valid_in : (d : Decls) (n : List ℕ) (cs : List WrittenCoordinate) (t : ℕ) → is_name n ≡ true → t < length d.tensors
    → MatchOption (cell_fault_in d n cs (Some t)) ((nat_lt t (length d.tensors) && all_in_range (dims_of d t) (map from_zero cs)) ≡ true) IsNamedRefusal
cell_valid_in d n cs t named low =
    let there : nat_lt t (length d.tensors) ≡ true = grind (arith, nat_tests) in
    elim (length cs == length (dims_of d t)) as (λ b. (length cs == length (dims_of d t)) ≡ b
    → MatchOption (or_else (when (not b) (because.Rank n (length cs) (length (dims_of d t)))) (range_fault n 1 (dims_of d t) cs))
    ((nat_lt t (length d.tensors) && all_in_range (dims_of d t) (map from_zero cs)) ≡ true) IsNamedRefusal) [
      | true ↦ λ h. let same : length cs ≡ length (dims_of d t) = grind (arith, nat_tests) in
          in_front (range_fault n 1 (dims_of d t) cs) (nat_lt t (length d.tensors)) (all_in_range (dims_of d t) (map from_zero cs)) there
          (range_valid n 1 (dims_of d t) cs named same)
      | false ↦ λ h. named
    ] refl

-- the place that is found is below the length
position_below : {X : Type 0} (p : X → Bool) (xs : List X) (t : ℕ) → position p xs ≡ Some t → t < length xs
position_below p xs t e = elim (nat_lt (position_or_len p xs) (length xs)) as
    (λ b. nat_lt (position_or_len p xs) (length xs) ≡ b → (if b then Some (position_or_len p xs) else None) ≡ Some t → t < length xs) [
      | true ↦ λ h f. let same : position_or_len p xs ≡ t = cc in let low : position_or_len p xs < length xs = grind (arith, nat_tests) in subst
          (λ k. k < length xs) same low
      | false ↦ λ h f. absurd (none-some t f)
    ] refl e

-- a cell is valid, or its refusal names its tensor
cell_valid : (d : Decls) (n : List ℕ) (cs : List WrittenCoordinate) → is_name n ≡ true
    → MatchOption (cell_fault d n cs) (cell_is_valid d (cell_of d n cs) ≡ true) IsNamedRefusal
cell_valid d n cs named = elim (tensor_named d n) as (λ o. tensor_named d n ≡ o
    → MatchOption (cell_fault_in d n cs o) ((nat_lt (unwrap_or o 0) (length d.tensors) && all_in_range (dims_of d (unwrap_or o 0)) (map from_zero cs)) ≡ true)
    IsNamedRefusal) [
      | None ↦ λ e. named
      | Some t ↦ λ e. cell_valid_in d n cs t named (position_below (λ x. pointwise nat_eq x.name n) d.tensors t e)
    ] refl

-- ---- updates

-- the number of an update is refused without a name
number_named : (n : WrittenNumber) → MatchOption (number_fault n) (Unit {0}) IsNamedRefusal
number_named (number.Whole v) = tt
number_named number.Fraction = refl
number_named number.Huge = refl

-- the first of two faults
first_named : (o p : Option Refusal) (P : Type 0) → MatchOption o P IsNamedRefusal → MatchOption p (Unit {0}) IsNamedRefusal
    → MatchOption (or_else o p) P IsNamedRefusal
first_named (Some r) p P h k = h
first_named None (Some r) P h k = k
first_named None None P h k = h

cell_of_kind : (k : UpdateKind) (c : Cell) (v : ℕ) → update_cell (update_of_kind k c v) ≡ c
cell_of_kind kind.Set c v = refl
cell_of_kind kind.Add c v = refl

-- an update is valid, or its refusal names names
update_valid : (d : Decls) (u : WrittenUpdate) → is_name u.name ≡ true
    → MatchOption (update_fault d u) (cell_is_valid d (update_cell (update_of d u)) ≡ true) IsNamedRefusal
update_valid d u named =
    let cell = cell_of d u.name u.coordinates in
    let v = written_value u.number in
    subst (λ c. MatchOption (update_fault d u) (cell_is_valid d c ≡ true) IsNamedRefusal) (sym (cell_of_kind u.kind cell v))
    (first_named (cell_fault d u.name u.coordinates) (number_fault u.number) (cell_is_valid d cell ≡ true) (cell_valid d u.name u.coordinates named)
    (number_named u.number))

-- the first of the faults of updates
more_valid : (o p : Option Refusal) (b c : Bool) → MatchOption o (b ≡ true) IsNamedRefusal → MatchOption p (c ≡ true) IsNamedRefusal
    → MatchOption (or_else o p) ((b && c) ≡ true) IsNamedRefusal
more_valid (Some r) p b c h k = h
more_valid None (Some r) b c h k = k
more_valid None None b c h k = true_both b c h k

updates_valid : (d : Decls) (us : List WrittenUpdate) → list_all (λ u. is_name u.name) us ≡ true
    → MatchOption (first_of_all (map (update_fault d) us)) (list_all (λ u. cell_is_valid d (update_cell u)) (map (update_of d) us) ≡ true) IsNamedRefusal
updates_valid d [] h = refl
updates_valid d (u ∷ us) h =
    let both = both_true (is_name u.name) (list_all (λ u. is_name u.name) us) h in
    more_valid (update_fault d u) (first_of_all (map (update_fault d) us)) (cell_is_valid d (update_cell (update_of d u)))
    (list_all (λ u. cell_is_valid d (update_cell u)) (map (update_of d) us))
    (update_valid d u both.0) (updates_valid d us both.1)

-- ---- verdicts

-- a call that is valid where it isn't refused
unless_valid : (d : Decls) (o : Option Refusal) (call : Call) → MatchOption o (call_is_valid d call ≡ true) IsNamedRefusal
    → verdict_is_valid d (unless_refused o call) ≡ true
unless_valid d None call h = h
unless_valid d (Some r) call h = h

-- a batch of 1 to 64 updates
batch_valid : (d : Decls) (us : List WrittenUpdate) (o : Option Refusal) → nat_le 1 (length us) ≡ true → nat_le (length us) MOST_UPDATES ≡ true
    → MatchOption o (list_all (λ u. cell_is_valid d (update_cell u)) (map (update_of d) us) ≡ true) IsNamedRefusal
    → MatchOption o (call_is_valid d (calls.Batch (map (update_of d) us)) ≡ true) IsNamedRefusal
batch_valid d us (Some r) low high h = h
batch_valid d us None low high h =
    let count : length (map (update_of d) us) ≡ length us = length-map us (update_of d) in
    let low_too : nat_le 1 (length (map (update_of d) us)) ≡ true = rw count low in
    let high_too : nat_le (length (map (update_of d) us)) MOST_UPDATES ≡ true = rw count high in
    rw (low_too, high_too, h) refl

-- a statement that isn't refused
query_valid : (d : Decls) (s : Stmt) (o : Option Refusal) → statement_fault d s ≡ o → IsNamedStmt s → IsNamedFault o
    → MatchOption o (call_is_valid d (calls.Query s) ≡ true) IsNamedRefusal
query_valid d s None e h k =
    let none : is_none (statement_fault d s) ≡ true = ap is_none e in
    true_both (is_small s) (is_none (statement_fault d s)) h.small none
query_valid d s (Some r) e h k = k

-- the verdict on a call that names names is valid
verdict_valid : (d : Decls) (call : WrittenCall) → IsNamedCall call → verdict_is_valid d (verdict d call) ≡ true
verdict_valid d (written.Get n cs) h = unless_valid d (cell_fault d n cs) (calls.Get (cell_of d n cs)) (cell_valid d n cs h)
verdict_valid d (written.Batch us) h = unless_valid d (first_of_all (map (update_fault d) us)) (calls.Batch (map (update_of d) us))
    (batch_valid d us (first_of_all (map (update_fault d) us)) h.0 h.1 (updates_valid d us h.2))
verdict_valid d (written.Query s) h =
    unless_valid d (statement_fault d s) (calls.Query s) (query_valid d s (statement_fault d s) refl h (statement_fault-named d s h))

-- the verdict on what was read is valid
read_valid : (d : Decls) (r : Result WrittenCall Refusal) → MatchResult r IsNamedCall IsNamedRefusal → verdict_is_valid d (verdict_on d r) ≡ true
read_valid d (Ok call) h = verdict_valid d call h
read_valid d (Err r) h = h

-- the verdict on a line is valid
pub line_verdict-valid : (d : Decls) (line : List ℕ) → verdict_is_valid d (line_verdict d line) ≡ true
line_verdict-valid d line = read_valid d (written_call line) (call_of_words-named line (end_column line) (columned_words 0 line))

-- ---- scripts

-- one verdict more
script_more : (d : Decls) (most : ℕ) (vs : List Verdict) (v : Verdict) → IsSoundScript d most vs → length vs < MOST_CALLS
    → updates_in v ≤ most - sum_by updates_in vs → verdict_is_valid d v ≡ true
    → IsSoundScript d most (vs ++ v ∷ [])
script_more d most vs v h low left valid =
    let so_far = h.updates in
    let all = h.valid in
    record {
      calls = omega (arith, length-append vs (v ∷ []));
      updates = let s : sum_by updates_in (vs ++ v ∷ []) ≡ sum_by updates_in vs + sum_by updates_in (v ∷ []) = sum_by-append updates_in vs (v ∷ []) in
          let one : sum_by updates_in (v ∷ []) ≡ updates_in v = omega arith in omega arith;
      valid = list_all-append (verdict_is_valid d) vs (v ∷ []) all (rw valid refl);
    }

-- the last of a line's tests
abbrev within_updates : Decls → ℕ → List ℕ → Result Verdict FileCause
within_updates d left line = check (nat_le (updates_in (line_verdict d line)) left) cause.Limit >>= (λ _. Ok (line_verdict d line))

-- a numbered reading gives what the reading gives
unnumbered : (n : ℕ) (r : Result Verdict FileCause) (v : Verdict) → at_line n r ≡ Ok v → r ≡ Ok v
unnumbered n (Ok w) v e = ap Ok (Ok-same w v e)
unnumbered n (Err c) v e = absurd (let no : ⊥ = cc in no)

-- what is read behind sound verdicts is sound
line_more : (d : Decls) (most : ℕ) (vs : List Verdict) (line : ℕ × List ℕ) (v : Verdict) → IsSoundScript d most vs → numbered_verdict d most vs line ≡ Ok v
    → IsSoundScript d most (vs ++ v ∷ [])
line_more d most vs line v h e =
    let left = most - sum_by updates_in vs in
    let r = unnumbered line.0 (verdict_behind d (length vs) left line.1) v e in
    let a = check-Ok (is_within_limit line.1 && nat_lt (length vs) MOST_CALLS) cause.Limit (λ _. within_updates d left line.1) v r in
    let c = check-Ok (nat_le (updates_in (line_verdict d line.1)) left) cause.Limit (λ _. Ok (line_verdict d line.1)) v a.1 in
    let low : length vs < MOST_CALLS = let t = (both_true (is_within_limit line.1) (nat_lt (length vs) MOST_CALLS) a.0).1 in grind (arith, nat_tests) in
    let few : updates_in (line_verdict d line.1) ≤ left = let t = c.0 in grind (arith, nat_tests) in
    subst (λ w. IsSoundScript d most (vs ++ w ∷ [])) (Ok-same (line_verdict d line.1) v c.1)
    (script_more d most vs (line_verdict d line.1) h low few (line_verdict-valid d line.1))

-- the verdicts of a script that is read are sound
pub IsSoundScript-script_of : (d : Decls) (most : ℕ) (text : List ℕ) (vs : List Verdict) → script_of d most text ≡ Ok vs → IsSoundScript d most vs
IsSoundScript-script_of d most text vs e = each_after-keeps (IsSoundScript d most) (numbered_verdict d most) (line_more d most) [] (content_lines text) vs
    (record { calls = omega arith; updates = omega arith; valid = refl }) e
