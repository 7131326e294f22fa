-- What a valid World says of its scripts and calls.
use Rattle.std.proofs.Common.{◌≡◌, ℕ, ◌+◌, ◌-◌, ◌*◌, ◌<◌, ◌≤◌, Bool, true, false, List, [], ◌∷◌, length, refl, ap, sym, ◌∙◌, arith, subst, Option, Some, None, zero, suc, IsTrue, Bor, get_or, take, sum_by}
use Rattle.std.specs.Prelude.{◌&&◌, ◌||◌, nat_le, nat_lt, slice_get, option_and_then, if◌then◌else◌, find, is_some, unwrap_or, IfSome, All}
use Rattle.std.specs.List.{list_all, range_with_len, enumerate_from}
use Rattle.std.specs.Option.{option_copied}
use Rattle.std.proofs.lemmas.Option.{slice_get-get_or, slice_get_past}
use Rattle.std.proofs.lemmas.List.Elements.{All-weaker}
use Rattle.std.proofs.lemmas.List.Sums.{AllPass-from_list_all, sum_by-le}
use Rattle.dt_model.specs.declared.declared_tensors.TensorDecl.{TensorDecl}
use Rattle.dt_model.specs.Tensors.{first_latch}
use Rattle.dt_model.specs.Latches.{is_latch_of}
use Rattle.std.proofs.lemmas.Bool.Decides.{nat_tests}
use Rattle.dt_model.specs.declared.calls.Call.{Call}
use Rattle.dt_model.specs.declared.replies.Verdict.{Verdict}
use Rattle.dt_model.specs.declared.replies.Verdict.TheVariants.{Accepted, Refused}
use Rattle.dt_model.specs.declared.declared_tensors.Decls.{Decls}
use Rattle.dt_model.specs.declared.replies.World.{World}
use Rattle.dt_model.specs.Verdicts.{call_is_valid}
use Rattle.dt_model.specs.Worlds.{IsValid, verdict_is_valid}
use Rattle.dt_model.specs.Runs.{call_of, accepted_call, verdict_of_turn}
use Rattle.dt_model.proofs.Booleans.{both_true}
use Rattle.dt_model.specs.declared.limits.TheConstants.{MOST_CALLS, MOST_SESSIONS}
use Rattle.commit_core.specs.Turns.{script_of, lines_in, next_after}

-- what passes of all passes of the one at a place
pub all_at : {X : Type 0} (p : X → Bool) (xs : List X) (i : ℕ) (x : X) → list_all p xs ≡ true → slice_get xs i ≡ Some x → p x ≡ true
all_at p [] i x h e = cc
all_at p (y ∷ ys) zero x h e = let here = (both_true (p y) (list_all p ys) h).0 in cc
all_at p (y ∷ ys) (suc i) x h e = all_at p ys i x (both_true (p y) (list_all p ys) h).1 e

-- where a chain of two gives a value, the first has one, and the second gives it
pub and_then_some : {A B : Type 0} (f : A → Option B) (o : Option A) (b : B) → option_and_then f o ≡ Some b → (a : A) × (o ≡ Some a) × (f a ≡ Some b)
and_then_some f None b e = cc
and_then_some f (Some a) b e = (a, refl, e)

-- where a guarded option gives a value, the guard passes and the option has it
pub if_some : {A : Type 0} (t : Bool) (o : Option A) (a : A) → (if t then o else None) ≡ Some a → (t ≡ true) × (o ≡ Some a)
if_some true o a e = (refl, e)
if_some false o a e = cc

-- a script of a valid World has at most MOST_CALLS lines
pub script_is_short : (w : World) (s : ℕ) (script : List Verdict) → IsValid w → script_of w s ≡ Some script → length script ≤ MOST_CALLS
script_is_short w s script v e =
    let found = (if_some (nat_le 1 s) (slice_get w.scripts (s - 1)) script e).1 in
    let short = all_at (λ x. nat_le (length x) MOST_CALLS) w.scripts (s - 1) script v.calls found in
    grind (arith, nat_tests)

accepted_is_valid : (d : Decls) (v : Verdict) (call : Call) → verdict_is_valid d v ≡ true → accepted_call v ≡ Some call → call_is_valid d call ≡ true
accepted_is_valid d (Accepted c) call h e = let same : c ≡ call = cc in subst (λ x. call_is_valid d x ≡ true) same h
accepted_is_valid d (Refused r) call h e = cc

-- an accepted call is valid
pub call_is_valid_at : (w : World) (s n : ℕ) (call : Call) → IsValid w → call_of w s n ≡ Some call → call_is_valid w.decls call ≡ true
call_is_valid_at w s n call v e =
    let one = and_then_some accepted_call (verdict_of_turn w.scripts s n) call e in
    let two = if_some (nat_le 1 s && nat_le 1 n) (option_and_then (λ script. slice_get script (n - 1)) (slice_get w.scripts (s - 1))) one.0 one.1 in
    let three = and_then_some (λ script. slice_get script (n - 1)) (slice_get w.scripts (s - 1)) one.0 two.1 in
    let script = all_at (list_all (verdict_is_valid w.decls)) w.scripts (s - 1) three.0 v.accepted three.1 in
    accepted_is_valid w.decls one.0 call (all_at (verdict_is_valid w.decls) three.0 (n - 1) one.0 script three.2) one.2

range_more : (k n : ℕ) → k < n → range_with_len (k + 1) (n - k) ≡ (k + 1) ∷ range_with_len (k + 1 + 1) (n - (k + 1))
range_more k n l = let e : n - k ≡ suc (n - (k + 1)) = omega arith in rw e refl

-- the search for the next call, one line on
pub find_here : (p : ℕ → Bool) (k n : ℕ) → k < n → p (k + 1) ≡ true → find p (range_with_len (k + 1) (n - k)) ≡ Some (k + 1)
find_here p k n l h = rw (range_more k n l, h) refl

-- the search goes on behind a line that has no accepted call
pub find_later : (p : ℕ → Bool) (k n : ℕ) → k < n → p (k + 1) ≡ false
    → find p (range_with_len (k + 1) (n - k)) ≡ find p (range_with_len (k + 1 + 1) (n - (k + 1)))
find_later p k n l h = rw (range_more k n l, h) refl

-- behind the last line there is none
pub find_none : (p : ℕ → Bool) (k n : ℕ) → n ≤ k → find p (range_with_len (k + 1) (n - k)) ≡ None
find_none p k n l = let e : n - k ≡ 0 = omega arith in rw e refl

-- a copy is there where the original is
pub copied_is_some : {X : Type 0} (o : Option (Bor X)) → is_some (option_copied o) ≡ is_some o
copied_is_some None = refl
copied_is_some (Some x) = refl

-- whether a latch is one of the tensor at a place, where the latches before it are few enough
pub latch_here : (d : Decls) (xs : List TensorDecl) (t w first : ℕ) (x : TensorDecl) → xs ≡ d.tensors → t < length xs
    → first ≡ sum_by (λ y. y.latches) (take t xs) → first ≤ w → nat_lt w (first + (get_or xs t x).latches) ≡ is_latch_of d w (Some t)
latch_here d xs t w first x same l is low =
    let l' : t < length d.tensors = rw (← same) l in
    let found : slice_get d.tensors t ≡ Some (get_or d.tensors t x) = slice_get-get_or d.tensors t x l' in
    let first_is : first ≡ first_latch d t = is ∙ ap (λ ys. sum_by (λ y. y.latches) (take t ys)) same in
    let le : nat_le (first_latch d t) w ≡ true = grind (arith, nat_tests) in
    rw (found, le, first_is, same) refl

-- a disjunction whose left side holds
pub or_here : (x y r : Bool) → r ≡ true → r ≡ x → r ≡ (x || y)
or_here x y r t e = rw (← e, t) refl

-- a disjunction whose left side fails is its right side
pub or_later : (x y r q : Bool) → r ≡ false → r ≡ x → q ≡ y → q ≡ (x || y)
or_later x y r q f e g = rw (← e, f, g) refl

-- what passes of all numbered items passes of the one at a place
pub all_enumerated : {X : Type 0} (p : ℕ × X → Bool) (n : ℕ) (xs : List X) (i k : ℕ) (x : X) → list_all p (enumerate_from n xs) ≡ true → i < length xs
    → k ≡ n + i → p (k, get_or xs i x) ≡ true
all_enumerated p n [] i k x h l e = absurd (omega arith)
all_enumerated p n (y ∷ ys) zero k x h l e = let same : k ≡ n = omega arith in rw same (both_true (p (n, y)) (list_all p (enumerate_from (n + 1) ys)) h).0
all_enumerated p n (y ∷ ys) (suc i) k x h l e = all_enumerated p (n
    + 1) ys i k x (both_true (p (n, y)) (list_all p (enumerate_from (n + 1) ys)) h).1 (omega arith) (omega arith)

-- a call that is found is valid
pub found_is_valid : (w : World) (s n : ℕ) (o : Option (Bor Call)) → IsValid w → option_copied o ≡ call_of w s n
    → IfSome o (λ call. IsTrue (call_is_valid w.decls call.now))
found_is_valid w s n None v e = tt
found_is_valid w s n (Some call) v e = call_is_valid_at w s n call.now v (sym e)

past_scripts : (b : Bool) (o : Option (List Verdict)) → o ≡ None → (if b then o else None) ≡ None
past_scripts true o e = e
past_scripts false o e = refl

-- a session that the World doesn't have makes no call
pub none_after : (w : World) (s : ℕ) → length w.scripts < s → next_after w s 0 ≡ 0
none_after w s l =
    let none : script_of w s ≡ None = past_scripts (nat_le 1 s) (slice_get w.scripts (s - 1)) (slice_get_past w.scripts (s - 1) (omega arith)) in
    ap (λ o. unwrap_or (find (λ k. is_some (call_of w s k)) (range_with_len (0 + 1) (lines_in o - 0))) 0) none

-- all scripts together have at most 1,048,576 lines
pub lines_are_few : (w : World) → IsValid w → sum_by length w.scripts ≤ 1048576
lines_are_few w v =
    let each : All (λ s. length s ≤ MOST_CALLS) w.scripts =
    All-weaker (λ s. nat_le (length s) MOST_CALLS ≡ true) (λ s. length s ≤ MOST_CALLS) (λ s e. le_of (length s) MOST_CALLS e) w.scripts
    (AllPass-from_list_all (λ s. nat_le (length s) MOST_CALLS) w.scripts v.calls) in
    let sessions : length w.scripts ≤ MOST_SESSIONS = le_of (length w.scripts) MOST_SESSIONS v.sessions in
    let all : sum_by length w.scripts ≤ length w.scripts * MOST_CALLS = sum_by-le length MOST_CALLS w.scripts each in
    omega arith
  where
    le_of : (a b : ℕ) → nat_le a b ≡ true → a ≤ b
    le_of a b e = grind (arith, nat_tests)
