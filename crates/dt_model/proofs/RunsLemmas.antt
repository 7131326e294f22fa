-- What one more entry adds to a history, its contents and its replies, and what stays.
use Rattle.std.proofs.Common.{◌≡◌, ℕ, ◌++◌, Bool, true, false, cond, List, [], ◌∷◌, length, refl, ap, arith, Some, None, All}
use Rattle.std.specs.Prelude.{◌||◌}
use Rattle.dt_model.specs.declared.calls.Entry.{Entry}
use Rattle.dt_model.specs.declared.declared_tensors.Decls.{Decls}
use Rattle.dt_model.specs.Contents.{Contents}
use Rattle.dt_model.specs.Runs.{is_turn, has_turn, reply_of_turn_from, reply_to, after_call, after_entries, reply_of_entry, contents_after, base_of}
use Rattle.dt_model.proofs.Booleans.{All-rest}
use Rattle.std.specs.List.{slice_get}
use Rattle.std.proofs.lemmas.List.Sums.{fold_push}
use Rattle.std.proofs.Math.Seq.{take-append_seam}
use Rattle.dt_model.specs.declared.replies.World.{World}

-- the contents after one more entry are those after its call
pub contents_after-push : (w : World) (es : List Entry) (e : Entry) → contents_after w (es ++ e ∷ []) ≡ after_call (contents_after w es) e.call
contents_after-push w es e = fold_push (λ m f. after_call m f.call) (base_of w) es e

-- the element that was added last is after all others
pub slice_get-last : {X : Type 0} (xs : List X) (y : X) → slice_get (xs ++ y ∷ []) (length xs) ≡ Some y
slice_get-last [] y = refl
slice_get-last (x ∷ xs) y = slice_get-last xs y

-- the reply of the entry that was added last is that to its call after all others
pub reply_of_entry-push : (w : World) (es : List Entry) (e : Entry)
    → reply_of_entry w (es ++ e ∷ []) (length es) ≡ Some (reply_to w.decls (contents_after w es) e.call)
reply_of_entry-push w es e = rw (slice_get-last es e, take-append_seam es (e ∷ [])) refl

-- an entry of another turn changes no reply
pub reply_of_turn_from-other : (d : Decls) (m : Contents) (es : List Entry) (e : Entry) (s n : ℕ) → is_turn s n e ≡ false
    → reply_of_turn_from d m (es ++ e ∷ []) s n ≡ reply_of_turn_from d m es s n
reply_of_turn_from-other d m [] e s n h = rw h refl
reply_of_turn_from-other d m (x ∷ es) e s n h =
    ap (λ r. cond (is_turn s n x) (Some (reply_to d m x.call)) r) (reply_of_turn_from-other d (after_call m x.call) es e s n h)

-- the new entry's own reply
pub reply_of_turn_from-own : (d : Decls) (m : Contents) (es : List Entry) (e : Entry) (s n : ℕ) → has_turn es s n ≡ false → is_turn s n e ≡ true
    → reply_of_turn_from d m (es ++ e ∷ []) s n ≡ Some (reply_to d (after_entries m es) e.call)
reply_of_turn_from-own d m [] e s n h t = rw t refl
reply_of_turn_from-own d m (x ∷ es) e s n h t =
    let parts = neither (is_turn s n x) (has_turn es s n) h in
    rw parts.0 (reply_of_turn_from-own d (after_call m x.call) es e s n parts.1 t)
  where
    neither : (a b : Bool) → (a || b) ≡ false → (a ≡ false) × (b ≡ false)
    neither true b e = absurd (cc)
    neither false b e = (refl, e)

-- a turn that is not there has no reply
pub reply_of_turn_from-none : (d : Decls) (m : Contents) (es : List Entry) (s n : ℕ) → has_turn es s n ≡ false → reply_of_turn_from d m es s n ≡ None
reply_of_turn_from-none d m [] s n h = refl
reply_of_turn_from-none d m (x ∷ es) s n h =
    let parts = neither (is_turn s n x) (has_turn es s n) h in
    rw parts.0 (reply_of_turn_from-none d (after_call m x.call) es s n parts.1)
  where
    neither : (a b : Bool) → (a || b) ≡ false → (a ≡ false) × (b ≡ false)
    neither true b e = absurd (cc)
    neither false b e = (refl, e)

-- every entry has P
abbrev pub Each : (Entry → Type 0) → List Entry → Type 0
Each P [] = Unit {0}
Each P (e ∷ es) = P e × Each P es

-- what follows from what holds of each entry holds of each
pub Each-weaker : (P Q : Entry → Type 0) (es : List Entry) → ((e : Entry) → P e → Q e) → Each P es → Each Q es
Each-weaker P Q [] f h = tt
Each-weaker P Q (x ∷ es) f h = (f x h.0, Each-weaker P Q es f h.1)

-- what holds of all by index holds of each
pub Each-from_All : (P : Entry → Type 0) (es : List Entry) → All P es → Each P es
Each-from_All P [] h = tt
Each-from_All P (e ∷ es) h = (h 0 e (omega arith), Each-from_All P es (All-rest P e es h))

-- what follows from two facts of each entry holds of each
pub Each-both : (P Q R : Entry → Type 0) (es : List Entry) → ((e : Entry) → P e → Q e → R e) → Each P es → Each Q es → Each R es
Each-both P Q R [] f h k = tt
Each-both P Q R (e ∷ es) f h k = (f e h.0 k.0, Each-both P Q R es f h.1 k.1)

-- a turn that is no entry's is not there
pub has_turn-none : (es : List Entry) (s n : ℕ) → Each (λ e. is_turn s n e ≡ false) es → has_turn es s n ≡ false
has_turn-none [] s n h = refl
has_turn-none (x ∷ es) s n h = rw (h.0, has_turn-none es s n h.1) refl

-- a turn that is there is there after one more entry
pub has_turn-push : (es : List Entry) (e : Entry) (s n : ℕ) → has_turn es s n ≡ true → has_turn (es ++ e ∷ []) s n ≡ true
has_turn-push [] e s n h = absurd (cc)
has_turn-push (x ∷ es) e s n h = elim (is_turn s n x) as (λ b. (b || has_turn es s n) ≡ true → (b || has_turn (es ++ e ∷ []) s n)
    ≡ true) [ true ↦ λ _. refl | false ↦ λ k. has_turn-push es e s n k ] h

-- the turn of the last entry is there
pub has_turn-own : (es : List Entry) (e : Entry) (s n : ℕ) → is_turn s n e ≡ true → has_turn (es ++ e ∷ []) s n ≡ true
has_turn-own [] e s n h = rw h refl
has_turn-own (x ∷ es) e s n h = rw (has_turn-own es e s n h) (or_true (is_turn s n x))
  where
    or_true : (b : Bool) → (b || true) ≡ true
    or_true true = refl
    or_true false = refl
