-- The parts of a line between semicolons, and the updates in them.
use Rattle.std.proofs.Common.{◌≡◌, ◌<◌, ◌≤◌, ◌+◌, ◌++◌, ◌∷◌, [], ℕ, true, false, not, List, length, take, drop, get_or, Option, Some, None, Result, Ok, Err, refl, ap, sym, subst, ◌∙◌, arith, length-append}
use Rattle.std.specs.Prelude.{MatchResult, ◌==◌, nat_le, nat_lt}
use Rattle.std.specs.List.{slice_split, list_all}
use Rattle.std.proofs.lemmas.Bool.Decides.{nat_tests}
use Rattle.std.proofs.lemmas.List.{take-append-drop, drop_more, length-take-le, take_all}
use Rattle.std.proofs.lemmas.List.Splits.{length-slice_split}
use Rattle.dt_model.specs.declared.limits.TheConstants.{MOST_UPDATES}
use Rattle.dt_model.specs.declared.replies.Refusal.{Refusal}
use Rattle.dt_model.specs.declared.replies.Refusal.TheVariants.{Limit}
use Rattle.dt_model.specs.declared.written.UpdateKind.TheVariants as kind
use Rattle.dt_model.specs.declared.written.WrittenUpdate.{WrittenUpdate}
use Rattle.dt_model.specs.Names.{is_name}
use Rattle.dt_model.proofs.Booleans.{list_all-append}
use Rattle.dt_model.proofs.TextsLemmas.{split_at, split_none}
use Rattle.script_read.specs.declared.batches.TheConstants.{SEMICOLON}
use Rattle.script_read.specs.declared.verbs.Verb.{Verb}
use Rattle.script_read.specs.declared.verbs.Verb.TheVariants as verb
use Rattle.script_read.specs.Readings.{◌>>=◌, check, each_after}
use Rattle.script_read.specs.Verbs.{verb_of}
use Rattle.script_read.specs.Words.{columned_words}
use Rattle.script_read.specs.Batches.{parts_from, parts_of, update_of_verb, update_of_words, written_part, next_update, written_updates}
use Rattle.script_read.proofs.UpdatesLemmas.{IsNamedRefusal, then_fits, update_fits}

-- ---- parts

-- the part up to a semicolon, and those behind it
pub parts_of-at : (before : ℕ) (text : List ℕ) (e : ℕ) → e < length text → get_or text e 0 ≡ SEMICOLON
    → list_all (λ b. not (b == SEMICOLON)) (take e text) ≡ true
    → parts_of before text ≡ (before, take e text) ∷ parts_of (before + e + 1) (drop (e + 1) text)
parts_of-at before text e l f h =
    let len : length (take e text) ≡ e = length-take-le e text (omega arith) in
    let behind : drop e text ≡ SEMICOLON ∷ drop (e + 1) text = drop_more text e 0 l ∙ ap (λ b. b ∷ drop (e + 1) text) f in
    let whole : text ≡ take e text ++ SEMICOLON ∷ drop (e + 1) text = sym (take-append-drop e text) ∙ ap (λ r. take e text ++ r) behind in
    ap (parts_of before) whole
    ∙ ap (parts_from before) (split_at (λ b. b == SEMICOLON) (take e text) SEMICOLON (drop (e + 1) text) h refl)
    ∙ ap (λ n. (before, take e text) ∷ parts_of (before + n + 1) (drop (e + 1) text)) len

-- the last part
pub parts_of-last : (before : ℕ) (text : List ℕ) (e : ℕ) → length text ≤ e → list_all (λ b. not (b == SEMICOLON)) (take e text) ≡ true
    → parts_of before text ≡ (before, take e text) ∷ []
parts_of-last before text e l h =
    let all : take e text ≡ text = take_all e text l in
    ap (parts_from before) (split_none (λ b. b == SEMICOLON) text (subst (λ xs. list_all (λ b. not (b == SEMICOLON)) xs ≡ true) all h))
    ∙ ap (λ xs. (before, xs) ∷ []) (sym all)

-- ---- updates

-- the part of one update more
pub next_update-few : (us : List WrittenUpdate) (p : ℕ × List ℕ) (u : WrittenUpdate) → length us < MOST_UPDATES → written_part p ≡ Ok u
    → next_update us p ≡ Ok u
next_update-few us p u few e =
    let within : nat_lt (length us) MOST_UPDATES ≡ true = grind (arith, nat_tests) in
    rw within e

-- what is left gives the whole, behind one update more
pub updates-push : (old new : List WrittenUpdate) (p : ℕ × List ℕ) (left parts : List (ℕ × List ℕ)) (u : WrittenUpdate)
    (all : Result (List WrittenUpdate) Refusal) → each_after next_update old left ≡ all → left ≡ p ∷ parts → length old < MOST_UPDATES
    → written_part p ≡ Ok u → new ≡ old ++ u ∷ [] → each_after next_update new parts ≡ all
updates-push old new p left parts u all h e few read grew =
    ap (λ us. each_after next_update us parts) grew
    ∙ sym (ap (λ r. r >>= (λ y. each_after next_update (old ++ y ∷ []) parts)) (next_update-few old p u few read))
    ∙ ap (each_after next_update old) (sym e) ∙ h

-- 1 to 64 updates, each of a tensor with a name
abbrev pub AreNamedUpdates : List WrittenUpdate → Type 0
AreNamedUpdates us = (nat_le 1 (length us) ≡ true) × (nat_le (length us) MOST_UPDATES ≡ true) × (list_all (λ u. is_name u.name) us ≡ true)

-- a weaker fact of what is read
fits_less : {X : Type 0} (P Q : X → Type 0) (r : Result X Refusal) → MatchResult r P IsNamedRefusal → ((x : X) → P x → Q x) → MatchResult r Q IsNamedRefusal
fits_less P Q (Ok x) h k = k x h
fits_less P Q (Err e) h k = h

verb_fits : (column end : ℕ) (o : Option Verb) (ws : List (ℕ × List ℕ))
    → MatchResult (update_of_verb column end o ws) (λ u. is_name u.name ≡ true) IsNamedRefusal
verb_fits column end None ws = refl
verb_fits column end (Some verb.Set) ws = update_fits kind.Set end ws
verb_fits column end (Some verb.Add) ws = update_fits kind.Add end ws
verb_fits column end (Some verb.Get) ws = refl
verb_fits column end (Some verb.Batch) ws = refl
verb_fits column end (Some verb.Query) ws = refl

words_fit : (end : ℕ) (ws : List (ℕ × List ℕ)) → MatchResult (update_of_words end ws) (λ u. is_name u.name ≡ true) IsNamedRefusal
words_fit end [] = refl
words_fit end (w ∷ ws) = verb_fits w.0 end (verb_of w.1) ws

-- one update more
updates_more : (us : List WrittenUpdate) (u : WrittenUpdate) → length us < MOST_UPDATES → list_all (λ v. is_name v.name) us ≡ true → is_name u.name ≡ true
    → AreNamedUpdates (us ++ u ∷ [])
updates_more us u low h named =
    let count : length (us ++ u ∷ []) ≡ length us + 1 = length-append us (u ∷ []) in
    let some : 1 ≤ length (us ++ u ∷ []) = omega arith in
    let few : length (us ++ u ∷ []) ≤ MOST_UPDATES = omega arith in
    (grind (arith, nat_tests), grind (arith, nat_tests), list_all-append (λ v. is_name v.name) us (u ∷ []) h (rw named refl))

next_fits : (us : List WrittenUpdate) (p : ℕ × List ℕ) → list_all (λ v. is_name v.name) us ≡ true
    → MatchResult (next_update us p) (λ u. AreNamedUpdates (us ++ u ∷ [])) IsNamedRefusal
next_fits us p h = elim (nat_lt (length us) MOST_UPDATES) as (λ b. nat_lt (length us) MOST_UPDATES ≡ b
    → MatchResult (check b (Limit p.0) >>= (λ _. written_part p)) (λ u. AreNamedUpdates (us ++ u ∷ [])) IsNamedRefusal) [
      | true ↦ λ e. let low : length us < MOST_UPDATES = grind (arith, nat_tests) in
          fits_less (λ u. is_name u.name ≡ true) (λ u. AreNamedUpdates (us ++ u ∷ [])) (written_part p)
          (words_fit (p.0 + length p.1 + 1) (columned_words p.0 p.1)) (λ u named. updates_more us u low h named)
      | false ↦ λ e. refl
    ] refl

-- the updates of the parts behind some updates
updates_fit : (us : List WrittenUpdate) (ps : List (ℕ × List ℕ)) → AreNamedUpdates us
    → MatchResult (each_after next_update us ps) AreNamedUpdates IsNamedRefusal
updates_fit us [] h = h
updates_fit us (p ∷ ps) h =
    then_fits (λ u. AreNamedUpdates (us ++ u ∷ [])) AreNamedUpdates (next_update us p) (λ u. each_after next_update (us ++ u ∷ []) ps) (next_fits us p h.2)
    (λ u k. updates_fit (us ++ u ∷ []) ps k)

some_fit : (before : ℕ) (parts : List (List ℕ)) → 0 < length parts → MatchResult (written_updates (parts_from before parts)) AreNamedUpdates IsNamedRefusal
some_fit before [] h = absurd (omega arith)
some_fit before (part ∷ parts) h =
    let p : ℕ × List ℕ = (before, part) in
    let ps = parts_from (before + length part + 1) parts in
    then_fits (λ u. AreNamedUpdates ([] ++ u ∷ [])) AreNamedUpdates (next_update [] p) (λ u. each_after next_update ([] ++ u ∷ []) ps) (next_fits [] p refl)
    (λ u k. updates_fit ([] ++ u ∷ []) ps k)

-- the updates of a text are 1 to 64, each of a tensor with a name; or they are refused without one
pub written_updates-named : (before : ℕ) (text : List ℕ) → MatchResult (written_updates (parts_of before text)) AreNamedUpdates IsNamedRefusal
written_updates-named before text =
    let count = length-slice_split (λ b. b == SEMICOLON) text in
    some_fit before (slice_split (λ b. b == SEMICOLON) text) (omega (arith, count))
