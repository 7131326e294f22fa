-- The turns of a history read back to its entries.
use Rattle.std.proofs.Common.{◌≡◌, ℕ, ◌<◌, ◌≤◌, ◌^◌, ◌++◌, Bool, true, List, [], ◌∷◌, length, map, take, refl, ap, arith, Some, All, IsTrue, nat_le}
use Rattle.std.specs.List.{list_all, filter_map}
use Rattle.std.proofs.lemmas.Bool.Decides.{nat_tests}
use Rattle.dt_model.specs.declared.calls.Entry.{Entry}
use Rattle.dt_model.specs.declared.replies.World.{World}
use Rattle.dt_model.specs.declared.limits.TheConstants.{MOST_SESSIONS}
use Rattle.dt_model.specs.Texts.{is_word}
use Rattle.dt_model.specs.Runs.{call_of, IsOrder}
use Rattle.dt_model.specs.Worlds.{IsValid}
use Rattle.dt_model.specs.Report.{entry_of, turn_row, turn_rows, history_rows}
use Rattle.dt_model.proofs.Booleans.{All-rest, both_true, not_true}
use Rattle.dt_model.proofs.NumberWords.{is_word-decimal, is_not_history, number_of-decimal}

-- the entry's call is that of its turn in the world, and its numbers are small
pub record IsInWorld (w : World) (e : Entry) : Type 0 where
  pub session : e.turn.session < 2 ^ 64
  pub number : e.turn.number < 2 ^ 64
  pub called : call_of w e.turn.session e.turn.number ≡ Some e.call

-- so for every entry
abbrev pub AllInWorld : World → List Entry → Type 0
AllInWorld w [] = Unit {0}
AllInWorld w (e ∷ es) = IsInWorld w e × AllInWorld w es

-- a turn's line reads back to its entry
pub entry_of-turn_row : (w : World) (e : Entry) → IsInWorld w e → entry_of w (turn_row e) ≡ Some e
entry_of-turn_row w e t = rw (number_of-decimal e.turn.session t.session, number_of-decimal e.turn.number t.number, t.called) refl

-- the turns' lines read back to the entries
pub entries-turn_rows : (w : World) (es : List Entry) → AllInWorld w es → filter_map (entry_of w) (map turn_row es) ≡ es
entries-turn_rows w [] h = refl
entries-turn_rows w (e ∷ es) h = rw (entry_of-turn_row w e h.0, entries-turn_rows w es h.1) refl

-- ---- orders

AllInWorld-from_All : (w : World) (es : List Entry) → All (λ e. e.turn.session < 2 ^ 64) es → All (λ e. e.turn.number < 2 ^ 64) es
    → All (λ e. call_of w e.turn.session e.turn.number ≡ Some e.call) es → AllInWorld w es
AllInWorld-from_All w [] s n c = tt
AllInWorld-from_All w (e ∷ es) s n c = (
  record { session = s 0 e (omega arith); number = n 0 e (omega arith); called = c 0 e (omega arith) },
  AllInWorld-from_All w es (All-rest (λ x. x.turn.session < 2 ^ 64) e es s) (All-rest (λ x. x.turn.number < 2 ^ 64) e es n)
      (All-rest (λ x. call_of w x.turn.session x.turn.number ≡ Some x.call) e es c),
)

-- the entries of an order are in the world
pub AllInWorld-IsOrder : (w : World) (es : List Entry) → IsValid w → IsOrder w es → AllInWorld w es
AllInWorld-IsOrder w es v o =
    let few : length w.scripts ≤ MOST_SESSIONS = at_most (length w.scripts) v.sessions in
    AllInWorld-from_All w es
    (λ k d l. let bound = (o.legal.sessions k d l).1 in omega (arith, few, bound))
    (λ k d l. let bound = (o.legal.numbers k d l).1 in omega (arith, bound))
    o.called
  where
    at_most : (n : ℕ) → IsTrue (nat_le n MOST_SESSIONS) → n ≤ MOST_SESSIONS
    at_most n h = grind (arith, nat_tests)

-- ---- the row that begins the history

-- whether a row's first word isn't `history`
abbrev pub begins_no_history : List (List ℕ) → Bool
begins_no_history [] = true
begins_no_history (word ∷ more) = is_not_history word

-- rows whose first words aren't `history` are skipped
pub turn_rows-skip : (front back : List (List (List ℕ))) → list_all begins_no_history front ≡ true → turn_rows (front ++ back) ≡ turn_rows back
turn_rows-skip [] back h = refl
turn_rows-skip ([] ∷ front) back h = turn_rows-skip front back (both_true true (list_all begins_no_history front) h).1
turn_rows-skip ((word ∷ more) ∷ front) back h =
    let both = both_true (is_not_history word) (list_all begins_no_history front) h in
    rw (not_true _ both.0) (turn_rows-skip front back both.1)

-- the row `history` has the count of the turns that follow
pub turn_rows-history : (es : List Entry) (back : List (List (List ℕ))) → length es < 2 ^ 64 → turn_rows (history_rows es ++ back) ≡ map turn_row es
turn_rows-history es back small = rw (number_of-decimal (length es) small) (take_mapped es back)
  where
    take_mapped : (xs : List Entry) (ys : List (List (List ℕ))) → take (length xs) (map turn_row xs ++ ys) ≡ map turn_row xs
    take_mapped [] ys = refl
    take_mapped (x ∷ xs) ys = ap (λ rs. turn_row x ∷ rs) (take_mapped xs ys)

turns_are_words : (es : List Entry) → list_all (list_all is_word) (map turn_row es) ≡ true
turns_are_words [] = refl
turns_are_words (e ∷ es) = rw (is_word-decimal e.turn.session, is_word-decimal e.turn.number) (turns_are_words es)

-- the rows of a history have words alone
pub history_rows_are_words : (es : List Entry) → list_all (list_all is_word) (history_rows es) ≡ true
history_rows_are_words es = rw (is_word-decimal (length es)) (turns_are_words es)
