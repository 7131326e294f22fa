-- A sum over a history that has every turn once is a sum over the turns, session after session.
use Rattle.std.proofs.Common.{◌≡◌, ℕ, ◌+◌, ◌<◌, ◌≤◌, Bool, true, false, cond, eqb, List, [], ◌∷◌, zero, suc, refl, ap, sym, ◌∙◌, arith, sum_by}
use Rattle.std.specs.Prelude.{◌==◌, ◌&&◌, ◌||◌, if◌then◌else◌}
use Rattle.std.specs.List.{range_with_len}
use Rattle.std.proofs.lemmas.Bool.Decides.{nat_tests}
use Rattle.std.proofs.lemmas.List.Sums.{sum_by-cons}
use Rattle.dt_model.specs.declared.calls.Entry.{Entry}
use Rattle.dt_model.specs.Runs.{IsInScriptOrder, is_turn, has_turn}
use Rattle.dt_model.proofs.RunsLemmas.{Each, Each-both, Each-weaker, has_turn-none}
use Rattle.dt_model.proofs.SessionCounts.{EachInScriptOrder, IsBetween}
use Rattle.dt_model.proofs.OrderLengths.{IsOfSessions}

-- a number for each turn, by session and number
abbrev pub Amounts : Type 0
Amounts = ℕ → ℕ → ℕ

-- the amounts of the entries of session s together
abbrev pub part_of : Amounts → ℕ → List Entry → ℕ
part_of F s [] = 0
part_of F s (e ∷ es) = if e.turn.session == s then F s e.turn.number + part_of F s es else part_of F s es

-- each of the numbers above m, up to m + k, is that of an entry of session s
abbrev pub HasNumbers : ℕ → ℕ → ℕ → List Entry → Type 0
HasNumbers s m k es = (j : ℕ) → m < j → j ≤ m + k → has_turn es s j ≡ true

other_turn : (a b s j : ℕ) → (a == s) ≡ false → ((a == s) && (b == j)) ≡ false
other_turn a b s j e = rw e refl

last_false : (x y : Bool) → y ≡ false → (x && y) ≡ false
last_false true y e = e
last_false false y e = refl

other_place : (a b s j : ℕ) → b < j → ((a == s) && (b == j)) ≡ false
other_place a b s j l = let apart : eqb b j ≡ false = grind (arith, nat_tests) in last_false (eqb a s) (eqb b j) apart

above_place : (a b s j : ℕ) → j < b → ((a == s) && (b == j)) ≡ false
above_place a b s j l = let apart : eqb b j ≡ false = grind (arith, nat_tests) in last_false (eqb a s) (eqb b j) apart

in_rest : (a b : Bool) → a ≡ false → (a || b) ≡ true → b ≡ true
in_rest true b e h = absurd (cc)
in_rest false b e h = h

same_number : (a b : ℕ) → (a == b) ≡ true → a ≡ b
same_number a b t = grind (arith, nat_tests)

-- an entry behind another of its session has no number up to that one's
none_behind : (e : Entry) (s j : ℕ) (es : List Entry) → e.turn.session ≡ s → j ≤ e.turn.number → Each (IsInScriptOrder e) es → has_turn es s j ≡ false
none_behind e s j es own l h =
    has_turn-none es s j (Each-weaker (IsInScriptOrder e) (λ f. is_turn s j f ≡ false) es (λ f rises. at f rises (f.turn.session == s) refl) h)
  where
    at : (f : Entry) → IsInScriptOrder e f → (b : Bool) → (f.turn.session == s) ≡ b → is_turn s j f ≡ false
    at f rises true t = let up = rises (own ∙ sym (same_number f.turn.session s t)) in above_place f.turn.session f.turn.number s j (omega arith)
    at f rises false t = other_turn f.turn.session f.turn.number s j t

-- where there is no entry there is no number
no_entries : (F : Amounts) (s m k : ℕ) → HasNumbers s m k [] → 0 ≡ sum_by (F s) (range_with_len (m + 1) k)
no_entries F s m zero all = refl
no_entries F s m (suc k) all = let here : false ≡ true = all (m + 1) (omega arith) (omega arith) in absurd (cc)

-- a session whose entries rise, and have each number above m up to m + k: their amounts are those of these numbers
pub part_of-range : (F : Amounts) (s m k : ℕ) (es : List Entry) → Each (IsBetween s m (m + k)) es → EachInScriptOrder es → HasNumbers s m k es
    → part_of F s es ≡ sum_by (F s) (range_with_len (m + 1) k)
part_of-range F s m k [] between rising all = no_entries F s m k all
part_of-range F s m k (e ∷ es) between rising all =
    by_session (e.turn.session == s) refl (λ n i b a. part_of-range F s n i es b rising.1 a)
  where
    one_more : (i : ℕ) → k ≡ suc i → e.turn.session ≡ s → e.turn.number ≡ m + 1 → part_of F s es ≡ sum_by (F s) (range_with_len (m + 1 + 1) i)
        → F s e.turn.number + part_of F s es ≡ sum_by (F s) (range_with_len (m + 1) k)
    one_more i more own number rest =
        ap (λ j. F s j + part_of F s es) number ∙ ap (λ v. F s (m + 1) + v) rest ∙ sym (sum_by-cons (F s) (m + 1) (range_with_len (m + 1 + 1) i))
        ∙ ap (λ j. sum_by (F s) (range_with_len (m + 1) j)) (sym more)

    later : (i : ℕ) → k ≡ suc i → e.turn.session ≡ s → e.turn.number ≡ m + 1 → Each (IsBetween s (m + 1) (m + 1 + i)) es
    later i more own number = Each-both (IsInScriptOrder e) (IsBetween s m (m + k)) (IsBetween s (m + 1) (m + 1 + i)) es
        (λ f rises in_between same. let up = rises (own ∙ sym same) in let up_to = (in_between same).1 in (omega arith, omega arith)) rising.0 between.1

    numbers : (i : ℕ) → k ≡ suc i → e.turn.number ≡ m + 1 → HasNumbers s (m + 1) i es
    numbers i more number j above up_to =
        in_rest (is_turn s j e) (has_turn es s j) (other_place e.turn.session e.turn.number s j (omega arith)) (all j (omega arith) (omega arith))

    first : e.turn.session ≡ s → m < e.turn.number → e.turn.number ≤ m + k → (b : Bool) → eqb e.turn.number (m + 1) ≡ b → e.turn.number ≡ m + 1
    first own above up_to true t = same_number e.turn.number (m + 1) t
    first own above up_to false t =
        let past : m + 1 < e.turn.number = grind (arith, nat_tests) in
        let there = in_rest (is_turn s (m + 1) e) (has_turn es s (m + 1)) (above_place e.turn.session e.turn.number s (m + 1) past)
        (all (m + 1) (omega arith) (omega arith)) in
        let none = none_behind e s (m + 1) es own (omega arith) rising.0 in
        absurd (cc)

    some : (i : ℕ) → e.turn.number ≡ m + 1 → e.turn.number ≤ m + i → (h : ℕ) × (i ≡ suc h)
    some zero number up_to = absurd (omega arith)
    some (suc h) number up_to = (h, refl)

    by_session : (b : Bool) → (e.turn.session == s) ≡ b
        → ((n i : ℕ) → Each (IsBetween s n (n + i)) es → HasNumbers s n i es → part_of F s es ≡ sum_by (F s) (range_with_len (n + 1) i))
        → cond b (F s e.turn.number + part_of F s es) (part_of F s es) ≡ sum_by (F s) (range_with_len (m + 1) k)
    by_session true t again =
        let own = same_number e.turn.session s t in
        let here = between.0 own in
        let number = first own here.0 here.1 (eqb e.turn.number (m + 1)) refl in
        let less = some k number here.1 in
        one_more less.0 less.1 own number (again (m + 1) less.0 (later less.0 less.1 own number) (numbers less.0 less.1 number))
    by_session false t again =
        again m k between.1 (λ j above up_to. in_rest (is_turn s j e) (has_turn es s j) (other_turn e.turn.session e.turn.number s j t) (all j above up_to))

-- the amount of an entry's turn
abbrev pub amount_of : Amounts → Entry → ℕ
amount_of F e = F e.turn.session e.turn.number

split_session : (F : Amounts) (s j a b c d : ℕ) → 1 ≤ s → s ≤ 4 → F s j + (a + b + c + d)
    ≡ cond (eqb s 1) (F 1 j + a) a + cond (eqb s 2) (F 2 j + b) b + cond (eqb s 3) (F 3 j + c) c + cond (eqb s 4) (F 4 j + d) d
split_session F zero j a b c d low high = absurd (omega arith)
split_session F (suc zero) j a b c d low high = omega arith
split_session F (suc (suc zero)) j a b c d low high = omega arith
split_session F (suc (suc (suc zero))) j a b c d low high = omega arith
split_session F (suc (suc (suc (suc zero)))) j a b c d low high = omega arith
split_session F (suc (suc (suc (suc (suc s))))) j a b c d low high = absurd (omega arith)

-- the amounts of entries of four sessions are those of each session
pub sum_by-sessions : (F : Amounts) (es : List Entry) → Each (IsOfSessions 4) es
    → sum_by (amount_of F) es ≡ part_of F 1 es + part_of F 2 es + part_of F 3 es + part_of F 4 es
sum_by-sessions F [] h = refl
sum_by-sessions F (e ∷ es) h =
    sum_by-cons (amount_of F) e es ∙ ap (λ v. amount_of F e + v) (sum_by-sessions F es h.1)
    ∙ split_session F e.turn.session e.turn.number (part_of F 1 es) (part_of F 2 es) (part_of F 3 es) (part_of F 4 es) h.0.0 h.0.1
