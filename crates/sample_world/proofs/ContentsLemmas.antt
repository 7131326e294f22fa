-- What the calls of a sample leave, in whatever order they take effect.
use Rattle.std.proofs.Common.{◌≡◌, ℕ, ◌+◌, ◌-◌, ◌*◌, ◌%◌, ◌^◌, ◌<◌, ◌≤◌, Bool, true, false, cond, List, [], ◌∷◌, ◌++◌, refl, ap, sym, ◌∙◌, subst, arith, sum_by, Some}
use Rattle.std.specs.Prelude.{map, ◌==◌, nat_eq}
use Rattle.std.specs.List.{range_with_len}
use Rattle.std.specs.Cmp.Lexicographic.{pointwise, bytes_decides}
use Rattle.std.proofs.Math.Nat.{mod-add-mod}
use Rattle.std.proofs.lemmas.Bool.{eqb-true}
use Rattle.std.proofs.lemmas.List.Sums.{sum_by-cons, sum_by-append}
use Rattle.dt_model.specs.declared.calls.Call.TheVariants.{Batch}
use Rattle.dt_model.specs.declared.calls.Entry.{Entry}
use Rattle.dt_model.specs.declared.calls.Update.{Update}
use Rattle.dt_model.specs.Contents.{Contents, no_cells, same_cell, with_more, with_updates}
use Rattle.dt_model.specs.Runs.{with_lines, base_of, after_call, after_entries, contents_after, call_of, IsOrder}
use Rattle.dt_model.proofs.Booleans.{both_true}
use Rattle.dt_model.proofs.RunsLemmas.{Each, Each-weaker, Each-from_All}
use Rattle.dt_model.proofs.SessionCounts.{EachInScriptOrder-from_AllPairs, IsBetween}
use Rattle.dt_model.proofs.OrderLengths.{IsOfSessions}
use Rattle.sample_world.specs.Complete.{AllCalls}
use Rattle.sample_world.specs.Sample.{place_at, sample_lines, calls_each, sample_add, adds_of, sample_adds, sample_world, sample_contents}
use Rattle.sample_world.proofs.CallsLemmas.{IsSampleCall, call_of-sample, call_of-sample_at}
use Rattle.sample_world.proofs.SessionSums.{Amounts, part_of, part_of-range, sum_by-sessions}

-- ---- lines at one cell

-- what a line adds to a cell of tensor 0
abbrev pub added_at : ℕ → List ℕ → List ℕ × ℕ → ℕ
added_at u d line = cond (same_cell 0 line.0 u d) line.1 0

small_mod : (x : ℕ) → x < 2 ^ 64 → x ≡ x % 2 ^ 64
small_mod x h = omega arith

is_small : (x : ℕ) → x % 2 ^ 64 < 2 ^ 64
is_small x = omega arith

same_number : (m : Contents) (c : List ℕ) (u : ℕ) (d : List ℕ) → same_cell 0 c u d ≡ true → m 0 c ≡ m u d
same_number m c u d t =
    let parts = both_true (0 == u) (pointwise nat_eq c d) t in
    let tensor : 0 ≡ u = eqb-true 0 u parts.0 in
    let place : c ≡ d = (bytes_decides c d).0 parts.1 in
    ap (λ x. m 0 x) place ∙ ap (λ x. m x d) tensor

-- a number added to one cell is 0 added to each other
with_more-at : (m : Contents) (u : ℕ) (d : List ℕ) (line : List ℕ × ℕ) → m u d < 2 ^ 64
    → with_more m 0 line.0 line.1 u d ≡ (m u d + added_at u d line) % 2 ^ 64
with_more-at m u d line small = by_cell (same_cell 0 line.0 u d) refl
  where
    by_cell : (b : Bool) → same_cell 0 line.0 u d ≡ b → cond b ((m 0 line.0 + line.1) % 2 ^ 64) (m u d) ≡ (m u d + cond b line.1 0) % 2 ^ 64
    by_cell true t = ap (λ x. (x + line.1) % 2 ^ 64) (same_number m line.0 u d t)
    by_cell false t = small_mod (m u d) small ∙ ap (λ x. x % 2 ^ 64) (omega arith)

-- lines add their sum to a cell
pub with_lines-at : (m : Contents) (u : ℕ) (d : List ℕ) (lines : List (List ℕ × ℕ)) → m u d < 2 ^ 64
    → with_lines m 0 lines u d ≡ (m u d + sum_by (added_at u d) lines) % 2 ^ 64
with_lines-at m u d [] small = small_mod (m u d) small ∙ ap (λ x. x % 2 ^ 64) (omega arith)
with_lines-at m u d (line ∷ lines) small =
    let one = with_more-at m u d line small in
    let next : with_more m 0 line.0 line.1 u d < 2 ^ 64 = subst (λ x. x < 2 ^ 64) (sym one) (is_small (m u d + added_at u d line)) in
    with_lines-at (with_more m 0 line.0 line.1) u d lines next
    ∙ ap (λ x. (x + sum_by (added_at u d) lines) % 2 ^ 64) one
    ∙ mod-add-mod (m u d + added_at u d line) (2 ^ 64) (sum_by (added_at u d) lines)
    ∙ ap (λ x. x % 2 ^ 64) (regroup (m u d) (added_at u d line) (sum_by (added_at u d) lines)
    ∙ ap (λ x. m u d + x) (sym (sum_by-cons (added_at u d) line lines)))
  where
    regroup : (a b c : ℕ) → a + b + c ≡ a + (b + c)
    regroup a b c = omega arith

-- lines leave numbers that are small as before
pub with_lines-small : (m : Contents) (u : ℕ) (d : List ℕ) (lines : List (List ℕ × ℕ)) → m u d < 2 ^ 64 → with_lines m 0 lines u d < 2 ^ 64
with_lines-small m u d lines small =
    subst (λ x. x < 2 ^ 64) (sym (with_lines-at m u d lines small)) (is_small (m u d + sum_by (added_at u d) lines))

-- ---- adds as lines

-- the line that adds what call j of session s adds
abbrev pub call_line : ℕ → ℕ → ℕ → List ℕ × ℕ
call_line n s j = (place_at (n + (s - 1) * calls_each n + j), s)

-- the lines of a session
abbrev pub call_lines : ℕ → ℕ → List (List ℕ × ℕ)
call_lines n s = map (call_line n s) (range_with_len 1 (calls_each n))

-- adds before other updates change the contents as their lines
with_updates-lines : (n s : ℕ) (js : List ℕ) (us : List Update) (lines : List (List ℕ × ℕ))
    → ((m : Contents) → with_updates m us ≡ with_lines m 0 lines) → (m : Contents)
    → with_updates m (map (sample_add n s) js ++ us) ≡ with_lines m 0 (map (call_line n s) js ++ lines)
with_updates-lines n s [] us lines h m = h m
with_updates-lines n s (j ∷ js) us lines h m = with_updates-lines n s js us lines h (with_more m 0 (call_line n s j).0 s)

-- the lines of all sessions
abbrev pub all_lines : ℕ → List (List ℕ × ℕ)
all_lines n = call_lines n 1 ++ (call_lines n 2 ++ (call_lines n 3 ++ (call_lines n 4 ++ [])))

-- the adds of all sessions change the contents as their lines
sample_adds-lines : (n : ℕ) (m : Contents) → with_updates m (sample_adds n) ≡ with_lines m 0 (all_lines n)
sample_adds-lines n =
    let js = range_with_len 1 (calls_each n) in
    with_updates-lines n 1 js (adds_of n 2 ++ (adds_of n 3 ++ (adds_of n 4 ++ []))) (call_lines n 2 ++ (call_lines n 3 ++ (call_lines n 4 ++ [])))
    (with_updates-lines n 2 js (adds_of n 3 ++ (adds_of n 4 ++ [])) (call_lines n 3 ++ (call_lines n 4 ++ []))
    (with_updates-lines n 3 js (adds_of n 4 ++ []) (call_lines n 4 ++ []) (with_updates-lines n 4 js [] [] (λ m. refl))))

-- the lines of the entries of a history
abbrev pub entry_lines : ℕ → List Entry → List (List ℕ × ℕ)
entry_lines n es = map (λ e. call_line n e.turn.session e.turn.number) es

-- an entry's call is that of the sample for its turn
abbrev pub IsSampleEntry : ℕ → Entry → Type 0
IsSampleEntry n e = IsSampleCall n e.turn.session e.turn.number e.call

-- the entries of a history of the sample change the contents as their lines
after_entries-lines : (n : ℕ) (m : Contents) (es : List Entry) → Each (IsSampleEntry n) es → after_entries m es ≡ with_lines m 0 (entry_lines n es)
after_entries-lines n m [] h = refl
after_entries-lines n m (e ∷ es) h =
    after_entries-lines n (after_call m e.call) es h.1 ∙ ap (λ call. with_lines (after_call m call) 0 (entry_lines n es)) h.0.batch

-- ---- sums

-- what the call of a turn adds to a cell
abbrev pub amount_at : ℕ → ℕ → List ℕ → Amounts
amount_at n u d s j = added_at u d (call_line n s j)

sum_by-map : {X Y : Type 0} (f : Y → ℕ) (g : X → Y) (xs : List X) → sum_by f (map g xs) ≡ sum_by (λ x. f (g x)) xs
sum_by-map f g [] = refl
sum_by-map f g (x ∷ xs) = sum_by-cons f (g x) (map g xs) ∙ ap (λ v. f (g x) + v) (sum_by-map f g xs) ∙ sym (sum_by-cons (λ y. f (g y)) x xs)

four_parts : (W : List ℕ × ℕ → ℕ) (a b c d : List (List ℕ × ℕ))
    → sum_by W (a ++ (b ++ (c ++ (d ++ [])))) ≡ sum_by W a + sum_by W b + sum_by W c + sum_by W d
four_parts W a b c d =
    let first = sum_by-append W a (b ++ (c ++ (d ++ []))) in
    let second = sum_by-append W b (c ++ (d ++ [])) in
    let third = sum_by-append W c (d ++ []) in
    let fourth = sum_by-append W d [] in
    omega (arith, first, second, third, fourth)

-- what the lines of all sessions add to a cell
sum_by-all_lines : (n u : ℕ) (d : List ℕ) → let F = amount_at n u d in let js = range_with_len 1 (calls_each n) in
    sum_by (added_at u d) (all_lines n) ≡ sum_by (F 1) js + sum_by (F 2) js + sum_by (F 3) js + sum_by (F 4) js
sum_by-all_lines n u d =
    let js = range_with_len 1 (calls_each n) in
    let all = four_parts (added_at u d) (call_lines n 1) (call_lines n 2) (call_lines n 3) (call_lines n 4) in
    let first = sum_by-map (added_at u d) (call_line n 1) js in
    let second = sum_by-map (added_at u d) (call_line n 2) js in
    let third = sum_by-map (added_at u d) (call_line n 3) js in
    let fourth = sum_by-map (added_at u d) (call_line n 4) js in
    omega (arith, all, first, second, third, fourth)

-- a history of the sample with every call: what its session s adds to a cell
part_of-session : (n u : ℕ) (d : List ℕ) (s : ℕ) (es : List Entry) → IsOrder (sample_world n) es → Each (IsSampleEntry n) es → AllCalls (sample_world n) es
    → 1 ≤ s → s ≤ 4 → part_of (amount_at n u d) s es ≡ sum_by (amount_at n u d s) (range_with_len 1 (calls_each n))
part_of-session n u d s es order own all low high =
    part_of-range (amount_at n u d) s 0 (calls_each n) es
    (Each-weaker (IsSampleEntry n) (IsBetween s 0 (0 + calls_each n)) es (λ e is same. (is.first, subst (λ k. e.turn.number ≤ k) (omega arith) is.last)) own)
    (EachInScriptOrder-from_AllPairs es order.legal.rising)
    (λ j above up_to. all s j (Batch (sample_add n s j ∷ [])) (call_of-sample_at n s j low high above (subst (λ k. j ≤ k) (omega arith) up_to)))

-- what a history of the sample with every call adds to a cell is what all its adds add
sum_by-history : (n u : ℕ) (d : List ℕ) (es : List Entry) → IsOrder (sample_world n) es → Each (IsSampleEntry n) es → AllCalls (sample_world n) es
    → sum_by (added_at u d) (entry_lines n es) ≡ sum_by (added_at u d) (all_lines n)
sum_by-history n u d es order own all =
    let F = amount_at n u d in
    let split = sum_by-sessions F es (Each-weaker (IsSampleEntry n) (IsOfSessions 4) es (λ e is. (is.low, is.high)) own) in
    sum_by-map (added_at u d) (λ (e : Entry). call_line n e.turn.session e.turn.number) es ∙ split
    ∙ add_up (part_of-session n u d 1 es order own all (omega arith) (omega arith)) (part_of-session n u d 2 es order own all (omega arith) (omega arith))
    (part_of-session n u d 3 es order own all (omega arith) (omega arith)) (part_of-session n u d 4 es order own all (omega arith) (omega arith))
    ∙ sym (sum_by-all_lines n u d)
  where
    add_up : {a b c e f g h i : ℕ} → a ≡ f → b ≡ g → c ≡ h → e ≡ i → a + b + c + e ≡ f + g + h + i
    add_up p q r s = cc

-- ---- contents

base_is_small : (n u : ℕ) (d : List ℕ) → base_of (sample_world n) u d < 2 ^ 64
unfolding sample_world
base_is_small n u d = with_lines-small no_cells u d (sample_lines n) (omega arith)

-- each entry of an order of the world is one of the sample
pub entries-sample : (n : ℕ) (es : List Entry) → IsOrder (sample_world n) es → Each (IsSampleEntry n) es
entries-sample n es order =
    Each-weaker (λ e. call_of (sample_world n) e.turn.session e.turn.number ≡ Some e.call) (IsSampleEntry n) es
    (λ e is. call_of-sample n e.turn.session e.turn.number e.call is)
    (Each-from_All (λ e. call_of (sample_world n) e.turn.session e.turn.number ≡ Some e.call) es order.called)

-- every order of the world's calls that has each of them leaves the contents of the sample
pub contents_after-sample : (n : ℕ) (es : List Entry) → IsOrder (sample_world n) es → AllCalls (sample_world n) es
    → contents_after (sample_world n) es ≡ sample_contents n
unfolding sample_contents
contents_after-sample n es order all =
    let base = base_of (sample_world n) in
    let own = entries-sample n es order in
    let at : (u : ℕ) (d : List ℕ) → after_entries base es u d ≡ with_updates base (sample_adds n) u d =
    λ u d. ap (λ (m : Contents). m u d) (after_entries-lines n base es own)
    ∙ with_lines-at base u d (entry_lines n es) (base_is_small n u d)
    ∙ ap (λ x. (base u d + x) % 2 ^ 64) (sum_by-history n u d es order own all)
    ∙ sym (with_lines-at base u d (all_lines n) (base_is_small n u d))
    ∙ ap (λ (m : Contents). m u d) (sym (sample_adds-lines n base)) in
    λ i u d. at u d i
