-- Where the last token of a text ends, in a grammar whose tokens have no gap in them.
use Rattle.std.proofs.Common.{◌≡◌, ℕ, zero, suc, ◌+◌, ◌-◌, ◌<◌, Bool, true, false, cond, List, [], ◌∷◌, length, get_or, refl, ap, sym, ◌∙◌, subst, arith, inl, inr}
use Rattle.std.specs.Prelude.{⊤, ◌⊎◌}
use Rattle.std.specs.List.{prefix_len, suffix_len}
use Rattle.std.proofs.lemmas.List.Sums.{suffix_len_is}
use Rattle.dt_text.specs.Spans.{span}
use Rattle.dt_text.specs.Lexer.{token_spans_from, token_spans, end_of}

-- ---- runs without a gap

-- the first n bytes are there, and none is a gap
abbrev pub HasNoGap : (ℕ → Bool) → ℕ → List ℕ → Type 0
HasNoGap gap zero bs = ⊤
HasNoGap gap (suc n) [] = ⊥
HasNoGap gap (suc n) (b ∷ bs) = (gap b ≡ false) × HasNoGap gap n bs

-- one byte more, where its test is known
no_gap_at : (gap p : ℕ → Bool) (b : ℕ) (bs : List ℕ) (t : Bool) → ((x : ℕ) → p x ≡ true → gap x ≡ false) → p b ≡ t
    → HasNoGap gap (prefix_len p bs) bs → HasNoGap gap (cond t (1 + prefix_len p bs) 0) (b ∷ bs)
no_gap_at gap p b bs true h e rest =
    let one : suc (prefix_len p bs) ≡ 1 + prefix_len p bs = omega arith in
    subst (λ n. HasNoGap gap n (b ∷ bs)) one (h b e, rest)
no_gap_at gap p b bs false h e rest = tt

-- a run of bytes of a kind that has no gap
pub HasNoGap-prefix_len : (gap p : ℕ → Bool) (bs : List ℕ) → ((x : ℕ) → p x ≡ true → gap x ≡ false) → HasNoGap gap (prefix_len p bs) bs
HasNoGap-prefix_len gap p [] h = tt
HasNoGap-prefix_len gap p (b ∷ bs) h = no_gap_at gap p b bs (p b) h refl (HasNoGap-prefix_len gap p bs h)

-- ---- the last byte that is no gap

-- the place behind the last of some bytes that is no gap, where they stand from the place `at` on; n where there is none
abbrev end_from : (ℕ → Bool) → ℕ → ℕ → List ℕ → ℕ
end_from gap n at [] = n
end_from gap n at (b ∷ bs) = end_from gap (cond (gap b) n (at + 1)) (at + 1) bs

-- the last token ends there, where the first byte's test is known
ends_at : (gap : ℕ → Bool) (run : ℕ → List ℕ → ℕ) (b at n m : ℕ) (bs : List ℕ) (t : Bool) → gap b ≡ t → n ≡ m → HasNoGap gap (run b bs) bs
    → ((k x y : ℕ) → (k ≡ 0 → x ≡ y) → (0 < k → x ≡ at + 1 + k) → HasNoGap gap k bs
    → end_of x (token_spans_from gap run (at + 1) k bs) ≡ end_from gap y (at + 1) bs)
    → end_of n (cond t (token_spans_from gap run (at + 1) 0 bs) (span at (at + 1 + run b bs) ∷ token_spans_from gap run (at + 1) (run b bs) bs))
    ≡ end_from gap (cond t m (at + 1)) (at + 1) bs
ends_at gap run b at n m bs true h e none more = more 0 n m (λ _. e) (λ l. absurd (omega (arith, l))) tt
ends_at gap run b at n m bs false h e none more =
    more (run b bs) (at + 1 + run b bs) (at + 1) (λ z. omega (arith, z)) (λ l. refl) none

-- the last token ends there, where k bytes are owed to a token before
ends : (gap : ℕ → Bool) (run : ℕ → List ℕ → ℕ) → ((b : ℕ) (bs : List ℕ) → HasNoGap gap (run b bs) bs)
    → (bs : List ℕ) (at k n m : ℕ) → (k ≡ 0 → n ≡ m) → (0 < k → n ≡ at + k) → HasNoGap gap k bs
    → end_of n (token_spans_from gap run at k bs) ≡ end_from gap m at bs
ends gap run none [] at zero n m e f h = e refl
ends gap run none [] at (suc k) n m e f h = absurd h
ends gap run none (b ∷ bs) at zero n m e f h =
    ends_at gap run b at n m bs (gap b) refl (e refl) (none b bs) (λ k x y p q r. ends gap run none bs (at + 1) k x y p q r)
ends gap run none (b ∷ bs) at (suc k) n m e f h =
    let is : n ≡ at + suc k = f (omega arith) in
    let rest = ends gap run none bs (at + 1) k n (at + 1) (λ z. omega (arith, is, z)) (λ l. omega (arith, is)) h.1 in
    rest ∙ ap (λ t. end_from gap (cond t m (at + 1)) (at + 1) bs) (sym h.0)

-- all bytes are gaps
abbrev AreGaps : (ℕ → Bool) → List ℕ → Type 0
AreGaps gap bs = (k : ℕ) → k < length bs → gap (get_or bs k 0) ≡ true

-- the byte at place k is the last one that is no gap
record IsLast (gap : ℕ → Bool) (bs : List ℕ) (k : ℕ) : Type 0 where
  inside : k < length bs
  solid : gap (get_or bs k 0) ≡ false
  behind : (j : ℕ) → k < j → j < length bs → gap (get_or bs j 0) ≡ true

-- what `end_from` finds: no byte, or the last one that is no gap
abbrev Finds : (ℕ → Bool) → ℕ → ℕ → List ℕ → ℕ → Type 0
Finds gap m at bs e = ((e ≡ m) × AreGaps gap bs) ⊎ ((k : ℕ) × (e ≡ at + 1 + k) × IsLast gap bs k)

all_gaps : (gap : ℕ → Bool) (b : ℕ) (bs : List ℕ) → gap b ≡ true → AreGaps gap bs → AreGaps gap (b ∷ bs)
all_gaps gap b bs e h zero l = e
all_gaps gap b bs e h (suc k) l = h k (omega (arith, l))

behind_first : (gap : ℕ → Bool) (b : ℕ) (bs : List ℕ) → AreGaps gap bs → (j : ℕ) → 0 < j → j < length (b ∷ bs) → gap (get_or (b ∷ bs) j 0) ≡ true
behind_first gap b bs h zero l m = absurd (omega (arith, l))
behind_first gap b bs h (suc j) l m = h j (omega (arith, m))

behind_more : (gap : ℕ → Bool) (b : ℕ) (bs : List ℕ) (k : ℕ) → IsLast gap bs k → (j : ℕ) → suc k < j → j < length (b ∷ bs) → gap (get_or (b ∷ bs) j 0) ≡ true
behind_more gap b bs k h zero l m = absurd (omega (arith, l))
behind_more gap b bs k h (suc j) l m = h.behind j (omega (arith, l)) (omega (arith, m))

last_more : (gap : ℕ → Bool) (b : ℕ) (bs : List ℕ) (k : ℕ) → IsLast gap bs k → IsLast gap (b ∷ bs) (suc k)
last_more gap b bs k h = record { inside = let l = h.inside in omega (arith, l); solid = h.solid; behind = behind_more gap b bs k h }

finds_at : (gap : ℕ → Bool) (b m at e : ℕ) (bs : List ℕ) (t : Bool) → gap b ≡ t → Finds gap (cond t m (at + 1)) (at + 1) bs e → Finds gap m at (b ∷ bs) e
finds_at gap b m at e bs true h (inl q) = inl (q.0, all_gaps gap b bs h q.1)
finds_at gap b m at e bs true h (inr q) =
    let same : e ≡ at + 1 + suc q.0 = q.1 ∙ omega arith in
    inr (suc q.0, same, last_more gap b bs q.0 q.2)
finds_at gap b m at e bs false h (inl q) =
    let same : e ≡ at + 1 + 0 = q.0 ∙ omega arith in
    let first : IsLast gap (b ∷ bs) 0 = record { inside = omega arith; solid = h; behind = behind_first gap b bs q.1 } in
    inr (0, same, first)
finds_at gap b m at e bs false h (inr q) =
    let same : e ≡ at + 1 + suc q.0 = q.1 ∙ omega arith in
    inr (suc q.0, same, last_more gap b bs q.0 q.2)

finds : (gap : ℕ → Bool) (bs : List ℕ) (m at : ℕ) → Finds gap m at bs (end_from gap m at bs)
finds gap [] m at = inl (refl, λ k l. absurd (omega (arith, l)))
finds gap (b ∷ bs) m at =
    let n = cond (gap b) m (at + 1) in
    finds_at gap b m at (end_from gap n (at + 1) bs) bs (gap b) refl (finds gap bs n (at + 1))

found_end : (gap : ℕ → Bool) (bs : List ℕ) (e : ℕ) → Finds gap 0 0 bs e → e ≡ length bs - suffix_len gap bs
found_end gap bs e (inl q) =
    let all = suffix_len_is gap bs 0 0 (omega arith) (λ k l m. q.1 k m) (λ l. absurd (omega (arith, l))) in
    omega (arith, all, q.0)
found_end gap bs e (inr q) =
    let last = q.2 in
    let inside = last.inside in
    let one : q.0 + 1 - 1 ≡ q.0 = omega arith in
    let all = suffix_len_is gap bs (q.0 + 1) 0 (omega (arith, inside)) (λ k l m. last.behind k (omega (arith, l)) m)
    (λ l. ap (λ n. gap (get_or bs n 0)) one ∙ last.solid) in
    omega (arith, all, q.1, inside)

-- the last token of a text ends where the gaps at the text's end begin
pub end_of-token_spans : (gap : ℕ → Bool) (run : ℕ → List ℕ → ℕ) → ((b : ℕ) (bs : List ℕ) → HasNoGap gap (run b bs) bs) → (text : List ℕ)
    → end_of 0 (token_spans gap run text) ≡ length text - suffix_len gap text
end_of-token_spans gap run none text =
    ends gap run none text 0 0 0 0 (λ _. refl) (λ l. absurd (omega (arith, l))) tt
    ∙ found_end gap text (end_from gap 0 0 text) (finds gap text 0 0)
