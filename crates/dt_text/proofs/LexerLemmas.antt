-- The tokens of a text by their places, in every lexical grammar.
use Rattle.std.proofs.Common.{◌≡◌, ℕ, zero, suc, ◌+◌, ◌-◌, ◌++◌, ◌<◌, ◌≤◌, Bool, true, false, cond, List, [], ◌∷◌, length, map, take, drop, get_or, refl, ap, sym, ◌∙◌, subst, arith}
use Rattle.std.specs.List.{prefix_len}
use Rattle.std.proofs.lemmas.List.{drop-drop, drop_all}
use Rattle.dt_text.specs.declared.spans.Span.{Span}
use Rattle.dt_text.specs.Spans.{span, bytes_of}
use Rattle.dt_text.specs.Lexer.{token_spans_from, token_spans, token_values}

-- ---- from one token to the next

-- bytes that belong to the token before make none
pub token_spans_from-skip : (gap : ℕ → Bool) (run : ℕ → List ℕ → ℕ) → (n at : ℕ) (bs : List ℕ)
    → token_spans_from gap run at n bs ≡ token_spans_from gap run (at + n) 0 (drop n bs)
token_spans_from-skip gap run zero at bs = let same : at ≡ at + 0 = omega arith in ap (λ k. token_spans_from gap run k 0 bs) same
token_spans_from-skip gap run (suc n) at [] = refl
token_spans_from-skip gap run (suc n) at (b ∷ bs) =
    let same : at + 1 + n ≡ at + suc n = omega arith in
    token_spans_from-skip gap run n (at + 1) bs ∙ ap (λ k. token_spans_from gap run k 0 (drop n bs)) same

-- a gap makes no token
one_gap : (gap : ℕ → Bool) (run : ℕ → List ℕ → ℕ) → (at b : ℕ) (bs : List ℕ) → gap b ≡ true
    → token_spans_from gap run at 0 (b ∷ bs) ≡ token_spans_from gap run (at + 1) 0 bs
one_gap gap run at b bs e = rw e refl

-- the gaps in front, where the first byte's test is known
gaps_at : (gap : ℕ → Bool) (run : ℕ → List ℕ → ℕ) → (at b : ℕ) (bs : List ℕ) (t : Bool) → gap b ≡ t
    → token_spans_from gap run (at + 1) 0 bs ≡ token_spans_from gap run (at + 1 + prefix_len gap bs) 0 (drop (prefix_len gap bs) bs)
    → token_spans_from gap run at 0 (b ∷ bs)
    ≡ token_spans_from gap run (at + cond t (1 + prefix_len gap bs) 0) 0 (drop (cond t (1 + prefix_len gap bs) 0) (b ∷ bs))
gaps_at gap run at b bs true e rest =
    let same : at + 1 + prefix_len gap bs ≡ at + (1 + prefix_len gap bs) = omega arith in
    let one : suc (prefix_len gap bs) ≡ 1 + prefix_len gap bs = omega arith in
    one_gap gap run at b bs e ∙ rest
    ∙ ap (λ k. token_spans_from gap run k 0 (drop (prefix_len gap bs) bs)) same
    ∙ ap (λ k. token_spans_from gap run (at + (1 + prefix_len gap bs)) 0 (drop k (b ∷ bs))) one
gaps_at gap run at b bs false e rest = let same : at ≡ at + 0 = omega arith in ap (λ k. token_spans_from gap run k 0 (b ∷ bs)) same

-- gaps in front make no token
pub token_spans_from-gaps : (gap : ℕ → Bool) (run : ℕ → List ℕ → ℕ) → (at : ℕ) (bs : List ℕ)
    → token_spans_from gap run at 0 bs ≡ token_spans_from gap run (at + prefix_len gap bs) 0 (drop (prefix_len gap bs) bs)
token_spans_from-gaps gap run at [] = let same : at ≡ at + 0 = omega arith in refl
token_spans_from-gaps gap run at (b ∷ bs) = gaps_at gap run at b bs (gap b) refl (token_spans_from-gaps gap run (at + 1) bs)

-- a token that begins at a place, and those behind it
pub token_spans_from-token : (gap : ℕ → Bool) (run : ℕ → List ℕ → ℕ) → (at b : ℕ) (bs : List ℕ) → gap b ≡ false
    → token_spans_from gap run at 0 (b ∷ bs) ≡ span at (at + 1 + run b bs) ∷ token_spans_from gap run (at + 1 + run b bs) 0 (drop (run b bs) bs)
token_spans_from-token gap run at b bs e =
    rw e (ap (λ ts. span at (at + 1 + run b bs) ∷ ts) (token_spans_from-skip gap run (run b bs) (at + 1) bs))

-- the byte behind the gaps in front is none, where the first byte's test is known
behind_at : (gap : ℕ → Bool) → (x b : ℕ) (xs rest : List ℕ) (t : Bool) → gap x ≡ t → (drop (prefix_len gap xs) xs ≡ b ∷ rest → gap b ≡ false)
    → drop (cond t (1 + prefix_len gap xs) 0) (x ∷ xs) ≡ b ∷ rest → gap b ≡ false
behind_at gap x b xs rest true h more f =
    let one : 1 + prefix_len gap xs ≡ suc (prefix_len gap xs) = omega arith in
    more (sym (ap (λ k. drop k (x ∷ xs)) one) ∙ f)
behind_at gap x b xs rest false h more f = let same : x ≡ b = cc in subst (λ y. gap y ≡ false) same h

-- the byte behind the gaps in front is none
pub gap-behind : (gap : ℕ → Bool) → (bs rest : List ℕ) (b : ℕ) → drop (prefix_len gap bs) bs ≡ b ∷ rest → gap b ≡ false
gap-behind gap [] rest b e = cc
gap-behind gap (x ∷ xs) rest b e = behind_at gap x b xs rest (gap x) refl (gap-behind gap xs rest b) e

first_of : (bs : List ℕ) → 0 < length bs → bs ≡ get_or bs 0 0 ∷ drop 1 bs
first_of [] l = absurd (omega arith)
first_of (b ∷ bs) l = refl

-- no token stands behind the last gaps
pub token_spans_from-none : (gap : ℕ → Bool) (run : ℕ → List ℕ → ℕ) → (text rest : List ℕ) (at n : ℕ) → rest ≡ drop at text
    → n ≡ prefix_len gap rest → length text ≤ at + n → token_spans_from gap run at 0 (drop at text) ≡ []
token_spans_from-none gap run text rest at n is e l =
    let none : drop (at + n) text ≡ [] = drop_all (at + n) text l in
    ap (λ bs. token_spans_from gap run at 0 bs) (sym is) ∙ token_spans_from-gaps gap run at rest
    ∙ ap (λ k. token_spans_from gap run (at + k) 0 (drop k rest)) (sym e)
    ∙ ap (λ bs. token_spans_from gap run (at + n) 0 (drop n bs)) is
    ∙ ap (λ bs. token_spans_from gap run (at + n) 0 bs) (drop-drop n at text ∙ none)

-- the token behind the gaps in front, and those behind it
pub token_spans_from-first : (gap : ℕ → Bool) (run : ℕ → List ℕ → ℕ) → (text rest more : List ℕ) (at n k : ℕ) → rest ≡ drop at text
    → n ≡ prefix_len gap rest → more ≡ drop (at + n) text → 0 < length more → k ≡ run (get_or more 0 0) (drop 1 more)
    → token_spans_from gap run at 0 (drop at text) ≡ span (at + n) (at + n + 1 + k) ∷ token_spans_from gap run (at + n + 1 + k) 0 (drop (at + n + 1 + k) text)
token_spans_from-first gap run text rest more at n k is e also some f =
    let b = get_or more 0 0 in
    let split : more ≡ b ∷ drop 1 more = first_of more some in
    let behind : drop n rest ≡ more = ap (drop n) is ∙ drop-drop n at text ∙ sym also in
    let whole : drop (prefix_len gap rest) rest ≡ b ∷ drop 1 more = ap (λ m. drop m rest) (sym e) ∙ behind ∙ split in
    let byte : gap b ≡ false = gap-behind gap rest (drop 1 more) b whole in
    let same : at + n + (1 + k) ≡ at + n + 1 + k = omega arith in
    let left : drop k (drop 1 more) ≡ drop (at + n + 1 + k) text =
    drop-drop k 1 more ∙ ap (drop (1 + k)) also ∙ drop-drop (1 + k) (at + n) text ∙ ap (λ m. drop m text) same in
    ap (λ bs. token_spans_from gap run at 0 bs) (sym is) ∙ token_spans_from-gaps gap run at rest
    ∙ ap (λ m. token_spans_from gap run (at + m) 0 (drop m rest)) (sym e)
    ∙ ap (λ bs. token_spans_from gap run (at + n) 0 bs) (behind ∙ split)
    ∙ token_spans_from-token gap run (at + n) b (drop 1 more) byte
    ∙ ap (λ m. span (at + n) (at + n + 1 + m) ∷ token_spans_from gap run (at + n + 1 + m) 0 (drop m (drop 1 more))) (sym f)
    ∙ ap (λ bs. span (at + n) (at + n + 1 + k) ∷ token_spans_from gap run (at + n + 1 + k) 0 bs) left

-- ---- texts that are put together from words

-- a span that stands n places further on
abbrev shift : ℕ → Span → Span
shift n s = span (n + s.from) (n + s.to)

-- one byte more, where its test is known
shift_at : (gap : ℕ → Bool) (run : ℕ → List ℕ → ℕ) → (n at k b : ℕ) (bs : List ℕ) (t : Bool)
    → ((j : ℕ) → token_spans_from gap run (n + at + 1) j bs ≡ map (shift n) (token_spans_from gap run (at + 1) j bs))
    → cond t (token_spans_from gap run (n + at + 1) 0 bs) (span (n + at) (n + at + 1 + k) ∷ token_spans_from gap run (n + at + 1) k bs)
    ≡ map (shift n) (cond t (token_spans_from gap run (at + 1) 0 bs) (span at (at + 1 + k) ∷ token_spans_from gap run (at + 1) k bs))
shift_at gap run n at k b bs true h = h 0
shift_at gap run n at k b bs false h =
    let same : n + at + 1 + k ≡ n + (at + 1 + k) = omega arith in
    ap (λ m. span (n + at) m ∷ token_spans_from gap run (n + at + 1) k bs) same ∙ ap (λ ss. span (n + at) (n + (at + 1 + k)) ∷ ss) (h k)

-- tokens that stand n places further on, some bytes of which are owed
shift_more : (gap : ℕ → Bool) (run : ℕ → List ℕ → ℕ) → (bs : List ℕ) (n at j : ℕ)
    → token_spans_from gap run (n + at + 1) j bs ≡ map (shift n) (token_spans_from gap run (at + 1) j bs)
shift_more gap run [] n at j = refl
shift_more gap run (b ∷ bs) n at zero = let same : n + (at + 1) ≡ n + at + 1 = omega arith in
    subst (λ m. token_spans_from gap run m 0 (b ∷ bs) ≡ map (shift n) (token_spans_from gap run (at + 1) 0 (b ∷ bs))) same
    (shift_at gap run n (at + 1) (run b bs) b bs (gap b) (λ j. shift_more gap run bs n (at + 1) j))
shift_more gap run (b ∷ bs) n at (suc j) = let same : n + (at + 1) ≡ n + at + 1 = omega arith in
    ap (λ m. token_spans_from gap run (m + 1) j bs) (sym same) ∙ shift_more gap run bs n (at + 1) j

-- tokens that stand n places further on
shift_all : (gap : ℕ → Bool) (run : ℕ → List ℕ → ℕ) → (bs : List ℕ) (n : ℕ)
    → token_spans_from gap run n 0 bs ≡ map (shift n) (token_spans gap run bs)
shift_all gap run [] n = refl
shift_all gap run (b ∷ bs) n = let same : n + 0 ≡ n = omega arith in
    subst (λ m. token_spans_from gap run m 0 (b ∷ bs) ≡ map (shift n) (token_spans gap run (b ∷ bs))) same
    (shift_at gap run n 0 (run b bs) b bs (gap b) (λ j. shift_more gap run bs n 0 j))

drop_front : {A : Type 0} (front bs : List A) (n : ℕ) → drop (length front + n) (front ++ bs) ≡ drop n bs
drop_front [] bs n = let same : 0 + n ≡ n = omega arith in ap (λ k. drop k bs) same
drop_front (x ∷ xs) bs n =
    let same : length (x ∷ xs) + n ≡ suc (length xs + n) = omega arith in
    ap (λ k. drop k (x ∷ (xs ++ bs))) same ∙ drop_front xs bs n

take_front : {A : Type 0} (front bs : List A) → take (length front) (front ++ bs) ≡ front
take_front [] bs = refl
take_front (x ∷ xs) bs = ap (λ r. x ∷ r) (take_front xs bs)

-- a span behind some bytes names the same bytes
bytes_of-shift : (front bs : List ℕ) (s : Span) → bytes_of (front ++ bs) (shift (length front) s) ≡ bytes_of bs s
bytes_of-shift front bs s =
    let less : length front + s.to - (length front + s.from) ≡ s.to - s.from = omega arith in
    ap (λ r. take (length front + s.to - (length front + s.from)) r) (drop_front front bs s.from) ∙ ap (λ n. take n (drop s.from bs)) less

-- tokens behind some bytes are the same
values_shifted : {T : Type 0} (value : List ℕ → T) (front bs : List ℕ) (ss : List Span)
    → map (λ s. value (bytes_of (front ++ bs) s)) (map (shift (length front)) ss) ≡ map (λ s. value (bytes_of bs s)) ss
values_shifted value front bs [] = refl
values_shifted value front bs (s ∷ ss) = rw (bytes_of-shift front bs s, values_shifted value front bs ss) refl

-- a gap in front makes no token
pub token_values-gap : {T : Type 0} (gap : ℕ → Bool) (run : ℕ → List ℕ → ℕ) (value : List ℕ → T) → (b : ℕ) (bs : List ℕ) → gap b ≡ true
    → token_values gap run value (b ∷ bs) ≡ token_values gap run value bs
token_values-gap gap run value b bs e =
    ap (map (λ s. value (bytes_of (b ∷ bs) s))) (one_gap gap run 0 b bs e ∙ shift_all gap run bs 1)
    ∙ values_shifted value (b ∷ []) bs (token_spans gap run bs)

-- a word that is a token with what follows, and the tokens of what follows
pub token_values-word : {T : Type 0} (gap : ℕ → Bool) (run : ℕ → List ℕ → ℕ) (value : List ℕ → T) → (b : ℕ) (bs rest : List ℕ) → gap b ≡ false
    → run b (bs ++ rest) ≡ length bs → token_values gap run value ((b ∷ bs) ++ rest) ≡ value (b ∷ bs) ∷ token_values gap run value rest
token_values-word gap run value b bs rest e f =
    let word = b ∷ bs in
    let n : 0 + 1 + length bs ≡ length word = omega arith in
    let m : length word - 0 ≡ length word = omega arith in
    let none : length bs + 0 ≡ length bs = omega arith in
    let behind : drop (length bs) (bs ++ rest) ≡ rest = ap (λ k. drop k (bs ++ rest)) (sym none) ∙ drop_front bs rest 0 in
    let spans : token_spans gap run (word ++ rest) ≡ span 0 (length word) ∷ map (shift (length word)) (token_spans gap run rest) =
    token_spans_from-token gap run 0 b (bs ++ rest) e
    ∙ ap (λ k. span 0 (0 + 1 + k) ∷ token_spans_from gap run (0 + 1 + k) 0 (drop k (bs ++ rest))) f
    ∙ ap (λ k. span 0 k ∷ token_spans_from gap run k 0 (drop (length bs) (bs ++ rest))) n
    ∙ ap (λ r. span 0 (length word) ∷ token_spans_from gap run (length word) 0 r) behind
    ∙ ap (λ ss. span 0 (length word) ∷ ss) (shift_all gap run rest (length word)) in
    let first : bytes_of (word ++ rest) (span 0 (length word)) ≡ word = ap (λ k. take k (word ++ rest)) m ∙ take_front word rest in
    ap (map (λ s. value (bytes_of (word ++ rest) s))) spans
    ∙ ap (λ w. value w ∷ map (λ s. value (bytes_of (word ++ rest) s)) (map (shift (length word)) (token_spans gap run rest))) first
    ∙ ap (λ ts. value word ∷ ts) (values_shifted value word rest (token_spans gap run rest))
