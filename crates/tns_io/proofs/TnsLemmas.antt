-- What a line reads as, word by word, and a text, line by line.
use Rattle.std.proofs.Common.{◌≡◌, ℕ, suc, ◌+◌, ◌++◌, Bool, true, false, cond, List, []}
use Rattle.std.proofs.Common.{◌∷◌, length, refl, ap, sym, ◌∙◌, arith, append_assoc, Ok, Err, Result, ◌-◌, not}
use Rattle.std.specs.Prelude.{◌==◌, ◌||◌}
use Rattle.std.proofs.lemmas.Bool.Decides.{nat_tests}
use Rattle.tns_io.specs.declared.faults.FileCause.{FileCause}
use Rattle.tns_io.specs.declared.faults.FileCause.TheVariants as because
use Rattle.tns_io.specs.Tns.{pair_of, pair_from, in_front, with_coordinate, without_coordinates}
use Rattle.tns_io.specs.Tns.{coordinate_of, number_at, cause_or_rank, with_front, with_line, tns_from}
use Rattle.dt_model.specs.Texts.{words_of}
use Rattle.dt_text.specs.Content.{is_within_limit}
use Rattle.tns_io.specs.declared.faults.FileFault.{FileFault}
use Rattle.tns_io.specs.Faults.{fault_at}

-- ---- the words of a line

-- coordinates in front, one after the other
pub in_front-append : (at : List ℕ) (c : ℕ) (r : Result (List ℕ × ℕ) FileCause) → in_front (at ++ c ∷ []) r ≡ in_front at (in_front (c ∷ []) r)
in_front-append at c (Ok p) = ap (λ l. Ok (l, p.1)) (append_assoc at (c ∷ []) p.0)
in_front-append at c (Err e) = refl

same_test : (n m : ℕ) → (suc n == suc m + 1) ≡ (n == m + 1)
same_test n m = grind (arith, nat_tests)

in_front-test : (b : Bool) (c : ℕ) (r : Result (List ℕ × ℕ) FileCause)
    → cond b (in_front (c ∷ []) r) (Err because.Rank) ≡ in_front (c ∷ []) (cond b r (Err because.Rank))
in_front-test true c r = refl
in_front-test false c r = refl

-- a word that is a coordinate, and what the later words have
pub pair_of-coordinate : (d : ℕ) (ds : List ℕ) (w : List ℕ) (ws : List (List ℕ)) (c : ℕ) → coordinate_of d w ≡ Ok c
    → pair_of (d ∷ ds) (w ∷ ws) ≡ in_front (c ∷ []) (pair_of ds ws)
pair_of-coordinate d ds w ws c e =
    ap (λ r. cond (suc (length ws) == suc (length ds) + 1) (with_coordinate r (pair_from ds ws)) (Err because.Rank)) e
    ∙ ap (λ b. cond b (in_front (c ∷ []) (pair_from ds ws)) (Err because.Rank)) (same_test (length ws) (length ds))
    ∙ in_front-test (length ws == length ds + 1) c (pair_from ds ws)

fault-test : (b : Bool) (cause : FileCause) → ◌≡◌ {A = Result (List ℕ × ℕ) FileCause} (cond b (Err cause) (Err because.Rank)) (Err (cond b cause because.Rank))
fault-test true cause = refl
fault-test false cause = refl

-- a word that is no coordinate
pub pair_of-fault : (d : ℕ) (ds : List ℕ) (w : List ℕ) (ws : List (List ℕ)) (cause : FileCause) → coordinate_of d w ≡ Err cause
    → pair_of (d ∷ ds) (w ∷ ws) ≡ Err (cause_or_rank cause (length ws) (length ds + 1))
pair_of-fault d ds w ws cause e =
    ap (λ r. cond (suc (length ws) == suc (length ds) + 1) (with_coordinate r (pair_from ds ws)) (Err because.Rank)) e
    ∙ ap (λ b. cond b (Err cause) (Err because.Rank)) (same_test (length ws) (length ds))
    ∙ fault-test (length ws == length ds + 1) cause

-- no word is left
pub pair_of-none : (dims : List ℕ) → pair_of dims [] ≡ Err because.Rank
pair_of-none dims = elim (0 == length dims + 1) as (λ b. ◌≡◌ {A = Result (List ℕ × ℕ) FileCause} (cond b (Err because.Rank) (Err because.Rank))
    (Err because.Rank)) [ true ↦ refl | false ↦ refl ]

-- a word is left behind the value
pub pair_of-many : (w v : List ℕ) (ws : List (List ℕ)) → pair_of [] (w ∷ v ∷ ws) ≡ Err because.Rank
pair_of-many w v ws = let other : (suc (suc (length ws)) == 0 + 1)
    ≡ false = grind (arith, nat_tests) in ap (λ b. cond b (without_coordinates (number_at w)) (Err because.Rank)) other

-- ---- the lines of a text

-- what a text reads as
abbrev pub Reading : Type 0
Reading = Result (List (List ℕ × ℕ)) FileFault

-- pairs in front, one after the other
pub with_front-append : (ps : List (List ℕ × ℕ)) (p : List ℕ × ℕ) (r : Reading) → with_front (ps ++ p ∷ []) r ≡ with_front ps (with_front (p ∷ []) r)
with_front-append ps p (Ok qs) = ap Ok (append_assoc ps (p ∷ []) qs)
with_front-append ps p (Err e) = refl

-- a line past the limit, or one more than may be read
pub tns_from-limit : (dims : List ℕ) (most : ℕ) (l : ℕ × List ℕ) (ls : List (ℕ × List ℕ)) → ((most == 0) || not (is_within_limit l.1)) ≡ true
    → tns_from dims most (l ∷ ls) ≡ Err (fault_at l.0 because.Limit)
tns_from-limit dims most l ls t = rw t refl

-- a line that is read
pub tns_from-line : (dims : List ℕ) (most : ℕ) (l : ℕ × List ℕ) (ls : List (ℕ × List ℕ)) (r : Result (List ℕ × ℕ) FileCause)
    → ((most == 0) || not (is_within_limit l.1)) ≡ false
    → pair_of dims (words_of l.1) ≡ r → tns_from dims most (l ∷ ls) ≡ with_line l.0 r (tns_from dims (most - 1) ls)
tns_from-line dims most l ls r t e = rw t (ap (λ r. with_line l.0 r (tns_from dims (most - 1) ls)) e)

-- ---- the same with what was read before

-- the text's fault is that of a line past the limit
pub step_limit : (ps : List (List ℕ × ℕ)) (dims : List ℕ) (most : ℕ) (l : ℕ × List ℕ) (ls lines : List (ℕ × List ℕ)) (whole : Reading)
    → with_front ps (tns_from dims most lines) ≡ whole → lines ≡ l ∷ ls
    → ((most == 0) || not (is_within_limit l.1)) ≡ true → whole ≡ Err (fault_at l.0 because.Limit)
step_limit ps dims most l ls lines whole inv e t = sym inv ∙ ap (with_front ps) (ap (tns_from dims most) e ∙ tns_from-limit dims most l ls t)

-- the text's fault is that of a line
pub step_fault : (ps : List (List ℕ × ℕ)) (dims : List ℕ) (most : ℕ) (l : ℕ × List ℕ) (ls lines : List (ℕ × List ℕ)) (whole : Reading) (cause : FileCause)
    → with_front ps (tns_from dims most lines) ≡ whole → lines ≡ l ∷ ls
    → ((most == 0) || not (is_within_limit l.1)) ≡ false → pair_of dims (words_of l.1) ≡ Err cause → whole ≡ Err (fault_at l.0 cause)
step_fault ps dims most l ls lines whole cause inv e t r = sym inv
    ∙ ap (with_front ps) (ap (tns_from dims most) e ∙ tns_from-line dims most l ls (Err cause) t r)

-- a line's pair comes behind those before it
pub step_pair : (ps : List (List ℕ × ℕ)) (dims : List ℕ) (most : ℕ) (l : ℕ × List ℕ) (ls lines : List (ℕ × List ℕ)) (whole : Reading) (p : List ℕ × ℕ)
    → with_front ps (tns_from dims most lines) ≡ whole → lines ≡ l ∷ ls
    → ((most == 0) || not (is_within_limit l.1)) ≡ false → pair_of dims (words_of l.1) ≡ Ok p → with_front (ps ++ p ∷ []) (tns_from dims (most - 1) ls) ≡ whole
step_pair ps dims most l ls lines whole p inv e t r =
    with_front-append ps p (tns_from dims (most - 1) ls) ∙ sym (ap (with_front ps) (ap (tns_from dims most) e ∙ tns_from-line dims most l ls (Ok p) t r)) ∙ inv
