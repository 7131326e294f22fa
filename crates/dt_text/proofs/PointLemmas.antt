-- Digits before and behind a point, the last of which are cut off.
use Rattle.std.proofs.Common.{◌≡◌, ℕ, ◌+◌, ◌-◌, ◌*◌, ◌<◌, ◌≤◌, ◌^◌, ◌++◌, min, Bool, true, false, List, length, take, drop, refl, ap, sym, ◌∙◌, arith, Some, None, append_assoc}
use Rattle.std.specs.Prelude.{◌&&◌, nat_le}
use Rattle.std.specs.Char.{is_ascii_digit}
use Rattle.std.specs.List.{list_all}
use Rattle.std.specs.Str.Parse.{digits_value}
use Rattle.std.proofs.lemmas.Bool.Decides.{nat_tests}
use Rattle.std.proofs.lemmas.List.{append-nil, take-append-drop, take_all, drop_all, length-append, length-drop, length-take, nil_from_length}
use Rattle.std.proofs.lemmas.List.Folds.{list_all-append}
use Rattle.dt_model.proofs.Booleans.{both_true}
use Rattle.dt_text.specs.Values.{scaled, is_zero}
use Rattle.dt_text.proofs.ScaledLemmas.{IsCut, scaled-zeros, scaled-others}

-- what holds of all holds of the first ones
pub list_all-take : (p : ℕ → Bool) (xs : List ℕ) (k : ℕ) → list_all p xs ≡ true → list_all p (take k xs) ≡ true
list_all-take p xs k h = (both_true (list_all p (take k xs)) (list_all p (drop k xs)) (sym (list_all-append p (take k xs) (drop k xs))
    ∙ ap (list_all p) (take-append-drop k xs) ∙ h)).0

list_all-drop : (p : ℕ → Bool) (xs : List ℕ) (k : ℕ) → list_all p xs ≡ true → list_all p (drop k xs) ≡ true
list_all-drop p xs k h = (both_true (list_all p (take k xs)) (list_all p (drop k xs)) (sym (list_all-append p (take k xs) (drop k xs))
    ∙ ap (list_all p) (take-append-drop k xs) ∙ h)).1

-- the first of the digits before and behind the point
abbrev pub front_two : List ℕ → List ℕ → ℕ → ℕ → List ℕ
front_two ws ps a b = take a ws ++ take b ps

-- the other digits before and behind the point
abbrev pub back_two : List ℕ → List ℕ → ℕ → ℕ → List ℕ
back_two ws ps a b = drop a ws ++ drop b ps

cut_early : (ws ps : List ℕ) (a b : ℕ) → b ≡ 0 → ws ++ ps ≡ front_two ws ps a b ++ back_two ws ps a b
cut_early ws ps a b e =
    rw e (rw (append-nil (take a ws)) (sym (ap (λ l. l ++ ps) (take-append-drop a ws)) ∙ append_assoc (take a ws) (drop a ws) ps))

cut_late : (ws ps : List ℕ) (a b : ℕ) → length ws ≤ a → ws ++ ps ≡ front_two ws ps a b ++ back_two ws ps a b
cut_late ws ps a b l =
    rw (take_all a ws l, drop_all a ws l) (sym (append_assoc ws (take b ps) (drop b ps) ∙ ap (λ r. ws ++ r) (take-append-drop b ps)))

cut_two : (ws ps : List ℕ) (n a b : ℕ) → a ≡ min n (length ws) → b ≡ n - a → ws ++ ps ≡ front_two ws ps a b ++ back_two ws ps a b
cut_two ws ps n a b e f = elim (nat_le (length ws) a) as (λ t. nat_le (length ws) a ≡ t → ws ++ ps ≡ front_two ws ps a b ++ back_two ws ps a b) [
  | true ↦ λ t. cut_late ws ps a b (grind (arith, nat_tests))
  | false ↦ λ t. let less : a < length ws = grind (arith, nat_tests) in cut_early ws ps a b (omega arith)
] refl

is_cut : (ws ps : List ℕ) (k n a b : ℕ) → n ≡ length ws + length ps - k → a ≡ min n (length ws) → b ≡ n - a → IsCut (front_two ws ps a b) (back_two ws ps a b) k
is_cut ws ps k n a b g e f =
    let back : length (back_two ws ps a b) ≡ (length ws - a) + (length ps - b) = length-append (drop a ws) (drop b ps)
    ∙ rw (length-drop a ws, length-drop b ps) refl in
    let front : length (front_two ws ps a b) ≡ min a (length ws) + min b (length ps) = length-append (take a ws) (take b ps)
    ∙ rw (length-take a ws, length-take b ps) refl in
    (omega arith, λ less. nil_from_length (front_two ws ps a b) (omega arith))

digits_back : (ws ps : List ℕ) (a b : ℕ) → list_all is_ascii_digit ws ≡ true → list_all is_ascii_digit ps ≡ true
    → list_all is_ascii_digit (back_two ws ps a b) ≡ true
digits_back ws ps a b h i =
    list_all-append is_ascii_digit (drop a ws) (drop b ps)
    ∙ rw (list_all-drop is_ascii_digit ws a h, list_all-drop is_ascii_digit ps b i) refl

-- what the code's tests on the two ends say
pub scaled-whole : (ws ps : List ℕ) (up down n a b : ℕ) → list_all is_ascii_digit ws ≡ true → list_all is_ascii_digit ps ≡ true
    → n ≡ length ws + length ps - (down - up) → a ≡ min n (length ws) → b ≡ n - a → list_all is_zero (drop a ws) ≡ true → list_all is_zero (drop b ps) ≡ true
    → scaled (digits_value 10 (ws ++ ps)) up down ≡ Some (digits_value 10 (take a ws ++ take b ps) * 10 ^ (up - down))
scaled-whole ws ps up down n a b h i g e f y z =
    let zeros : list_all is_zero (back_two ws ps a b) ≡ true = list_all-append is_zero (drop a ws) (drop b ps) ∙ rw (y, z) refl in
    ap (λ l. scaled (digits_value 10 l) up down) (cut_two ws ps n a b e f)
    ∙ scaled-zeros (front_two ws ps a b) (back_two ws ps a b) up down (digits_back ws ps a b h i) (is_cut ws ps (down - up) n a b g e f) zeros

-- digits that are not all 0 are cut off, so the number is not whole
pub scaled-not_whole : (ws ps : List ℕ) (up down n a b : ℕ) → list_all is_ascii_digit ws ≡ true → list_all is_ascii_digit ps ≡ true
    → n ≡ length ws + length ps - (down - up) → a ≡ min n (length ws) → b ≡ n - a → (list_all is_zero (drop a ws) && list_all is_zero (drop b ps)) ≡ false
    → scaled (digits_value 10 (ws ++ ps)) up down ≡ None
scaled-not_whole ws ps up down n a b h i g e f z =
    ap (λ l. scaled (digits_value 10 l) up down) (cut_two ws ps n a b e f)
    ∙ scaled-others (front_two ws ps a b) (back_two ws ps a b) up down (digits_back ws ps a b h i) (is_cut ws ps (down - up) n a b g e f)
    (list_all-append is_zero (drop a ws) (drop b ps) ∙ z)
