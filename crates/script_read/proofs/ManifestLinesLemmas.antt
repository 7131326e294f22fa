-- Lines of manifests, and what they declare.
use Rattle.std.proofs.Common.{◌≡◌, ◌≢◌, ◌≤◌, ◌+◌, ◌-◌, ◌*◌, ◌^◌, ◌∙◌, zero, suc, true, false, List, [], ◌∷◌, length, refl, Some, None, Option, map, get_or, subst, sym, arith}
use Rattle.std.specs.Prelude.{ℕ, slice_range, IfSome, option_map, option_and_then, if◌then◌else◌, ◌&&◌, nat_le, nat_lt, codes}
use Rattle.std.specs.List.{list_all}
use Rattle.std.proofs.lemmas.Bool.Decides.{nat_tests}
use Rattle.std.proofs.lemmas.Option.{none-some}
use Rattle.dt_model.proofs.Booleans.{both_true}
use Rattle.dt_model.specs.Names.{is_name}
use Rattle.dt_model.specs.Texts.{number_of}
use Rattle.script_read.specs.declared.item_lines.ItemLine.{ItemLine}
use Rattle.script_read.specs.declared.item_lines.ItemLine.TheVariants.{Whole}
use Rattle.script_read.specs.declared.items.Item.TheVariants.{Schema, Load, Session, Print}
use Rattle.script_read.specs.declared.words.Word.{Word}
use Rattle.script_read.specs.Readings.{every, equals_text}
use Rattle.script_read.specs.Words.{word_bytes}
use Rattle.script_read.specs.Sound.{IsSoundLine}
use Rattle.script_read.specs.ManifestLines.{name_in, file_in, is_index, up_to, number_up_to, ranged, tensor_line, tensor_words, two_words, three_words, item_line}
use Rattle.script_read.proofs.ReadingsLemmas.{IfSome-at, IfSome-if, IfSome-map, IfSome-then, every-passes}

-- words are the line of a tensor of order r
abbrev pub IsTensorLine : List Word → ℕ → Word → Type 0
IsTensorLine ws r z = item_line (map word_bytes ws) ≡ tensor_words (word_bytes (get_or ws 0 z)) (word_bytes (get_or ws 1 z))
    (map word_bytes (slice_range ws 2 (2 + r)))
    (word_bytes (get_or ws (2 + r) z)) (map word_bytes (slice_range ws (3 + r) (3 + 2 * r))) (word_bytes (get_or ws (3 + 2 * r) z))
    (word_bytes (get_or ws (4 + 2 * r) z))

of_order_1 : (ws : List Word) (z : Word) → length ws ≡ 7 → IsTensorLine ws 1 z
of_order_1 [] z e = absurd (omega (arith, e))
of_order_1 (_ ∷ []) z e = absurd (omega (arith, e))
of_order_1 (_ ∷ _ ∷ []) z e = absurd (omega (arith, e))
of_order_1 (_ ∷ _ ∷ _ ∷ []) z e = absurd (omega (arith, e))
of_order_1 (_ ∷ _ ∷ _ ∷ _ ∷ []) z e = absurd (omega (arith, e))
of_order_1 (_ ∷ _ ∷ _ ∷ _ ∷ _ ∷ []) z e = absurd (omega (arith, e))
of_order_1 (_ ∷ _ ∷ _ ∷ _ ∷ _ ∷ _ ∷ []) z e = absurd (omega (arith, e))
of_order_1 (_ ∷ _ ∷ _ ∷ _ ∷ _ ∷ _ ∷ _ ∷ []) z e = refl
of_order_1 (_ ∷ _ ∷ _ ∷ _ ∷ _ ∷ _ ∷ _ ∷ _ ∷ ws) z e = absurd (omega (arith, e))

of_order_2 : (ws : List Word) (z : Word) → length ws ≡ 9 → IsTensorLine ws 2 z
of_order_2 [] z e = absurd (omega (arith, e))
of_order_2 (_ ∷ []) z e = absurd (omega (arith, e))
of_order_2 (_ ∷ _ ∷ []) z e = absurd (omega (arith, e))
of_order_2 (_ ∷ _ ∷ _ ∷ []) z e = absurd (omega (arith, e))
of_order_2 (_ ∷ _ ∷ _ ∷ _ ∷ []) z e = absurd (omega (arith, e))
of_order_2 (_ ∷ _ ∷ _ ∷ _ ∷ _ ∷ []) z e = absurd (omega (arith, e))
of_order_2 (_ ∷ _ ∷ _ ∷ _ ∷ _ ∷ _ ∷ []) z e = absurd (omega (arith, e))
of_order_2 (_ ∷ _ ∷ _ ∷ _ ∷ _ ∷ _ ∷ _ ∷ []) z e = absurd (omega (arith, e))
of_order_2 (_ ∷ _ ∷ _ ∷ _ ∷ _ ∷ _ ∷ _ ∷ _ ∷ []) z e = absurd (omega (arith, e))
of_order_2 (_ ∷ _ ∷ _ ∷ _ ∷ _ ∷ _ ∷ _ ∷ _ ∷ _ ∷ []) z e = refl
of_order_2 (_ ∷ _ ∷ _ ∷ _ ∷ _ ∷ _ ∷ _ ∷ _ ∷ _ ∷ _ ∷ ws) z e = absurd (omega (arith, e))

of_order_3 : (ws : List Word) (z : Word) → length ws ≡ 11 → IsTensorLine ws 3 z
of_order_3 [] z e = absurd (omega (arith, e))
of_order_3 (_ ∷ []) z e = absurd (omega (arith, e))
of_order_3 (_ ∷ _ ∷ []) z e = absurd (omega (arith, e))
of_order_3 (_ ∷ _ ∷ _ ∷ []) z e = absurd (omega (arith, e))
of_order_3 (_ ∷ _ ∷ _ ∷ _ ∷ []) z e = absurd (omega (arith, e))
of_order_3 (_ ∷ _ ∷ _ ∷ _ ∷ _ ∷ []) z e = absurd (omega (arith, e))
of_order_3 (_ ∷ _ ∷ _ ∷ _ ∷ _ ∷ _ ∷ []) z e = absurd (omega (arith, e))
of_order_3 (_ ∷ _ ∷ _ ∷ _ ∷ _ ∷ _ ∷ _ ∷ []) z e = absurd (omega (arith, e))
of_order_3 (_ ∷ _ ∷ _ ∷ _ ∷ _ ∷ _ ∷ _ ∷ _ ∷ []) z e = absurd (omega (arith, e))
of_order_3 (_ ∷ _ ∷ _ ∷ _ ∷ _ ∷ _ ∷ _ ∷ _ ∷ _ ∷ []) z e = absurd (omega (arith, e))
of_order_3 (_ ∷ _ ∷ _ ∷ _ ∷ _ ∷ _ ∷ _ ∷ _ ∷ _ ∷ _ ∷ []) z e = absurd (omega (arith, e))
of_order_3 (_ ∷ _ ∷ _ ∷ _ ∷ _ ∷ _ ∷ _ ∷ _ ∷ _ ∷ _ ∷ _ ∷ []) z e = refl
of_order_3 (_ ∷ _ ∷ _ ∷ _ ∷ _ ∷ _ ∷ _ ∷ _ ∷ _ ∷ _ ∷ _ ∷ _ ∷ ws) z e = absurd (omega (arith, e))

of_order_4 : (ws : List Word) (z : Word) → length ws ≡ 13 → IsTensorLine ws 4 z
of_order_4 [] z e = absurd (omega (arith, e))
of_order_4 (_ ∷ []) z e = absurd (omega (arith, e))
of_order_4 (_ ∷ _ ∷ []) z e = absurd (omega (arith, e))
of_order_4 (_ ∷ _ ∷ _ ∷ []) z e = absurd (omega (arith, e))
of_order_4 (_ ∷ _ ∷ _ ∷ _ ∷ []) z e = absurd (omega (arith, e))
of_order_4 (_ ∷ _ ∷ _ ∷ _ ∷ _ ∷ []) z e = absurd (omega (arith, e))
of_order_4 (_ ∷ _ ∷ _ ∷ _ ∷ _ ∷ _ ∷ []) z e = absurd (omega (arith, e))
of_order_4 (_ ∷ _ ∷ _ ∷ _ ∷ _ ∷ _ ∷ _ ∷ []) z e = absurd (omega (arith, e))
of_order_4 (_ ∷ _ ∷ _ ∷ _ ∷ _ ∷ _ ∷ _ ∷ _ ∷ []) z e = absurd (omega (arith, e))
of_order_4 (_ ∷ _ ∷ _ ∷ _ ∷ _ ∷ _ ∷ _ ∷ _ ∷ _ ∷ []) z e = absurd (omega (arith, e))
of_order_4 (_ ∷ _ ∷ _ ∷ _ ∷ _ ∷ _ ∷ _ ∷ _ ∷ _ ∷ _ ∷ []) z e = absurd (omega (arith, e))
of_order_4 (_ ∷ _ ∷ _ ∷ _ ∷ _ ∷ _ ∷ _ ∷ _ ∷ _ ∷ _ ∷ _ ∷ []) z e = absurd (omega (arith, e))
of_order_4 (_ ∷ _ ∷ _ ∷ _ ∷ _ ∷ _ ∷ _ ∷ _ ∷ _ ∷ _ ∷ _ ∷ _ ∷ []) z e = absurd (omega (arith, e))
of_order_4 (_ ∷ _ ∷ _ ∷ _ ∷ _ ∷ _ ∷ _ ∷ _ ∷ _ ∷ _ ∷ _ ∷ _ ∷ _ ∷ []) z e = refl
of_order_4 (_ ∷ _ ∷ _ ∷ _ ∷ _ ∷ _ ∷ _ ∷ _ ∷ _ ∷ _ ∷ _ ∷ _ ∷ _ ∷ _ ∷ ws) z e = absurd (omega (arith, e))

of_order_5 : (ws : List Word) (z : Word) → length ws ≡ 15 → IsTensorLine ws 5 z
of_order_5 [] z e = absurd (omega (arith, e))
of_order_5 (_ ∷ []) z e = absurd (omega (arith, e))
of_order_5 (_ ∷ _ ∷ []) z e = absurd (omega (arith, e))
of_order_5 (_ ∷ _ ∷ _ ∷ []) z e = absurd (omega (arith, e))
of_order_5 (_ ∷ _ ∷ _ ∷ _ ∷ []) z e = absurd (omega (arith, e))
of_order_5 (_ ∷ _ ∷ _ ∷ _ ∷ _ ∷ []) z e = absurd (omega (arith, e))
of_order_5 (_ ∷ _ ∷ _ ∷ _ ∷ _ ∷ _ ∷ []) z e = absurd (omega (arith, e))
of_order_5 (_ ∷ _ ∷ _ ∷ _ ∷ _ ∷ _ ∷ _ ∷ []) z e = absurd (omega (arith, e))
of_order_5 (_ ∷ _ ∷ _ ∷ _ ∷ _ ∷ _ ∷ _ ∷ _ ∷ []) z e = absurd (omega (arith, e))
of_order_5 (_ ∷ _ ∷ _ ∷ _ ∷ _ ∷ _ ∷ _ ∷ _ ∷ _ ∷ []) z e = absurd (omega (arith, e))
of_order_5 (_ ∷ _ ∷ _ ∷ _ ∷ _ ∷ _ ∷ _ ∷ _ ∷ _ ∷ _ ∷ []) z e = absurd (omega (arith, e))
of_order_5 (_ ∷ _ ∷ _ ∷ _ ∷ _ ∷ _ ∷ _ ∷ _ ∷ _ ∷ _ ∷ _ ∷ []) z e = absurd (omega (arith, e))
of_order_5 (_ ∷ _ ∷ _ ∷ _ ∷ _ ∷ _ ∷ _ ∷ _ ∷ _ ∷ _ ∷ _ ∷ _ ∷ []) z e = absurd (omega (arith, e))
of_order_5 (_ ∷ _ ∷ _ ∷ _ ∷ _ ∷ _ ∷ _ ∷ _ ∷ _ ∷ _ ∷ _ ∷ _ ∷ _ ∷ []) z e = absurd (omega (arith, e))
of_order_5 (_ ∷ _ ∷ _ ∷ _ ∷ _ ∷ _ ∷ _ ∷ _ ∷ _ ∷ _ ∷ _ ∷ _ ∷ _ ∷ _ ∷ []) z e = absurd (omega (arith, e))
of_order_5 (_ ∷ _ ∷ _ ∷ _ ∷ _ ∷ _ ∷ _ ∷ _ ∷ _ ∷ _ ∷ _ ∷ _ ∷ _ ∷ _ ∷ _ ∷ []) z e = refl
of_order_5 (_ ∷ _ ∷ _ ∷ _ ∷ _ ∷ _ ∷ _ ∷ _ ∷ _ ∷ _ ∷ _ ∷ _ ∷ _ ∷ _ ∷ _ ∷ _ ∷ ws) z e = absurd (omega (arith, e))

-- the words of a tensor's line, by its order
pub tensor_line_at : (r : ℕ) (ws : List Word) (z : Word) → 1 ≤ r → r ≤ 5 → length ws ≡ 2 * r + 5 → IsTensorLine ws r z
tensor_line_at zero ws z low high e = absurd (omega arith)
tensor_line_at (suc zero) ws z low high e = of_order_1 ws z (omega (arith, e))
tensor_line_at (suc (suc zero)) ws z low high e = of_order_2 ws z (omega (arith, e))
tensor_line_at (suc (suc (suc zero))) ws z low high e = of_order_3 ws z (omega (arith, e))
tensor_line_at (suc (suc (suc (suc zero)))) ws z low high e = of_order_4 ws z (omega (arith, e))
tensor_line_at (suc (suc (suc (suc (suc zero))))) ws z low high e = of_order_5 ws z (omega (arith, e))
tensor_line_at (suc (suc (suc (suc (suc (suc r)))))) ws z low high e = absurd (omega (arith, high))

-- words of another number than a form has are no line
pub item_line-other : (ws : List Word) → length ws ≢ 2 → length ws ≢ 3 → length ws ≢ 7 → length ws ≢ 9 → length ws ≢ 11 → length ws ≢ 13 → length ws ≢ 15
    → item_line (map word_bytes ws) ≡ None
item_line-other [] a b c d e f g = refl
item_line-other (_ ∷ []) a b c d e f g = refl
item_line-other (_ ∷ _ ∷ []) a b c d e f g = absurd (a refl)
item_line-other (_ ∷ _ ∷ _ ∷ []) a b c d e f g = absurd (b refl)
item_line-other (_ ∷ _ ∷ _ ∷ _ ∷ []) a b c d e f g = refl
item_line-other (_ ∷ _ ∷ _ ∷ _ ∷ _ ∷ []) a b c d e f g = refl
item_line-other (_ ∷ _ ∷ _ ∷ _ ∷ _ ∷ _ ∷ []) a b c d e f g = refl
item_line-other (_ ∷ _ ∷ _ ∷ _ ∷ _ ∷ _ ∷ _ ∷ []) a b c d e f g = absurd (c refl)
item_line-other (_ ∷ _ ∷ _ ∷ _ ∷ _ ∷ _ ∷ _ ∷ _ ∷ []) a b c d e f g = refl
item_line-other (_ ∷ _ ∷ _ ∷ _ ∷ _ ∷ _ ∷ _ ∷ _ ∷ _ ∷ []) a b c d e f g = absurd (d refl)
item_line-other (_ ∷ _ ∷ _ ∷ _ ∷ _ ∷ _ ∷ _ ∷ _ ∷ _ ∷ _ ∷ []) a b c d e f g = refl
item_line-other (_ ∷ _ ∷ _ ∷ _ ∷ _ ∷ _ ∷ _ ∷ _ ∷ _ ∷ _ ∷ _ ∷ []) a b c d e f g = absurd (e refl)
item_line-other (_ ∷ _ ∷ _ ∷ _ ∷ _ ∷ _ ∷ _ ∷ _ ∷ _ ∷ _ ∷ _ ∷ _ ∷ []) a b c d e f g = refl
item_line-other (_ ∷ _ ∷ _ ∷ _ ∷ _ ∷ _ ∷ _ ∷ _ ∷ _ ∷ _ ∷ _ ∷ _ ∷ _ ∷ []) a b c d e f g = absurd (f refl)
item_line-other (_ ∷ _ ∷ _ ∷ _ ∷ _ ∷ _ ∷ _ ∷ _ ∷ _ ∷ _ ∷ _ ∷ _ ∷ _ ∷ _ ∷ []) a b c d e f g = refl
item_line-other (_ ∷ _ ∷ _ ∷ _ ∷ _ ∷ _ ∷ _ ∷ _ ∷ _ ∷ _ ∷ _ ∷ _ ∷ _ ∷ _ ∷ _ ∷ []) a b c d e f g = absurd (g refl)
item_line-other (_ ∷ _ ∷ _ ∷ _ ∷ _ ∷ _ ∷ _ ∷ _ ∷ _ ∷ _ ∷ _ ∷ _ ∷ _ ∷ _ ∷ _ ∷ _ ∷ ws) a b c d e f g = refl

-- ---- what a tensor's line declares

-- a word that is read as a name is one
name_in-Some : (w n : List ℕ) → name_in w ≡ Some n → is_name n ≡ true
name_in-Some w n e = elim (is_name w) as (λ b. is_name w ≡ b → (if b then Some w else None) ≡ Some n → is_name n ≡ true) [
  | true ↦ λ t s. let same : w ≡ n = cc in subst (λ x. is_name x ≡ true) same t
  | false ↦ λ t s. absurd (none-some n s)
] refl e

-- a number that is read is from 1 to the most
up_to-Some : (most : ℕ) (o : Option ℕ) (n : ℕ) → up_to most o ≡ Some n → (1 ≤ n) × (n ≤ most)
up_to-Some most None n e = absurd (none-some n e)
up_to-Some most (Some k) n e = elim (nat_le 1 k && nat_le k most) as
    (λ b. (nat_le 1 k && nat_le k most) ≡ b → (if b then Some k else None) ≡ Some n → (1 ≤ n) × (n ≤ most)) [
      | true ↦ λ t s.
          let both = both_true (nat_le 1 k) (nat_le k most) t in
          let low : 1 ≤ k = let a = both.0 in grind (arith, nat_tests) in
          let high : k ≤ most = let a = both.1 in grind (arith, nat_tests) in
          let same : k ≡ n = cc in
          (subst (λ x. 1 ≤ x) same low, subst (λ x. x ≤ most) same high)
      | false ↦ λ t s. absurd (none-some n s)
    ] refl e

-- a dimension is from 1 to 2^32 - 1
dimension-Some : (w : List ℕ) (n : ℕ) → number_up_to (2 ^ 32 - 1) w ≡ Some n → (nat_le 1 n && nat_lt n (2 ^ 32)) ≡ true
dimension-Some w n e =
    let both = up_to-Some (2 ^ 32 - 1) (number_of w) n e in
    let low : nat_le 1 n ≡ true = let a = both.0 in grind (arith, nat_tests) in
    let high : nat_lt n (2 ^ 32) ≡ true = let a = both.1 in grind (arith, nat_tests) in
    rw (low, high) refl

-- the numbers of latches that are read
latches-sound : (o : Option ℕ) → IfSome (up_to 256 o) (λ l. (1 ≤ l) × (l ≤ 256))
latches-sound o = elim (up_to 256 o) as (λ r. up_to 256 o ≡ r → IfSome r (λ l. (1 ≤ l) × (l ≤ 256))) [ None ↦ λ e. tt | Some l ↦ λ e. up_to-Some 256 o l e ]
    refl

-- a tensor with a name, as many formats as dimensions, and numbers in range
ranged-sound : (n : List ℕ) (fs : List (List ℕ)) (k : ℕ) (ds : Option (List ℕ)) (l : Option ℕ) → is_name n ≡ true → 1 ≤ k → k ≤ 5 → length fs ≡ k
    → IfSome ds (λ ds. (length ds ≡ k) × (list_all (λ n. nat_le 1 n && nat_lt n (2 ^ 32)) ds ≡ true)) → IfSome l (λ l. (1 ≤ l) × (l ≤ 256))
    → IsSoundLine (ranged n fs ds l)
ranged-sound n fs k None l named low high as_many d h = tt
ranged-sound n fs k (Some ds) None named low high as_many d h = tt
ranged-sound n fs k (Some ds) (Some l) named low high as_many d h =
    let count : length ds ≡ k = d.0 in
    record {
      is_named = named;
      low_order = omega arith;
      high_order = omega arith;
      in_range = d.1;
      as_many = as_many ∙ sym count;
      low_latches = h.0;
      high_latches = h.1;
    }

tensor_line-sound : (name : List ℕ) (dims formats : List (List ℕ)) (latches : List ℕ) → 1 ≤ length dims → length dims ≤ 5 → length formats ≡ length dims
    → IfSome (tensor_line name dims formats latches) IsSoundLine
tensor_line-sound name dims formats latches low high as_many =
    let inner : List ℕ → List (List ℕ) → Option ItemLine = λ n fs. if list_all is_index dims && is_index latches
    then Some (ranged n fs (every (number_up_to (2 ^ 32 - 1)) dims) (number_up_to 256 latches)) else None in
    IfSome-then IsSoundLine (λ n. option_and_then (inner n) (every name_in formats)) (name_in name) (λ n is.
    IfSome-then IsSoundLine (inner n) (every name_in formats) (λ fs all.
    let names : (length fs ≡ length formats) × (list_all is_name fs ≡ true) =
    IfSome-at (λ fs. (length fs ≡ length formats) × (list_all is_name fs ≡ true)) (every name_in formats) fs
    (every-passes name_in is_name name_in-Some formats) all in
    IfSome-if IsSoundLine (list_all is_index dims && is_index latches)
    (Some (ranged n fs (every (number_up_to (2 ^ 32 - 1)) dims) (number_up_to 256 latches))) None
    (ranged-sound n fs (length dims) (every (number_up_to (2 ^ 32 - 1)) dims) (number_up_to 256 latches) (name_in-Some name n is) low high (names.0 ∙ as_many)
    (every-passes (number_up_to (2 ^ 32 - 1)) (λ n. nat_le 1 n && nat_lt n (2 ^ 32)) dimension-Some dims) (latches-sound (number_of latches)))
    tt))

tensor_words-sound : (v n : List ℕ) (ds : List (List ℕ)) (a : List ℕ) (fs : List (List ℕ)) (k l : List ℕ) → 1 ≤ length ds → length ds ≤ 5
    → length fs ≡ length ds
    → IfSome (tensor_words v n ds a fs k l) IsSoundLine
tensor_words-sound v n ds a fs k l low high as_many =
    IfSome-if IsSoundLine (equals_text (codes "tensor") v && equals_text (codes "as") a && equals_text (codes "latches") k) (tensor_line n ds fs l) None
    (tensor_line-sound n ds fs l low high as_many) tt

two_words-sound : (v x : List ℕ) → IfSome (two_words v x) IsSoundLine
two_words-sound v x =
    let session = if equals_text (codes "session") v then option_map (λ file. Whole (Session file)) (file_in x)
    else (if equals_text (codes "print") v then option_map (λ name. Whole (Print name)) (name_in x) else None) in
    IfSome-if IsSoundLine (equals_text (codes "schema") v) (option_map (λ file. Whole (Schema file)) (file_in x)) session
    (IfSome-map IsSoundLine (λ file. Whole (Schema file)) (file_in x) (λ _ _. tt))
    (IfSome-if IsSoundLine (equals_text (codes "session") v) (option_map (λ file. Whole (Session file)) (file_in x))
    (if equals_text (codes "print") v then option_map (λ name. Whole (Print name)) (name_in x) else None)
    (IfSome-map IsSoundLine (λ file. Whole (Session file)) (file_in x) (λ _ _. tt))
    (IfSome-if IsSoundLine (equals_text (codes "print") v) (option_map (λ name. Whole (Print name)) (name_in x)) None
    (IfSome-map IsSoundLine (λ name. Whole (Print name)) (name_in x) (λ _ _. tt)) tt))

three_words-sound : (v n f : List ℕ) → IfSome (three_words v n f) IsSoundLine
three_words-sound v n f =
    IfSome-if IsSoundLine (equals_text (codes "load") v) (option_and_then (λ n. option_map (λ f. Whole (Load n f)) (file_in f)) (name_in n)) None
    (IfSome-then IsSoundLine (λ n. option_map (λ f. Whole (Load n f)) (file_in f)) (name_in n)
    (λ n _. IfSome-map IsSoundLine (λ f. Whole (Load n f)) (file_in f) (λ _ _. tt))) tt

-- a line that has a form is sound
pub item_line-sound : (ws : List (List ℕ)) → IfSome (item_line ws) IsSoundLine
item_line-sound [] = tt
item_line-sound (a0 ∷ []) = tt
item_line-sound (a0 ∷ a1 ∷ []) = two_words-sound a0 a1
item_line-sound (a0 ∷ a1 ∷ a2 ∷ []) = three_words-sound a0 a1 a2
item_line-sound (a0 ∷ a1 ∷ a2 ∷ a3 ∷ []) = tt
item_line-sound (a0 ∷ a1 ∷ a2 ∷ a3 ∷ a4 ∷ []) = tt
item_line-sound (a0 ∷ a1 ∷ a2 ∷ a3 ∷ a4 ∷ a5 ∷ []) = tt
item_line-sound (a0 ∷ a1 ∷ a2 ∷ a3 ∷ a4 ∷ a5 ∷ a6 ∷ []) = tensor_words-sound a0 a1 (a2 ∷ []) a3 (a4 ∷ []) a5 a6 (omega arith) (omega arith) refl
item_line-sound (a0 ∷ a1 ∷ a2 ∷ a3 ∷ a4 ∷ a5 ∷ a6 ∷ a7 ∷ []) = tt
item_line-sound (a0 ∷ a1 ∷ a2 ∷ a3 ∷ a4 ∷ a5 ∷ a6 ∷ a7 ∷ a8 ∷ []) = tensor_words-sound a0 a1 (a2 ∷ a3 ∷ []) a4 (a5 ∷ a6 ∷ []) a7 a8 (omega arith)
    (omega arith) refl
item_line-sound (a0 ∷ a1 ∷ a2 ∷ a3 ∷ a4 ∷ a5 ∷ a6 ∷ a7 ∷ a8 ∷ a9 ∷ []) = tt
item_line-sound (a0 ∷ a1 ∷ a2 ∷ a3 ∷ a4 ∷ a5 ∷ a6 ∷ a7 ∷ a8 ∷ a9 ∷ a10 ∷ []) = tensor_words-sound a0 a1 (a2 ∷ a3 ∷ a4 ∷ []) a5 (a6 ∷ a7 ∷ a8 ∷ []) a9 a10
    (omega arith) (omega arith) refl
item_line-sound (a0 ∷ a1 ∷ a2 ∷ a3 ∷ a4 ∷ a5 ∷ a6 ∷ a7 ∷ a8 ∷ a9 ∷ a10 ∷ a11 ∷ []) = tt
item_line-sound (a0 ∷ a1 ∷ a2 ∷ a3 ∷ a4 ∷ a5 ∷ a6 ∷ a7 ∷ a8 ∷ a9 ∷ a10 ∷ a11 ∷ a12 ∷ []) = tensor_words-sound a0 a1 (a2 ∷ a3 ∷ a4 ∷ a5 ∷ []) a6
    (a7 ∷ a8 ∷ a9 ∷ a10 ∷ []) a11 a12 (omega arith) (omega arith) refl
item_line-sound (a0 ∷ a1 ∷ a2 ∷ a3 ∷ a4 ∷ a5 ∷ a6 ∷ a7 ∷ a8 ∷ a9 ∷ a10 ∷ a11 ∷ a12 ∷ a13 ∷ []) = tt
item_line-sound (a0 ∷ a1 ∷ a2 ∷ a3 ∷ a4 ∷ a5 ∷ a6 ∷ a7 ∷ a8 ∷ a9 ∷ a10 ∷ a11 ∷ a12 ∷ a13 ∷ a14 ∷ []) = tensor_words-sound a0 a1 (a2 ∷ a3 ∷ a4 ∷ a5 ∷ a6 ∷ [])
    a7 (a8 ∷ a9 ∷ a10 ∷ a11 ∷ a12 ∷ []) a13 a14 (omega arith) (omega arith) refl
item_line-sound (a0 ∷ a1 ∷ a2 ∷ a3 ∷ a4 ∷ a5 ∷ a6 ∷ a7 ∷ a8 ∷ a9 ∷ a10 ∷ a11 ∷ a12 ∷ a13 ∷ a14 ∷ a15 ∷ ws) = tt
