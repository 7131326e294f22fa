-- Updates, word by word.
use Rattle.std.proofs.Common.{◌≡◌, ◌<◌, ◌-◌, ◌∷◌, [], ℕ, true, false, List, map, length, take, get_or, Result, Ok, Err, refl, ap, ◌∙◌, arith}
use Rattle.std.specs.Prelude.{MatchResult, if◌then◌else◌}
use Rattle.dt_model.specs.declared.replies.Refusal.{Refusal}
use Rattle.dt_model.specs.declared.replies.Refusal.TheVariants.{Form}
use Rattle.dt_model.specs.declared.written.UpdateKind.{UpdateKind}
use Rattle.dt_model.specs.declared.written.WrittenCoordinate.{WrittenCoordinate}
use Rattle.dt_model.specs.declared.written.WrittenNumber.{WrittenNumber}
use Rattle.dt_model.specs.declared.written.WrittenUpdate.{WrittenUpdate}
use Rattle.dt_model.specs.Names.{is_name}
use Rattle.dt_model.specs.Texts.{number_of}
use Rattle.dt_model.specs.Worlds.{refusal_is_named}
use Rattle.dt_text.specs.Numerals.{index_in_range}
use Rattle.dt_text.specs.Values.{value_of}
use Rattle.dt_text.specs.declared.numerals.IndexFault.{IndexFault}
use Rattle.dt_text.specs.declared.numerals.IndexFault.TheVariants as index
use Rattle.dt_text.specs.declared.values.NumFault.{NumFault}
use Rattle.dt_text.specs.declared.values.NumFault.TheVariants as value
use Rattle.script_read.specs.declared.words.Word.{Word}
use Rattle.script_read.specs.Readings.{◌>>=◌}
use Rattle.script_read.specs.Words.{seen_word}
use Rattle.script_read.specs.Parts.{coordinates_and_number}
use Rattle.script_read.specs.Updates.{written_name, coordinate_at, written_coordinate, written_coordinates, number_at, written_number, with_coordinate, written_arguments, written_update}

-- a coordinate before other coordinates and a number
regrouped : (r : Result WrittenCoordinate Refusal) (s : Result (List WrittenCoordinate) Refusal) (t : Result WrittenNumber Refusal)
    → (r >>= (λ c. coordinates_and_number s t >>= (λ p. Ok (with_coordinate c p)))) ≡ coordinates_and_number (r >>= (λ c. s >>= (λ cs. Ok (c ∷ cs)))) t
regrouped (Err e) s t = refl
regrouped (Ok c) (Err e) t = refl
regrouped (Ok c) (Ok cs) (Err e) = refl
regrouped (Ok c) (Ok cs) (Ok n) = refl

-- a number alone
alone : (t : Result WrittenNumber Refusal) → (t >>= (λ n. Ok ([], n))) ≡ coordinates_and_number (Ok []) t
alone (Ok n) = refl
alone (Err e) = refl

-- the words before the last are coordinates, and the last is the number
arguments_behind : (end : ℕ) (w : Word) (ws : List Word) (z : Word)
    → written_arguments end (map seen_word (w ∷ ws)) ≡ coordinates_and_number (written_coordinates (map seen_word (take (length ws) (w ∷ ws))))
    (written_number (seen_word (get_or (w ∷ ws) (length ws) z)))
arguments_behind end w [] z = alone (written_number (seen_word w))
arguments_behind end w (x ∷ xs) z =
    ap (λ r. written_coordinate (seen_word w) >>= (λ c. r >>= (λ p. Ok (with_coordinate c p)))) (arguments_behind end x xs z)
    ∙ regrouped (written_coordinate (seen_word w)) (written_coordinates (map seen_word (take (length xs) (x ∷ xs))))
    (written_number (seen_word (get_or (x ∷ xs) (length xs) z)))

-- the same by the number of words
pub written_arguments-last : (end : ℕ) (ws : List Word) (z : Word) → 0 < length ws
    → written_arguments end (map seen_word ws) ≡ coordinates_and_number (written_coordinates (map seen_word (take (length ws - 1) ws)))
    (written_number (seen_word (get_or ws (length ws - 1) z)))
written_arguments-last end [] z h = absurd (omega arith)
written_arguments-last end (w ∷ ws) z h =
    let less : length (w ∷ ws) - 1 ≡ length ws = omega arith in
    rw less (arguments_behind end w ws z)

-- ---- what is read names names

-- a refusal that names names
abbrev pub IsNamedRefusal : Refusal → Type 0
IsNamedRefusal r = refusal_is_named r ≡ true

-- a reading that another follows
pub then_fits : {X Y : Type 0} (P : X → Type 0) (Q : Y → Type 0) (r : Result X Refusal) (f : X → Result Y Refusal) → MatchResult r P IsNamedRefusal
    → ((x : X) → P x → MatchResult (f x) Q IsNamedRefusal) → MatchResult (r >>= f) Q IsNamedRefusal
then_fits P Q (Ok x) f h k = k x h
then_fits P Q (Err e) f h k = h

-- a name is one, or its word is refused without a name
pub name_fits : (w : ℕ × List ℕ) → MatchResult (written_name w) (λ n. is_name n ≡ true) IsNamedRefusal
name_fits w = elim (is_name w.1) as (λ b. is_name w.1 ≡ b → MatchResult (if b then Ok w.1 else Err (Form w.0)) (λ n. is_name n ≡ true) IsNamedRefusal)
    [ true ↦ λ e. e | false ↦ λ e. refl ] refl

coordinate_fits : (c : ℕ) (r : Result ℕ IndexFault) → MatchResult (coordinate_at c r) (λ x. Unit {0}) IsNamedRefusal
coordinate_fits c (Ok n) = tt
coordinate_fits c (Err index.Range) = tt
coordinate_fits c (Err index.Form) = refl

number_fits : (c : ℕ) (r : Result ℕ NumFault) → MatchResult (number_at c r) (λ x. Unit {0}) IsNamedRefusal
number_fits c (Ok v) = tt
number_fits c (Err value.NotWhole) = tt
number_fits c (Err value.Range) = tt
number_fits c (Err value.Form) = refl

-- coordinates are refused without a name
pub coordinates_fit : (ws : List (ℕ × List ℕ)) → MatchResult (written_coordinates ws) (λ x. Unit {0}) IsNamedRefusal
coordinates_fit [] = tt
coordinates_fit (w ∷ ws) = then_fits (λ x. Unit {0}) (λ x. Unit {0}) (written_coordinate w) (λ c. written_coordinates ws >>= (λ cs. Ok (c ∷ cs)))
    (coordinate_fits w.0 (index_in_range (number_of w.1)))
    (λ c _. then_fits (λ x. Unit {0}) (λ x. Unit {0}) (written_coordinates ws) (λ cs. Ok (c ∷ cs)) (coordinates_fit ws) (λ cs _. tt))

arguments_fit : (end : ℕ) (ws : List (ℕ × List ℕ)) → MatchResult (written_arguments end ws) (λ x. Unit {0}) IsNamedRefusal
arguments_fit end [] = refl
arguments_fit end (v ∷ []) = then_fits (λ x. Unit {0}) (λ x. Unit {0}) (written_number v) (λ n. Ok ([], n)) (number_fits v.0 (value_of v.1)) (λ n _. tt)
arguments_fit end (c ∷ w ∷ ws) = then_fits (λ x. Unit {0}) (λ x. Unit {0}) (written_coordinate c)
    (λ x. written_arguments end (w ∷ ws) >>= (λ p. Ok (with_coordinate x p))) (coordinate_fits c.0 (index_in_range (number_of c.1)))
    (λ x _. then_fits (λ x. Unit {0}) (λ x. Unit {0}) (written_arguments end (w ∷ ws)) (λ p. Ok (with_coordinate x p)) (arguments_fit end (w ∷ ws)) (λ p _. tt))

-- an update's tensor has a name, or the update is refused without one
pub update_fits : (k : UpdateKind) (end : ℕ) (ws : List (ℕ × List ℕ)) → MatchResult (written_update k end ws) (λ u. is_name u.name ≡ true) IsNamedRefusal
update_fits k end [] = refl
update_fits k end (w ∷ ws) =
    let with_arguments : List ℕ → List WrittenCoordinate × WrittenNumber
    → Result WrittenUpdate Refusal = λ n p. Ok (record { kind = k; name = n; coordinates = p.0; number = p.1 }) in
    then_fits (λ n. is_name n ≡ true) (λ u. is_name u.name ≡ true) (written_name w) (λ n. written_arguments end ws >>= with_arguments n) (name_fits w)
    (λ n named. then_fits (λ x. Unit {0}) (λ u. is_name u.name ≡ true) (written_arguments end ws) (with_arguments n) (arguments_fit end ws) (λ p _. named))
