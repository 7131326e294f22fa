-- The updates that words write, or the column of the first fault of their form.
use Rattle.std.specs.Prelude.{ℕ, List, [], ◌∷◌, Result, Ok, Err, if◌then◌else◌}
use Rattle.dt_model.specs.declared.replies.Refusal.{Refusal}
use Rattle.dt_model.specs.declared.replies.Refusal.TheVariants.{Form}
use Rattle.dt_model.specs.declared.written.WrittenNumber.{WrittenNumber}
use Rattle.dt_model.specs.declared.written.WrittenNumber.TheVariants as number
use Rattle.dt_model.specs.declared.written.WrittenCoordinate.{WrittenCoordinate}
use Rattle.dt_model.specs.declared.written.WrittenCoordinate.TheVariants as coordinate
use Rattle.dt_model.specs.declared.written.UpdateKind.{UpdateKind}
use Rattle.dt_model.specs.declared.written.WrittenUpdate.{WrittenUpdate}
use Rattle.dt_model.specs.Names.{is_name}
use Rattle.dt_model.specs.Texts.{number_of}
use Rattle.dt_text.specs.Numerals.{index_in_range}
use Rattle.dt_text.specs.Values.{value_of}
use Rattle.dt_text.specs.declared.numerals.IndexFault.{IndexFault}
use Rattle.dt_text.specs.declared.numerals.IndexFault.TheVariants as index
use Rattle.dt_text.specs.declared.values.NumFault.{NumFault}
use Rattle.dt_text.specs.declared.values.NumFault.TheVariants as value
use Rattle.script_read.specs.Readings.{◌>>=◌}

-- ---- words, each with its column

-- a name
abbrev pub written_name : ℕ × List ℕ → Result (List ℕ) Refusal
written_name w = if is_name w.1 then Ok w.1 else Err (Form w.0)

-- the coordinate of an index, or that the word at this column is none
abbrev pub coordinate_at : ℕ → Result ℕ IndexFault → Result WrittenCoordinate Refusal
coordinate_at column (Ok n) = Ok (coordinate.Number n)
coordinate_at column (Err index.Range) = Ok coordinate.Huge
coordinate_at column (Err index.Form) = Err (Form column)

-- a coordinate: one or more digits, whose number may be out of every range
abbrev pub written_coordinate : ℕ × List ℕ → Result WrittenCoordinate Refusal
written_coordinate w = coordinate_at w.0 (index_in_range (number_of w.1))

-- the number of a value, or that the word at this column is none
abbrev pub number_at : ℕ → Result ℕ NumFault → Result WrittenNumber Refusal
number_at column (Ok v) = Ok (number.Whole v)
number_at column (Err value.NotWhole) = Ok number.Fraction
number_at column (Err value.Range) = Ok number.Huge
number_at column (Err value.Form) = Err (Form column)

-- a number: a value numeral, which may be no whole number or be out of range
abbrev pub written_number : ℕ × List ℕ → Result WrittenNumber Refusal
written_number w = number_at w.0 (value_of w.1)

-- ---- words one behind another; a missing word would stand at the column `end`

-- `C1 .. Cr`
abbrev pub written_coordinates : List (ℕ × List ℕ) → Result (List WrittenCoordinate) Refusal
written_coordinates [] = Ok []
written_coordinates (w ∷ ws) = written_coordinate w >>= (λ c. written_coordinates ws >>= (λ cs. Ok (c ∷ cs)))

-- coordinates and a number, with one coordinate more in front
abbrev pub with_coordinate : WrittenCoordinate → List WrittenCoordinate × WrittenNumber → List WrittenCoordinate × WrittenNumber
with_coordinate c p = (c ∷ p.0, p.1)

-- `C1 .. Cr VALUE`
abbrev pub written_arguments : ℕ → List (ℕ × List ℕ) → Result (List WrittenCoordinate × WrittenNumber) Refusal
written_arguments end [] = Err (Form end)
written_arguments end (v ∷ []) = written_number v >>= (λ n. Ok ([], n))
written_arguments end (c ∷ w ∷ ws) = written_coordinate c >>= (λ x. written_arguments end (w ∷ ws) >>= (λ p. Ok (with_coordinate x p)))

-- `NAME C1 .. Cr VALUE`
abbrev pub written_update : UpdateKind → ℕ → List (ℕ × List ℕ) → Result WrittenUpdate Refusal
written_update kind end [] = Err (Form end)
written_update kind end (w ∷ ws) = written_name w >>= (λ n. written_arguments end ws >>= (λ p.
    Ok (record { kind = kind; name = n; coordinates = p.0; number = p.1 })))
