-- `.tns` texts: a line for each pair, or the first fault.
use Rattle.std.specs.Prelude.{ℕ, ◌+◌, ◌-◌, List, [], ◌∷◌, ◌++◌, length, Result, Ok, Err, ◌==◌, ◌||◌, ◌&&◌, not, if◌then◌else◌, nat_le}
use Rattle.dt_model.specs.Texts.{words_of, number_of}
use Rattle.dt_text.specs.Content.{content_lines, is_within_limit}
use Rattle.dt_text.specs.Numerals.{index_in_range}
use Rattle.dt_text.specs.Values.{value_of}
use Rattle.dt_text.specs.declared.numerals.IndexFault.{IndexFault}
use Rattle.dt_text.specs.declared.numerals.IndexFault.TheVariants as index
use Rattle.dt_text.specs.declared.values.NumFault.{NumFault}
use Rattle.dt_text.specs.declared.values.NumFault.TheVariants as number
use Rattle.tns_io.specs.declared.faults.FileCause.{FileCause}
use Rattle.tns_io.specs.declared.faults.FileCause.TheVariants as because
use Rattle.tns_io.specs.declared.faults.FileFault.{FileFault}
use Rattle.tns_io.specs.Faults.{fault_at}

-- ---- a word

-- a number from 1 to the dimension, counted from 0, or the fault
abbrev pub coordinate_from : ℕ → Result ℕ IndexFault → Result ℕ FileCause
coordinate_from dim (Ok n) = if nat_le 1 n && nat_le n dim then Ok (n - 1) else Err because.Range
coordinate_from dim (Err index.Form) = Err because.Form
coordinate_from dim (Err index.Range) = Err because.Range

-- the coordinate that a word writes in a mode of a dimension, or the word's fault
abbrev pub coordinate_of : ℕ → List ℕ → Result ℕ FileCause
coordinate_of dim word = coordinate_from dim (index_in_range (number_of word))

-- a value, or the fault in a file's words
abbrev pub number_from : Result ℕ NumFault → Result ℕ FileCause
number_from (Ok v) = Ok v
number_from (Err number.Form) = Err because.Form
number_from (Err number.NotWhole) = Err because.NotWhole
number_from (Err number.Range) = Err because.TooLarge

-- the value that a word writes, or the word's fault
abbrev pub number_at : List ℕ → Result ℕ FileCause
number_at word = number_from (value_of word)

-- ---- a line

-- a pair with coordinates in front
abbrev pub in_front : List ℕ → Result (List ℕ × ℕ) FileCause → Result (List ℕ × ℕ) FileCause
in_front at (Ok p) = Ok (at ++ p.0, p.1)
in_front at (Err cause) = Err cause

-- a pair of a coordinate and of what the later words have, or the coordinate's fault, which comes first
abbrev pub with_coordinate : Result ℕ FileCause → Result (List ℕ × ℕ) FileCause → Result (List ℕ × ℕ) FileCause
with_coordinate (Ok c) later = in_front (c ∷ []) later
with_coordinate (Err cause) later = Err cause

-- a pair of no coordinates and a value
abbrev pub without_coordinates : Result ℕ FileCause → Result (List ℕ × ℕ) FileCause
without_coordinates (Ok v) = Ok ([], v)
without_coordinates (Err cause) = Err cause

-- the pair of words, or their first fault: mode by mode, and then the value
abbrev pub pair_from : List ℕ → List (List ℕ) → Result (List ℕ × ℕ) FileCause
pair_from dims [] = Err because.Rank
pair_from [] (w ∷ ws) = without_coordinates (number_at w)
pair_from (d ∷ ds) (w ∷ ws) = with_coordinate (coordinate_of d w) (pair_from ds ws)

-- the pair of a line's words, of which there must be one for each mode and one for the value
abbrev pub pair_of : List ℕ → List (List ℕ) → Result (List ℕ × ℕ) FileCause
pair_of dims words = if length words == length dims + 1 then pair_from dims words else Err because.Rank

-- a word's fault where so many words are behind it as are wanted
abbrev pub cause_or_rank : FileCause → ℕ → ℕ → FileCause
cause_or_rank cause count wanted = if count == wanted then cause else because.Rank

-- ---- a text

-- pairs with others in front
abbrev pub with_front : List (List ℕ × ℕ) → Result (List (List ℕ × ℕ)) FileFault → Result (List (List ℕ × ℕ)) FileFault
with_front ps (Ok qs) = Ok (ps ++ qs)
with_front ps (Err fault) = Err fault

-- the pair of a line and those of the later lines, or the line's fault, which comes first
abbrev pub with_line : ℕ → Result (List ℕ × ℕ) FileCause → Result (List (List ℕ × ℕ)) FileFault → Result (List (List ℕ × ℕ)) FileFault
with_line line (Ok p) later = with_front (p ∷ []) later
with_line line (Err cause) later = Err (fault_at line cause)

-- the pairs of numbered lines, at most so many of at most `LINE_LIMIT` bytes, or the fault of the first faulty line
abbrev pub tns_from : List ℕ → ℕ → List (ℕ × List ℕ) → Result (List (List ℕ × ℕ)) FileFault
tns_from dims most [] = Ok []
tns_from dims most (l ∷ ls) =
    if (most == 0) || not (is_within_limit l.1)
    then Err (fault_at l.0 because.Limit)
    else with_line l.0 (pair_of dims (words_of l.1)) (tns_from dims (most - 1) ls)

-- the pairs of the lines of a text that aren't skipped, or the first fault
abbrev pub tns_of : List ℕ → ℕ → List ℕ → Result (List (List ℕ × ℕ)) FileFault
tns_of dims most text = tns_from dims most (content_lines text)
