-- The forms of a manifest's lines.
use Rattle.std.specs.Prelude.{ℕ, ◌-◌, ◌^◌, Bool, List, [], ◌∷◌, Option, Some, None, option_map, option_and_then, ◌&&◌, if◌then◌else◌, nat_le, codes, is_some}
use Rattle.std.specs.List.{list_all}
use Rattle.dt_model.specs.declared.limits.TheConstants.{MOST_TENSOR_LATCHES}
use Rattle.dt_model.specs.Names.{is_name}
use Rattle.dt_model.specs.Texts.{number_of}
use Rattle.dt_model.specs.FileNames.{is_file_name}
use Rattle.script_read.specs.Readings.{every, equals_text}
use Rattle.script_read.specs.declared.items.Item.TheVariants.{Schema, Tensor, Load, Session, Print}
use Rattle.script_read.specs.declared.item_lines.ItemLine.{ItemLine}
use Rattle.script_read.specs.declared.item_lines.ItemLine.TheVariants.{Whole, OutOfRange}

-- a word that is a name
abbrev pub name_in : List ℕ → Option (List ℕ)
name_in word = if is_name word then Some word else None

-- a word that is the name of a file
abbrev pub file_in : List ℕ → Option (List ℕ)
file_in word = if is_file_name word then Some word else None

-- whether a word is one or more digits
abbrev pub is_index : List ℕ → Bool
is_index word = is_some (number_of word)

-- a number from 1 to the most
abbrev pub up_to : ℕ → Option ℕ → Option ℕ
up_to most None = None
up_to most (Some n) = if nat_le 1 n && nat_le n most then Some n else None

-- the number of a word of digits, from 1 to the most
abbrev pub number_up_to : ℕ → List ℕ → Option ℕ
number_up_to most word = up_to most (number_of word)

-- the line of a tensor of which the numbers are in range, where they are
abbrev pub ranged : List ℕ → List (List ℕ) → Option (List ℕ) → Option ℕ → ItemLine
ranged name formats None latches = OutOfRange name
ranged name formats (Some dims) None = OutOfRange name
ranged name formats (Some dims) (Some latches) = Whole (Tensor name dims (record { items = formats }) latches)

-- a tensor's name, its dimensions and formats, and its latches, as words
abbrev pub tensor_line : List ℕ → List (List ℕ) → List (List ℕ) → List ℕ → Option ItemLine
tensor_line name dims formats latches = option_and_then (λ n. option_and_then (λ fs.
    if list_all is_index dims && is_index latches
    then Some (ranged n fs (every (number_up_to (2 ^ 32 - 1)) dims) (number_up_to MOST_TENSOR_LATCHES latches)) else None)
    (every name_in formats)) (name_in name)

-- a line that begins with `tensor`, has `as` before the formats and `latches` before their number
abbrev pub tensor_words : List ℕ → List ℕ → List (List ℕ) → List ℕ → List (List ℕ) → List ℕ → List ℕ → Option ItemLine
tensor_words verb name dims as_word formats latches_word latches =
    if equals_text (codes "tensor") verb && equals_text (codes "as") as_word && equals_text (codes "latches") latches_word
    then tensor_line name dims formats latches else None

-- `schema FILE`, `session FILE` or `print NAME`
abbrev pub two_words : List ℕ → List ℕ → Option ItemLine
two_words verb word =
    if equals_text (codes "schema") verb then option_map (λ file. Whole (Schema file)) (file_in word)
    else (if equals_text (codes "session") verb then option_map (λ file. Whole (Session file)) (file_in word)
    else (if equals_text (codes "print") verb then option_map (λ name. Whole (Print name)) (name_in word) else None))

-- `load NAME FILE`
abbrev pub three_words : List ℕ → List ℕ → List ℕ → Option ItemLine
three_words verb name file =
    if equals_text (codes "load") verb then option_and_then (λ n. option_map (λ f. Whole (Load n f)) (file_in file)) (name_in name) else None

-- the line of these words: `schema FILE`, `session FILE`, `print NAME`, `load NAME FILE`, or
-- `tensor NAME D.. as S.. latches L` with 1 to 5 dimensions and as many schemas
abbrev pub item_line : List (List ℕ) → Option ItemLine
item_line (v ∷ x ∷ []) = two_words v x
item_line (v ∷ x ∷ y ∷ []) = three_words v x y
item_line (v ∷ n ∷ d ∷ a ∷ s ∷ k ∷ l ∷ []) = tensor_words v n (d ∷ []) a (s ∷ []) k l
item_line (v ∷ n ∷ d ∷ e ∷ a ∷ s ∷ t ∷ k ∷ l ∷ []) = tensor_words v n (d ∷ e ∷ []) a (s ∷ t ∷ []) k l
item_line (v ∷ n ∷ d ∷ e ∷ f ∷ a ∷ s ∷ t ∷ u ∷ k ∷ l ∷ []) = tensor_words v n (d ∷ e ∷ f ∷ []) a (s ∷ t ∷ u ∷ []) k l
item_line (v ∷ n ∷ d ∷ e ∷ f ∷ g ∷ a ∷ s ∷ t ∷ u ∷ w ∷ k ∷ l ∷ []) = tensor_words v n (d ∷ e ∷ f ∷ g ∷ []) a (s ∷ t ∷ u ∷ w ∷ []) k l
item_line (v ∷ n ∷ d ∷ e ∷ f ∷ g ∷ h ∷ a ∷ s ∷ t ∷ u ∷ w ∷ x ∷ k ∷ l ∷ []) = tensor_words v n (d ∷ e ∷ f ∷ g ∷ h ∷ []) a (s ∷ t ∷ u ∷ w ∷ x ∷ []) k l
item_line words = None
