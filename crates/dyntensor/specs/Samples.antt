-- What `sample` prints of a number, and why it ends otherwise.
use Rattle.std.specs.Prelude.{ℕ, ◌≡◌, ◌%◌, ◌^◌, List, [], ◌∷◌, length, sum_by, Option, Some, None, codes, ◌⊎◌}
use Rattle.std.specs.Fmt.{decimal}
use Rattle.dt_model.specs.Statements.{all_below, nonzeros}
use Rattle.dt_model.specs.Tensors.{dims_of}
use Rattle.dt_model.specs.Texts.{text_of, value_word}
use Rattle.sample_world.specs.Sample.{sample_contents, sample_decls}
use Rattle.dyntensor.specs.declared.outcomes.Outcome.{Outcome}
use Rattle.dyntensor.specs.declared.outcomes.Outcome.TheVariants.{Report, Usage, Breaches, Refused, Unfetched, OutOfMemory}

-- ---- the text

-- the nonzeros of the sample's tensor once every call was made
unfoldable pub sample_nonzeros : ℕ → List (List ℕ × ℕ)
sample_nonzeros n = nonzeros (sample_contents n 0) (all_below (dims_of sample_decls 0))

-- the sum of their values modulo 2^64
abbrev pub sum_of : List (List ℕ × ℕ) → ℕ
sum_of pairs = sum_by (λ p. p.1) pairs % 2 ^ 64

-- the rows `sample N`, `count C` and `sum V`
abbrev pub sample_rows : ℕ → List (List ℕ × ℕ) → List (List (List ℕ))
sample_rows n pairs = (codes "sample" ∷ decimal n ∷ []) ∷ (codes "count" ∷ decimal (length pairs) ∷ []) ∷ (codes "sum" ∷ value_word (sum_of pairs) ∷ []) ∷ []

-- the number, how many nonzeros there are, and their sum
abbrev pub sample_text : ℕ → List ℕ
sample_text n = text_of (sample_rows n (sample_nonzeros n))

-- ---- the cause of an outcome

-- the cause of an outcome, where the words have a number: the text, or out of memory
abbrev pub HasSampleCauseIn : ℕ → Outcome → Type 0
HasSampleCauseIn n (Report text) = text.items ≡ sample_text n
HasSampleCauseIn n Usage = ⊥
HasSampleCauseIn n (Breaches text) = ⊥
HasSampleCauseIn n (Refused fault) = ⊥
HasSampleCauseIn n (Unfetched file) = ⊥
HasSampleCauseIn n OutOfMemory = Unit {0}

-- the cause of an outcome, by the number that the words have, if they do
abbrev pub HasSampleCause : Option ℕ → Outcome → Type 0
HasSampleCause None outcome = outcome ≡ Usage
HasSampleCause (Some n) outcome = HasSampleCauseIn n outcome

-- the status is that of the text, of the usage line, of a sink that failed, or of a call out of memory
abbrev pub IsSampleStatus : ℕ → Type 0
IsSampleStatus status = (status ≡ 0) ⊎ (status ≡ 1) ⊎ (status ≡ 4) ⊎ (status ≡ 5)
