-- Canonical texts are read as the schemas that they were written from.
use Rattle.std.proofs.Common.{◌≡◌, ℕ, ◌++◌, Bool, true, List, [], ◌∷◌, length, refl, ap, sym, ◌∙◌, subst}
use Rattle.std.specs.Prelude.{IsSome, nat_le}
use Rattle.std.specs.List.{list_all}
use Rattle.std.proofs.lemmas.List.{append-nil}
use Rattle.std.proofs.lemmas.Grind.{flat_map-append}
use Rattle.std.proofs.lemmas.List.Folds.{list_all-append}
use Rattle.dt_model.specs.declared.declared_tensors.Schema.{Schema}
use Rattle.dt_model.proofs.Booleans.{both_true, true_both, first_true, last_true}
use Rattle.schema_read.specs.Tokens.{tokens_of}
use Rattle.schema_read.specs.Scans.{nothing, count_tokens}
use Rattle.schema_read.specs.Grammar.{schema_tokens, file_tokens, can_be_written}
use Rattle.schema_read.specs.Readings.{ReadsAs, are_small}
use Rattle.schema_read.specs.Canonical.{canonical_text, canonical_texts}
use Rattle.schema_read.proofs.SchemaTallies.{has_few_kinds, file-are_small}
use Rattle.schema_read.proofs.Answering.{are_small-read}
use Rattle.schema_read.proofs.GoodTokens.{AreGood, AreGood-front, AreGood-rest, AreGood-tokens_of}
use Rattle.schema_read.proofs.CanonicalTokens.{tokens_of-canonical_texts}

-- the tokens of schemas that some text declares
good_file : (text : List ℕ) (ss : List Schema) → ReadsAs text ss → AreGood (file_tokens ss)
good_file text ss h = subst AreGood h.file.written (AreGood-tokens_of text)

-- the canonical texts of the schemas of some text, one after the other, are read as these schemas
pub ReadsAs-canonical_texts : (text : List ℕ) (ss : List Schema) → ReadsAs text ss → ReadsAs (canonical_texts ss) ss
ReadsAs-canonical_texts text ss h =
    let written = tokens_of-canonical_texts ss (good_file text ss h) in
    record {
      file = record { written = written; each = h.file.each };
      within = subst (λ ts. IsSome (count_tokens nothing ts)) (h.file.written ∙ sym written) h.within;
    }

-- the tests of the schema between two lists of schemas
between : (p : Schema → Bool) (front behind : List Schema) (s : Schema) → list_all p (front ++ s ∷ behind) ≡ true → list_all p (s ∷ []) ≡ true
between p front behind s h =
    let both = both_true (list_all p front) (list_all p (s ∷ behind)) (sym (list_all-append p front (s ∷ behind)) ∙ h) in
    true_both (p s) true (first_true (p s) (list_all p behind) both.1) refl

-- if some text declares a schema, its canonical text is read as the schema alone
pub ReadsAs-canonical_text : (text : List ℕ) (front behind : List Schema) (s : Schema) → ReadsAs text (front ++ s ∷ behind)
    → ReadsAs (canonical_text s) (s ∷ [])
ReadsAs-canonical_text text front behind s h =
    let ss = front ++ s ∷ behind in
    let all : AreGood (file_tokens front ++ (schema_tokens s ++ file_tokens behind)) =
    subst AreGood (flat_map-append schema_tokens front (s ∷ behind)) (good_file text ss h) in
    let rest = AreGood-rest (file_tokens front) (schema_tokens s ++ file_tokens behind) all in
    let one : AreGood (file_tokens (s ∷ [])) = subst AreGood (sym (append-nil (schema_tokens s))) (AreGood-front (schema_tokens s) (file_tokens behind) rest) in
    let written : tokens_of (canonical_text s) ≡ file_tokens (s ∷ []) =
    ap tokens_of (sym (append-nil (canonical_text s))) ∙ tokens_of-canonical_texts (s ∷ []) one in
    let few : list_all has_few_kinds (s ∷ []) ≡ true =
    between has_few_kinds front behind s (last_true (nat_le (length ss) 16) (list_all has_few_kinds ss) (are_small-read text ss h)) in
    let small : are_small (s ∷ []) ≡ true = few in
    record {
      file = record { written = written; each = between can_be_written front behind s h.file.each };
      within = subst (λ ts. IsSome (count_tokens nothing ts)) (sym written) (file-are_small (s ∷ []) small);
    }
