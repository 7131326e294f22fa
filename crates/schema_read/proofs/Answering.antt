-- What an answer says, from the reading of its text.
use Rattle.std.proofs.Common.{◌≡◌, ℕ, ◌++◌, true, List, [], ◌∷◌, refl, ap, sym, ◌∙◌, subst, Some, None, Ok, Err, inl, inr}
use Rattle.std.specs.Prelude.{Result, ◌⊎◌, IfOk, IsSome}
use Rattle.std.specs.List.{All}
use Rattle.std.proofs.lemmas.List.Sums.{AllPass-from_list_all}
use Rattle.dt_model.proofs.Booleans.{list_all-weaker, last_true}
use Rattle.std.proofs.lemmas.List.{append_assoc, append-nil, map-append}
use Rattle.dt_model.specs.declared.declared_tensors.Schema.{Schema}
use Rattle.dt_text.specs.declared.spans.Span.{Span}
use Rattle.dt_text.specs.Spans.{bytes_of}
use Rattle.schema_read.specs.declared.roles.Place.TheVariants as at
use Rattle.schema_read.specs.declared.read.SchemaFault.{SchemaFault}
use Rattle.schema_read.specs.declared.read.SchemaFault.TheVariants.{Form, Limit, NoMemory}
use Rattle.schema_read.specs.Tokens.{spans_of, token_of, tokens_in, tokens_of}
use Rattle.schema_read.specs.declared.scan.Counts.{Counts}
use Rattle.schema_read.specs.Scans.{nothing, count_tokens}
use Rattle.schema_read.specs.Building.{no_draft}
use Rattle.schema_read.specs.Grammar.{file_tokens, has_kind, are_linked, can_be_written, SchemaFile}
use Rattle.schema_read.specs.Reading.{schemas_in, AnswersReading}
use Rattle.schema_read.specs.Readings.{ReadsAs, Reads, AnswersSchemas, IsFormFaultAt, IsFormFaultAtEnd, IsLimitFaultAt, are_small}
use Rattle.schema_read.proofs.Machine.{run}
use Rattle.schema_read.proofs.Runs.{same_pair}
use Rattle.schema_read.proofs.Complete.{after_schemas, file_run, schemas_of-after_schemas}
use Rattle.schema_read.proofs.Tallies.{count_tokens-front}
use Rattle.schema_read.proofs.SchemaTallies.{are_small-file}
use Rattle.schema_read.proofs.Telling.{schemas_in-reads}

-- what an answer says of the text
pub answer_reads : (text : List ℕ) (r : Result (List Schema) SchemaFault) → AnswersReading (schemas_in text) r → Reads text r
answer_reads text (Ok ss) e = subst (Reads text) e (schemas_in-reads text)
answer_reads text (Err (Form l c)) e = subst (Reads text) e (schemas_in-reads text)
answer_reads text (Err (Limit l c)) e = subst (Reads text) e (schemas_in-reads text)
answer_reads text (Err NoMemory) e = tt

-- a text is a file in one way
pub one_file : (text : List ℕ) (xs ys : List Schema) → SchemaFile text xs → SchemaFile text ys → xs ≡ ys
one_file text xs ys h k =
    let left = ap (run at.Outside no_draft) (append-nil (file_tokens xs)) in
    let right = ap (run at.Outside no_draft) (append-nil (file_tokens ys)) in
    let same : Some (at.Outside, after_schemas no_draft xs) ≡ Some (at.Outside, after_schemas no_draft ys) =
    sym (file_run xs no_draft [] h.each) ∙ left ∙ ap (run at.Outside no_draft) (sym h.written ∙ k.written) ∙ sym right ∙ file_run ys no_draft [] k.each in
    let drafts : after_schemas no_draft xs ≡ after_schemas no_draft ys =
    ap (λ u. u.1) (same_pair (at.Outside, after_schemas no_draft xs) (at.Outside, after_schemas no_draft ys) same) in
    sym (schemas_of-after_schemas xs no_draft refl) ∙ ap (λ d. d.schemas) drafts ∙ schemas_of-after_schemas ys no_draft refl

-- the tokens of two parts of a text
tokens_of-split : (text : List ℕ) (front behind : List Span) (token : Span) → spans_of text ≡ front ++ token ∷ behind
    → tokens_in text (front ++ token ∷ []) ++ tokens_in text behind ≡ tokens_of text
tokens_of-split text front behind token split =
    sym (map-append (λ s. token_of (bytes_of text s)) (front ++ token ∷ []) behind)
    ∙ ap (tokens_in text) (append_assoc front (token ∷ []) behind ∙ sym split)

no_form : (text : List ℕ) (l c : ℕ) (ss : List Schema) → SchemaFile text ss → IsFormFaultAt text l c ⊎ IsFormFaultAtEnd text l c → ⊥
no_form text l c ss w (inl s) =
    s.stops (record {
      schemas = ss;
      more = tokens_in text s.behind;
      is = tokens_of-split text s.front s.behind s.token s.split ∙ w.written;
      each = w.each;
    })
no_form text l c ss w (inr e) = e.lacks ss w

no_limit : (text : List ℕ) (l c : ℕ) (ss : List Schema) → ReadsAs text ss → IsLimitFaultAt text l c → ⊥
no_limit text l c ss w s =
    let whole = tokens_of-split text s.front s.behind s.token s.split in
    let front : IsSome (count_tokens nothing (tokens_in text (s.front ++ s.token ∷ []))) =
    count_tokens-front (tokens_in text (s.front ++ s.token ∷ [])) (tokens_in text s.behind) nothing
    (subst (λ ts. IsSome (count_tokens nothing ts)) (sym whole) w.within) in
    let none : IsSome {T = Counts} None = subst IsSome s.exceeds front in
    absurd (cc)

-- the schemas of a text are answered
pub answer_gives : (text : List ℕ) (r : Result (List Schema) SchemaFault) → Reads text r → (ss : List Schema) → ReadsAs text ss → AnswersSchemas ss r
answer_gives text (Ok given) h ss w = one_file text given ss h.file w.file
answer_gives text (Err (Form l c)) h ss w = no_form text l c ss w.file h
answer_gives text (Err (Limit l c)) h ss w = no_limit text l c ss w h
answer_gives text (Err NoMemory) h ss w = tt

-- schemas that a text reads as are small
pub are_small-read : (text : List ℕ) (ss : List Schema) → ReadsAs text ss → are_small ss ≡ true
are_small-read text ss w = are_small-file ss (subst (λ ts. IsSome (count_tokens nothing ts)) w.file.written w.within)

-- answered schemas are small
pub answer_small : (text : List ℕ) (r : Result (List Schema) SchemaFault) → Reads text r → IfOk r (λ ss. are_small ss ≡ true)
answer_small text (Ok ss) h = are_small-read text ss h
answer_small text (Err e) h = tt

-- no kind of an answered schema is flat
pub answer_linked : (text : List ℕ) (r : Result (List Schema) SchemaFault) → Reads text r → IfOk r (λ ss. All (λ s. are_linked s.kinds.items ≡ true) ss)
answer_linked text (Ok ss) h =
    AllPass-from_list_all (λ s. are_linked s.kinds.items) ss
    (list_all-weaker can_be_written (λ s. are_linked s.kinds.items) ss (λ s e. last_true (has_kind s.kinds.items) (are_linked s.kinds.items) e) h.file.each)
answer_linked text (Err e) h = tt
