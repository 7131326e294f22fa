-- What is known behind the first tokens of a text.
use Rattle.std.proofs.Common.{◌≡◌, ℕ, ◌++◌, List, [], ◌∷◌, refl, ap, sym, ◌∙◌, subst, Option, Some, None}
use Rattle.std.specs.Prelude.{IsSome}
use Rattle.std.specs.Option.{option_and_then}
use Rattle.dt_text.specs.declared.spans.Span.{Span}
use Rattle.dt_text.specs.Spans.{bytes_of}
use Rattle.schema_read.specs.declared.roles.Place.{Place}
use Rattle.schema_read.specs.declared.roles.Place.TheVariants as at
use Rattle.schema_read.specs.declared.draft.Draft.{Draft}
use Rattle.schema_read.specs.declared.scan.Counts.{Counts}
use Rattle.schema_read.specs.Tokens.{token_of, tokens_in}
use Rattle.schema_read.specs.Roles.{role_of}
use Rattle.schema_read.specs.Scans.{nothing, count_token, count_tokens}
use Rattle.schema_read.specs.Building.{no_draft}
use Rattle.schema_read.proofs.Machine.{go, run}
use Rattle.schema_read.proofs.Sound.{Stands}
use Rattle.schema_read.proofs.Runs.{run-append, run-stands}
use Rattle.schema_read.proofs.Tallies.{count_tokens-append}

-- ---- one more token

tokens_in-more : (text : List ℕ) (front : List Span) (x : Span) → tokens_in text (front ++ x ∷ []) ≡ tokens_in text front ++ token_of (bytes_of text x) ∷ []
tokens_in-more text [] x = refl
tokens_in-more text (y ∷ ys) x = ap (λ ts. token_of (bytes_of text y) ∷ ts) (tokens_in-more text ys x)

same_run : (o : Option (Place × Draft)) → option_and_then (λ u. run u.0 u.1 []) o ≡ o
same_run None = refl
same_run (Some r) = refl

same_count : (o : Option Counts) → option_and_then (λ c. count_tokens c []) o ≡ o
same_count None = refl
same_count (Some c) = refl

-- what is known behind some tokens
pub record Reached (text : List ℕ) (front : List Span) (p : Place) (d : Draft) (c : Counts) : Type 0 where
  pub goes : run at.Outside no_draft (tokens_in text front) ≡ Some (p, d)
  pub stands : Stands p d (tokens_in text front)
  pub counted : count_tokens nothing (tokens_in text front) ≡ Some c

-- a run that goes on by one token
pub run-more : (text : List ℕ) (front : List Span) (x : Span) (p : Place) (d : Draft) (c : Counts) → Reached text front p d c
    → run at.Outside no_draft (tokens_in text (front ++ x ∷ [])) ≡ go d (role_of p (token_of (bytes_of text x)))
run-more text front x p d c h =
    let t = token_of (bytes_of text x) in
    ap (run at.Outside no_draft) (tokens_in-more text front x)
    ∙ run-append (tokens_in text front) (t ∷ []) at.Outside no_draft
    ∙ ap (option_and_then (λ u. run u.0 u.1 (t ∷ []))) h.goes
    ∙ same_run (go d (role_of p t))

-- a count that goes on by one token
pub count-more : (text : List ℕ) (front : List Span) (x : Span) (p : Place) (d : Draft) (c : Counts) → Reached text front p d c
    → count_tokens nothing (tokens_in text (front ++ x ∷ [])) ≡ count_token c (token_of (bytes_of text x))
count-more text front x p d c h =
    let t = token_of (bytes_of text x) in
    ap (count_tokens nothing) (tokens_in-more text front x)
    ∙ count_tokens-append (tokens_in text front) (t ∷ []) nothing
    ∙ ap (option_and_then (λ e. count_tokens e (t ∷ []))) h.counted
    ∙ same_count (count_token c t)

-- what is there is some
pub is_some : {A : Type 0} (o : Option A) (x : A) → o ≡ Some x → IsSome o
is_some o x e = subst IsSome (sym e) refl

-- where a run goes on, its tokens stand
pub stands-more : (text : List ℕ) (front : List Span) (x : Span) (p q : Place) (d e : Draft) (c : Counts) → Reached text front p d c
    → go d (role_of p (token_of (bytes_of text x))) ≡ Some (q, e) → Stands q e (tokens_in text (front ++ x ∷ []))
stands-more text front x p q d e c h f =
    let t = token_of (bytes_of text x) in
    let goes : run p d (t ∷ []) ≡ Some (q, e) = same_run (go d (role_of p t)) ∙ f in
    subst (Stands q e) (sym (tokens_in-more text front x)) (run-stands (t ∷ []) (tokens_in text front) p q d e h.stands goes)
