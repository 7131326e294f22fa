-- What is read of a text, and its first fault, in the grammar's words.
use Rattle.std.proofs.Common.{◌≡◌, ℕ, ◌++◌, Bool, true, false, cond, List, [], ◌∷◌, refl, ap, sym, ◌∙◌, subst, Option, Some, None, Ok, Err, inl, inr}
use Rattle.std.proofs.lemmas.List.{append_assoc, append-nil}
use Rattle.dt_text.specs.declared.spans.Span.{Span}
use Rattle.dt_text.specs.Spans.{bytes_of}
use Rattle.schema_read.specs.declared.roles.Place.{Place}
use Rattle.schema_read.specs.declared.roles.Place.TheVariants as at
use Rattle.schema_read.specs.declared.roles.Role.{Role}
use Rattle.schema_read.specs.declared.draft.Draft.{Draft}
use Rattle.schema_read.specs.declared.scan.Counts.{Counts}
use Rattle.schema_read.specs.declared.scan.Fault.TheVariants as because
use Rattle.schema_read.specs.Tokens.{spans_of, token_of, tokens_in, tokens_of}
use Rattle.schema_read.specs.Roles.{role_of}
use Rattle.schema_read.specs.Scans.{nothing, count_token, count_tokens, is_end, step_as}
use Rattle.schema_read.specs.Building.{no_draft, with_role}
use Rattle.schema_read.specs.Grammar.{file_tokens}
use Rattle.schema_read.specs.Places.{text_end}
use Rattle.schema_read.specs.Reading.{fault_at, read_from, reading_or, schemas_in}
use Rattle.schema_read.specs.Readings.{Reads}
use Rattle.schema_read.proofs.Machine.{go, run}
use Rattle.schema_read.proofs.Sound.{Stands}
use Rattle.schema_read.proofs.Complete.{after_schemas, file_run}
use Rattle.schema_read.proofs.Runs.{same_pair, stands-begins, stops-begins}
use Rattle.schema_read.proofs.Reached.{Reached, run-more, count-more, is_some, stands-more}

-- ---- the end

-- where nothing is open, everything has been read
is_outside : (p : Place) → is_end p ≡ true → p ≡ at.Outside
is_outside at.Outside e = refl
is_outside p e = absurd (differ e) where
  differ : false ≡ true → ⊥
  differ d = cc

told_whole : (text : List ℕ) (d : Draft) (c : Counts) → Reached text (spans_of text) at.Outside d c → Reads text (Ok d.schemas)
told_whole text d c h = record {
  file = record { written = h.stands.holds; each = h.stands.good.each };
  within = is_some (count_tokens nothing (tokens_of text)) c h.counted;
}

told_at_end : (text : List ℕ) (p : Place) (d : Draft) (c : Counts) (b : Bool) → Reached text (spans_of text) p d c → is_end p ≡ b
    → Reads text (cond b (Ok d.schemas) (Err (fault_at text because.Form (text_end text))))
told_at_end text p d c true h e = told_whole text d c (subst (λ q. Reached text (spans_of text) q d c) (is_outside p e) h)
told_at_end text p d c false h e =
    inr (record {
      there = record { line_is = refl; column_is = refl };
      begins = stands-begins p d (tokens_of text) h.stands;
      within = is_some (count_tokens nothing (tokens_of text)) c h.counted;
      lacks = λ ss w.
          let goes : run at.Outside no_draft (tokens_of text) ≡ Some (at.Outside, after_schemas no_draft ss) =
          ap (run at.Outside no_draft) (w.written ∙ sym (append-nil (file_tokens ss))) ∙ file_run ss no_draft [] w.each in
          let same : Some (p, d) ≡ Some (at.Outside, after_schemas no_draft ss) = sym h.goes ∙ goes in
          let place : p ≡ at.Outside = ap (λ u. u.0) (same_pair (p, d) (at.Outside, after_schemas no_draft ss) same) in
          let ends : false ≡ true = sym e ∙ ap is_end place in
          absurd (cc);
    })

-- ---- each token

told_form : (text : List ℕ) (front : List Span) (x : Span) (xs : List Span) (p : Place) (d : Draft) (c : Counts) → Reached text front p d c
    → spans_of text ≡ front ++ x ∷ xs → role_of p (token_of (bytes_of text x)) ≡ None → Reads text (Err (fault_at text because.Form x.from))
told_form text front x xs p d c h split e =
    inl (record {
      front = front;
      token = x;
      behind = xs;
      split = split;
      there = record { line_is = refl; column_is = refl };
      begins = stands-begins p d (tokens_in text front) h.stands;
      within = is_some (count_tokens nothing (tokens_in text front)) c h.counted;
      stops = stops-begins (tokens_in text (front ++ x ∷ [])) (run-more text front x p d c h ∙ ap (go d) e);
    })

told_limit : (text : List ℕ) (front : List Span) (x : Span) (xs : List Span) (p : Place) (d : Draft) (c : Counts) (r : Role × Place) → Reached text front p d c
    → spans_of text ≡ front ++ x ∷ xs → role_of p (token_of (bytes_of text x)) ≡ Some r → count_token c (token_of (bytes_of text x)) ≡ None
    → Reads text (Err (fault_at text because.Limit x.from))
told_limit text front x xs p d c r h split e f = record {
  front = front;
  token = x;
  behind = xs;
  split = split;
  there = record { line_is = refl; column_is = refl };
  begins = stands-begins r.1 (with_role d r.0) (tokens_in text (front ++ x ∷ [])) (stands-more text front x p r.1 d (with_role d r.0) c h (ap (go d) e));
  within = is_some (count_tokens nothing (tokens_in text front)) c h.counted;
  exceeds = count-more text front x p d c h ∙ f;
}

reach-more : (text : List ℕ) (front : List Span) (x : Span) (p : Place) (d : Draft) (c e : Counts) (r : Role × Place) → Reached text front p d c
    → role_of p (token_of (bytes_of text x)) ≡ Some r → count_token c (token_of (bytes_of text x)) ≡ Some e
    → Reached text (front ++ x ∷ []) r.1 (with_role d r.0) e
reach-more text front x p d c e r h f g = record {
  goes = run-more text front x p d c h ∙ ap (go d) f;
  stands = stands-more text front x p r.1 d (with_role d r.0) c h (ap (go d) f);
  counted = count-more text front x p d c h ∙ g;
}

-- what one step says, where the rest is told
told_by : (text : List ℕ) (front : List Span) (x : Span) (xs : List Span) (p : Place) (d : Draft) (c : Counts) (o : Option (Role × Place)) (m : Option Counts)
    → Reached text front p d c → spans_of text ≡ front ++ x ∷ xs → role_of p (token_of (bytes_of text x)) ≡ o → count_token c (token_of (bytes_of text x)) ≡ m
    → ((q : Place) (e : Draft) (k : Counts) → Reached text (front ++ x ∷ []) q e k → Reads text (read_from text (record { place = q; counts = k }) e xs))
    → Reads text (reading_or text x.from (step_as o m) (λ r role. read_from text r (with_role d role) xs))
told_by text front x xs p d c None m h split e f more = told_form text front x xs p d c h split e
told_by text front x xs p d c (Some r) None h split e f more = told_limit text front x xs p d c r h split e f
told_by text front x xs p d c (Some r) (Some k) h split e f more = more r.1 (with_role d r.0) k (reach-more text front x p d c k r h e f)

told_from : (xs : List Span) (text : List ℕ) (front : List Span) (p : Place) (d : Draft) (c : Counts) → Reached text front p d c
    → spans_of text ≡ front ++ xs → Reads text (read_from text (record { place = p; counts = c }) d xs)
told_from [] text front p d c h split =
    told_at_end text p d c (is_end p) (subst (λ ys. Reached text ys p d c) (sym (split ∙ append-nil front)) h) refl
told_from (x ∷ xs) text front p d c h split =
    let t = token_of (bytes_of text x) in
    told_by text front x xs p d c (role_of p t) (count_token c t) h split refl refl
    (λ q e k r. told_from xs text (front ++ x ∷ []) q e k r (split ∙ sym (append_assoc front (x ∷ []) xs)))

-- what is read of a text, in the grammar's own words
pub schemas_in-reads : (text : List ℕ) → Reads text (schemas_in text)
schemas_in-reads text =
    let bare : Stands at.Outside no_draft [] = record { good = record { each = refl; none = refl }; holds = refl } in
    told_from (spans_of text) text [] at.Outside no_draft nothing (record { goes = refl; stands = bare; counted = refl }) refl
