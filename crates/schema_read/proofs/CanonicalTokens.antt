-- The canonical text of schemas has their tokens.
use Rattle.std.proofs.Common.{◌≡◌, ℕ, ◌++◌, List, [], ◌∷◌, refl, ap, sym, ◌∙◌}
use Rattle.std.specs.Prelude.{codes}
use Rattle.std.specs.Fmt.{decimal}
use Rattle.std.specs.List.{flat_map}
use Rattle.std.proofs.lemmas.List.{append_assoc}
use Rattle.dt_model.specs.declared.declared_tensors.Links.{Links}
use Rattle.dt_model.specs.declared.declared_tensors.Links.TheVariants as link
use Rattle.dt_model.specs.declared.declared_tensors.Kind.{Kind}
use Rattle.dt_model.specs.declared.declared_tensors.Schema.{Schema}
use Rattle.schema_read.specs.declared.lexer.Token.TheVariants as a
use Rattle.schema_read.specs.Tokens.{tokens_of}
use Rattle.schema_read.specs.Grammar.{links_tokens, kind_tokens, schema_tokens, file_tokens}
use Rattle.schema_read.specs.Canonical.{links_text, kind_text, canonical_text, canonical_texts}
use Rattle.schema_read.proofs.GoodTokens.{AreGood, AreGood-front, AreGood-rest}
use Rattle.schema_read.proofs.TokenWords.{Stops, tokens_of-name, tokens_of-number}
use Rattle.schema_read.proofs.FixedWords.{schema_word, node_word, root_word, run_word, points_word, post_word, pre_word, woven_word}
use Rattle.schema_read.proofs.FixedWords.{close_line, open_line, last_line}

-- ---- kinds

ends_split : (p q rest : List ℕ) → (codes " pre " ++ p ++ codes " post " ++ q) ++ 32 ∷ rest ≡ codes " pre " ++ (p ++ (codes " post " ++ (q ++ 32 ∷ rest)))
ends_split p q rest = simp append_assoc refl

-- links before a blank, where their names are free
links_lexed : (l : Links) (rest : List ℕ) → AreGood (links_tokens l) → tokens_of (links_text l ++ 32 ∷ rest) ≡ links_tokens l ++ tokens_of (32 ∷ rest)
links_lexed link.Flat rest h = refl
links_lexed (link.Post p) rest h =
    post_word (p ++ 32 ∷ rest) ∙ ap (λ ts. a.Post ∷ ts) (tokens_of-name p (32 ∷ rest) h.1.0 refl)
links_lexed (link.Ends p q) rest h =
    ap tokens_of (ends_split p q rest)
    ∙ pre_word (p ++ (codes " post " ++ (q ++ 32 ∷ rest)))
    ∙ ap (λ ts. a.Pre ∷ ts) (tokens_of-name p (codes " post " ++ (q ++ 32 ∷ rest)) h.1.0 refl)
    ∙ ap (λ ts. a.Pre ∷ a.Name p ∷ ts) (post_word (q ++ 32 ∷ rest))
    ∙ ap (λ ts. a.Pre ∷ a.Name p ∷ a.Post ∷ ts) (tokens_of-name q (32 ∷ rest) h.1.1.1.0 refl)
links_lexed link.Woven rest h = woven_word rest

-- what follows the upper bound stops it
links_stop : (l : Links) (rest : List ℕ) → Stops (links_text l ++ 32 ∷ rest)
links_stop link.Flat rest = refl
links_stop (link.Post p) rest = refl
links_stop (link.Ends p q) rest = refl
links_stop link.Woven rest = refl

-- the line of a kind before what follows, from its parts
line_split : (name lo hi links rest : List ℕ)
    → (codes "  node " ++ name ++ codes " { run " ++ lo ++ codes ".." ++ hi ++ links ++ codes " }" ++ 10 ∷ []) ++ rest
    ≡ codes "  node " ++ (name ++ (codes " { run " ++ (lo ++ (codes ".." ++ (hi ++ (links ++ (codes " }" ++ 10 ∷ rest)))))))
line_split name lo hi links rest = simp append_assoc refl

-- a kind's line
kind_lexed : (k : Kind) (rest : List ℕ) → AreGood (kind_tokens k) → tokens_of (kind_text k ++ rest) ≡ kind_tokens k ++ tokens_of rest
kind_lexed k rest h =
    let good = h.1.1.1.1 in
    let links : AreGood (links_tokens k.links) = AreGood-front (links_tokens k.links) (a.Close ∷ []) good.1.1.1 in
    let tail : List ℕ = links_text k.links ++ (codes " }" ++ 10 ∷ rest) in
    let high : List ℕ = codes ".." ++ (decimal k.hi ++ tail) in
    ap tokens_of (line_split k.name (decimal k.lo) (decimal k.hi) (links_text k.links) rest)
    ∙ node_word (k.name ++ (codes " { run " ++ (decimal k.lo ++ high)))
    ∙ ap (λ ts. a.Node ∷ ts) (tokens_of-name k.name (codes " { run " ++ (decimal k.lo ++ high)) h.1.0 refl)
    ∙ ap (λ ts. a.Node ∷ a.Name k.name ∷ ts) (run_word (decimal k.lo ++ high))
    ∙ ap (λ ts. a.Node ∷ a.Name k.name ∷ a.Open ∷ a.Run ∷ ts) (tokens_of-number k.lo high good.0 refl ∙ ap (λ ts. a.Number k.lo ∷ ts)
    (points_word (decimal k.hi ++ tail) ∙ ap (λ ts. a.Points ∷ ts) (tokens_of-number k.hi tail good.1.1.0 (links_stop k.links (125 ∷ 10 ∷ rest))
    ∙ ap (λ ts. a.Number k.hi ∷ ts) (links_lexed k.links (125 ∷ 10 ∷ rest) links
    ∙ ap (λ ts. links_tokens k.links ++ ts) (close_line rest)
    ∙ sym (append_assoc (links_tokens k.links) (a.Close ∷ []) (tokens_of rest))))))

kinds_lexed : (ks : List Kind) (rest : List ℕ) → AreGood (flat_map kind_tokens ks)
    → tokens_of (flat_map kind_text ks ++ rest) ≡ flat_map kind_tokens ks ++ tokens_of rest
kinds_lexed [] rest h = refl
kinds_lexed (k ∷ ks) rest h =
    ap tokens_of (append_assoc (kind_text k) (flat_map kind_text ks) rest)
    ∙ kind_lexed k (flat_map kind_text ks ++ rest) (AreGood-front (kind_tokens k) (flat_map kind_tokens ks) h)
    ∙ ap (λ ts. kind_tokens k ++ ts) (kinds_lexed ks rest (AreGood-rest (kind_tokens k) (flat_map kind_tokens ks) h))
    ∙ sym (append_assoc (kind_tokens k) (flat_map kind_tokens ks) (tokens_of rest))

-- ---- schemas

text_split : (name kinds root rest : List ℕ)
    → (codes "schema " ++ name ++ codes " {" ++ 10 ∷ kinds ++ codes "  root " ++ root ++ 10 ∷ codes "}" ++ 10 ∷ []) ++ rest
    ≡ codes "schema " ++ (name ++ (codes " {" ++ 10 ∷ (kinds ++ (codes "  root " ++ (root ++ 10 ∷ 125 ∷ 10 ∷ rest)))))
text_split name kinds root rest = simp append_assoc refl

schema_lexed : (s : Schema) (rest : List ℕ) → AreGood (schema_tokens s) → tokens_of (canonical_text s ++ rest) ≡ schema_tokens s ++ tokens_of rest
schema_lexed s rest h =
    let kinds = flat_map kind_tokens s.kinds.items in
    let end : List ℕ = codes "  root " ++ (s.root ++ 10 ∷ 125 ∷ 10 ∷ rest) in
    let root = AreGood-rest kinds (a.Root ∷ a.Name s.root ∷ a.Close ∷ []) h.1.1.1 in
    ap tokens_of (text_split s.name (flat_map kind_text s.kinds.items) s.root rest)
    ∙ schema_word (s.name ++ (codes " {" ++ 10 ∷ (flat_map kind_text s.kinds.items ++ end)))
    ∙ ap (λ ts. a.Schema ∷ ts) (tokens_of-name s.name (codes " {" ++ 10 ∷ (flat_map kind_text s.kinds.items ++ end)) h.1.0 refl)
    ∙ ap (λ ts. a.Schema ∷ a.Name s.name ∷ ts) (open_line (flat_map kind_text s.kinds.items ++ end))
    ∙ ap (λ ts. a.Schema ∷ a.Name s.name ∷ a.Open ∷ ts)
    (kinds_lexed s.kinds.items end (AreGood-front kinds (a.Root ∷ a.Name s.root ∷ a.Close ∷ []) h.1.1.1)
    ∙ ap (λ ts. kinds ++ ts) (root_word (s.root ++ 10 ∷ 125 ∷ 10 ∷ rest) ∙ ap (λ ts. a.Root ∷ ts)
    (tokens_of-name s.root (10 ∷ 125 ∷ 10 ∷ rest) root.1.0 refl ∙ ap (λ ts. a.Name s.root ∷ ts) (last_line rest)))
    ∙ sym (append_assoc kinds (a.Root ∷ a.Name s.root ∷ a.Close ∷ []) (tokens_of rest)))

-- the canonical texts of schemas whose names are free and whose numbers are below 10^9 have their tokens
pub tokens_of-canonical_texts : (ss : List Schema) → AreGood (file_tokens ss) → tokens_of (canonical_texts ss) ≡ file_tokens ss
tokens_of-canonical_texts [] h = refl
tokens_of-canonical_texts (s ∷ ss) h =
    schema_lexed s (canonical_texts ss) (AreGood-front (schema_tokens s) (file_tokens ss) h)
    ∙ ap (λ ts. schema_tokens s ++ ts) (tokens_of-canonical_texts ss (AreGood-rest (schema_tokens s) (file_tokens ss) h))
