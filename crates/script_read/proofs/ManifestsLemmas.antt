-- The items of a manifest, one by one.
use Rattle.std.proofs.Common.{◌≡◌, ◌++◌, true, false, Bool, List, [], ◌∷◌, ℕ, Some, None, Result, Ok, Err, refl, sym, ap, subst, ◌∙◌, arith}
use Rattle.std.specs.Prelude.{fold, not, ok_or, ◌==◌}
use Rattle.std.proofs.lemmas.Bool.Decides.{nat_tests}
use Rattle.dt_model.specs.Texts.{words_of}
use Rattle.dt_text.specs.Content.{content_lines, is_within_limit}
use Rattle.tns_io.specs.declared.faults.FileCause.{FileCause}
use Rattle.tns_io.specs.declared.faults.FileCause.TheVariants as because
use Rattle.tns_io.specs.declared.faults.FileFault.{FileFault}
use Rattle.tns_io.specs.Faults.{fault_at}
use Rattle.script_read.specs.declared.items.Item.{Item}
use Rattle.script_read.specs.declared.items.Item.TheVariants.{Schema, Tensor, Load, Session, Print}
use Rattle.script_read.specs.declared.item_lines.ItemLine.{ItemLine}
use Rattle.script_read.specs.declared.item_lines.ItemLine.TheVariants.{Whole, OutOfRange}
use Rattle.script_read.specs.declared.declarations.Declared.{Declared}
use Rattle.script_read.specs.Readings.{◌>>=◌, check, at_line, each_after}
use Rattle.script_read.specs.ManifestLines.{item_line}
use Rattle.script_read.specs.Manifests.{nothing, declared_with, declared_by, is_declared, is_in_order, is_known, is_new, in_range, is_within_limits, item_in_turn, item_after, numbered_item, manifest_of}
use Rattle.script_read.specs.Sound.{IsSoundLine, IsSoundItem, MayAsk, AreSound}
use Rattle.script_read.proofs.ReadingsLemmas.{IfSome-at, check-Ok, Ok-same, Err-Ok, each_after-keeps}
use Rattle.script_read.proofs.ManifestLinesLemmas.{item_line-sound}

-- what is declared with one item more
pub declared_by-push : (items : List (ℕ × Item)) (p : ℕ × Item) → declared_by (items ++ p ∷ []) ≡ declared_with (declared_by items) p.1
declared_by-push items p = go nothing items p
  where
    go : (d : Declared) (items : List (ℕ × Item)) (p : ℕ × Item)
        → fold (λ d p. declared_with d p.1) d (items ++ p ∷ []) ≡ declared_with (fold (λ d p. declared_with d p.1) d items) p.1
    go d [] p = refl
    go d (q ∷ items) p = go (declared_with d q.1) items p

-- one line more has its item
pub items-push : (items more : List (ℕ × Item)) (d : Declared) (n : ℕ) (line : List ℕ) (here rest : List (ℕ × List ℕ)) (item : Item)
    (whole : Result (List (ℕ × Item)) FileFault)
    → each_after numbered_item items here ≡ whole → here ≡ (n, line) ∷ rest → d ≡ declared_by items
    → at_line n (item_after d line) ≡ Ok item → more ≡ items ++ (n, item) ∷ []
    → each_after numbered_item more rest ≡ whole
items-push items more d n line here rest item whole left is same reads grew =
    let read : numbered_item items (n, line) ≡ Ok (n, item) = rw (subst (λ x. at_line n (item_after x line) ≡ Ok item) same reads) refl in
    let step : each_after numbered_item items ((n, line) ∷ rest) ≡ each_after numbered_item (items ++ (n, item) ∷ []) rest = rw read refl in
    ap (λ xs. each_after numbered_item xs rest) grew ∙ sym step ∙ ap (each_after numbered_item items) (sym is) ∙ left

-- a line's fault is the manifest's
pub items-fault : (items : List (ℕ × Item)) (d : Declared) (n : ℕ) (line : List ℕ) (here rest : List (ℕ × List ℕ)) (f : FileFault)
    (whole : Result (List (ℕ × Item)) FileFault)
    → each_after numbered_item items here ≡ whole → here ≡ (n, line) ∷ rest → d ≡ declared_by items
    → at_line n (item_after d line) ≡ Err f → whole ≡ Err f
items-fault items d n line here rest f whole left is same reads =
    let read : numbered_item items (n, line) ≡ Err f = rw (subst (λ x. at_line n (item_after x line) ≡ Err f) same reads) refl in
    let step : each_after numbered_item items ((n, line) ∷ rest) ≡ Err f = rw read refl in
    sym left ∙ ap (each_after numbered_item items) is ∙ step

-- ---- what is read is sound

-- the rest of a line's tests, behind each of them
abbrev limits_kept : Declared → Item → Result Item FileCause
limits_kept d item = check (is_within_limits (declared_with d item)) because.Limit >>= (λ _. Ok item)

abbrev from_range : Declared → ItemLine → Result Item FileCause
from_range d line = in_range line >>= limits_kept d

abbrev from_new : Declared → ItemLine → Result Item FileCause
from_new d line = check (is_new d line) because.Twice >>= (λ _. from_range d line)

abbrev from_known : Declared → ItemLine → Result Item FileCause
from_known d line = check (is_known d line) because.Name >>= (λ _. from_new d line)

-- the tests that a line passed whose item was read
record PassesTests (d : Declared) (line : ItemLine) (item : Item) : Type 0 where
  pub order : is_in_order d line ≡ true
  pub known : is_known d line ≡ true
  pub fresh : is_new d line ≡ true
  pub ranged : from_range d line ≡ Ok item

passes_tests : (d : Declared) (line : ItemLine) (item : Item) → item_in_turn d line ≡ Ok item → PassesTests d line item
passes_tests d line item e =
    let a = check-Ok (is_in_order d line) because.Order (λ _. from_known d line) item e in
    let b = check-Ok (is_known d line) because.Name (λ _. from_new d line) item a.1 in
    let c = check-Ok (is_new d line) because.Twice (λ _. from_range d line) item b.1 in
    record { order = a.0; known = b.0; fresh = c.0; ranged = c.1 }

-- the item of a line in range keeps the limits
kept : (d : Declared) (x item : Item) → limits_kept d x ≡ Ok item → (x ≡ item) × (is_within_limits (declared_with d x) ≡ true)
kept d x item e = let a = check-Ok (is_within_limits (declared_with d x)) because.Limit (λ _. Ok x) item e in (Ok-same x item a.1, a.0)

-- a test of no session
no_session : (d : Declared) → (d.sessions == 0) ≡ true → d.sessions ≡ 0
no_session d h = grind (arith, nat_tests)

-- no test fails where its negation holds
negated : (b : Bool) → not b ≡ true → b ≡ false
negated true h = sym h
negated false h = refl

-- what a line that passes its tests may ask for
may_ask : (d : Declared) (x : Item) (item : Item) → IsSoundLine (Whole x) → PassesTests d (Whole x) item → MayAsk d x
may_ask d (Schema file) item h t = no_session d t.order
may_ask d (Tensor name dims formats latches) item h t = (h, record { fresh = negated (is_declared d name) t.fresh; early = no_session d t.order })
may_ask d (Load name file) item h t = record { declared = t.known; early = no_session d t.order }
may_ask d (Session file) item h t = tt
may_ask d (Print name) item h t = t.known

sound_in_turn : (d : Declared) (line : ItemLine) (item : Item) → IsSoundLine line → item_in_turn d line ≡ Ok item → IsSoundItem d item
sound_in_turn d (OutOfRange name) item h e = absurd (let t = passes_tests d (OutOfRange name) item e in Err-Ok because.Range item t.ranged)
sound_in_turn d (Whole x) item h e =
    let t = passes_tests d (Whole x) item e in
    let k = kept d x item t.ranged in
    subst (IsSoundItem d) k.0 (record { asked = may_ask d x item h t; limits = k.1 })

-- the item of a line is sound after what earlier lines declare
pub item_after-sound : (d : Declared) (text : List ℕ) (item : Item) → item_after d text ≡ Ok item → IsSoundItem d item
item_after-sound d text item e =
    let a = check-Ok (is_within_limit text) because.Limit (λ _. ok_or (item_line (words_of text)) because.Form >>= item_in_turn d) item e in
    elim (item_line (words_of text)) as (λ o. item_line (words_of text) ≡ o → (ok_or o because.Form >>= item_in_turn d) ≡ Ok item → IsSoundItem d item) [
      | None ↦ λ is f. absurd (Err-Ok because.Form item f)
      | Some line ↦ λ is f. sound_in_turn d line item (IfSome-at IsSoundLine (item_line (words_of text)) line (item_line-sound (words_of text)) is) f
    ] refl a.1

-- one sound item more
pub AreSound-push : (d : Declared) (items : List (ℕ × Item)) (p : ℕ × Item) → AreSound d items → IsSoundItem (fold (λ d p. declared_with d p.1) d items) p.1
    → AreSound d (items ++ p ∷ [])
AreSound-push d [] p h s = (s, tt)
AreSound-push d (q ∷ items) p h s = (h.0, AreSound-push (declared_with d q.1) items p h.1 s)

-- the items of a manifest that is read are sound
pub AreSound-manifest_of : (text : List ℕ) (m : List (ℕ × Item)) → manifest_of text ≡ Ok m → AreSound nothing m
AreSound-manifest_of text m e = each_after-keeps (AreSound nothing) numbered_item more [] (content_lines text) m tt e
  where
    more : (before : List (ℕ × Item)) (x : ℕ × List ℕ) (y : ℕ × Item) → AreSound nothing before → numbered_item before x ≡ Ok y
        → AreSound nothing (before ++ y ∷ [])
    more before x y h r = elim (item_after (declared_by before) x.1) as
        (λ r. item_after (declared_by before) x.1 ≡ r → (at_line x.0 r >>= numbered x.0) ≡ Ok y → AreSound nothing (before ++ y ∷ [])) [
          | Ok item ↦ λ is f. subst (λ z. AreSound nothing (before ++ z ∷ [])) (Ok-same (x.0, item) y f)
              (AreSound-push nothing before (x.0, item) h (item_after-sound (declared_by before) x.1 item is))
          | Err c ↦ λ is f. absurd (Err-Ok (fault_at x.0 c) y f)
        ] refl r
      where
        numbered : ℕ → Item → Result (ℕ × Item) FileFault
        numbered n item = Ok (n, item)
