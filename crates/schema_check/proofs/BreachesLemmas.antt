-- The first breach: which rules hold before it, and that there is none exactly where all rules hold.
use Rattle.std.proofs.Common.{◌≡◌, ℕ, zero, suc, ◌+◌, ◌-◌, ◌<◌, Bool, true, false, cond, List, [], ◌∷◌, length, map, refl, ap, sym, ◌∙◌, arith, get_or, Option, Some, None, is_none, subst}
use Rattle.std.specs.Prelude.{◌&&◌}
use Rattle.std.specs.List.{list_all}
use Rattle.dt_model.specs.declared.declared_tensors.Kind.{Kind}
use Rattle.dt_model.specs.declared.declared_tensors.Schema.{Schema}
use Rattle.dt_model.specs.Flat.{flat_schema}
use Rattle.dt_model.proofs.Booleans.{both_true, true_both}
use Rattle.schema_check.specs.Links.{is_declared}
use Rattle.schema_check.specs.Reached.{is_reached, is_within, IsReached}
use Rattle.schema_check.specs.Rules.{KeepsRules, has_bounds, may_be_short, can_be_split, has_fit_links, has_room_for_half}
use Rattle.schema_check.specs.Breaches.{rules, keeps, culprits, first_breach, first_failing, IsFirstBreach}
use Rattle.schema_check.specs.declared.breaches.Breach.{Breach}
use Rattle.schema_check.proofs.NamingLemmas.{first_failing-none, first_misnamed-none}
use Rattle.schema_check.proofs.ReachedLemmas.{IsReached-within, is_reached-all, all-is_reached, all_declared}

-- ---- any list of named kinds

-- what is known of a first breach where the first rule has this number
pub record BreaksAt (rule : ℕ) (named : List (Option (List ℕ))) (b : Breach) (place : ℕ) : Type 0 where
  pub number : b.rule ≡ rule + place
  pub within : place < length named
  pub before : (other : ℕ) → other < place → is_none (get_or named other None) ≡ true
  pub kind : get_or named place None ≡ Some b.kind

-- the first breach is at the first place that has a kind
pub first_breach-at : (rule : ℕ) (named : List (Option (List ℕ))) (b : Breach) → first_breach rule named ≡ Some b → (place : ℕ) × BreaksAt rule named b place
first_breach-at rule [] b e = absurd (cc)
first_breach-at rule (Some kind ∷ named) b e =
    let first : ◌≡◌ {A = Breach} (record { rule = rule; kind = kind }) b = cc in (
      0,
      record {
        number = sym (ap (λ x. x.rule) first) ∙ omega arith;
        within = omega arith;
        before = λ other h. absurd (omega arith);
        kind = ap (λ x. Some x.kind) first;
      },
    )
first_breach-at rule (None ∷ named) b e =
    let later = first_breach-at (rule + 1) named b e in
    let at = later.1 in (
      suc later.0,
      record {
        number = let n = at.number in omega arith;
        within = let n = at.within in omega arith;
        before = λ other h. step other h at.before;
        kind = at.kind;
      },
    )
  where
    step : (other : ℕ) {place : ℕ} → other < suc place → ((o : ℕ) → o < place → is_none (get_or named o None) ≡ true)
        → is_none (get_or {A = Option (List ℕ)} (None ∷ named) other None) ≡ true
    step zero h f = refl
    step (suc other) h f = f other (omega arith)

-- there is no first breach exactly where no kind is named
pub first_breach-none : (rule : ℕ) (named : List (Option (List ℕ))) → is_none (first_breach rule named) ≡ list_all is_none named
first_breach-none rule [] = refl
first_breach-none rule (None ∷ named) = first_breach-none (rule + 1) named
first_breach-none rule (Some kind ∷ named) = refl

-- ---- the rules of a schema

-- no kind is named for a rule exactly where it holds
pub culprits-rules : (s : Schema) → map is_none (culprits s) ≡ rules s
culprits-rules s =
    let kinds = s.kinds.items in
    rw (
      first_failing-none has_bounds kinds,
      first_failing-none may_be_short kinds,
      first_failing-none can_be_split kinds,
      first_misnamed-none s,
      first_failing-none (has_fit_links kinds) kinds,
      first_failing-none (has_room_for_half kinds) kinds,
      first_failing-none (is_reached s) kinds,
    ) refl

at_none : (named : List (Option (List ℕ))) (place : ℕ) → get_or (map is_none named) place true ≡ is_none (get_or named place None)
at_none [] place = refl
at_none (x ∷ named) zero = refl
at_none (x ∷ named) (suc place) = at_none named place

-- a rule holds exactly where no kind is named for it
pub keeps-none : (s : Schema) (rule : ℕ) → keeps s rule ≡ is_none (get_or (culprits s) (rule - 1) None)
keeps-none s rule = ap (λ bs. get_or bs (rule - 1) true) (sym (culprits-rules s)) ∙ at_none (culprits s) (rule - 1)

-- the kind that is named for rule 7 isn't reached
unreached : (s : Schema) (kinds : List Kind) → list_all (λ k. is_declared s.kinds.items k.name) kinds ≡ true
    → (name : List ℕ) → first_failing (is_reached s) kinds ≡ Some name → IsReached s name → ⊥
unreached s [] d name e r = cc
unreached s (k ∷ kinds) d name e r =
    let both = both_true (is_declared s.kinds.items k.name) _ d in
    step (is_reached s k) refl both.0 e (λ later. unreached s kinds both.1 name later r)
  where
    step : (b : Bool) → is_reached s k ≡ b → is_declared s.kinds.items k.name ≡ true → cond b (first_failing (is_reached s) kinds) (Some k.name) ≡ Some name
        → (first_failing (is_reached s) kinds ≡ Some name → ⊥) → ⊥
    step true h there at rest = rest at
    step false h there at rest =
        let same : k.name ≡ name = cc in
        let reached : is_reached s k ≡ true = IsReached-within s k.name (subst (IsReached s) (sym same) r) there in
        cc

-- what is known of the first breach
pub first_breach-first : (s : Schema) (b : Breach) → first_breach 1 (culprits s) ≡ Some b → IsFirstBreach s b
first_breach-first s b e =
    let found = first_breach-at 1 (culprits s) b e in
    let at = found.1 in
    let number : b.rule - 1 ≡ found.0 = (let n = at.number in omega arith) in
    record {
      known = (let n = at.number in omega arith, (let n = at.number in let w : found.0 < 7 = at.within in omega arith));
      before = λ rule low high. keeps-none s rule ∙ at.before (rule - 1) (let n = at.number in omega arith);
      broken = keeps-none s b.rule ∙ ap (λ n. is_none (get_or (culprits s) n None)) number ∙ ap is_none at.kind;
      named = ap (λ n. get_or (culprits s) n None) number ∙ at.kind;
      unreached = λ seven reached.
          let six : 6 ≡ found.0 = (let n = at.number in omega arith) in
          unreached s s.kinds.items (all_declared s.kinds.items) b.kind (ap (λ n. get_or (culprits s) n None) six ∙ at.kind) reached;
    }

list_all-none : (named : List (Option (List ℕ))) → list_all is_none named ≡ list_all (λ b. b) (map is_none named)
list_all-none [] = refl
list_all-none (x ∷ named) = ap (λ b. is_none x && b) (list_all-none named)

-- there is no breach exactly where each rule holds
pub first_breach-rules : (s : Schema) → is_none (first_breach 1 (culprits s)) ≡ list_all (λ b. b) (rules s)
first_breach-rules s = first_breach-none 1 (culprits s) ∙ list_all-none (culprits s) ∙ ap (list_all (λ b. b)) (culprits-rules s)

-- a schema without a breach keeps the rules
pub first_breach-keeps : (s : Schema) → first_breach 1 (culprits s) ≡ None → KeepsRules s
first_breach-keeps s e =
    let all : list_all (λ b. b) (rules s) ≡ true = sym (first_breach-rules s) ∙ ap is_none e in
    let one = both_true _ _ all in
    let two = both_true _ _ one.1 in
    let three = both_true _ _ two.1 in
    let four = both_true _ _ three.1 in
    let five = both_true _ _ four.1 in
    let six = both_true _ _ five.1 in
    let seven = both_true _ _ six.1 in
    let root = both_true _ _ four.0 in
    let links = both_true _ _ root.0 in
    record {
      bounds = one.0;
      short = two.0;
      split = three.0;
      names = links.0;
      links = links.1;
      root = root.1;
      alike = five.0;
      halves = six.0;
      reached = is_reached-all s s.kinds.items seven.0;
    }

-- a schema that keeps the rules has no breach
pub KeepsRules-none : (s : Schema) → KeepsRules s → first_breach 1 (culprits s) ≡ None
KeepsRules-none s k = none (first_breach 1 (culprits s)) (first_breach-rules s
    ∙ true_both _ _ k.bounds (true_both _ _ k.short (true_both _ _ k.split
    (true_both _ _ (true_both _ _ (true_both _ _ k.names k.links) k.root)
    (true_both _ _ k.alike (true_both _ _ k.halves
    (true_both _ _ (all-is_reached s s.kinds.items (all_declared s.kinds.items) k.reached) refl)))))))
  where
    none : (o : Option Breach) → is_none o ≡ true → o ≡ None
    none None h = refl
    none (Some b) h = absurd (let no : ⊥ = cc in no)

-- `flat` keeps the rules
pub flat_schema-keeps : KeepsRules flat_schema
unfolding is_within
flat_schema-keeps = first_breach-keeps flat_schema refl
