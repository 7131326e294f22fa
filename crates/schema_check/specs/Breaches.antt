-- The first rule that a schema breaks, and the kind that is named for it.
use Rattle.std.specs.Prelude.{◌≡◌, ℕ, ◌+◌, ◌-◌, ◌≤◌, ◌<◌, Bool, true, false, not, List, [], ◌∷◌, ◌++◌, map, length, slice_index_or, Option, Some, None, Result, Ok, Err, ◌&&◌, if◌then◌else◌}
use Rattle.std.specs.List.{list_all}
use Rattle.dt_model.specs.declared.declared_tensors.Kind.{Kind}
use Rattle.dt_model.specs.declared.declared_tensors.Schema.{Schema}
use Rattle.dt_model.specs.Refusals.{or_else, when}
use Rattle.dt_model.specs.Verdicts.{names_differ}
use Rattle.schema_check.specs.Links.{is_declared}
use Rattle.schema_check.specs.Reached.{is_reached, IsReached}
use Rattle.schema_check.specs.Rules.{has_bounds, may_be_short, can_be_split, has_declared_links, has_fit_links, has_room_for_half}
use Rattle.schema_check.specs.declared.breaches.Breach.{Breach}

-- ---- whether a rule holds

-- whether each rule holds, from rule 1 on
abbrev pub rules : Schema → List Bool
rules s =
    list_all has_bounds s.kinds.items
    ∷ list_all may_be_short s.kinds.items
    ∷ list_all can_be_split s.kinds.items
    ∷ (names_differ (map (λ k. k.name) s.kinds.items) && list_all (has_declared_links s.kinds.items) s.kinds.items && is_declared s.kinds.items s.root)
    ∷ list_all (has_fit_links s.kinds.items) s.kinds.items
    ∷ list_all (has_room_for_half s.kinds.items) s.kinds.items
    ∷ list_all (is_reached s) s.kinds.items
    ∷ []

-- whether a rule holds; rules are counted from 1
abbrev pub keeps : Schema → ℕ → Bool
keeps s rule = slice_index_or (rules s) (rule - 1) true

-- ---- which kind is named

-- the name of the first kind that fails a test
abbrev pub first_failing : (Kind → Bool) → List Kind → Option (List ℕ)
first_failing test [] = None
first_failing test (k ∷ kinds) = if test k then first_failing test kinds else Some k.name

-- the name of the first kind whose name another one before it has
abbrev pub first_redeclared : List Kind → List Kind → Option (List ℕ)
first_redeclared before [] = None
first_redeclared before (k ∷ kinds) = if is_declared before k.name then Some k.name else first_redeclared (before ++ k ∷ []) kinds

-- the kind that is named for rule 4: one that is declared again, else one with a link that isn't declared, else the root
abbrev pub first_misnamed : Schema → Option (List ℕ)
first_misnamed s = or_else (first_redeclared [] s.kinds.items)
    (or_else (first_failing (has_declared_links s.kinds.items) s.kinds.items)
    (when (not (is_declared s.kinds.items s.root)) s.root))

-- for each rule, from rule 1 on, the kind that is named where it is broken
abbrev pub culprits : Schema → List (Option (List ℕ))
culprits s =
    first_failing has_bounds s.kinds.items
    ∷ first_failing may_be_short s.kinds.items
    ∷ first_failing can_be_split s.kinds.items
    ∷ first_misnamed s
    ∷ first_failing (has_fit_links s.kinds.items) s.kinds.items
    ∷ first_failing (has_room_for_half s.kinds.items) s.kinds.items
    ∷ first_failing (is_reached s) s.kinds.items
    ∷ []

-- the first breach, where these are the kinds named for the rules from this one on
abbrev pub first_breach : ℕ → List (Option (List ℕ)) → Option Breach
first_breach rule [] = None
first_breach rule (None ∷ named) = first_breach (rule + 1) named
first_breach rule (Some kind ∷ named) = Some (record { rule = rule; kind = kind })

-- the schema, unless there is a breach
abbrev pub unless_breached : Option Breach → Schema → Result Schema Breach
unless_breached None s = Ok s
unless_breached (Some b) s = Err b

-- the schema, or the first rule that it breaks with the kind that is named for it
abbrev pub checked : Schema → Result Schema Breach
checked s = unless_breached (first_breach 1 (culprits s)) s

-- the rule is broken, those before it hold, and the kind is the one that is named for it; for rule 7 no links lead to it from the root
pub record IsFirstBreach (s : Schema) (b : Breach) : Type 0 where
  pub known : (1 ≤ b.rule) × (b.rule ≤ length (rules s))
  pub before : (rule : ℕ) → 1 ≤ rule → rule < b.rule → keeps s rule ≡ true
  pub broken : keeps s b.rule ≡ false
  pub named : slice_index_or (culprits s) (b.rule - 1) None ≡ Some b.kind
  pub unreached : b.rule ≡ 7 → IsReached s b.kind → ⊥
