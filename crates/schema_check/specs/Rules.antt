-- The rules of a checked schema.
use Rattle.std.specs.Prelude.{ℕ, ◌+◌, ◌/◌, Bool, true, not, List, map, Option, Some, None, is_none, nat_le, ◌==◌, ◌&&◌, ◌||◌, All, IsTrue}
use Rattle.std.specs.List.{list_all}
use Rattle.dt_model.specs.declared.declared_tensors.Kind.{Kind}
use Rattle.dt_model.specs.declared.declared_tensors.Schema.{Schema}
use Rattle.dt_model.specs.Flat.{is_unlinked}
use Rattle.dt_model.specs.Verdicts.{names_differ}
use Rattle.schema_check.specs.Links.{pre_of, post_of, is_woven, is_link_to, is_declared, pre_kind, post_kind}
use Rattle.schema_check.specs.Reached.{IsReached}
use Rattle.schema_check.specs.declared.rules.TheConstants.{MOST_RUN}

-- ---- what is asked of a kind, rule by rule

-- rule 1: a run has at least one element and at most MOST_RUN
abbrev pub has_bounds : Kind → Bool
has_bounds k = nat_le 1 k.lo && nat_le k.lo k.hi && nat_le k.hi MOST_RUN

-- rule 2: a run with a structure after it may have one element
abbrev pub may_be_short : Kind → Bool
may_be_short k = is_none (post_of k.links) || (k.lo == 1)

-- rule 3: where a woven node has one element too many, each half of it is long enough
abbrev pub can_be_split : Kind → Bool
can_be_split k = not (is_woven k.links) || (nat_le 2 k.hi && nat_le k.lo (k.hi / 2))

-- whether there is no link, or a kind has its name
abbrev pub is_declared_link : List Kind → Option (List ℕ) → Bool
is_declared_link kinds None = true
is_declared_link kinds (Some name) = is_declared kinds name

-- rule 4 of one kind: its links are declared
abbrev pub has_declared_links : List Kind → Kind → Bool
has_declared_links kinds k = is_declared_link kinds (pre_of k.links) && is_declared_link kinds (post_of k.links)

-- whether there is no kind, or it passes the test
abbrev pub passes : (Kind → Bool) → Option Kind → Bool
passes test None = true
passes test (Some k) = test k

-- whether a structure of the kind is of this kind alone where it goes on: woven, or with itself after the run
abbrev pub goes_on_alike : Kind → Bool
goes_on_alike k = is_woven k.links || is_link_to (post_of k.links) k.name

-- rule 5: the kind before the run isn't flat, and the one after it goes on alike
abbrev pub has_fit_links : List Kind → Kind → Bool
has_fit_links kinds k = passes (λ p. not (is_unlinked p.links)) (pre_kind kinds k.links) && passes goes_on_alike (post_kind kinds k.links)

-- rule 6: half of a run with one element too many is a run of the kind after it, unless that is woven
abbrev pub has_room_for_half : List Kind → Kind → Bool
has_room_for_half kinds k = passes (λ p. is_woven p.links || nat_le ((k.hi + 1) / 2) p.hi) (post_kind kinds k.links)

-- ---- what is asked of a schema

-- a schema that keeps rules 1 to 7; rule 4 has three parts, and rule 7 is that each kind is reached from the root
pub record KeepsRules (s : Schema) : Type 0 where
  pub bounds : IsTrue (list_all has_bounds s.kinds.items)
  pub short : IsTrue (list_all may_be_short s.kinds.items)
  pub split : IsTrue (list_all can_be_split s.kinds.items)
  pub names : IsTrue (names_differ (map (λ k. k.name) s.kinds.items))
  pub links : IsTrue (list_all (has_declared_links s.kinds.items) s.kinds.items)
  pub root : IsTrue (is_declared s.kinds.items s.root)
  pub alike : IsTrue (list_all (has_fit_links s.kinds.items) s.kinds.items)
  pub halves : IsTrue (list_all (has_room_for_half s.kinds.items) s.kinds.items)
  pub reached : All (λ k. IsReached s k.name) s.kinds.items
