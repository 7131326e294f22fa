-- What a look-up in the first mode says of the content.
use Rattle.std.proofs.Common.{◌≡◌, ◌<◌, ◌+◌, ◌%◌, ◌^◌, ℕ, Bool, true, false, List, [], ◌∷◌, length, All, Option, Some, None, refl, ap, sym, subst, ◌∙◌, arith}
use Rattle.std.specs.Prelude.{nat_eq, if◌then◌else◌}
use Rattle.std.proofs.Math.Nat.{mod-eq_of_lt}
use Rattle.std.proofs.lemmas.List.Elements.{All-head, All-tail}
use Rattle.dt_model.specs.declared.declared_tensors.Schema.{Schema}
use Rattle.dt_model.specs.Pairs.{total_at}
use Rattle.iter_gen.specs.LookingUp.{elem_with}
use Rattle.node_arena.specs.declared.elements.Elem.{Elem}
use Rattle.node_arena.specs.declared.elements.Held.TheVariants.{Number, Inner}
use Rattle.node_arena.specs.declared.elements.Structure.{Structure}
use Rattle.node_arena.specs.declared.kinds.NodeKind.{NodeKind}
use Rattle.node_arena.specs.Arenas.{ArenaState}
use Rattle.node_arena.specs.Kinds.{kinds_of}
use Rattle.node_arena.specs.Modes.{Mode, tree_in, walk_in, IsHeldFor, IsNested, entries_held, entries_in, content_in}
use Rattle.node_arena.specs.Structures.{Tree, IsStanding, walk_of}
use Rattle.nested_modes.specs.Codes.{mode_of, modes_of}
use Rattle.nested_modes.proofs.ContentLemmas.{content-none, content-some}

-- ---- what is held

-- what holds of each element holds of the one that is found
found-holds : (P : Elem → Type 0) (c : ℕ) (es : List Elem) (x : Elem) → All P es → elem_with c es ≡ Some x → P x
found-holds P c [] x all h = cc
found-holds P c (e ∷ es) x all h = by-test (nat_eq e.at c) h (All-head P e es all) (found-holds P c es x (All-tail P e es all))
  where
    by-test : (b : Bool) → (if b then Some e else elem_with c es) ≡ Some x → P e → (elem_with c es ≡ Some x → P x) → P x
    by-test true h here rest = let same : e ≡ x = cc in subst P same here
    by-test false h here rest = rest h

-- a structure that is held is nested
inner-nested : (ms : List Mode) (st : Structure) → IsHeldFor ms (λ below. IsNested ms below) (Inner st) → IsNested ms st
inner-nested [] st h = absurd h
inner-nested (m ∷ ms) st h = h.1

-- a number is held in the last mode
number-last : (ss : List Schema) (arenas : List ArenaState) (v : ℕ) → length arenas ≡ length ss
    → IsHeldFor (modes_of ss arenas) (λ below. IsNested (modes_of ss arenas) below) (Number v) → length ss ≡ 0
number-last [] arenas v same h = refl
number-last (s ∷ ss) [] v same h = absurd (omega arith)
number-last (s ∷ ss) (a ∷ arenas) v same h = absurd h

-- ---- a look-up

-- the structure's own mode has the element that a look-up answered
own-found : (s : Schema) (a : ArenaState) (ms : List Mode) (st : Structure) (kinds : List NodeKind) (c : ℕ) (o : Option Elem) → kinds ≡ kinds_of s
    → IsNested (mode_of s a ∷ ms) st → ((t : Tree) → IsStanding kinds a st t → o ≡ elem_with c (walk_of kinds t))
    → elem_with c (walk_in (mode_of s a) st) ≡ o
own-found s a ms st kinds c o same h look =
    sym (subst (λ ks. (t : Tree) → IsStanding ks a st t → o ≡ elem_with c (walk_of ks t)) same look (tree_in a st) h.structure.stands)

module _ (walks later : List Schema) (s : Schema) (arenas below : List ArenaState) (a : ArenaState) (st : Structure) (at rest : List ℕ) (lead : ℕ)
    (kinds : List NodeKind) (first : walks ≡ s ∷ later) (own : arenas ≡ a ∷ below) (leads : at ≡ lead ∷ rest) (same : kinds ≡ kinds_of s)
    (nested : IsNested (modes_of walks arenas) st) (lengths : length arenas ≡ length walks) (order : length at ≡ length walks) where
  -- the structure is nested in its own mode and the later ones
  nested-own : IsNested (mode_of s a ∷ modes_of later below) st
  nested-own = subst (λ ms. IsNested ms st) (ap (λ ws. modes_of ws arenas) first ∙ ap (modes_of (s ∷ later)) own) nested

  split-content : content_in (modes_of walks arenas) st at ≡ content_in (mode_of s a ∷ modes_of later below) st (lead ∷ rest)
  split-content =
      ap (λ ws. content_in (modes_of ws arenas) st at) first ∙ ap (λ ars. content_in (modes_of (s ∷ later) ars) st at) own
      ∙ ap (content_in (mode_of s a ∷ modes_of later below) st) leads

  -- nothing is found
  pub get-none : ((t : Tree) → IsStanding kinds a st t → None ≡ elem_with lead (walk_of kinds t)) → 0 ≡ content_in (modes_of walks arenas) st at
  get-none look =
      sym (split-content ∙ content-none (mode_of s a) (modes_of later below) st lead rest
      (own-found s a (modes_of later below) st kinds lead None same nested-own look))

  module _ (x : Elem) (look : (t : Tree) → IsStanding kinds a st t → Some x ≡ elem_with lead (walk_of kinds t)) where
    found : elem_with lead (walk_in (mode_of s a) st) ≡ Some x
    found = own-found s a (modes_of later below) st kinds lead (Some x) same nested-own look

    held : IsHeldFor (modes_of later below) (λ below_top. IsNested (modes_of later below) below_top) x.held
    held = found-holds (λ e. IsHeldFor (modes_of later below) (λ below_top. IsNested (modes_of later below) below_top) e.held) lead
        (walk_in (mode_of s a) st) x nested-own.holds found

    content-found : content_in (modes_of walks arenas) st at ≡ total_at (entries_held (λ below_top. entries_in (modes_of later below) below_top) x.held) rest
    content-found = split-content ∙ content-some (mode_of s a) (modes_of later below) st lead rest x nested-own found

    lengths-later : length below ≡ length later
    lengths-later = let e : length (a ∷ below) ≡ length (s ∷ later) = sym (ap length own) ∙ lengths ∙ ap length first in omega arith

    lengths-rest : length rest ≡ length later
    lengths-rest = let e : length (lead ∷ rest) ≡ length (s ∷ later) = sym (ap length leads) ∙ order ∙ ap length first in omega arith

    -- a number is found
    pub get-number : (v : ℕ) → x.held ≡ Number v → v < 2 ^ 64 → v ≡ content_in (modes_of walks arenas) st at
    get-number v e small =
        let last : length later ≡ 0 = number-last later below v lengths-later
        (subst (λ h. IsHeldFor (modes_of later below) (λ below_top. IsNested (modes_of later below) below_top) h) e held) in
        sym (content-found ∙ ap (λ h. total_at (entries_held (λ below_top. entries_in (modes_of later below) below_top) h) rest) e
        ∙ no-more rest v (omega (arith, lengths-rest)) small)
      where
        no-more : (cs : List ℕ) (v : ℕ) → length cs ≡ 0 → v < 2 ^ 64 → total_at (([], v) ∷ []) cs ≡ v
        no-more [] v none small = let e : 0 + v ≡ v = omega arith in ap (λ n. n % 2 ^ 64) e ∙ mod-eq_of_lt small
        no-more (c ∷ cs) v none small = absurd (omega arith)

    -- a structure is found
    pub get-inner : (inner : Structure) → x.held ≡ Inner inner
        → IsNested (modes_of later below) inner × (length below ≡ length later) × (length rest ≡ length later) × (length later < length walks)
        × (content_in (modes_of later below) inner rest ≡ content_in (modes_of walks arenas) st at)
    get-inner inner e = (
      inner-nested (modes_of later below) inner
          (subst (λ h. IsHeldFor (modes_of later below) (λ below_top. IsNested (modes_of later below) below_top) h) e held),
      lengths-later,
      lengths-rest,
      (let l : length walks ≡ length (s ∷ later) = ap length first in omega arith),
      sym (content-found ∙ ap (λ h. total_at (entries_held (λ below_top. entries_in (modes_of later below) below_top) h) rest) e),
    )
