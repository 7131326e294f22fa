-- Where no kind has two links, no tree has a spine; where none is woven, no kind is.
use Rattle.std.proofs.Common.{◌≡◌, ◌≢◌, ◌≤◌, ◌<◌, ◌⊎◌, inl, inr, ℕ, Bool, true, false, List, length, get_or, refl, ap, ◌∙◌, arith}
use Rattle.std.specs.List.{list_any}
use Rattle.std.proofs.lemmas.Bool.{cases_lt}
use Rattle.std.proofs.lemmas.List.{get_or_past}
use Rattle.std.proofs.lemmas.List.Folds.{list_any_at}
use Rattle.node_arena.specs.declared.kinds.NodeKind.{NodeKind}
use Rattle.node_arena.specs.declared.kinds.Shape.{Shape}
use Rattle.node_arena.specs.declared.kinds.Shape.TheVariants.{Flat, Post, Ends, Woven}
use Rattle.node_arena.specs.Conforming.{spine, spine_by}
use Rattle.node_arena.specs.Kinds.{bare_kind, shape_at}
use Rattle.node_arena.specs.Trees.{Trees, done, absent, node}
use Rattle.insert_gen.specs.Inserting.{has_two, has_ends}
use Rattle.insert_gen.specs.Needs.{weaves, has_woven, passed_to_woven}

both : (b : Bool) → b ≡ true → b ≡ false → ⊥
both true e f = cc
both false e f = cc

-- where no element passes the test, none at a place does
none-at : {X : Type 0} (p : X → Bool) (xs : List X) (k : ℕ) (d : X) → p d ≡ false → list_any p xs ≡ false → p (get_or xs k d) ≡ false
none-at p xs k d out none = pick (cases_lt k (length xs))
  where
    decide : (b : Bool) → (b ≡ true → ⊥) → b ≡ false
    decide true h = absurd (h refl)
    decide false h = refl

    pick : (k < length xs) ⊎ (length xs ≤ k) → p (get_or xs k d) ≡ false
    pick (inr h) = ap p (get_or_past xs k d h) ∙ out
    pick (inl h) = decide (p (get_or xs k d)) (λ e. both (list_any p xs) (list_any_at p xs k d h e) none)

-- no kind has two links
pub shape-none : (s : List NodeKind) (k : ℕ) → has_ends s ≡ false → has_two (shape_at s k) ≡ false
shape-none s k none = none-at (λ c. has_two c.shape) s k bare_kind refl none

-- no kind is woven
pub weaves-none : (s : List NodeKind) (k : ℕ) → has_woven s ≡ false → weaves (shape_at s k) ≡ false
weaves-none s k none = none-at (λ c. weaves c.shape) s k bare_kind refl none

-- the kind isn't woven
pub woven-none : (s : List NodeKind) (k : ℕ) → has_woven s ≡ false → shape_at s k ≢ Woven
woven-none s k none e = both (weaves (shape_at s k)) (ap weaves e) (weaves-none s k none)

-- where a kind is woven, elements may be passed on to it
pub passed-woven : (s : List NodeKind) (k : ℕ) → shape_at s k ≡ Woven → passed_to_woven s ≡ 8
passed-woven s k e = decide (has_woven s) refl
  where
    decide : (b : Bool) → has_woven s ≡ b → passed_to_woven s ≡ 8
    decide true h = rw h refl
    decide false h = absurd (woven-none s k h e)

spine_by-none : (sh : Shape) (n : ℕ) → has_two sh ≡ false → n ≡ 0 → spine_by sh n ≡ 0
spine_by-none Flat n h e = refl
spine_by-none (Post p) n h e = e
spine_by-none (Ends p q) n h e = cc
spine_by-none Woven n h e = refl

-- no tree has a spine
pub spine-none : (s : List NodeKind) (t : Trees) → has_ends s ≡ false → spine s t ≡ 0
spine-none s done none = refl
spine-none s (absent t) none = spine-none s t none
spine-none s (node i k run ls t) none =
    let here : spine_by (shape_at s k) (spine s ls) ≡ 0 = spine_by-none (shape_at s k) (spine s ls) (shape-none s k none) (spine-none s ls none) in
    let rest : spine s t ≡ 0 = spine-none s t none in
    omega (arith, here, rest)
