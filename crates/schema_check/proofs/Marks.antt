-- Sets of names that grow by what is linked from them: after as many rounds as there are kinds they grow no more.
use Rattle.std.proofs.Common.{◌≡◌, ℕ, zero, suc, ◌+◌, ◌≤◌, Bool, true, false, cond, List, [], ◌∷◌, length, refl, ap, sym, ◌∙◌, subst, arith, inl, inr, ◌⊎◌}
use Rattle.std.specs.Prelude.{◌||◌, nat_eq, nat_le}
use Rattle.std.proofs.lemmas.Bool.Decides.{nat_tests}
use Rattle.std.specs.Cmp.Lexicographic.{pointwise, same_text}
use Rattle.dt_model.specs.declared.declared_tensors.Kind.{Kind}
use Rattle.dt_model.specs.declared.declared_tensors.Schema.{Schema}
use Rattle.schema_check.specs.Links.{is_declared}
use Rattle.schema_check.specs.Reached.{is_linked_from, and_linked, is_within}

-- where one of two is true, their disjunction is
pub or_left : (a b : Bool) → a ≡ true → (a || b) ≡ true
or_left true b e = refl
or_left false b e = absurd (cc)

-- where the other of two is true, their disjunction is
pub or_right : (a b : Bool) → b ≡ true → (a || b) ≡ true
or_right true b e = refl
or_right false b e = e

-- ---- how many kinds are in a set

-- how many kinds have a name of the set
abbrev pub marked : List Kind → (List ℕ → Bool) → ℕ
marked [] set = 0
marked (k ∷ kinds) set = cond (set k.name) 1 0 + marked kinds set

-- two sets have the same kinds
abbrev pub Agree : List Kind → (List ℕ → Bool) → (List ℕ → Bool) → Type 0
Agree [] old new = Unit {0}
Agree (k ∷ kinds) old new = (new k.name ≡ old k.name) × Agree kinds old new

-- no more kinds are in a set than there are
pub marked-within : (kinds : List Kind) (set : List ℕ → Bool) → marked kinds set ≤ length kinds
marked-within [] set = omega arith
marked-within (k ∷ kinds) set = step (set k.name) (marked-within kinds set)
  where
    step : (b : Bool) → marked kinds set ≤ length kinds → cond b 1 0 + marked kinds set ≤ suc (length kinds)
    step true h = omega arith
    step false h = omega arith

-- a larger set has no fewer kinds
pub marked-more : (kinds : List Kind) (old new : List ℕ → Bool) → ((name : List ℕ) → old name ≡ true → new name ≡ true)
    → marked kinds old ≤ marked kinds new
marked-more [] old new grows = omega arith
marked-more (k ∷ kinds) old new grows = step (old k.name) (new k.name) (grows k.name) (marked-more kinds old new grows)
  where
    step : (a b : Bool) → (a ≡ true → b ≡ true) → marked kinds old ≤ marked kinds new → cond a 1 0 + marked kinds old ≤ cond b 1 0 + marked kinds new
    step true true f h = omega arith
    step true false f h = absurd (let no = f refl in let bad : ⊥ = cc in bad)
    step false true f h = omega arith
    step false false f h = omega arith

-- a larger set that has no more kinds has the same ones
pub marked-same : (kinds : List Kind) (old new : List ℕ → Bool) → ((name : List ℕ) → old name ≡ true → new name ≡ true)
    → marked kinds new ≤ marked kinds old → Agree kinds old new
marked-same [] old new grows few = tt
marked-same (k ∷ kinds) old new grows few =
    step (old k.name) (new k.name) (grows k.name) few (marked-more kinds old new grows) (marked-same kinds old new grows)
  where
    step : (a b : Bool) → (a ≡ true → b ≡ true) → cond b 1 0 + marked kinds new ≤ cond a 1 0 + marked kinds old → marked kinds old ≤ marked kinds new
        → (marked kinds new ≤ marked kinds old → Agree kinds old new) → (b ≡ a) × Agree kinds old new
    step true true f h more later = (refl, later (omega arith))
    step true false f h more later = absurd (let no = f refl in let bad : ⊥ = cc in bad)
    step false true f h more later = absurd (omega arith)
    step false false f h more later = (refl, later (omega arith))

-- sets that are the same have the same kinds
pub Agree-all : (kinds : List Kind) (old new : List ℕ → Bool) → ((name : List ℕ) → new name ≡ old name) → Agree kinds old new
Agree-all [] old new same = tt
Agree-all (k ∷ kinds) old new same = (same k.name, Agree-all kinds old new same)

-- sets with the same kinds agree on the name of a kind
pub Agree-declared : (kinds : List Kind) (old new : List ℕ → Bool) (name : List ℕ) → Agree kinds old new → is_declared kinds name ≡ true → new name ≡ old name
Agree-declared [] old new name h d = absurd (cc)
Agree-declared (k ∷ kinds) old new name h d = step (pointwise nat_eq k.name name) refl d (Agree-declared kinds old new name h.1)
  where
    step : (b : Bool) → pointwise nat_eq k.name name ≡ b → (b || is_declared kinds name) ≡ true → (is_declared kinds name ≡ true → new name ≡ old name)
        → new name ≡ old name
    step true e g later = subst (λ x. new x ≡ old x) (same_text k.name name (sym e)) h.0
    step false e g later = later g

-- from sets with the same kinds the same names are linked
pub is_linked_from-agree : (kinds : List Kind) (old new : List ℕ → Bool) (name : List ℕ) → Agree kinds old new
    → is_linked_from kinds new name ≡ is_linked_from kinds old name
is_linked_from-agree [] old new name h = refl
is_linked_from-agree (k ∷ kinds) old new name h = rw (h.0, is_linked_from-agree kinds old new name h.1) refl

-- ---- rounds

-- no link leads from the root to the root
pub is_within-zero : (s : Schema) (name : List ℕ) → is_within s zero name ≡ pointwise nat_eq s.root name
unfolding is_within
is_within-zero s name = refl

-- one round more
pub is_within-suc : (s : Schema) (n : ℕ) (name : List ℕ) → is_within s (suc n) name ≡ and_linked s.kinds.items (is_within s n) name
unfolding is_within
is_within-suc s n name = refl

-- a round takes nothing away
pub is_within-more : (s : Schema) (n : ℕ) (name : List ℕ) → is_within s n name ≡ true → is_within s (suc n) name ≡ true
is_within-more s n name h = is_within-suc s n name ∙ or_left (is_within s n name) (is_linked_from s.kinds.items (is_within s n) name) h

-- where a round adds no kind, the next one adds none
pub Agree-next : (s : Schema) (n : ℕ) → Agree s.kinds.items (is_within s n) (is_within s (suc n))
    → Agree s.kinds.items (is_within s (suc n)) (is_within s (suc (suc n)))
Agree-next s n h = Agree-all s.kinds.items (is_within s (suc n)) (is_within s (suc (suc n))) same
  where
    again : (a b : Bool) → ((a || b) || b) ≡ (a || b)
    again true b = refl
    again false true = refl
    again false false = refl

    same : (name : List ℕ) → is_within s (suc (suc n)) name ≡ is_within s (suc n) name
    same name = is_within-suc s (suc n) name
        ∙ ap (λ b. is_within s (suc n) name || b) (is_linked_from-agree s.kinds.items (is_within s n) (is_within s (suc n)) name h)
        ∙ ap (λ b. b || is_linked_from s.kinds.items (is_within s n) name) (is_within-suc s n name)
        ∙ again (is_within s n name) (is_linked_from s.kinds.items (is_within s n) name)
        ∙ sym (is_within-suc s n name)

at_most : (a b : ℕ) → nat_le a b ≡ true → a ≤ b
at_most a b e = grind (arith, nat_tests)

above : (a b : ℕ) → nat_le a b ≡ false → suc b ≤ a
above a b e = grind (arith, nat_tests)

-- after n rounds there are n kinds in the set, or a round adds none
pub within_cases : (s : Schema) (n : ℕ) → (n ≤ marked s.kinds.items (is_within s n)) ⊎ Agree s.kinds.items (is_within s n) (is_within s (suc n))
within_cases s zero = inl (omega arith)
within_cases s (suc n) = elim (within_cases s n) [
  | inr same ↦ inr (Agree-next s n same)
  | inl many ↦ step (nat_le (marked s.kinds.items (is_within s (suc n))) (marked s.kinds.items (is_within s n))) refl many
]
  where
    step : (b : Bool) → nat_le (marked s.kinds.items (is_within s (suc n))) (marked s.kinds.items (is_within s n)) ≡ b
        → n ≤ marked s.kinds.items (is_within s n)
        → (suc n ≤ marked s.kinds.items (is_within s (suc n))) ⊎ Agree s.kinds.items (is_within s (suc n)) (is_within s (suc (suc n)))
    step true e many = inr (Agree-next s n (marked-same s.kinds.items (is_within s n) (is_within s (suc n)) (is_within-more s n) (at_most _ _ e)))
    step false e many = inl (let more = above (marked s.kinds.items (is_within s (suc n))) (marked s.kinds.items (is_within s n)) e in omega arith)

-- as many rounds as there are kinds suffice
pub within_all : (s : Schema) → Agree s.kinds.items (is_within s (length s.kinds.items)) (is_within s (suc (length s.kinds.items)))
within_all s = elim (within_cases s (length s.kinds.items)) [
  | inr same ↦ same
  | inl many ↦ marked-same s.kinds.items (is_within s (length s.kinds.items)) (is_within s (suc (length s.kinds.items)))
      (is_within-more s (length s.kinds.items))
      (let few = marked-within s.kinds.items (is_within s (suc (length s.kinds.items))) in omega arith)
]
