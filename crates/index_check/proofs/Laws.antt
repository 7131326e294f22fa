-- The definitions over expressions, at what code matches.
use Rattle.std.proofs.Common.{◌≡◌, ℕ, ◌+◌, ◌++◌, Bool, false, not, eqb, List, [], ◌∷◌, length, length-append, refl, ap, ◌∙◌, arith, suc, sym}
use Rattle.std.specs.Prelude.{◌&&◌, ◌==◌, option_and_then}
use Rattle.std.proofs.lemmas.Bool.Decides.{nat_tests}
use Rattle.dt_model.specs.declared.statements.Expr.{Expr}
use Rattle.dt_model.specs.declared.statements.Expr.TheViews.{Plus, Minus, Times, Negate}
use Rattle.dt_model.specs.Statements.{accesses, literals, terms_under}
use Rattle.dt_model.proofs.StatementsLemmas.{accesses-Plus, accesses-Minus, accesses-Times, accesses-Negate, literals-Plus, literals-Minus, literals-Times, literals-Negate, terms_under-Plus, terms_under-Minus, terms_under-Times, terms_under-Negate}
use Rattle.dt_model.proofs.RefusalsLemmas.{covers-Plus, covers-Minus, covers-Times, covers-Negate}
use Rattle.index_check.specs.declared.limits.Room.{Room}
use Rattle.index_check.specs.Parts.{has_no_access}
use Rattle.index_check.specs.Small.{room_less, room_after}
use Rattle.index_check.proofs.SmallLemmas.{room_after-both}

pub ruleset access_laws = (accesses-Plus, accesses-Minus, accesses-Times, accesses-Negate)

pub ruleset term_laws = (terms_under-Plus, terms_under-Minus, terms_under-Times, terms_under-Negate)

pub ruleset cover_laws = (covers-Plus, covers-Minus, covers-Times, covers-Negate)

-- a sum has the accesses of both sides
pub length_accesses-Plus : (a b : Expr) → length (accesses (Plus a b)) ≡ length (accesses a) + length (accesses b)
length_accesses-Plus a b = ap length (accesses-Plus a b) ∙ length-append (accesses a) (accesses b)

-- a difference has the accesses of both sides
pub length_accesses-Minus : (a b : Expr) → length (accesses (Minus a b)) ≡ length (accesses a) + length (accesses b)
length_accesses-Minus a b = ap length (accesses-Minus a b) ∙ length-append (accesses a) (accesses b)

-- a product has the accesses of both sides
pub length_accesses-Times : (a b : Expr) → length (accesses (Times a b)) ≡ length (accesses a) + length (accesses b)
length_accesses-Times a b = ap length (accesses-Times a b) ∙ length-append (accesses a) (accesses b)

-- a negation has those of its operand
pub length_accesses-Negate : (a : Expr) → length (accesses (Negate a)) ≡ length (accesses a)
length_accesses-Negate a = ap length (accesses-Negate a)

pub ruleset access_count_laws = (
  accesses-Plus,
  accesses-Minus,
  accesses-Times,
  accesses-Negate,
  length_accesses-Plus,
  length_accesses-Minus,
  length_accesses-Times,
  length_accesses-Negate,
)

-- a sum has the terms of both sides
pub length_terms-Plus : (added : Bool) (a b : Expr) → length (terms_under added (Plus a b)) ≡ length (terms_under added a) + length (terms_under added b)
length_terms-Plus added a b = ap length (terms_under-Plus added a b) ∙ length-append (terms_under added a) (terms_under added b)

-- a difference has the terms of both sides
pub length_terms-Minus : (added : Bool) (a b : Expr)
    → length (terms_under added (Minus a b)) ≡ length (terms_under added a) + length (terms_under (not added) b)
length_terms-Minus added a b = ap length (terms_under-Minus added a b) ∙ length-append (terms_under added a) (terms_under (not added) b)

-- a product is one term
pub length_terms-Times : (added : Bool) (a b : Expr) → length (terms_under added (Times a b)) ≡ 1
length_terms-Times added a b = ap length (terms_under-Times added a b)

-- a negation has the terms of its operand
pub length_terms-Negate : (added : Bool) (a : Expr) → length (terms_under added (Negate a)) ≡ length (terms_under (not added) a)
length_terms-Negate added a = ap length (terms_under-Negate added a)

pub ruleset term_count_laws = (length_terms-Plus, length_terms-Minus, length_terms-Times, length_terms-Negate)

pub ruleset count_laws = (
  length_accesses-Plus,
  length_accesses-Minus,
  length_accesses-Times,
  length_accesses-Negate,
  length_terms-Plus,
  length_terms-Minus,
  length_terms-Times,
  length_terms-Negate,
)

-- a sum leaves what its second side leaves of what its first one does
pub room_after-Plus : (r : Room) (a b : Expr) → room_after r (Plus a b) ≡ option_and_then (λ s. room_after s b) (room_after r a)
room_after-Plus r a b = room_after-both r a b (Plus a b) (length_accesses-Plus a b) (ap length (literals-Plus a b) ∙ length-append (literals a) (literals b))

-- a difference leaves what its second side leaves of what its first one does
pub room_after-Minus : (r : Room) (a b : Expr) → room_after r (Minus a b) ≡ option_and_then (λ s. room_after s b) (room_after r a)
room_after-Minus r a b = room_after-both r a b (Minus a b) (length_accesses-Minus a b)
    (ap length (literals-Minus a b) ∙ length-append (literals a) (literals b))

-- a product leaves what its second side leaves of what its first one does
pub room_after-Times : (r : Room) (a b : Expr) → room_after r (Times a b) ≡ option_and_then (λ s. room_after s b) (room_after r a)
room_after-Times r a b = room_after-both r a b (Times a b) (length_accesses-Times a b)
    (ap length (literals-Times a b) ∙ length-append (literals a) (literals b))

-- a negation leaves what its operand does
pub room_after-Negate : (r : Room) (a : Expr) → room_after r (Negate a) ≡ room_after r a
room_after-Negate r a = ap (λ n. room_less r n (length (literals (Negate a)))) (length_accesses-Negate a)
    ∙ ap (λ n. room_less r (length (accesses a)) n) (ap length (literals-Negate a))

none_of : {X : Type 0} (xs ys : List X) → (length (xs ++ ys) == 0) ≡ ((length xs == 0) && (length ys == 0))
none_of [] ys = refl
none_of (x ∷ xs) ys = not_zero (length (xs ++ ys)) ∙ sym (ap (λ b. b && (length ys == 0)) (not_zero (length xs)))
  where
    not_zero : (n : ℕ) → eqb (suc n) 0 ≡ false
    not_zero n = grind (arith, nat_tests)

-- a sum has no access where neither side has
pub none-Plus : (a b : Expr) → has_no_access (Plus a b) ≡ (has_no_access a && has_no_access b)
none-Plus a b = ap (λ (t : List (List ℕ × List ℕ)). length t == 0) (accesses-Plus a b) ∙ none_of (accesses a) (accesses b)

-- a difference has no access where neither side has
pub none-Minus : (a b : Expr) → has_no_access (Minus a b) ≡ (has_no_access a && has_no_access b)
none-Minus a b = ap (λ (t : List (List ℕ × List ℕ)). length t == 0) (accesses-Minus a b) ∙ none_of (accesses a) (accesses b)

-- a product has no access where neither factor has
pub none-Times : (a b : Expr) → has_no_access (Times a b) ≡ (has_no_access a && has_no_access b)
none-Times a b = ap (λ (t : List (List ℕ × List ℕ)). length t == 0) (accesses-Times a b) ∙ none_of (accesses a) (accesses b)

-- a negation has no access where its operand has none
pub none-Negate : (a : Expr) → has_no_access (Negate a) ≡ has_no_access a
none-Negate a = ap (λ (t : List (List ℕ × List ℕ)). length t == 0) (accesses-Negate a)

pub ruleset none_laws = (none-Plus, none-Minus, none-Times, none-Negate)
