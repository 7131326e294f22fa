-- The content at coordinates is what the element of the leading one holds at the others.
use Rattle.std.proofs.Common.{◌≡◌, ◌≢◌, ◌≤◌, ◌<◌, ◌+◌, ◌%◌, ◌^◌, ◌&&◌, ℕ, Bool, true, false, List, [], ◌∷◌, Some, None, refl, ap, sym, ◌∙◌, arith, sum_by, flat_map}
use Rattle.std.specs.Prelude.{nat_eq, if◌then◌else◌}
use Rattle.std.specs.Cmp.Lexicographic.{pointwise}
use Rattle.std.proofs.lemmas.Bool.{eq-eqb, eqb-true, ne_eqb, eqb-false}
use Rattle.std.proofs.lemmas.List.Sums.{sum_by-append, sum_by-cons}
use Rattle.dt_model.specs.Pairs.{total_at}
use Rattle.iter_gen.specs.LookingUp.{elem_with}
use Rattle.iter_gen.proofs.WalkersLemmas.{conforms-rising}
use Rattle.node_arena.specs.declared.elements.Elem.{Elem}
use Rattle.node_arena.specs.declared.elements.Structure.{Structure}
use Rattle.node_arena.specs.Conforming.{IsRising, RisesFrom}
use Rattle.node_arena.specs.Modes.{Mode, tree_in, walk_in, IsNested, under, entries_held, entries_in, content_in}

-- ---- sums

-- a pair's value, where it has these coordinates
abbrev value_at : List ℕ → List ℕ × ℕ → ℕ
value_at c p = if pointwise nat_eq p.0 c then p.1 else 0

-- below the same leading coordinate, the values are those at the other coordinates
sum-under_same : (n m : ℕ) (c : List ℕ) (ps : List (List ℕ × ℕ)) → n ≡ m → sum_by (value_at (m ∷ c)) (under n ps) ≡ sum_by (value_at c) ps
sum-under_same n m c [] e = refl
sum-under_same n m c (p ∷ ps) e =
    sum_by-cons (value_at (m ∷ c)) (n ∷ p.0, p.1) (under n ps)
    ∙ ap (λ b. (if b && pointwise nat_eq p.0 c then p.1 else 0) + sum_by (value_at (m ∷ c)) (under n ps)) (eq-eqb n m e)
    ∙ ap (λ s. value_at c p + s) (sum-under_same n m c ps e)
    ∙ sym (sum_by-cons (value_at c) p ps)

-- below another leading coordinate, there are none
sum-under_other : (n m : ℕ) (c : List ℕ) (ps : List (List ℕ × ℕ)) → n ≢ m → sum_by (value_at (m ∷ c)) (under n ps) ≡ 0
sum-under_other n m c [] e = refl
sum-under_other n m c (p ∷ ps) e =
    sum_by-cons (value_at (m ∷ c)) (n ∷ p.0, p.1) (under n ps)
    ∙ ap (λ b. (if b && pointwise nat_eq p.0 c then p.1 else 0) + sum_by (value_at (m ∷ c)) (under n ps)) (ne_eqb n m e)
    ∙ ap (λ s. 0 + s) (sum-under_other n m c ps e)

-- ---- the elements of a walk

-- no element of a list that rises has a coordinate that isn't above
none-rising : (n c : ℕ) (es : List Elem) → RisesFrom n es → c ≤ n → elem_with c es ≡ None
none-rising n c [] r l = refl
none-rising n c (e ∷ es) r l =
    let up : n < e.at = r.0 in
    let differs : e.at ≢ c = λ same. absurd (omega arith) in
    ap (λ b. if b then Some e else elem_with c es) (ne_eqb e.at c differs) ∙ none-rising e.at c es r.1 (omega arith)

module _ (entries : Elem → List (List ℕ × ℕ)) (c : ℕ) (cs : List ℕ) where
  -- all entries of the elements
  abbrev all_of : List Elem → List (List ℕ × ℕ)
  all_of es = flat_map (λ e. under e.at (entries e)) es

  sum-cons : (e : Elem) (es : List Elem)
      → sum_by (value_at (c ∷ cs)) (all_of (e ∷ es)) ≡ sum_by (value_at (c ∷ cs)) (under e.at (entries e)) + sum_by (value_at (c ∷ cs)) (all_of es)
  sum-cons e es = sum_by-append (value_at (c ∷ cs)) (under e.at (entries e)) (all_of es)

  sum-none_cons : (e : Elem) (es : List Elem) (b : Bool) → nat_eq e.at c ≡ b → (if b then Some e else elem_with c es) ≡ None
      → (elem_with c es ≡ None → sum_by (value_at (c ∷ cs)) (all_of es) ≡ 0) → sum_by (value_at (c ∷ cs)) (all_of (e ∷ es)) ≡ 0
  sum-none_cons e es true t h rest = cc
  sum-none_cons e es false t h rest = omega (arith, sum-cons e es, sum-under_other e.at c cs (entries e) (eqb-false e.at c t), rest h)

  -- where no element has the coordinate, the content below it is 0
  sum-none : (es : List Elem) → elem_with c es ≡ None → sum_by (value_at (c ∷ cs)) (all_of es) ≡ 0
  sum-none [] h = refl
  sum-none (e ∷ es) h = sum-none_cons e es (nat_eq e.at c) refl h (sum-none es)

  some-first : (e x : Elem) → Some e ≡ Some x → e ≡ x
  some-first e x h = cc

  sum-some_cons : (e : Elem) (es : List Elem) (x : Elem) (b : Bool) → nat_eq e.at c ≡ b → (if b then Some e else elem_with c es) ≡ Some x
      → RisesFrom e.at es → (elem_with c es ≡ Some x → sum_by (value_at (c ∷ cs)) (all_of es) ≡ sum_by (value_at cs) (entries x))
      → sum_by (value_at (c ∷ cs)) (all_of (e ∷ es)) ≡ sum_by (value_at cs) (entries x)
  sum-some_cons e es x true t h r rest =
      let same : e.at ≡ c = eqb-true e.at c t in
      let later : sum_by (value_at (c ∷ cs)) (all_of es) ≡ 0 = sum-none es (none-rising e.at c es r (omega arith)) in
      let here : sum_by (value_at (c ∷ cs)) (under e.at (entries e)) ≡ sum_by (value_at cs) (entries e) = sum-under_same e.at c cs (entries e) same in
      let both : sum_by (value_at (c ∷ cs)) (all_of (e ∷ es)) ≡ sum_by (value_at cs) (entries e) = omega (arith, sum-cons e es, later, here) in
      both ∙ ap (λ y. sum_by (value_at cs) (entries y)) (some-first e x h)
  sum-some_cons e es x false t h r rest = omega (arith, sum-cons e es, sum-under_other e.at c cs (entries e) (eqb-false e.at c t), rest h)

  rising-tail : (e : Elem) (es : List Elem) → RisesFrom e.at es → IsRising es
  rising-tail e [] r = tt
  rising-tail e (x ∷ es) r = r.1

  -- the content below an element's coordinate is that of what it holds
  sum-some : (es : List Elem) (x : Elem) → IsRising es → elem_with c es ≡ Some x → sum_by (value_at (c ∷ cs)) (all_of es) ≡ sum_by (value_at cs) (entries x)
  sum-some [] x r h = cc
  sum-some (e ∷ es) x r h = sum-some_cons e es x (nat_eq e.at c) refl h r (sum-some es x (rising-tail e es r))

-- ---- the content

-- the walk of a nested structure rises
pub walk-rising : (m : Mode) (ms : List Mode) (st : Structure) → IsNested (m ∷ ms) st → IsRising (walk_in m st)
walk-rising m ms st h = conforms-rising m.kinds m.root st (tree_in m.arena st) h.structure.conforms

-- where no element has the leading coordinate, the content is 0
pub content-none : (m : Mode) (ms : List Mode) (st : Structure) (c : ℕ) (cs : List ℕ) → elem_with c (walk_in m st) ≡ None → content_in (m ∷ ms) st (c ∷ cs) ≡ 0
content-none m ms st c cs h = ap (λ n. n % 2 ^ 64) (sum-none (λ e. entries_held (λ below. entries_in ms below) e.held) c cs (walk_in m st) h)

-- the content is that of what the element with the leading coordinate holds
pub content-some : (m : Mode) (ms : List Mode) (st : Structure) (c : ℕ) (cs : List ℕ) (x : Elem) → IsNested (m ∷ ms) st
    → elem_with c (walk_in m st) ≡ Some x → content_in (m ∷ ms) st (c ∷ cs) ≡ total_at (entries_held (λ below. entries_in ms below) x.held) cs
content-some m ms st c cs x h e =
    ap (λ n. n % 2 ^ 64) (sum-some (λ e. entries_held (λ below. entries_in ms below) e.held) c cs (walk_in m st) x (walk-rising m ms st h) e)
