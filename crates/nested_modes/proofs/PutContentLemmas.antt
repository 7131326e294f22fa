-- The content of entries in which one number is put in.
use Rattle.std.proofs.Common.{◌≡◌, ◌≢◌, ◌<◌, ◌+◌, ◌%◌, ◌^◌, ℕ, Bool, true, false, cond, List, [], ◌∷◌, ◌++◌, refl, ap, sym, subst, ◌∙◌, arith, sum_by}
use Rattle.std.specs.Prelude.{nat_eq, if◌then◌else◌}
use Rattle.std.specs.List.{All}
use Rattle.std.specs.Cmp.Lexicographic.{pointwise, bytes_decides}
use Rattle.std.proofs.Math.Nat.{mod-eq_of_lt}
use Rattle.std.proofs.lemmas.List.Elements.{All-head, All-tail}
use Rattle.std.proofs.lemmas.List.Sums.{sum_by-append, sum_by-cons}
use Rattle.dt_model.specs.Pairs.{total_at}
use Rattle.nested_modes.specs.Putting.{LacksEntry, IsEntryAt, PutsEntry}

abbrev Entries : Type 0
Entries = List (List ℕ × ℕ)

-- a pair's value, where it has these coordinates
abbrev value_at : List ℕ → List ℕ × ℕ → ℕ
value_at c p = if pointwise nat_eq p.0 c then p.1 else 0

differ : (c d : List ℕ) (b : Bool) → pointwise nat_eq c d ≡ b → c ≢ d → b ≡ false
differ c d true e h = absurd (h ((bytes_decides c d).0 e))
differ c d false e h = refl

-- a pair elsewhere has no value here
value-other : (c : List ℕ) (p : List ℕ × ℕ) → p.0 ≢ c → value_at c p ≡ 0
value-other c p h = ap (λ b. cond b p.1 0) (differ p.0 c (pointwise nat_eq p.0 c) refl h)

value-here : (c : List ℕ) (v : ℕ) → value_at c (c, v) ≡ v
value-here c v = ap (λ b. cond b v 0) ((bytes_decides c c).1 refl)

sum-lacks : (c : List ℕ) (ps : Entries) → LacksEntry c ps → sum_by (value_at c) ps ≡ 0
sum-lacks c [] h = refl
sum-lacks c (p ∷ ps) h =
    let Is : List ℕ × ℕ → Type 0 = λ q. q.0 ≢ c in
    let a : value_at c p ≡ 0 = value-other c p (All-head Is p ps h) in
    let b : sum_by (value_at c) ps ≡ 0 = sum-lacks c ps (All-tail Is p ps h) in
    sum_by-cons (value_at c) p ps ∙ omega arith

sum-was : (c d : List ℕ) (was : Entries) → IsEntryAt c was → d ≢ c → sum_by (value_at d) was ≡ 0
sum-was c d [] one h = refl
sum-was c d (p ∷ []) one h =
    let a : value_at d p ≡ 0 = value-other d p (λ e. h (sym e ∙ one.0)) in
    sum_by-cons (value_at d) p [] ∙ omega arith
sum-was c d (p ∷ q ∷ ps) one h = cc (one.1)

module _ (c : List ℕ) (v : ℕ) (old new : List (List ℕ × ℕ)) (low : v < 2 ^ 64) (p : PutsEntry c v old new) where
  sum-new : (d : List ℕ) → sum_by (value_at d) new ≡ sum_by (value_at d) p.before + (value_at d (c, v) + sum_by (value_at d) p.after)
  sum-new d =
      ap (sum_by (value_at d)) p.new_is ∙ sum_by-append (value_at d) p.before ((c, v) ∷ p.after)
      ∙ ap (λ n. sum_by (value_at d) p.before + n) (sum_by-cons (value_at d) (c, v) p.after)

  sum-old : (d : List ℕ) → sum_by (value_at d) old ≡ sum_by (value_at d) p.before + (sum_by (value_at d) p.was + sum_by (value_at d) p.after)
  sum-old d =
      ap (sum_by (value_at d)) p.old_is ∙ sum_by-append (value_at d) p.before (p.was ++ p.after)
      ∙ ap (λ n. sum_by (value_at d) p.before + n) (sum_by-append (value_at d) p.was p.after)

  here : total_at new c ≡ v
  here =
      let a : sum_by (value_at c) p.before ≡ 0 = sum-lacks c p.before p.lacks_before in
      let b : sum_by (value_at c) p.after ≡ 0 = sum-lacks c p.after p.lacks_after in
      let e : value_at c (c, v) ≡ v = value-here c v in
      let all : sum_by (value_at c) new ≡ v = sum-new c ∙ omega arith in
      ap (λ n. n % 2 ^ 64) all ∙ mod-eq_of_lt low

  elsewhere : (d : List ℕ) → d ≢ c → total_at new d ≡ total_at old d
  elsewhere d h =
      let a : value_at d (c, v) ≡ 0 = value-other d (c, v) (λ e. h (sym e)) in
      let b : sum_by (value_at d) p.was ≡ 0 = sum-was c d p.was p.one h in
      let same : sum_by (value_at d) new ≡ sum_by (value_at d) old =
      let n = sum-new d in let o = sum-old d in omega (arith, n, o) in
      ap (λ n. n % 2 ^ 64) same

  pick : (d : List ℕ) (b : Bool) → pointwise nat_eq d c ≡ b → total_at new d ≡ cond b v (total_at old d)
  pick d true e = ap (total_at new) ((bytes_decides d c).0 e) ∙ here
  pick d false e = elsewhere d (λ same. let t : pointwise nat_eq d c ≡ true = (bytes_decides d c).1 same in cc)

  -- the number stands at its coordinates, and all others stay
  pub total_at-put : (d : List ℕ) → total_at new d ≡ (if pointwise nat_eq d c then v else total_at old d)
  total_at-put d = pick d (pointwise nat_eq d c) refl
