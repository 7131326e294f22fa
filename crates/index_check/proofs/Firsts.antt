-- The first dimension of each variable, kept in an array.
use Rattle.std.proofs.Common.{◌≡◌, ◌≢◌, ℕ, suc, ltb, ◌-◌, ◌<◌, ◌≤◌, [], ◌∷◌, ◌++◌, take, drop, Bool, true, false, cond, eqb, not, List, length, get_or, Option, Some, None, refl, ap, sym, ◌∙◌, arith, get_or-set_same, get_or-set_other}
use Rattle.std.proofs.Math.ListN.{set, replicate, get_or-eq_default}
use Rattle.std.specs.Prelude.{find, ◌==◌}
use Rattle.std.specs.Option.{option_map, option_or, option_and_then}
use Rattle.std.proofs.lemmas.Bool.Decides.{nat_tests}
use Rattle.std.proofs.lemmas.List.{take_all, get_or-replicate, length-replicate}
use Rattle.std.proofs.lemmas.List.Folds.{find-append}
use Rattle.dt_model.specs.Refusals.{dimension_fault, or_else, when, nth_name}
use Rattle.dt_model.specs.declared.replies.Refusal.{Refusal}
use Rattle.dt_model.specs.declared.replies.Refusal.TheVariants as because
use Rattle.index_check.specs.Parts.{IsFirsts}

-- what is behind the first of a list
pub rest_of : {X : Type 0} (x : X) (xs : List X) → take (length (x ∷ xs) - 1) (drop 1 (x ∷ xs)) ≡ xs
rest_of x xs = ap (λ n. take n xs) (one_less (length xs)) ∙ take_all (length xs) xs (omega arith)
  where
    one_less : (n : ℕ) → suc n - 1 ≡ n
    one_less n = omega arith

no_first : (o : Option (ℕ × ℕ)) → option_map (λ (q : ℕ × ℕ). q.1) o ≡ None → o ≡ None
no_first None h = refl
no_first (Some q) h = absurd (cc)

apart : (a b : ℕ) → eqb a b ≡ false → b ≢ a
apart a b h = grind (arith, nat_tests)

one : (a b : ℕ) → eqb a b ≡ true → a ≡ b
one a b h = grind (arith, nat_tests)

same : (a : ℕ) → eqb a a ≡ true
same a = grind (arith, nat_tests)

joined_firsts : (a b : Option (ℕ × ℕ)) → option_map (λ (q : ℕ × ℕ). q.1) (option_or a b)
    ≡ option_or (option_map (λ (q : ℕ × ℕ). q.1) a) (option_map (λ (q : ℕ × ℕ). q.1) b)
joined_firsts None b = refl
joined_firsts (Some q) b = refl

-- the first places after one more
one_more : (seen : List (ℕ × ℕ)) (p : ℕ × ℕ) (v : ℕ)
    → option_map (λ (q : ℕ × ℕ). q.1) (find (λ q. q.0 == v) (seen ++ p ∷ []))
    ≡ option_or (option_map (λ (q : ℕ × ℕ). q.1) (find (λ q. q.0 == v) seen)) (cond (eqb p.0 v) (Some p.1) None)
one_more seen p v = ap (option_map (λ (q : ℕ × ℕ). q.1)) (find-append (λ (q : ℕ × ℕ). q.0 == v) seen (p ∷ []))
    ∙ joined_firsts (find (λ q. q.0 == v) seen) (find (λ q. q.0 == v) (p ∷ []))
    ∙ ap (option_or (option_map (λ (q : ℕ × ℕ). q.1) (find (λ q. q.0 == v) seen))) (alone (eqb p.0 v))
  where
    alone : (b : Bool) → option_map (λ (q : ℕ × ℕ). q.1) (cond b (Some p) None) ≡ cond b (Some p.1) None
    alone true = refl
    alone false = refl

firsts_set : (seen : List (ℕ × ℕ)) (firsts : List (Option ℕ)) (p : ℕ × ℕ) → p.0 < length firsts → get_or firsts p.0 None ≡ None → IsFirsts seen firsts
    → IsFirsts (seen ++ p ∷ []) (set firsts p.0 (Some p.1))
firsts_set seen firsts p low free h v = one_more seen p v ∙ ap (λ o. option_or o (cond (eqb p.0 v) (Some p.1) None)) (h v) ∙ cases_of (eqb p.0 v) refl
  where
    or_none : (o : Option ℕ) → option_or o None ≡ o
    or_none None = refl
    or_none (Some x) = refl

    cases_of : (b : Bool) → eqb p.0 v ≡ b → option_or (get_or firsts v None) (cond b (Some p.1) None) ≡ get_or (set firsts p.0 (Some p.1)) v None
    cases_of true e = ap (λ o. option_or o (Some p.1)) (ap (λ n. get_or firsts n None) (sym (one p.0 v e)) ∙ free)
        ∙ sym (get_or-set_same firsts p.0 (Some p.1) None low) ∙ ap (λ n. get_or (set firsts p.0 (Some p.1)) n None) (one p.0 v e)
    cases_of false e = let n = apart p.0 v e in or_none (get_or firsts v None) ∙ rw get_or-set_other refl

firsts_kept : (seen : List (ℕ × ℕ)) (firsts : List (Option ℕ)) (p : ℕ × ℕ) (y : ℕ) → get_or firsts p.0 None ≡ Some y → IsFirsts seen firsts
    → IsFirsts (seen ++ p ∷ []) firsts
firsts_kept seen firsts p y held h v = one_more seen p v ∙ ap (λ o. option_or o (cond (eqb p.0 v) (Some p.1) None)) (h v) ∙ cases_of (eqb p.0 v) refl
  where
    or_none : (o : Option ℕ) → option_or o None ≡ o
    or_none None = refl
    or_none (Some x) = refl

    cases_of : (b : Bool) → eqb p.0 v ≡ b → option_or (get_or firsts v None) (cond b (Some p.1) None) ≡ get_or firsts v None
    cases_of true e = let k = sym (ap (λ n. get_or firsts n None) (one p.0 v e)) ∙ held in ap (λ o. option_or o (Some p.1)) k ∙ sym k
    cases_of false e = or_none (get_or firsts v None)

-- ---- the fault at a place

abbrev at_first : List (List ℕ) → ℕ × ℕ → Option (ℕ × ℕ) → Option Refusal
at_first names p o = option_and_then (λ (q : ℕ × ℕ). when (not (q.1 == p.1)) (because.Dimension (nth_name names p.0) q.1 p.1)) o

none_held : (names : List (List ℕ)) (p : ℕ × ℕ) (o : Option (ℕ × ℕ)) → option_map (λ (q : ℕ × ℕ). q.1) o ≡ Some p.1 → at_first names p o ≡ None
none_held names p None h = absurd (cc)
none_held names p (Some q) h =
    let e : q.1 ≡ p.1 = cc in
    ap (λ b. when (not b) (because.Dimension (nth_name names p.0) q.1 p.1)) (ap (λ n. eqb n p.1) e ∙ same p.1)

-- a variable that was not seen has no fault, and its dimension is its first
pub fault_free : (names : List (List ℕ)) (seen ps : List (ℕ × ℕ)) (firsts : List (Option ℕ)) (r : Option Refusal) → 1 ≤ length ps
    → (get_or ps 0 (0, 0)).0 < length firsts
    → get_or firsts (get_or ps 0 (0, 0)).0 None ≡ None
    → ((more : List (ℕ × ℕ)) → IsFirsts more (set firsts (get_or ps 0 (0, 0)).0 (Some (get_or ps 0 (0, 0)).1)) → r
    ≡ dimension_fault names more (take (length ps - 1) (drop 1 ps)))
    → IsFirsts seen firsts → r ≡ dimension_fault names seen ps
fault_free names seen [] firsts r n low free after h = absurd (omega arith)
fault_free names seen (p ∷ ps) firsts r n low free after h =
    after (seen ++ p ∷ []) (firsts_set seen firsts p low free h) ∙ ap (dimension_fault names (seen ++ p ∷ [])) (rest_of p ps)
    ∙ ap (λ o. or_else (at_first names p o) (dimension_fault names (seen ++ p ∷ []) ps)) (sym (no_first (find (λ q. q.0 == p.0) seen) (h p.0 ∙ free)))

-- a variable that was seen with the same dimension has no fault
pub fault_held : (names : List (List ℕ)) (seen ps : List (ℕ × ℕ)) (firsts : List (Option ℕ)) (r : Option Refusal) (y : ℕ) → 1 ≤ length ps
    → get_or firsts (get_or ps 0 (0, 0)).0 None ≡ Some y → y ≡ (get_or ps 0 (0, 0)).1
    → ((more : List (ℕ × ℕ)) → IsFirsts more firsts → r ≡ dimension_fault names more (take (length ps - 1) (drop 1 ps)))
    → IsFirsts seen firsts → r ≡ dimension_fault names seen ps
fault_held names seen [] firsts r y n held e after h = absurd (omega arith)
fault_held names seen (p ∷ ps) firsts r y n held e after h =
    after (seen ++ p ∷ []) (firsts_kept seen firsts p y held h) ∙ ap (dimension_fault names (seen ++ p ∷ [])) (rest_of p ps)
    ∙ ap (λ o. or_else o (dimension_fault names (seen ++ p ∷ []) ps)) (sym (none_held names p (find (λ q. q.0 == p.0) seen) (h p.0 ∙ held ∙ ap Some e)))

-- no place was seen
pub no_firsts : (n v : ℕ) → get_or {A = Option ℕ} (replicate n None) v None ≡ None
no_firsts n v = cases_of (ltb v n) refl
  where
    less : (a b : ℕ) → ltb a b ≡ true → a < b
    less a b h = grind (arith, nat_tests)

    more : (a b : ℕ) → ltb a b ≡ false → b ≤ a
    more a b h = grind (arith, nat_tests)

    past : (m : ℕ) → m ≡ n → ltb v n ≡ false → m ≤ v
    past m e h = let k = more v n h in omega (arith, e, k)

    cases_of : (b : Bool) → ltb v n ≡ b → get_or {A = Option ℕ} (replicate n None) v None ≡ None
    cases_of true e = get_or-replicate n v None None (less v n e)
    cases_of false e = let blanks : List (Option ℕ) = replicate n None in get_or-eq_default blanks None (past (length blanks) (length-replicate n None) e)

-- at the beginning no variable was seen
pub all_unseen : (n : ℕ) → IsFirsts [] (replicate n None)
all_unseen n = λ v. sym (no_firsts n v)
