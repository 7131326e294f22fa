-- The first variable of a term that fails a test: by its accesses, as they stand.
use Rattle.std.proofs.Common.{◌≡◌, ℕ, ◌-◌, ◌≤◌, ◌++◌, Bool, true, false, not, cond, eqb, List, [], ◌∷◌, Option, Some, None, length, take, drop, get_or, refl, ap, sym, ◌∙◌, arith, subst}
use Rattle.std.specs.Prelude.{◌||◌, ◌&&◌, filter, find}
use Rattle.std.specs.List.{flat_map}
use Rattle.std.specs.Option.{option_map, option_or}
use Rattle.std.proofs.lemmas.Bool.Decides.{nat_tests}
use Rattle.std.proofs.lemmas.List.Folds.{find-append}
use Rattle.dt_model.specs.Statements.{contains_number, distinct_after}
use Rattle.index_check.proofs.Firsts.{rest_of}

one : (a b : ℕ) → eqb a b ≡ true → a ≡ b
one a b h = grind (arith, nat_tests)

-- what was seen fails, so it may come again
find_distinct : (P : ℕ → Bool) (seen xs : List ℕ) → ((v : ℕ) → contains_number seen v ≡ true → P v ≡ false) → find P (distinct_after seen xs) ≡ find P xs
find_distinct P seen [] h = refl
find_distinct P seen (x ∷ xs) h = cases_of (contains_number seen x) refl (P x) refl (find_distinct P seen xs h) (λ k. find_distinct P (x ∷ seen) xs k)
  where
    more : P x ≡ false → (v : ℕ) → contains_number (x ∷ seen) v ≡ true → P v ≡ false
    more f v k = by_head (eqb x v) refl k
      where
        by_head : (b : Bool) → eqb x v ≡ b → (b || contains_number seen v) ≡ true → P v ≡ false
        by_head true e k = subst (λ w. P w ≡ false) (one x v e) f
        by_head false e k = h v k

    cases_of : (b : Bool) → contains_number seen x ≡ b → (q : Bool) → P x ≡ q → find P (distinct_after seen xs) ≡ find P xs
        → (((v : ℕ) → contains_number (x ∷ seen) v ≡ true → P v ≡ false) → find P (distinct_after (x ∷ seen) xs) ≡ find P xs)
        → find P (cond b (distinct_after seen xs) (x ∷ distinct_after (x ∷ seen) xs)) ≡ cond (P x) (Some x) (find P xs)
    cases_of true e q f i j = i ∙ ap (λ b. cond b (Some x) (find P xs)) (sym (h x e))
    cases_of false e true f i j = ap (λ b. cond b (Some x) (find P (distinct_after (x ∷ seen) xs))) f ∙ ap (λ b. cond b (Some x) (find P xs)) (sym f)
    cases_of false e false f i j = ap (λ o. cond (P x) (Some x) o) (j (more f))

find_filter : (P Q : ℕ → Bool) (xs : List ℕ) → find P (filter Q xs) ≡ find (λ v. Q v && P v) xs
find_filter P Q [] = refl
find_filter P Q (x ∷ xs) = cases_of (Q x) (find_filter P Q xs)
  where
    cases_of : (b : Bool) → find P (filter Q xs) ≡ find (λ v. Q v && P v) xs
        → find P (cond b (x ∷ filter Q xs) (filter Q xs)) ≡ cond (b && P x) (Some x) (find (λ v. Q v && P v) xs)
    cases_of true i = ap (λ o. cond (P x) (Some x) o) i
    cases_of false i = i

or_mapped : {X Y : Type 0} (g : X → Y) (a b : Option X) → option_map g (option_or a b) ≡ option_or (option_map g a) (option_map g b)
or_mapped g None b = refl
or_mapped g (Some x) b = refl

none_seen : (P : ℕ → Bool) (v : ℕ) → contains_number [] v ≡ true → P v ≡ false
none_seen P v h = absurd (cc)

-- the first variable that is not covered, on the left or else among those of the accesses that are not on the left
pub uncovered : {Y : Type 0} (g : ℕ → Y) (P : ℕ → Bool) (left xs : List ℕ)
    → option_map g (find P (left ++ filter (λ v. not (contains_number left v)) (distinct_after [] xs)))
    ≡ option_or (option_map g (find P left)) (option_map g (find (λ v. not (contains_number left v) && P v) xs))
uncovered g P left xs =
    ap (option_map g) (find-append P left (filter (λ v. not (contains_number left v)) (distinct_after [] xs))
    ∙ ap (option_or (find P left)) (find_filter P (λ v. not (contains_number left v)) (distinct_after [] xs)
    ∙ find_distinct (λ v. not (contains_number left v) && P v) [] xs (none_seen (λ v. not (contains_number left v) && P v))))
    ∙ or_mapped g (find P left) (find (λ v. not (contains_number left v) && P v) xs)

-- a first reason that is found is the reason
pub term_some : {Y : Type 0} (g : ℕ → Y) (P : ℕ → Bool) (left xs : List ℕ) (found : Option Y) (r : Y) → found ≡ option_map g (find P left) → found ≡ Some r
    → Some r ≡ option_map g (find P (left ++ filter (λ v. not (contains_number left v)) (distinct_after [] xs)))
term_some g P left xs found r h k = ap (λ o. option_or o (option_map g (find (λ v. not (contains_number left v) && P v) xs))) (sym k ∙ h)
    ∙ sym (uncovered g P left xs)

-- without a first reason the later one is the reason
pub term_none : {Y : Type 0} (g : ℕ → Y) (P : ℕ → Bool) (left xs : List ℕ) (found r : Option Y) → found ≡ option_map g (find P left) → found ≡ None
    → r ≡ option_map g (find (λ v. not (contains_number left v) && P v) xs)
    → r ≡ option_map g (find P (left ++ filter (λ v. not (contains_number left v)) (distinct_after [] xs)))
term_none g P left xs found r h k later = later ∙ ap (λ o. option_or o (option_map g (find (λ v. not (contains_number left v) && P v) xs))) (sym k ∙ h)
    ∙ sym (uncovered g P left xs)

-- a find that succeeds in the first part of a list
pub in_first : {Y : Type 0} (g : ℕ → Y) (P : ℕ → Bool) (accs : List (List ℕ × List ℕ)) (a : List ℕ × List ℕ) (ws : List ℕ) (found : Option Y) (r : Y)
    → 1 ≤ length accs → a ≡ get_or accs 0 a → ws ≡ a.1
    → found ≡ option_map g (find P ws) → found ≡ Some r → Some r ≡ option_map g (find P (flat_map (λ (b : List ℕ × List ℕ). b.1) accs))
in_first g P [] a ws found r n e w h k = absurd (omega arith)
in_first g P (b ∷ accs) a ws found r n e w h k =
    ap (λ o. option_or o (option_map g (find P (flat_map (λ (q : List ℕ × List ℕ). q.1) accs)))) (sym k ∙ h
    ∙ ap (λ t. option_map g (find P t)) (w ∙ ap (λ (q : List ℕ × List ℕ). q.1) e))
    ∙ sym (ap (option_map g) (find-append P b.1 (flat_map (λ (q : List ℕ × List ℕ). q.1) accs))
    ∙ or_mapped g (find P b.1) (find P (flat_map (λ (q : List ℕ × List ℕ). q.1) accs)))

-- a find that fails in the first part goes on in the second
pub in_others : {Y : Type 0} (g : ℕ → Y) (P : ℕ → Bool) (accs : List (List ℕ × List ℕ)) (a : List ℕ × List ℕ) (ws : List ℕ) (found r : Option Y)
    → 1 ≤ length accs → a ≡ get_or accs 0 a → ws ≡ a.1
    → found ≡ option_map g (find P ws) → found ≡ None → r
    ≡ option_map g (find P (flat_map (λ (b : List ℕ × List ℕ). b.1) (take (length accs - 1) (drop 1 accs))))
    → r ≡ option_map g (find P (flat_map (λ (b : List ℕ × List ℕ). b.1) accs))
in_others g P [] a ws found r n e w h k later = absurd (omega arith)
in_others g P (b ∷ accs) a ws found r n e w h k later =
    later ∙ ap (λ (t : List (List ℕ × List ℕ)). option_map g (find P (flat_map (λ (q : List ℕ × List ℕ). q.1) t))) (rest_of b accs)
    ∙ ap (λ o. option_or o (option_map g (find P (flat_map (λ (q : List ℕ × List ℕ). q.1) accs)))) (sym k ∙ h
    ∙ ap (λ t. option_map g (find P t)) (w ∙ ap (λ (q : List ℕ × List ℕ). q.1) e))
    ∙ sym (ap (option_map g) (find-append P b.1 (flat_map (λ (q : List ℕ × List ℕ). q.1) accs))
    ∙ or_mapped g (find P b.1) (find P (flat_map (λ (q : List ℕ × List ℕ). q.1) accs)))
