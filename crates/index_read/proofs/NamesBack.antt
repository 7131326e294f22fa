-- The variables of a statement are found again under their places, so that an expression is what its canonical trees mean.
use Rattle.std.proofs.Common.{◌≡◌, ℕ, suc, ◌+◌, ◌++◌, Bool, true, false, cond, List, [], ◌∷◌, map, fold, refl, ap, sym, ◌∙◌, subst, arith, nat_eq}
use Rattle.std.specs.Prelude.{⊤, ◌||◌}
use Rattle.std.specs.Cmp.Lexicographic.{pointwise}
use Rattle.std.proofs.lemmas.Bool.Decides.{nat_tests}
use Rattle.std.proofs.lemmas.List.Folds.{list_any-append}
use Rattle.dt_model.proofs.Booleans.{both_true}
use Rattle.index_read.specs.Scans.{has_name}
use Rattle.index_read.specs.Building.{place_of, place_from}
use Rattle.index_read.specs.Excess.{with_name}
use Rattle.index_read.specs.Canonical.{name_at}
use Rattle.index_read.proofs.Places.{Begun, itself}
use Rattle.index_read.proofs.Built.{fold_begun}

-- ---- the name at the place of a name

-- texts that are equal byte by byte
same_text : (xs ys : List ℕ) → pointwise nat_eq xs ys ≡ true → xs ≡ ys
same_text [] [] e = refl
same_text [] (y ∷ ys) e = absurd (cc)
same_text (x ∷ xs) [] e = absurd (cc)
same_text (x ∷ xs) (y ∷ ys) e =
    let both = both_true (nat_eq x y) (pointwise nat_eq xs ys) e in
    let test = both.0 in
    let first : x ≡ y = grind (arith, nat_tests) in
    ap (λ z. z ∷ xs) first ∙ ap (λ zs. y ∷ zs) (same_text xs ys both.1)

-- a name is found m places behind the first one
abbrev IsFound : List (List ℕ) → ℕ → List ℕ → ℕ → Type 0
IsFound W k n found = (m : ℕ) × (found ≡ k + m) × (name_at W m ≡ n)

found_by : (k : ℕ) (v n : List ℕ) (W : List (List ℕ)) (b : Bool) → pointwise nat_eq v n ≡ b → (b || has_name W n) ≡ true
    → (has_name W n ≡ true → IsFound W (k + 1) n (place_from (k + 1) W n)) → IsFound (v ∷ W) k n (cond b k (place_from (k + 1) W n))
found_by k v n W true e h more = let same : k ≡ k + 0 = omega arith in (0, same, same_text v n e)
found_by k v n W false e h more =
    let rest = more h in
    let same : k + 1 + rest.0 ≡ k + suc rest.0 = omega arith in
    (suc rest.0, rest.1 ∙ same, rest.2)

found : (W : List (List ℕ)) (k : ℕ) (n : List ℕ) → has_name W n ≡ true → IsFound W k n (place_from k W n)
found [] k n h = absurd (cc)
found (v ∷ W) k n h = found_by k v n W (pointwise nat_eq v n) refl h (λ e. found W (k + 1) n e)

-- the name at its place
pub name_at-place_of : (V : List (List ℕ)) (n : List ℕ) → has_name V n ≡ true → name_at V (place_of V n) ≡ n
name_at-place_of V n h =
    let it = found V 0 n h in
    let same : place_of V n ≡ it.0 = it.1 ∙ omega arith in
    ap (name_at V) same ∙ it.2

-- ---- names among the variables

-- each of some names is among them
abbrev pub AreIn : List (List ℕ) → List (List ℕ) → Type 0
AreIn V [] = ⊤
AreIn V (n ∷ ns) = (has_name V n ≡ true) × AreIn V ns

-- the names of two parts
pub AreIn-split : (V xs ys : List (List ℕ)) → AreIn V (xs ++ ys) → AreIn V xs × AreIn V ys
AreIn-split V [] ys h = (tt, h)
AreIn-split V (x ∷ xs) ys h = let rest = AreIn-split V xs ys h.1 in ((h.0, rest.0), rest.1)

-- names found again
pub names_back : (V ns : List (List ℕ)) → AreIn V ns → map (name_at V) (map (place_of V) ns) ≡ ns
names_back V [] h = refl
names_back V (n ∷ ns) h =
    ap (λ x. x ∷ map (name_at V) (map (place_of V) ns)) (name_at-place_of V n h.0) ∙ ap (λ xs. n ∷ xs) (names_back V ns h.1)

or_true : (a b : Bool) → (a ≡ true) → (a || b) ≡ true
or_true true b e = refl
or_true false b e = absurd (cc)

or_last : (a b : Bool) → b ≡ true → (a || b) ≡ true
or_last true b e = refl
or_last false b e = e

-- a name that is among the first ones is among all
in_begun : (xs all : List (List ℕ)) (n : List ℕ) → Begun xs all → has_name xs n ≡ true → has_name all n ≡ true
in_begun xs all n b h =
    ap (λ ys. has_name ys n) b.is ∙ list_any-append (λ v. pointwise nat_eq v n) xs b.more ∙ or_true (has_name xs n) (has_name b.more n) h

with_name_has : (W : List (List ℕ)) (n : List ℕ) (b : Bool) → has_name W n ≡ b → has_name (cond b W (W ++ n ∷ [])) n ≡ true
with_name_has W n true e = e
with_name_has W n false e =
    let last : has_name (n ∷ []) n ≡ true = rw (itself n) refl in
    list_any-append (λ v. pointwise nat_eq v n) W (n ∷ []) ∙ or_last (has_name W n) (has_name (n ∷ []) n) last

-- names that are added are among all
pub AreIn-fold : (ns W V : List (List ℕ)) → V ≡ fold with_name W ns → AreIn V ns
AreIn-fold [] W V e = tt
AreIn-fold (n ∷ ns) W V e =
    let X = with_name W n in
    let begun : Begun X V = subst (λ r. Begun X r) (sym e) (fold_begun ns X) in
    (in_begun X V n begun (with_name_has W n (has_name W n) refl), AreIn-fold ns X V e)
