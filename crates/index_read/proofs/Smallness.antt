-- What is read is small.
use Rattle.std.proofs.Common.{◌≡◌, ℕ, suc, ◌+◌, ◌-◌, ◌<◌, ◌≤◌, ◌++◌, Bool, true, false, not, cond, List, [], ◌∷◌, length, map, fold, refl, ap, sym, ◌∙◌}
use Rattle.std.proofs.Common.{subst, arith, nat_lt, nat_eq}
use Rattle.std.specs.Prelude.{◌||◌, ◌==◌}
use Rattle.std.specs.List.{flat_map, list_any, range_with_len}
use Rattle.std.specs.Cmp.Lexicographic.{pointwise}
use Rattle.std.proofs.lemmas.Bool.Decides.{nat_tests}
use Rattle.std.proofs.lemmas.List.{append-nil, map-append, length-append}
use Rattle.std.proofs.lemmas.Grind.{flat_map-append}
use Rattle.std.proofs.lemmas.List.Folds.{list_any-append}
use Rattle.dt_model.specs.Statements.{accesses, contains_number, distinct_after}
use Rattle.dt_model.specs.Verdicts.{names_differ, places_of, is_by_appearance}
use Rattle.dt_model.proofs.Booleans.{both_true, not_true, true_both}
use Rattle.dt_model.proofs.StatementsLemmas.{accesses-Plus, accesses-Minus, accesses-Times, accesses-Negate}
use Rattle.index_read.specs.Scans.{has_name}
use Rattle.index_read.specs.Building.{place_of, place_from}
use Rattle.index_read.specs.Grammar.{Factor, Number, Access, Parens, Factors, One, Times, Terms, First, Negated, Plus, Minus, Left}
use Rattle.index_read.specs.Meaning.{factor_expr, factors_expr, terms_expr, factor_names, factors_names, terms_names, vars_of}
use Rattle.index_read.specs.Excess.{with_name, distinct}
use Rattle.index_read.specs.Meaning.{left_names, meaning}
use Rattle.index_read.proofs.Places.{itself, Begun, place_of-kept}
use Rattle.index_read.proofs.Built.{fold_begun}

-- the places of an expression's accesses are those of its variables
abbrev places : List (List ℕ × List ℕ) → List ℕ
places as' = flat_map (λ x. x.1) as'

both_places : (V : List (List ℕ)) (xs ys : List (List ℕ × List ℕ)) (us vs : List (List ℕ)) → places xs ≡ map (place_of V) us → places ys ≡ map (place_of V) vs
    → places (xs ++ ys) ≡ map (place_of V) (us ++ vs)
both_places V xs ys us vs p q = flat_map-append (λ x. x.1) xs ys ∙ ap (λ r. r ++ places ys) p ∙ ap (λ r. map (place_of V) us ++ r) q
    ∙ sym (map-append (place_of V) us vs)

-- a factor, factors and terms
mutual
  pub factor_places : (f : Factor) (V : List (List ℕ)) → places (accesses (factor_expr V f)) ≡ map (place_of V) (factor_names f)
  factor_places (Number n) V = refl
  factor_places (Access t v vs) V = append-nil (map (place_of V) (v ∷ vs))
  factor_places (Parens e) V = terms_places e V

  pub factors_places : (fs : Factors) (V : List (List ℕ)) → places (accesses (factors_expr V fs)) ≡ map (place_of V) (factors_names fs)
  factors_places (One f) V = factor_places f V
  factors_places (Times fs f) V = ap places (accesses-Times (factors_expr V fs) (factor_expr V f))
      ∙ both_places V (accesses (factors_expr V fs)) (accesses (factor_expr V f)) (factors_names fs) (factor_names f) (factors_places fs V) (factor_places f V)

  pub terms_places : (e : Terms) (V : List (List ℕ)) → places (accesses (terms_expr V e)) ≡ map (place_of V) (terms_names e)
  terms_places (First fs) V = factors_places fs V
  terms_places (Negated fs) V = ap places (accesses-Negate (factors_expr V fs)) ∙ factors_places fs V
  terms_places (Plus e fs) V = ap places (accesses-Plus (terms_expr V e) (factors_expr V fs))
      ∙ both_places V (accesses (terms_expr V e)) (accesses (factors_expr V fs)) (terms_names e) (factors_names fs) (terms_places e V) (factors_places fs V)
  terms_places (Minus e fs) V = ap places (accesses-Minus (terms_expr V e) (factors_expr V fs))
      ∙ both_places V (accesses (terms_expr V e)) (accesses (factors_expr V fs)) (terms_names e) (factors_names fs) (terms_places e V) (factors_places fs V)

-- ---- by first appearance

bound_by : (n : ℕ) (v name : List ℕ) (W : List (List ℕ)) (b : Bool) → (b || has_name W name) ≡ true
    → (has_name W name ≡ true → place_from (n + 1) W name < n + 1 + length W)
    → cond b n (place_from (n + 1) W name) < n + length (v ∷ W)
bound_by n v name W true h rest = omega arith
bound_by n v name W false h rest = omega (arith, rest h)

place_bound : (W : List (List ℕ)) (n : ℕ) (name : List ℕ) → has_name W name ≡ true → place_from n W name < n + length W
place_bound [] n name h = absurd (cc)
place_bound (v ∷ W) n name h = bound_by n v name W (pointwise nat_eq v name) h (place_bound W (n + 1) name)

new_by : (n : ℕ) (v name : List ℕ) (W : List (List ℕ)) (b : Bool) → (b || has_name W name) ≡ false
    → (has_name W name ≡ false → place_from (n + 1) (W ++ name ∷ []) name ≡ n + 1 + length W)
    → cond b n (place_from (n + 1) (W ++ name ∷ []) name) ≡ n + length (v ∷ W)
new_by n v name W true h rest = absurd (cc)
new_by n v name W false h rest = rest h ∙ omega arith

-- a new name stands at the end
place_new : (W : List (List ℕ)) (n : ℕ) (name : List ℕ) → has_name W name ≡ false → place_from n (W ++ name ∷ []) name ≡ n + length W
place_new [] n name h = rw (itself name) (omega arith)
place_new (v ∷ W) n name h = new_by n v name W (pointwise nat_eq v name) h (place_new W (n + 1) name)

-- what is listed behind those that are there
abbrev Appears : List (List ℕ) → List (List ℕ) → List ℕ → List (List ℕ) → Type 0
Appears V W seen names = distinct_after seen (map (place_of V) names) ≡ range_with_len (length W) (length V - length W)

seen_more : (seen : List ℕ) (m p : ℕ) → contains_number seen p ≡ nat_lt p m → contains_number (m ∷ seen) p ≡ nat_lt p (m + 1)
seen_more seen m p e = ap (λ b. (m == p) || b) e ∙ tests m p where
  tests : (m p : ℕ) → ((m == p) || nat_lt p m) ≡ nat_lt p (m + 1)
  tests m p = grind (arith, nat_tests)

or_last : (a b : Bool) → b ≡ true → (a || b) ≡ true
or_last true b e = refl
or_last false b e = e

added_name : (W : List (List ℕ)) (n : List ℕ) → has_name (W ++ n ∷ []) n ≡ true
added_name W n = let last : has_name (n ∷ []) n ≡ true = rw (itself n) refl in list_any-append (λ v. pointwise nat_eq v n) W (n ∷ [])
    ∙ or_last (has_name W n) (has_name (n ∷ []) n) last

begun_length : (xs ys : List (List ℕ)) → Begun xs ys → length xs ≤ length ys
begun_length xs ys b = let len : length ys ≡ length xs + length b.more = ap length b.is ∙ length-append xs b.more in omega (arith, len)

-- a name that is among them is left out, and a new one is listed with the next place
appear_by : (V W : List (List ℕ)) (seen : List ℕ) (n : List ℕ) (ns : List (List ℕ)) (b : Bool) → has_name W n ≡ b
    → V ≡ fold with_name (cond b W (W ++ n ∷ [])) ns → ((p : ℕ) → contains_number seen p ≡ nat_lt p (length W))
    → ((X : List (List ℕ)) (s : List ℕ) → V ≡ fold with_name X ns → ((p : ℕ) → contains_number s p ≡ nat_lt p (length X)) → Appears V X s ns)
    → Appears V W seen (n ∷ ns)
appear_by V W seen n ns true h v k more =
    let among : Begun W V = subst (λ r. Begun W r) (sym v) (fold_begun ns W) in
    let place : place_of W n ≡ place_of V n = place_of-kept W V n among h in
    let low : place_of W n < 0 + length W = place_bound W 0 n h in
    let there : nat_lt (place_of W n) (length W) ≡ true = grind (arith, nat_tests, low) in
    let seen_it : contains_number seen (place_of V n) ≡ true = ap (contains_number seen) (sym place) ∙ k (place_of W n) ∙ there in
    rw seen_it (more W seen v k)
appear_by V W seen n ns false h v k more =
    let X = W ++ n ∷ [] in
    let among : Begun X V = subst (λ r. Begun X r) (sym v) (fold_begun ns X) in
    let len : length X ≡ length W + 1 = length-append W (n ∷ []) in
    let is_there : has_name X n ≡ true = added_name W n in
    let new : place_of X n ≡ 0 + length W = place_new W 0 n h in
    let zero_more : 0 + length W ≡ length W = omega arith in
    let place : place_of V n ≡ length W = sym (place_of-kept X V n among is_there) ∙ new ∙ zero_more in
    let past : nat_lt (length W) (length W) ≡ false = grind (arith, nat_tests) in
    let unseen : contains_number seen (length W) ≡ false = k (length W) ∙ past in
    let longer : length X ≤ length V = begun_length X V among in
    let left : suc (length V - length X) ≡ length V - length W = omega (arith, len, longer) in
    let rest = more X (length W ∷ seen) v (λ p. seen_more seen (length W) p (k p) ∙ ap (nat_lt p) (sym len)) in
    rw (place, unseen) (ap (λ r. length W ∷ r) rest ∙ ap (λ m. length W ∷ range_with_len m (length V - length X)) len ∙ ap (range_with_len (length W)) left)

appear : (ns V W : List (List ℕ)) (seen : List ℕ) → V ≡ fold with_name W ns → ((p : ℕ) → contains_number seen p ≡ nat_lt p (length W)) → Appears V W seen ns
appear [] V W seen v k =
    let none : length V - length W ≡ 0 = let same : length V ≡ length W = ap length v in omega (arith, same) in
    sym (ap (range_with_len (length W)) none)
appear (n ∷ ns) V W seen v k = appear_by V W seen n ns (has_name W n) refl v k (λ X s w h. appear ns V X s w h)

-- the places of variables stand by first appearance
pub appears : (ns : List (List ℕ)) → distinct_after [] (map (place_of (distinct ns)) ns) ≡ range_with_len 0 (length (distinct ns))
appears ns =
    let whole : length (distinct ns) - 0 ≡ length (distinct ns) = omega arith in
    appear ns (distinct ns) [] [] refl (λ p. grind (arith, nat_tests)) ∙ ap (range_with_len 0) whole

or_false : (a b : Bool) → (a || b) ≡ false → (a ≡ false) × (b ≡ false)
or_false true b e = absurd (cc)
or_false false b e = (refl, e)

differ_push : (W : List (List ℕ)) (n : List ℕ) → names_differ W ≡ true → has_name W n ≡ false → names_differ (W ++ n ∷ []) ≡ true
differ_push [] n d h = refl
differ_push (v ∷ W) n d h =
    let apart = or_false (pointwise nat_eq v n) (has_name W n) h in
    let both = both_true (not (list_any (pointwise nat_eq v) W)) (names_differ W) d in
    let none : list_any (pointwise nat_eq v) W ≡ false = not_true (list_any (pointwise nat_eq v) W) both.0 in
    let last : list_any (pointwise nat_eq v) (n ∷ []) ≡ false = rw apart.0 refl in
    let all : list_any (pointwise nat_eq v) (W ++ n ∷ []) ≡ false = list_any-append (pointwise nat_eq v) W (n ∷ []) ∙ rw (none, last) refl in
    rw all (differ_push W n both.1 apart.1)

differ_name : (W : List (List ℕ)) (n : List ℕ) (b : Bool) → has_name W n ≡ b → names_differ W ≡ true → names_differ (cond b W (W ++ n ∷ [])) ≡ true
differ_name W n true h d = d
differ_name W n false h d = differ_push W n d h

differ_all : (ns W : List (List ℕ)) → names_differ W ≡ true → names_differ (fold with_name W ns) ≡ true
differ_all [] W d = d
differ_all (n ∷ ns) W d = differ_all ns (with_name W n) (differ_name W n (has_name W n) refl d)

-- what a statement means has its variables by first appearance
pub meaning_appears : (l : Left) (e : Terms) → is_by_appearance (meaning l e) ≡ true
meaning_appears l e =
    let V = vars_of l e in
    let s = meaning l e in
    let same : places_of s ≡ map (place_of V) (left_names l ++ terms_names e) = ap (λ r. map (place_of V) (left_names l) ++ r) (terms_places e V)
    ∙ sym (map-append (place_of V) (left_names l) (terms_names e)) in
    let order : distinct_after [] (places_of s) ≡ range_with_len 0 (length V) = ap (distinct_after []) same ∙ appears (left_names l ++ terms_names e) in
    let test : pointwise nat_eq (distinct_after [] (places_of s)) (range_with_len 0 (length V))
    ≡ true = ap (λ r. pointwise nat_eq r (range_with_len 0 (length V))) order ∙ itself (range_with_len 0 (length V)) in
    true_both (names_differ V) (pointwise nat_eq (distinct_after [] (places_of s)) (range_with_len 0 (length V))) (differ_all (left_names l
    ++ terms_names e) [] refl) test
