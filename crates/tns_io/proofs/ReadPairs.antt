-- What is read is in range, and no more than may be read.
use Rattle.std.proofs.Common.{◌≡◌, ℕ, ◌+◌, ◌-◌, ◌<◌, ◌≤◌, Bool, true, false, cond, not}
use Rattle.std.proofs.Common.{List, [], ◌∷◌, length, refl, arith, subst, Ok, Err, Result}
use Rattle.std.specs.Prelude.{◌==◌, ◌&&◌, ◌||◌, nat_lt, nat_le}
use Rattle.std.specs.List.{list_all}
use Rattle.std.proofs.lemmas.Bool.Decides.{nat_tests}
use Rattle.dt_model.specs.Texts.{words_of, number_of}
use Rattle.dt_model.specs.Verdicts.{all_in_range}
use Rattle.dt_model.proofs.Booleans.{both_true, true_both}
use Rattle.dt_text.specs.Content.{content_lines, is_within_limit}
use Rattle.dt_text.specs.Numerals.{index_in_range}
use Rattle.dt_text.specs.declared.numerals.IndexFault.{IndexFault}
use Rattle.dt_text.specs.declared.numerals.IndexFault.TheVariants as index
use Rattle.tns_io.specs.declared.faults.FileCause.{FileCause}
use Rattle.tns_io.specs.declared.faults.FileCause.TheVariants as because
use Rattle.tns_io.specs.declared.faults.FileFault.{FileFault}
use Rattle.tns_io.specs.Faults.{fault_at}
use Rattle.tns_io.specs.Tns.{coordinate_from, coordinate_of, number_at, without_coordinates, with_coordinate, pair_from, pair_of, with_line, tns_from, tns_of}

coordinate_from-below : (d c : ℕ) (r : Result ℕ IndexFault) → coordinate_from d r ≡ Ok c → c < d
coordinate_from-below d c (Ok n) e = by_test (nat_le 1 n && nat_le n d) refl e
  where
    by_test : (b : Bool) → (nat_le 1 n && nat_le n d) ≡ b → ◌≡◌ {A = Result ℕ FileCause} (cond b (Ok (n - 1)) (Err because.Range)) (Ok c) → c < d
    by_test true t f =
        let both = both_true (nat_le 1 n) (nat_le n d) t in
        let low : 1 ≤ n = grind (arith, nat_tests, both.0) in
        let high : n ≤ d = grind (arith, nat_tests, both.1) in
        let is : n - 1 ≡ c = cc in
        omega arith
    by_test false t f = absurd cc
coordinate_from-below d c (Err index.Form) e = absurd cc
coordinate_from-below d c (Err index.Range) e = absurd cc

-- a pair of a coordinate below its dimension and of later ones in range
with_coordinate-in_range : (d : ℕ) (ds : List ℕ) (r : Result ℕ FileCause) (later : Result (List ℕ × ℕ) FileCause) (p : List ℕ × ℕ)
    → ((c : ℕ) → r ≡ Ok c → c < d)
    → ((q : List ℕ × ℕ) → later ≡ Ok q → all_in_range ds q.0 ≡ true) → with_coordinate r later ≡ Ok p → all_in_range (d ∷ ds) p.0 ≡ true
with_coordinate-in_range d ds (Ok c) (Ok q) p f g e =
    let below : c < d = f c refl in
    let test : nat_lt c d ≡ true = grind (arith, nat_tests) in
    let is : (c ∷ q.0, q.1) ≡ p = cc in
    subst (λ t. all_in_range (d ∷ ds) t.0 ≡ true) is (true_both (nat_lt c d) (all_in_range ds q.0) test (g q refl))
with_coordinate-in_range d ds (Ok c) (Err cause) p f g e = absurd cc
with_coordinate-in_range d ds (Err cause) later p f g e = absurd cc

without_coordinates-in_range : (r : Result ℕ FileCause) (p : List ℕ × ℕ) → without_coordinates r ≡ Ok p → all_in_range [] p.0 ≡ true
without_coordinates-in_range (Ok v) p e = let is : ([], v) ≡ p = cc in subst (λ (t : List ℕ × ℕ). all_in_range [] t.0 ≡ true) is refl
without_coordinates-in_range (Err cause) p e = absurd cc

pair_from-in_range : (dims : List ℕ) (ws : List (List ℕ)) (p : List ℕ × ℕ) → pair_from dims ws ≡ Ok p → all_in_range dims p.0 ≡ true
pair_from-in_range [] [] p e = absurd cc
pair_from-in_range (d ∷ ds) [] p e = absurd cc
pair_from-in_range [] (w ∷ ws) p e = without_coordinates-in_range (number_at w) p e
pair_from-in_range (d ∷ ds) (w ∷ ws) p e =
    with_coordinate-in_range d ds (coordinate_of d w) (pair_from ds ws) p (λ c f. coordinate_from-below d c (index_in_range (number_of w)) f)
    (pair_from-in_range ds ws) e

-- the pair that a line reads as is in range
pub pair_of-in_range : (dims : List ℕ) (ws : List (List ℕ)) (p : List ℕ × ℕ) → pair_of dims ws ≡ Ok p → all_in_range dims p.0 ≡ true
pair_of-in_range dims ws p e = by_test (length ws == length dims + 1) e
  where
    by_test : (b : Bool) → cond b (pair_from dims ws) (Err because.Rank) ≡ Ok p → all_in_range dims p.0 ≡ true
    by_test true f = pair_from-in_range dims ws p f
    by_test false f = absurd cc

-- pairs in range, no more than may be read
record AreLoadable (dims : List ℕ) (most : ℕ) (ps : List (List ℕ × ℕ)) : Type 0 where
  few : length ps ≤ most
  cells : list_all (λ p. all_in_range dims p.0) ps ≡ true

with_line-loadable : (dims : List ℕ) (most line : ℕ) (r : Result (List ℕ × ℕ) FileCause) (later : Result (List (List ℕ × ℕ)) FileFault) (ps : List (List ℕ × ℕ))
    → ((p : List ℕ × ℕ) → r ≡ Ok p → all_in_range dims p.0 ≡ true) → ((qs : List (List ℕ × ℕ)) → later ≡ Ok qs → AreLoadable dims most qs)
    → with_line line r later ≡ Ok ps
    → AreLoadable dims (most + 1) ps
with_line-loadable dims most line (Ok p) (Ok qs) ps f g e =
    let rest = g qs refl in
    let is : p ∷ qs ≡ ps = cc in
    let few = rest.few in
    subst (AreLoadable dims (most + 1)) is (record {
      few = omega arith;
      cells = true_both (all_in_range dims p.0) (list_all (λ p. all_in_range dims p.0) qs)
          (f p refl) rest.cells;
    })
with_line-loadable dims most line (Ok p) (Err fault) ps f g e = absurd cc
with_line-loadable dims most line (Err cause) later ps f g e = absurd cc

tns_from-loadable : (dims : List ℕ) (most : ℕ) (ls : List (ℕ × List ℕ)) (ps : List (List ℕ × ℕ)) → tns_from dims most ls ≡ Ok ps → AreLoadable dims most ps
tns_from-loadable dims most [] ps e = let is : [] ≡ ps = cc in subst (AreLoadable dims most) is (record { few = omega arith; cells = refl })
tns_from-loadable dims most (l ∷ ls) ps e = by_test ((most == 0) || not (is_within_limit l.1)) refl (tns_from-loadable dims (most - 1) ls) e
  where
    by_test : (b : Bool) → ((most == 0) || not (is_within_limit l.1)) ≡ b
        → ((qs : List (List ℕ × ℕ)) → tns_from dims (most - 1) ls ≡ Ok qs → AreLoadable dims (most - 1) qs)
        → cond b (Err (fault_at l.0 because.Limit)) (with_line l.0 (pair_of dims (words_of l.1)) (tns_from dims (most - 1) ls)) ≡ Ok ps
        → AreLoadable dims most ps
    by_test true t g f = absurd cc
    by_test false t g f =
        let some : 1 ≤ most = above (most == 0) (not (is_within_limit l.1)) refl t in
        let back : most - 1 + 1 ≡ most = omega arith in
        subst (λ n. AreLoadable dims n ps) back (with_line-loadable dims (most - 1) l.0 (pair_of dims (words_of l.1)) (tns_from dims (most - 1) ls) ps
        (pair_of-in_range dims (words_of l.1)) g f)
      where
        above : (a b : Bool) → (most == 0) ≡ a → (a || b) ≡ false → 1 ≤ most
        above true b p q = absurd cc
        above false b p q = grind (arith, nat_tests)

-- a text reads as no more pairs than may be read
pub length-tns_of : (dims : List ℕ) (most : ℕ) (text : List ℕ) (ps : List (List ℕ × ℕ)) → tns_of dims most text ≡ Ok ps → length ps ≤ most
length-tns_of dims most text ps e = let loadable = tns_from-loadable dims most (content_lines text) ps e in loadable.few

-- the pairs that a text reads as are in range
pub tns_of-in_range : (dims : List ℕ) (most : ℕ) (text : List ℕ) (ps : List (List ℕ × ℕ)) → tns_of dims most text ≡ Ok ps
    → list_all (λ p. all_in_range dims p.0) ps ≡ true
tns_of-in_range dims most text ps e = let loadable = tns_from-loadable dims most (content_lines text) ps e in loadable.cells
