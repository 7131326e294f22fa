use Rattle.std.proofs.Common.{◌≡◌, ℕ, ◌+◌, ◌*◌, ◌%◌, ◌≤◌, ◌^◌, ◌++◌, ◌∷◌, [], map, ap, sym, ◌∙◌, subst, arith}
use Rattle.std.specs.List.{range_with_len}
use native.Mathlib.Nat.{mod-eq_of_lt}
use Rattle.std.proofs.Math.Pow.{pow_mono}
use Rattle.std.proofs.lemmas.List.FromFn.{map-range_with_len_more}
use Rattle.merge_lattice.specs.Lattices.{operands, bit_of}
use Rattle.merge_lattice.specs.Points.{point_in}
use Rattle.merge_lattice.specs.Soundness.{IsSound}
use Rattle.merge_lattice.proofs.SoundnessLemmas.{all_points-sound}
use Rattle.merge_lattice.proofs.LatticesLemmas.{operands_few}
use Rattle.merge_lattice.proofs.tables.lattice.Goals as goal

pub loop-set-preserved : goal.loop-set-preserved
loop-set-preserved c =
    let point = λ (s : ℕ). point_in c.args.var (bit_of s) 0 c.args.expr.now in
    c.in_ok-put-2.ensures.ok
    ∙ ap (λ xs. xs ++ c.in_ok-found.found.point ∷ []) c.loop-set.invariant
    ∙ ap (λ p. map point (range_with_len 0 c.loop-set.set) ++ p ∷ []) c.in_ok-found.ensures.point
    ∙ sym (map-range_with_len_more point 0 c.loop-set.set c.loop-set.set (omega arith))

-- how many sets there are
sets_of : (n k set : ℕ) → n ≡ 0 + k → k ≤ 12 → (1 * 2 ^ n) % 65536 ≤ set → (1 ≤ (1 * 2 ^ n) % 65536 → set ≤ (1 * 2 ^ n) % 65536) → set ≡ 2 ^ k
sets_of n k set e few low high =
    let same : n ≡ k = omega (arith, e) in
    let one : 1 * 2 ^ n ≡ 2 ^ k = one_times (2 ^ n) ∙ ap (λ x. 2 ^ x) same in
    let small : (1 * 2 ^ n) % 65536 ≡ 2 ^ k = ap (λ x. x % 65536) one ∙ mod-eq_of_lt (omega (arith, pow_mono {i = k} {j = 12} few)) in
    let some = pow_mono {i = 0} {j = k} (omega arith) in
    omega (arith, small, low, some, high (omega (arith, small, some)))
  where
    one_times : (x : ℕ) → 1 * x ≡ x
    one_times x = grind arith

pub returns : goal.returns
returns c =
    let few = operands_few c.args.var c.args.expr.now in
    let sets = sets_of c.in_ok-empty.empty.next (operands c.args.var c.args.expr.now) c.loop-set.set c.in_ok-empty.ensures.next
    (omega (arith, few, c.requires.few)) c.loop-set-test.false c.loop-set.auto.set-end in
    let same = c.loop-set.invariant ∙ ap (λ n. map (λ s. point_in c.args.var (bit_of s) 0 c.args.expr.now) (range_with_len 0 n)) sets in
    record { sound = subst (IsSound c.args.var c.args.expr.now) (sym same) (all_points-sound c.args.var c.args.expr.now (omega (arith, few, c.requires.few))) }
