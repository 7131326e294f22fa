use Rattle.std.proofs.Common.{◌≡◌, ◌<◌, ◌+◌, refl, ap, sym, ◌∙◌, length, get_or, arith, [], Bool, true, false, not, drop}
use Rattle.std.specs.Prelude.{◌&&◌}
use Rattle.std.specs.Cmp.Lexicographic.{pointwise}
use Rattle.std.proofs.lemmas.Option.{slice_get-get_or}
use Rattle.dt_model.specs.Pairs.{same_pair}
use Rattle.dt_model.proofs.ListIndices.{pointwise-next}
use Rattle.dt_model.proofs.pairs.PairsPartialEq.eq.Goals as goal

-- the answer of `!=` turned round
turned : (b r s : Bool) → r ≡ not b → r ≡ not s → b ≡ s
turned true true true e f = refl
turned true true false e f = absurd cc
turned true false true e f = refl
turned true false false e f = absurd cc
turned false true true e f = absurd cc
turned false true false e f = refl
turned false false true e f = absurd cc
turned false false false e f = refl

pub returns-then-ne : goal.returns-then-ne
returns-then-ne c =
    let xs = c.args.self.now in
    let ys = c.args.other.now in
    let k = c.loop-index.index in
    let within : k < length xs = omega arith in
    let same : k < length ys = omega arith in
    let one = slice_get-get_or xs k ([], 0) within in
    let two = slice_get-get_or ys k ([], 0) same in
    let next = pointwise-next same_pair xs ys k (get_or xs k ([], 0)) (get_or ys k ([], 0)) one two in
    let differ : same_pair (get_or xs k ([], 0)) (get_or ys k ([], 0))
    ≡ false = turned _ c.ne.result false (rw (c.get.ensures.value, one, c.get-in-loop-index.ensures.value, two) at c.ne.ensures) c.if-ne.true in
    let rest = pointwise same_pair (drop (k + 1) xs) (drop (k + 1) ys) in
    sym (sym c.loop-index.invariant ∙ next ∙ ap (λ b. b && rest) differ)

pub loop-index-preserved : goal.loop-index-preserved
loop-index-preserved c =
    let xs = c.args.self.now in
    let ys = c.args.other.now in
    let k = c.loop-index.index in
    let within : k < length xs = omega arith in
    let same : k < length ys = omega arith in
    let one = slice_get-get_or xs k ([], 0) within in
    let two = slice_get-get_or ys k ([], 0) same in
    let next = pointwise-next same_pair xs ys k (get_or xs k ([], 0)) (get_or ys k ([], 0)) one two in
    let equal : same_pair (get_or xs k ([], 0)) (get_or ys k ([], 0))
    ≡ true = turned _ c.ne.result true (rw (c.get.ensures.value, one, c.get-in-loop-index.ensures.value, two) at c.ne.ensures) c.if-ne.false in
    let rest = pointwise same_pair (drop (k + 1) xs) (drop (k + 1) ys) in
    sym (next ∙ ap (λ b. b && rest) equal) ∙ c.loop-index.invariant
