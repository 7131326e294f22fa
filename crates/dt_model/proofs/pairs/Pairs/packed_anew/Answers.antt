use Rattle.std.proofs.Common.{◌≡◌, ◌++◌, ◌∷◌, [], length, ap, sym, ◌∙◌, List, ℕ}
use Rattle.std.proofs.lemmas.Option.{slice_get_within, get_or_from_slice_get}
use Rattle.dt_model.proofs.ListIndices.{take-next}
use Rattle.dt_model.proofs.pairs.Pairs.packed_anew.Goals as goal

pub push-requires : goal.push-requires
push-requires c =
    let pair : List ℕ × ℕ = (c.in-Some.at, c.in-Some.value) in
    let there = sym c.in-Some.ensures.value in
    let whole : length pair.0 ≡ c.args.order = ap (λ (p : List ℕ × ℕ). length p.0)
    (sym (get_or_from_slice_get c.args.self.now c.loop-index.index pair pair there))
    ∙ c.requires.same c.loop-index.index pair (slice_get_within c.args.self.now c.loop-index.index pair there) in
    record { same = whole ∙ sym c.loop-index.invariant.order }

pub loop-index-preserved : goal.loop-index-preserved
loop-index-preserved c =
    let pair : List ℕ × ℕ = (c.in-Some.at, c.in-Some.value) in
    record {
      pairs = c.in_ok-push-in-Some.ensures.ok ∙ ap (λ t. t ++ pair ∷ []) c.loop-index.invariant.pairs
          ∙ sym (take-next c.args.self.now c.loop-index.index pair (sym c.in-Some.ensures.value));
      order = c.in_ok-push-in-Some.ensures.order ∙ c.loop-index.invariant.order;
    }
