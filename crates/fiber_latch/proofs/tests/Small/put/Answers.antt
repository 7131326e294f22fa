use Rattle.std.proofs.Common.{ℕ, List, ◌≡◌, ◌≢◌, ◌<◌, ◌≤◌, refl, sym, ap, ◌∙◌, subst, get_or, length}
use Rattle.fiber_latch.specs.Trial.{HasPut}
use Rattle.fiber_latch.proofs.TrialLemmas.{put_set, put_inserted, same_at}
use Rattle.fiber_latch.proofs.tests.Small.put.Goals as goal

pub returns-then-index-at : goal.returns-then-index-at
returns-then-index-at c =
    let ps = c.args.self.now.cells.items in
    let n : ℕ = c.place_of-place.result in
    let before = subst (λ (xs : List (ℕ × ℕ)). (k : ℕ) → k < n → (get_or xs k (0, 0)).0 ≢ c.args.at) c.as_slice.ensures.value c.place_of-place.ensures.before in
    let inside : n < length ps = subst (λ (k : ℕ). n < k) (c.len.ensures ∙ c.args.self.now.cells.ok.0) c.if-place-len.true in
    let here : (get_or ps n (0, 0)).0 ≡ c.args.at = ap (λ (q : ℕ × ℕ). q.0) (same_at ps n (0, 0) c.index.result.now inside ∙ sym c.index.ensures)
    ∙ c.if-index-at.true in
    record { ok = (refl, put_set ps n c.args.at c.args.number inside before here) }

pub returns-in_ok-insert : goal.returns-in_ok-insert
returns-in_ok-insert c =
    let ps = c.args.self.now.cells.items in
    let n : ℕ = c.place_of-place.result in
    let before = subst (λ (xs : List (ℕ × ℕ)). (k : ℕ) → k < n → (get_or xs k (0, 0)).0 ≢ c.args.at) c.as_slice.ensures.value c.place_of-place.ensures.before in
    let within : n ≤ length ps = subst (λ (xs : List (ℕ × ℕ)). n ≤ length xs) c.as_slice.ensures.value c.place_of-place.ensures.within in
    record {
      ok = (
        refl,
        subst (HasPut c.args.at c.args.number ps) (sym c.in_ok-insert.ensures.items)
            (put_inserted ps n c.args.at c.args.number within before),
      );
    }
