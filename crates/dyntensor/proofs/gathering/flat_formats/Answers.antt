use Rattle.std.proofs.Common.{◌≡◌, ◌<◌, ◌+◌, ◌++◌, ◌∷◌, [], ℕ, List, length, map, take, get_or, ap, sym, ◌∙◌, subst}
use Rattle.std.proofs.lemmas.List.{map-append, take_more}
use Rattle.dyntensor.proofs.gathering.flat_formats.Goals as goal

-- a 0 for each dimension
abbrev zeros : List ℕ → List ℕ
zeros dims = map (λ d. 0) dims

zeros-take : (dims : List ℕ) (i : ℕ) → i < length dims → zeros (take (i + 1) dims) ≡ zeros (take i dims) ++ 0 ∷ []
zeros-take dims i l = ap zeros (take_more dims i 0 l) ∙ map-append (λ (d : ℕ). 0) (take i dims) (get_or dims i 0 ∷ [])

pub loop-dim-preserved : goal.loop-dim-preserved
loop-dim-preserved c =
    c.push.ensures.items ∙ ap (λ xs. xs ++ 0 ∷ []) c.loop-dim.invariant
    ∙ sym (zeros-take c.args.dims.now c.loop-dim._dim-index
    (subst (λ (xs : List ℕ). c.loop-dim._dim-index < length xs) c.as_slice-dim-items.ensures.value c.loop-dim-test.true))
