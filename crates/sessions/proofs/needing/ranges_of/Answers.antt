use Rattle.std.proofs.Common.{ℕ, ◌≡◌, ◌∙◌, List, length, ap, sym, subst, rules}
use Rattle.std.specs.List.{refill}
use Rattle.std.specs.List.Sorted.{IsPermutation}
use Rattle.std.proofs.lemmas.List.Sorted.{IsNonDecreasingBy-from_sort_by_key, list_any-IsPermutation}
use Rattle.arrayvec.specs.ArrayVec.{array_vec_len}
use Rattle.arrayvec.proofs.ArrayVecLemmas.{items-with_items}
use Rattle.sessions.specs.declared.needing.LatchRange.{LatchRange}
use Rattle.sessions.specs.Needing.{AreAscending, covers, is_in}
use Rattle.sessions.proofs.NeedingLemmas.{covers-call}
use Rattle.sessions.proofs.needing.ranges_of.Goals as goal

pub returns-clause-ascending : goal.returns-clause-ascending
returns-clause-ascending c =
    let v = c.named_ranges-ranges.result in
    let xs = c.sort_unstable_by_key.new.self in
    let same : length xs ≡ array_vec_len v = c.sort_unstable_by_key.ensures.len ∙ ap (λ (rs : List LatchRange). length rs) c.deref_mut.ensures.value in
    let sorted : AreAscending xs =
    IsNonDecreasingBy-from_sort_by_key (λ (r : LatchRange). r.first) _ c.sort_unstable_by_key.ensures.sorted (λ a r q k. search rules) in
    subst AreAscending (sym (items-with_items v xs same)) sorted

pub returns-clause-covers : goal.returns-clause-covers
returns-clause-covers c = λ l.
    let v = c.named_ranges-ranges.result in
    let xs = c.sort_unstable_by_key.new.self in
    let same : length xs ≡ array_vec_len v = c.sort_unstable_by_key.ensures.len ∙ ap (λ (rs : List LatchRange). length rs) c.deref_mut.ensures.value in
    let moved : IsPermutation v.items xs = subst (λ (rs : List LatchRange). IsPermutation rs xs) c.deref_mut.ensures.value
    c.sort_unstable_by_key.ensures.permutation in
    ap (λ (rs : List LatchRange). covers rs l) (items-with_items v xs same)
    ∙ sym (list_any-IsPermutation (λ (r : LatchRange). is_in r l) v.items xs moved)
    ∙ ap (λ (rs : List LatchRange). covers rs l) c.named_ranges-ranges.ensures.value ∙ covers-call c.args.decls.now c.args.call.now l
