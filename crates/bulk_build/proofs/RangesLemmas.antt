-- Parts of a list.
use Rattle.std.proofs.Common.{◌≡◌, ◌≤◌, ◌<◌, ◌+◌, ◌-◌, ℕ, List, ◌∷◌, ◌++◌, length, take, drop, get_or, ap, ◌∙◌, sym, suc, arith, length-drop, drop-cons}
use Rattle.std.proofs.lemmas.List.{take-append-drop, drop-drop, length-take-le}
use Rattle.std.proofs.Math.Seq.{take-length}
use Rattle.node_arena.specs.declared.elements.Elem.{Elem}

-- what begins at a place is a part of it and what begins behind that
pub drop-parted : (es : List Elem) (n m : ℕ) → n ≤ m → drop n es ≡ take (m - n) (drop n es) ++ drop m es
drop-parted es n m h =
    let e : n + (m - n) ≡ m = omega arith in
    sym (take-append-drop (m - n) (drop n es)) ∙ ap (λ w. take (m - n) (drop n es) ++ w) (drop-drop (m - n) n es ∙ ap (λ v. drop v es) e)

-- how long a part is
pub length-part : (es : List Elem) (n m : ℕ) → n ≤ m → m ≤ length es → length (take (m - n) (drop n es)) ≡ m - n
length-part es n m h g =
    let e : length (drop n es) ≡ length es - n = length-drop n es in
    length-take-le (m - n) (drop n es) (omega arith)

-- nothing begins at the end
pub drop-end : (es : List Elem) (n : ℕ) → n ≡ length es → length (drop n es) ≡ 0
drop-end es n h = let e : length (drop n es) ≡ length es - n = length-drop n es in omega arith

-- all of the rest
pub take-rest : (es : List Elem) (n : ℕ) → take (length es - n) (drop n es) ≡ drop n es
take-rest es n = ap (λ v. take v (drop n es)) (sym (length-drop n es)) ∙ take-length (drop n es)

-- what begins at an item is the item, a part, and what begins behind that
pub drop-item : (es : List Elem) (start left : ℕ) (x : Elem) → 0 < start → start ≤ left → left ≤ length es → x ≡ get_or es (start - 1) x
    → drop (start - 1) es ≡ x ∷ (take (left - start) (drop start es) ++ drop left es)
drop-item es start left x some h g e =
    let lt : start - 1 < length es = omega arith in
    let next : suc (start - 1) ≡ start = omega arith in
    drop-cons es (start - 1) x lt ∙ ap (λ v. v ∷ drop (suc (start - 1)) es) (sym e) ∙ ap (λ v. x ∷ drop v es) next
    ∙ ap (λ w. x ∷ w) (drop-parted es start left h)
