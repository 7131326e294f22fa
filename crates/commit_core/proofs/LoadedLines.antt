-- Loaded lines: the contents that the lines of one tensor make, and those of all.
use Rattle.std.proofs.Common.{◌≡◌, ◌≢◌, ℕ, ◌+◌, ◌%◌, ◌^◌, ◌<◌, true, false, List, [], ◌∷◌, ◌++◌, zero, suc, length, get_or, take, drop, refl, ap, sym, ◌∙◌, arith, subst, Some}
use Rattle.std.specs.Prelude.{◌==◌, nat_eq, fold, All, slice_get}
use Rattle.std.specs.Cmp.Lexicographic.{pointwise}
use Rattle.std.specs.List.{enumerate_from}
use Rattle.std.proofs.lemmas.Bool.Decides.{nat_tests}
use Rattle.std.proofs.lemmas.List.{drop_more, take_more, get_or-map, length-map, map-append}
use Rattle.std.proofs.lemmas.Option.{get_or_from_slice_get}
use Rattle.std.proofs.lemmas.List.Elements.{All-weaker}
use Rattle.std.proofs.lemmas.List.Sums.{sum_by-cons, AllPass-from_list_all}
use Rattle.std.proofs.lemmas.Slice.Eq.{bytes_eq-Decides}
use Rattle.std.proofs.Math.Nat.{mod-add-mod, mod-eq_of_lt, mod-lt}
use Rattle.dt_model.specs.declared.declared_tensors.Decls.{Decls}
use Rattle.dt_model.specs.declared.declared_tensors.TensorDecl.{TensorDecl}
use Rattle.dt_model.specs.declared.replies.World.{World}
use Rattle.dt_model.specs.Contents.{Contents, with_more}
use Rattle.dt_model.specs.Pairs.{total_at}
use Rattle.dt_model.specs.Runs.{with_lines}
use Rattle.dt_model.specs.Tensors.{dims_of, dims_in}
use Rattle.dt_model.specs.Verdicts.{all_in_range}
use Rattle.dt_model.specs.Worlds.{IsValid, loads_are_valid}
use Rattle.dt_model.proofs.WorldsLemmas.{as_many_bases}
use Rattle.commit_core.specs.Cells.{Cells, cells_of, contents_of}
use Rattle.commit_core.specs.CellListState.{CellListState, all_cells, all_orders}
use Rattle.commit_core.specs.Orders.{orders_of}
use Rattle.commit_core.proofs.CellsLemmas.{value_at, sum_at}
use Rattle.commit_core.proofs.OrdersLemmas.{length-all_in_range}
use Rattle.commit_core.proofs.NeededLatches.{element}
use Rattle.commit_core.proofs.ValidScripts.{all_enumerated}

-- ---- the lines of one tensor

-- they leave the cells of other tensors
with_lines-other : (m : Contents) (t : ℕ) (lines : Cells) (u : ℕ) (c : List ℕ) → (t == u) ≡ false → with_lines m t lines u c ≡ m u c
with_lines-other m t [] u c e = refl
with_lines-other m t (l ∷ ls) u c e = with_lines-other (with_more m t l.0 l.1) t ls u c e ∙ rw e refl

more_here : (m : Contents) (t : ℕ) (l : List ℕ × ℕ) (c : List ℕ) → pointwise nat_eq l.0 c ≡ true → with_more m t l.0 l.1 t c ≡ (m t c + l.1) % 2 ^ 64
more_here m t l c e =
    let own : (t == t) ≡ true = grind (arith, nat_tests) in
    let same : l.0 ≡ c = (bytes_eq-Decides l.0 c).0 e in
    rw (own, e) (ap (λ x. (m t x + l.1) % 2 ^ 64) same)

more_elsewhere : (m : Contents) (t : ℕ) (l : List ℕ × ℕ) (c : List ℕ) → pointwise nat_eq l.0 c ≡ false → with_more m t l.0 l.1 t c ≡ m t c
more_elsewhere m t l c e = let own : (t == t) ≡ true = grind (arith, nat_tests) in rw (own, e) refl

small_sum : (n : ℕ) → n % 2 ^ 64 < 2 ^ 64
small_sum n = mod-lt n (omega arith)

-- they add up in the cells of their own
with_lines-own : (m : Contents) (t : ℕ) (lines : Cells) (c : List ℕ) → m t c < 2 ^ 64 → with_lines m t lines t c ≡ (m t c + sum_at c lines) % 2 ^ 64
with_lines-own m t [] c small = let none : m t c + 0 ≡ m t c = omega arith in sym (ap (λ n. n % 2 ^ 64) none ∙ mod-eq_of_lt small)
with_lines-own m t (l ∷ ls) c small = elim (pointwise nat_eq l.0 c) as (λ b. pointwise nat_eq l.0 c ≡ b → with_lines (with_more m t l.0 l.1) t ls t c
    ≡ (m t c + sum_at c (l ∷ ls)) % 2 ^ 64) [
      | true ↦ λ e.
          let here = more_here m t l c e in
          let low : with_more m t l.0 l.1 t c < 2 ^ 64 = subst (λ n. n < 2 ^ 64) (sym here) (small_sum (m t c + l.1)) in
          let value : value_at c l ≡ l.1 = rw e refl in
          let all : m t c + l.1 + sum_at c ls ≡ m t c + sum_at c (l ∷ ls) = let s = sum_by-cons (value_at c) l ls in omega (arith, s, value) in
          with_lines-own (with_more m t l.0 l.1) t ls c low ∙ ap (λ n. (n + sum_at c ls) % 2 ^ 64) here ∙ mod-add-mod (m t c + l.1) (2 ^ 64) (sum_at c ls)
          ∙ ap (λ n. n % 2 ^ 64) all
      | false ↦ λ e.
          let here = more_elsewhere m t l c e in
          let low : with_more m t l.0 l.1 t c < 2 ^ 64 = subst (λ n. n < 2 ^ 64) (sym here) small in
          let value : value_at c l ≡ 0 = rw e refl in
          let all : m t c + sum_at c ls ≡ m t c + sum_at c (l ∷ ls) = let s = sum_by-cons (value_at c) l ls in omega (arith, s, value) in
          with_lines-own (with_more m t l.0 l.1) t ls c low ∙ ap (λ n. (n + sum_at c ls) % 2 ^ 64) here ∙ ap (λ n. n % 2 ^ 64) all
    ] refl

-- ---- one tensor more

cells_of-last : (xs : List CellListState) (y : CellListState) → cells_of (all_cells (xs ++ y ∷ [])) (length xs) ≡ y.cells
cells_of-last [] y = refl
cells_of-last (x ∷ xs) y = cells_of-last xs y

cells_of-past : (xs : List CellListState) → cells_of (all_cells xs) (length xs) ≡ []
cells_of-past [] = refl
cells_of-past (x ∷ xs) = cells_of-past xs

cells_of-other : (xs : List CellListState) (y : CellListState) (t : ℕ) → t ≢ length xs → cells_of (all_cells (xs ++ y ∷ [])) t ≡ cells_of (all_cells xs) t
cells_of-other [] y zero other = absurd (other refl)
cells_of-other [] y (suc t) other = refl
cells_of-other (x ∷ xs) y zero other = refl
cells_of-other (x ∷ xs) y (suc t) other = cells_of-other xs y t (λ e. other (ap suc e))

-- the cells that add up to the lines of the next tensor
contents-push : (xs : List CellListState) (y : CellListState) (lines : Cells) → ((c : List ℕ) → total_at y.cells c ≡ total_at lines c)
    → contents_of (all_cells (xs ++ y ∷ [])) ≡ with_lines (contents_of (all_cells xs)) (length xs) lines
contents-push xs y lines sums = λ i t c. each t c i
  where
    here : (c : List ℕ) → contents_of (all_cells (xs ++ y ∷ [])) (length xs) c ≡ with_lines (contents_of (all_cells xs)) (length xs) lines (length xs) c
    here c =
        let old : contents_of (all_cells xs) (length xs) c ≡ 0 = ap (λ ps. total_at ps c) (cells_of-past xs) in
        let new : total_at lines c ≡ (contents_of (all_cells xs) (length xs) c + sum_at c lines) % 2 ^ 64 = ap (λ n. n % 2 ^ 64) (omega (arith, old)) in
        ap (λ ps. total_at ps c) (cells_of-last xs y) ∙ sums c ∙ new
        ∙ sym (with_lines-own (contents_of (all_cells xs)) (length xs) lines c (small_sum (sum_at c (cells_of (all_cells xs) (length xs)))))

    each : (t : ℕ) (c : List ℕ) → contents_of (all_cells (xs ++ y ∷ [])) t c ≡ with_lines (contents_of (all_cells xs)) (length xs) lines t c
    each t c = elim (length xs == t) as (λ b. (length xs == t) ≡ b → contents_of (all_cells (xs ++ y ∷ [])) t c
        ≡ with_lines (contents_of (all_cells xs)) (length xs) lines t c) [
          | true ↦ λ e. let same : length xs ≡ t = grind (arith, nat_tests) in subst (λ u. contents_of (all_cells (xs ++ y ∷ [])) u c
              ≡ with_lines (contents_of (all_cells xs)) (length xs) lines u c) same (here c)
          | false ↦ λ e.
              let other : t ≢ length xs = grind (arith, nat_tests) in
              ap (λ ps. total_at ps c) (cells_of-other xs y t other) ∙ sym (with_lines-other (contents_of (all_cells xs)) (length xs) lines t c e)
        ] refl

-- the lines of one tensor more, where the rest lead to all
pub base_more : (old new : List CellListState) (y : CellListState) (t : ℕ) (base : List Cells) (lines : Cells) (all : Contents)
    → t < length base → lines ≡ get_or base t lines → length old ≡ t → new ≡ old ++ y ∷ [] → ((c : List ℕ) → total_at y.cells c ≡ total_at lines c)
    → fold (λ m p. with_lines m p.0 p.1) (contents_of (all_cells old)) (enumerate_from t (drop t base)) ≡ all
    → fold (λ m p. with_lines m p.0 p.1) (contents_of (all_cells new)) (enumerate_from (t + 1) (drop (t + 1) base)) ≡ all
base_more old new y t base lines all l is len grew sums so_far =
    let made : contents_of (all_cells new) ≡ with_lines (contents_of (all_cells old)) t lines =
    ap (λ xs. contents_of (all_cells xs)) grew ∙ contents-push old y lines sums ∙ ap (λ n. with_lines (contents_of (all_cells old)) n lines) len in
    let rest : drop t base ≡ lines ∷ drop (t + 1) base = drop_more base t lines l ∙ ap (λ x. x ∷ drop (t + 1) base) (sym is) in
    ap (λ m. fold (λ n p. with_lines n p.0 p.1) m (enumerate_from (t + 1) (drop (t + 1) base))) made
    ∙ ap (λ xs. fold (λ m p. with_lines m p.0 p.1) (contents_of (all_cells old)) (enumerate_from t xs)) (sym rest)
    ∙ so_far

-- ---- orders of lines

-- valid lines of a tensor have its order
pub lines_have_order : (d : Decls) (k : ℕ) (x : TensorDecl) (lines : Cells) → slice_get d.tensors k ≡ Some x → loads_are_valid d (k, lines) ≡ true
    → All (λ line. length line.0 ≡ length x.dims) lines
lines_have_order d k x lines is h = All-weaker (λ (line : List ℕ × ℕ). all_in_range (dims_of d k) line.0 ≡ true) (λ line. length line.0 ≡ length x.dims)
    (λ line e. length-all_in_range x.dims line.0 (subst (λ o. all_in_range (dims_in o) line.0
    ≡ true) is e)) lines (AllPass-from_list_all (λ line. all_in_range (dims_of d k) line.0) lines h)

-- the lines of a tensor of a valid World's base have its order
pub base_has_order : (w : World) (base : List Cells) (decls : List TensorDecl) (k n : ℕ) (lines : Cells) (x : TensorDecl) → IsValid w → base ≡ w.base
    → decls ≡ w.decls.tensors
    → k < length base → lines ≡ get_or base k lines → n ≡ length (get_or decls k x).dims → All (λ line. length line.0 ≡ n) lines
base_has_order w base decls k n lines x valid of_base of_decls l at is =
    let within : k < length w.base = subst (λ xs. k < length xs) of_base l in
    let declared : k < length w.decls.tensors = omega (arith, as_many_bases w valid) in
    let t = element w.decls.tensors k declared in
    let own : get_or decls k x ≡ t.0 = ap (λ xs. get_or xs k x) of_decls ∙ get_or_from_slice_get w.decls.tensors k t.0 x t.1 in
    let its : get_or w.base k lines ≡ lines = sym (at ∙ ap (λ xs. get_or xs k lines) of_base) in
    let order : length t.0.dims ≡ n = sym (is ∙ ap (λ t. length t.dims) own) in
    subst (λ m. All (λ (line : List ℕ × ℕ). length line.0 ≡ m) lines) order
    (subst (λ ls. All (λ (line : List ℕ × ℕ). length line.0 ≡ length t.0.dims) ls) its
    (lines_have_order w.decls k t.0 (get_or w.base k lines) t.1 (all_enumerated (loads_are_valid w.decls) 0 w.base k k lines valid.loads within (omega arith))))

-- the order of one tensor more
pub all_orders-push : (w : World) (xs : List CellListState) (y : CellListState) (decls : List TensorDecl) (k : ℕ) (x : TensorDecl) → decls ≡ w.decls.tensors
    → k < length decls
    → all_orders xs ≡ take k (orders_of w.decls) → y.order ≡ length (get_or decls k x).dims → all_orders (xs ++ y ∷ []) ≡ take (k + 1) (orders_of w.decls)
all_orders-push w xs y decls k x of_decls l so_far is =
    let f : TensorDecl → ℕ = λ t. length t.dims in
    let declared : k < length w.decls.tensors = subst (λ ts. k < length ts) of_decls l in
    let within : k < length (orders_of w.decls) = omega (arith, declared, length-map w.decls.tensors f) in
    let own : get_or (orders_of w.decls) k 0 ≡ y.order = get_or-map f w.decls.tensors k x 0 declared ∙ ap (λ ts. f (get_or ts k x)) (sym of_decls) ∙ sym is in
    map-append (λ (t : CellListState). t.order) xs (y ∷ []) ∙ ap (λ os. os ++ y.order ∷ []) so_far ∙ ap (λ o. take k (orders_of w.decls) ++ o ∷ []) (sym own)
    ∙ sym (take_more (orders_of w.decls) k 0 within)
