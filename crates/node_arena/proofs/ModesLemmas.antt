-- The tree of a structure is the one that is read from the arena.
use Rattle.std.proofs.Common.{◌≡◌, ◌≢◌, ◌⊎◌, inl, inr, ◌≤◌, ◌<◌, ◌+◌, ℕ, zero, suc, List, [], ◌∷◌, ◌++◌, length, Option, Some, None, refl, ap, sym, subst, ◌∙◌, Bool, true, false, ◌||◌, arith, length-append}
use Rattle.std.specs.List.{AllByRecursion, IsDistinct, list_any}
use Rattle.std.specs.Option.{IsSomeAnd}
use Rattle.std.proofs.lemmas.Bool.{cases_lt, ne_eqb}
use Rattle.std.proofs.lemmas.Bool.Decides.{eqb_tells}
use Rattle.std.proofs.lemmas.List.{get_or_past}
use Rattle.std.proofs.lemmas.Map.Keys.{IsDistinct-cons}
use Rattle.std.proofs.lemmas.Map.Steps.{length-le_from_distinct_below}
use Rattle.std.proofs.Math.Dec.{eqb}
use Rattle.node_arena.specs.declared.elements.Elem.{Elem}
use Rattle.node_arena.specs.declared.elements.Structure.{Structure}
use Rattle.node_arena.specs.declared.elements.Top.{Top}
use Rattle.node_arena.specs.declared.elements.Top.TheVariants as tops
use Rattle.node_arena.specs.declared.kinds.NodeKind.{NodeKind}
use Rattle.node_arena.specs.Arenas.{ArenaState, NodeState, RunState, node_at, run_at}
use Rattle.node_arena.specs.Modes.{read_node, read_row, read_to, root_tree, run_tree, top_tree, tree_in}
use Rattle.node_arena.specs.Structures.{Tree, empty, rooted, flat, IsStanding, HasRun, links_of, top_of}
use Rattle.node_arena.specs.Trees.{Trees, done, absent, node, roots, stored, Stands, Avoids, IsApart, IsReachedOnce}

-- ---- how many nodes trees have

-- the numbers of all nodes
abbrev numbers : Trees → List ℕ
numbers done = []
numbers (absent rest) = numbers rest
numbers (node i k run ls rest) = i ∷ (numbers ls ++ numbers rest)

-- n differs from each
abbrev Differs : ℕ → List ℕ → Type 0
Differs n xs = AllByRecursion (λ x. eqb n x ≡ false) xs

Differs-append : (n : ℕ) (xs ys : List ℕ) → Differs n xs → Differs n ys → Differs n (xs ++ ys)
Differs-append n [] ys h k = k
Differs-append n (x ∷ xs) ys h k = (h.0, Differs-append n xs ys h.1 k)

append-Differs : (n : ℕ) (xs ys : List ℕ) → Differs n (xs ++ ys) → Differs n xs × Differs n ys
append-Differs n [] ys h = (tt, h)
append-Differs n (x ∷ xs) ys h = let r = append-Differs n xs ys h.1 in ((h.0, r.0), r.1)

-- what avoids a number has no such one
Differs-avoids : (i : ℕ) (t : Trees) → Avoids i t → Differs i (numbers t)
Differs-avoids i done h = tt
Differs-avoids i (absent rest) h = Differs-avoids i rest h
Differs-avoids i (node j k run ls rest) h =
    (ne_eqb i j (λ e. h.0 (sym e)), Differs-append i (numbers ls) (numbers rest) (Differs-avoids i ls h.1) (Differs-avoids i rest h.2))

-- each number differs from those of the other list
abbrev AllDiffer : List ℕ → List ℕ → Type 0
AllDiffer xs ys = AllByRecursion (λ x. Differs x ys) xs

AllDiffer-append : (xs zs ys : List ℕ) → AllDiffer xs ys → AllDiffer zs ys → AllDiffer (xs ++ zs) ys
AllDiffer-append [] zs ys h k = k
AllDiffer-append (x ∷ xs) zs ys h k = (h.0, AllDiffer-append xs zs ys h.1 k)

AllDiffer-apart : (t u : Trees) → IsApart t u → AllDiffer (numbers t) (numbers u)
AllDiffer-apart done u h = tt
AllDiffer-apart (absent rest) u h = AllDiffer-apart rest u h
AllDiffer-apart (node i k run ls rest) u h =
    (Differs-avoids i u h.0, AllDiffer-append (numbers ls) (numbers rest) (numbers u) (AllDiffer-apart ls u h.1) (AllDiffer-apart rest u h.2))

distinct-append : (xs ys : List ℕ) → IsDistinct eqb xs → IsDistinct eqb ys → AllDiffer xs ys → IsDistinct eqb (xs ++ ys)
unfolding IsDistinct
distinct-append [] ys h k d = k
distinct-append (x ∷ xs) ys h k d = (Differs-append x xs ys h.0 d.0, distinct-append xs ys h.1 k d.1)

distinct-nil : IsDistinct eqb []
unfolding IsDistinct
distinct-nil = tt

-- where no node is reached twice, the numbers are distinct
distinct-once : (t : Trees) → IsReachedOnce t → IsDistinct eqb (numbers t)
distinct-once done h = distinct-nil
distinct-once (absent rest) h = distinct-once rest h
distinct-once (node i k run ls rest) h =
    IsDistinct-cons eqb i (numbers ls ++ numbers rest)
    (Differs-append i (numbers ls) (numbers rest) (Differs-avoids i ls h.0) (Differs-avoids i rest h.1))
    (distinct-append (numbers ls) (numbers rest) (distinct-once ls h.3) (distinct-once rest h.4) (AllDiffer-apart ls rest h.2))

-- a node's number is one of the arena's
number-below : (a : ArenaState) (i : ℕ) (n : NodeState) → node_at a i ≡ Some n → i < length a.nodes.slots
number-below a i n e = by-cases (cases_lt i (length a.nodes.slots))
  where
    by-cases : (i < length a.nodes.slots) ⊎ (length a.nodes.slots ≤ i) → i < length a.nodes.slots
    by-cases (inl h) = h
    by-cases (inr h) = let none : node_at a i ≡ None = get_or_past a.nodes.slots i None h in cc

-- all are below n
abbrev AreBelow : ℕ → List ℕ → Type 0
AreBelow n xs = AllByRecursion (λ x. x < n) xs

AreBelow-append : (n : ℕ) (xs ys : List ℕ) → AreBelow n xs → AreBelow n ys → AreBelow n (xs ++ ys)
AreBelow-append n [] ys h k = k
AreBelow-append n (x ∷ xs) ys h k = (h.0, AreBelow-append n xs ys h.1 k)

-- the numbers of trees that stand are the arena's
numbers-below : (a : ArenaState) (t : Trees) → Stands a t → AreBelow (length a.nodes.slots) (numbers t)
numbers-below a done h = tt
numbers-below a (absent rest) h = numbers-below a rest h
numbers-below a (node i k run ls rest) h = (
  number-below a i (stored k run ls) h.0,
  AreBelow-append (length a.nodes.slots) (numbers ls) (numbers rest) (numbers-below a ls h.1) (numbers-below a rest h.2),
)

first-or-later : (n q x : ℕ) (later : Bool) → ((eqb q x ≡ true) × (q ≡ x)) ⊎ ((eqb q x ≡ false) × (q ≢ x)) → x < n → (later ≡ true → q < n)
    → (eqb q x || later) ≡ true → q < n
first-or-later n q x later (inl same) h rest e = omega (arith, same.1)
first-or-later n q x later (inr other) h rest e = rest (subst (λ b. (b || later) ≡ true) other.0 e)

member-below : (n q : ℕ) (xs : List ℕ) → AreBelow n xs → list_any (eqb q) xs ≡ true → q < n
member-below n q [] h e = cc
member-below n q (x ∷ xs) h e = first-or-later n q x (list_any (eqb q) xs) (eqb_tells q x) h.0 (member-below n q xs h.1) e

-- trees that stand, none of whose nodes is reached twice, have no more nodes than the arena has numbers
count-bound : (a : ArenaState) (t : Trees) → Stands a t → IsReachedOnce t → length (numbers t) ≤ length a.nodes.slots
count-bound a t h once =
    length-le_from_distinct_below (numbers t) (length a.nodes.slots) (distinct-once t once)
    (λ q e. member-below (length a.nodes.slots) q (numbers t) (numbers-below a t h) e)

-- ---- trees that are read

-- so many levels of nodes and links suffice
abbrev Fits : Trees → ℕ → Type 0
Fits done levels = Unit {0}
Fits (absent rest) zero = ⊥
Fits (absent rest) (suc levels) = Fits rest (suc levels)
Fits (node i k run ls rest) zero = ⊥
Fits (node i k run ls rest) (suc levels) = Fits ls levels × Fits rest (suc levels)

-- more levels than nodes suffice
Fits-count : (t : Trees) (levels : ℕ) → length (numbers t) < levels → Fits t levels
Fits-count done levels h = tt
Fits-count (absent rest) zero h = absurd (omega arith)
Fits-count (absent rest) (suc levels) h = Fits-count rest (suc levels) h
Fits-count (node i k run ls rest) zero h = absurd (omega arith)
Fits-count (node i k run ls rest) (suc levels) h =
    let e : length (numbers ls ++ numbers rest) ≡ length (numbers ls) + length (numbers rest) = length-append (numbers ls) (numbers rest) in
    (Fits-count ls levels (omega arith), Fits-count rest (suc levels) (omega arith))

-- trees that stand are read from their roots
read_to-stands : (a : ArenaState) (t : Trees) (levels : ℕ) → Fits t levels → Stands a t → read_to a levels (roots t) ≡ t
read_to-stands a done zero f h = refl
read_to-stands a done (suc levels) f h = refl
read_to-stands a (absent rest) zero f h = absurd f
read_to-stands a (absent rest) (suc levels) f h = ap absent (read_to-stands a rest (suc levels) f h)
read_to-stands a (node i k run ls rest) zero f h = absurd f
read_to-stands a (node i k run ls rest) (suc levels) f h =
    ap (λ o. read_node (λ below. read_to a levels below) i o (read_to a (suc levels) (roots rest))) h.0
    ∙ ap (λ b. node i k run b (read_to a (suc levels) (roots rest))) (read_to-stands a ls levels f.0 h.1)
    ∙ ap (node i k run ls) (read_to-stands a rest (suc levels) f.1 h.2)

run-read : (i : ℕ) (run : List Elem) (o : Option RunState) → IsSomeAnd o (λ r. r.elems ≡ run) → run_tree i o ≡ flat i run
run-read i run None h = absurd h
run-read i run (Some r) h = ap (flat i) h

top-read : (a : ArenaState) (t : Tree) → Stands a (links_of t) → IsReachedOnce (links_of t) → HasRun a t → top_tree a (length a.nodes.slots) (top_of t) ≡ t
top-read a empty h once r = refl
top-read a (rooted i k run ls) h once r =
    let all : length (numbers (node i k run ls done)) ≤ length a.nodes.slots = count-bound a (node i k run ls done) h once in
    let e : length (numbers ls ++ []) ≡ length (numbers ls) + 0 = length-append (numbers ls) [] in
    let few : length (numbers ls) < length a.nodes.slots = omega arith in
    ap (root_tree a (length a.nodes.slots) i) h.0
    ∙ ap (rooted i k run) (read_to-stands a ls (length a.nodes.slots) (Fits-count ls (length a.nodes.slots) few) h.1)
top-read a (flat i run) h once r = run-read i run (run_at a i) r

-- a structure is the tree that is read from its arena
pub tree_in-stands : (s : List NodeKind) (a : ArenaState) (st : Structure) (t : Tree) → IsStanding s a st t → tree_in a st ≡ t
unfolding tree_in
tree_in-stands s a st t h = ap (top_tree a (length a.nodes.slots)) h.top ∙ top-read a t h.nodes h.once h.run

-- a structure without a top has no tree
pub tree_in-empty : (a : ArenaState) (st : Structure) → st.top ≡ tops.Empty → tree_in a st ≡ empty
unfolding tree_in
tree_in-empty a st e = ap (top_tree a (length a.nodes.slots)) e

-- the tree depends on the top alone
pub tree_in-top : (a : ArenaState) (st other : Structure) → other.top ≡ st.top → tree_in a other ≡ tree_in a st
unfolding tree_in
tree_in-top a st other e = ap (top_tree a (length a.nodes.slots)) e
