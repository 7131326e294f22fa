-- How many elements a walk has.
use Rattle.std.proofs.Common.{◌≡◌, ◌≤◌, ◌+◌, ℕ, List, [], ◌∷◌, ◌++◌, map, length, refl, ap, arith, length-append}
use Rattle.node_arena.specs.declared.elements.Elem.{Elem}
use Rattle.node_arena.specs.declared.kinds.NodeKind.{NodeKind}
use Rattle.node_arena.specs.Kinds.{shape_at}
use Rattle.node_arena.specs.Trees.{Trees, done, absent, node}
use Rattle.node_arena.specs.Walks.{Part, item, link, weave, between, parts, joined, walk, walks}

-- the elements of several walks
abbrev pub total : List (List Elem) → ℕ
total [] = 0
total (w ∷ ws) = length w + total ws

-- a walk of several trees has the elements of each
pub walk-total : (s : List NodeKind) (t : Trees) → length (walk s t) ≡ total (walks s t)
walk-total s done = refl
walk-total s (absent t) = let ih : length (walk s t) ≡ total (walks s t) = walk-total s t in omega arith
walk-total s (node i k run ls t) =
    let ih : length (walk s t) ≡ total (walks s t) = walk-total s t in
    let own = joined (parts (shape_at s k) run (walks s ls)) in
    let e : length (own ++ walk s t) ≡ length own + length (walk s t) = length-append own (walk s t) in
    omega arith

-- a run and what follows
pub length-items : (run : List Elem) (ps : List (Part (List Elem))) → length (joined (map item run ++ ps)) ≡ length run + length (joined ps)
length-items [] ps = omega arith
length-items (x ∷ run) ps = let ih : length (joined (map item run ++ ps)) ≡ length run + length (joined ps) = length-items run ps in omega arith

-- links alone
pub length-links : (ws : List (List Elem)) → length (joined (map link ws)) ≡ total ws
length-links [] = refl
length-links (w ∷ ws) =
    let ih : length (joined (map link ws)) ≡ total ws = length-links ws in
    let e : length (w ++ joined (map link ws)) ≡ length w + length (joined (map link ws)) = length-append w (joined (map link ws)) in
    omega arith

-- what is below a node with links behind its run isn't more than its walk
pub total-run : (run : List Elem) (ws : List (List Elem)) → total ws ≤ length (joined (map item run ++ map link ws))
total-run run ws =
    let a : length (joined (map item run ++ map link ws)) ≡ length run + length (joined (map link ws)) = length-items run (map link ws) in
    let b : length (joined (map link ws)) ≡ total ws = length-links ws in
    omega arith

-- what is below a node with two links isn't more than its walk
pub total-ends : (run : List Elem) (ws : List (List Elem)) → total ws ≤ length (joined (between run ws))
total-ends run [] = omega arith
total-ends run (w ∷ ws) =
    let rest = joined (map item run ++ map link ws) in
    let a : total ws ≤ length rest = total-run run ws in
    let e : length (w ++ rest) ≡ length w + length rest = length-append w rest in
    omega arith

-- a woven node without links
pub length-bare : (run : List Elem) → length (joined (weave run [])) ≡ length run
length-bare [] = refl
length-bare (x ∷ run) = let ih : length (joined (weave run [])) ≡ length run = length-bare run in omega arith

-- a woven node with one link more than elements
pub length-weave : (run : List Elem) (ws : List (List Elem)) → length ws ≡ length run + 1 → length (joined (weave run ws)) ≡ length run + total ws
length-weave run [] h = absurd (omega arith)
length-weave [] (w ∷ []) h = let e : length (w ++ []) ≡ length w + 0 = length-append w [] in omega arith
length-weave [] (w ∷ v ∷ ws) h = absurd (omega arith)
length-weave (x ∷ run) (w ∷ ws) h =
    let rest = joined (weave run ws) in
    let ih : length rest ≡ length run + total ws = length-weave run ws (omega arith) in
    let e : length (w ++ (x ∷ rest)) ≡ length w + length (x ∷ rest) = length-append w (x ∷ rest) in
    omega arith

-- the elements of a run come first
pub joined-items : (run : List Elem) (ps : List (Part (List Elem))) → joined (map item run ++ ps) ≡ run ++ joined ps
joined-items [] ps = refl
joined-items (x ∷ xs) ps = ap (λ w. x ∷ w) (joined-items xs ps)

-- the walks of a row, one after another
pub joined-links : (s : List NodeKind) (t : Trees) → joined (map link (walks s t)) ≡ walk s t
joined-links s done = refl
joined-links s (absent rest) = joined-links s rest
joined-links s (node i k run ls rest) = ap (λ w. joined (parts (shape_at s k) run (walks s ls)) ++ w) (joined-links s rest)
