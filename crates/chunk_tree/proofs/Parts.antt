-- A full run with another element, in two parts.
use Rattle.std.proofs.Common.{◌≡◌, ◌≤◌, ◌+◌, ◌-◌, ◌/◌, ℕ, List, length, take, drop, Some, IsSomeAnd, IfSome, ap, ◌∙◌, sym, subst, arith, take-append-drop, length-drop}
use Rattle.std.proofs.lemmas.List.{length-take-le}
use Rattle.node_arena.specs.declared.elements.Elem.{Elem}
use Rattle.node_arena.specs.declared.kinds.NodeKind.{NodeKind}
use Rattle.node_arena.specs.Arenas.{ArenaState, NodeState, node_at}
use Rattle.node_arena.specs.Insertions.{put_in}
use Rattle.node_arena.specs.Kinds.{kind_at}
use Rattle.node_arena.proofs.PutInLemmas.{length-put_in}
use Rattle.chunk_tree.specs.Writes.{HasKindsRun, IsParted}
use Rattle.chunk_tree.proofs.Options.{at_known}

-- the parts that the code makes
pub record Halves (s : List NodeKind) (x : Elem) (most : ℕ) (n : NodeState) (keep : ℕ) (items : List Elem) : Type 0 where
  pub within : keep ≤ length items
  pub lower_few : length (take keep items) ≤ 16
  pub upper_few : length (drop keep items) ≤ 8
  pub lower_most : length (take keep items) ≤ most
  pub upper_most : length (drop keep items) ≤ most
  pub parts : IsParted s x n (take keep items) (drop keep items)

-- the run is parted as the code does
pub halves : (s : List NodeKind) (x : Elem) (a : ArenaState) (n : NodeState) (keep : ℕ) (items : List Elem) → HasKindsRun s a n
    → (kind_at s n.kind).hi ≤ length n.run → items ≡ put_in x n.run → keep ≡ (kind_at s n.kind).hi / 2 + 1 → Halves s x a.nodes.most n keep items
halves s x a n keep items r full e k =
    let len : length items ≡ length n.run + 1 = ap length e ∙ length-put_in x n.run in
    let within : keep ≤ length items = omega (arith, r.some, r.few) in
    let low : length (take keep items) ≡ keep = length-take-le keep items within in
    let high : length (drop keep items) ≡ length items - keep = length-drop keep items in
    record {
      within = within;
      lower_few = omega (arith, r.some, r.few);
      upper_few = omega (arith, r.some, r.few, r.high);
      lower_most = omega (arith, r.some, r.serves);
      upper_most = omega (arith, r.some, r.serves, r.high);
      parts = record {
        full = full;
        both = sym e ∙ sym (take-append-drop keep items);
        keep = low ∙ k;
      };
    }

-- the same, of what is read of the node
pub halves-read : (s : List NodeKind) (x : Elem) (a : ArenaState) (i : ℕ) (n : NodeState) (kind keep : ℕ) (items : List Elem) → node_at a i ≡ Some n
    → IsSomeAnd (node_at a i) (HasKindsRun s a) → IfSome (node_at a i) (λ m. (kind_at s m.kind).hi ≤ length m.run) → items ≡ put_in x n.run
    → kind ≡ n.kind → keep ≡ (kind_at s kind).hi / 2 + 1 → Halves s x a.nodes.most n keep items
halves-read s x a i n kind keep items e there full run_is kind_is keep_is =
    halves s x a n keep items (subst (λ o. IsSomeAnd o (HasKindsRun s a)) e there) (at_known (node_at a i) (λ m. (kind_at s m.kind).hi ≤ length m.run) n e full)
    run_is (keep_is ∙ ap (λ k. (kind_at s k).hi / 2 + 1) kind_is)
