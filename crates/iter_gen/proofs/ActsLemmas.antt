-- Acts by kind, and their order.
use Rattle.std.proofs.Common.{◌≡◌, ◌<◌, ℕ, zero, suc, List, [], ◌∷◌, map, length, get_or, refl, arith}
use Rattle.node_arena.specs.declared.kinds.NodeKind.{NodeKind}
use Rattle.node_arena.specs.declared.kinds.Shape.{Shape}
use Rattle.node_arena.specs.declared.kinds.Shape.TheVariants.{Flat, Post, Ends, Woven}
use Rattle.node_arena.specs.Kinds.{bare_kind}
use Rattle.iter_gen.specs.declared.codes.Act.{Act}
use Rattle.iter_gen.specs.Acts.{acts_of, AreInOrder}

-- lists of acts that are those of the kinds, read at a place
pub acts-at : {X : Type 0} (f : X → List Act) (xs : List X) (kinds : List NodeKind) (n : ℕ) (d : X) → map f xs ≡ map (λ (k : NodeKind). acts_of k.shape) kinds
    → n < length xs → f (get_or xs n d) ≡ acts_of (get_or kinds n bare_kind).shape
acts-at f [] kinds n d e l = absurd (omega arith)
acts-at f (x ∷ xs) [] n d e l = cc
acts-at f (x ∷ xs) (k ∷ kinds) zero d e l = let same : f x ≡ acts_of k.shape = cc (e) in same
acts-at f (x ∷ xs) (k ∷ kinds) (suc n) d e l =
    let rest : map f xs ≡ map (λ (k : NodeKind). acts_of k.shape) kinds = cc (e) in acts-at f xs kinds n d rest (omega arith)

-- the acts of a shape go through a node in the order of its walk
pub acts_of-order : (shape : Shape) → AreInOrder shape (acts_of shape)
acts_of-order Flat run [] h = refl
acts_of-order Flat run (l ∷ ls) h = absurd (omega arith)
acts_of-order (Post p) run [] h = absurd (omega arith)
acts_of-order (Post p) run (l ∷ []) h = refl
acts_of-order (Post p) run (l ∷ m ∷ ls) h = absurd (omega arith)
acts_of-order (Ends p q) run [] h = absurd (omega arith)
acts_of-order (Ends p q) run (l ∷ []) h = absurd (omega arith)
acts_of-order (Ends p q) run (l ∷ m ∷ []) h = refl
acts_of-order (Ends p q) run (l ∷ m ∷ n ∷ ls) h = absurd (omega arith)
acts_of-order Woven run ls h = refl
