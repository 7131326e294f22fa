-- The longest run of any of the kinds, and arenas that have places for it.
use Rattle.std.proofs.Common.{◌≡◌, ◌≤◌, ◌<◌, ◌+◌, ℕ, zero, suc, max, Bool, true, false, leb, cond, List, [], ◌∷◌, length, take, get_or, refl, ap, ◌∙◌, arith}
use Rattle.node_arena.specs.declared.kinds.NodeKind.{NodeKind}
use Rattle.node_arena.specs.Arenas.{ArenaState, places_for}
use Rattle.node_arena.specs.Kinds.{kind_at, longest_of}
use Rattle.node_arena.specs.Rules.{AreSound, Serves}

next : (ks : List NodeKind) (i : ℕ) (d : NodeKind) → i < length ks → longest_of (take (suc i) ks) ≡ max (get_or ks i d).hi (longest_of (take i ks))
next [] i d l = absurd (omega arith)
next (k ∷ ks) zero d l = refl
next (k ∷ ks) (suc i) d l =
    let ih : longest_of (take (suc i) ks) ≡ max (get_or ks i d).hi (longest_of (take i ks)) = next ks i d (omega arith) in
    omega arith

-- one more kind
pub longest_of-next : (ks : List NodeKind) (i : ℕ) (d : NodeKind) → i < length ks
    → longest_of (take (i + 1) ks) ≡ max (get_or ks i d).hi (longest_of (take i ks))
longest_of-next ks i d l = let one : i + 1 ≡ suc i = omega arith in ap (λ n. longest_of (take n ks)) one ∙ next ks i d l

-- no kind has longer runs
pub hi-longest : (ks : List NodeKind) (k : ℕ) → (kind_at ks k).hi ≤ max 1 (longest_of ks)
hi-longest [] k = omega arith
hi-longest (x ∷ ks) zero = omega arith
hi-longest (x ∷ ks) (suc k) = let ih : (kind_at ks k).hi ≤ max 1 (longest_of ks) = hi-longest ks k in omega arith

-- it is the least number with that property
pub longest_of-least : (ks : List NodeKind) (n : ℕ) → ((k : ℕ) → (kind_at ks k).hi ≤ n) → longest_of ks ≤ n
longest_of-least [] n h = omega arith
longest_of-least (x ∷ ks) n h =
    let ih : longest_of ks ≤ n = longest_of-least ks n (λ k. h (suc k)) in
    let first : x.hi ≤ n = h 0 in
    omega arith

-- kinds that keep the rules have runs of at most 16 elements
pub longest_of-sound : (ks : List NodeKind) → AreSound ks → longest_of ks ≤ 16
longest_of-sound ks sound = longest_of-least ks 16 sound.few

covers : (n : ℕ) (a b c : Bool) → leb n 2 ≡ a → leb n 4 ≡ b → leb n 8 ≡ c → n ≤ 16 → max 1 n ≤ cond a 2 (cond b 4 (cond c 8 16))
covers n true b c e f g l = let h : n ≤ 2 = grind (arith, e) in omega arith
covers n false true c e f g l = let h : n ≤ 4 = grind (arith, f) in omega arith
covers n false false true e f g l = let h : n ≤ 8 = grind (arith, g) in omega arith
covers n false false false e f g l = omega arith

-- an arena that is made for the longest run has places for each
pub Serves-new : (s : List NodeKind) (a : ArenaState) → AreSound s → a.nodes.most ≡ places_for (longest_of s) → Serves s a
Serves-new s a sound e k =
    let most : max 1 (longest_of s) ≤ places_for (longest_of s) =
    covers (longest_of s) (leb (longest_of s) 2) (leb (longest_of s) 4) (leb (longest_of s) 8) refl refl refl (longest_of-sound s sound) in
    let low : (kind_at s k).hi ≤ max 1 (longest_of s) = hi-longest s k in
    omega arith

-- what served still does, since the number of places of a node never changes
pub Serves-kept : (s : List NodeKind) (a b : ArenaState) → b.nodes.most ≡ a.nodes.most → Serves s a → Serves s b
Serves-kept s a b e h k = let low : (kind_at s k).hi ≤ a.nodes.most = h k in omega arith
