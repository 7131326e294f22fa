-- How many elements the nodes of a kind have each.
use Rattle.std.proofs.Common.{◌≡◌, ◌≢◌, ◌≤◌, ◌<◌, ◌+◌, ◌-◌, ◌*◌, inl, inr, min, zero, suc, Some, None, ℕ, if◌then◌else◌, Bool, true, false, List, nat_eq, refl, ap, ◌∙◌, sym, subst, arith}
use Rattle.std.proofs.Math.Nat.{mul-le-mul_right, le-mul_of_pos_right}
use Rattle.node_arena.specs.declared.kinds.NodeKind.{NodeKind}
use Rattle.node_arena.specs.declared.kinds.Shape.{Shape}
use Rattle.node_arena.specs.declared.kinds.Shape.TheVariants.{Flat, Post, Ends, Woven}
use Rattle.node_arena.specs.Kinds.{kind_at, shape_at}
use Rattle.node_arena.specs.Rules.{AreSound, HasSoundLinks, MayFollow, post_of}
use Rattle.bulk_build.specs.Layouts.{leads_home, fill_by, fill_of, headed, capacity_by, capacity}
use Rattle.bulk_build.proofs.LevelsLemmas.{enough_of}

-- what the rules say of the links, where they are known
pub links-of : (s : List NodeKind) (k : ℕ) (sh : Shape) → AreSound s → shape_at s k ≡ sh → HasSoundLinks s (kind_at s k) sh
links-of s k sh sound e = subst (HasSoundLinks s (kind_at s k)) e (sound.links k)

-- each kind's runs may have an element
pub hi-some : (s : List NodeKind) (k : ℕ) → AreSound s → 1 ≤ (kind_at s k).hi
hi-some s k sound = let a = sound.some k in let b = sound.bounds k in omega arith

-- at least one
pub fill-some : (s : List NodeKind) (k : ℕ) → AreSound s → 1 ≤ fill_of s k
fill-some s k sound = by (shape_at s k) refl
  where
    chosen : (b : Bool) (n : ℕ) → 1 ≤ n → 1 ≤ (if b then n else 1)
    chosen true n h = h
    chosen false n h = omega arith

    by : (sh : Shape) → shape_at s k ≡ sh → 1 ≤ fill_by k (kind_at s k) sh
    by Flat e = omega arith
    by (Post p) e = chosen (nat_eq p k) (kind_at s k).hi (hi-some s k sound)
    by (Ends p q) e = chosen (leads_home k (Ends p q)) (kind_at s k).hi (hi-some s k sound)
    by Woven e = let w = links-of s k Woven sound e in let h : 2 ≤ (kind_at s k).hi = w.0 in omega arith

home-ends : (k p q : ℕ) → (p ≡ k → q ≡ k → ⊥) → leads_home k (Ends p q) ≡ false
home-ends k p q h = by (nat_eq p k) refl
  where
    by : (b : Bool) → nat_eq p k ≡ b → (if nat_eq p k then nat_eq q k else false) ≡ false
    by false e = ap (λ b. if b then nat_eq q k else false) e
    by true e = ap (λ b. if b then nat_eq q k else false) e ∙ inner (nat_eq q k) refl
      where
        inner : (b : Bool) → nat_eq q k ≡ b → nat_eq q k ≡ false
        inner false f = f
        inner true f = absurd (h (grind (arith, e)) (grind (arith, f)))

-- nodes with two links, of which one leads elsewhere, have one element each, for the count
pub fill-ends : (s : List NodeKind) (k p q : ℕ) → shape_at s k ≡ Ends p q → (p ≡ k → q ≡ k → ⊥) → fill_of s k ≡ 1
fill-ends s k p q e other = ap (fill_by k (kind_at s k)) e ∙ ap (λ b. if b then (kind_at s k).hi else 1) (home-ends k p q other)

-- and so has the first node of a structure whose other nodes are of another kind
pub fill-head : (s : List NodeKind) (k p : ℕ) → shape_at s k ≡ Post p → nat_eq p k ≡ false → fill_of s k ≡ 1
fill-head s k p e other = ap (fill_by k (kind_at s k)) e ∙ ap (λ b. if b then (kind_at s k).hi else 1) other

-- a kind that may stand behind a run has links
pub follower-linked : (s : List NodeKind) (kind : NodeKind) (p : ℕ) → MayFollow s kind p → shape_at s p ≢ Flat
follower-linked s kind p (below, inl woven) flat = let e : Flat ≡ Woven = sym flat ∙ woven in cc
follower-linked s kind p (below, inr (own, fits)) flat = let e : None ≡ Some p = ap post_of (sym flat) ∙ own in cc

-- ---- how many nodes suffice

headed-plain : (n m first each : ℕ) → 1 ≤ first → 1 ≤ each → n ≤ m → n ≤ headed first each m
headed-plain n zero first each a b h = h
headed-plain n (suc m) first each a b h = let g : m ≤ m * each = le-mul_of_pos_right m b in omega arith

headed-more : (m n first each : ℕ) → m ≤ n → headed first each m ≤ headed first each n
headed-more zero n first each h = omega arith
headed-more (suc m) zero first each h = absurd (omega arith)
headed-more (suc m) (suc n) first each h = let g : m * each ≤ n * each = mul-le-mul_right each (omega arith) in omega arith

-- what the first node leaves fits into the others
pub headed-rest : (n m first each : ℕ) → n ≤ headed first each m → n - min first n ≤ m * each
headed-rest n zero first each h = omega arith
headed-rest n (suc m) first each h = omega arith

-- and a node is left for the first one
pub headed-left : (n m new first each : ℕ) → 1 ≤ n → n ≤ headed first each m → m * each < new * each + (n - min first n) + each → 1 ≤ new
headed-left n zero new first each some h g = absurd (omega arith)
headed-left n (suc m) zero first each some h g = absurd (omega arith)
headed-left n (suc m) (suc new) first each some h g = omega arith

-- of a kind that leads to another alone, the first node comes before nodes of that kind
pub capacity-head : (s : List NodeKind) (k p m : ℕ) → shape_at s k ≡ Post p → nat_eq p k ≡ false
    → capacity s k m ≡ headed (kind_at s k).hi (fill_of s p) m
capacity-head s k p m e other =
    ap (λ sh. capacity_by s k sh m) e ∙ ap (λ b. if b then m * (kind_at s k).hi else headed (kind_at s k).hi (fill_of s p) m) other

-- of a kind that leads to itself alone, each node is full
pub capacity-home : (s : List NodeKind) (k p m : ℕ) → shape_at s k ≡ Post p → p ≡ k → capacity s k m ≡ m * (kind_at s k).hi
capacity-home s k p m e same =
    let home : nat_eq p k ≡ true = grind (arith, same) in
    ap (λ sh. capacity_by s k sh m) e ∙ ap (λ b. if b then m * (kind_at s k).hi else headed (kind_at s k).hi (fill_of s p) m) home

-- nodes with two links have as many elements each
pub capacity-ends : (s : List NodeKind) (k p q m : ℕ) → shape_at s k ≡ Ends p q → capacity s k m ≡ m * fill_of s k
capacity-ends s k p q m e = subst (λ sh. capacity_by s k sh m ≡ m * fill_by k (kind_at s k) sh) (sym e) refl

-- nodes of a woven kind have as many elements each
pub capacity-woven : (s : List NodeKind) (k m : ℕ) → shape_at s k ≡ Woven → capacity s k m ≡ m * fill_of s k
capacity-woven s k m e = subst (λ sh. capacity_by s k sh m ≡ m * fill_by k (kind_at s k) sh) (sym e) refl

-- and so have the nodes of a kind that may stand behind a run
pub capacity-follower : (s : List NodeKind) (kind : NodeKind) (p m : ℕ) → MayFollow s kind p → capacity s p m ≡ m * fill_of s p
capacity-follower s kind p m (below, inl woven) = capacity-woven s p m woven
capacity-follower s kind p m (below, inr (own, fits)) = by (shape_at s p) refl own
  where
    by : (sh : Shape) → shape_at s p ≡ sh → post_of sh ≡ Some p → capacity s p m ≡ m * fill_of s p
    by Flat e f = cc
    by (Post q) e f =
        let same : q ≡ p = cc in
        let home : nat_eq q p ≡ true = grind (arith, same) in
        let full : fill_of s p ≡ (kind_at s p).hi = ap (fill_by p (kind_at s p)) e ∙ ap (λ b. if b then (kind_at s p).hi else 1) home in
        capacity-home s p q m e same ∙ ap (λ f. m * f) (sym full)
    by (Ends q r) e f = capacity-ends s p q r m e
    by Woven e f = cc

-- one node for each element suffices
pub capacity-plain : (s : List NodeKind) (k n m : ℕ) → AreSound s → n ≤ m → n ≤ capacity s k m
capacity-plain s k n m sound h = by (shape_at s k) refl
  where
    by : (sh : Shape) → shape_at s k ≡ sh → n ≤ capacity_by s k sh m
    by Flat e = h
    by (Post p) e = chosen (nat_eq p k)
      where
        chosen : (b : Bool) → n ≤ (if b then m * (kind_at s k).hi else headed (kind_at s k).hi (fill_of s p) m)
        chosen true = enough_of n m (kind_at s k).hi (hi-some s k sound) h
        chosen false = headed-plain n m (kind_at s k).hi (fill_of s p) (hi-some s k sound) (fill-some s p sound) h
    by (Ends p q) e = enough_of n m (fill_by k (kind_at s k) (Ends p q)) (subst (λ v. 1 ≤ fill_by k (kind_at s k) v) e (fill-some s k sound)) h
    by Woven e = enough_of n m (fill_by k (kind_at s k) Woven) (subst (λ v. 1 ≤ fill_by k (kind_at s k) v) e (fill-some s k sound)) h

-- more nodes suffice for as many
pub capacity-more : (s : List NodeKind) (k m n : ℕ) → m ≤ n → capacity s k m ≤ capacity s k n
capacity-more s k m n h = by (shape_at s k)
  where
    by : (sh : Shape) → capacity_by s k sh m ≤ capacity_by s k sh n
    by Flat = h
    by (Post p) = chosen (nat_eq p k)
      where
        chosen : (b : Bool) → (if b then m * (kind_at s k).hi else headed (kind_at s k).hi (fill_of s p) m)
            ≤ (if b then n * (kind_at s k).hi else headed (kind_at s k).hi (fill_of s p) n)
        chosen true = mul-le-mul_right (kind_at s k).hi h
        chosen false = headed-more m n (kind_at s k).hi (fill_of s p) h
    by (Ends p q) = mul-le-mul_right (fill_by k (kind_at s k) (Ends p q)) h
    by Woven = mul-le-mul_right (fill_by k (kind_at s k) Woven) h
