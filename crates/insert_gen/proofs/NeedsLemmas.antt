-- More elements want no fewer nodes.
use Rattle.std.proofs.Common.{◌≡◌, ◌≤◌, ◌<◌, ◌+◌, ◌*◌, ◌^◌, ◌⊎◌, inl, inr, ℕ, suc, List, sym, subst, arith}
use Rattle.std.proofs.Math.Nat.{two-pow-succ, mul-le-mul_left}
use Rattle.std.proofs.Math.Pow.{pow_mono}
use Rattle.std.proofs.lemmas.Bool.{cases_lt}
use Rattle.node_arena.specs.declared.kinds.NodeKind.{NodeKind}
use Rattle.node_arena.specs.declared.kinds.Shape.{Shape}
use Rattle.node_arena.specs.declared.kinds.Shape.TheVariants.{Flat, Post, Ends, Woven}
use Rattle.node_arena.specs.Kinds.{shape_at}
use Rattle.insert_gen.specs.Needs.{HasDigits, passed_to_woven, nodes_for, WantsNodes}

-- a greater number has no fewer digits
pub digits-rise : (n m d e : ℕ) → n ≤ m → HasDigits n d → HasDigits m e → d ≤ e
digits-rise n m d e l hd he = pick (cases_lt e d)
  where
    pick : (e < d) ⊎ (d ≤ e) → d ≤ e
    pick (inr h) = h
    pick (inl h) =
        let low : 2 ^ suc e ≤ 2 ^ d = pow_mono (omega (arith, h)) in
        let two : 2 ^ suc e ≡ 2 ^ e + 2 ^ e = two-pow-succ e in
        absurd (omega (arith, low, two, l, hd.1, he.0))

-- more digits want no fewer nodes
pub nodes_for-rise : (s : List NodeKind) (shape : Shape) (d e : ℕ) → d ≤ e → nodes_for s shape d ≤ nodes_for s shape e
nodes_for-rise s Flat d e l = omega arith
nodes_for-rise s (Post p) d e l = let m : passed_to_woven s * d ≤ passed_to_woven s * e = mul-le-mul_left (passed_to_woven s) l in omega arith
nodes_for-rise s (Ends p q) d e l = let m : passed_to_woven s * d ≤ passed_to_woven s * e = mul-le-mul_left (passed_to_woven s) l in omega arith
nodes_for-rise s Woven d e l = omega arith

-- a longer structure wants no fewer nodes
pub nodes-rise : (s : List NodeKind) (k n m d wanted : ℕ) → n ≤ m → HasDigits n d → WantsNodes s k m wanted → nodes_for s (shape_at s k) d ≤ wanted
nodes-rise s k n m d wanted l h w =
    subst (λ v. nodes_for s (shape_at s k) d ≤ v) (sym w.2) (nodes_for-rise s (shape_at s k) d w.0 (digits-rise n m d w.0 l h w.1))
