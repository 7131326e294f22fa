-- A structure into which elements are put one by one.
use Rattle.std.proofs.Common.{◌≡◌, ◌≢◌, ◌≤◌, ◌<◌, ◌+◌, ℕ, zero, suc, Bool, true, false, List, [], ◌∷◌, ◌++◌, length, take, get_or, slice_index_or, Option, Some, None, IsSome, IfSome, Result, Ok, Err, IfOk, refl, ap, ◌∙◌, sym, subst, arith}
use Rattle.std.proofs.lemmas.List.{take-append-le, take_all}
use Rattle.std.specs.List.{slice_set}
use Rattle.std.specs.Option.{IsSomeAnd}
use Rattle.node_arena.specs.declared.elements.Elem.{Elem}
use Rattle.node_arena.specs.declared.elements.Structure.{Structure}
use Rattle.node_arena.specs.declared.elements.Top.TheVariants as tops
use Rattle.node_arena.specs.declared.kinds.NodeKind.{NodeKind}
use Rattle.node_arena.specs.declared.kinds.Shape.{Shape}
use Rattle.node_arena.specs.declared.kinds.Shape.TheVariants.{Flat, Post, Ends, Woven}
use Rattle.node_arena.specs.Arenas.{NodeState, RunState, ArenaState, run_at}
use Rattle.node_arena.specs.Insertions.{put_in, Lacks, IsPutIn}
use Rattle.node_arena.specs.Rules.{Serves}
use Rattle.node_arena.specs.Structures.{Tree, empty, rooted, flat, walk_of, IsStanding, IsConforming, IsStructure}
use Rattle.node_arena.proofs.PutInLemmas.{Lacks-put_in}
use Rattle.node_arena.proofs.StructuresLemmas.{IsStanding-outside, AreApart-flip, tree_unique}
use Rattle.chunk_tree.specs.Balancing.{IsRebalanced}
use Rattle.insert_gen.specs.Inserting.{HasRoom}
use Rattle.insert_gen.specs.Needs.{runs_for}
use Rattle.structure_bench.specs.Growing.{IsGrown, IsSame, TakesIn}

-- what stands in an arena stands there after it has got more room
pub standing-reserved : (s : List NodeKind) (a b : ArenaState) (st : Structure) (t : Tree) → b.nodes.slots ≡ a.nodes.slots → b.runs.slots ≡ a.runs.slots
    → IsStanding s a st t → IsStanding s b st t
standing-reserved s a b st t same runs h =
    IsStanding-outside s a b st empty t
    (record {
      nodes = λ i g v. ap (λ (q : List (Option NodeState)). slice_index_or q i None) same;
      runs = λ i g v. ap (λ (q : List (Option RunState)). slice_index_or q i None) runs;
    })
    (AreApart-flip empty t (record { nodes = tt; runs = tt })) h

-- ---- a structure that is made shallow

-- the structure itself
pub IsSame-self : (s : List NodeKind) (k : ℕ) (a : ArenaState) (st : Structure) (t : Tree) → IsStanding s a st t → IsConforming s k st t → (u : Tree)
    → IsStanding s a st u → IsSame s k a u st
IsSame-self s k a st t h c u g = record { tree = u; stands = g; conforms = subst (IsConforming s k st) (tree_unique s a st t u h g) c; walk_is = refl }

-- what a rebalancing says of its answer
abbrev pub IsRebalancedIn : {E : Type 0} → List NodeKind → ℕ → ArenaState → ArenaState → Structure → Result Structure E → Type 0
IsRebalancedIn s k a b st r = IfOk r (λ new. (t : Tree) → IsStructure s k a st t → IsRebalanced s k a b st t new)

-- one that was rebalanced
pub IsSame-rebalanced : {E : Type 0} (s : List NodeKind) (k : ℕ) (a b : ArenaState) (st : Structure) (t : Tree) → IsStanding s a st t
    → IsConforming s k st t → (r : Result Structure E) → IsRebalancedIn s k a b st r
    → IfOk r (λ new. (u : Tree) → IsStanding s a st u → IsSame s k b u new)
IsSame-rebalanced s k a b st t h c (Ok new) f = λ u g.
    let p = f u (record { stands = g; conforms = subst (IsConforming s k st) (tree_unique s a st t u h g) c }) in
    record { tree = p.tree; stands = p.holds.stands; conforms = p.holds.conforms; walk_is = p.walk_is }
IsSame-rebalanced s k a b st t h c (Err e) f = tt

-- ---- elements that are put in

-- a structure that has x put in takes it in
pub TakesIn-put : (s : List NodeKind) (k : ℕ) (a b : ArenaState) (x : Elem) (t : Tree) (new : Structure) → IsPutIn s k a b x t new → TakesIn s k b x t new
TakesIn-put s k a b x t new p = record { tree = p.tree; stands = p.stands; conforms = p.conforms; walk_is = p.walk_is }

-- what one with the same elements takes in, the structure takes in
pub TakesIn-same : (s : List NodeKind) (k : ℕ) (b : ArenaState) (x : Elem) (t u : Tree) (new : Structure) → walk_of s u ≡ walk_of s t
    → TakesIn s k b x u new → TakesIn s k b x t new
TakesIn-same s k b x t u new e p = record {
  tree = p.tree;
  stands = p.stands;
  conforms = p.conforms;
  walk_is = p.walk_is ∙ ap (put_in x) e;
}

-- an empty structure lacks all
pub grown-empty : (s : List NodeKind) (k : ℕ) (a : ArenaState) (free : List Bool) → Serves s a
    → IsGrown s k a (record { top = tops.Empty; len = 0; spine = 0 }) free 0
grown-empty s k a free serves = record {
  tree = empty;
  stands = record { top = refl; nodes = tt; once = tt; run = tt; counted = refl };
  conforms = record { tree = tt; spine_kept = omega arith; spine_low = omega arith };
  lacks = λ n f. tt;
  serves = serves;
  few = omega arith;
}

-- a turn in which nothing is put in
pub grown-less : (s : List NodeKind) (k : ℕ) (a : ArenaState) (st : Structure) (free : List Bool) (turns : ℕ) → IsGrown s k a st free turns
    → IsGrown s k a st free (turns + 1)
grown-less s k a st free turns g = record {
  tree = g.tree;
  stands = g.stands;
  conforms = g.conforms;
  lacks = g.lacks;
  serves = g.serves;
  few = omega (arith, g.few);
}

free-set : (free : List Bool) (at n : ℕ) → at < length free → get_or (slice_set free at false) n false ≡ true → (at ≢ n) × (get_or free n false ≡ true)
free-set [] at n l e = absurd (omega arith)
free-set (b ∷ free) zero zero l e = let f : false ≡ true = e in cc
free-set (b ∷ free) zero (suc n) l e = ((λ f. cc), e)
free-set (b ∷ free) (suc at) zero l e = ((λ f. cc), e)
free-set (b ∷ free) (suc at) (suc n) l e =
    let r = free-set free at n (omega arith) e in
    ((λ f. r.0 (omega arith)), r.1)

-- an element whose coordinate was free is put in
pub grown-put : (s : List NodeKind) (k : ℕ) (a b : ArenaState) (st new : Structure) (free : List Bool) (turns : ℕ) (x : Elem) (at : ℕ) → x.at ≡ at
    → at < length free → (g : IsGrown s k a st free turns) → TakesIn s k b x g.tree new → Serves s b → new.len ≡ st.len + 1
    → IsGrown s k b new (slice_set free at false) (turns + 1)
grown-put s k a b st new free turns x at same l g p serves len = record {
  tree = p.tree;
  stands = p.stands;
  conforms = p.conforms;
  lacks = λ n e.
      let r = free-set free at n l e in
      subst (Lacks n) (sym p.walk_is) (Lacks-put_in n x (walk_of s g.tree) (λ z. r.0 (sym same ∙ z)) (g.lacks n r.1));
  serves = serves;
  few = omega (arith, g.few);
}

-- the same where it is put in unless out of memory
pub grown-answer : {E : Type 0} (s : List NodeKind) (k : ℕ) (a b : ArenaState) (st : Structure) (free : List Bool) (turns : ℕ) (x : Elem) (at : ℕ)
    → x.at ≡ at → at < length free → IsGrown s k a st free turns → (answer : Result Structure E)
    → IfOk answer (λ new. (t : Tree) → IsStanding s a st t → TakesIn s k b x t new) → Serves s b → IfOk answer (λ new. new.len ≡ st.len + 1)
    → IfOk answer (λ new. IsGrown s k b new (slice_set free at false) (turns + 1))
grown-answer s k a b st free turns x at same l g (Ok new) takes serves len =
    grown-put s k a b st new free turns x at same l g (takes g.tree g.stands) serves len
grown-answer s k a b st free turns x at same l g (Err e) takes serves len = tt

-- the same marks in another list
pub grown-same : (s : List NodeKind) (k : ℕ) (a : ArenaState) (st : Structure) (free other : List Bool) (turns : ℕ) → other ≡ free
    → IsGrown s k a st free turns → IsGrown s k a st other turns
grown-same s k a st free other turns e g = subst (λ f. IsGrown s k a st f turns) (sym e) g

-- the marks are written back
pub grown-back : (s : List NodeKind) (k : ℕ) (a : ArenaState) (st : Structure) (free rest : List Bool) (n turns : ℕ) → length free ≡ n
    → IsGrown s k a st free turns → IsGrown s k a st (take n (free ++ rest)) turns
grown-back s k a st free rest n turns e g =
    grown-same s k a st free (take n (free ++ rest)) turns (take-append-le n free rest (omega arith) ∙ take_all n free (omega arith)) g
