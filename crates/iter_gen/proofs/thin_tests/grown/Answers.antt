use Rattle.std.proofs.Common.{◌≡◌, ◌≢◌, ◌≤◌, ◌∙◌, ◌*◌, ◌+◌, ℕ, List, length, Option, Some, refl, ap, sym, subst, arith}
use Rattle.dt_model.specs.declared.declared_tensors.Schema.{Schema}
use Rattle.node_arena.specs.declared.elements.Elem.{Elem}
use Rattle.node_arena.specs.declared.elements.Structure.{Structure}
use Rattle.node_arena.specs.declared.elements.TheConstants.{MOST_SPINE}
use Rattle.node_arena.specs.declared.kinds.NodeKind.{NodeKind}
use Rattle.node_arena.specs.declared.kinds.Shape.{Shape}
use Rattle.node_arena.specs.declared.kinds.Shape.TheVariants.{Flat, Post, Ends, Woven}
use Rattle.node_arena.specs.Arenas.{ArenaState}
use Rattle.node_arena.specs.Conforming.{IsRising}
use Rattle.node_arena.specs.Kinds.{kinds_of, root_of, shape_at}
use Rattle.bulk_build.specs.Layouts.{top_at}
use Rattle.iter_gen.specs.Trials.{IsThin, Grows}
use Rattle.iter_gen.specs.Walkers.{CanBeWalked}
use Rattle.iter_gen.proofs.ThinLemmas.{grows-walked, grows-woven}
use Rattle.iter_gen.proofs.thin_tests.grown.Goals as goal

-- what grew of the first kind can be walked
walked : (schema : Schema) (s : List NodeKind) (a b : ArenaState) (es : List Elem) (deep : ℕ) (root : Option ℕ) (st : Structure) (shape : Shape)
    → s ≡ kinds_of schema → 0 ≡ root_of schema → IsThin s 0 shape → shape ≢ Flat → IsRising es → deep ≤ MOST_SPINE → st.top ≡ top_at root
    → st.len ≡ length es → st.spine ≡ MOST_SPINE → Grows s 0 a b es deep root → CanBeWalked schema b st
walked schema s a b es deep root st shape kinds first thin linked rising low top len spine g =
    let here : shape_at (kinds_of schema) (root_of schema) ≡ shape =
    ap (shape_at (kinds_of schema)) (sym first) ∙ ap (λ ks. shape_at ks 0) (sym kinds) ∙ thin.shape_is in
    let grown : Grows (kinds_of schema) (root_of schema) a b es deep root =
    subst (λ k. Grows (kinds_of schema) k a b es deep root) first (subst (λ ks. Grows ks 0 a b es deep root) kinds g) in
    grows-walked schema a b es deep root st (λ e. linked (sym here ∙ e)) rising low top len spine grown

pub returns-in-Path : goal.returns-in-Path
returns-in-Path g c =
    let thin : IsThin c.kinds-kinds.result.now 0 (Ends 0 0) = c.is_thin.ensures.thin c.if-is_thin.true in
    let first : 0 ≡ root_of c.args.code.now = let z : c.root.result ≡ 0 = c.if-root-ne0.false in sym z ∙ c.root.ensures.value in
    record {
      walked = walked c.args.code.now c.kinds-kinds.result.now c.args.arena.now c.path-root.new.arena c.args.elems.now (length c.args.elems.now)
          c.path-root.result c.structure_of.result (Ends 0 0) c.kinds-kinds.ensures.value first thin (λ e. cc) c.requires.rising
          (let l = c.if-len-le96.true in omega (arith, l)) c.structure_of.ensures.top c.structure_of.ensures.len c.structure_of.ensures.spine
          (c.path-root.ensures.path c.kinds-kinds.result.now thin);
    }

pub returns-in-Chain : goal.returns-in-Chain
returns-in-Chain g c =
    let thin : IsThin c.kinds-kinds.result.now 0 (Post 0) = c.if-is_thin-2.ensures.thin refl in
    let first : 0 ≡ root_of c.args.code.now = let z : c.root.result ≡ 0 = c.if-root-ne0.false in sym z ∙ c.root.ensures.value in
    record {
      walked = walked c.args.code.now c.kinds-kinds.result.now c.args.arena.now c.chain-root.new.arena c.args.elems.now 0
          c.chain-root.result c.structure_of-in-Chain.result (Post 0) c.kinds-kinds.ensures.value first thin (λ e. cc) c.requires.rising
          (omega arith) c.structure_of-in-Chain.ensures.top c.structure_of-in-Chain.ensures.len c.structure_of-in-Chain.ensures.spine
          (c.chain-root.ensures.chain c.kinds-kinds.result.now thin);
    }

pub returns-else-len-size_of : goal.returns-else-len-size_of
returns-else-len-size_of g c =
    let thin : IsThin c.kinds-kinds.result.now 0 Woven = c.is_thin-then-levels-le5.ensures.thin c.if-is_thin-3.true in
    let first : 0 ≡ root_of c.args.code.now = let z : c.root.result ≡ 0 = c.if-root-ne0.false in sym z ∙ c.root.ensures.value in
    record {
      walked = walked c.args.code.now c.kinds-kinds.result.now c.args.arena.now c.woven-root.new.arena c.args.elems.now 0
          (Some c.woven-root.result) c.structure_of-in-Woven.result Woven c.kinds-kinds.ensures.value first thin (λ e. cc) c.requires.rising
          (omega arith) c.structure_of-in-Woven.ensures.top c.structure_of-in-Woven.ensures.len c.structure_of-in-Woven.ensures.spine
          (grows-woven c.kinds-kinds.result.now 0 thin c.args.arena.now c.woven-root.new.arena c.in-Woven.levels (2 * length c.args.elems.now + 3)
          c.woven-root.result c.args.elems.now 0 (c.woven-root.ensures.woven c.kinds-kinds.result.now thin));
    }

pub returns-else-elems-size : goal.returns-else-elems-size
returns-else-elems-size g c =
    let thin : IsThin c.kinds-kinds.result.now 0 (Ends 1 2) = c.are_mixed.ensures.root c.if-are_mixed.true in
    let first : 0 ≡ root_of c.args.code.now = let z : c.root.result ≡ 0 = c.if-root-ne0.false in sym z ∙ c.root.ensures.value in
    record {
      walked = walked c.args.code.now c.kinds-kinds.result.now c.args.arena.now c.between-root.new.arena c.args.elems.now 1
          (Some c.between-root.result) c.structure_of-in-Between.result (Ends 1 2) c.kinds-kinds.ensures.value first thin (λ e. cc) c.requires.rising
          (omega arith) c.structure_of-in-Between.ensures.top c.structure_of-in-Between.ensures.len c.structure_of-in-Between.ensures.spine
          (c.between-root.ensures.between c.kinds-kinds.result.now thin (c.are_mixed.ensures.woven c.if-are_mixed.true)
          (c.are_mixed.ensures.chain c.if-are_mixed.true));
    }
