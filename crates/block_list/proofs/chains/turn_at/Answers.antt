use Rattle.std.proofs.Common.{◌<◌, IsSomeAnd, length, sym, subst, ◌∙◌}
use Rattle.node_arena.specs.Arenas.{NodeState}
use Rattle.node_arena.specs.Conforming.{IsRising}
use Rattle.node_arena.specs.Kinds.{shape_at}
use Rattle.block_list.specs.Chains.{HasChainBehind, Turns}
use Rattle.block_list.specs.declared.chains.Turn.TheVariants as turns
use Rattle.block_list.proofs.Searching.{if-node, turn-into, turn-on, turn-behind}
use Rattle.block_list.proofs.chains.turn_at.Goals as goal

abbrev Ready : NodeState → Type 0
Ready n = (0 < length n.run) × IsRising n.run

pub returns-then-last_at-at : goal.returns-then-last_at-at
returns-then-last_at-at c =
    let at = c.view-node.ensures.value in
    record {
      turns = if-node _ c.view-node.result (λ n. Turns c.args.kinds.now c.args.at n turns.Into) at
          (turn-into c.args.kinds.now c.args.at c.last_at.result c.view-node.result (subst (λ o. IsSomeAnd o Ready) at c.requires.there)
          c.last_at.ensures.value c.if-last_at-at.true);
    }

pub returns-then-has_chain_behind : goal.returns-then-has_chain_behind
returns-then-has_chain_behind c =
    let at = c.view-node.ensures.value in
    record {
      turns = if-node _ c.view-node.result (λ n. Turns c.args.kinds.now c.args.at n (turns.On c.in-Some.next)) at
          (turn-on c.args.kinds.now c.args.at c.last_at.result c.view-node.result (subst (λ o. IsSomeAnd o Ready) at c.requires.there)
          c.last_at.ensures.value c.in-Some.next c.if-last_at-at.false (sym c.in-Some.is ∙ c.link.ensures.value)
          (subst (λ k. HasChainBehind c.args.kinds.now (shape_at c.args.kinds.now k)) c.kind.ensures.value
          (c.has_chain_behind.ensures.yes c.if-has_chain_behind.true)));
    }

pub returns-else-has_chain_behind : goal.returns-else-has_chain_behind
returns-else-has_chain_behind c =
    let at = c.view-node.ensures.value in
    record {
      turns = if-node _ c.view-node.result (λ n. Turns c.args.kinds.now c.args.at n turns.Behind) at
          (turn-behind c.args.kinds.now c.args.at c.last_at.result c.view-node.result (subst (λ o. IsSomeAnd o Ready) at c.requires.there)
          c.last_at.ensures.value c.in-Some.next c.if-last_at-at.false (sym c.in-Some.is ∙ c.link.ensures.value)
          (subst (λ k. HasChainBehind c.args.kinds.now (shape_at c.args.kinds.now k) → ⊥) c.kind.ensures.value
          (c.has_chain_behind.ensures.no c.if-has_chain_behind.false)));
    }
