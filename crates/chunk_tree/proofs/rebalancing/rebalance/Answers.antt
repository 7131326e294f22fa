use Rattle.std.proofs.Common.{◌≡◌, OnOk, Ok, Err, Result, refl, arith}
use Rattle.dt_model.specs.declared.NoMemory.{NoMemory}
use Rattle.node_arena.specs.declared.elements.Structure.{Structure}
use Rattle.node_arena.specs.Structures.{spine_of}
use Rattle.chunk_tree.specs.Balancing.{FreesOld}
use Rattle.chunk_tree.proofs.Counting.{count-low}
use Rattle.chunk_tree.proofs.Renewed.{as-it-is, level-spine}
use Rattle.chunk_tree.proofs.rebalancing.rebalance.Goals as goal

pub returns-then-is_shallow-clause-ok : goal.returns-then-is_shallow-clause-ok
returns-then-is_shallow-clause-ok g c = λ t h.
    as-it-is c.args.kinds.now c.args.kind c.args.arena.now c.args.top t h c.args.top refl refl h.conforms.spine_kept (c.if-is_shallow.ensures.value.0 refl)
    (c.if-is_shallow.ensures.few refl)

pub returns-then-not-may_be_deep-clause-ok : goal.returns-then-not-may_be_deep-clause-ok
returns-then-not-may_be_deep-clause-ok g c = λ t h.
    let none : spine_of c.args.kinds.now t ≡ 0 = level-spine c.args.kinds.now c.args.kind t h.conforms.tree (c.if-not-may_be_deep.ensures.level refl) in
    as-it-is c.args.kinds.now c.args.kind c.args.arena.now c.args.top t h (record { top = c.args.top.top; len = c.args.top.len; spine = 0 }) refl refl
    (omega arith) (omega arith) (omega arith)

pub returns-then-leads_home-clause-freed : goal.returns-then-leads_home-clause-freed
returns-then-leads_home-clause-freed g c = by c.relink.result
  where
    by : (r : Result Structure NoMemory) → OnOk r (FreesOld c.args.kinds.now c.args.kind c.args.arena.now c.relink.new.arena c.args.top)
    by (Ok new) = λ t h numbered. (let low = count-low c.args.kinds.now c.requires.sound c.args.kind c.args.arena.now c.args.top t h in
        omega (arith, low, c.relink.ensures.rest.spare))
    by (Err e) = tt

pub returns-then-is_shallow-clause-freed : goal.returns-then-is_shallow-clause-freed
returns-then-is_shallow-clause-freed g c = λ t h numbered.
    let low = count-low c.args.kinds.now c.requires.sound c.args.kind c.args.arena.now c.args.top t h in
    omega (arith, low)

pub returns-then-not-may_be_deep-clause-freed : goal.returns-then-not-may_be_deep-clause-freed
returns-then-not-may_be_deep-clause-freed g c = λ t h numbered.
    let low = count-low c.args.kinds.now c.requires.sound c.args.kind c.args.arena.now c.args.top t h in
    omega (arith, low)
