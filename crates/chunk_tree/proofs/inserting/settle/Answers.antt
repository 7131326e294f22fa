use Rattle.std.proofs.Common.{◌≡◌, ◌≤◌, length, Some, inl, refl, subst, sym, ap, ◌∙◌, arith}
use Rattle.std.specs.List.{insert}
use Rattle.node_arena.specs.Arenas.{node_at, place_in, ChangesNode}
use Rattle.node_arena.specs.Kinds.{kind_at}
use Rattle.chunk_tree.specs.Writes.{HasKindsRun}
use Rattle.chunk_tree.proofs.Options.{at_known, known, and_known, unknown}
use Rattle.node_arena.proofs.PutInLemmas.{place_in-low, put_in-place}
use Rattle.chunk_tree.proofs.inserting.settle.Goals as goal

pub insert-requires : goal.insert-requires
insert-requires g c =
    let o = node_at c.args.arena.now c.args.here in
    let k = known o (HasKindsRun c.args.kinds.now c.args.arena.now) c.requires.there in
    let place : c.place.result ≡ place_in c.args.elem.at k.value.run = at_known o _ k.value k.is c.place.ensures.value in
    let len : c.len.result ≡ length k.value.run = at_known o _ k.value k.is c.len.ensures.value in
    let kind : c.kind.result ≡ k.value.kind = at_known o _ k.value k.is c.kind.ensures.value in
    let hi : c.kind_of-hi.result.hi ≡ (kind_at c.args.kinds.now k.value.kind).hi = ap (λ v. v.hi) c.kind_of-hi.ensures.value
    ∙ ap (λ m. (kind_at c.args.kinds.now m).hi) kind in
    let low : place_in c.args.elem.at k.value.run ≤ length k.value.run = place_in-low c.args.elem.at k.value.run in
    record { there = and_known o _ k.value k.is (omega arith, omega (arith, k.has.serves, c.if-len-hi.true), tt) }

pub returns-then-len-hi : goal.returns-then-len-hi
returns-then-len-hi g c =
    let o = node_at c.args.arena.now c.args.here in
    let k = known o (HasKindsRun c.args.kinds.now c.args.arena.now) c.requires.there in
    let place : c.place.result ≡ place_in c.args.elem.at k.value.run = at_known o _ k.value k.is c.place.ensures.value in
    let len : c.len.result ≡ length k.value.run = at_known o _ k.value k.is c.len.ensures.value in
    let kind : c.kind.result ≡ k.value.kind = at_known o _ k.value k.is c.kind.ensures.value in
    let hi : c.kind_of-hi.result.hi ≡ (kind_at c.args.kinds.now k.value.kind).hi = ap (λ v. v.hi) c.kind_of-hi.ensures.value
    ∙ ap (λ m. (kind_at c.args.kinds.now m).hi) kind in
    let put = ap (λ m. insert k.value.run m c.args.elem) place ∙ sym (put_in-place c.args.elem k.value.run) in
    let ch = at_known o _ k.value k.is c.insert.ensures.node in
    record {
      settles = unknown o _ k.value k.is (inl (
        record {
          room = omega (arith, c.if-len-hi.true);
          puts = subst (λ r. ChangesNode c.args.arena.now c.insert.new.self c.args.here (Some (record k.value { run = r }))) put ch;
        },
        (record { spare = omega (arith, c.insert.ensures.spare); runs = ch.runs; most = ch.node.most; places = ch.node.places }, c.insert.ensures.steps),
        refl,
      ));
    }
