use Rattle.std.proofs.Common.{◌≡◌, refl, sym, subst, arith}
use Rattle.node_arena.specs.Kinds.{kinds_of, root_of}
use Rattle.insert_gen.specs.Trials.{IsGrown}
use Rattle.insert_gen.proofs.TrialLemmas.{grown-empty, grown-back, readable-grown}
use Rattle.insert_gen.proofs.tests.filled.Goals as goal

pub loop-i-init : goal.loop-i-init
loop-i-init g c = grown-empty _ _ _ _ _ refl c.arena_for-arena.ensures.serves

pub put-requires : goal.put-requires
put-requires g c = record {
  grown = subst (λ f. IsGrown (kinds_of c.args.code.now) (root_of c.args.code.now) c.loop-i.arena c.loop-i.top f) (sym c.as_mut_slice.ensures.value)
      c.loop-i.invariant;
}

pub written-requires : goal.written-requires
written-requires g c = record { readable = readable-grown _ _ _ _ _ c.in_ok-top.ensures.grown }

pub loop-i-preserved : goal.loop-i-preserved
loop-i-preserved g c =
    let same = c.put.auto.free in
    let len = c.as_mut_slice.ensures.len in
    grown-back _ _ _ _ _ _ _ (omega (arith, same, len)) c.in_ok-top.ensures.grown
