use Rattle.std.proofs.Common.{◌≡◌, ◌≤◌, ◌+◌, ◌-◌, length, refl, sym, subst, arith}
use Rattle.node_arena.specs.Rules.{Serves}
use Rattle.chunk_tree.specs.Trials.{IsChunks, IsGrown}
use Rattle.chunk_tree.proofs.TrialLemmas.{chunks-kind, serves-kind, grown-empty, grown-less, top-rooted, refilled}
use Rattle.chunk_tree.proofs.tests.grown.Goals as goal

pub loop-i-init : goal.loop-i-init
loop-i-init g c =
    let most : c.args.hi ≤ c.reserve.new.self.nodes.most = omega (arith, c.new-arena.ensures.most, c.in_ok-reserve.ensures.most) in
    record {
      kind = subst IsChunks (sym c.chunks-kinds.ensures.kind) (chunks-kind c.args.hi c.requires.some c.requires.in_range);
      grown = grown-empty c.chunks-kinds.result c.reserve.new.self _ c.in_ok-free.free.items 2000 refl
          (subst (λ s. Serves s c.reserve.new.self) (sym c.chunks-kinds.ensures.kind) (serves-kind c.args.hi c.reserve.new.self c.requires.some most))
          c.in_ok-reserve.ensures.ok (omega arith);
    }

pub written-requires-clause-there : goal.written-requires-clause-there
written-requires-clause-there g c = (top-rooted _ _ _ _ _ c.put-top.ensures.grown).1

pub written-requires-clause-rooted : goal.written-requires-clause-rooted
written-requires-clause-rooted g c = (top-rooted _ _ _ _ _ c.put-top.ensures.grown).0

pub loop-i-preserved : goal.loop-i-preserved
loop-i-preserved g c =
    let n : length c.put-top.new.free ≡ c.loop-i.free.len = omega (arith, c.put-top.auto.free, c.as_mut_slice.ensures.len) in
    record {
      kind = c.loop-i.invariant.kind;
      grown = subst (λ v. IsGrown c.chunks-kinds.result c.put-top.new.arena c.put-top.result v (2000 - (c.loop-i.i + 1)))
          (sym (refilled c.loop-i.free.len c.put-top.new.free c.loop-i.free.items n))
          (grown-less _ _ _ _ _ (2000 - (c.loop-i.i + 1)) (omega arith) c.put-top.ensures.grown);
    }

pub written-requires-2-clause-there : goal.written-requires-2-clause-there
written-requires-2-clause-there g c = (top-rooted _ _ _ _ _ c.in_ok-top-2.ensures.grown).1

pub written-requires-2-clause-rooted : goal.written-requires-2-clause-rooted
written-requires-2-clause-rooted g c = (top-rooted _ _ _ _ _ c.in_ok-top-2.ensures.grown).0
