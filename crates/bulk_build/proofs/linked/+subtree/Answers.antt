use Rattle.std.proofs.Common.{◌≡◌, ◌≢◌, ◌<◌, ◌≤◌, ◌+◌, ◌-◌, ◌*◌, ℕ, min, length, take, drop, false, nat_eq, ap, sym, ◌∙◌, subst, arith}
use Rattle.std.proofs.lemmas.List.{length-take-le}
use Rattle.std.proofs.lemmas.Grind.{common_steps}
use Rattle.node_arena.specs.declared.kinds.NodeKind.{NodeKind}
use Rattle.node_arena.specs.declared.kinds.Shape.TheVariants.{Post, Ends}
use Rattle.node_arena.specs.Kinds.{kind_at, shape_at}
use Rattle.bulk_build.specs.Layouts.{fill_of, headed}
use Rattle.bulk_build.proofs.RangesLemmas.{length-part}
use Rattle.bulk_build.proofs.JoinsLemmas.{builds-none, head-more, middle-more}
use Rattle.bulk_build.proofs.LevelsLemmas.{taken-plain}
use Rattle.bulk_build.proofs.FillsLemmas.{links-of, hi-some, fill-some, fill-ends, fill-head, follower-linked}
use Rattle.bulk_build.proofs.FillsLemmas.{headed-rest, headed-left, capacity-head, capacity-ends, capacity-plain, capacity-follower}
use Rattle.bulk_build.proofs.linked.+subtree.Goals as goal
use Rattle.bulk_build.proofs.linked.+subtree.Goals.{else-pre-kind-via-then-pre-kind+else-post-kind-2, else-pre-kind-via-else-pre-kind}

not-equal : (n m : ℕ) → n ≢ m → nat_eq n m ≡ false
not-equal n m h = grind (arith, h)

one-each : (n m f : ℕ) → f ≡ 1 → n ≤ m * f → n ≤ m
one-each n m f e h = let g : n ≤ m * 1 = subst (λ v. n ≤ m * v) e h in omega arith

of-one : (old new n f : ℕ) → f ≡ 1 → old ≤ new + n → old * f < new * f + n + f
of-one old new n f e h = subst (λ v. old * v < new * v + n + v) (sym e) (omega arith)

pub returns-then-is_empty-clause-built : goal.returns-then-is_empty-clause-built
returns-then-is_empty-clause-built g t c = builds-none c.args.kinds.now c.args.kind c.args.arena.now c.args.elems.now (grind (arith, common_steps))

pub subtree-link-requires : goal.subtree-link-requires
subtree-link-requires g t c κs within =
    let s = c.args.kinds.now in
    let k = c.args.kind in
    let p = c.in-Post.post in
    let n = length c.args.elems.now in
    let m = c.args.arena.now.nodes.spare in
    let cut = c.min-cut.result in
    let some : 0 < n = grind (arith, common_steps) in
    let hi : 1 ≤ (kind_at s k).hi = hi-some s k c.requires.sound in
    let same : c.kind_of-hi.result.hi ≡ (kind_at s k).hi = ap (λ (v : NodeKind). v.hi) c.kind_of-hi.ensures.value in
    let cut_is : cut ≡ min c.kind_of-hi.result.hi n = c.min-cut.ensures in
    let shape : shape_at s k ≡ Post p = sym (ap (λ (v : NodeKind). v.shape) c.kind_of-hi.ensures.value) ∙ c.in-Post.is in
    let fits : n ≤ headed (kind_at s k).hi (fill_of s p) m =
    subst (λ v. n ≤ v) (capacity-head s k p m shape (not-equal p k c.if-post-kind.false)) c.requires.spare in
    let behind : length (take (n - cut) (drop cut c.args.elems.now)) ≡ n - cut = length-part c.args.elems.now cut n (omega arith) (omega arith) in
    let rest : length (take (n - cut) (drop cut c.args.elems.now)) ≡ n - min (kind_at s k).hi n =
    behind ∙ ap (λ v. n - v) (cut_is ∙ ap (λ v. min v n) same) in
    let rules = links-of s k (Post p) c.requires.sound shape in
    let d : n ≡ t = c.decreases in (
      omega (arith, behind, d, some, hi, same, cut_is),
      (
        within,
        (
          rules.1.0,
          (
            c.requires.sound,
            (
              follower-linked s (kind_at s k) p rules.1,
              (
                c.requires.serves,
                (
                  omega (arith, behind, c.requires.few),
                  subst (λ v. length (take (n - cut) (drop cut c.args.elems.now)) ≤ v) (sym (capacity-follower s (kind_at s k) p m rules.1))
                      (subst (λ v. v ≤ m * fill_of s p) (sym rest) (headed-rest n m (kind_at s k).hi (fill_of s p) fits)),
                ),
              ),
            ),
          ),
        ),
      ),
    )

pub make-requires-clause-spare : goal.make-requires-clause-spare
make-requires-clause-spare g t c =
    let s = c.args.kinds.now in
    let k = c.args.kind in
    let p = c.in-Post.post in
    let n = length c.args.elems.now in
    let m = c.args.arena.now.nodes.spare in
    let cut = c.min-cut.result in
    let some : 0 < n = grind (arith, common_steps) in
    let hi : 1 ≤ (kind_at s k).hi = hi-some s k c.requires.sound in
    let same : c.kind_of-hi.result.hi ≡ (kind_at s k).hi = ap (λ (v : NodeKind). v.hi) c.kind_of-hi.ensures.value in
    let cut_is : cut ≡ min c.kind_of-hi.result.hi n = c.min-cut.ensures in
    let shape : shape_at s k ≡ Post p = sym (ap (λ (v : NodeKind). v.shape) c.kind_of-hi.ensures.value) ∙ c.in-Post.is in
    let fits : n ≤ headed (kind_at s k).hi (fill_of s p) m =
    subst (λ v. n ≤ v) (capacity-head s k p m shape (not-equal p k c.if-post-kind.false)) c.requires.spare in
    let behind : length (take (n - cut) (drop cut c.args.elems.now)) ≡ n - cut = length-part c.args.elems.now cut n (omega arith) (omega arith) in
    let rest : length (take (n - cut) (drop cut c.args.elems.now)) ≡ n - min (kind_at s k).hi n =
    behind ∙ ap (λ v. n - v) (cut_is ∙ ap (λ v. min v n) same) in
    let left = headed-left n m c.subtree-link.new.arena.nodes.spare (kind_at s k).hi (fill_of s p) (omega (arith, some)) fits
    (subst (λ v. m * fill_of s p < c.subtree-link.new.arena.nodes.spare * fill_of s p + v + fill_of s p) rest c.subtree-link.ensures.used) in
    omega (arith, left)

pub subtree-before-requires : goal.subtree-before-requires
subtree-before-requires g t c κs within =
    let s = c.args.kinds.now in
    let k = c.args.kind in
    let p = c.in-Ends.pre in
    let q = c.in-Ends.post in
    let n = length c.args.elems.now in
    let lower = c.middle_of-lower.result.0 in
    let mid = c.middle_of-lower.ensures in
    let shape : shape_at s k ≡ Ends p q = sym (ap (λ (v : NodeKind). v.shape) c.kind_of-hi.ensures.value) ∙ c.in-Ends.is in
    let other : p ≡ k → q ≡ k → ⊥ = elim c.else-pre-kind.branch [
      | else-pre-kind-via-then-pre-kind+else-post-kind-2 w ↦ (λ x y. w.if-post-kind-2.false y)
      | else-pre-kind-via-else-pre-kind w ↦ (λ x y. w.if-pre-kind.false x)
    ] in
    let one : fill_of s k ≡ 1 = fill-ends s k p q shape other in
    let enough : n ≤ c.args.arena.now.nodes.spare = one-each n c.args.arena.now.nodes.spare (fill_of s k) one
    (subst (λ v. n ≤ v) (capacity-ends s k p q c.args.arena.now.nodes.spare shape) c.requires.spare) in
    let first : length (take lower c.args.elems.now) ≡ lower = length-take-le lower c.args.elems.now (omega (arith, mid.some, mid.within)) in
    let rules = links-of s k (Ends p q) c.requires.sound shape in
    let d : n ≡ t = c.decreases in (
      omega (arith, first, d, mid.some, mid.within),
      (
        within,
        (
          rules.1,
          (
            c.requires.sound,
            (
              rules.2,
              (
                c.requires.serves,
                (
                  omega (arith, first, c.requires.few, mid.some, mid.within),
                  capacity-plain s p (length (take lower c.args.elems.now)) c.args.arena.now.nodes.spare c.requires.sound
                      (omega (arith, first, enough, mid.some, mid.within)),
                ),
              ),
            ),
          ),
        ),
      ),
    )

pub returns-else-post-kind-clause-built : goal.returns-else-post-kind-clause-built
returns-else-post-kind-clause-built g t c =
    let s = c.args.kinds.now in
    let k = c.args.kind in
    let p = c.in-Post.post in
    let n = length c.args.elems.now in
    let cut = c.min-cut.result in
    let some : 0 < n = grind (arith, common_steps) in
    let hi : 1 ≤ (kind_at s k).hi = hi-some s k c.requires.sound in
    let same : c.kind_of-hi.result.hi ≡ (kind_at s k).hi = ap (λ (v : NodeKind). v.hi) c.kind_of-hi.ensures.value in
    let cut_is : cut ≡ min c.kind_of-hi.result.hi n = c.min-cut.ensures in
    let shape : shape_at s k ≡ Post p = sym (ap (λ (v : NodeKind). v.shape) c.kind_of-hi.ensures.value) ∙ c.in-Post.is in
    let rules = links-of s k (Post p) c.requires.sound shape in
    let c1 : 1 ≤ cut = omega (arith, some, hi, same, cut_is) in
    let c2 : cut ≤ n = omega (arith, cut_is) in
    let c3 : cut ≤ (kind_at s k).hi = omega (arith, same, cut_is) in
    head-more s k p c.args.arena.now c.subtree-link.new.arena c.make.new.self c.args.elems.now cut c.make.result c.subtree-link.result
    rules.0 shape c1 c2 c3 c.subtree-link.ensures.built c.make.ensures.is_new c.make.ensures.node

pub returns-else-post-kind-clause-used : goal.returns-else-post-kind-clause-used
returns-else-post-kind-clause-used g t c =
    let s = c.args.kinds.now in
    let k = c.args.kind in
    let p = c.in-Post.post in
    let n = length c.args.elems.now in
    let cut = c.min-cut.result in
    let some : 0 < n = grind (arith, common_steps) in
    let hi : 1 ≤ (kind_at s k).hi = hi-some s k c.requires.sound in
    let same : c.kind_of-hi.result.hi ≡ (kind_at s k).hi = ap (λ (v : NodeKind). v.hi) c.kind_of-hi.ensures.value in
    let cut_is : cut ≡ min c.kind_of-hi.result.hi n = c.min-cut.ensures in
    let shape : shape_at s k ≡ Post p = sym (ap (λ (v : NodeKind). v.shape) c.kind_of-hi.ensures.value) ∙ c.in-Post.is in
    let one : fill_of s k ≡ 1 = fill-head s k p shape (not-equal p k c.if-post-kind.false) in
    let rest : length (take (n - cut) (drop cut c.args.elems.now)) ≡ n - cut = length-part c.args.elems.now cut n (omega arith) (omega arith) in
    let used : c.args.arena.now.nodes.spare ≤ c.subtree-link.new.arena.nodes.spare + length (take (n - cut) (drop cut c.args.elems.now)) =
    taken-plain _ _ _ (fill_of s p) (fill-some s p c.requires.sound) c.subtree-link.ensures.used in
    let made = c.make.ensures.spare in
    of-one c.args.arena.now.nodes.spare c.make.new.self.nodes.spare n (fill_of s k) one (omega (arith, rest, used, made, cut_is, hi, same, some))

pub subtree-after-requires : goal.subtree-after-requires
subtree-after-requires g t c κs within =
    let s = c.args.kinds.now in
    let k = c.args.kind in
    let p = c.in-Ends.pre in
    let q = c.in-Ends.post in
    let n = length c.args.elems.now in
    let lower = c.middle_of-lower.result.0 in
    let upper = c.middle_of-lower.result.1 in
    let some : 0 < n = grind (arith, common_steps) in
    let mid = c.middle_of-lower.ensures in
    let shape : shape_at s k ≡ Ends p q = sym (ap (λ (v : NodeKind). v.shape) c.kind_of-hi.ensures.value) ∙ c.in-Ends.is in
    let other : p ≡ k → q ≡ k → ⊥ = elim c.else-pre-kind.branch [
      | else-pre-kind-via-then-pre-kind+else-post-kind-2 w ↦ (λ x y. w.if-post-kind-2.false y)
      | else-pre-kind-via-else-pre-kind w ↦ (λ x y. w.if-pre-kind.false x)
    ] in
    let one : fill_of s k ≡ 1 = fill-ends s k p q shape other in
    let enough : n ≤ c.args.arena.now.nodes.spare = one-each n c.args.arena.now.nodes.spare (fill_of s k) one
    (subst (λ v. n ≤ v) (capacity-ends s k p q c.args.arena.now.nodes.spare shape) c.requires.spare) in
    let first : length (take lower c.args.elems.now) ≡ lower = length-take-le lower c.args.elems.now (omega (arith, mid.some, mid.within)) in
    let rest : length (take (n - upper) (drop upper c.args.elems.now)) ≡ n - upper =
    length-part c.args.elems.now upper n (omega arith) (omega arith) in
    let used : c.args.arena.now.nodes.spare ≤ c.subtree-before.new.arena.nodes.spare + length (take lower c.args.elems.now) =
    taken-plain _ _ _ (fill_of s p) (fill-some s p c.requires.sound) c.subtree-before.ensures.used in
    let rules = links-of s k (Ends p q) c.requires.sound shape in
    let d : n ≡ t = c.decreases in
    let most = c.subtree-before.ensures.built.adds.most in (
      omega (arith, rest, d, mid.some, mid.within),
      (
        within,
        (
          rules.3.0,
          (
            c.requires.sound,
            (
              follower-linked s (kind_at s k) q rules.3,
              (
                (λ j. subst (λ v. (kind_at s j).hi ≤ v) (sym most) (c.requires.serves j)),
                (
                  omega (arith, rest, c.requires.few),
                  capacity-plain s q (length (take (n - upper) (drop upper c.args.elems.now))) c.subtree-before.new.arena.nodes.spare
                      c.requires.sound (omega (arith, rest, first, used, enough, mid.some, mid.within)),
                ),
              ),
            ),
          ),
        ),
      ),
    )

pub make-requires-in-Ends-clause-spare : goal.make-requires-in-Ends-clause-spare
make-requires-in-Ends-clause-spare g t c =
    let s = c.args.kinds.now in
    let k = c.args.kind in
    let p = c.in-Ends.pre in
    let q = c.in-Ends.post in
    let n = length c.args.elems.now in
    let lower = c.middle_of-lower.result.0 in
    let upper = c.middle_of-lower.result.1 in
    let mid = c.middle_of-lower.ensures in
    let shape : shape_at s k ≡ Ends p q = sym (ap (λ (v : NodeKind). v.shape) c.kind_of-hi.ensures.value) ∙ c.in-Ends.is in
    let other : p ≡ k → q ≡ k → ⊥ = elim c.else-pre-kind.branch [
      | else-pre-kind-via-then-pre-kind+else-post-kind-2 w ↦ (λ x y. w.if-post-kind-2.false y)
      | else-pre-kind-via-else-pre-kind w ↦ (λ x y. w.if-pre-kind.false x)
    ] in
    let one : fill_of s k ≡ 1 = fill-ends s k p q shape other in
    let enough : n ≤ c.args.arena.now.nodes.spare = one-each n c.args.arena.now.nodes.spare (fill_of s k) one
    (subst (λ v. n ≤ v) (capacity-ends s k p q c.args.arena.now.nodes.spare shape) c.requires.spare) in
    let first : length (take lower c.args.elems.now) ≡ lower = length-take-le lower c.args.elems.now (omega (arith, mid.some, mid.within)) in
    let rest : length (take (n - upper) (drop upper c.args.elems.now)) ≡ n - upper =
    length-part c.args.elems.now upper n (omega arith) (omega arith) in
    let used : c.args.arena.now.nodes.spare ≤ c.subtree-before.new.arena.nodes.spare + length (take lower c.args.elems.now) =
    taken-plain _ _ _ (fill_of s p) (fill-some s p c.requires.sound) c.subtree-before.ensures.used in
    let used2 : c.subtree-before.new.arena.nodes.spare
    ≤ c.subtree-after.new.arena.nodes.spare + length (take (n - upper) (drop upper c.args.elems.now)) =
    taken-plain _ _ _ (fill_of s q) (fill-some s q c.requires.sound) c.subtree-after.ensures.used in
    omega (arith, rest, first, used, used2, enough, mid.some, mid.within)

pub returns-else-pre-kind-clause-built : goal.returns-else-pre-kind-clause-built
returns-else-pre-kind-clause-built g t c =
    let s = c.args.kinds.now in
    let k = c.args.kind in
    let p = c.in-Ends.pre in
    let q = c.in-Ends.post in
    let mid = c.middle_of-lower.ensures in
    let same : c.kind_of-hi.result.hi ≡ (kind_at s k).hi = ap (λ (v : NodeKind). v.hi) c.kind_of-hi.ensures.value in
    let shape : shape_at s k ≡ Ends p q = sym (ap (λ (v : NodeKind). v.shape) c.kind_of-hi.ensures.value) ∙ c.in-Ends.is in
    let rules = links-of s k (Ends p q) c.requires.sound shape in
    let fits : c.middle_of-lower.result.1 ≤ c.middle_of-lower.result.0 + (kind_at s k).hi = omega (arith, mid.fits, same) in
    middle-more s k p q c.args.arena.now c.subtree-before.new.arena c.subtree-after.new.arena c.make-in-Ends.new.self c.args.elems.now
    c.middle_of-lower.result.0 c.middle_of-lower.result.1 c.make-in-Ends.result c.subtree-before.result c.subtree-after.result
    rules.0 shape mid.some mid.within fits mid.half_before mid.half_behind c.subtree-before.ensures.built c.subtree-after.ensures.built
    c.make-in-Ends.ensures.is_new c.make-in-Ends.ensures.node

pub returns-else-pre-kind-clause-used : goal.returns-else-pre-kind-clause-used
returns-else-pre-kind-clause-used g t c =
    let s = c.args.kinds.now in
    let k = c.args.kind in
    let p = c.in-Ends.pre in
    let q = c.in-Ends.post in
    let n = length c.args.elems.now in
    let lower = c.middle_of-lower.result.0 in
    let upper = c.middle_of-lower.result.1 in
    let mid = c.middle_of-lower.ensures in
    let shape : shape_at s k ≡ Ends p q = sym (ap (λ (v : NodeKind). v.shape) c.kind_of-hi.ensures.value) ∙ c.in-Ends.is in
    let other : p ≡ k → q ≡ k → ⊥ = elim c.else-pre-kind.branch [
      | else-pre-kind-via-then-pre-kind+else-post-kind-2 w ↦ (λ x y. w.if-post-kind-2.false y)
      | else-pre-kind-via-else-pre-kind w ↦ (λ x y. w.if-pre-kind.false x)
    ] in
    let one : fill_of s k ≡ 1 = fill-ends s k p q shape other in
    let first : length (take lower c.args.elems.now) ≡ lower = length-take-le lower c.args.elems.now (omega (arith, mid.some, mid.within)) in
    let rest : length (take (n - upper) (drop upper c.args.elems.now)) ≡ n - upper =
    length-part c.args.elems.now upper n (omega arith) (omega arith) in
    let used : c.args.arena.now.nodes.spare ≤ c.subtree-before.new.arena.nodes.spare + length (take lower c.args.elems.now) =
    taken-plain _ _ _ (fill_of s p) (fill-some s p c.requires.sound) c.subtree-before.ensures.used in
    let used2 : c.subtree-before.new.arena.nodes.spare
    ≤ c.subtree-after.new.arena.nodes.spare + length (take (n - upper) (drop upper c.args.elems.now)) =
    taken-plain _ _ _ (fill_of s q) (fill-some s q c.requires.sound) c.subtree-after.ensures.used in
    let made = c.make-in-Ends.ensures.spare in
    of-one c.args.arena.now.nodes.spare c.make-in-Ends.new.self.nodes.spare n (fill_of s k) one
    (omega (arith, rest, first, used, used2, made, mid.some, mid.within))
