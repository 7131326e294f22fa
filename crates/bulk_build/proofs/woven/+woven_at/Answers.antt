use Rattle.std.proofs.Common.{◌≡◌, ◌<◌, ◌≤◌, ◌+◌, ◌-◌, ◌*◌, ◌/◌, ◌^◌, suc, [], ◌∷◌, ◌++◌, length, take, drop, Some, refl, ap, sym, ◌∙◌, subst, arith}
use Rattle.std.proofs.lemmas.List.{take-append-drop, length-take-le}
use Rattle.node_arena.specs.declared.kinds.NodeKind.{NodeKind}
use Rattle.node_arena.specs.declared.kinds.Shape.TheVariants.{Woven}
use Rattle.node_arena.specs.Arenas.{ChangesNode}
use Rattle.node_arena.specs.Kinds.{kind_at}
use Rattle.bulk_build.specs.Layouts.{FitsLevels, Weaves, Laces}
use Rattle.bulk_build.proofs.RangesLemmas.{length-part, drop-end, drop-item}
use Rattle.bulk_build.proofs.LevelsLemmas.{one_more, child-fits, leaf-room, leaf-long}
use Rattle.bulk_build.proofs.FillsLemmas.{links-of}
use Rattle.bulk_build.proofs.WeavingLemmas.{woven-leaf, laces-none, laces-more, laces-count, woven-node}
use Rattle.bulk_build.proofs.woven.+woven_at.Goals as goal

-- ---- a node without children

pub returns-then-levels-eq0-clause-woven : goal.returns-then-levels-eq0-clause-woven
returns-then-levels-eq0-clause-woven g t c =
    let s = c.args.kinds.now in
    let k = c.args.kind in
    let es = c.args.elems.now in
    let room = c.args.levels.room in
    let e : c.args.levels.below ≡ 0 = c.if-levels-eq0.true in
    let f : FitsLevels ((kind_at s k).hi + 1) 0 room (length es + 1) =
    subst (λ v. FitsLevels ((kind_at s k).hi + 1) v room (length es + 1)) e c.requires.levels in
    subst (λ v. Weaves s k v room c.args.arena.now c.make.new.self es c.make.result) (sym e)
    (woven-leaf s k c.requires.woven c.args.arena.now c.make.new.self c.make.result room es f c.make.ensures.is_new c.make.ensures.node)

pub returns-then-levels-eq0-clause-used : goal.returns-then-levels-eq0-clause-used
returns-then-levels-eq0-clause-used g t c =
    let s = c.args.kinds.now in
    let k = c.args.kind in
    let es = c.args.elems.now in
    let room = c.args.levels.room in
    let h = (kind_at s k).hi / 2 in
    let f : FitsLevels ((kind_at s k).hi + 1) 0 room (length es + 1) =
    subst (λ v. FitsLevels ((kind_at s k).hi + 1) v room (length es + 1)) c.if-levels-eq0.true c.requires.levels in
    let some : 1 ≤ length es = leaf-long ((kind_at s k).hi + 1) room (length es) f in
    let e : c.args.arena.now.nodes.spare * h ≡ c.make.new.self.nodes.spare * h + h =
    one_more c.args.arena.now.nodes.spare c.make.new.self.nodes.spare h (sym c.make.ensures.spare) in
    omega (arith, some, e)

pub returns-then-levels-eq0-clause-used_half : goal.returns-then-levels-eq0-clause-used_half
returns-then-levels-eq0-clause-used_half g t c full =
    let s = c.args.kinds.now in
    let k = c.args.kind in
    let es = c.args.elems.now in
    let room = c.args.levels.room in
    let h = (kind_at s k).hi / 2 in
    let f : FitsLevels ((kind_at s k).hi + 1) 0 room (length es + 1) =
    subst (λ v. FitsLevels ((kind_at s k).hi + 1) v room (length es + 1)) c.if-levels-eq0.true c.requires.levels in
    let all : room ≡ (kind_at s k).hi + 1 = leaf-room ((kind_at s k).hi + 1) room (length es + 1) f in
    let half : (kind_at s k).hi ≤ 2 * length es + 1 = omega (arith, all, full) in
    let e : c.args.arena.now.nodes.spare * h ≡ c.make.new.self.nodes.spare * h + h =
    one_more c.args.arena.now.nodes.spare c.make.new.self.nodes.spare h (sym c.make.ensures.spare) in
    omega (arith, half, e)

-- ---- the later children

pub back-init : goal.back-init
back-init g t c =
    let s = c.args.kinds.now in
    let k = c.args.kind in
    let es = c.args.elems.now in
    let l = c.later_children-before.ensures in
    let run : [] ≡ c.new-run.result.items = sym c.new-run.ensures in
    let links : [] ≡ c.new-links.result.items = sym c.new-links.ensures in
    let none : 0 ≡ length c.new-run.result.items = ap length run in
    let first : Laces s k c.args.levels.below c.args.arena.now c.args.arena.now (drop (length es) es) [] [] =
    laces-none s k c.requires.woven c.args.arena.now c.args.levels.below (drop (length es) es) (drop-end es (length es) refl) in
    record {
      short = omega arith;
      fits = l.fits;
      half = l.half;
      counted = omega (arith, none);
      laced = subst (λ v. Laces s k c.args.levels.below c.args.arena.now c.args.arena.now (drop (length es) es) v c.new-links.result.items) run
          (subst (λ v. Laces s k c.args.levels.below c.args.arena.now c.args.arena.now (drop (length es) es) [] v) links first);
      used = omega (arith, none);
      steps = refl;
    }

pub woven_at-id-requires : goal.woven_at-id-requires
woven_at-id-requires g t c κs within =
    let s = c.args.kinds.now in
    let k = c.args.kind in
    let es = c.args.elems.now in
    let hi = (kind_at s k).hi in
    let rules = links-of s k Woven c.requires.sound c.requires.woven in
    let i = c.back.invariant in
    let b = c.start_of_last-start.ensures in
    let start = c.start_of_last-start.result in
    let part = take (c.back.left - start) (drop start es) in
    let long : length part ≡ c.back.left - start = length-part es start c.back.left b.short i.short in
    let d : c.args.levels.below ≡ t = c.decreases in
    let child = c.child_levels-child.ensures in
    let below : c.args.levels.below ≡ suc c.child_levels-child.result.below = omega (arith, child.below) in
    let r = c.child_levels-child.result.room in
    let hi_is : c.kind_of.result.hi ≡ hi = ap (λ (v : NodeKind). v.hi) c.kind_of.ensures.value in
    let wide : c.from-width.result + 1 ≡ hi + 1 = ap (λ v. v + 1) (c.from-width.ensures ∙ hi_is) in
    let room_is : r ≡ (hi + 1) ^ suc c.child_levels-child.result.below =
    subst (λ w. r ≡ w ^ suc c.child_levels-child.result.below) wide (subst (λ v. r ≡ (c.from-width.result + 1) ^ v) below child.room) in
    let most = i.laced.adds.most in
    let fits : FitsLevels (hi + 1) c.child_levels-child.result.below r (length part + 1) =
    child-fits (hi + 1) c.child_levels-child.result.below r (length part + 1) (omega (arith, rules.0)) room_is
    (omega (arith, long, b.fits, b.short)) (omega (arith, long, b.half, b.short)) in (
      omega (arith, child.below, d),
      (
        within,
        (
          c.requires.declared,
          (
            c.requires.sound,
            (
              c.requires.woven,
              (
                (λ j. subst (λ v. (kind_at s j).hi ≤ v) (sym most) (c.requires.serves j)),
                (
                  omega (arith, long, i.short, c.requires.few),
                  (
                    fits,
                    omega (arith, long, i.used, c.requires.spare),
                  ),
                ),
              ),
            ),
          ),
        ),
      ),
    )

pub insert-requires : goal.insert-requires
insert-requires g t c =
    let s = c.args.kinds.now in
    let k = c.args.kind in
    let i = c.back.invariant in
    let few : (kind_at s k).hi ≤ 16 = c.requires.sound.few k in
    let hi_is : c.kind_of.result.hi ≡ (kind_at s k).hi = ap (λ (v : NodeKind). v.hi) c.kind_of.ensures.value in
    let wide : c.from-width.result ≡ (kind_at s k).hi = c.from-width.ensures ∙ hi_is in
    let count : length c.back.links.items ≡ length c.back.run.items = laces-count s k _ _ _ _ _ _ i.laced in
    let room : length c.back.links.items < 17 = omega (arith, count, few, wide, i.counted, c.later_children-before.ensures.few) in
    (omega arith, (omega arith, room))

pub back-preserved : goal.back-preserved
back-preserved g t c =
    let s = c.args.kinds.now in
    let k = c.args.kind in
    let es = c.args.elems.now in
    let n = length es in
    let hi = (kind_at s k).hi in
    let h = hi / 2 in
    let rules = links-of s k Woven c.requires.sound c.requires.woven in
    let i = c.back.invariant in
    let b = c.start_of_last-start.ensures in
    let start = c.start_of_last-start.result in
    let left = c.back.left in
    let part = take (left - start) (drop start es) in
    let long : length part ≡ left - start = length-part es start left b.short i.short in
    let child = c.child_levels-child.ensures in
    let below : suc c.child_levels-child.result.below ≡ c.args.levels.below = omega (arith, child.below) in
    let r = c.child_levels-child.result.room in
    let l = (r + 1) / 2 in
    let p = c.back.before in
    let some : 0 < p = c.back-test.true in
    let pr : p * r ≡ (p - 1) * r + r = one_more p (p - 1) r (omega (arith, some)) in
    let pl : p * l ≡ (p - 1) * l + l = one_more p (p - 1) l (omega (arith, some)) in
    let full : r ≤ 2 * (length part + 1) = omega (arith, long, b.half, b.short) in
    let ran : c.insert-in-back.new.self.items ≡ c.index-elems-start.result ∷ c.back.run.items = c.insert-in-back.ensures.items in
    let linked : c.insert.new.self.items ≡ Some c.woven_at-id.result ∷ c.back.links.items = c.insert.ensures.items in
    let more : length c.insert-in-back.new.self.items ≡ suc (length c.back.run.items) = ap length ran in
    let item : drop (start - 1) es ≡ c.index-elems-start.result ∷ (part ++ drop left es) =
    drop-item es start left c.index-elems-start.result b.some b.short i.short c.index-elems-start.is in
    let old : Laces s k (suc c.child_levels-child.result.below) c.args.arena.now c.back.arena (drop left es) c.back.run.items c.back.links.items =
    subst (λ v. Laces s k v c.args.arena.now c.back.arena (drop left es) c.back.run.items c.back.links.items) (sym below) i.laced in
    let new = laces-more s k c.requires.woven c.args.arena.now c.back.arena c.woven_at-id.new.arena c.child_levels-child.result.below r
    c.woven_at-id.result c.index-elems-start.result part (drop left es) c.back.run.items c.back.links.items rules.1 full old
    c.woven_at-id.ensures.woven in
    let used : c.back.arena.nodes.spare * h ≤ c.woven_at-id.new.arena.nodes.spare * h + length part = c.woven_at-id.ensures.used_half full in
    let x = c.index-elems-start.result in
    let n1 = suc c.child_levels-child.result.below in
    let start_arena = c.args.arena.now in
    let now_arena = c.woven_at-id.new.arena in
    let now_run = c.insert-in-back.new.self.items in
    let now_links = c.insert.new.self.items in
    record {
      short = omega (arith, b.short, i.short);
      fits = omega (arith, b.some, b.rest_fits, pr);
      half = omega (arith, b.some, b.rest_half, pl);
      counted = omega (arith, more, some, i.counted);
      laced = subst (λ v. Laces s k v start_arena now_arena (drop (start - 1) es) now_run now_links) below
          (subst (λ v. Laces s k n1 start_arena now_arena v now_run now_links) (sym item)
          (subst (λ v. Laces s k n1 start_arena now_arena (x ∷ (part ++ drop left es)) v now_links) (sym ran)
          (subst (λ v. Laces s k n1 start_arena now_arena (x ∷ (part ++ drop left es)) (x ∷ c.back.run.items) v) (sym linked) new)));
      used = omega (arith, i.used, used, more, long, b.some, b.short);
      steps = omega (arith, i.steps, c.woven_at-id.ensures.steps);
    }

-- ---- the node

pub insert-requires-2 : goal.insert-requires-2
insert-requires-2 g t c =
    let s = c.args.kinds.now in
    let k = c.args.kind in
    let i = c.back.invariant in
    let few : (kind_at s k).hi ≤ 16 = c.requires.sound.few k in
    let hi_is : c.kind_of.result.hi ≡ (kind_at s k).hi = ap (λ (v : NodeKind). v.hi) c.kind_of.ensures.value in
    let wide : c.from-width.result ≡ (kind_at s k).hi = c.from-width.ensures ∙ hi_is in
    let count : length c.back.links.items ≡ length c.back.run.items = laces-count s k _ _ _ _ _ _ i.laced in
    let room : length c.back.links.items < 17 = omega (arith, count, few, wide, i.counted, c.later_children-before.ensures.few) in
    (omega arith, (omega arith, room))

pub make-requires-2-clause-links : goal.make-requires-2-clause-links
make-requires-2-clause-links g t c =
    let s = c.args.kinds.now in
    let k = c.args.kind in
    let i = c.back.invariant in
    let hi_is : c.kind_of.result.hi ≡ (kind_at s k).hi = ap (λ (v : NodeKind). v.hi) c.kind_of.ensures.value in
    let wide : c.from-width.result ≡ (kind_at s k).hi = c.from-width.ensures ∙ hi_is in
    let count : length c.back.links.items ≡ length c.back.run.items = laces-count s k _ _ _ _ _ _ i.laced in
    let linked : c.insert-2.new.self.items ≡ Some c.woven_at-first.result ∷ c.back.links.items = c.insert-2.ensures.items in
    let more : length c.insert-2.new.self.items ≡ suc (length c.back.links.items) = ap length linked in
    let serves : (kind_at s k).hi ≤ c.args.arena.now.nodes.most = c.requires.serves k in
    let seen : c.as_slice-2.result.now ≡ c.insert-2.new.self.items = c.as_slice-2.ensures.value in
    let long : length c.as_slice-2.result.now ≡ length c.insert-2.new.self.items = ap length seen in
    omega (arith, count, more, wide, serves, long, i.counted, i.laced.adds.most, c.woven_at-first.ensures.woven.adds.most, c.later_children-before.ensures.few)

pub returns-clause-woven : goal.returns-clause-woven
returns-clause-woven g t c =
    let s = c.args.kinds.now in
    let k = c.args.kind in
    let es = c.args.elems.now in
    let hi = (kind_at s k).hi in
    let rules = links-of s k Woven c.requires.sound c.requires.woven in
    let i = c.back.invariant in
    let left = c.back.left in
    let part = take left es in
    let long : length part ≡ left = length-take-le left es i.short in
    let child = c.child_levels-child.ensures in
    let later = c.later_children-before.ensures in
    let below : suc c.child_levels-child.result.below ≡ c.args.levels.below = omega (arith, child.below) in
    let r = c.child_levels-child.result.room in
    let hi_is : c.kind_of.result.hi ≡ hi = ap (λ (v : NodeKind). v.hi) c.kind_of.ensures.value in
    let wide : c.from-width.result ≡ hi = c.from-width.ensures ∙ hi_is in
    let ended : c.back.before ≡ 0 = omega (arith, c.back-test.false) in
    let zero_is : c.back.before * r ≡ 0 * r = ap (λ v. v * r) ended in
    let zero_half : c.back.before * ((r + 1) / 2) ≡ 0 * ((r + 1) / 2) = ap (λ v. v * ((r + 1) / 2)) ended in
    let full : r ≤ 2 * (length part + 1) = omega (arith, long, i.half, zero_half) in
    let whole_is : part ++ drop left es ≡ es = take-append-drop left es in
    let count : length (part ++ drop left es) ≡ length es = ap length whole_is in
    let old : Laces s k (suc c.child_levels-child.result.below) c.args.arena.now c.back.arena (drop left es) c.back.run.items c.back.links.items =
    subst (λ v. Laces s k v c.args.arena.now c.back.arena (drop left es) c.back.run.items c.back.links.items) (sym below) i.laced in
    let linked : c.as_slice-2.result.now ≡ Some c.woven_at-first.result ∷ c.back.links.items = c.as_slice-2.ensures.value ∙ c.insert-2.ensures.items in
    let ran : c.as_slice.result.now ≡ c.back.run.items = c.as_slice.ensures.value in
    let made : ChangesNode c.woven_at-first.new.arena c.make-2.new.self c.make-2.result
    (Some (record { kind = k; run = c.back.run.items; links = Some c.woven_at-first.result ∷ c.back.links.items })) =
    subst (λ v. ChangesNode c.woven_at-first.new.arena c.make-2.new.self c.make-2.result
    (Some (record { kind = k; run = c.back.run.items; links = v }))) linked
    (subst (λ v. ChangesNode c.woven_at-first.new.arena c.make-2.new.self c.make-2.result
    (Some (record { kind = k; run = v; links = c.as_slice-2.result.now }))) ran c.make-2.ensures.node) in
    subst (λ v. Weaves s k v c.args.levels.room c.args.arena.now c.make-2.new.self es c.make-2.result) below
    (subst (λ v. Weaves s k (suc c.child_levels-child.result.below) c.args.levels.room c.args.arena.now c.make-2.new.self v c.make-2.result) whole_is
    (woven-node s k c.requires.woven c.args.arena.now c.back.arena c.woven_at-first.new.arena c.make-2.new.self c.child_levels-child.result.below r
    c.args.levels.room c.make-2.result c.woven_at-first.result part (drop left es) c.back.run.items c.back.links.items rules.1 full
    (omega (arith, i.counted, ended, later.some))
    (omega (arith, i.counted, ended, later.few, wide))
    (λ h. let m = later.most (omega (arith, h, count, child.parts)) in omega (arith, m, i.counted, ended, wide))
    old c.woven_at-first.ensures.woven c.make-2.ensures.is_new made))
