use Rattle.std.proofs.Common.{◌≡◌, ◌≢◌, ◌≤◌, ◌<◌, ◌+◌, ◌^◌, length, IfSome, Some, IsSome, refl, ap, ◌∙◌, sym, subst, arith}
use Rattle.node_arena.specs.declared.kinds.Shape.TheVariants.{Woven}
use Rattle.node_arena.specs.Arenas.{node_at}
use Rattle.node_arena.specs.Insertions.{DifferInFew}
use Rattle.node_arena.specs.Kinds.{kind_at, shape_at}
use Rattle.node_arena.specs.Passing.{deeper, IsDone}
use Rattle.node_arena.specs.Walks.{walk}
use Rattle.insert_gen.specs.Below.{link_in, own_depth, CanTake, Relinks}
use Rattle.insert_gen.proofs.BelowLemmas.{few-counted, hook-passed, CanTake-hook, HasLinkAt-hook, IsLinked-hook, alone-hook, IsDone-woven, IsDone-empty}
use Rattle.insert_gen.proofs.BelowLemmas.{CanPutIn-hook, linked-hook, IsDone-linked, link-read, CanPutIn-unique, deep-low}
use Rattle.insert_gen.proofs.BelowLemmas.{HasSpareForAll-passed, spare-passed}
use Rattle.insert_gen.proofs.passing.+put_in_linked.Goals as goal

pub kind-requires : goal.kind-requires
kind-requires g t c =
    let q = c.requires.tree in
    let p = c.in-Pass.ensures.left q.0 q.1 in
    record { there = subst IsSome (sym p.on.there) refl }

pub link-requires : goal.link-requires
link-requires g t c =
    let q = c.requires.tree in
    let p = c.in-Pass.ensures.left q.0 q.1 in
    record { there = subst IsSome (sym p.on.there) refl }

pub put_in_woven-requires-clause-there : goal.put_in_woven-requires-clause-there
put_in_woven-requires-clause-there g t c =
    let q = c.requires.tree in
    let p = c.in-Pass.ensures.left q.0 q.1 in
    let h = hook-passed c.args.kinds.now c.args.arena.now c.step_at.new.arena c.args.elem.now q.0 c.in-Pass.passer c.in-Pass.side c.in-Pass.elems.items
    c.in-Pass.above c.args.steps.now
    c.step_at.new.steps p c.kind.result c.hook_at-hook.result.place c.hook_at-hook.result.kind
    c.kind.ensures.value c.hook_at-hook.ensures.value in
    HasLinkAt-hook c.args.kinds.now c.args.arena.now c.step_at.new.arena c.args.elem.now q.0 c.in-Pass.passer c.in-Pass.side c.in-Pass.elems.items
    c.in-Pass.above c.args.steps.now
    c.step_at.new.steps p
    c.hook_at-hook.result.place c.hook_at-hook.result.kind h

pub put_in_woven-requires-clause-tree : goal.put_in_woven-requires-clause-tree
put_in_woven-requires-clause-tree g t c =
    let q = c.requires.tree in
    let p = c.in-Pass.ensures.left q.0 q.1 in
    let h = hook-passed c.args.kinds.now c.args.arena.now c.step_at.new.arena c.args.elem.now q.0 c.in-Pass.passer c.in-Pass.side c.in-Pass.elems.items
    c.in-Pass.above c.args.steps.now
    c.step_at.new.steps p c.kind.result c.hook_at-hook.result.place c.hook_at-hook.result.kind
    c.kind.ensures.value c.hook_at-hook.ensures.value in
    let weaves = c.is_woven.ensures.value.0 c.if-is_woven.true in
    let few : length (walk c.args.kinds.now q.0) ≤ 4294967295 = few-counted (length (walk c.args.kinds.now q.0)) c.args.room q.2 c.ranges.room.fits in
    let take = subst (λ es. CanTake c.args.kinds.now c.hook_at-hook.result.kind c.step_at.new.arena
    (link_in (node_at c.step_at.new.arena c.in-Pass.passer) c.hook_at-hook.result.place) es p.on.below) (sym c.as_slice.ensures.value)
    (CanTake-hook c.args.kinds.now c.args.arena.now c.step_at.new.arena c.args.elem.now q.0 c.in-Pass.passer c.in-Pass.side c.in-Pass.elems.items
    c.in-Pass.above c.args.steps.now
    c.step_at.new.steps p
    c.hook_at-hook.result.place c.hook_at-hook.result.kind h few) in
    let count : length c.as_slice.result.now ≡ length c.in-Pass.elems.items = ap length c.as_slice.ensures.value in
    let counted = p.can.counted in
    let eight : length c.as_slice.result.now ≤ 8 = c.as_slice.ensures.fits in
    let enough = c.requires.spare in
    let same = p.spare in (
      p.on.below,
      take,
      p.on.away,
      HasSpareForAll-passed c.args.kinds.now c.hook_at-hook.result.kind (length c.as_slice.result.now)
          (length c.as_slice.result.now + length (walk c.args.kinds.now p.on.below)) c.args.room enough.digits c.step_at.new.arena.nodes.spare weaves eight
          (omega (arith, count, counted, q.2)) enough.more (omega (arith, enough.room, same)),
    )

pub returns-then-is_woven-clause-done : goal.returns-then-is_woven-clause-done
returns-then-is_woven-clause-done g t c = λ u can.
    let q = c.requires.tree in
    let p = c.in-Pass.ensures.left q.0 q.1 in
    let h = hook-passed c.args.kinds.now c.args.arena.now c.step_at.new.arena c.args.elem.now q.0 c.in-Pass.passer c.in-Pass.side c.in-Pass.elems.items
    c.in-Pass.above c.args.steps.now
    c.step_at.new.steps p c.kind.result c.hook_at-hook.result.place c.hook_at-hook.result.kind
    c.kind.ensures.value c.hook_at-hook.ensures.value in
    let weaves = c.is_woven.ensures.value.0 c.if-is_woven.true in
    let few : length (walk c.args.kinds.now q.0) ≤ 4294967295 = few-counted (length (walk c.args.kinds.now q.0)) c.args.room q.2 c.ranges.room.fits in
    let take = subst (λ es. CanTake c.args.kinds.now c.hook_at-hook.result.kind c.step_at.new.arena
    (link_in (node_at c.step_at.new.arena c.in-Pass.passer) c.hook_at-hook.result.place) es p.on.below) (sym c.as_slice.ensures.value)
    (CanTake-hook c.args.kinds.now c.args.arena.now c.step_at.new.arena c.args.elem.now q.0 c.in-Pass.passer c.in-Pass.side c.in-Pass.elems.items
    c.in-Pass.above c.args.steps.now
    c.step_at.new.steps p
    c.hook_at-hook.result.place c.hook_at-hook.result.kind h few) in
    let put = c.put_in_woven.ensures.relinks p.on.below take p.on.away in
    let relinks : Relinks c.args.kinds.now c.hook_at-hook.result.kind c.step_at.new.arena c.put_in_woven.new.arena c.in-Pass.passer
    c.hook_at-hook.result.place c.in-Pass.elems.items p.on.below =
    subst (λ es. Relinks c.args.kinds.now c.hook_at-hook.result.kind c.step_at.new.arena c.put_in_woven.new.arena c.in-Pass.passer
    c.hook_at-hook.result.place es p.on.below) c.as_slice.ensures.value put in
    let same : c.deeper.result ≡ deeper c.in-Pass.above (Some 0) = c.deeper.ensures.value in
    let whole : IsDone c.args.kinds.now c.args.arena.now c.put_in_woven.new.arena c.args.elem.now q.0 (deeper c.in-Pass.above (Some 0)) =
    IsDone-woven c.args.kinds.now c.args.arena.now c.step_at.new.arena c.args.elem.now q.0 c.in-Pass.passer c.in-Pass.side c.in-Pass.elems.items
    c.in-Pass.above c.args.steps.now
    c.step_at.new.steps p
    c.hook_at-hook.result.place c.hook_at-hook.result.kind h weaves c.put_in_woven.new.arena relinks in
    subst (λ v. IsDone c.args.kinds.now c.args.arena.now c.put_in_woven.new.arena c.args.elem.now v c.deeper.result)
    (CanPutIn-unique c.args.kinds.now c.args.arena.now c.args.elem.now c.args.node q.0 u q.1 can)
    (subst (λ o. IsDone c.args.kinds.now c.args.arena.now c.put_in_woven.new.arena c.args.elem.now q.0 o) (sym same) whole)

pub returns-then-is_woven-clause-spare : goal.returns-then-is_woven-clause-spare
returns-then-is_woven-clause-spare g t c = λ d less.
    let q = c.requires.tree in
    let p = c.in-Pass.ensures.left q.0 q.1 in
    let h = hook-passed c.args.kinds.now c.args.arena.now c.step_at.new.arena c.args.elem.now q.0 c.in-Pass.passer c.in-Pass.side c.in-Pass.elems.items
    c.in-Pass.above c.args.steps.now
    c.step_at.new.steps p c.kind.result c.hook_at-hook.result.place c.hook_at-hook.result.kind
    c.kind.ensures.value c.hook_at-hook.ensures.value in
    let weaves = c.is_woven.ensures.value.0 c.if-is_woven.true in
    let few : length (walk c.args.kinds.now q.0) ≤ 4294967295 = few-counted (length (walk c.args.kinds.now q.0)) c.args.room q.2 c.ranges.room.fits in
    let take = subst (λ es. CanTake c.args.kinds.now c.hook_at-hook.result.kind c.step_at.new.arena
    (link_in (node_at c.step_at.new.arena c.in-Pass.passer) c.hook_at-hook.result.place) es p.on.below) (sym c.as_slice.ensures.value)
    (CanTake-hook c.args.kinds.now c.args.arena.now c.step_at.new.arena c.args.elem.now q.0 c.in-Pass.passer c.in-Pass.side c.in-Pass.elems.items
    c.in-Pass.above c.args.steps.now
    c.step_at.new.steps p
    c.hook_at-hook.result.place c.hook_at-hook.result.kind h few) in
    let count : length c.as_slice.result.now ≡ length c.in-Pass.elems.items = ap length c.as_slice.ensures.value in
    let counted = p.can.counted in
    let eight : length c.as_slice.result.now ≤ 8 = c.as_slice.ensures.fits in
    let same = p.spare in
    let all : length c.as_slice.result.now + length (walk c.args.kinds.now p.on.below) < 2 ^ d = omega (arith, count, counted, q.2, less) in
    let fall = c.put_in_woven.ensures.spare p.on.below take d all in
    spare-passed c.args.kinds.now c.hook_at-hook.result.kind (length c.as_slice.result.now) d c.args.arena.now.nodes.spare
    c.put_in_woven.new.arena.nodes.spare weaves eight (omega (arith, fall, same))

pub overflow_sub-room : goal.overflow_sub-room
overflow_sub-room g t c =
    let q = c.requires.tree in
    let p = c.in-Pass.ensures.left q.0 q.1 in
    let h = hook-passed c.args.kinds.now c.args.arena.now c.step_at.new.arena c.args.elem.now q.0 c.in-Pass.passer c.in-Pass.side c.in-Pass.elems.items
    c.in-Pass.above c.args.steps.now
    c.step_at.new.steps p c.kind.result c.hook_at-hook.result.place c.hook_at-hook.result.kind
    c.kind.ensures.value c.hook_at-hook.ensures.value in
    let other : shape_at c.args.kinds.now c.hook_at-hook.result.kind ≢ Woven = λ e. let f = c.is_woven.ensures.value.1 e in let g = c.if-is_woven.false in cc in
    let one : length c.in-Pass.elems.items ≡ 1 = ap length (alone-hook c.args.kinds.now c.args.arena.now c.step_at.new.arena c.args.elem.now q.0
    c.in-Pass.passer c.in-Pass.side c.in-Pass.elems.items c.in-Pass.above c.args.steps.now
    c.step_at.new.steps p
    c.hook_at-hook.result.place c.hook_at-hook.result.kind h other).1 in
    let counted = p.can.counted in
    omega (arith, one, counted, q.2)

pub put_in_linked-deep-requires : goal.put_in_linked-deep-requires
put_in_linked-deep-requires g t c κs within =
    let q = c.requires.tree in
    let p = c.in-Pass.ensures.left q.0 q.1 in
    let h = hook-passed c.args.kinds.now c.args.arena.now c.step_at.new.arena c.args.elem.now q.0 c.in-Pass.passer c.in-Pass.side c.in-Pass.elems.items
    c.in-Pass.above c.args.steps.now
    c.step_at.new.steps p c.kind.result c.hook_at-hook.result.place c.hook_at-hook.result.kind
    c.kind.ensures.value c.hook_at-hook.ensures.value in
    let other : shape_at c.args.kinds.now c.hook_at-hook.result.kind ≢ Woven = λ e. let f = c.is_woven.ensures.value.1 e in let g = c.if-is_woven.false in cc in
    let there = HasLinkAt-hook c.args.kinds.now c.args.arena.now c.step_at.new.arena c.args.elem.now q.0 c.in-Pass.passer c.in-Pass.side
    c.in-Pass.elems.items c.in-Pass.above c.args.steps.now
    c.step_at.new.steps p
    c.hook_at-hook.result.place c.hook_at-hook.result.kind h in
    let read = link-read (node_at c.step_at.new.arena c.in-Pass.passer) c.hook_at-hook.result.place c.link.result there c.link.ensures.value in
    let leads = read ∙ c.in-Some.is in
    let one : length c.in-Pass.elems.items ≡ 1 = ap length (alone-hook c.args.kinds.now c.args.arena.now c.step_at.new.arena c.args.elem.now q.0
    c.in-Pass.passer c.in-Pass.side c.in-Pass.elems.items c.in-Pass.above c.args.steps.now
    c.step_at.new.steps p
    c.hook_at-hook.result.place c.hook_at-hook.result.kind h other).1 in
    let counted = p.can.counted in
    let low = q.2 in
    let d = c.decreases in
    let enough = c.requires.spare in
    let same = p.spare in
    let most = c.step_at.ensures.most in (
      omega (arith, one, counted, low, d),
      (
        within,
        (
          c.requires.sound,
          (
            (λ n. subst (λ v. (kind_at c.args.kinds.now n).hi ≤ v) (sym most) (c.requires.serves n)),
            (
              (
                p.on.below,
                CanPutIn-hook c.args.kinds.now c.args.arena.now c.step_at.new.arena c.args.elem.now q.0 c.in-Pass.passer c.in-Pass.side
                    c.in-Pass.elems.items c.in-Pass.above c.args.steps.now
                    c.step_at.new.steps p
                    c.hook_at-hook.result.place c.hook_at-hook.result.kind h other c.in-Some.root leads,
                omega (arith, one, counted, low),
              ),
              (
                linked-hook c.args.kinds.now c.args.arena.now c.step_at.new.arena c.args.elem.now q.0 c.in-Pass.passer c.in-Pass.side c.in-Pass.elems.items
                    c.in-Pass.above c.args.steps.now
                    c.step_at.new.steps p
                    c.hook_at-hook.result.place c.hook_at-hook.result.kind h c.requires.sound other c.in-Some.root leads,
                record { digits = enough.digits; more = omega (arith, enough.more); room = omega (arith, enough.room, same) },
              ),
            ),
          ),
        ),
      ),
    )

pub deeper-requires-in-Some : goal.deeper-requires-in-Some
deeper-requires-in-Some g t c =
    let q = c.requires.tree in
    let p = c.in-Pass.ensures.left q.0 q.1 in
    let h = hook-passed c.args.kinds.now c.args.arena.now c.step_at.new.arena c.args.elem.now q.0 c.in-Pass.passer c.in-Pass.side c.in-Pass.elems.items
    c.in-Pass.above c.args.steps.now
    c.step_at.new.steps p c.kind.result c.hook_at-hook.result.place c.hook_at-hook.result.kind
    c.kind.ensures.value c.hook_at-hook.ensures.value in
    let other : shape_at c.args.kinds.now c.hook_at-hook.result.kind ≢ Woven = λ e. let f = c.is_woven.ensures.value.1 e in let g = c.if-is_woven.false in cc in
    let there = HasLinkAt-hook c.args.kinds.now c.args.arena.now c.step_at.new.arena c.args.elem.now q.0 c.in-Pass.passer c.in-Pass.side
    c.in-Pass.elems.items c.in-Pass.above c.args.steps.now
    c.step_at.new.steps p
    c.hook_at-hook.result.place c.hook_at-hook.result.kind h in
    let read = link-read (node_at c.step_at.new.arena c.in-Pass.passer) c.hook_at-hook.result.place c.link.result there c.link.ensures.value in
    let leads = read ∙ c.in-Some.is in
    let whole = IsDone-linked c.args.kinds.now c.args.arena.now c.step_at.new.arena c.args.elem.now q.0 c.in-Pass.passer c.in-Pass.side
    c.in-Pass.elems.items c.in-Pass.above c.args.steps.now
    c.step_at.new.steps p
    c.hook_at-hook.result.place c.hook_at-hook.result.kind h other c.in-Some.root leads c.put_in_linked-deep.new.arena c.put_in_linked-deep.result
    c.put_in_linked-deep.ensures.done in
    record {
      few = deep-low c.args.kinds.now c.args.arena.now c.put_in_linked-deep.new.arena c.args.elem.now q.0
          (deeper c.in-Pass.above c.put_in_linked-deep.result) whole q.1.conforms.low;
    }

pub put_in_empty-requires-clause-linked : goal.put_in_empty-requires-clause-linked
put_in_empty-requires-clause-linked g t c =
    let q = c.requires.tree in
    let p = c.in-Pass.ensures.left q.0 q.1 in
    let h = hook-passed c.args.kinds.now c.args.arena.now c.step_at.new.arena c.args.elem.now q.0 c.in-Pass.passer c.in-Pass.side c.in-Pass.elems.items
    c.in-Pass.above c.args.steps.now
    c.step_at.new.steps p c.kind.result c.hook_at-hook.result.place c.hook_at-hook.result.kind
    c.kind.ensures.value c.hook_at-hook.ensures.value in
    let other : shape_at c.args.kinds.now c.hook_at-hook.result.kind ≢ Woven = λ e. let f = c.is_woven.ensures.value.1 e in let g = c.if-is_woven.false in cc in
    IsLinked-hook c.args.kinds.now c.args.arena.now c.step_at.new.arena c.args.elem.now q.0 c.in-Pass.passer c.in-Pass.side c.in-Pass.elems.items
    c.in-Pass.above c.args.steps.now
    c.step_at.new.steps p
    c.hook_at-hook.result.place c.hook_at-hook.result.kind h c.requires.sound other

pub put_in_empty-requires-clause-there : goal.put_in_empty-requires-clause-there
put_in_empty-requires-clause-there g t c =
    let q = c.requires.tree in
    let p = c.in-Pass.ensures.left q.0 q.1 in
    let h = hook-passed c.args.kinds.now c.args.arena.now c.step_at.new.arena c.args.elem.now q.0 c.in-Pass.passer c.in-Pass.side c.in-Pass.elems.items
    c.in-Pass.above c.args.steps.now
    c.step_at.new.steps p c.kind.result c.hook_at-hook.result.place c.hook_at-hook.result.kind
    c.kind.ensures.value c.hook_at-hook.ensures.value in
    HasLinkAt-hook c.args.kinds.now c.args.arena.now c.step_at.new.arena c.args.elem.now q.0 c.in-Pass.passer c.in-Pass.side c.in-Pass.elems.items
    c.in-Pass.above c.args.steps.now
    c.step_at.new.steps p
    c.hook_at-hook.result.place c.hook_at-hook.result.kind h

pub put_in_empty-requires-clause-spare : goal.put_in_empty-requires-clause-spare
put_in_empty-requires-clause-spare g t c =
    let q = c.requires.tree in
    let p = c.in-Pass.ensures.left q.0 q.1 in
    let same = p.spare in let enough = c.requires.spare in omega (arith, same, enough.room)

pub deeper-requires-in-None : goal.deeper-requires-in-None
deeper-requires-in-None g t c =
    let q = c.requires.tree in
    let p = c.in-Pass.ensures.left q.0 q.1 in
    let h = hook-passed c.args.kinds.now c.args.arena.now c.step_at.new.arena c.args.elem.now q.0 c.in-Pass.passer c.in-Pass.side c.in-Pass.elems.items
    c.in-Pass.above c.args.steps.now
    c.step_at.new.steps p c.kind.result c.hook_at-hook.result.place c.hook_at-hook.result.kind
    c.kind.ensures.value c.hook_at-hook.ensures.value in
    let other : shape_at c.args.kinds.now c.hook_at-hook.result.kind ≢ Woven = λ e. let f = c.is_woven.ensures.value.1 e in let g = c.if-is_woven.false in cc in
    let there = HasLinkAt-hook c.args.kinds.now c.args.arena.now c.step_at.new.arena c.args.elem.now q.0 c.in-Pass.passer c.in-Pass.side
    c.in-Pass.elems.items c.in-Pass.above c.args.steps.now
    c.step_at.new.steps p
    c.hook_at-hook.result.place c.hook_at-hook.result.kind h in
    let read = link-read (node_at c.step_at.new.arena c.in-Pass.passer) c.hook_at-hook.result.place c.link.result there c.link.ensures.value in
    let leads = read ∙ c.in-None.is in
    let whole = IsDone-empty c.args.kinds.now c.args.arena.now c.step_at.new.arena c.args.elem.now q.0 c.in-Pass.passer c.in-Pass.side
    c.in-Pass.elems.items c.in-Pass.above c.args.steps.now
    c.step_at.new.steps p
    c.hook_at-hook.result.place c.hook_at-hook.result.kind h other leads c.put_in_empty.new.arena c.put_in_empty.ensures.relinks.0
    c.put_in_empty.ensures.relinks.1 in
    let own = c.own_depth.ensures.value in
    record {
      few = subst (λ v. IfSome (deeper c.in-Pass.above (Some v)) (λ n. n ≤ 255)) (sym own) (deep-low c.args.kinds.now c.args.arena.now
          c.put_in_empty.new.arena c.args.elem.now q.0 (deeper c.in-Pass.above (Some (own_depth (shape_at c.args.kinds.now c.hook_at-hook.result.kind))))
          whole q.1.conforms.low);
    }

pub returns-in-Some-clause-done : goal.returns-in-Some-clause-done
returns-in-Some-clause-done g t c = λ u can.
    let q = c.requires.tree in
    let p = c.in-Pass.ensures.left q.0 q.1 in
    let h = hook-passed c.args.kinds.now c.args.arena.now c.step_at.new.arena c.args.elem.now q.0 c.in-Pass.passer c.in-Pass.side c.in-Pass.elems.items
    c.in-Pass.above c.args.steps.now
    c.step_at.new.steps p c.kind.result c.hook_at-hook.result.place c.hook_at-hook.result.kind
    c.kind.ensures.value c.hook_at-hook.ensures.value in
    let other : shape_at c.args.kinds.now c.hook_at-hook.result.kind ≢ Woven = λ e. let f = c.is_woven.ensures.value.1 e in let g = c.if-is_woven.false in cc in
    let there = HasLinkAt-hook c.args.kinds.now c.args.arena.now c.step_at.new.arena c.args.elem.now q.0 c.in-Pass.passer c.in-Pass.side
    c.in-Pass.elems.items c.in-Pass.above c.args.steps.now
    c.step_at.new.steps p
    c.hook_at-hook.result.place c.hook_at-hook.result.kind h in
    let read = link-read (node_at c.step_at.new.arena c.in-Pass.passer) c.hook_at-hook.result.place c.link.result there c.link.ensures.value in
    let leads = read ∙ c.in-Some.is in
    let same : c.deeper-in-Some.result ≡ deeper c.in-Pass.above (c.put_in_linked-deep.result) = c.deeper-in-Some.ensures.value in
    let whole : IsDone c.args.kinds.now c.args.arena.now c.put_in_linked-deep.new.arena c.args.elem.now q.0 (deeper c.in-Pass.above
    (c.put_in_linked-deep.result)) =
    IsDone-linked c.args.kinds.now c.args.arena.now c.step_at.new.arena c.args.elem.now q.0 c.in-Pass.passer c.in-Pass.side c.in-Pass.elems.items
    c.in-Pass.above c.args.steps.now
    c.step_at.new.steps p
    c.hook_at-hook.result.place c.hook_at-hook.result.kind h other c.in-Some.root leads c.put_in_linked-deep.new.arena c.put_in_linked-deep.result
    c.put_in_linked-deep.ensures.done in
    subst (λ v. IsDone c.args.kinds.now c.args.arena.now c.put_in_linked-deep.new.arena c.args.elem.now v c.deeper-in-Some.result)
    (CanPutIn-unique c.args.kinds.now c.args.arena.now c.args.elem.now c.args.node q.0 u q.1 can)
    (subst (λ o. IsDone c.args.kinds.now c.args.arena.now c.put_in_linked-deep.new.arena c.args.elem.now q.0 o) (sym same) whole)

pub returns-in-Some-clause-few : goal.returns-in-Some-clause-few
returns-in-Some-clause-few g t c = λ none.
    let q = c.requires.tree in
    let p = c.in-Pass.ensures.left q.0 q.1 in
    let h = hook-passed c.args.kinds.now c.args.arena.now c.step_at.new.arena c.args.elem.now q.0 c.in-Pass.passer c.in-Pass.side c.in-Pass.elems.items
    c.in-Pass.above c.args.steps.now
    c.step_at.new.steps p c.kind.result c.hook_at-hook.result.place c.hook_at-hook.result.kind
    c.kind.ensures.value c.hook_at-hook.ensures.value in
    let other : shape_at c.args.kinds.now c.hook_at-hook.result.kind ≢ Woven = λ e. let f = c.is_woven.ensures.value.1 e in let g = c.if-is_woven.false in cc in
    let same = (alone-hook c.args.kinds.now c.args.arena.now c.step_at.new.arena c.args.elem.now q.0 c.in-Pass.passer c.in-Pass.side c.in-Pass.elems.items
    c.in-Pass.above c.args.steps.now
    c.step_at.new.steps p
    c.hook_at-hook.result.place c.hook_at-hook.result.kind h other).0 in
    subst (λ v. DifferInFew 2 v c.put_in_linked-deep.new.arena) same (c.put_in_linked-deep.ensures.few none)

pub returns-in-Some-clause-steps : goal.returns-in-Some-clause-steps
returns-in-Some-clause-steps g t c = λ none.
    let q = c.requires.tree in
    let p = c.in-Pass.ensures.left q.0 q.1 in
    let h = hook-passed c.args.kinds.now c.args.arena.now c.step_at.new.arena c.args.elem.now q.0 c.in-Pass.passer c.in-Pass.side c.in-Pass.elems.items
    c.in-Pass.above c.args.steps.now
    c.step_at.new.steps p c.kind.result c.hook_at-hook.result.place c.hook_at-hook.result.kind
    c.kind.ensures.value c.hook_at-hook.ensures.value in
    let other : shape_at c.args.kinds.now c.hook_at-hook.result.kind ≢ Woven = λ e. let f = c.is_woven.ensures.value.1 e in let g = c.if-is_woven.false in cc in
    let same = (alone-hook c.args.kinds.now c.args.arena.now c.step_at.new.arena c.args.elem.now q.0 c.in-Pass.passer c.in-Pass.side c.in-Pass.elems.items
    c.in-Pass.above c.args.steps.now
    c.step_at.new.steps p
    c.hook_at-hook.result.place c.hook_at-hook.result.kind h other).2 in
    let few = c.put_in_linked-deep.ensures.steps none in
    omega (arith, same, few)

pub returns-in-Some-clause-spare : goal.returns-in-Some-clause-spare
returns-in-Some-clause-spare g t c = λ d less.
    let q = c.requires.tree in
    let p = c.in-Pass.ensures.left q.0 q.1 in
    let same = p.spare in
    let fall = c.put_in_linked-deep.ensures.spare d (omega (arith, less)) in
    omega (arith, same, fall)

pub returns-in-None-clause-done : goal.returns-in-None-clause-done
returns-in-None-clause-done g t c = λ u can.
    let q = c.requires.tree in
    let p = c.in-Pass.ensures.left q.0 q.1 in
    let h = hook-passed c.args.kinds.now c.args.arena.now c.step_at.new.arena c.args.elem.now q.0 c.in-Pass.passer c.in-Pass.side c.in-Pass.elems.items
    c.in-Pass.above c.args.steps.now
    c.step_at.new.steps p c.kind.result c.hook_at-hook.result.place c.hook_at-hook.result.kind
    c.kind.ensures.value c.hook_at-hook.ensures.value in
    let other : shape_at c.args.kinds.now c.hook_at-hook.result.kind ≢ Woven = λ e. let f = c.is_woven.ensures.value.1 e in let g = c.if-is_woven.false in cc in
    let there = HasLinkAt-hook c.args.kinds.now c.args.arena.now c.step_at.new.arena c.args.elem.now q.0 c.in-Pass.passer c.in-Pass.side
    c.in-Pass.elems.items c.in-Pass.above c.args.steps.now
    c.step_at.new.steps p
    c.hook_at-hook.result.place c.hook_at-hook.result.kind h in
    let read = link-read (node_at c.step_at.new.arena c.in-Pass.passer) c.hook_at-hook.result.place c.link.result there c.link.ensures.value in
    let leads = read ∙ c.in-None.is in
    let own = c.own_depth.ensures.value in
    let same : c.deeper-in-None.result ≡ deeper c.in-Pass.above (Some (own_depth (shape_at c.args.kinds.now c.hook_at-hook.result.kind))) =
    c.deeper-in-None.ensures.value ∙ ap (λ v. deeper c.in-Pass.above (Some v)) own in
    let whole : IsDone c.args.kinds.now c.args.arena.now c.put_in_empty.new.arena c.args.elem.now q.0 (deeper c.in-Pass.above (Some (own_depth (shape_at
    c.args.kinds.now c.hook_at-hook.result.kind)))) =
    IsDone-empty c.args.kinds.now c.args.arena.now c.step_at.new.arena c.args.elem.now q.0 c.in-Pass.passer c.in-Pass.side c.in-Pass.elems.items
    c.in-Pass.above c.args.steps.now
    c.step_at.new.steps p
    c.hook_at-hook.result.place c.hook_at-hook.result.kind h other leads c.put_in_empty.new.arena c.put_in_empty.ensures.relinks.0
    c.put_in_empty.ensures.relinks.1 in
    subst (λ v. IsDone c.args.kinds.now c.args.arena.now c.put_in_empty.new.arena c.args.elem.now v c.deeper-in-None.result)
    (CanPutIn-unique c.args.kinds.now c.args.arena.now c.args.elem.now c.args.node q.0 u q.1 can)
    (subst (λ o. IsDone c.args.kinds.now c.args.arena.now c.put_in_empty.new.arena c.args.elem.now q.0 o) (sym same) whole)

pub returns-in-None-clause-few : goal.returns-in-None-clause-few
returns-in-None-clause-few g t c = λ none.
    let q = c.requires.tree in
    let p = c.in-Pass.ensures.left q.0 q.1 in
    let h = hook-passed c.args.kinds.now c.args.arena.now c.step_at.new.arena c.args.elem.now q.0 c.in-Pass.passer c.in-Pass.side c.in-Pass.elems.items
    c.in-Pass.above c.args.steps.now
    c.step_at.new.steps p c.kind.result c.hook_at-hook.result.place c.hook_at-hook.result.kind
    c.kind.ensures.value c.hook_at-hook.ensures.value in
    let other : shape_at c.args.kinds.now c.hook_at-hook.result.kind ≢ Woven = λ e. let f = c.is_woven.ensures.value.1 e in let g = c.if-is_woven.false in cc in
    let same = (alone-hook c.args.kinds.now c.args.arena.now c.step_at.new.arena c.args.elem.now q.0 c.in-Pass.passer c.in-Pass.side c.in-Pass.elems.items
    c.in-Pass.above c.args.steps.now
    c.step_at.new.steps p
    c.hook_at-hook.result.place c.hook_at-hook.result.kind h other).0 in
    subst (λ v. DifferInFew 2 v c.put_in_empty.new.arena) same c.put_in_empty.ensures.few

pub returns-in-None-clause-steps : goal.returns-in-None-clause-steps
returns-in-None-clause-steps g t c = λ none.
    let q = c.requires.tree in
    let p = c.in-Pass.ensures.left q.0 q.1 in
    let h = hook-passed c.args.kinds.now c.args.arena.now c.step_at.new.arena c.args.elem.now q.0 c.in-Pass.passer c.in-Pass.side c.in-Pass.elems.items
    c.in-Pass.above c.args.steps.now
    c.step_at.new.steps p c.kind.result c.hook_at-hook.result.place c.hook_at-hook.result.kind
    c.kind.ensures.value c.hook_at-hook.ensures.value in
    let other : shape_at c.args.kinds.now c.hook_at-hook.result.kind ≢ Woven = λ e. let f = c.is_woven.ensures.value.1 e in let g = c.if-is_woven.false in cc in
    let same = (alone-hook c.args.kinds.now c.args.arena.now c.step_at.new.arena c.args.elem.now q.0 c.in-Pass.passer c.in-Pass.side c.in-Pass.elems.items
    c.in-Pass.above c.args.steps.now
    c.step_at.new.steps p
    c.hook_at-hook.result.place c.hook_at-hook.result.kind h other).2 in
    let few = c.put_in_empty.ensures.steps in
    omega (arith, same, few)

pub returns-in-None-clause-spare : goal.returns-in-None-clause-spare
returns-in-None-clause-spare g t c = λ d less.
    let q = c.requires.tree in
    let p = c.in-Pass.ensures.left q.0 q.1 in
    let same = p.spare in
    let fall = c.put_in_empty.ensures.spare in
    omega (arith, same, fall)
