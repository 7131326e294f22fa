use Rattle.std.proofs.Math.Logic.{∥∥₁_elim}
use Rattle.std.proofs.Props.{props}
use Rattle.std.proofs.Common.{◌≤◌, ◌<◌, ◌∙◌, length, sym, ap, arith, lit<}
use Rattle.node_arena.specs.Kinds.{shape_at}
use Rattle.iter_gen.proofs.PathsLemmas.{same-length, few, inside, links-are, link-is, straight-is, down-shown, down-last, rises, short-path}
use Rattle.iter_gen.proofs.ReadingLemmas.{HasAllLinks-prop}
use Rattle.iter_gen.proofs.walking.go_on.Goals as goal

pub link_before-link-requires-clause-links : goal.link_before-link-requires-clause-links
link_before-link-requires-clause-links c =
    ∥∥₁_elim c.requires.there.2 (HasAllLinks-prop _ _ _)
    (λ p. links-are _ _ _ _ _ _ _ p.2 _ c.requires.there.1 _ (c.shape_of-shape.ensures.value ∙ ap (shape_at c.args.kinds.now) c.kind.ensures.value))

pub link_before-link-requires-clause-within : goal.link_before-link-requires-clause-within
link_before-link-requires-clause-within c =
    ∥∥₁_elim c.requires.there.2 (hlevel props) (λ p. inside _ _ _ _ _ _ _ p.2 _ c.requires.there.1)

pub stop_behind-stop-requires-clause-links : goal.stop_behind-stop-requires-clause-links
stop_behind-stop-requires-clause-links c =
    ∥∥₁_elim c.requires.there.2 (HasAllLinks-prop _ _ _)
    (λ p. links-are _ _ _ _ _ _ _ p.2 _ c.requires.there.1 _ (c.shape_of-shape.ensures.value ∙ ap (shape_at c.args.kinds.now) c.kind.ensures.value))

pub overflow_cast-place : goal.overflow_cast-place
overflow_cast-place c =
    ∥∥₁_elim c.requires.there.2 (hlevel props)
    (λ p. let l = c.if-place-len.true in omega (arith, l, c.len.ensures.value, few _ _ _ _ _ _ _ p.2 _ c.requires.there.1))

pub overflow_cast-stop : goal.overflow_cast-stop
overflow_cast-stop c =
    ∥∥₁_elim c.requires.there.2 (hlevel props)
    (λ p. let w = c.stop_behind-stop.ensures.within in omega (arith, w, few _ _ _ _ _ _ _ p.2 _ c.requires.there.1))

pub push-requires : goal.push-requires
push-requires c = (lit< tt, ∥∥₁_elim c.requires.there.2 (hlevel props) (λ p. short-path _ _ _ _ _ _ _ p.2))

pub returns-then-place-len-clause-down : goal.returns-then-place-len-clause-down
returns-then-place-len-clause-down c = λ a is at xs p.
    let l : c.args.place < length p.frame.run = let w = c.if-place-len.true in omega (arith, w, c.len.ensures.value, same-length _ _ _ _ _ _ _ p _ is) in
    rw (
      c.push.ensures.items,
      link-is _ _ _ _ _ _ _ p _ is _ _ (c.shape_of-shape.ensures.value ∙ ap (shape_at c.args.kinds.now) c.kind.ensures.value) c.link_before-link.ensures.value,
    )
    (down-shown _ _ _ _ _ _ _ p _ _ (omega arith) l c.stop_behind-stop.ensures.behind
    (straight-is _ _ _ _ _ _ _ p _ is _ _ (c.shape_of-shape.ensures.value ∙ ap (shape_at c.args.kinds.now) c.kind.ensures.value)
    c.stop_behind-stop.ensures.straight))

pub returns-else-place-len-clause-down : goal.returns-else-place-len-clause-down
returns-else-place-len-clause-down c = λ a is at xs p.
    let l : length p.frame.run ≤ c.args.place = let w = c.if-place-len.false in omega (arith, w, c.len.ensures.value, same-length _ _ _ _ _ _ _ p _ is) in
    rw (
    link-is _ _ _ _ _ _ _ p _ is _ _ (c.shape_of-shape.ensures.value ∙ ap (shape_at c.args.kinds.now) c.kind.ensures.value) c.link_before-link.ensures.value
    )
    (down-last _ _ _ _ _ _ _ p l)

pub returns-else-place-len-clause-rises : goal.returns-else-place-len-clause-rises
returns-else-place-len-clause-rises c = λ a is can low child e.
    ∥∥₁_elim can (hlevel props)
    (λ p. rises _ _ _ _ _ _ _ p.2 child
    (sym (link-is _ _ _ _ _ _ _ p.2 _ is _ _ (c.shape_of-shape.ensures.value ∙ ap (shape_at c.args.kinds.now) c.kind.ensures.value)
    c.link_before-link.ensures.value) ∙ e)
    (omega (arith, low, same-length _ _ _ _ _ _ _ p.2 _ is)))
