use Rattle.std.proofs.Math.Logic.{∥∥₁_elim, ∥∥₁_map}
use Rattle.std.proofs.Props.{props}
use Rattle.std.proofs.Common.{IsSome, refl, sym, subst}
use Rattle.iter_gen.proofs.PathsLemmas.{stands, go-some, go-none, none-left}
use Rattle.iter_gen.proofs.walking.pass.Goals as goal

pub view-node-requires : goal.view-node-requires
view-node-requires c = record { there = ∥∥₁_elim c.requires.there (hlevel props) (λ p. subst IsSome (sym (stands _ _ _ _ _ _ _ p.1)) refl) }

pub go_on-requires : goal.go_on-requires
go_on-requires c = record { there = (c.args.arena.now, c.view-node.ensures.value, ∥∥₁_map c.requires.there (λ p. (0, p.0, p.1))) }

pub sink-requires : goal.sink-requires
sink-requires c = record {
  there = ∥∥₁_map c.requires.there (λ p. (
    p.0,
    go-some _ _ _ _ _ _ _ c.in-Some.is (c.go_on.ensures.down c.args.arena.now c.view-node.ensures.value 0 p.0 p.1),
  ));
}

pub returns-in-Some : goal.returns-in-Some
returns-in-Some c = record {
  left = λ xs h.
      c.sink.ensures.left xs (go-some _ _ _ _ _ _ _ c.in-Some.is (c.go_on.ensures.down c.args.arena.now c.view-node.ensures.value 0 xs h));
}

pub returns-in_default : goal.returns-in_default
returns-in_default c = record {
  left = λ xs h.
      go-none _ _ _ _ _ _ (none-left c.go_on.result c.in_default.not-Some)
      (c.go_on.ensures.down c.args.arena.now c.view-node.ensures.value 0 xs h);
}
