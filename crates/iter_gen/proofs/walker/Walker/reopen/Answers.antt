use Rattle.std.proofs.Math.Logic.{∥∥₁_map}
use Rattle.std.proofs.Common.{sym, ap, subst}
use Rattle.node_arena.specs.Kinds.{kinds_of}
use Rattle.node_arena.specs.Structures.{Tree, walk_of}
use Rattle.iter_gen.specs.Walkers.{WalkerState, CanBeWalked, Conforms, AreLeft}
use Rattle.iter_gen.proofs.WalkersLemmas.{conforms-rising}
use Rattle.iter_gen.proofs.walker.Walker.reopen.Goals as goal

pub start-self-inside-requires-clause-conforms : goal.start-self-inside-requires-clause-conforms
start-self-inside-requires-clause-conforms c =
    subst (λ s. CanBeWalked s c.args.arena.now c.args.top) (sym (ap (λ (w : WalkerState). w.code) c.self.view_is)) c.requires.conforms

-- the structure conforms to the schema of the walker's own code
own_code : (c : goal.After-arena-1) (t : Tree) → Conforms c.args.self.now.code c.args.arena.now c.args.top t
    → Conforms c.self.inside.code.now c.args.arena.now c.args.top t
own_code c t h = subst (λ s. Conforms s c.args.arena.now c.args.top t) (sym (ap (λ (w : WalkerState). w.code) c.self.view_is)) h

left : (c : goal.After-arena-1) (t : Tree) → Conforms c.args.self.now.code c.args.arena.now c.args.top t
    → AreLeft (record { code = c.self.inside.code.now; arena = c.args.arena.now; run = c.start-self-inside.result; path = c.start-self-inside.new.path.items })
    (walk_of (kinds_of c.self.inside.code.now) t)
left c t h = record { has = c.start-self-inside.ensures.has t (own_code c t h); rising = conforms-rising _ _ _ t (own_code c t h).conforms }

pub invariant_of-self : goal.invariant_of-self
invariant_of-self c = ∥∥₁_map c.requires.conforms (λ p. (walk_of (kinds_of c.self.inside.code.now) p.0, left c p.0 p.1))

pub returns-clause-left : goal.returns-clause-left
returns-clause-left c = λ t h.
    subst (λ s. AreLeft (record {
      code = c.self.inside.code.now;
      arena = c.args.arena.now;
      run = c.start-self-inside.result;
      path =
          c.start-self-inside.new.path.items;
    })
    (walk_of (kinds_of s) t)) (ap (λ (w : WalkerState). w.code) c.self.view_is) (left c t h)
