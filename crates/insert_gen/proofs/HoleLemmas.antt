-- The walk of trees in which one element is another: all else stays.
use Rattle.std.proofs.Common.{◌≡◌, ◌<◌, ℕ, zero, suc, List, [], ◌∷◌, ◌++◌, map, length, take, drop, slice_set, refl, ap, ◌∙◌, sym, append_assoc, arith}
use Rattle.node_arena.specs.declared.elements.Elem.{Elem}
use Rattle.node_arena.specs.declared.kinds.NodeKind.{NodeKind}
use Rattle.node_arena.specs.declared.kinds.Shape.{Shape}
use Rattle.node_arena.specs.declared.kinds.Shape.TheVariants.{Flat, Post, Ends, Woven}
use Rattle.node_arena.specs.Kinds.{shape_at}
use Rattle.node_arena.specs.Trees.{Trees, done, absent, node}
use Rattle.node_arena.specs.Walks.{Part, item, link, weave, between, parts, joined, walk, walks}

-- a list with one element to be chosen
pub record Hole (f : Elem → List Elem) : Type 0 where
  pub before : List Elem
  pub after : List Elem
  pub is : (y : Elem) → f y ≡ before ++ y ∷ after

-- lists, one of which has one element to be chosen
pub record HoleIn (f : Elem → List (List Elem)) : Type 0 where
  pub own : Elem → List Elem
  pub hole : Hole own
  pub first : List (List Elem)
  pub last : List (List Elem)
  pub is : (y : Elem) → f y ≡ first ++ own y ∷ last

-- another way to write it
pub Hole-same : (f g : Elem → List Elem) → ((y : Elem) → f y ≡ g y) → Hole g → Hole f
Hole-same f g e h = record { before = h.before; after = h.after; is = λ y. e y ∙ h.is y }

-- something before
pub Hole-behind : (xs : List Elem) (f : Elem → List Elem) → Hole f → Hole (λ y. xs ++ f y)
Hole-behind xs f h = record {
  before = xs ++ h.before;
  after = h.after;
  is = λ y. ap (λ l. xs ++ l) (h.is y) ∙ sym (append_assoc xs h.before (y ∷ h.after));
}

-- an element before
Hole-next : (x : Elem) (f : Elem → List Elem) → Hole f → Hole (λ y. x ∷ f y)
Hole-next x f h = record { before = x ∷ h.before; after = h.after; is = λ y. ap (λ l. x ∷ l) (h.is y) }

-- something behind
pub Hole-before : (f : Elem → List Elem) (xs : List Elem) → Hole f → Hole (λ y. f y ++ xs)
Hole-before f xs h = record {
  before = h.before;
  after = h.after ++ xs;
  is = λ y. ap (λ l. l ++ xs) (h.is y) ∙ append_assoc h.before (y ∷ h.after) xs;
}

-- ---- an element of the run

-- a run and what follows
items-hole : (rb ra : List Elem) (ps : List (Part (List Elem))) → Hole (λ y. joined (map item (rb ++ y ∷ ra) ++ ps))
items-hole [] ra ps = record { before = []; after = joined (map item ra ++ ps); is = λ y. refl }
items-hole (x ∷ rb) ra ps = Hole-next x (λ y. joined (map item (rb ++ y ∷ ra) ++ ps)) (items-hole rb ra ps)

bare-hole : (rb ra : List Elem) → Hole (λ y. joined (map item (rb ++ y ∷ ra)))
bare-hole [] ra = record { before = []; after = joined (map item ra); is = λ y. refl }
bare-hole (x ∷ rb) ra = Hole-next x (λ y. joined (map item (rb ++ y ∷ ra))) (bare-hole rb ra)

weave-hole : (rb ra : List Elem) (ws : List (List Elem)) → Hole (λ y. joined (weave (rb ++ y ∷ ra) ws))
weave-hole [] ra [] = record { before = []; after = joined (weave ra []); is = λ y. refl }
weave-hole [] ra (w ∷ ws) = record { before = w; after = joined (weave ra ws); is = λ y. refl }
weave-hole (x ∷ rb) ra [] = Hole-next x (λ y. joined (weave (rb ++ y ∷ ra) [])) (weave-hole rb ra [])
weave-hole (x ∷ rb) ra (w ∷ ws) =
    Hole-behind w (λ y. x ∷ joined (weave (rb ++ y ∷ ra) ws)) (Hole-next x (λ y. joined (weave (rb ++ y ∷ ra) ws)) (weave-hole rb ra ws))

between-hole : (rb ra : List Elem) (ws : List (List Elem)) → Hole (λ y. joined (between (rb ++ y ∷ ra) ws))
between-hole rb ra [] = bare-hole rb ra
between-hole rb ra (w ∷ ws) = Hole-behind w (λ y. joined (map item (rb ++ y ∷ ra) ++ map link ws)) (items-hole rb ra (map link ws))

-- a node's walk with an element of its run to be chosen
pub run-hole : (sh : Shape) (rb ra : List Elem) (ws : List (List Elem)) → Hole (λ y. joined (parts sh (rb ++ y ∷ ra) ws))
run-hole Flat rb ra ws = items-hole rb ra (map link ws)
run-hole (Post p) rb ra ws = items-hole rb ra (map link ws)
run-hole (Ends p q) rb ra ws = between-hole rb ra ws
run-hole Woven rb ra ws = weave-hole rb ra ws

-- ---- an element of what hangs at a link

module _ (own : Elem → List Elem) (hole : Hole own) where
  links-hole : (us vs : List (List Elem)) → Hole (λ y. joined (map link (us ++ own y ∷ vs)))
  links-hole [] vs = Hole-before own (joined (map link vs)) hole
  links-hole (u ∷ us) vs = Hole-behind u (λ y. joined (map link (us ++ own y ∷ vs))) (links-hole us vs)

  behind-hole : (run : List Elem) (us vs : List (List Elem)) → Hole (λ y. joined (map item run ++ map link (us ++ own y ∷ vs)))
  behind-hole [] us vs = links-hole us vs
  behind-hole (x ∷ run) us vs = Hole-next x (λ y. joined (map item run ++ map link (us ++ own y ∷ vs))) (behind-hole run us vs)

  around-hole : (run : List Elem) (us vs : List (List Elem)) → Hole (λ y. joined (between run (us ++ own y ∷ vs)))
  around-hole run [] vs = Hole-before own (joined (map item run ++ map link vs)) hole
  around-hole run (u ∷ us) vs = Hole-behind u (λ y. joined (map item run ++ map link (us ++ own y ∷ vs))) (behind-hole run us vs)

  woven-hole : (run : List Elem) (us vs : List (List Elem)) → Hole (λ y. joined (weave run (us ++ own y ∷ vs)))
  woven-hole [] us vs = links-hole us vs
  woven-hole (x ∷ run) [] vs = Hole-before own (x ∷ joined (weave run vs)) hole
  woven-hole (x ∷ run) (u ∷ us) vs =
      Hole-behind u (λ y. x ∷ joined (weave run (us ++ own y ∷ vs)))
      (Hole-next x (λ y. joined (weave run (us ++ own y ∷ vs))) (woven-hole run us vs))

  parts-hole : (sh : Shape) (run : List Elem) (us vs : List (List Elem)) → Hole (λ y. joined (parts sh run (us ++ own y ∷ vs)))
  parts-hole Flat run us vs = behind-hole run us vs
  parts-hole (Post p) run us vs = behind-hole run us vs
  parts-hole (Ends p q) run us vs = around-hole run us vs
  parts-hole Woven run us vs = woven-hole run us vs

-- a node's walk with an element below it to be chosen
pub below-hole : (sh : Shape) (run : List Elem) (f : Elem → List (List Elem)) → HoleIn f → Hole (λ y. joined (parts sh run (f y)))
below-hole sh run f h =
    Hole-same (λ y. joined (parts sh run (f y))) (λ y. joined (parts sh run (h.first ++ h.own y ∷ h.last)))
    (λ y. ap (λ ws. joined (parts sh run ws)) (h.is y)) (parts-hole h.own h.hole sh run h.first h.last)

-- ---- trees

-- one of several walks has it
pub HoleIn-first : (own : Elem → List Elem) (ws : List (List Elem)) → Hole own → HoleIn (λ y. own y ∷ ws)
HoleIn-first own ws h = record { own = own; hole = h; first = []; last = ws; is = λ y. refl }

-- one of several walks has it, behind another one
pub HoleIn-next : (w : List Elem) (f : Elem → List (List Elem)) → HoleIn f → HoleIn (λ y. w ∷ f y)
HoleIn-next w f h = record { own = h.own; hole = h.hole; first = w ∷ h.first; last = h.last; is = λ y. ap (λ l. w ∷ l) (h.is y) }

-- another way to write them
pub HoleIn-same : (f g : Elem → List (List Elem)) → ((y : Elem) → f y ≡ g y) → HoleIn g → HoleIn f
HoleIn-same f g e h = record { own = h.own; hole = h.hole; first = h.first; last = h.last; is = λ y. e y ∙ h.is y }

-- a walk is that of each tree
walk-joined : (s : List NodeKind) (t : Trees) → walk s t ≡ joined (map link (walks s t))
walk-joined s done = refl
walk-joined s (absent t) = walk-joined s t
walk-joined s (node i k run ls t) = ap (λ l. joined (parts (shape_at s k) run (walks s ls)) ++ l) (walk-joined s t)

-- the whole walk has it
pub walk-hole : (s : List NodeKind) (f : Elem → Trees) → HoleIn (λ y. walks s (f y)) → Hole (λ y. walk s (f y))
walk-hole s f h =
    Hole-same (λ y. walk s (f y)) (λ y. joined (map link (h.first ++ h.own y ∷ h.last)))
    (λ y. walk-joined s (f y) ∙ ap (λ ws. joined (map link ws)) (h.is y)) (links-hole h.own h.hole h.first h.last)

-- ---- a run

-- a run with an element in the place of another
pub set-split : (run : List Elem) (p : ℕ) → p < length run → (y : Elem) → slice_set run p y ≡ take p run ++ y ∷ drop (suc p) run
set-split [] p l y = absurd (omega arith)
set-split (x ∷ run) zero l y = refl
set-split (x ∷ run) (suc p) l y = ap (λ r. x ∷ r) (set-split run p (omega arith) y)
