-- The structures on a path, and what is put into them.
use Rattle.std.proofs.Common.{◌≡◌, ◌≢◌, ◌==◌, ◌⊎◌, inl, inr, ℕ, true, false, eqb, cond, List, [], ◌∷◌, ◌++◌, length, flat_map, Option, Some, None, refl, ap, ◌∙◌, sym, subst, arith}
use Rattle.std.proofs.lemmas.Bool.Decides.{nat_tests}
use Rattle.std.specs.List.{All}
use Rattle.std.proofs.lemmas.Bool.Decides.{eqb_tells}
use Rattle.std.proofs.lemmas.List.{append-nil}
use Rattle.std.proofs.lemmas.List.Elements.{All-nil, All-cons, All-head, All-tail}
use Rattle.dt_model.specs.declared.declared_tensors.Schema.{Schema}
use Rattle.node_arena.specs.declared.elements.Elem.{Elem}
use Rattle.node_arena.specs.declared.elements.Held.{Held}
use Rattle.node_arena.specs.declared.elements.Held.TheVariants.{Number, Inner}
use Rattle.node_arena.specs.declared.elements.Structure.{Structure}
use Rattle.node_arena.specs.declared.elements.Top.TheVariants as tops
use Rattle.node_arena.specs.declared.kinds.NodeKind.{NodeKind}
use Rattle.node_arena.specs.Arenas.{ArenaState}
use Rattle.node_arena.specs.Kinds.{kinds_of, root_of}
use Rattle.node_arena.specs.Modes.{Mode, walk_in, tree_in, with_inner, inners, ApartBelow, AllApart, IsHeldFor, IsNested, under, entries_held, entries_in}
use Rattle.node_arena.specs.Structures.{Tree, empty, rooted, flat, walk_of, IsStanding, IsStructure}
use Rattle.node_arena.proofs.ModesLemmas.{tree_in-stands, tree_in-empty}
use Rattle.iter_gen.specs.LookingUp.{elem_with}
use Rattle.nested_modes.specs.Codes.{mode_of, modes_of}
use Rattle.nested_modes.specs.Frames.{KeepsOthers}
use Rattle.nested_modes.specs.Paths.{empty_structure, held_structure, inner_of, below}
use Rattle.nested_modes.specs.Readiness.{IsReady}
use Rattle.nested_modes.specs.Putting.{PutsEntry, IsEntryAt, IsElemAt, IsSetIn, SpendsEach, Spends}
use Rattle.nested_modes.proofs.ApartLemmas.{ApartBelow-empty}
use Rattle.nested_modes.proofs.EntriesLemmas.{entries_below}
use Rattle.nested_modes.proofs.ListsLemmas.{All-left, All-right}
use Rattle.nested_modes.proofs.SetsLemmas.{first_of, elem_with-old, elem_with-new}
use Rattle.nested_modes.proofs.StepLemmas.{KeepsBelow-set, KeepsBeside, IsNested-set, KeepsOthers-set, PutsEntry-step}

-- ---- empty structures

-- an empty structure is one of all modes
pub IsNested-empty : (m : Mode) (ms : List Mode) → IsNested (m ∷ ms) empty_structure
IsNested-empty m ms =
    let t : tree_in m.arena empty_structure ≡ empty = tree_in-empty m.arena empty_structure refl in
    let structure : IsStructure m.kinds m.root m.arena empty_structure empty = record {
      stands = record { top = refl; nodes = tt; once = tt; run = tt; counted = refl };
      conforms = record { tree = tt; spine_kept = omega arith; spine_low = omega arith };
    } in
    record {
      structure = subst (λ u. IsStructure m.kinds m.root m.arena empty_structure u) (sym t) structure;
      holds = subst (λ u. All (λ e. IsHeldFor ms (λ y. IsNested ms y) e.held) (walk_of m.kinds u)) (sym t)
          (All-nil (λ e. IsHeldFor ms (λ y. IsNested ms y) e.held));
      apart = subst (λ u. AllApart ms (inners (walk_of m.kinds u))) (sym t) tt;
    }

-- an empty structure has no entries
pub entries_in-empty : (ms : List Mode) → entries_in ms empty_structure ≡ []
entries_in-empty [] = refl
entries_in-empty (m ∷ ms) =
    let t : tree_in m.arena empty_structure ≡ empty = tree_in-empty m.arena empty_structure refl in
    ap (λ u. entries_of_walk (walk_of m.kinds u)) t
  where
    entries_of_walk : List Elem → List (List ℕ × ℕ)
    entries_of_walk es = flat_map (λ e. under e.at (entries_held (λ y. entries_in ms y) e.held)) es

-- a structure with an element isn't empty
pub some-top : (s : List NodeKind) (a : ArenaState) (st : Structure) (t : Tree) (before after : List Elem) (x : Elem) → IsStanding s a st t
    → walk_of s t ≡ before ++ x ∷ after → st.top ≢ tops.Empty
some-top s a st empty before after x h w e = not-nil before after x w
  where
    not-nil : (before after : List Elem) (x : Elem) → [] ≡ before ++ x ∷ after → ⊥
    not-nil [] after x w = cc
    not-nil (z ∷ zs) after x w = cc
some-top s a st (rooted i k run ls) before after x h w e = let both : tops.Node i ≡ tops.Empty = sym h.top ∙ e in cc
some-top s a st (flat i run) before after x h w e = let both : tops.Run i ≡ tops.Empty = sym h.top ∙ e in cc

-- ---- what is found

-- what holds of all elements holds of one that is found
pub All-found : (P : Elem → Type 0) (n : ℕ) (es : List Elem) (e : Elem) → All P es → elem_with n es ≡ Some e → P e
All-found P n [] e h g = cc
All-found P n (z ∷ zs) e h g = pick (eqb_tells z.at n) (λ f. All-found P n zs e (All-tail P z zs h) f)
  where
    pick : ((eqb z.at n ≡ true) × (z.at ≡ n)) ⊎ ((eqb z.at n ≡ false) × (z.at ≢ n)) → (elem_with n zs ≡ Some e → P e) → P e
    pick (inl q) f = let same : Some z ≡ Some e = ap (λ b. cond b (Some z) (elem_with n zs)) (sym q.0) ∙ g in let is : z ≡ e = cc (same) in subst P is
        (All-head P z zs h)
    pick (inr q) f = f (ap (λ b. cond b (Some z) (elem_with n zs)) (sym q.0) ∙ g)

held-nested : (m : Mode) (ms : List Mode) (h : Held) → IsHeldFor (m ∷ ms) (λ y. IsNested (m ∷ ms) y) h → IsNested (m ∷ ms) (held_structure h)
held-nested m ms (Number v) g = absurd g
held-nested m ms (Inner st) g = g.1

-- the structure below a coordinate is one of the later modes
pub IsNested-below : (m n : Mode) (ms : List Mode) (st : Structure) (at : ℕ) (there : Option Elem) → IsNested (m ∷ n ∷ ms) st
    → there ≡ elem_with at (walk_in m st) → IsNested (n ∷ ms) (inner_of there)
IsNested-below m n ms st at None h e = IsNested-empty n ms
IsNested-below m n ms st at (Some x) h e =
    held-nested n ms x.held (All-found (λ z. IsHeldFor (n ∷ ms) (λ y. IsNested (n ∷ ms) y) z.held) at (walk_in m st) x h.holds (sym e))

-- ---- the element whose place is taken

-- what is apart from the structures of these elements is apart from the first
pub ApartBelow-first : (ms : List Mode) (n : ℕ) (was : List Elem) (z : Structure) → IsElemAt n was → All (λ y. ApartBelow ms y z) (inners was)
    → ApartBelow ms (inner_of (first_of was)) z
ApartBelow-first ms n [] z one h = ApartBelow-empty ms empty_structure z refl
ApartBelow-first ms n (e ∷ es) z one h = held-apart e.held (inners es) h
  where
    held-apart : (g : Held) (rest : List Structure) → All (λ y. ApartBelow ms y z) (with_inner g rest) → ApartBelow ms (held_structure g) z
    held-apart (Number v) rest h = ApartBelow-empty ms empty_structure z refl
    held-apart (Inner st) rest h = All-head (λ y. ApartBelow ms y z) st rest h

-- the entries below the coordinate are those of the first of these elements
pub entries-first : (m : Mode) (ms : List Mode) (n : ℕ) (was : List Elem) (P : Structure → Type 0) → IsElemAt n was → All (λ e. IsHeldFor (m ∷ ms) P e.held) was
    → entries_below (λ y. entries_in (m ∷ ms) y) was ≡ entries_in (m ∷ ms) (inner_of (first_of was))
entries-first m ms n [] P one h = sym (entries_in-empty (m ∷ ms))
entries-first m ms n (e ∷ []) P one h =
    append-nil (entries_held (λ y. entries_in (m ∷ ms) y) e.held) ∙ held-entries e.held (All-head (λ z. IsHeldFor (m ∷ ms) P z.held) e [] h)
  where
    held-entries : (g : Held) → IsHeldFor (m ∷ ms) P g → entries_held (λ y. entries_in (m ∷ ms) y) g ≡ entries_in (m ∷ ms) (held_structure g)
    held-entries (Number v) i = absurd i
    held-entries (Inner st) i = refl
entries-first m ms n (e ∷ z ∷ zs) P one h = cc (one.1)

-- a number takes the place of a number
pub PutsEntry-number : (F : Structure → List (List ℕ × ℕ)) (P : Structure → Type 0) (v n : ℕ) (was : List Elem) → IsElemAt n was
    → All (λ e. IsHeldFor [] P e.held) was → PutsEntry [] v (entries_below F was) (([], v) ∷ [])
PutsEntry-number F P v n was one h = record {
  before = [];
  was = entries_below F was;
  after = [];
  old_is = sym (append-nil (entries_below F was));
  one = alone was one h;
  new_is = refl;
  lacks_before = All-nil (λ p. p.0 ≢ []);
  lacks_after = All-nil (λ p. p.0 ≢ []);
}
  where
    held-alone : (g : Held) → IsHeldFor [] P g → IsEntryAt [] (entries_held F g)
    held-alone (Number w) i = (refl, refl)
    held-alone (Inner st) i = absurd i

    alone : (was : List Elem) → IsElemAt n was → All (λ e. IsHeldFor [] P e.held) was → IsEntryAt [] (entries_below F was)
    alone [] one h = tt
    alone (e ∷ []) one h = subst (IsEntryAt []) (sym (append-nil (entries_held F e.held))) (held-alone e.held (All-head (λ z. IsHeldFor [] P z.held) e [] h))
    alone (e ∷ z ∷ zs) one h = cc (one.1)

-- ---- a number is put in

-- all that is said of a number that is put in
pub record Put (cs : List Schema) (old new : List ArenaState) (st : Structure) (at : List ℕ) (v : ℕ) (now : Structure) : Type 0 where
  pub nested : IsNested (modes_of cs new) now
  pub some : now.top ≢ tops.Empty
  pub entries : PutsEntry at v (entries_in (modes_of cs old) st) (entries_in (modes_of cs new) now)
  pub others : KeepsOthers (modes_of cs old) (modes_of cs new) st now
  pub spent : SpendsEach cs old new st now at

module _ (c : Schema) (a b : ArenaState) (n v : ℕ) (st now : Structure) where
  was-held : (cs : List Schema) (old : List ArenaState) (x : Elem) → IsNested (modes_of (c ∷ cs) (a ∷ old)) st →
      (g : IsSetIn (kinds_of c) (root_of c) a b x (tree_in a st) now)
      → All (λ e. IsHeldFor (modes_of cs old) (λ y. IsNested (modes_of cs old) y) e.held) g.sets.was
  was-held cs old x h g =
      let Is : Elem → Type 0 = λ e. IsHeldFor (modes_of cs old) (λ y. IsNested (modes_of cs old) y) e.held in
      All-left Is g.sets.was g.sets.after (All-right Is g.sets.before (g.sets.was ++ g.sets.after) (subst (All Is) g.sets.old_is h.holds))

  -- in the last mode
  pub Put-last : (old : List ArenaState) → IsNested (modes_of (c ∷ []) (a ∷ old)) st
      → IsSetIn (kinds_of c) (root_of c) a b (record { at = n; held = Number v }) (tree_in a st) now → Spends (kinds_of c) (root_of c) a b st now
      → Put (c ∷ []) (a ∷ old) (b ∷ old) st (n ∷ []) v now
  Put-last old h g spent =
      let x : Elem = record { at = n; held = Number v } in
      let f : KeepsBeside [] [] g.sets.was (Number v) = λ z i q. absurd i in
      let held = was-held [] old x h g in
      record {
        nested = IsNested-set c [] a b old old x st now refl h g f tt;
        some = some-top (kinds_of c) b now g.tree g.sets.before g.sets.after x g.stands g.sets.new_is;
        entries = PutsEntry-step c [] a b old old x st now refl h g f [] v
            (PutsEntry-number (λ y. entries_in [] y) (λ y. IsNested [] y) v n g.sets.was g.sets.one held);
        others = KeepsOthers-set c [] a b old old x st now refl h g f;
        spent = (spent, KeepsBelow-set c [] a b old old x st now refl h g f, refl);
      }

  -- in a mode before others
  pub Put-on : (cs : List Schema) (old new : List ArenaState) (at : List ℕ) (there : Option Elem) (inner : Structure) → length new ≡ length old
      → IsNested (modes_of (c ∷ cs) (a ∷ old)) st → IsNested (modes_of cs old) (inner_of there) → there ≡ elem_with n (walk_in (mode_of c a) st)
      → Put cs old new (inner_of there) at v inner
      → IsSetIn (kinds_of c) (root_of c) a b (record { at = n; held = Inner inner }) (tree_in a st) now → Spends (kinds_of c) (root_of c) a b st now
      → Put (c ∷ cs) (a ∷ old) (b ∷ new) st (n ∷ at) v now
  Put-on cs old new at there inner same h i e p g spent =
      let x : Elem = record { at = n; held = Inner inner } in
      let ms = modes_of cs old in
      let ns = modes_of cs new in
      let was : there ≡ first_of g.sets.was = e ∙ elem_with-old x (walk_of (kinds_of c) (tree_in a st)) (walk_of (kinds_of c) g.tree) g.sets in
      let f : KeepsBeside ms ns g.sets.was (Inner inner) = λ z j q.
      let apart : ApartBelow ms (inner_of there) z = subst (λ o. ApartBelow ms (inner_of o) z) (sym was) (ApartBelow-first ms n g.sets.was z g.sets.one q) in
      let r = p.others z j apart in
      (r.0, All-cons (λ y. ApartBelow ns y z) inner [] r.1 (All-nil (λ y. ApartBelow ns y z))) in
      let held = was-held cs old x h g in
      let entries : PutsEntry at v (entries_below (λ y. entries_in ms y) g.sets.was) (entries_in ns inner) =
      subst (λ l. PutsEntry at v l (entries_in ns inner)) (sym (firsts ms g.sets.was i g.sets.one held ∙ ap (λ o. entries_in ms (inner_of o)) (sym was)))
      p.entries in
      let now-tree : tree_in b now ≡ g.tree = tree_in-stands (kinds_of c) b now g.tree g.stands in
      let found : elem_with n (walk_in (mode_of c b) now) ≡ Some x =
      ap (λ t. elem_with n (walk_of (kinds_of c) t)) now-tree ∙ elem_with-new x (walk_of (kinds_of c) (tree_in a st)) (walk_of (kinds_of c) g.tree) g.sets in
      record {
        nested = IsNested-set c cs a b old new x st now same h g f (held-inner ns inner p.some p.nested);
        some = some-top (kinds_of c) b now g.tree g.sets.before g.sets.after x g.stands g.sets.new_is;
        entries = PutsEntry-step c cs a b old new x st now same h g f at v entries;
        others = KeepsOthers-set c cs a b old new x st now same h g f;
        spent = (
          spent,
          KeepsBelow-set c cs a b old new x st now same h g f,
          subst (λ o. SpendsEach cs old new (inner_of o) (below (mode_of c b) now n) at) e
              (subst (λ o. SpendsEach cs old new (inner_of there) (inner_of o) at) (sym found) p.spent),
        );
      }
    where
      held-inner : (ns : List Mode) (y : Structure) → y.top ≢ tops.Empty → IsNested ns y → IsHeldFor ns (λ z. IsNested ns z) (Inner y)
      held-inner [] y t i = absurd i
      held-inner (m ∷ ns) y t i = (t, i)

      firsts : (ms : List Mode) (was : List Elem) → IsNested ms (inner_of there) → IsElemAt n was → All (λ e. IsHeldFor ms (λ y. IsNested ms y) e.held) was
          → entries_below (λ y. entries_in ms y) was ≡ entries_in ms (inner_of (first_of was))
      firsts [] was i one h = absurd i
      firsts (m ∷ ms) was i one h = entries-first m ms n was (λ y. IsNested (m ∷ ms) y) one h

-- ---- as the call has its lists

-- where there is no arena, no structure is one of the modes
pub arenas-some : (cs : List Schema) (old : List ArenaState) (st : Structure) → length old ≡ 0 → IsNested (modes_of cs old) st → ⊥
arenas-some [] old st e h = h
arenas-some (c ∷ cs) [] st e h = h
arenas-some (c ∷ cs) (a ∷ old) st e h = absurd (omega arith)

-- a list of no length is empty
pub empty-list : (cs : List Schema) → (length cs == 0) ≡ true → cs ≡ []
empty-list [] e = refl
empty-list (c ∷ cs) e = absurd (grind (arith, nat_tests, e))

module _ (codes : List Schema) (arenas : List ArenaState) (path : List ℕ) (c : Schema) (cs : List Schema) (a : ArenaState) (old : List ArenaState) (n : ℕ)
    (at : List ℕ)
    (ec : codes ≡ c ∷ cs) (ea : arenas ≡ a ∷ old) (et : path ≡ n ∷ at) where
  -- what is said of the parts is said of the whole
  pub Put-lists : (new : List ArenaState) (st now : Structure) (v : ℕ) → Put (c ∷ cs) (a ∷ old) new st (n ∷ at) v now → Put codes arenas new st path v now
  Put-lists new st now v p =
      subst (λ l. Put l arenas new st path v now) (sym ec)
      (subst (λ l. Put (c ∷ cs) l new st path v now) (sym ea) (subst (λ l. Put (c ∷ cs) (a ∷ old) new st l v now) (sym et) p))

  pub IsNested-lists : (st : Structure) → IsNested (modes_of codes arenas) st → IsNested (modes_of (c ∷ cs) (a ∷ old)) st
  IsNested-lists st h = subst (λ l. IsNested (modes_of (c ∷ cs) l) st) ea (subst (λ l. IsNested (modes_of l arenas) st) ec h)

  pub IsReady-lists : (st : Structure) → IsReady codes arenas st path → IsReady (c ∷ cs) (a ∷ old) st (n ∷ at)
  IsReady-lists st h =
      subst (λ l. IsReady (c ∷ cs) (a ∷ old) st l) et (subst (λ l. IsReady (c ∷ cs) l st path) ea (subst (λ l. IsReady l arenas st path) ec h))

-- what is looked up is the element of the walk
pub looked-up : (c : Schema) (cs : List Schema) (a : ArenaState) (old : List ArenaState) (st : Structure) (n : ℕ) (there : Option Elem) (s : List NodeKind)
    → s ≡ kinds_of c → ((t : Tree) → IsStanding s a st t → there ≡ elem_with n (walk_of s t)) → IsNested (modes_of (c ∷ cs) (a ∷ old)) st
    → there ≡ elem_with n (walk_in (mode_of c a) st)
looked-up c cs a old st n there s e f h =
    (subst (λ k. (t : Tree) → IsStanding k a st t → there ≡ elem_with n (walk_of k t)) e f) (tree_in a st) h.structure.stands

-- below the first mode the structure is one of the others, and ready
pub ready-below : (c : Schema) (cs : List Schema) (a : ArenaState) (old : List ArenaState) (st : Structure) (n : ℕ) (at : List ℕ) (there : Option Elem)
    → (length cs == 0) ≡ false → IsNested (modes_of (c ∷ cs) (a ∷ old)) st → IsReady (c ∷ cs) (a ∷ old) st (n ∷ at)
    → there ≡ elem_with n (walk_in (mode_of c a) st) → IsNested (modes_of cs old) (inner_of there) × IsReady cs old (inner_of there) at
ready-below c [] a old st n at there some h r e = absurd (grind (arith, nat_tests, some))
ready-below c (d ∷ cs) a [] st n at there some h r e = absurd r.2
ready-below c (d ∷ cs) a (b ∷ old) st n at there some h r e = (
  IsNested-below (mode_of c a) (mode_of d b) (modes_of cs old) st n there h e,
  subst (λ o. IsReady (d ∷ cs) (b ∷ old) (inner_of o) at) (sym e) r.2,
)

-- behind the last coordinate there is none
pub path-end : (c : Schema) (cs : List Schema) (a : ArenaState) (old : List ArenaState) (st : Structure) (n : ℕ) (at : List ℕ) → cs ≡ []
    → IsReady (c ∷ cs) (a ∷ old) st (n ∷ at) → at ≡ []
path-end c [] a old st n at e r = r.2.1
path-end c (d ∷ cs) a old st n at e r = cc
