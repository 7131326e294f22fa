-- Lists in which one element is set.
use Rattle.std.proofs.Common.{◌≡◌, ◌≢◌, ◌<◌, ◌⊎◌, inl, inr, ℕ, Bool, true, false, eqb, ltb, cond, List, [], ◌∷◌, ◌++◌, Option, Some, None, refl, ap, ◌∙◌, sym, subst, arith}
use Rattle.std.proofs.lemmas.Bool.Decides.{eqb_tells}
use Rattle.node_arena.specs.declared.elements.Elem.{Elem}
use Rattle.node_arena.specs.declared.elements.Structure.{Structure}
use Rattle.node_arena.specs.declared.kinds.NodeKind.{NodeKind}
use Rattle.node_arena.specs.Arenas.{ArenaState}
use Rattle.node_arena.specs.Conforming.{IsRising}
use Rattle.node_arena.specs.Insertions.{put_in, Lacks, IsPutIn}
use Rattle.node_arena.specs.Structures.{Tree, walk_of, IsStanding, IsConforming}
use Rattle.node_arena.proofs.ChangesLemmas.{Keeps-only, TakesNew-only, Keeps-same, TakesNew-same}
use Rattle.node_arena.proofs.PutInLemmas.{AllBelow, AllBelow-rising, IsRising-suffix, Lacks-low}
use Rattle.iter_gen.specs.LookingUp.{elem_with}
use Rattle.iter_gen.proofs.WalkersLemmas.{conforms-rising}
use Rattle.insert_gen.specs.Replacing.{Exchanges, IsReplacedIn, IsThere}
use Rattle.nested_modes.specs.Putting.{SetsElem, IsSetIn, IsElemAt}

-- ---- what is found

-- the first element
abbrev pub first_of : List Elem → Option Elem
first_of [] = None
first_of (e ∷ es) = Some e

some-same : (x y : Elem) → Some x ≡ Some y → x ≡ y
some-same x y e = cc

-- a test that is true
found-true : (z : Elem) (zs : List Elem) (n : ℕ) → eqb z.at n ≡ true → elem_with n (z ∷ zs) ≡ Some z
found-true z zs n t = ap (λ b. cond b (Some z) (elem_with n zs)) t

found-false : (z : Elem) (zs : List Elem) (n : ℕ) → eqb z.at n ≡ false → elem_with n (z ∷ zs) ≡ elem_with n zs
found-false z zs n t = ap (λ b. cond b (Some z) (elem_with n zs)) t

-- an element that is found has the coordinate
pub found-at : (n : ℕ) (es : List Elem) (e : Elem) → elem_with n es ≡ Some e → e.at ≡ n
found-at n [] e h = cc
found-at n (z ∷ zs) e h = pick (eqb_tells z.at n) (λ g. found-at n zs e g)
  where
    pick : ((eqb z.at n ≡ true) × (z.at ≡ n)) ⊎ ((eqb z.at n ≡ false) × (z.at ≢ n)) → (elem_with n zs ≡ Some e → e.at ≡ n) → e.at ≡ n
    pick (inl q) f = ap (λ v. v.at) (sym (some-same z e (sym (found-true z zs n q.0) ∙ h))) ∙ q.1
    pick (inr q) f = f (sym (found-false z zs n q.0) ∙ h)

-- coordinate and what is held make the element
pub elem-same : (x y : Elem) → x.at ≡ y.at → x.held ≡ y.held → x ≡ y
elem-same x y e f = let one : x ≡ record x { at = y.at } = ap (λ n. record x { at = n }) e in one ∙ ap (λ h. record y { held = h }) f

-- where no element is found, the coordinate isn't there
pub Lacks-none : (n : ℕ) (es : List Elem) → elem_with n es ≡ None → Lacks n es
Lacks-none n [] h = tt
Lacks-none n (z ∷ zs) h = pick (eqb_tells z.at n) (λ g. Lacks-none n zs g)
  where
    pick : ((eqb z.at n ≡ true) × (z.at ≡ n)) ⊎ ((eqb z.at n ≡ false) × (z.at ≢ n)) → (elem_with n zs ≡ None → Lacks n zs) → Lacks n (z ∷ zs)
    pick (inl q) f = let here : Some z ≡ None = sym (found-true z zs n q.0) ∙ h in cc
    pick (inr q) f = (q.1, f (sym (found-false z zs n q.0) ∙ h))

-- behind elements that lack the coordinate it is sought in the rest
pub elem_with-past : (n : ℕ) (xs ys : List Elem) → Lacks n xs → elem_with n (xs ++ ys) ≡ elem_with n ys
elem_with-past n [] ys h = refl
elem_with-past n (z ∷ zs) ys h = pick (eqb_tells z.at n) (elem_with-past n zs ys h.1)
  where
    pick : ((eqb z.at n ≡ true) × (z.at ≡ n)) ⊎ ((eqb z.at n ≡ false) × (z.at ≢ n)) → elem_with n (zs ++ ys) ≡ elem_with n ys
        → elem_with n (z ∷ zs ++ ys) ≡ elem_with n ys
    pick (inl q) f = absurd (h.0 q.1)
    pick (inr q) f = found-false z (zs ++ ys) n q.0 ∙ f

-- an element with the coordinate comes first
pub elem_with-here : (n : ℕ) (x : Elem) (xs : List Elem) → x.at ≡ n → elem_with n (x ∷ xs) ≡ Some x
elem_with-here n x xs e = pick (eqb_tells x.at n)
  where
    pick : ((eqb x.at n ≡ true) × (x.at ≡ n)) ⊎ ((eqb x.at n ≡ false) × (x.at ≢ n)) → elem_with n (x ∷ xs) ≡ Some x
    pick (inl q) = found-true x xs n q.0
    pick (inr q) = absurd (q.1 e)

elem_with-lacks : (n : ℕ) (xs : List Elem) → Lacks n xs → elem_with n xs ≡ None
elem_with-lacks n [] h = refl
elem_with-lacks n (z ∷ zs) h = pick (eqb_tells z.at n) (elem_with-lacks n zs h.1)
  where
    pick : ((eqb z.at n ≡ true) × (z.at ≡ n)) ⊎ ((eqb z.at n ≡ false) × (z.at ≢ n)) → elem_with n zs ≡ None → elem_with n (z ∷ zs) ≡ None
    pick (inl q) f = absurd (h.0 q.1)
    pick (inr q) f = found-false z zs n q.0 ∙ f

was-found : (n : ℕ) (was after : List Elem) → IsElemAt n was → Lacks n after → elem_with n (was ++ after) ≡ first_of was
was-found n [] after one h = elem_with-lacks n after h
was-found n (e ∷ es) after one h = elem_with-here n e (es ++ after) one.0

-- the element that was there before is the one whose place is taken
pub elem_with-old : (x : Elem) (old new : List Elem) (g : SetsElem x old new) → elem_with x.at old ≡ first_of g.was
elem_with-old x old new g =
    ap (elem_with x.at) g.old_is ∙ elem_with-past x.at g.before (g.was ++ g.after) g.lacks_before ∙ was-found x.at g.was g.after g.one g.lacks_after

-- the element that is set is found
pub elem_with-new : (x : Elem) (old new : List Elem) → SetsElem x old new → elem_with x.at new ≡ Some x
elem_with-new x old new g =
    ap (elem_with x.at) g.new_is ∙ elem_with-past x.at g.before (x ∷ g.after) g.lacks_before ∙ elem_with-here x.at x g.after refl

skip : (m : ℕ) (e : Elem) (es : List Elem) → e.at ≢ m → elem_with m (e ∷ es) ≡ elem_with m es
skip m e es h = pick (eqb_tells e.at m)
  where
    pick : ((eqb e.at m ≡ true) × (e.at ≡ m)) ⊎ ((eqb e.at m ≡ false) × (e.at ≢ m)) → elem_with m (e ∷ es) ≡ elem_with m es
    pick (inl q) = absurd (h q.1)
    pick (inr q) = found-false e es m q.0

before-same : (m : ℕ) (xs ys zs : List Elem) → elem_with m ys ≡ elem_with m zs → elem_with m (xs ++ ys) ≡ elem_with m (xs ++ zs)
before-same m [] ys zs e = e
before-same m (x ∷ xs) ys zs e = ap (λ o. cond (eqb x.at m) (Some x) o) (before-same m xs ys zs e)

skip-was : (m n : ℕ) (was after : List Elem) → IsElemAt n was → m ≢ n → elem_with m (was ++ after) ≡ elem_with m after
skip-was m n [] after one h = refl
skip-was m n (e ∷ []) after one h = skip m e after (λ same. h (sym same ∙ one.0))
skip-was m n (e ∷ z ∷ zs) after one h = cc (one.1)

-- at another coordinate the same element is found as before, one of those that stay
pub elem_with-rest : (m : ℕ) (x : Elem) (old new : List Elem) (g : SetsElem x old new) → m ≢ x.at → elem_with m old ≡ elem_with m (g.before ++ g.after)
elem_with-rest m x old new g h =
    ap (elem_with m) g.old_is ∙ before-same m g.before (g.was ++ g.after) g.after (skip-was m x.at g.was g.after g.one h)

-- an element that is set is not found at another coordinate: what was there is still there
pub elem_with-other : (m : ℕ) (x : Elem) (old new : List Elem) → SetsElem x old new → m ≢ x.at → elem_with m new ≡ elem_with m old
elem_with-other m x old new g h =
    ap (elem_with m) g.new_is ∙ before-same m g.before (x ∷ g.after) g.after (skip m x g.after (λ same. h (sym same))) ∙ sym (elem_with-rest m x old new g h)

-- ---- an element is put in

put-step : (x e : Elem) (es : List Elem) (b : Bool) → Lacks x.at (e ∷ es) → SetsElem x es (put_in x es)
    → SetsElem x (e ∷ es) (cond b (e ∷ put_in x es) (x ∷ e ∷ es))
put-step x e es true h g = record {
  before = e ∷ g.before;
  was = g.was;
  after = g.after;
  old_is = ap (λ l. e ∷ l) g.old_is;
  one = g.one;
  new_is = ap (λ l. e ∷ l) g.new_is;
  lacks_before = (h.0, g.lacks_before);
  lacks_after = g.lacks_after;
}
put-step x e es false h g = record {
  before = [];
  was = [];
  after = e ∷ es;
  old_is = refl;
  one = tt;
  new_is = refl;
  lacks_before = tt;
  lacks_after = h;
}

-- an element with a new coordinate is set where it is put in
pub SetsElem-put_in : (x : Elem) (es : List Elem) → Lacks x.at es → SetsElem x es (put_in x es)
SetsElem-put_in x [] h = record { before = []; was = []; after = []; old_is = refl; one = tt; new_is = refl; lacks_before = tt; lacks_after = tt }
SetsElem-put_in x (e ∷ es) h = put-step x e es (ltb e.at x.at) h (SetsElem-put_in x es h.1)

-- ---- an element is exchanged

Lacks-below : (n : ℕ) (es : List Elem) → AllBelow n es → Lacks n es
Lacks-below n [] h = tt
Lacks-below n (e ∷ es) h = ((λ same. let l : e.at < n = h.0 in omega arith), Lacks-below n es h.1)

-- an element whose place is taken in a list that rises
pub SetsElem-exchange : (x : Elem) (old new : List Elem) → IsRising old → Exchanges x old new → SetsElem x old new
SetsElem-exchange x old new h c =
    let up : IsRising (c.before ++ c.elem ∷ c.after) = subst IsRising c.was h in
    let at : c.elem.at ≡ x.at = c.same_at in
    record {
      before = c.before;
      was = c.elem ∷ [];
      after = c.after;
      old_is = c.was;
      one = (c.same_at, refl);
      new_is = c.is;
      lacks_before = Lacks-below x.at c.before (AllBelow-rising x.at c.before c.elem c.after up (omega arith));
      lacks_after = Lacks-low x.at c.elem.at c.after (IsRising-suffix c.before (c.elem ∷ c.after) up) (omega arith);
    }

-- an element that is there stands in its own place
pub Exchanges-found : (x : Elem) (es : List Elem) → elem_with x.at es ≡ Some x → Exchanges x es es
Exchanges-found x [] h = cc
Exchanges-found x (z ∷ zs) h = pick (eqb_tells z.at x.at) (λ g. Exchanges-found x zs g)
  where
    pick : ((eqb z.at x.at ≡ true) × (z.at ≡ x.at)) ⊎ ((eqb z.at x.at ≡ false) × (z.at ≢ x.at)) → (elem_with x.at zs ≡ Some x → Exchanges x zs zs)
        → Exchanges x (z ∷ zs) (z ∷ zs)
    pick (inl q) f =
        let same : z ≡ x = some-same z x (sym (found-true z zs x.at q.0) ∙ h) in
        record { before = []; elem = z; after = zs; was = refl; same_at = q.1; is = ap (λ e. e ∷ zs) same }
    pick (inr q) f =
        let r = f (sym (found-false z zs x.at q.0) ∙ h) in
        record {
          before = z ∷ r.before;
          elem = r.elem;
          after = r.after;
          was = ap (λ l. z ∷ l) r.was;
          same_at = r.same_at;
          is = ap (λ l. z ∷ l) r.is;
        }

-- ---- structures

module _ (s : List NodeKind) (k : ℕ) (a b : ArenaState) (x : Elem) (t : Tree) (st now : Structure) where
  -- an element is put in
  pub IsSetIn-put : Lacks x.at (walk_of s t) → IsPutIn s k a b x t now → IsSetIn s k a b x t now
  IsSetIn-put h p = record {
    tree = p.tree;
    stands = p.stands;
    conforms = p.conforms;
    sets = subst (λ l. SetsElem x (walk_of s t) l) (sym p.walk_is) (SetsElem-put_in x (walk_of s t) h);
    keeps = Keeps-only a b t p.tree p.only;
    news = TakesNew-only a b t p.tree p.only;
  }

  -- an element is replaced
  pub IsSetIn-replaced : IsConforming s k st t → IsReplacedIn s k a b x t now → IsSetIn s k a b x t now
  IsSetIn-replaced h r = record {
    tree = r.tree;
    stands = r.stands;
    conforms = r.conforms;
    sets = SetsElem-exchange x (walk_of s t) (walk_of s r.tree) (conforms-rising s k st t h) r.exchanges;
    keeps = r.keeps;
    news = r.news;
  }

-- an element is there already
pub IsSetIn-same : (s : List NodeKind) (k : ℕ) (a : ArenaState) (x : Elem) (t : Tree) (st : Structure) → IsStanding s a st t → IsConforming s k st t
    → elem_with x.at (walk_of s t) ≡ Some x → IsSetIn s k a a x t st
IsSetIn-same s k a x t st h c e = record {
  tree = t;
  stands = h;
  conforms = c;
  sets = SetsElem-exchange x (walk_of s t) (walk_of s t) (conforms-rising s k st t c) (Exchanges-found x (walk_of s t) e);
  keeps = Keeps-same a t;
  news = TakesNew-same a t;
}

-- an element that is found is there
pub IsThere-found : (n : ℕ) (es : List Elem) (e : Elem) → elem_with n es ≡ Some e → IsThere n es
IsThere-found n es e h = λ none. let both : Some e ≡ None = sym h ∙ none in cc
