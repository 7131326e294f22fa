-- Entries of a structure in which one element is set.
use Rattle.std.proofs.Common.{◌≡◌, ◌≢◌, ℕ, List, [], ◌∷◌, ◌++◌, flat_map, refl, ap, ◌∙◌, sym, append_assoc}
use Rattle.std.proofs.lemmas.Grind.{flat_map-append}
use Rattle.std.proofs.lemmas.List.{map-append, append-nil}
use Rattle.std.proofs.lemmas.List.Elements.{All-nil, All-append, All-map}
use Rattle.node_arena.specs.declared.elements.Elem.{Elem}
use Rattle.node_arena.specs.declared.elements.Structure.{Structure}
use Rattle.node_arena.specs.Insertions.{Lacks}
use Rattle.node_arena.specs.Modes.{under, entries_held}
use Rattle.nested_modes.specs.Putting.{LacksEntry, IsEntryAt, PutsEntry, IsElemAt, SetsElem}

abbrev Entries : Type 0
Entries = List (List ℕ × ℕ)

-- the entries of elements
abbrev pub entries_of : (Structure → List (List ℕ × ℕ)) → List Elem → List (List ℕ × ℕ)
entries_of F es = flat_map (λ e. under e.at (entries_held F e.held)) es

-- the entries of what elements hold, without their own coordinates
abbrev pub entries_below : (Structure → List (List ℕ × ℕ)) → List Elem → List (List ℕ × ℕ)
entries_below F es = flat_map (λ e. entries_held F e.held) es

-- ---- below one coordinate

under-lacks : (n : ℕ) (c : List ℕ) (ps : Entries) → LacksEntry c ps → LacksEntry (n ∷ c) (under n ps)
under-lacks n c ps h = All-map (λ p. p.0 ≢ n ∷ c) (λ e. (n ∷ e.0, e.1)) ps (λ k d l same. h k d l (cc (same)))

under-differs : (n m : ℕ) (c : List ℕ) (ps : Entries) → m ≢ n → LacksEntry (n ∷ c) (under m ps)
under-differs n m c ps h = All-map (λ p. p.0 ≢ n ∷ c) (λ e. (m ∷ e.0, e.1)) ps (λ k d l same. h (cc (same)))

under-one : (n : ℕ) (c : List ℕ) (ps : Entries) → IsEntryAt c ps → IsEntryAt (n ∷ c) (under n ps)
under-one n c [] h = tt
under-one n c (p ∷ ps) h = (ap (λ l. n ∷ l) h.0, ap (under n) h.1)

-- elements of other coordinates lack an entry
entries-lacks : (F : Structure → Entries) (n : ℕ) (c : List ℕ) (es : List Elem) → Lacks n es → LacksEntry (n ∷ c) (entries_of F es)
entries-lacks F n c [] h = All-nil (λ p. p.0 ≢ n ∷ c)
entries-lacks F n c (e ∷ es) h =
    All-append (λ p. p.0 ≢ n ∷ c) (under e.at (entries_held F e.held)) (entries_of F es)
    (under-differs n e.at c (entries_held F e.held) h.0) (entries-lacks F n c es h.1)

was-entries : (F : Structure → Entries) (n : ℕ) (was : List Elem) → IsElemAt n was → entries_of F was ≡ under n (entries_below F was)
was-entries F n [] h = refl
was-entries F n (e ∷ []) h =
    append-nil (under e.at (entries_held F e.held)) ∙ ap (λ m. under m (entries_held F e.held)) h.0
    ∙ ap (under n) (sym (append-nil (entries_held F e.held)))
was-entries F n (e ∷ z ∷ zs) h = cc (h.1)

joined : (b i w r a : Entries) → b ++ ((i ++ (w ++ r)) ++ a) ≡ (b ++ i) ++ (w ++ (r ++ a))
joined b i w r a = simp append_assoc

joined-one : (b i r a : Entries) (p : List ℕ × ℕ) → b ++ ((i ++ p ∷ r) ++ a) ≡ (b ++ i) ++ p ∷ (r ++ a)
joined-one b i r a p = simp append_assoc

-- the entries of elements one of which is set
pub PutsEntry-set : (F G : Structure → List (List ℕ × ℕ)) (x : Elem) (c : List ℕ) (v : ℕ) (old new : List Elem) (g : SetsElem x old new)
    → entries_of G g.before ≡ entries_of F g.before → entries_of G g.after ≡ entries_of F g.after
    → PutsEntry c v (entries_below F g.was) (entries_held G x.held) → PutsEntry (x.at ∷ c) v (entries_of F old) (entries_of G new)
PutsEntry-set F G x c v old new g eb ea p =
    let n = x.at in
    let f : Elem → Entries = λ e. under e.at (entries_held F e.held) in
    let h : Elem → Entries = λ e. under e.at (entries_held G e.held) in
    let fb = entries_of F g.before in
    let fa = entries_of F g.after in
    let i = under n p.before in
    let w = under n p.was in
    let r = under n p.after in
    let here : entries_of F g.was ≡ i ++ (w ++ r) =
    was-entries F n g.was g.one ∙ ap (under n) p.old_is ∙ map-append (λ e. (n ∷ e.0, e.1)) p.before (p.was ++ p.after)
    ∙ ap (λ l. i ++ l) (map-append (λ e. (n ∷ e.0, e.1)) p.was p.after) in
    let there : under n (entries_held G x.held) ≡ i ++ (n ∷ c, v) ∷ r =
    ap (under n) p.new_is ∙ map-append (λ e. (n ∷ e.0, e.1)) p.before ((c, v) ∷ p.after) in
    let was : entries_of F old ≡ fb ++ ((i ++ (w ++ r)) ++ fa) =
    ap (entries_of F) g.old_is ∙ flat_map-append f g.before (g.was ++ g.after)
    ∙ ap (λ l. fb ++ l) (flat_map-append f g.was g.after ∙ ap (λ l. l ++ fa) here) in
    let is : entries_of G new ≡ fb ++ ((i ++ (n ∷ c, v) ∷ r) ++ fa) =
    ap (entries_of G) g.new_is ∙ flat_map-append h g.before (x ∷ g.after)
    ∙ ap (λ l. l ++ (under n (entries_held G x.held) ++ entries_of G g.after)) eb
    ∙ ap (λ l. fb ++ (l ++ entries_of G g.after)) there ∙ ap (λ l. fb ++ ((i ++ (n ∷ c, v) ∷ r) ++ l)) ea in
    record {
      before = fb ++ i;
      was = w;
      after = r ++ fa;
      old_is = was ∙ joined fb i w r fa;
      one = under-one n c p.was p.one;
      new_is = is ∙ joined-one fb i r fa (n ∷ c, v);
      lacks_before = All-append (λ q. q.0 ≢ n ∷ c) fb i (entries-lacks F n c g.before g.lacks_before) (under-lacks n c p.before p.lacks_before);
      lacks_after = All-append (λ q. q.0 ≢ n ∷ c) r fa (under-lacks n c p.after p.lacks_after) (entries-lacks F n c g.after g.lacks_after);
    }
