-- What comes behind elements of a node.
use Rattle.std.proofs.Common.{◌≡◌, ◌≤◌, ◌<◌, ◌+◌, ◌-◌, ℕ, zero, suc, List, [], ◌∷◌}
use Rattle.std.proofs.Common.{◌++◌, map, length, drop, get_or, refl, ap, ◌∙◌, sym, subst, arith}
use Rattle.std.specs.Option.{option_map}
use Rattle.node_arena.specs.declared.elements.Elem.{Elem}
use Rattle.node_arena.specs.declared.kinds.Shape.{Shape}
use Rattle.node_arena.specs.declared.kinds.Shape.TheVariants.{Flat, Post, Ends, Woven}
use Rattle.node_arena.specs.Walks.{Part, item, link, parts, between, weave}
use Rattle.iter_gen.specs.Acts.{HasAllLinks}
use Rattle.iter_gen.specs.Behind.{behind, first_link, past_link, BeginsWithItems, IsCalm, items}
use Rattle.iter_gen.specs.Frames.{part_map}

-- ---- another thing at each link

module _ {L M : Type 0} (f : L → M) where
  pub behind-map : (n : ℕ) (ps : List (Part L)) → behind n (map (part_map f) ps) ≡ map (part_map f) (behind n ps)
  behind-map zero ps = refl
  behind-map (suc n) [] = refl
  behind-map (suc n) (item e ∷ ps) = behind-map n ps
  behind-map (suc n) (link l ∷ ps) = behind-map (suc n) ps

  pub first_link-map : (ps : List (Part L)) → first_link (map (part_map f) ps) ≡ option_map f (first_link ps)
  first_link-map [] = refl
  first_link-map (item e ∷ ps) = refl
  first_link-map (link l ∷ ps) = refl

  pub past_link-map : (ps : List (Part L)) → past_link (map (part_map f) ps) ≡ map (part_map f) (past_link ps)
  past_link-map [] = refl
  past_link-map (item e ∷ ps) = refl
  past_link-map (link l ∷ ps) = refl

  -- as many elements come first
  pub BeginsWithItems-map : (n : ℕ) (ps : List (Part L)) → BeginsWithItems n (map (part_map f) ps) → BeginsWithItems n ps
  BeginsWithItems-map zero ps b = tt
  BeginsWithItems-map (suc n) [] b = b
  BeginsWithItems-map (suc n) (item e ∷ ps) b = BeginsWithItems-map n ps b
  BeginsWithItems-map (suc n) (link l ∷ ps) b = b

  map-items : (xs : List Elem) (ps : List (Part L)) (qs : List (Part M)) → map (part_map f) ps ≡ qs
      → map (part_map f) (map item xs ++ ps) ≡ map item xs ++ qs
  map-items [] ps qs e = e
  map-items (x ∷ xs) ps qs e = ap (λ r. item x ∷ r) (map-items xs ps qs e)

  map-run : (xs : List Elem) → map (part_map f) (map item xs) ≡ map item xs
  map-run [] = refl
  map-run (x ∷ xs) = ap (λ r. item x ∷ r) (map-run xs)

  map-links : (ls : List L) → map (part_map f) (map link ls) ≡ map link (map f ls)
  map-links [] = refl
  map-links (l ∷ ls) = ap (λ r. link (f l) ∷ r) (map-links ls)

  map-between : (run : List Elem) (ls : List L) → map (part_map f) (between run ls) ≡ between run (map f ls)
  map-between run [] = map-run run
  map-between run (l ∷ ls) = ap (λ r. link (f l) ∷ r) (map-items run (map link ls) (map link (map f ls)) (map-links ls))

  map-weave : (run : List Elem) (ls : List L) → map (part_map f) (weave run ls) ≡ weave run (map f ls)
  map-weave [] ls = map-links ls
  map-weave (x ∷ xs) [] = ap (λ r. item x ∷ r) (map-weave xs [])
  map-weave (x ∷ xs) (l ∷ ls) = ap (λ r. link (f l) ∷ item x ∷ r) (map-weave xs ls)

  -- the parts keep their order whatever hangs at the links
  pub map-parts : (shape : Shape) (run : List Elem) (ls : List L) → map (part_map f) (parts shape run ls) ≡ parts shape run (map f ls)
  map-parts Flat run ls = map-items run (map link ls) (map link (map f ls)) (map-links ls)
  map-parts (Post p) run ls = map-items run (map link ls) (map link (map f ls)) (map-links ls)
  map-parts (Ends p q) run ls = map-between run ls
  map-parts Woven run ls = map-weave run ls

-- ---- the elements of the parts

module _ {L : Type 0} where
  items-links : (ls : List L) → items (map link ls) ≡ []
  items-links [] = refl
  items-links (l ∷ ls) = items-links ls

  items-run : (run : List Elem) (ls : List L) → items (map item run ++ map link ls) ≡ run
  items-run [] ls = items-links ls
  items-run (x ∷ run) ls = ap (λ r. x ∷ r) (items-run run ls)

  items-between : (run : List Elem) (ls : List L) → items (between run ls) ≡ run
  items-between [] [] = refl
  items-between (x ∷ run) [] = ap (λ r. x ∷ r) (items-between run [])
  items-between run (l ∷ ls) = items-run run ls

  items-weave : (run : List Elem) (ls : List L) → items (weave run ls) ≡ run
  items-weave [] ls = items-links ls
  items-weave (x ∷ run) [] = ap (λ r. x ∷ r) (items-weave run [])
  items-weave (x ∷ run) (l ∷ ls) = ap (λ r. x ∷ r) (items-weave run ls)

  -- the elements of a node's parts are its run
  pub items-parts : (shape : Shape) (run : List Elem) (ls : List L) → items (parts shape run ls) ≡ run
  items-parts Flat run ls = items-run run ls
  items-parts (Post p) run ls = items-run run ls
  items-parts (Ends p q) run ls = items-between run ls
  items-parts Woven run ls = items-weave run ls

  -- behind n elements, and a link, comes element n
  pub past_link-item : (n : ℕ) (ps : List (Part L)) (d : Elem) → IsCalm ps → n < length (items ps)
      → past_link (behind n ps) ≡ item (get_or (items ps) n d) ∷ behind (suc n) ps
  past_link-item n [] d c l = absurd (omega arith)
  past_link-item zero (item e ∷ ps) d c l = refl
  past_link-item (suc n) (item e ∷ ps) d c l = past_link-item n ps d c (omega arith)
  past_link-item n (link t ∷ []) d c l = absurd (omega arith)
  past_link-item zero (link t ∷ item e ∷ ps) d c l = refl
  past_link-item (suc n) (link t ∷ item e ∷ ps) d c l = past_link-item n ps d c (omega arith)
  past_link-item n (link t ∷ link u ∷ ps) d c l = absurd c

  -- behind all elements, and a link, comes nothing
  pub past_link-end : (n : ℕ) (ps : List (Part L)) → IsCalm ps → length (items ps) ≤ n → past_link (behind n ps) ≡ []
  past_link-end zero [] c l = refl
  past_link-end (suc n) [] c l = refl
  past_link-end zero (item e ∷ ps) c l = absurd (omega arith)
  past_link-end (suc n) (item e ∷ ps) c l = past_link-end n ps c (omega arith)
  past_link-end zero (link t ∷ []) c l = refl
  past_link-end (suc n) (link t ∷ []) c l = refl
  past_link-end zero (link t ∷ item e ∷ ps) c l = absurd (omega arith)
  past_link-end (suc n) (link t ∷ item e ∷ ps) c l = past_link-end n ps c (omega arith)
  past_link-end n (link t ∷ link u ∷ ps) c l = absurd c

  -- where an element comes next, no link does
  pub past_link-begins : (n : ℕ) (ps : List (Part L)) → BeginsWithItems (suc n) ps → past_link ps ≡ ps
  past_link-begins n [] b = absurd b
  past_link-begins n (item e ∷ ps) b = refl
  past_link-begins n (link l ∷ ps) b = absurd b

-- ---- a run, and links behind

length-drop : (n : ℕ) (run : List Elem) → length (drop n run) ≡ length run - n
length-drop zero run = omega arith
length-drop (suc n) [] = omega arith
length-drop (suc n) (x ∷ run) = let ih : length (drop n run) ≡ length run - n = length-drop n run in omega arith

module _ {L : Type 0} where
  behind-run : (n : ℕ) (run : List Elem) (qs : List (Part L)) → n ≤ length run → behind n (map item run ++ qs) ≡ map item (drop n run) ++ qs
  behind-run zero run qs l = refl
  behind-run (suc n) [] qs l = absurd (omega arith)
  behind-run (suc n) (x ∷ run) qs l = behind-run n run qs (omega arith)

  begins-run : (run : List Elem) (qs : List (Part L)) → BeginsWithItems (length run) (map item run ++ qs)
  begins-run [] qs = tt
  begins-run (x ∷ run) qs = begins-run run qs

  past-run : (run : List Elem) (qs : List (Part L)) → 0 < length run → past_link (map item run ++ qs) ≡ map item run ++ qs
  past-run [] qs l = absurd (omega arith)
  past-run (x ∷ run) qs l = refl

  straight-run : (n : ℕ) (run : List Elem) (qs : List (Part L)) → n < length run
      → BeginsWithItems (length run - n) (past_link (behind n (map item run ++ qs)))
  straight-run n run qs l =
      let len : length (drop n run) ≡ length run - n = length-drop n run in
      let e : past_link (behind n (map item run ++ qs)) ≡ map item (drop n run) ++ qs =
      ap past_link (behind-run n run qs (omega arith)) ∙ past-run (drop n run) qs (omega arith) in
      subst (BeginsWithItems (length run - n)) (sym e) (subst (λ m. BeginsWithItems m (map item (drop n run) ++ qs)) len (begins-run (drop n run) qs))

  weave-bare : (run : List Elem) → weave {L = L} run [] ≡ map item run ++ []
  weave-bare [] = refl
  weave-bare (x ∷ run) = ap (λ r. item x ∷ r) (weave-bare run)

  between-bare : (run : List Elem) → between {L = L} run [] ≡ map item run ++ []
  between-bare [] = refl
  between-bare (x ∷ run) = ap (λ r. item x ∷ r) (between-bare run)

-- ---- links and elements in turns

module _ {L : Type 0} where
  calm-run : (run : List Elem) (l : L) → IsCalm (map item run ++ link l ∷ [])
  calm-run [] l = tt
  calm-run (x ∷ run) l = calm-run run l

  calm-none : (run : List Elem) (qs : List (Part L)) → qs ≡ [] → IsCalm (map item run ++ qs)
  calm-none [] qs e = subst IsCalm (sym e) tt
  calm-none (x ∷ run) qs e = calm-none run qs e

  calm-weave : (run : List Elem) (ls : List L) → length ls ≡ length run + 1 → IsCalm (weave run ls)
  calm-weave run [] h = absurd (omega arith)
  calm-weave [] (l ∷ []) h = tt
  calm-weave [] (l ∷ m ∷ ls) h = absurd (omega arith)
  calm-weave (x ∷ run) (l ∷ ls) h = calm-weave run ls (omega arith)

  -- a node with some elements and the links of its shape has no link right behind a link
  pub calm-parts : (shape : Shape) (run : List Elem) (ls : List L) → 1 ≤ length run → HasAllLinks shape run ls → IsCalm (parts shape run ls)
  calm-parts Flat run [] l h = calm-none run [] refl
  calm-parts Flat run (m ∷ ls) l h = absurd (omega arith)
  calm-parts (Post p) run [] l h = absurd (omega arith)
  calm-parts (Post p) run (m ∷ []) l h = calm-run run m
  calm-parts (Post p) run (m ∷ n ∷ ls) l h = absurd (omega arith)
  calm-parts (Ends p q) [] ls l h = absurd (omega arith)
  calm-parts (Ends p q) (x ∷ run) [] l h = absurd (omega arith)
  calm-parts (Ends p q) (x ∷ run) (m ∷ []) l h = absurd (omega arith)
  calm-parts (Ends p q) (x ∷ run) (m ∷ n ∷ []) l h = calm-run run n
  calm-parts (Ends p q) (x ∷ run) (m ∷ n ∷ o ∷ ls) l h = absurd (omega arith)
  calm-parts Woven run [] l h = subst IsCalm (sym (weave-bare run)) (calm-none run [] refl)
  calm-parts Woven run (m ∷ ls) l h = calm-weave run (m ∷ ls) h

  -- where it isn't woven, all elements of a node from one on follow one another
  pub straight-all : (shape : Shape) (n : ℕ) (run : List Elem) (ls : List L) → (shape ≡ Woven → ⊥) → n < length run
      → BeginsWithItems (length run - n) (past_link (behind n (parts shape run ls)))
  straight-all Flat n run ls w l = straight-run n run (map link ls) l
  straight-all (Post p) n run ls w l = straight-run n run (map link ls) l
  straight-all (Ends p q) n run [] w l =
      subst (λ ps. BeginsWithItems (length run - n) (past_link (behind n ps))) (sym (between-bare {L = L} run)) (straight-run n run [] l)
  straight-all (Ends p q) zero run (m ∷ ls) w l = let e : length run - 0 ≡ length run = omega arith in
      rw e (begins-run run (map link ls))
  straight-all (Ends p q) (suc n) run (m ∷ ls) w l = straight-run (suc n) run (map link ls) l
  straight-all Woven n run ls w l = absurd (w refl)

  -- so do those of a woven node without children
  pub straight-bare : (n : ℕ) (run : List Elem) (ls : List L) → length ls ≡ 0 → n < length run
      → BeginsWithItems (length run - n) (past_link (behind n (weave run ls)))
  straight-bare n run [] h l =
      subst (λ ps. BeginsWithItems (length run - n) (past_link (behind n ps))) (sym (weave-bare {L = L} run)) (straight-run n run [] l)
  straight-bare n run (m ∷ ls) h l = absurd (omega arith)

  -- one element always follows
  pub straight-one : (shape : Shape) (n : ℕ) (run : List Elem) (ls : List L) → HasAllLinks shape run ls → n < length run
      → BeginsWithItems 1 (past_link (behind n (parts shape run ls)))
  straight-one shape n [] ls h l = absurd (omega arith)
  straight-one shape n (x ∷ run) ls h l =
      let e : items (parts shape (x ∷ run) ls) ≡ x ∷ run = items-parts shape (x ∷ run) ls in
      let len : length (items (parts shape (x ∷ run) ls)) ≡ length (x ∷ run) = ap length e in
      subst (BeginsWithItems 1) (sym (past_link-item n (parts shape (x ∷ run) ls) x (calm-parts shape (x ∷ run) ls (omega arith) h) (omega arith))) tt

-- the same of a node of this shape with that many elements
module _ {L : Type 0} (shape : Shape) (n len : ℕ) (run : List Elem) (ls : List L) where
  pub straight-others : (shape ≡ Woven → ⊥) → n < len → length run ≡ len → BeginsWithItems (len - n) (past_link (behind n (parts shape run ls)))
  straight-others w l e = subst (λ k. BeginsWithItems (k - n) (past_link (behind n (parts shape run ls)))) e (straight-all shape n run ls w (omega (arith, e)))

  pub straight-woven : shape ≡ Woven → length ls ≡ 0 → n < len → length run ≡ len → BeginsWithItems (len - n) (past_link (behind n (parts shape run ls)))
  straight-woven w h l e =
      subst (λ sh. BeginsWithItems (len - n) (past_link (behind n (parts sh run ls)))) (sym w)
      (subst (λ k. BeginsWithItems (k - n) (past_link (behind n (weave run ls)))) e (straight-bare n run ls h (omega (arith, e))))

  pub straight-next : HasAllLinks shape run ls → n < len → length run ≡ len → BeginsWithItems (n + 1 - n) (past_link (behind n (parts shape run ls)))
  straight-next h l e =
      let one : 1 ≡ n + 1 - n = omega arith in
      subst (λ k. BeginsWithItems k (past_link (behind n (parts shape run ls)))) one (straight-one shape n run ls h (omega (arith, e)))
