-- Two beginnings of one history, and the longer of them.
use Rattle.std.proofs.Common.{drop, ◌≡◌, ◌⊎◌, List, [], ◌∷◌, ◌++◌, sym, refl, ap, subst, ⊎_elim, inl, inr}
use Rattle.std.proofs.lemmas.List.{append-nil}
use Rattle.dt_model.specs.declared.calls.Entry.{Entry}
use Rattle.fiber_latch.specs.Views.{In}
use Rattle.fiber_latch.specs.Steps.{longer}

-- an element of the first list is one of both
pub in_left : {A : Type 0} (e : A) (xs ys : List A) → In e xs → In e (xs ++ ys)
in_left e [] ys i = absurd i
in_left e (x ∷ xs) ys i = ⊎_elim (λ (h : e ≡ x). inl h) (λ (h : In e xs). inr (in_left e xs ys h)) i

-- an element of the second list is one of both
pub in_right : {A : Type 0} (e : A) (xs ys : List A) → In e ys → In e (xs ++ ys)
in_right e [] ys i = i
in_right e (x ∷ xs) ys i = inr (in_right e xs ys i)

-- an element of both lists is one of the first or of the second
pub in_append : {A : Type 0} (e : A) (xs ys : List A) → In e (xs ++ ys) → In e xs ⊎ In e ys
in_append e [] ys i = inr i
in_append e (x ∷ xs) ys i = ⊎_elim (λ (h : e ≡ x). inl (inl h)) (λ (h : In e (xs
    ++ ys)). ⊎_elim (λ (a : In e xs). inl (inr a)) (λ (b : In e ys). inr b) (in_append e xs ys h)) i

-- a list without elements is empty
pub none_in : {A : Type 0} (xs : List A) → ((e : A) → In e xs → ⊥) → xs ≡ []
none_in [] n = refl
none_in (x ∷ xs) n = absurd (n x (inl refl))

-- two beginnings of one history, with r1 and r2 behind them: the longer one, what comes behind it, and what comes between
pub record Longer (a b r1 r2 : List Entry) : Type 0 where
  pub rest : List Entry
  pub whole : a ++ r1 ≡ longer a b ++ rest
  pub in_rest : (e : Entry) → In e rest → In e r1 × In e r2
  pub past_a : (m : List Entry) × (longer a b ≡ a ++ m) × ((e : Entry) → In e m → In e r1)
  pub past_b : (m : List Entry) × (longer a b ≡ b ++ m) × ((e : Entry) → In e m → In e r2)
  pub one : (longer a b ≡ a) ⊎ (longer a b ≡ b)

-- of two beginnings of one history, the longer one
pub longer_is : (a b r1 r2 : List Entry) → a ++ r1 ≡ b ++ r2 → Longer a b r1 r2
longer_is [] b r1 r2 e = record {
  rest = r2;
  whole = e;
  in_rest = λ x i. (subst (In x) (sym e) (in_right x b r2 i), i);
  past_a = (b, refl, λ x i. subst (In x) (sym e) (in_left x b r2 i));
  past_b = ([], sym (append-nil b), λ x i. absurd i);
  one = inr refl;
}
longer_is (x ∷ xs) [] r1 r2 e = record {
  rest = r1;
  whole = refl;
  in_rest = λ y i. (i, subst (In y) e (in_right y (x ∷ xs) r1 i));
  past_a = ([], sym (append-nil (x ∷ xs)), λ y i. absurd i);
  past_b = (x ∷ xs, refl, λ y i. subst (In y) e (in_left y (x ∷ xs) r1 i));
  one = inl refl;
}
longer_is (x ∷ xs) (y ∷ ys) r1 r2 e =
    let l = longer_is xs ys r1 r2 (ap (λ (xs : List Entry). drop 1 xs) e) in
    let same : x ≡ y = cc in
    record {
      rest = l.rest;
      whole = ap (λ t. x ∷ t) l.whole;
      in_rest = l.in_rest;
      past_a = (l.past_a.0, ap (λ t. x ∷ t) l.past_a.1, l.past_a.2);
      past_b = (l.past_b.0, (λ i. same i ∷ l.past_b.1 i), l.past_b.2);
      one = ⊎_elim (λ (h : longer xs ys ≡ xs). inl (ap (λ t. x ∷ t) h)) (λ (h : longer xs ys ≡ ys). inr (λ i. same i ∷ h i)) l.one;
    }
