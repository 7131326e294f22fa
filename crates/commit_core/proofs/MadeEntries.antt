-- What the entries have made of the contents, and what the gets among them have read.
use Rattle.std.proofs.Common.{◌≡◌, ℕ, ◌<◌, ◌≤◌, ◌++◌, true, false, List, [], ◌∷◌, length, refl, ap, sym, ◌∙◌, arith, Option, Some, None, zero, suc, take, length-append}
use Rattle.std.specs.Prelude.{◌==◌, if◌then◌else◌, All, AllPairs, slice_get, nat_lt, option_and_then}
use Rattle.std.specs.Option.{option_map}
use Rattle.std.proofs.lemmas.Bool.Decides.{nat_tests}
use Rattle.std.proofs.lemmas.List.{take-append-le}
use Rattle.std.proofs.lemmas.List.Elements.{All-push, All-nil}
use Rattle.std.proofs.lemmas.List.Quantifiers.{all_pairs_push}
use Rattle.std.proofs.lemmas.Option.{slice_get_past}
use Rattle.dt_model.specs.declared.calls.Call.{Call}
use Rattle.dt_model.specs.declared.calls.Call.TheVariants.{Get, Batch, Query}
use Rattle.dt_model.specs.declared.calls.Entry.{Entry}
use Rattle.dt_model.specs.declared.declared_tensors.Decls.{Decls}
use Rattle.dt_model.specs.declared.replies.World.{World}
use Rattle.dt_model.specs.Contents.{Contents}
use Rattle.dt_model.specs.Tensors.{latch_of}
use Rattle.dt_model.specs.Latches.{latch_of_cell}
use Rattle.dt_model.specs.Runs.{restricted_to, call_of, contents_after, base_of, reply_of_entry, reply_to, IsInScriptOrder}
use Rattle.dt_model.proofs.RunsLemmas.{contents_after-push, slice_get-last, reply_of_entry-push}
use Rattle.commit_core.specs.Machine.{content_after}
use Rattle.commit_core.specs.Events.{read_from_latches}
use Rattle.commit_core.specs.State.{reply_in}
use Rattle.commit_core.specs.Sound.{value_in}
use Rattle.commit_core.proofs.MachineLemmas.{content_after-restricted_to}

-- the entries are the World's calls in a rising order, and what they made of the contents and have read
pub record Made (w : World) (content : ℕ → Contents) (history : List Entry) (read : List (Option ℕ)) : Type 0 where
  pub called : All (λ e. call_of w e.turn.session e.turn.number ≡ Some e.call) history
  pub rising : AllPairs IsInScriptOrder history
  pub contents : (l : ℕ) → content l ≡ restricted_to w.decls (contents_after w history) l
  pub counted : length read ≡ length history
  pub replies : (place : ℕ) → reply_in read place ≡ value_in (reply_of_entry w history place)

-- what is added behind leaves each place before it
slice_get-before : {X : Type 0} (xs ys : List X) (i : ℕ) → i < length xs → slice_get (xs ++ ys) i ≡ slice_get xs i
slice_get-before [] ys i l = absurd (omega arith)
slice_get-before (x ∷ xs) ys zero l = refl
slice_get-before (x ∷ xs) ys (suc i) l = slice_get-before xs ys i (omega arith)

same_latch : (n x : ℕ) → (if n == n then x else 0) ≡ x
same_latch n x = let t : (n == n) ≡ true = grind (arith, nat_tests) in rw t refl

-- a get reads in its latch's content what the history makes of its cell
read_is : (d : Decls) (content : ℕ → Contents) (m : Contents) (call : Call) → ((l : ℕ) → content l ≡ restricted_to d m l)
    → read_from_latches d content call ≡ value_in (Some (reply_to d m call))
read_is d content m (Get cell) h = ap Some (ap (λ f. f cell.tensor cell.at) (h (latch_of_cell d cell))
    ∙ same_latch (latch_of d cell.tensor cell.at) (m cell.tensor cell.at))
read_is d content m (Batch updates) h = refl
read_is d content m (Query stmt) h = refl

-- an entry more leaves the replies of those before it
reply_of_entry-before : (w : World) (es : List Entry) (e : Entry) (p : ℕ) → p < length es → reply_of_entry w (es ++ e ∷ []) p ≡ reply_of_entry w es p
reply_of_entry-before w es e p l =
    ap (λ o. option_map (λ x. reply_to w.decls (contents_after w (take p (es ++ e ∷ []))) x.call) o) (slice_get-before es (e ∷ []) p l)
    ∙ ap (λ xs. option_map (λ x. reply_to w.decls (contents_after w xs) x.call) (slice_get es p)) (take-append-le p es (e ∷ []) (omega arith))

-- there is no reply past the last entry
reply_of_entry-past : (w : World) (es : List Entry) (p : ℕ) → length es ≤ p → reply_of_entry w es p ≡ None
reply_of_entry-past w es p l = ap (λ o. option_map (λ x. reply_to w.decls (contents_after w (take p es)) x.call) o) (slice_get_past es p l)

-- what is read by one entry more is what is replied to it
replies_on : (w : World) (history : List Entry) (replies : List (Option ℕ)) (e : Entry) (r : Option ℕ) → length replies ≡ length history
    → ((place : ℕ) → reply_in replies place ≡ value_in (reply_of_entry w history place))
    → r ≡ value_in (Some (reply_to w.decls (contents_after w history) e.call)) → (place : ℕ)
    → reply_in (replies ++ r ∷ []) place ≡ value_in (reply_of_entry w (history ++ e ∷ []) place)
replies_on w history replies e r same old is place = elim (nat_lt place (length history)) as (λ t. nat_lt place (length history) ≡ t
    → reply_in (replies ++ r ∷ []) place ≡ value_in (reply_of_entry w (history ++ e ∷ []) place)) [
      | true ↦ λ t.
          let l : place < length history = grind (arith, nat_tests) in
          ap (λ o. option_and_then (λ x. x) o) (slice_get-before replies (r ∷ []) place (omega arith)) ∙ old place
          ∙ ap value_in (sym (reply_of_entry-before w history e place l))
      | false ↦ λ t. elim (nat_lt (length history) place) as (λ u. nat_lt (length history) place ≡ u → reply_in (replies ++ r ∷ []) place
          ≡ value_in (reply_of_entry w (history ++ e ∷ []) place)) [
            | true ↦ λ u.
                let l : length history < place = grind (arith, nat_tests) in
                ap (λ o. option_and_then (λ x. x) o) (slice_get_past (replies ++ r ∷ []) place (omega (arith, length-append replies (r ∷ []))))
                ∙ ap value_in (sym (reply_of_entry-past w (history ++ e ∷ []) place (omega (arith, length-append history (e ∷ [])))))
            | false ↦ λ u.
                let here : place ≡ length history = grind (arith, nat_tests) in
                ap (λ k. reply_in (replies ++ r ∷ []) k) (here ∙ sym same) ∙ ap (λ o. option_and_then (λ x. x) o) (slice_get-last replies r) ∙ is
                ∙ ap value_in (sym (reply_of_entry-push w history e)) ∙ ap (λ k. value_in (reply_of_entry w (history ++ e ∷ []) k)) (sym here)
          ] refl
    ] refl

-- a commit of the current call
pub Made-commit : (w : World) (content : ℕ → Contents) (history : List Entry) (replies : List (Option ℕ)) (e : Entry)
    → call_of w e.turn.session e.turn.number ≡ Some e.call → All (λ f. f.turn.session ≡ e.turn.session → f.turn.number < e.turn.number) history
    → Made w content history replies → Made w (λ l. content_after w.decls e.call l (content l)) (history ++ e ∷ []) (replies
    ++ read_from_latches w.decls content e.call ∷ [])
Made-commit w content history replies e is above h = record {
  called = All-push (λ x. call_of w x.turn.session x.turn.number ≡ Some x.call) history e h.called is;
  rising = all_pairs_push IsInScriptOrder history e h.rising (λ k d l. above k d l);
  contents = λ l. ap (content_after w.decls e.call l) (h.contents l) ∙ content_after-restricted_to w.decls (contents_after w history) e.call l
      ∙ ap (λ m. restricted_to w.decls m l) (sym (contents_after-push w history e));
  counted = let old = h.counted in omega (arith, length-append replies (read_from_latches w.decls content e.call ∷ []), length-append history (e ∷ []));
  replies = replies_on w history replies e (read_from_latches w.decls content e.call) h.counted h.replies
      (read_is w.decls content (contents_after w history) e.call h.contents);
}

-- nothing is made at the opening
pub Made-initial : (w : World) → Made w (λ l. restricted_to w.decls (base_of w) l) [] []
Made-initial w = record {
  called = All-nil (λ e. call_of w e.turn.session e.turn.number ≡ Some e.call);
  rising = λ i j d low high. absurd (omega arith);
  contents = λ l. refl;
  counted = refl;
  replies = λ place. refl;
}
