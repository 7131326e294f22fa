-- Whether bytes are UTF-8, as a test and as a fact.
use Rattle.std.proofs.Common.{◌≡◌, ◌≤◌, ◌∙◌, ap, Bool, true, false, ℕ, List, length, refl, sym, arith, Option, Some, None}
use Rattle.std.specs.Prelude.{IsTrue, ◌&&◌, nat_le, if◌then◌else◌}
use Rattle.std.proofs.lemmas.Bool.Decides.{nat_tests}
use Rattle.std.specs.Str.{IsUtf8, is_utf8}
use Rattle.std.proofs.lemmas.Str.{is_utf8-from_IsUtf8, IsUtf8-from_is_utf8}
use Rattle.std.proofs.lemmas.Option.{none-some}
use Rattle.dt_model.specs.FileNames.{is_file_name}

-- UTF-8 passes the test
pub utf8-true : (bs : List ℕ) → IsUtf8 bs → true ≡ is_utf8 bs
utf8-true bs h = sym (is_utf8-from_IsUtf8 bs h)

-- what is not UTF-8 fails it
pub utf8-false : (bs : List ℕ) → (IsUtf8 bs → ⊥) → false ≡ is_utf8 bs
utf8-false bs h = elim (is_utf8 bs) as (λ b. is_utf8 bs ≡ b → false ≡ b) [
  | true ↦ λ e. absurd (h (IsUtf8-from_is_utf8 bs e))
  | false ↦ λ e. refl
] refl

-- the bytes of a file's name are UTF-8
pub utf8-from_name : (bs : List ℕ) → IsTrue (is_file_name bs) → IsUtf8 bs
utf8-from_name bs h = IsUtf8-from_is_utf8 bs (last_of (nat_le 1 (length bs)) (nat_le (length bs) 255) (is_utf8 bs) h)
  where
    last_of : (a b c : Bool) → IsTrue (a && b && c) → c ≡ true
    last_of true true true h = refl
    last_of true true false h = cc
    last_of true false c h = cc
    last_of false b c h = cc

-- 1 to 255 bytes of UTF-8 are a file's name
pub name-from_utf8 : (bs : List ℕ) → 1 ≤ length bs → length bs ≤ 255 → IsUtf8 bs → is_file_name bs ≡ true
name-from_utf8 bs low high h =
    let a : nat_le 1 (length bs) ≡ true = grind (arith, nat_tests) in
    let b : nat_le (length bs) 255 ≡ true = grind (arith, nat_tests) in
    rw (a, b, is_utf8-from_IsUtf8 bs h) refl

-- a name is made of bytes that are one
pub always_named : (bs cs : List ℕ) (r : Option (List ℕ)) → cs ≡ bs → is_file_name bs ≡ true → r ≡ (if is_file_name cs then Some cs else None) → r ≡ None → ⊥
always_named bs cs r same is e none = none-some cs (sym none ∙ e ∙ ap (λ b. if b then Some cs else None) (ap is_file_name same ∙ is))
