-- What is known of what was gathered holds with an item more.
use Rattle.std.proofs.Common.{◌≡◌, ℕ, suc, ◌+◌, ◌<◌, ◌≤◌, true, false, List, [], ◌∷◌, ◌++◌, length, map, refl, ap, sym, ◌∙◌, arith, subst, get_or, set}
use Rattle.std.specs.Prelude.{◌&&◌, ◌==◌, nat_le, nat_eq, sum_by}
use Rattle.std.specs.List.{list_all, list_any}
use Rattle.std.specs.Cmp.Lexicographic.{pointwise}
use Rattle.std.proofs.lemmas.Bool.Decides.{nat_tests}
use Rattle.std.proofs.lemmas.List.{map-append, length-set}
use Rattle.std.proofs.lemmas.List.Elements.{All-push}
use Rattle.std.proofs.lemmas.List.Sums.{sum_by_push, sum_by-set}
use Rattle.std.proofs.lemmas.Grind.{common_steps}
use Rattle.dt_model.specs.declared.declared_tensors.Schema.{Schema}
use Rattle.dt_model.specs.declared.declared_tensors.TensorDecl.{TensorDecl}
use Rattle.dt_model.specs.declared.limits.TheConstants.{MOST_SCHEMAS, MOST_TENSORS, MOST_LATCHES, MOST_SESSIONS, MOST_CALLS, MOST_LINES}
use Rattle.dt_model.specs.declared.replies.Verdict.{Verdict}
use Rattle.dt_model.specs.Tensors.{dims_of, total_latches}
use Rattle.dt_model.specs.Verdicts.{all_in_range, tensor_number}
use Rattle.dt_model.specs.Worlds.{verdict_is_valid, updates_in}
use Rattle.dt_model.proofs.Booleans.{both_true, list_all-append}
use Rattle.script_read.specs.declared.declarations.Declared.{Declared}
use Rattle.script_read.specs.declared.items.Item.TheVariants.{Tensor, Session, Print}
use Rattle.script_read.specs.Manifests.{declared_with, is_declared, is_within_limits}
use Rattle.script_read.specs.Sound.{IsSoundItem, IsSoundScript}
use Rattle.dyntensor.specs.Workload.{Gathered, nothing, decls_of, work_of, lines_in, updates_of, lines_left, with_schema, with_tensor, with_lines, with_script, with_print}
use Rattle.dyntensor.specs.Gathering.{IsRunnable, IsGatheredFrom}
use Rattle.dyntensor.proofs.DeclaredLemmas.{decls_with, tensor_with, has_few_kinds, AreValid, AreValid-from, AreValid-schema, AreValid-push, decls_are_valid-from, dims_of-push, tensor_number-declared}
use Rattle.dyntensor.proofs.LoadsLemmas.{from_tensor-same, from_tensor-push, from_tensor-set}

below : (n m : ℕ) → nat_le n m ≡ true → n ≤ m
below n m h = grind (arith, nat_tests)

test : (n m : ℕ) → n ≤ m → nat_le n m ≡ true
test n m h = grind (arith, nat_tests)

same : (n m : ℕ) → (n == m) ≡ true → n ≡ m
same n m h = grind (arith, nat_tests)

equal : (n m : ℕ) → n ≡ m → (n == m) ≡ true
equal n m h = grind (arith, nat_tests)

-- the lines and updates so far are within the limit
pub lines_are_few : (g : Gathered) → IsRunnable (work_of g).world g.printed → lines_in g.base + updates_of g.scripts ≤ MOST_LINES
lines_are_few g h = below (lines_in g.base + updates_of g.scripts) MOST_LINES h.valid.sizes

-- there is a place for the lines of each tensor
pub as_many_bases : (g : Gathered) → IsRunnable (work_of g).world g.printed → length g.base ≡ length g.tensors
as_many_bases g h = same (length g.base) (length g.tensors) h.valid.tensors

-- the tensors are few
pub tensors_are_few : (g : Gathered) → IsRunnable (work_of g).world g.printed → length g.tensors ≤ MOST_TENSORS
tensors_are_few g h = (AreValid-from g.schemas g.tensors h.valid.decls).few

-- the limits that an item keeps
record AreLimits (d : Declared) : Type 0 where
  pub tensors : length d.tensors ≤ MOST_TENSORS
  pub sessions : d.sessions ≤ MOST_SESSIONS
  pub latches : d.latches ≤ MOST_LATCHES

limits_from : (d : Declared) → is_within_limits d ≡ true → AreLimits d
limits_from d h =
    let c = both_true (nat_le (length d.tensors) 32 && nat_le d.sessions 16 && nat_le d.prints 64) (nat_le d.latches 1024) h in
    let b = both_true (nat_le (length d.tensors) 32 && nat_le d.sessions 16) (nat_le d.prints 64) c.0 in
    let a = both_true (nat_le (length d.tensors) 32) (nat_le d.sessions 16) b.0 in
    record { tensors = below (length d.tensors) 32 a.0; sessions = below d.sessions 16 a.1; latches = below d.latches 1024 c.1 }

no_scripts : {X : Type 0} (xs : List X) → length xs ≡ 0 → xs ≡ []
no_scripts [] e = refl
no_scripts (x ∷ xs) e = absurd (omega arith)

-- ---- nothing

-- nothing was gathered from no items
pub IsGatheredFrom-nothing : IsGatheredFrom (record { tensors = []; sessions = 0; prints = 0; latches = 0 }) nothing
IsGatheredFrom-nothing = record {
  names = refl;
  sessions = refl;
  latches = refl;
  runnable = record {
    valid = record { decls = refl; sessions = refl; calls = refl; sizes = refl; tensors = refl; loads = refl; accepted = refl };
    are_declared = λ k e l. absurd (omega (arith, l));
  };
}

-- ---- a schema more

-- what was gathered with a schema more
pub IsGatheredFrom-schema : (d : Declared) (g : Gathered) (s : Schema) → IsGatheredFrom d g → d.sessions ≡ 0 → length g.schemas < MOST_SCHEMAS
    → has_few_kinds s ≡ true → IsGatheredFrom d (with_schema g s)
IsGatheredFrom-schema d g s h early few small =
    let v = h.runnable.valid in
    let none : g.scripts ≡ [] = no_scripts g.scripts (h.sessions ∙ early) in
    record {
      names = h.names;
      sessions = h.sessions;
      latches = h.latches;
      runnable = record {
        valid = record {
          decls = decls_are_valid-from (g.schemas ++ s ∷ []) g.tensors
              (AreValid-schema g.schemas s g.tensors (AreValid-from g.schemas g.tensors v.decls) few small);
          sessions = v.sessions;
          calls = v.calls;
          sizes = v.sizes;
          tensors = v.tensors;
          loads = from_tensor-same (decls_with g.schemas g.tensors) (decls_with (g.schemas ++ s ∷ []) g.tensors) 0 g.base (λ t l. refl) ∙ v.loads;
          accepted = subst (λ ss. list_all (list_all (verdict_is_valid (decls_with (g.schemas ++ s ∷ []) g.tensors))) ss ≡ true) (sym none) refl;
        };
        are_declared = h.runnable.are_declared;
      };
    }

-- ---- a tensor more

tensors_more : (d : Declared) (g : Gathered) (name dims : List ℕ) (formats : List (List ℕ)) (latches : ℕ) → IsGatheredFrom d g
    → IsSoundItem d (Tensor name dims (record { items = formats }) latches) → AreValid g.schemas (g.tensors ++ tensor_with name dims latches ∷ [])
tensors_more d g name dims formats latches h s =
    let x = tensor_with name dims latches in
    let limits = limits_from (declared_with d (Tensor name dims (record { items = formats }) latches)) s.limits in
    let count : length d.tensors ≡ length g.tensors = ap length (sym h.names) ∙ length-names g.tensors in
    let few = limits.tensors in
    let low = limits.latches in
    let pushed : length (g.tensors ++ x ∷ []) ≡ length g.tensors + 1 = grind (arith, common_steps) in
    let more : length (d.tensors ++ name ∷ []) ≡ length d.tensors + 1 = grind (arith, common_steps) in
    let sum : total_latches (g.tensors ++ x ∷ []) ≡ total_latches g.tensors + latches = sum_by_push (λ (t : TensorDecl). t.latches) g.tensors x in
    let had = h.latches in
    AreValid-push g.schemas g.tensors name dims formats latches (AreValid-from g.schemas g.tensors h.runnable.valid.decls) s.asked.0
    (subst (λ ns. list_any (pointwise nat_eq name) ns ≡ false) (sym h.names) s.asked.1.fresh) (omega arith) (omega arith)
  where
    length-names : (ts : List TensorDecl) → length (map (λ (t : TensorDecl). t.name) ts) ≡ length ts
    length-names [] = refl
    length-names (t ∷ ts) = ap suc (length-names ts)

-- what was gathered with a tensor more
pub IsGatheredFrom-tensor : (d : Declared) (g : Gathered) (name dims : List ℕ) (formats : List (List ℕ)) (latches : ℕ) → IsGatheredFrom d g
    → IsSoundItem d (Tensor name dims (record { items = formats }) latches)
    → IsGatheredFrom (declared_with d (Tensor name dims (record { items = formats }) latches)) (with_tensor g name dims latches)
IsGatheredFrom-tensor d g name dims formats latches h s =
    let x = tensor_with name dims latches in
    let v = h.runnable.valid in
    let none : g.scripts ≡ [] = no_scripts g.scripts (h.sessions ∙ s.asked.1.early) in
    let bases = as_many_bases g h.runnable in
    let fits = below (lines_in g.base + updates_of g.scripts) MOST_LINES v.sizes in
    let sum : lines_in (g.base ++ [] ∷ []) ≡ lines_in g.base + 0 = sum_by_push length g.base [] in
    let base : length (g.base ++ [] ∷ []) ≡ length g.base + 1 = grind (arith, common_steps) in
    let count : length (g.tensors ++ x ∷ []) ≡ length g.tensors + 1 = grind (arith, common_steps) in
    record {
      names = map-append (λ (t : TensorDecl). t.name) g.tensors (x ∷ []) ∙ ap (λ ns. ns ++ name ∷ []) h.names;
      sessions = h.sessions;
      latches = sum_by_push (λ (t : TensorDecl). t.latches) g.tensors x ∙ ap (λ n. n + latches) h.latches;
      runnable = record {
        valid = record {
          decls = decls_are_valid-from g.schemas (g.tensors ++ x ∷ []) (tensors_more d g name dims formats latches h s);
          sessions = v.sessions;
          calls = v.calls;
          sizes = test (lines_in (g.base ++ [] ∷ []) + updates_of g.scripts) MOST_LINES (omega arith);
          tensors = equal (length (g.base ++ [] ∷ [])) (length (g.tensors ++ x ∷ [])) (omega arith);
          loads = from_tensor-push (decls_with g.schemas (g.tensors ++ x ∷ [])) 0 g.base
              (from_tensor-same (decls_with g.schemas g.tensors) (decls_with g.schemas (g.tensors ++ x ∷ [])) 0 g.base
              (λ t l. dims_of-push g.schemas g.tensors x t (omega (arith, l))) ∙
              v.loads);
          accepted = subst (λ ss. list_all (list_all (verdict_is_valid (decls_with g.schemas (g.tensors ++ x ∷ [])))) ss ≡ true) (sym none) refl;
        };
        are_declared = λ k e l. let p = h.runnable.are_declared k e l in omega arith;
      };
    }

-- ---- lines more

-- what was gathered with lines more of a tensor
pub IsGatheredFrom-lines : (d : Declared) (g : Gathered) (t : ℕ) (lines : List (List ℕ × ℕ)) → IsGatheredFrom d g → t < length g.tensors
    → length lines ≤ lines_left g → list_all (λ l. all_in_range (dims_of (decls_of g) t) l.0) lines ≡ true → IsGatheredFrom d (with_lines g t lines)
IsGatheredFrom-lines d g t lines h l few inside =
    let v = h.runnable.valid in
    let bases = as_many_bases g h.runnable in
    let here : t ≡ 0 + t = omega arith in
    let fits : lines_in g.base + updates_of g.scripts ≤ MOST_LINES = below (lines_in g.base + updates_of g.scripts) MOST_LINES v.sizes in
    let sum : lines_in (set g.base t (get_or g.base t [] ++ lines)) + length (get_or g.base t []) ≡ lines_in g.base + length (get_or g.base t [] ++ lines)
    = sum_by-set length g.base t (get_or g.base t [] ++ lines) [] (omega arith) in
    let both : length (get_or g.base t [] ++ lines) ≡ length (get_or g.base t []) + length lines = grind (arith, common_steps) in
    record {
      names = h.names;
      sessions = h.sessions;
      latches = h.latches;
      runnable = record {
        valid = record {
          decls = v.decls;
          sessions = v.sessions;
          calls = v.calls;
          sizes = test (lines_in (set g.base t (get_or g.base t [] ++ lines)) + updates_of g.scripts) MOST_LINES (omega arith);
          tensors = equal (length (set g.base t (get_or g.base t [] ++ lines))) (length g.tensors) (length-set g.base t (get_or g.base t [] ++ lines) ∙ bases);
          loads = from_tensor-set (decls_of g) 0 g.base t lines (omega arith) v.loads
              (subst (λ k. list_all (λ (l : List ℕ × ℕ). all_in_range (dims_of (decls_of g) k) l.0) lines ≡ true) here inside);
          accepted = v.accepted;
        };
        are_declared = h.runnable.are_declared;
      };
    }

-- ---- a script more

-- what was gathered with a script more
pub IsGatheredFrom-script : (d : Declared) (g : Gathered) (file : List ℕ) (bytes : ℕ) (script : List Verdict) → IsGatheredFrom d g
    → IsSoundItem d (Session file)
    → IsSoundScript (decls_of g) (lines_left g) script → IsGatheredFrom (declared_with d (Session file)) (with_script g bytes script)
IsGatheredFrom-script d g file bytes script h s sound =
    let v = h.runnable.valid in
    let limits = limits_from (declared_with d (Session file)) s.limits in
    let few : d.sessions + 1 ≤ MOST_SESSIONS = limits.sessions in
    let fits : lines_in g.base + updates_of g.scripts ≤ MOST_LINES = below (lines_in g.base + updates_of g.scripts) MOST_LINES v.sizes in
    let more : updates_of (g.scripts ++ script ∷ []) ≡ updates_of g.scripts
    + sum_by updates_in script = sum_by_push (λ s. sum_by updates_in s) g.scripts script in
    let low = sound.updates in
    let count : length (g.scripts ++ script ∷ []) ≡ length g.scripts + 1 = grind (arith, common_steps) in
    let before = h.sessions in
    let calls : nat_le (length script) MOST_CALLS ≡ true = test (length script) MOST_CALLS sound.calls in
    record {
      names = h.names;
      sessions = omega arith;
      latches = h.latches;
      runnable = record {
        valid = record {
          decls = v.decls;
          sessions = test (length (g.scripts ++ script ∷ [])) MOST_SESSIONS (omega arith);
          calls = list_all-append (λ (s : List Verdict). nat_le (length s) MOST_CALLS) g.scripts (script ∷ []) v.calls (rw calls refl);
          sizes = test (lines_in g.base + updates_of (g.scripts ++ script ∷ [])) MOST_LINES (omega arith);
          tensors = v.tensors;
          loads = v.loads;
          accepted = list_all-append (list_all (verdict_is_valid (decls_of g))) g.scripts (script ∷ []) v.accepted (rw (sound.valid) refl);
        };
        are_declared = h.runnable.are_declared;
      };
    }

-- ---- a tensor more to print

-- the tensor of a declared name
pub number_is_declared : (d : Declared) (g : Gathered) (name : List ℕ) → IsGatheredFrom d g → is_declared d name ≡ true
    → tensor_number (decls_of g) name < length g.tensors
number_is_declared d g name h e = tensor_number-declared g.schemas g.tensors name (subst (λ ns. list_any (pointwise nat_eq name) ns ≡ true) (sym h.names) e)

-- what was gathered with a tensor more to print
pub IsGatheredFrom-print : (d : Declared) (g : Gathered) (name : List ℕ) → IsGatheredFrom d g → is_declared d name ≡ true
    → IsGatheredFrom (declared_with d (Print name)) (with_print g (tensor_number (decls_of g) name))
IsGatheredFrom-print d g name h e = record {
  names = h.names;
  sessions = h.sessions;
  latches = h.latches;
  runnable = record {
    valid = h.runnable.valid;
    are_declared = All-push (λ t. t < length g.tensors) g.printed (tensor_number (decls_of g) name) h.runnable.are_declared (number_is_declared d g name h e);
  };
}
