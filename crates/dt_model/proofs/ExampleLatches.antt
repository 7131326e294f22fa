-- Worked examples of fibers and latches.
use Rattle.std.proofs.Common.{◌≡◌, ℕ, List, [], ◌∷◌, refl, map}
use Rattle.std.specs.Prelude.{codes}
use Rattle.dt_model.specs.declared.declared_tensors.Decls.{Decls}
use Rattle.dt_model.specs.declared.calls.Call.TheVariants.{Get, Query}
use Rattle.dt_model.specs.declared.replies.World.{World}
use Rattle.dt_model.specs.declared.statements.Expr.TheVariants.{Access}
use Rattle.dt_model.specs.Contents.{Contents}
use Rattle.dt_model.specs.Runs.{contents_after, restricted_to}
use Rattle.dt_model.specs.Tensors.{latch_of, latch_count, width_in}
use Rattle.dt_model.specs.Latches.{needed_latches}
use Rattle.dt_model.specs.declared.written.WrittenNumber.TheVariants.{Whole}
use Rattle.dt_model.specs.declared.written.WrittenCall.TheVariants as written
use Rattle.dt_model.proofs.Examples.{declared, vector, statement, set_of, add_of, world_of, entries_of}

-- v has dimension 4 and 2 latches, u has dimension 3 and 1 latch
abbrev pub two_vectors : Decls
two_vectors = declared (vector (codes "v") 4 2 ∷ vector (codes "u") 3 1 ∷ [])

-- of dimension 4 with 2 latches the coordinates 1 and 2 are in fiber 0, and 3 and 4 in fiber 1
pub two_fibers : map (λ c. latch_of two_vectors 0 (c ∷ [])) (0 ∷ 1 ∷ 2 ∷ 3 ∷ []) ≡ 0 ∷ 0 ∷ 1 ∷ 1 ∷ []
two_fibers = refl

-- the latches of u come after those of v
pub second_tensor : map (λ c. latch_of two_vectors 1 (c ∷ [])) (0 ∷ 1 ∷ 2 ∷ []) ≡ 2 ∷ 2 ∷ 2 ∷ []
second_tensor = refl

-- there are 3 latches of fibers, and the journal's is number 3
pub journal_comes_last : latch_count two_vectors ≡ 3
journal_comes_last = refl

-- dimension 6186 with 64 latches has width 97
pub width_of_many : width_in 6186 64 ≡ 97
width_of_many = refl

-- coordinate 6186, which is 6185 counted from 0, is in fiber 63
pub last_fiber : latch_of (declared (vector (codes "T") 6186 64 ∷ [])) 0 (6185 ∷ []) ≡ 63
last_fiber = refl

-- dimension 5 with 4 latches has width 2, so that the last latch has an empty fiber
pub last_fiber_may_be_empty : map (λ c. latch_of (declared (vector (codes "v") 5 4 ∷ [])) 0 (c ∷ [])) (0 ∷ 1 ∷ 2 ∷ 3 ∷ 4 ∷ []) ≡ 0 ∷ 0 ∷ 1 ∷ 1 ∷ 2 ∷ []
last_fiber_may_be_empty = refl

-- more latches than coordinates: width 1
pub width_of_few : width_in 3 256 ≡ 1
width_of_few = refl

-- batch set v 1 5 ; add v 4 2 ; set u 2 9 ; add v 1 1
abbrev four_updates : World
four_updates = world_of two_vectors ([] ∷ [] ∷ [])
    (written.Batch (set_of (codes "v") (1 ∷ []) (Whole 5) ∷ add_of (codes "v") (4 ∷ []) (Whole 2)
    ∷ set_of (codes "u") (2 ∷ []) (Whole 9) ∷ add_of (codes "v") (1 ∷ []) (Whole 1) ∷ []) ∷ [])

-- the batch needs each latch once, in ascending order
pub latches_of_batch : map (λ e. needed_latches two_vectors e.call) (entries_of four_updates ((1, 1) ∷ [])) ≡ (0 ∷ 1 ∷ 2 ∷ []) ∷ []
latches_of_batch = refl

-- get v 3 needs latch 1 alone
pub latches_of_get : needed_latches two_vectors (Get (record { tensor = 0; at = 2 ∷ [] })) ≡ 1 ∷ []
latches_of_get = refl

-- a(i) = v(i) needs all latches of v
pub latches_of_query : needed_latches two_vectors (Query (statement (codes "a") (codes "i" ∷ []) (0 ∷ []) (Access (codes "v") (0 ∷ [])))) ≡ 0 ∷ 1 ∷ []
latches_of_query = refl

-- the contents after the batch
abbrev after_batch : Contents
after_batch = contents_after four_updates (entries_of four_updates ((1, 1) ∷ []))

-- the numbers in the cells 1 and 4 of v and 2 of u
abbrev written_cells : Contents → List ℕ
written_cells m = m 0 (0 ∷ []) ∷ m 0 (3 ∷ []) ∷ m 1 (1 ∷ []) ∷ []

-- restricted to each latch the contents are those of its fiber, and to the journal's latch they are empty
pub restricted_after_batch : map (λ w. written_cells (restricted_to two_vectors after_batch w)) (0 ∷ 1 ∷ 2 ∷ 3 ∷ [])
    ≡ (6 ∷ 0 ∷ 0 ∷ []) ∷ (0 ∷ 2 ∷ 0 ∷ []) ∷ (0 ∷ 0 ∷ 9 ∷ []) ∷ (0 ∷ 0 ∷ 0 ∷ []) ∷ []
restricted_after_batch = refl
