-- The stack of open expressions.
use Rattle.std.proofs.Common.{◌≡◌, ◌++◌, List, [], ◌∷◌, refl, ap, ◌∙◌, Some, None}
use Rattle.index_read.specs.declared.trees.Level.{Level}
use Rattle.index_read.specs.Building.{pop, onto}

-- what was pushed is popped
pub pop_push : (ls : List Level) (l : Level) → pop (ls ++ l ∷ []) ≡ Some (ls, l)
pop_push [] l = refl
pop_push (k ∷ []) l = refl
pop_push (k ∷ m ∷ ls) l = ap (onto k) (pop_push (m ∷ ls) l)

-- the last level of a stack is popped
pub pop_some : (ls ms : List Level) (l : Level) → ls ≡ ms ++ l ∷ [] → pop ls ≡ Some (ms, l)
pop_some ls ms l e = ap pop e ∙ pop_push ms l

-- nothing is popped from an empty stack
pub pop_none : (ls : List Level) → ls ≡ [] → pop ls ≡ None
pop_none ls e = ap pop e
