-- The limits as numbers.
use Rattle.std.proofs.Common.{◌≡◌, refl}
use Rattle.dt_model.specs.declared.limits.TheConstants.{LINE_LIMIT, FILE_LIMIT, FILE_NAME_LIMIT, NAME_LIMIT, MOST_SCHEMAS, MOST_KINDS, MOST_TENSORS, MOST_ORDER}
use Rattle.dt_model.specs.declared.limits.TheConstants.{MOST_TENSOR_LATCHES, MOST_LATCHES, MOST_PRINTS, MOST_SESSIONS, MOST_CALLS, MOST_LINES, MOST_UPDATES}
use Rattle.dt_model.specs.declared.limits.TheConstants.{MOST_ACCESSES, MOST_LITERALS, MOST_VARIABLES, MOST_PARENTHESES}

-- the limits in bytes: of a line, a file, a file's name and a name
pub limits_in_bytes : (LINE_LIMIT ≡ 4096) × (FILE_LIMIT ≡ 67108864) × (FILE_NAME_LIMIT ≡ 255) × (NAME_LIMIT ≡ 32)
limits_in_bytes = (refl, refl, refl, refl)

-- the limits of what is declared: schemas, kinds, tensors, modes, latches of a tensor and of all, prints and sessions
pub limits_of_declarations : (MOST_SCHEMAS ≡ 16) × (MOST_KINDS ≡ 16) × (MOST_TENSORS ≡ 32) × (MOST_ORDER ≡ 5) × (MOST_TENSOR_LATCHES ≡ 256)
    × (MOST_LATCHES ≡ 1024) × (MOST_PRINTS ≡ 64) × (MOST_SESSIONS ≡ 16)
limits_of_declarations = (refl, refl, refl, refl, refl, refl, refl, refl)

-- the limits of what is run: calls of a script, loaded lines and updates, updates of a batch
pub limits_of_runs : (MOST_CALLS ≡ 65536) × (MOST_LINES ≡ 700000) × (MOST_UPDATES ≡ 64)
limits_of_runs = (refl, refl, refl)

-- the limits of a statement: accesses, literals, variables and open parentheses
pub limits_of_statements : (MOST_ACCESSES ≡ 12) × (MOST_LITERALS ≡ 12) × (MOST_VARIABLES ≡ 8) × (MOST_PARENTHESES ≡ 16)
limits_of_statements = (refl, refl, refl, refl)
