-- A list cut into runs.
use Rattle.std.specs.Prelude.{Bool, List, [], ◌∷◌, ◌++◌, if◌then◌else◌}

-- a run grows by the next item for as long as it passes with it, and that item begins the next run
abbrev pub runs_from : {X : Type 0} → (List X → Bool) → List X → List X → List (List X)
runs_from passes run [] = run ∷ []
runs_from passes run (x ∷ rest) =
    if passes (run ++ x ∷ []) then runs_from passes (run ++ x ∷ []) rest
    else run ∷ runs_from passes (x ∷ []) rest

-- each run is the longest from its first item on
abbrev pub runs : {X : Type 0} → (List X → Bool) → List X → List (List X)
runs passes [] = []
runs passes (x ∷ rest) = runs_from passes (x ∷ []) rest
