-- Files that are kept in memory.
use Rattle.std.specs.Prelude.{ℕ, List, [], ◌∷◌, Option, None, Some, nat_eq, if◌then◌else◌}
use Rattle.std.specs.Cmp.Lexicographic.{pointwise}
use Rattle.fx_base.specs.declared.memory_files.NamedFile.{NamedFile}

-- the bytes of the first file of this name
abbrev pub file_of : List NamedFile → List ℕ → Option (List ℕ)
file_of [] name = None
file_of (f ∷ fs) name = if pointwise nat_eq f.name name then Some f.bytes else file_of fs name
