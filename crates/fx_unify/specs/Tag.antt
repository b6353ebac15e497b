-- Numbers of the forms of types, by which two types are told apart.
use Rattle.std.specs.Prelude.{ℕ}
use Rattle.fx_types.specs.Term.{Term, bool, int, text, time, span, pattern, done, type_variable, array, fun, rec, stream}

-- 12 is a variable
abbrev pub tag_of : Term → ℕ
tag_of bool = 1
tag_of int = 2
tag_of text = 3
tag_of time = 4
tag_of span = 5
tag_of pattern = 6
tag_of done = 7
tag_of (array t) = 8
tag_of (fun ls p t) = 9
tag_of (rec fs r) = 10
tag_of (stream fs r) = 11
tag_of (type_variable n) = 12
