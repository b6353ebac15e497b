-- What a call gives, against what a line takes.
use Rattle.std.specs.Prelude.{◌≡◌, ◌⊎◌, true, false, Option, None, Some}
use Rattle.fx_types.specs.Term.{Label}
use Rattle.fx_types.specs.Ground.{Ground, GroundField, GroundRow, g_fun, g_absent, g_is, listed}
use Rattle.fx_types.specs.Size.{IsType}
use Rattle.fx_schemes.specs.declared.list.Builtin.{Builtin}
use Rattle.fx_schemes.specs.Builtins.{IsLine, differ}
use Rattle.fx_schemes.specs.Given.{Given}
use Rattle.fx_schemes.specs.Line.{Line, put}
use Rattle.fx_ast.specs.Tree.{Props}
use Rattle.fx_infer.specs.Ask.{line_is, builtin_is, Answers, IsFunction}
use Rattle.fx_infer.specs.Parameters.{prop_names}
use Rattle.fx_infer.specs.Words.{words_of_call}

-- at one label: what is required there is given; else nothing is, or what may be
abbrev pub Takes : GroundField → GroundField → GroundField → Type 0
Takes (g_is t) optional given = given ≡ g_is t
Takes g_absent optional given = (given ≡ g_absent) ⊎ (given ≡ optional)

abbrev pub TakesAll : GroundRow → GroundRow → GroundRow → Type 0
TakesAll needs optional given = (l : Label) → Takes (needs l) (optional l) (given l)

-- without a pipe, what would come by it is given under its label
abbrev pub TakesByLabel : Option Label → GroundField → GroundRow → GroundRow → GroundRow → Type 0
TakesByLabel x g_absent needs optional given = TakesAll needs optional given
TakesByLabel (Some x) (g_is u) needs optional given = TakesAll (put x u needs) optional given
TakesByLabel None (g_is u) needs optional given = ⊥

-- a call by the line with these arguments has the type t
abbrev pub IsCall : GroundRow → Line → Ground → Type 0
IsCall given L t =
    (needs : GroundRow) × (input : GroundField) × (L.type ≡ g_fun needs input t) × TakesByLabel L.pipe_label input needs L.optional given

-- the same with a value of type u from the pipe
abbrev pub IsPipe : Ground → GroundRow → Line → Ground → Type 0
IsPipe u given L t = (needs : GroundRow) × (L.type ≡ g_fun needs (g_is u) t) × TakesAll needs L.optional given

-- off the listed properties r is as q
abbrev pub Elsewhere : Props → GroundRow → GroundRow → Type 0
Elsewhere ps r q = (l : Label) → listed l (prop_names ps) ≡ false → r l ≡ q l

abbrev pub IsTypeOrAbsent : GroundField → Type 0
IsTypeOrAbsent g_absent = Unit {0}
IsTypeOrAbsent (g_is t) = IsType t

-- the line by which a callee with the answers C is called: a function's own, or one of a built-in at the words of the
-- call; what the line takes and gives are types
abbrev pub IsLineAt : Answers → Option Builtin → Given → Line → Type 0
IsLineAt C None w L = C (line_is L)
IsLineAt C (Some b) w L = C (builtin_is b) × IsLine b w L × IsFunction L.type × IsType L.type × ((l : Label) → IsTypeOrAbsent (L.optional l))

-- A call with these arguments: each label is given once. Has b r says that the arguments have the types r, where the
-- label arguments are those of b; Takes r L that the line takes them.
abbrev pub Called : Answers → Props → (Option Builtin → GroundRow → Type 0) → (GroundRow → Line → Type 0) → Type 0
Called C ps Has Takes =
    (b : Option Builtin) × (w : Given) × (L : Line) × (r : GroundRow) × (differ (prop_names ps) ≡ true) × (words_of_call b ps ≡ Some w)
    × IsLineAt C b w L × Has b r × Elsewhere ps r (λ l. g_absent) × Takes r L
