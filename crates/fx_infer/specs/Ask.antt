-- Questions to an expression or a name, and what gives a name its answers.
use Rattle.std.specs.Prelude.{◌≡◌, Bool, true, false}
use Rattle.fx_base.specs.Text.{same_text}
use Rattle.fx_types.specs.Term.{Label}
use Rattle.fx_types.specs.Ground.{Ground, g_fun}
use Rattle.fx_types.specs.Size.{IsType}
use Rattle.fx_schemes.specs.declared.list.Builtin.{Builtin}
use Rattle.fx_schemes.specs.Line.{Line, value}

pub data Ask : Type 0 where
  -- has it this type?
  type_is : (type : Ground) → Ask
  -- may it be called by this line?
  line_is : (line : Line) → Ask
  -- is it this built-in itself?
  builtin_is : (which : Builtin) → Ask
  -- is it the package with this path?
  package_is : (path : Label) → Ask

-- which questions are answered with yes
abbrev pub Answers : Type 1
Answers = Ask → Type 0

-- what each name answers
abbrev pub Scope : Type 1
Scope = Label → Answers

abbrev pub IsFunction : Ground → Type 0
IsFunction (g_fun needs input gives) = Unit {0}
IsFunction _ = ⊥

-- A value of these types. As a function it takes what its type requires, and nothing else.
abbrev pub valued : (Ground → Type 0) → Answers
valued T (type_is t) = IsType t × T t
valued T (line_is L) = (t : Ground) × (L ≡ value t) × IsFunction t × IsType t × T t
valued T _ = ⊥

-- a value of the one type u
abbrev pub of_type : Ground → Answers
of_type u = valued (λ t. t ≡ u)

abbrev pub either : Bool → Type 0 → Type 0 → Type 0
either true A B = A
either false A B = B

-- the scope in which the name x answers so, and all other names as before
abbrev pub with_name : Label → Answers → Scope → Scope
with_name x A S y q = either (same_text y x) (A q) (S y q)
