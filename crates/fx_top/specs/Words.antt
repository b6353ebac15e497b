-- The words of a command line behind the first, read from left to right.
use Rattle.std.specs.Prelude.{◌≡◌, ℕ, ℤ, pos, Bool, true, not, ◌&&◌, nat_eq, nat_lt, List, [], ◌∷◌, ◌++◌, length, take, drop, codes, Option, None, Some, if◌then◌else◌}
use Rattle.std.specs.Cmp.Lexicographic.{pointwise}
use Rattle.std.specs.List.{starts_with}
use Rattle.fx_time.specs.Value.{time_value}
use Rattle.fx_top.specs.declared.words.Reading.{Reading}
use Rattle.fx_top.specs.declared.words.Reading.TheVariants as reading
use Rattle.fx_top.specs.declared.words.Setting.{Setting}
use Rattle.fx_top.specs.declared.words.Setting.TheVariants as setting
use Rattle.fx_top.specs.declared.words.Precision.{Precision}
use Rattle.fx_top.specs.declared.words.Precision.TheVariants as precision
use Rattle.fx_top.specs.declared.words.Said.{Said}

-- a word that begins with a hyphen, and one of these that is longer than one byte
abbrev pub is_hyphened : List ℕ → Bool
is_hyphened word = starts_with nat_eq word (45 ∷ [])

abbrev pub is_option : List ℕ → Bool
is_option word = is_hyphened word && nat_lt 1 (length word)

-- what words say: the positional words, the values of `--now` and `--precision`, and the flags `--skip-floats`, each in
-- their order
abbrev pub nothing : Said
nothing = record { words = []; nows = []; precisions = []; skips = [] }

abbrev pub one_word : List ℕ → Said
one_word w = record { words = w ∷ []; nows = []; precisions = []; skips = [] }

abbrev pub one_now : ℤ → Said
one_now t = record { words = []; nows = t ∷ []; precisions = []; skips = [] }

abbrev pub one_precision : Precision → Said
one_precision p = record { words = []; nows = []; precisions = p ∷ []; skips = [] }

abbrev pub one_skip : Said
one_skip = record { words = []; nows = []; precisions = []; skips = true ∷ [] }

abbrev pub joined : Said → Said → Said
joined a b = record { words = a.words ++ b.words; nows = a.nows ++ b.nows; precisions = a.precisions ++ b.precisions; skips = a.skips ++ b.skips }

-- the precision of a name, and how many nanoseconds its unit has
abbrev pub precision_of : List ℕ → Option Precision
precision_of value =
    if pointwise nat_eq value (codes "ns") then Some precision.Ns
    else if pointwise nat_eq value (codes "us") then Some precision.Us
    else if pointwise nat_eq value (codes "ms") then Some precision.Ms
    else if pointwise nat_eq value (codes "s") then Some precision.S
    else None

abbrev pub factor_of : Precision → ℤ
factor_of precision.Ns = pos 1
factor_of precision.Us = pos 1_000
factor_of precision.Ms = pos 1_000_000
factor_of precision.S = pos 1_000_000_000

-- what one word says, and how the next one is read
pub record Heard : Type 0 where
  pub next : Reading
  pub said : Said

abbrev pub heard_now : Option ℤ → Option Heard
heard_now None = None
heard_now (Some t) = Some (record { next = reading.Open; said = one_now t })

abbrev pub heard_precision : Option Precision → Option Heard
heard_precision None = None
heard_precision (Some p) = Some (record { next = reading.Open; said = one_precision p })

-- the value of an option: a time, or one of `ns`, `us`, `ms` and `s`
abbrev pub valued : Setting → List ℕ → Option Heard
valued setting.Now value = heard_now (time_value value)
valued setting.Precision value = heard_precision (precision_of value)

-- the word is the option's name, `=` and its value
abbrev pub is_begun : List ℕ → List ℕ → Bool
is_begun word name = pointwise nat_eq (take (length name) word) name

-- a word that may be an option: `--` ends the options, `--now` and `--precision` have their value behind `=` or in the next
-- word, and no other word may begin with a hyphen, but for `-` alone
abbrev pub open_word : List ℕ → Option Heard
open_word w =
    if not (is_option w) then Some (record { next = reading.Open; said = one_word w })
    else if pointwise nat_eq w (codes "--") then Some (record { next = reading.Closed; said = nothing })
    else if pointwise nat_eq w (codes "--skip-floats") then Some (record { next = reading.Open; said = one_skip })
    else if pointwise nat_eq w (codes "--now") then Some (record { next = reading.Waits setting.Now; said = nothing })
    else if pointwise nat_eq w (codes "--precision") then Some (record { next = reading.Waits setting.Precision; said = nothing })
    else if is_begun w (codes "--now=") then valued setting.Now (drop 6 w)
    else if is_begun w (codes "--precision=") then valued setting.Precision (drop 12 w)
    else None

abbrev pub heard : Reading → List ℕ → Option Heard
heard reading.Open w = open_word w
heard (reading.Waits s) w = if is_hyphened w then None else valued s w
heard reading.Closed w = Some (record { next = reading.Closed; said = one_word w })

-- what words say, none where they have no form of a command's
abbrev pub ended : Reading → Option Said
ended (reading.Waits s) = None
ended r = Some nothing

abbrev pub with_more : Said → Option Said → Option Said
with_more s None = None
with_more s (Some more) = Some (joined s more)

abbrev pub then_says : Option Heard → (Reading → Option Said) → Option Said
then_says None rest = None
then_says (Some h) rest = with_more h.said (rest h.next)

abbrev pub says : Reading → List (List ℕ) → Option Said
says r [] = ended r
says r (w ∷ ws) = then_says (heard r w) (λ next. says next ws)

-- a call that adds what a word says to what was said before it
abbrev pub Hears : Option Heard → Said → Said → Option Reading → Type 0
Hears None old new None = Unit {0}
Hears None old new (Some next) = ⊥
Hears (Some h) old new None = ⊥
Hears (Some h) old new (Some next) = (next ≡ h.next) × (new ≡ joined old h.said)
