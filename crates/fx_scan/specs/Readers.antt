-- What the functions of this crate give at the front of a text. What a token list is doesn't hang on any of this.
use Rattle.std.specs.Prelude.{◌≡◌, ◌<◌, ◌≤◌, ◌==◌, ◌+◌, ◌*◌, ◌&&◌, ◌||◌, ℕ, zero, suc, ℤ, nat_le, nat_lt, Bool, true, false, not, if◌then◌else◌, [], ◌∷◌, ◌++◌, length, take, drop, Option, None, Some, is_some}
use Rattle.std.specs.List.{prefix_len}
use Rattle.std.specs.Option.{option_or}
use Rattle.fx_time.specs.Time.{IsTime}
use Rattle.fx_scan.specs.declared.enclosed.End.{End}
use Rattle.fx_scan.specs.declared.enclosed.Open.{Open}
use Rattle.fx_scan.specs.declared.enclosed.Open.TheVariants as inside
use Rattle.fx_scan.specs.declared.enclosed.Step.{Step}
use Rattle.fx_scan.specs.declared.enclosed.Step.TheVariants.{Goes, Ends, Breaks}
use Rattle.fx_scan.specs.declared.group.Group.{Group}
use Rattle.fx_scan.specs.declared.group.Group.TheVariants as group
use Rattle.fx_scan.specs.declared.mode.Mode.{Mode}
use Rattle.fx_scan.specs.declared.scanner.Front.{Front}
use Rattle.fx_scan.specs.declared.scanner.Front.TheVariants.{Blank, Comment, Token, Nothing}
use Rattle.fx_scan.specs.declared.spans.Amount.{Amount}
use Rattle.fx_scan.specs.declared.spans.UnitRead.{UnitRead}
use Rattle.fx_scan.specs.declared.taken.Taken.{Taken}
use Rattle.fx_scan.specs.declared.token.TokenKind.{TokenKind}
use Rattle.fx_scan.specs.declared.token.TokenKind.TheVariants as kind
use Rattle.fx_scan.specs.declared.units.Unit.{Unit}
use Rattle.fx_scan.specs.declared.units.Unit.TheVariants.{Months, Nanos}
use Rattle.fx_scan.specs.Forms.{Bytes, begins, is_digit, is_name_start, is_name_byte, is_zero, is_slash, is_escape, number_of, greatest}
use Rattle.fx_scan.specs.Tables.{unit_of, symbol_of}
use Rattle.fx_scan.specs.Tokens.{is_blank, begins_letter, spoils_int, FormAt, IsToken, IsComment, IsStill}

-- goes on with the value, where there is one
infixl 10 ◌>>=◌
abbrev pub ◌>>=◌ : {A B : Type 0} → Option A → (A → Option B) → Option B
None >>= f = None
(Some x) >>= f = f x

-- ---- groups

-- what tokens begin with the byte
unfoldable pub group_by : Mode → ℕ → Group
group_by m b =
    if is_name_start b then group.Names
    else (if is_digit b then group.Numbers
    else (if (b == 34) || ((b == 125) && m.in_hole) then group.Texts
    else (if is_slash b && not m.divides then group.Patterns
    else (if (b == 123) && m.in_hole then group.Nothing
    else group.Symbols))))

abbrev pub group_at : Mode → Bytes → Group
group_at m [] = group.Nothing
group_at m (b ∷ rest) = group_by m b

-- ---- times

abbrev pub fraction_len : Bytes → ℕ
fraction_len w = if begins (λ b. b == 46) w then 1 + prefix_len is_digit (drop 1 w) else 0

abbrev pub zone_len : Bytes → ℕ
zone_len w = if begins (λ b. b == 90) w then 1 else 6

-- how long a time is, where one stands there
abbrev pub time_len : Bytes → ℕ
time_len w =
    if begins (λ b. b == 84) (drop 10 w)
    then 19 + fraction_len (drop 19 w) + zone_len (drop (19 + fraction_len (drop 19 w)) w)
    else 10

-- the first bytes are a time, which isn't followed by a name's byte; or no first bytes are
abbrev pub IsTimeLen : Bytes → Option ℕ → Type 0
IsTimeLen w None = (u z : Bytes) (t : ℤ) → w ≡ u ++ z → begins is_name_byte z ≡ false → IsTime u t → ⊥
IsTimeLen w (Some n) = (n ≤ length w) × (n ≡ time_len w) × (begins is_name_byte (drop n w) ≡ false) × ((t : ℤ) × IsTime (take n w) t)

-- ---- integers

-- the number, where it isn't too great
abbrev pub number_within : Bytes → Option ℕ
number_within digits = if nat_le (number_of digits) greatest then Some (number_of digits) else None

abbrev pub leads_by_zero : Bytes → Bool
leads_by_zero digits = begins is_zero digits && not (length digits == 1)

abbrev pub int_fits : Bytes → Bytes → Bool
int_fits digits rest = if spoils_int rest || leads_by_zero digits then false else is_some (number_within digits)

-- ---- spans

-- the first bytes, as many as there are up to n, are a unit before what is no letter
abbrev pub unit_of_len : ℕ → Bytes → Option UnitRead
unit_of_len n w =
    if begins_letter (drop n w) then None
    else (unit_of (take n w) >>= λ u. Some (record { unit = u; len = length (take n w) }))

unfoldable pub unit_at : Bytes → Option UnitRead
unit_at w = option_or (option_or (unit_of_len 3 w) (unit_of_len 2 w)) (unit_of_len 1 w)

abbrev pub amount_of : ℕ → Unit → ℕ → Amount
amount_of n (Months size) len = record { months = n * size; nanos = 0; len = len }
amount_of n (Nanos size) len = record { months = 0; nanos = n * size; len = len }

unfoldable pub amount_at : Bytes → Option Amount
amount_at w =
    let n = prefix_len is_digit w in
    if n == 0 then None
    else (number_within (take n w) >>= λ number. unit_at (drop n w) >>= λ read. Some (amount_of number read.unit (n + read.len)))

abbrev pub none : Amount
none = record { months = 0; nanos = 0; len = 0 }

-- the amount and one more, within the limits
abbrev pub sum_within : Amount → Amount → Option Amount
sum_within a b =
    if nat_lt greatest (a.months + b.months) || nat_lt greatest (a.nanos + b.nanos) then None
    else Some (record { months = a.months + b.months; nanos = a.nanos + b.nanos; len = a.len + b.len })

-- what one more pair makes of the amount
unfoldable pub longer : Amount → Bytes → Option Amount
longer a rest = amount_at rest >>= λ b. sum_within a b

-- after one more pair, or where there is none
abbrev pub turned : Option Amount → ℕ → (Amount → ℕ) → ℕ
turned None len on = len
turned (Some more) len on = on more

-- how long the span is after so many turns
unfoldable pub longest : ℕ → Amount → Bytes → ℕ
longest zero a w = a.len
longest (suc turns) a w = turned (longer a (drop a.len w)) a.len (λ more. longest turns more w)

abbrev pub span_len : Bytes → ℕ
span_len w = longest (length w) none w

-- ---- texts and patterns

unfoldable pub step_text : ℕ → Step
step_text b =
    if b == 34 then Ends false
    else (if b == 92 then Goes inside.Escape
    else (if b == 36 then Goes inside.Dollar
    else Goes inside.Text))

unfoldable pub step_pattern : ℕ → Step
step_pattern b =
    if b == 47 then Ends false
    else (if b == 92 then Goes inside.Backslash
    else (if b == 10 then Breaks
    else Goes inside.Pattern))

abbrev pub next_step : Open → ℕ → Step
next_step inside.Text b = step_text b
next_step inside.Escape b = if is_escape b then Goes inside.Text else Breaks
next_step inside.Dollar b = if b == 123 then Ends true else step_text b
next_step inside.Pattern b = step_pattern b
next_step inside.Backslash b = if b == 10 then Breaks else Goes inside.Pattern

-- after a step, with so many bytes behind it
abbrev pub ended : Step → (Open → Option End) → ℕ → Option End
ended (Goes next) on n = on next
ended (Ends opens) on n = Some (record { opens = opens; len = n })
ended Breaks on n = None

-- where what is open ends, with so many bytes before
unfoldable pub end_of : Bytes → Open → ℕ → Option End
end_of [] o n = None
end_of (b ∷ rest) o n = ended (next_step o b) (λ next. end_of rest next (n + 1)) (n + 1)

-- ---- a token

-- the first n bytes have the form of a token of the kind, and no slice there that has the form of one is longer
pub record IsTaken (m : Mode) (w : Bytes) (k : TokenKind) (n : ℕ) : Type 0 where
  pub within : n ≤ length w
  pub form : FormAt m k (take n w) (drop n w)
  pub longest : (j : TokenKind) (v y : Bytes) → w ≡ v ++ y → FormAt m j v y → length v ≤ n

abbrev pub IsFound : Mode → Bytes → Option Taken → Type 0
IsFound m w None = (k : TokenKind) (u z : Bytes) → w ≡ u ++ z → FormAt m k u z → ⊥
IsFound m w (Some t) = IsTaken m w t.kind t.len

abbrev pub piece_kind : Mode → Bool → Bool → Option TokenKind
piece_kind m true false = Some kind.Plain
piece_kind m true true = if m.in_hole then None else Some kind.Head
piece_kind m false true = Some kind.Mid
piece_kind m false false = Some kind.Tail

-- `=`, `~`, `>` or `-`: only these are second in a symbol
unfoldable pub is_second : ℕ → Bool
is_second b = b == 61 || (b == 126 || (b == 62 || b == 45))

-- the first two bytes are a symbol
abbrev pub begins_double : Bytes → Bool
begins_double w = nat_lt 1 (length w) && is_some (symbol_of (take 2 w))

abbrev pub symbol_len : Bytes → Option ℕ
symbol_len w =
    if begins_double w then Some 2
    else (if is_some (symbol_of (take 1 w)) then Some 1 else None)

-- ---- what stands at a place

abbrev pub IsFront : Mode → Bytes → Front → Type 0
IsFront m w Blank = begins is_blank w ≡ true
IsFront m w (Comment n) = (n ≤ length w) × (0 < n) × IsComment (take n w) (drop n w)
IsFront m w (Token t) = (t.len ≤ length w) × (0 < t.len) × IsToken m t.kind (take t.len w) (drop t.len w)
IsFront m w Nothing = IsStill m w
