-- What stands between the ends of a slice.
use Rattle.std.specs.Prelude.{ℕ, ◌<◌, ◌-◌, length, take, drop}
use Rattle.std.specs.Str.{IsUtf8}
use Rattle.fx_scan.specs.declared.token.TokenKind.{TokenKind}
use Rattle.fx_scan.specs.declared.token.TokenKind.TheVariants.{Name, Word, Int, Span, Time, Plain, Head, Mid, Tail, Pattern, Symbol}
use Rattle.fx_scan.specs.Forms.{Bytes}

-- without the first byte and so many at the end
abbrev pub inner_of : ℕ → Bytes → Bytes
inner_of end u = take (length u - end - 1) (drop 1 u)

-- there are so many bytes, and what stands between the ends is UTF-8
abbrev pub HasInner : ℕ → Bytes → Type 0
HasInner end u = (end < length u) × IsUtf8 (inner_of end u)

-- what becomes a text is UTF-8
abbrev pub IsReadable : TokenKind → Bytes → Type 0
IsReadable Name u = IsUtf8 u
IsReadable Word u = Unit {0}
IsReadable Int u = Unit {0}
IsReadable Span u = Unit {0}
IsReadable Time u = Unit {0}
IsReadable Plain u = HasInner 1 u
IsReadable Head u = HasInner 2 u
IsReadable Mid u = HasInner 2 u
IsReadable Tail u = HasInner 1 u
IsReadable Pattern u = HasInner 1 u
IsReadable Symbol u = Unit {0}
