-- The slices of a text's tokens have the forms of their kinds, and what becomes a text is UTF-8.
use Rattle.std.proofs.Common.{◌≡◌, ℕ, suc, ◌+◌, ◌-◌, ◌<◌, Bool, true, false, List, [], ◌∷◌, ◌++◌, length, take, drop, refl, sym, ap, subst, ◌∙◌, pos, arith}
use Rattle.std.specs.List.{list_all, All}
use Rattle.std.specs.Str.{IsUtf8, IsAscii}
use Rattle.std.proofs.lemmas.Bool.{and_parts}
use Rattle.std.proofs.lemmas.Bool.Decides.{nat_tests}
use Rattle.std.proofs.lemmas.List.{append_assoc, take_at, drop_at, length-append, take-append-drop}
use Rattle.std.proofs.lemmas.List.Elements.{All-nil, All-cons}
use Rattle.std.proofs.lemmas.Str.{IsUtf8-from_ascii}
use Rattle.std.proofs.lemmas.Str.Ascii.{IsAscii-cons, IsAscii-nil}
use Rattle.fx_scan.specs.declared.token.Token.{Token}
use Rattle.fx_scan.specs.declared.token.TokenKind.{TokenKind}
use Rattle.fx_scan.specs.declared.token.TokenKind.TheVariants.{Name, Word, Int, Span, Time, Plain, Head, Mid, Tail, Pattern, Symbol}
use Rattle.fx_scan.specs.Forms.{Bytes, IsSpan, is_name, is_name_start, is_name_byte, is_letter, is_digit, is_inside, is_plain, Piece, IsText, Closed, IsPattern, Form, slice_of, IsFormed}
use Rattle.fx_scan.specs.Forms.Piece.{closed, opened, escape, dollar, inside}
use Rattle.fx_scan.specs.Forms.Closed.{slash as end_slash, pair, plain}
use Rattle.fx_scan.specs.Tokens.{Reads, IsTokenList, after, token_at}
use Rattle.fx_scan.specs.Tokens.Reads.{nothing, blank, comment, token}
use Rattle.fx_parse.specs.declared.escapes.Quotes.{Quotes}
use Rattle.fx_parse.specs.declared.escapes.Quotes.TheVariants as quotes
use Rattle.fx_parse.specs.Escapes.{is_backslash, escaped, Means, taken}
use Rattle.fx_parse.specs.Escapes.Means.{nothing as means_nothing, escape as means_escape, itself}
use Rattle.fx_parse.specs.declared.item.Lexeme.TheVariants as lexeme
use Rattle.fx_parse.specs.Lexemes.{IsQuoted, closing, opening, slash, Tells}
use Rattle.fx_time.specs.declared.span.Span.{Span as SpanOf}
use Rattle.fx_parse.specs.Slices.{inner_of, HasInner, IsReadable}
use Rattle.fx_parse.proofs.tokens.EscapeLemmas.{ascii_cut, means_taken}

-- ---- every token has its form

head_formed : (before w u z : Bytes) (p : ℕ) (k : TokenKind) → w ≡ u ++ z → p ≡ length before → Form k u → IsFormed (before ++ w) (token_at p k u)
head_formed before w u z p k e at form =
    let slice : take (length u) (drop p (before ++ w)) ≡ u = rw (e, at, drop_at before (u ++ z) (length before) refl) (take_at u z (length u) refl) in
    let P : Bytes → Type 0 = λ x. Form k x in
    record {
      within = let long = ap length e in omega (arith, length-append before w, length-append u z);
      form = subst P (sym slice) form;
    }

-- what is read from w on stands in the text that has something before w
all_formed : (before w v z : Bytes) (ts : List Token) → w ≡ v ++ z → All (IsFormed ((before ++ v) ++ z)) ts → All (IsFormed (before ++ w)) ts
all_formed before w v z ts e h = let P : Bytes → Type 0 = λ x. All (IsFormed x) ts in subst P (append_assoc before v z ∙ ap (λ x. before ++ x) (sym e)) h

reads_formed : {p q : ℕ} {m n : _} {w y : Bytes} {ts : List Token} (before : Bytes) → Reads p m w ts q n y → p ≡ length before → All (IsFormed (before ++ w)) ts
reads_formed {w = w} before nothing at = All-nil (IsFormed (before ++ w))
reads_formed {p = p} {w = w} {ts = ts} before (blank b z e is r) at =
    all_formed before w (b ∷ []) z ts e (reads_formed {p = p + 1} {ts = ts} (before ++ b ∷ []) r (omega (arith, length-append before (b ∷ []))))
reads_formed {p = p} {w = w} {ts = ts} before (comment c z e is r) at =
    all_formed before w c z ts e (reads_formed {p = p + length c} {ts = ts} (before ++ c) r (omega (arith, length-append before c)))
reads_formed {p = p} {w = w} before (token {ts = ts} k u z e is r) at =
    All-cons (IsFormed (before ++ w)) (token_at p k u) ts (head_formed before w u z p k e at is.form.form)
    (all_formed before w u z ts e (reads_formed {p = p + length u} {ts = ts} (before ++ u) r (omega (arith, length-append before u))))

pub tokens_formed : (text : Bytes) (ts : List Token) → IsTokenList text ts → All (IsFormed text) ts
tokens_formed text ts h = reads_formed [] h.reads refl

-- ---- the ends of texts and patterns

pub end_of : Bool → Bytes
end_of true = opening
end_of false = closing

abbrev IsBetween : Quotes → Bytes → Bytes → Type 0
IsBetween q end u = (inner : Bytes) × (v : Bytes) × (u ≡ inner ++ end) × Means q inner v

-- a byte before what stands between
before_between : (q : Quotes) (end u : Bytes) (b : ℕ) → is_backslash b ≡ false → IsBetween q end u → IsBetween q end (b ∷ u)
before_between q end u b away h = (b ∷ h.0, b ∷ h.1, ap (λ x. b ∷ x) h.2, itself b h.0 h.1 away h.3)

inside_is : (b : ℕ) → is_inside b ≡ true → is_backslash b ≡ false
unfolding is_inside is_backslash
inside_is b h = grind (arith, nat_tests)

plain_is : (b : ℕ) → is_plain b ≡ true → is_backslash b ≡ false
unfolding is_plain is_backslash
plain_is b h = grind (arith, nat_tests)

piece_between : {opens : Bool} {u : Bytes} → Piece opens u → IsBetween quotes.Text (end_of opens) u
unfolding end_of is_backslash
piece_between closed = ([], [], refl, means_nothing)
piece_between opened = ([], [], refl, means_nothing)
piece_between {opens = o} (escape b u is h) =
    let rest = piece_between {opens = o} h in
    (92 ∷ (b ∷ rest.0), escaped quotes.Text b ++ rest.1, ap (λ x. 92 ∷ (b ∷ x)) rest.2, means_escape b rest.0 rest.1 rest.3)
piece_between {opens = o} (dollar u is h) = before_between quotes.Text (end_of o) u 36 refl (piece_between {opens = o} h)
piece_between {opens = o} (inside b u is h) = before_between quotes.Text (end_of o) u b (inside_is b is) (piece_between {opens = o} h)

closed_between : {u : Bytes} → Closed u → IsBetween quotes.Pattern slash u
closed_between end_slash = ([], [], refl, means_nothing)
closed_between (pair b u is h) =
    let rest = closed_between h in
    (92 ∷ (b ∷ rest.0), escaped quotes.Pattern b ++ rest.1, ap (λ x. 92 ∷ (b ∷ x)) rest.2, means_escape b rest.0 rest.1 rest.3)
closed_between (plain b u is h) = before_between quotes.Pattern slash u b (plain_is b is) (closed_between h)

-- ---- what stands between the ends

inner_is : (f e : ℕ) (inner more u : Bytes) → u ≡ f ∷ (inner ++ e ∷ more) → inner_of (suc (length more)) u ≡ inner
inner_is f e inner more u is =
    let long : length (f ∷ (inner ++ e ∷ more)) - suc (length more) - 1 ≡ length inner = omega (arith, length-append inner (e ∷ more)) in
    rw (is, long) (take_at inner (e ∷ more) (length inner) refl)

has_inner : (before after inner more u : Bytes) (f e : ℕ) → f < 128 → e < 128 → u ≡ f ∷ (inner ++ e ∷ more) → IsUtf8 (before ++ (u ++ after)) → HasInner (suc (length more)) u
has_inner before after inner more u f e low small is whole =
    let P : Bytes → Type 0 = λ x. IsUtf8 x in
    let rest = (ascii_cut before f ((inner ++ e ∷ more) ++ after) low (subst P (ap (λ x. before ++ (x ++ after)) is) whole)).1 in
    let middle = (ascii_cut inner e (more ++ after) small (subst P (append_assoc inner (e ∷ more) after) rest)).0 in
    (let long = ap length is in omega (arith, length-append inner (e ∷ more)), subst P (sym (inner_is f e inner more u is)) middle)

quoted_by : (q : Quotes) (f e : ℕ) (more rest u : Bytes) → u ≡ f ∷ rest → IsBetween q (e ∷ more) rest
    → IsQuoted q f (e ∷ more) u (taken q false (inner_of (suc (length more)) u))
quoted_by q f e more rest u is h =
    let text : u ≡ f ∷ (h.0 ++ e ∷ more) = is ∙ ap (λ x. f ∷ x) h.2 in
    let said : taken q false (inner_of (suc (length more)) u) ≡ h.1 = ap (taken q false) (inner_is f e h.0 more u text) ∙ sym (means_taken q h.0 h.1 h.3) in
    record { inner = h.0; text = text; means = let P : Bytes → Type 0 = λ x. Means q h.0 x in subst P (sym said) h.3 }

-- ---- names

name_byte_low : (b : ℕ) → is_name_byte b ≡ true → b < 128
unfolding is_name_byte is_letter is_digit
name_byte_low b h = grind (arith, nat_tests)

name_start_low : (b : ℕ) → is_name_start b ≡ true → b < 128
unfolding is_name_start is_letter
name_start_low b h = grind (arith, nat_tests)

name_bytes_ascii : (u : Bytes) → list_all is_name_byte u ≡ true → IsAscii u
name_bytes_ascii [] h = IsAscii-nil
name_bytes_ascii (b ∷ u) h = let both = and_parts _ _ h in IsAscii-cons b u (name_byte_low b both.0) (name_bytes_ascii u both.1)

name_utf8 : (u : Bytes) → is_name u ≡ true → IsUtf8 u
name_utf8 [] h = cc
name_utf8 (b ∷ u) h = let both = and_parts _ _ h in IsUtf8-from_ascii (b ∷ u) (IsAscii-cons b u (name_start_low b both.0) (name_bytes_ascii u both.1))

-- ---- the texts' kinds

text_inner : (opens : Bool) (before after u : Bytes) (f : ℕ) → f < 128 → IsText f opens u → IsUtf8 (before ++ (u ++ after)) → HasInner (length (end_of opens)) u
unfolding end_of
text_inner true before after u f low h whole = let b = piece_between h.piece in has_inner before after b.0 (123 ∷ []) u f 36 low (omega arith) (h.text ∙ ap (λ x. f ∷ x) b.2) whole
text_inner false before after u f low h whole = let b = piece_between h.piece in has_inner before after b.0 [] u f 34 low (omega arith) (h.text ∙ ap (λ x. f ∷ x) b.2) whole

pub closing_quoted : (f : ℕ) (u : Bytes) → IsText f false u → IsQuoted quotes.Text f closing u (taken quotes.Text false (inner_of 1 u))
unfolding end_of
closing_quoted f u h = quoted_by quotes.Text f 34 [] h.rest u h.text (piece_between h.piece)

pub opening_quoted : (f : ℕ) (u : Bytes) → IsText f true u → IsQuoted quotes.Text f opening u (taken quotes.Text false (inner_of 2 u))
unfolding end_of
opening_quoted f u h = quoted_by quotes.Text f 36 (123 ∷ []) h.rest u h.text (piece_between h.piece)

pub pattern_quoted : (u : Bytes) → IsPattern u → IsQuoted quotes.Pattern 47 slash u (taken quotes.Pattern false (inner_of 1 u))
pattern_quoted u h = quoted_by quotes.Pattern 47 47 [] h.rest u h.text (closed_between h.closed)

readable_in : (k : TokenKind) (before u after : Bytes) → Form k u → IsUtf8 (before ++ (u ++ after)) → IsReadable k u
unfolding end_of
readable_in Name before u after h whole = name_utf8 u h.0
readable_in Word before u after h whole = tt
readable_in Int before u after h whole = tt
readable_in Span before u after h whole = tt
readable_in Time before u after h whole = tt
readable_in Plain before u after h whole = text_inner false before after u 34 (omega arith) h whole
readable_in Head before u after h whole = text_inner true before after u 34 (omega arith) h whole
readable_in Mid before u after h whole = text_inner true before after u 125 (omega arith) h whole
readable_in Tail before u after h whole = text_inner false before after u 125 (omega arith) h whole
readable_in Pattern before u after h whole = let b = closed_between h.closed in has_inner before after b.0 [] u 47 47 (omega arith) (omega arith) (h.text ∙ ap (λ x. 47 ∷ x) b.2) whole
readable_in Symbol before u after h whole = tt

pub slice_readable : (text : Bytes) (t : Token) → IsUtf8 text → IsFormed text t → IsReadable t.kind (slice_of text t)
slice_readable text t whole h =
    let rest : Bytes = drop t.place.at text in
    let P : Bytes → Type 0 = λ x. IsUtf8 x in
    let split : take t.place.at text ++ (take t.len rest ++ drop t.len rest) ≡ text = ap (λ x. take t.place.at text ++ x) (take-append-drop t.len rest) ∙ take-append-drop t.place.at text in
    readable_in t.kind (take t.place.at text) (slice_of text t) (drop t.len rest) h.form (subst P (sym split) whole)

-- ---- a token's item

pub plain_tells : (k : TokenKind) (u v : Bytes) → k ≡ Plain → Form k u → v ≡ taken quotes.Text false (inner_of 1 u) → Tells k u (lexeme.Plain v)
plain_tells k u v e h is = let P : TokenKind → Type 0 = λ x. Form x u in rw (e, is) (taken quotes.Text false (inner_of 1 u), closing_quoted 34 u (subst P e h), refl)

pub head_tells : (k : TokenKind) (u v : Bytes) → k ≡ Head → Form k u → v ≡ taken quotes.Text false (inner_of 2 u) → Tells k u (lexeme.Head v)
head_tells k u v e h is = let P : TokenKind → Type 0 = λ x. Form x u in rw (e, is) (taken quotes.Text false (inner_of 2 u), opening_quoted 34 u (subst P e h), refl)

pub mid_tells : (k : TokenKind) (u v : Bytes) → k ≡ Mid → Form k u → v ≡ taken quotes.Text false (inner_of 2 u) → Tells k u (lexeme.Mid v)
mid_tells k u v e h is = let P : TokenKind → Type 0 = λ x. Form x u in rw (e, is) (taken quotes.Text false (inner_of 2 u), opening_quoted 125 u (subst P e h), refl)

pub tail_tells : (k : TokenKind) (u v : Bytes) → k ≡ Tail → Form k u → v ≡ taken quotes.Text false (inner_of 1 u) → Tells k u (lexeme.Tail v)
tail_tells k u v e h is = let P : TokenKind → Type 0 = λ x. Form x u in rw (e, is) (taken quotes.Text false (inner_of 1 u), closing_quoted 125 u (subst P e h), refl)

pub pattern_tells : (k : TokenKind) (u v : Bytes) → k ≡ Pattern → Form k u → v ≡ taken quotes.Pattern false (inner_of 1 u) → Tells k u (lexeme.Pattern v)
pattern_tells k u v e h is = let P : TokenKind → Type 0 = λ x. Form x u in rw (e, is) (taken quotes.Pattern false (inner_of 1 u), pattern_quoted u (subst P e h), refl)

pub span_tells : (k : TokenKind) (u : Bytes) (s : SpanOf) → k ≡ Span → Form k u → ((months nanos : ℕ) → IsSpan u months nanos → s ≡ record { months = pos months; nanos = pos nanos })
    → Tells k u (lexeme.Span s)
span_tells k u s e h is =
    let P : TokenKind → Type 0 = λ x. Form x u in
    let spans = subst P e h in
    rw e (spans.0, spans.1, spans.2, ap (λ x. lexeme.Span x) (is spans.0 spans.1 spans.2))
